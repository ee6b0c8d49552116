-- What holds in every state that is reached: holders are open, and who spins on a lock that is there does not hold it.
use Rattle.std.proofs.Common.{◌≡◌, ◌≢◌, ℕ, ◌<◌, ◌≤◌, Bool, true, false, ◌&&◌, not, eqb, length, get_or, set, Option, None, Some, IsSome, is_some, Ok, refl, sym, ap, subst, ◌∙◌, arith, ⊎_elim, eqb-true, ne_eqb, cond, replicate, length-set}
use Rattle.std.specs.Option.{option_map}
use Rattle.std.specs.FinMap as table
use Rattle.std.specs.Prelude.{nat_le}
use Rattle.std.specs.Ordering.{nat_cmp}
use Rattle.std.proofs.lemmas.Bool.{eqb-false, false≢true, not-true, cases_lt}
use Rattle.std.proofs.lemmas.List.{get_or-replicate, get_or_past, length-replicate}
use Rattle.std.proofs.lemmas.List.Folds.{list_any_at}
use Rattle.nd_base.specs.declared.numbers.Addr.{Addr}
use Rattle.nd_base.specs.declared.numbers.CtxNo.{CtxNo}
use Rattle.irql_lock.specs.declared.states.Context.{Context}
use Rattle.irql_lock.specs.declared.states.Holding.{Holding}
use Rattle.irql_lock.specs.LockState.{LockState, contexts, context_of, IsOpen, level_of, is_at, spins_in, spins_on, lock_at, holder_of, is_spun, is_busy, is_held_by, let_go, let_go_all, holds_any}
use Rattle.irql_lock.specs.LockMoves.{LockMove, Begin, Leave, End, Raise, Lower, Acquire, Release, Make, Free, moved, CanMove, with_context, opened, closed, ended, acquired, released, got, spinning, put_back, raised_for_lock, has_come_back, leave_rule, lock_rule, level_rule, at_level}
use Rattle.irql_lock.specs.Laws.{Reached, Start, Then}
use Rattle.irql_lock.proofs.Looked.{same_context, same_address, same_some, same_ok, allowed, value_of, right_false, both_true, within, set_has, set_has_in, insert_has, remove_has, get-let_go_all, still_held, still_apart, held_apart}

-- the lock is there, and the context does not hold it
abbrev Apart : Option (Option Holding) → CtxNo → Type 0
Apart found c = (held : Option Holding) × (found ≡ Some held) × (is_held_by c held ≡ false)

pub record IsSound (s : LockState) : Type 0 where
  pub room : length s.contexts ≡ contexts
  pub holders : (lock : Addr) (h : Holding) → lock_at s lock ≡ Some (Some h) → IsOpen s h.context
  pub spinners : (c : CtxNo) (lock : Addr) → spins_on s c lock ≡ true → Apart (lock_at s lock) c

-- ---- one change keeps it

sound_set : (s : LockState) (c : CtxNo) (x : Context) → IsSound s → ((lock : Addr) → is_at lock x.spins ≡ true → Apart (lock_at s lock) c) → IsSound (record s { contexts = set s.contexts c.0 (Some x) })
sound_set s c x sound apart = record {
  room = length-set s.contexts c.0 (Some x) ∙ sound.room;
  holders = λ lock h e. set_has IsSome s.contexts c.0 h.context.0 (Some x) (λ _. refl) (sound.holders lock h e);
  spinners = λ d lock e.
      set_has (λ o. spins_in lock o ≡ true → Apart (lock_at s lock) d) s.contexts c.0 d.0 (Some x)
      (λ same e'. subst (Apart (lock_at s lock)) (same_context c d (sym same)) (apart lock e'))
      (sound.spinners d lock) e;
}

sound_close : (s : LockState) (c : CtxNo) → IsSound s → ((lock : Addr) (h : Holding) → lock_at s lock ≡ Some (Some h) → h.context.0 ≢ c.0) → IsSound (closed s c)
sound_close s c sound none = record {
  room = length-set s.contexts c.0 None ∙ sound.room;
  holders = λ lock h e. set_has IsSome s.contexts c.0 h.context.0 None (λ same. absurd (none lock h e same)) (sound.holders lock h e);
  spinners = λ d lock e.
      set_has (λ o. spins_in lock o ≡ true → Apart (lock_at s lock) d) s.contexts c.0 d.0 None
      (λ same e'. absurd (false≢true e'))
      (sound.spinners d lock) e;
}

sound_lock : (s : LockState) (lock : Addr) (held : Option Holding) → IsSound s → ((h : Holding) → held ≡ Some h → IsOpen s h.context) → ((c : CtxNo) → spins_on s c lock ≡ true → is_held_by c held ≡ false) → IsSound (record s { locks = table.insert s.locks lock.0 held })
sound_lock s lock held sound open_holder apart = record {
  room = sound.room;
  holders = λ other h e.
      insert_has (λ found. found ≡ Some (Some h) → IsOpen s h.context) s.locks lock.0 other.0 held
      (λ _ e'. open_holder h (same_some held (Some h) e'))
      (sound.holders other h) e;
  spinners = λ c other e.
      insert_has (λ found. Apart found c) s.locks lock.0 other.0 held
      (λ same. (held, refl, apart c (subst (λ (a : Addr). spins_on s c a ≡ true) (same_address other lock same) e)))
      (sound.spinners c other e);
}

sound_remove : (s : LockState) (lock : Addr) → IsSound s → ((c : CtxNo) → spins_on s c lock ≢ true) → IsSound (record s { locks = table.remove s.locks lock.0 })
sound_remove s lock sound unspun = record {
  room = sound.room;
  holders = λ other h e.
      remove_has (λ found. found ≡ Some (Some h) → IsOpen s h.context) s.locks lock.0 other.0
      (λ _ e'. cc)
      (sound.holders other h) e;
  spinners = λ c other e.
      remove_has (λ found. Apart found c) s.locks lock.0 other.0
      (λ same. absurd (unspun c (subst (λ (a : Addr). spins_on s c a ≡ true) (same_address other lock same) e)))
      (sound.spinners c other e);
}

let_go_apart : (c d : CtxNo) (found : Option (Option Holding)) → Apart found d → Apart (option_map (let_go c) found) d
let_go_apart c d found w = (let_go c w.0, ap (option_map (let_go c)) w.1, still_apart c d w.0 w.2)

sound_let_go : (s : LockState) (c : CtxNo) → IsSound s → IsSound (record s { locks = let_go_all s.locks c })
sound_let_go s c sound = record {
  room = sound.room;
  holders = λ lock h e. sound.holders lock h (still_held c (lock_at s lock) h (sym (get-let_go_all s.locks c lock.0) ∙ e)).0;
  spinners = λ d lock e. subst (λ found. Apart found d) (sym (get-let_go_all s.locks c lock.0)) (let_go_apart c d (lock_at s lock) (sound.spinners d lock e));
}

sound_end : (s : LockState) (c : CtxNo) → IsSound s → IsSound (record s { contexts = set s.contexts c.0 None; locks = let_go_all s.locks c })
sound_end s c sound =
    sound_close (record s { locks = let_go_all s.locks c }) c (sound_let_go s c sound)
    (λ lock h e. eqb-false h.context.0 c.0 (still_held c (lock_at s lock) h (sym (get-let_go_all s.locks c lock.0) ∙ e)).1)

-- ---- each move keeps it

sound_with : (s : LockState) (c : CtxNo) (change : Context → Context) → IsSound s → IsOpen s c → ((x : Context) → context_of s c ≡ Some x → (lock : Addr) → is_at lock (change x).spins ≡ true → Apart (lock_at s lock) c) → IsSound (with_context s c change)
sound_with s c change sound is_open apart =
    let w = value_of (context_of s c) is_open in
    subst (λ (o : Option Context). IsSound (record s { contexts = set s.contexts c.0 (option_map change o) })) (sym w.1) (sound_set s c (change w.0) sound (apart w.0 w.1))

spins_still : (s : LockState) (c : CtxNo) → IsSound s → (x : Context) → context_of s c ≡ Some x → (lock : Addr) → is_at lock x.spins ≡ true → Apart (lock_at s lock) c
spins_still s c sound x is lock e = sound.spinners c lock (subst (λ o. spins_in lock o ≡ true) (sym is) e)

-- who gets a lock is open still, and spins no more
sound_got : (s : LockState) (c : CtxNo) (lock : Addr) (dpr : Bool) → IsSound s → IsOpen s c → IsSound (got s c lock dpr)
sound_got s c lock dpr sound is_open =
    let w = value_of (context_of s c) is_open in
    let change : Context → Context = λ x. record x { level = raised_for_lock dpr x.level; spins = None } in
    let s' : LockState = with_context s c change in
    let here : option_map change (context_of s c) ≡ Some (change w.0) = ap (option_map change) w.1 in
    sound_lock s' lock (Some (record { context = c; before = level_of s c })) (sound_with s c change sound is_open (λ x is other e. absurd (false≢true e)))
    (λ h e.
    subst (IsOpen s') (ap (λ (k : Holding). k.context) (same_some (record { context = c; before = level_of s c }) h e))
    (set_has IsSome s.contexts c.0 c.0 (option_map change (context_of s c)) (λ _. ap is_some here) is_open))
    (λ d e.
    set_has_in (λ o. spins_in lock o ≡ true → eqb c.0 d.0 ≡ false) s.contexts c.0 d.0 (option_map change (context_of s c)) (within s.contexts c.0 is_open)
    (λ same e'. absurd (false≢true (subst (λ o. spins_in lock o ≡ true) here e')))
    (λ ne e'. ne_eqb c.0 d.0 (λ same. ne (sym same))) e)

not_busy : (s : LockState) (c : CtxNo) (lock : Addr) → is_busy s lock ≡ false → spins_on s c lock ≢ true
not_busy s c lock free spins =
    let unspun = right_false (is_some (holder_of s lock)) (is_spun s lock) free in
    let lt = within s.contexts c.0 (spins_open (context_of s c) lock spins) in
    false≢true (sym unspun ∙ list_any_at (spins_in lock) s.contexts c.0 None lt spins)
  where
    spins_open : (o : Option Context) (a : Addr) → spins_in a o ≡ true → IsSome o
    spins_open None a e = absurd (false≢true e)
    spins_open (Some x) a e = refl

acquire_step : (s s' : LockState) (c : CtxNo) (lock : Addr) (dpr : Bool) → IsSound s → IsOpen s c → (found : Option (Option Holding)) → lock_at s lock ≡ found → acquired s c lock dpr found ≡ Ok s' → IsSound s'
acquire_step s s' c lock dpr sound can None is e = cc
acquire_step s s' c lock dpr sound can (Some None) is e = subst IsSound (same_ok (got s c lock dpr) s' e) (sound_got s c lock dpr sound can)
acquire_step s s' c lock dpr sound can (Some (Some h)) is e =
    let w = allowed (not (eqb h.context.0 c.0)) lock_rule (spinning s c lock) s' e in
    let apart : Apart (lock_at s lock) c = (Some h, is, not-true _ w.0) in
    subst IsSound w.1
    (sound_with s c (λ x. record x { spins = Some lock }) sound can
    (λ x _ other at. subst (λ (a : Addr). Apart (lock_at s a) c) (same_address lock other (eqb-true lock.0 other.0 at)) apart))

release_step : (s s' : LockState) (c : CtxNo) (lock : Addr) (dpr : Bool) → IsSound s → IsOpen s c → (found : Option (Option Holding)) → released s c lock dpr found ≡ Ok s' → IsSound s'
release_step s s' c lock dpr sound can None e = cc
release_step s s' c lock dpr sound can (Some None) e = cc
release_step s s' c lock dpr sound can (Some (Some h)) e =
    let change : Context → Context = λ x. record x { level = cond dpr x.level h.before } in
    subst IsSound (allowed (eqb h.context.0 c.0) lock_rule (put_back s c lock dpr h.before) s' e).1
    (sound_lock (with_context s c change) lock None (sound_with s c change sound can (spins_still s c sound)) (λ h e'. cc) (λ d e'. refl))

end_step : (s s' : LockState) (c : CtxNo) → IsSound s → (o : Option Context) → ended s c o ≡ s' → IsSound s'
end_step s s' c sound None e = subst IsSound e sound
end_step s s' c sound (Some x) e = subst IsSound e (sound_end s c sound)

sound_step : (s s' : LockState) (m : LockMove) → IsSound s → CanMove s m → moved s m ≡ Ok s' → IsSound s'
sound_step s s' (Begin c level) sound can e =
    subst IsSound (same_ok (opened s c level) s' e) (sound_set s c (record { began = level; level = level; spins = None }) sound (λ lock h. absurd (false≢true h)))
sound_step s s' (Leave c) sound can e =
    let w = allowed (has_come_back (context_of s c) && not (holds_any s.locks c)) leave_rule (closed s c) s' e in
    let none = not-true _ (both_true (has_come_back (context_of s c)) (not (holds_any s.locks c)) w.0).1 in
    subst IsSound w.1 (sound_close s c sound (λ lock h found. eqb-false h.context.0 c.0 (held_apart s.locks c lock.0 (Some h) found none)))
sound_step s s' (End c) sound can e = end_step s s' c sound (context_of s c) (same_ok (ended s c (context_of s c)) s' e)
sound_step s s' (Raise c to) sound can e =
    subst IsSound (allowed (nat_le (level_of s c) to) level_rule (at_level s c to) s' e).1 (sound_with s c (λ x. record x { level = to }) sound can (spins_still s c sound))
sound_step s s' (Lower c to) sound can e =
    subst IsSound (allowed (nat_le to (level_of s c)) level_rule (at_level s c to) s' e).1 (sound_with s c (λ x. record x { level = to }) sound can (spins_still s c sound))
sound_step s s' (Acquire c lock dpr) sound can e = acquire_step s s' c lock dpr sound can (lock_at s lock) refl e
sound_step s s' (Release c lock dpr) sound can e = release_step s s' c lock dpr sound can (lock_at s lock) e
sound_step s s' (Make lock) sound can e =
    subst IsSound (allowed (not (is_busy s lock)) lock_rule (record s { locks = table.insert s.locks lock.0 None }) s' e).1 (sound_lock s lock None sound (λ h e'. cc) (λ c e'. refl))
sound_step s s' (Free lock) sound can e =
    let w = allowed (is_some (lock_at s lock) && not (is_busy s lock)) lock_rule (record s { locks = table.remove s.locks lock.0 }) s' e in
    let unused = not-true _ (both_true (is_some (lock_at s lock)) (not (is_busy s lock)) w.0).1 in
    subst IsSound w.1 (sound_remove s lock sound (λ c. not_busy s c lock unused))

abbrev no_context : Option Context
no_context = None

no_contexts : (n c : ℕ) → get_or (replicate n no_context) c None ≡ None
no_contexts n c =
    ⊎_elim (λ (lt : c < n). get_or-replicate n c None None lt) (λ (ge : n ≤ c). get_or_past (replicate n no_context) c None (omega (arith, length-replicate n no_context))) (cases_lt c n)

pub sound : (s : LockState) → Reached s → IsSound s
sound s Start = record {
  room = refl;
  holders = λ lock h e. cc (table.get-empty {X = Option Holding} nat_cmp lock.0);
  spinners = λ c lock e. absurd (false≢true (subst (λ o. spins_in lock o ≡ true) (no_contexts 16 c.0) e));
}
sound s (Then before s' m reached can is) = sound_step before s m (sound before reached) can is
