-- What moves leave as it was: holdings, levels, other contexts.
use Rattle.std.proofs.Common.{◌≡◌, ◌≢◌, ℕ, Bool, true, false, ◌&&◌, not, cond, eqb, get_or, set, Option, None, Some, is_some, Ok, refl, sym, ap, subst, ◌∙◌, eqb-true, eq-eqb, ne_eqb}
use Rattle.std.specs.Prelude.{nat_le}
use Rattle.std.specs.Option.{option_map}
use Rattle.std.specs.FinMap as table
use Rattle.std.proofs.lemmas.Bool.{eqb-false, false≢true, not-true}
use Rattle.nd_base.specs.declared.numbers.Addr.{Addr}
use Rattle.nd_base.specs.declared.numbers.CtxNo.{CtxNo}
use Rattle.irql_lock.specs.declared.states.Context.{Context}
use Rattle.irql_lock.specs.declared.states.Holding.{Holding}
use Rattle.irql_lock.specs.LockState.{LockState, context_of, IsOpen, level_in, level_of, lock_at, holder_in, holder_of, is_spun, is_busy, let_go, holds_any}
use Rattle.irql_lock.specs.LockMoves.{LockMove, Begin, Leave, End, Raise, Lower, Acquire, Release, Make, Free, moved, with_context, opened, closed, ended, at_level, acquired, released, got, spinning, put_back, raised_for_lock, has_come_back, leave_rule, lock_rule, level_rule}
use Rattle.irql_lock.specs.Laws.{Holds, mover, leaves_lock}
use Rattle.irql_lock.proofs.Looked.{same_context, same_address, same_some, same_ok, allowed, value_of, left_false, both_true, within, set_has_in, set_there, insert_has, insert_here, remove_has, get-let_go_all, still_held, kept_by_others, holding_of}

-- ---- the state that a move led to

leave_is : (s s' : LockState) (c : CtxNo) → moved s (Leave c) ≡ Ok s' → closed s c ≡ s'
leave_is s s' c e = (allowed (has_come_back (context_of s c) && not (holds_any s.locks c)) leave_rule (closed s c) s' e).1

raise_is : (s s' : LockState) (c : CtxNo) (to : ℕ) → moved s (Raise c to) ≡ Ok s' → at_level s c to ≡ s'
raise_is s s' c to e = (allowed (nat_le (level_of s c) to) level_rule (at_level s c to) s' e).1

lower_is : (s s' : LockState) (c : CtxNo) (to : ℕ) → moved s (Lower c to) ≡ Ok s' → at_level s c to ≡ s'
lower_is s s' c to e = (allowed (nat_le to (level_of s c)) level_rule (at_level s c to) s' e).1

make_is : (s s' : LockState) (lock : Addr) → moved s (Make lock) ≡ Ok s' → (is_busy s lock ≡ false) × (record s { locks = table.insert s.locks lock.0 None } ≡ s')
make_is s s' lock e =
    let w = allowed (not (is_busy s lock)) lock_rule (record s { locks = table.insert s.locks lock.0 None }) s' e in
    (not-true _ w.0, w.1)

free_is : (s s' : LockState) (lock : Addr) → moved s (Free lock) ≡ Ok s' → (is_busy s lock ≡ false) × (record s { locks = table.remove s.locks lock.0 } ≡ s')
free_is s s' lock e =
    let w = allowed (is_some (lock_at s lock) && not (is_busy s lock)) lock_rule (record s { locks = table.remove s.locks lock.0 }) s' e in
    (not-true _ (both_true (is_some (lock_at s lock)) (not (is_busy s lock)) w.0).1, w.1)

-- ---- holdings

abbrev Kept : LockState → Addr → Holding → Type 0
Kept s lock h = lock_at s lock ≡ Some (Some h)

held_is_busy : (s : LockState) (lock other : Addr) (h : Holding) → Kept s lock h → lock.0 ≡ other.0 → is_busy s other ≡ false → ⊥
held_is_busy s lock other h is same free =
    let at : Kept s other h = subst (λ (a : Addr). Kept s a h) (same_address lock other same) is in
    false≢true (sym (left_false (is_some (holder_of s other)) (is_spun s other) free) ∙ ap (λ found. is_some (holder_in found)) at)

kept_acquire : (s s' : LockState) (c : CtxNo) (lock other : Addr) (dpr : Bool) (h : Holding) → Kept s lock h → (found : Option (Option Holding)) → lock_at s other ≡ found → acquired s c other dpr found ≡ Ok s' → Kept s' lock h
kept_acquire s s' c lock other dpr h is None at e = cc
kept_acquire s s' c lock other dpr h is (Some None) at e =
    subst (λ (t : LockState). Kept t lock h) (same_ok (got s c other dpr) s' e)
    (insert_has (λ found. found ≡ Some (Some h)) s.locks other.0 lock.0 (Some (record { context = c; before = level_of s c }))
    (λ same. let there : lock_at s lock ≡ Some None = subst (λ (a : Addr). lock_at s a ≡ Some None) (sym (same_address lock other same)) at in cc)
    is)
kept_acquire s s' c lock other dpr h is (Some (Some g)) at e =
    subst (λ (t : LockState). Kept t lock h) (allowed (not (eqb g.context.0 c.0)) lock_rule (spinning s c other) s' e).1 is

kept_release : (s s' : LockState) (c : CtxNo) (lock other : Addr) (dpr : Bool) (h : Holding) → Kept s lock h → leaves_lock (Release c other dpr) h.context lock ≡ true → (found : Option (Option Holding)) → lock_at s other ≡ found → released s c other dpr found ≡ Ok s' → Kept s' lock h
kept_release s s' c lock other dpr h is stays None at e = cc
kept_release s s' c lock other dpr h is stays (Some None) at e = cc
kept_release s s' c lock other dpr h is stays (Some (Some g)) at e =
    let w = allowed (eqb g.context.0 c.0) lock_rule (put_back s c other dpr g.before) s' e in
    subst (λ (t : LockState). Kept t lock h) w.1
    (insert_has (λ found. found ≡ Some (Some h)) s.locks other.0 lock.0 None
    (λ same.
    let there : Kept s other h = subst (λ (a : Addr). Kept s a h) (same_address lock other same) is in
    let holder : g.context.0 ≡ h.context.0 = ap (λ (k : Holding). k.context.0) (same_some g h (same_some (Some g) (Some h) (sym at ∙ there))) in
    let mine : eqb c.0 h.context.0 ≡ true = eq-eqb c.0 h.context.0 (sym (eqb-true g.context.0 c.0 w.0) ∙ holder) in
    let here : eqb other.0 lock.0 ≡ true = eq-eqb other.0 lock.0 (sym same) in
    absurd (false≢true (sym (not-true _ stays) ∙ ap (λ b. b && eqb other.0 lock.0) mine ∙ here)))
    is)

kept_end : (s s' : LockState) (c : CtxNo) (lock : Addr) (h : Holding) → Kept s lock h → eqb h.context.0 c.0 ≡ false → (o : Option Context) → ended s c o ≡ s' → Kept s' lock h
kept_end s s' c lock h is other None e = subst (λ (t : LockState). Kept t lock h) e is
kept_end s s' c lock h is other (Some x) e =
    subst (λ (t : LockState). Kept t lock h) e (get-let_go_all s.locks c lock.0 ∙ ap (option_map (let_go c)) is ∙ ap Some (kept_by_others c h other))

pub kept : (s s' : LockState) (m : LockMove) (lock : Addr) (h : Holding) → moved s m ≡ Ok s' → Kept s lock h → leaves_lock m h.context lock ≡ true → Kept s' lock h
kept s s' (Begin c level) lock h e is stays = subst (λ (t : LockState). Kept t lock h) (same_ok (opened s c level) s' e) is
kept s s' (Leave c) lock h e is stays = subst (λ (t : LockState). Kept t lock h) (leave_is s s' c e) is
kept s s' (End c) lock h e is stays =
    kept_end s s' c lock h is (ne_eqb h.context.0 c.0 (λ same. eqb-false c.0 h.context.0 (not-true _ stays) (sym same))) (context_of s c) (same_ok (ended s c (context_of s c)) s' e)
kept s s' (Raise c to) lock h e is stays = subst (λ (t : LockState). Kept t lock h) (raise_is s s' c to e) is
kept s s' (Lower c to) lock h e is stays = subst (λ (t : LockState). Kept t lock h) (lower_is s s' c to e) is
kept s s' (Acquire c other dpr) lock h e is stays = kept_acquire s s' c lock other dpr h is (lock_at s other) refl e
kept s s' (Release c other dpr) lock h e is stays = kept_release s s' c lock other dpr h is stays (lock_at s other) refl e
kept s s' (Make other) lock h e is stays =
    let w = make_is s s' other e in
    subst (λ (t : LockState). Kept t lock h) w.1 (insert_has (λ found. found ≡ Some (Some h)) s.locks other.0 lock.0 None (λ same. absurd (held_is_busy s lock other h is same w.0)) is)
kept s s' (Free other) lock h e is stays =
    let w = free_is s s' other e in
    subst (λ (t : LockState). Kept t lock h) w.1 (remove_has (λ found. found ≡ Some (Some h)) s.locks other.0 lock.0 (λ same. absurd (held_is_busy s lock other h is same w.0)) is)

-- ---- the end of a context

pub end_lets_go : (s s' : LockState) (c : CtxNo) (lock : Addr) → IsOpen s c → moved s (End c) ≡ Ok s' → Holds s' c lock → ⊥
end_lets_go s s' c lock is_open e holds =
    let w = value_of (context_of s c) is_open in
    let is : ended s c (Some w.0) ≡ s' = ap (ended s c) (sym w.1) ∙ same_ok (ended s c (context_of s c)) s' e in
    let h = holding_of (lock_at s' lock) c holds in
    let still = still_held c (lock_at s lock) h.0 (sym (get-let_go_all s.locks c lock.0) ∙ ap (λ (t : LockState). lock_at t lock) is ∙ h.1) in
    eqb-false h.0.context.0 c.0 still.1 (ap (λ (x : CtxNo). x.0) h.2)

pub end_others : (s s' : LockState) (c d : CtxNo) (lock : Addr) → moved s (End c) ≡ Ok s' → d.0 ≢ c.0 → Holds s d lock → Holds s' d lock
end_others s s' c d lock e apart holds =
    let h = holding_of (lock_at s lock) d holds in
    let other = ne_eqb h.0.context.0 c.0 (λ same. apart (sym (ap (λ (x : CtxNo). x.0) h.2) ∙ same)) in
    ap holder_in (kept_end s s' c lock h.0 h.1 other (context_of s c) (same_ok (ended s c (context_of s c)) s' e)) ∙ ap Some h.2

same_there : (c : CtxNo) (found : Option (Option Holding)) → is_some (option_map (let_go c) found) ≡ is_some found
same_there c None = refl
same_there c (Some held) = refl

end_locks_at : (s s' : LockState) (c : CtxNo) (lock : Addr) (o : Option Context) → ended s c o ≡ s' → is_some (lock_at s' lock) ≡ is_some (lock_at s lock)
end_locks_at s s' c lock None e = subst (λ (t : LockState). is_some (lock_at t lock) ≡ is_some (lock_at s lock)) e refl
end_locks_at s s' c lock (Some x) e =
    subst (λ (t : LockState). is_some (lock_at t lock) ≡ is_some (lock_at s lock)) e (ap is_some (get-let_go_all s.locks c lock.0) ∙ same_there c (lock_at s lock))

pub end_locks : (s s' : LockState) (c : CtxNo) (lock : Addr) → moved s (End c) ≡ Ok s' → is_some (lock_at s' lock) ≡ is_some (lock_at s lock)
end_locks s s' c lock e = end_locks_at s s' c lock (context_of s c) (same_ok (ended s c (context_of s c)) s' e)

end_closed_at : (s s' : LockState) (c : CtxNo) (o : Option Context) → context_of s c ≡ o → ended s c o ≡ s' → context_of s' c ≡ None
end_closed_at s s' c None is e = subst (λ (t : LockState). context_of t c ≡ None) e is
end_closed_at s s' c (Some x) is e =
    subst (λ (t : LockState). context_of t c ≡ None) e
    (set_has_in (λ o. o ≡ None) s.contexts c.0 c.0 None (within s.contexts c.0 (ap is_some is)) (λ _. refl) (λ ne. absurd (ne refl)))

pub end_closed : (s s' : LockState) (c : CtxNo) → moved s (End c) ≡ Ok s' → context_of s' c ≡ None
end_closed s s' c e = end_closed_at s s' c (context_of s c) refl (same_ok (ended s c (context_of s c)) s' e)

-- ---- levels

-- the level of a context that is changed
changed_level : (s : LockState) (c : CtxNo) (change : Context → Context) (level : ℕ → ℕ) → ((x : Context) → (change x).level ≡ level x.level) → IsOpen s c → level_of (with_context s c change) c ≡ level (level_of s c)
changed_level s c change level is is_open =
    let w = value_of (context_of s c) is_open in
    set_has_in (λ o. level_in o ≡ level (level_of s c)) s.contexts c.0 c.0 (option_map change (context_of s c)) (within s.contexts c.0 is_open)
    (λ _. subst (λ o. level_in (option_map change o) ≡ level (level_in o)) (sym w.1) (is w.0))
    (λ ne. absurd (ne refl))

got_level : (s : LockState) (c : CtxNo) (lock : Addr) (dpr : Bool) → IsOpen s c → level_of (got s c lock dpr) c ≡ raised_for_lock dpr (level_of s c)
got_level s c lock dpr is_open = changed_level s c (λ x. record x { level = raised_for_lock dpr x.level; spins = None }) (raised_for_lock dpr) (λ x. refl) is_open

put_level : (s : LockState) (c : CtxNo) (lock : Addr) (dpr : Bool) (before : ℕ) → IsOpen s c → level_of (put_back s c lock dpr before) c ≡ cond dpr (level_of s c) before
put_level s c lock dpr before is_open = changed_level s c (λ x. record x { level = cond dpr x.level before }) (λ level. cond dpr level before) (λ x. refl) is_open

-- a lock that no one holds is got
got_at : (s s' : LockState) (c : CtxNo) (lock : Addr) (dpr : Bool) → (found : Option (Option Holding)) → holder_in found ≡ None → acquired s c lock dpr found ≡ Ok s' → got s c lock dpr ≡ s'
got_at s s' c lock dpr None free e = cc
got_at s s' c lock dpr (Some None) free e = same_ok (got s c lock dpr) s' e
got_at s s' c lock dpr (Some (Some h)) free e = cc

pub acquire_level : (s s' : LockState) (c : CtxNo) (lock : Addr) (dpr : Bool) → IsOpen s c → holder_of s lock ≡ None → moved s (Acquire c lock dpr) ≡ Ok s' → level_of s' c ≡ raised_for_lock dpr (level_of s c)
acquire_level s s' c lock dpr is_open free e =
    subst (λ (t : LockState). level_of t c ≡ raised_for_lock dpr (level_of s c)) (got_at s s' c lock dpr (lock_at s lock) free e) (got_level s c lock dpr is_open)

pub release_puts_back : (s s' t t' : LockState) (c : CtxNo) (lock : Addr) (dpr : Bool) → IsOpen s c → holder_of s lock ≡ None → moved s (Acquire c lock dpr) ≡ Ok s' → IsOpen t c → lock_at t lock ≡ lock_at s' lock → moved t (Release c lock false) ≡ Ok t' → level_of t' c ≡ level_of s c
release_puts_back s s' t t' c lock dpr is_open free e open_then same e' =
    let held : Holding = record { context = c; before = level_of s c } in
    let there : Kept t lock held = same ∙ ap (λ (u : LockState). lock_at u lock) (sym (got_at s s' c lock dpr (lock_at s lock) free e)) ∙ insert_here s.locks lock.0 (Some held) in
    let done = subst (λ found. released t c lock false found ≡ Ok t') there e' in
    let is = (allowed (eqb c.0 c.0) lock_rule (put_back t c lock false (level_of s c)) t' done).1 in
    subst (λ (u : LockState). level_of u c ≡ level_of s c) is (put_level t c lock false (level_of s c) open_then)

release_left_at : (s s' : LockState) (c : CtxNo) (lock : Addr) → IsOpen s c → (found : Option (Option Holding)) → released s c lock true found ≡ Ok s' → level_of s' c ≡ level_of s c
release_left_at s s' c lock is_open None e = cc
release_left_at s s' c lock is_open (Some None) e = cc
release_left_at s s' c lock is_open (Some (Some h)) e =
    subst (λ (u : LockState). level_of u c ≡ level_of s c) (allowed (eqb h.context.0 c.0) lock_rule (put_back s c lock true h.before) s' e).1 (put_level s c lock true h.before is_open)

pub release_left : (s s' : LockState) (c : CtxNo) (lock : Addr) → IsOpen s c → moved s (Release c lock true) ≡ Ok s' → level_of s' c ≡ level_of s c
release_left s s' c lock is_open e = release_left_at s s' c lock is_open (lock_at s lock) e

-- ---- other contexts

abbrev Same : LockState → LockState → CtxNo → Type 0
Same s t d = context_of t d ≡ context_of s d

set_other : (s : LockState) (c d : CtxNo) (x : Option Context) → Some c ≢ Some d → get_or (set s.contexts c.0 x) d.0 None ≡ context_of s d
set_other s c d x apart = set_there s.contexts c.0 d.0 x (λ same. apart (ap Some (same_context c d (sym same))))

acquire_others : (s s' : LockState) (c d : CtxNo) (lock : Addr) (dpr : Bool) → Some c ≢ Some d → (found : Option (Option Holding)) → acquired s c lock dpr found ≡ Ok s' → Same s s' d
acquire_others s s' c d lock dpr apart None e = cc
acquire_others s s' c d lock dpr apart (Some None) e = subst (λ (t : LockState). Same s t d) (same_ok (got s c lock dpr) s' e) (set_other s c d _ apart)
acquire_others s s' c d lock dpr apart (Some (Some h)) e =
    subst (λ (t : LockState). Same s t d) (allowed (not (eqb h.context.0 c.0)) lock_rule (spinning s c lock) s' e).1 (set_other s c d _ apart)

release_others : (s s' : LockState) (c d : CtxNo) (lock : Addr) (dpr : Bool) → Some c ≢ Some d → (found : Option (Option Holding)) → released s c lock dpr found ≡ Ok s' → Same s s' d
release_others s s' c d lock dpr apart None e = cc
release_others s s' c d lock dpr apart (Some None) e = cc
release_others s s' c d lock dpr apart (Some (Some h)) e =
    subst (λ (t : LockState). Same s t d) (allowed (eqb h.context.0 c.0) lock_rule (put_back s c lock dpr h.before) s' e).1 (set_other s c d _ apart)

end_same : (s s' : LockState) (c d : CtxNo) → Some c ≢ Some d → (o : Option Context) → ended s c o ≡ s' → Same s s' d
end_same s s' c d apart None e = subst (λ (t : LockState). Same s t d) e refl
end_same s s' c d apart (Some x) e = subst (λ (t : LockState). Same s t d) e (set_other s c d None apart)

pub others : (s s' : LockState) (m : LockMove) (d : CtxNo) → moved s m ≡ Ok s' → mover m ≢ Some d → Same s s' d
others s s' (Begin c level) d e apart = subst (λ (t : LockState). Same s t d) (same_ok (opened s c level) s' e) (set_other s c d _ apart)
others s s' (Leave c) d e apart = subst (λ (t : LockState). Same s t d) (leave_is s s' c e) (set_other s c d None apart)
others s s' (End c) d e apart = end_same s s' c d apart (context_of s c) (same_ok (ended s c (context_of s c)) s' e)
others s s' (Raise c to) d e apart = subst (λ (t : LockState). Same s t d) (raise_is s s' c to e) (set_other s c d _ apart)
others s s' (Lower c to) d e apart = subst (λ (t : LockState). Same s t d) (lower_is s s' c to e) (set_other s c d _ apart)
others s s' (Acquire c lock dpr) d e apart = acquire_others s s' c d lock dpr apart (lock_at s lock) e
others s s' (Release c lock dpr) d e apart = release_others s s' c d lock dpr apart (lock_at s lock) e
others s s' (Make lock) d e apart = subst (λ (t : LockState). Same s t d) (make_is s s' lock e).1 refl
others s s' (Free lock) d e apart = subst (λ (t : LockState). Same s t d) (free_is s s' lock e).1 refl
