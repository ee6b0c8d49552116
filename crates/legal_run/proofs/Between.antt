-- Where something must stand nothing else does; so the clock never falls.
use Rattle.std.proofs.Common.{◌≡◌, ℕ, ◌≤◌, ◌<◌, Bool, true, false, ◌&&◌, List, [], ◌∷◌, ◌++◌, refl, sym, ap, ◌∙◌, subst, Option, Some, None, inl, inr, arith}
use Rattle.std.specs.Prelude.{⊤}
use Rattle.std.specs.Option.{MatchOption, option_map, option_or}
use Rattle.std.proofs.lemmas.Bool.{ltb-true}
use Rattle.nd_base.specs.declared.numbers.CtxNo.{CtxNo}
use Rattle.log_fields.specs.declared.field_values.Cause.TheVariants.{Memory}
use Rattle.call_log.specs.declared.entry.Entry.{Entry}
use Rattle.call_log.specs.declared.entry.Entry.TheVariants as entries
use Rattle.owner_machine.specs.State.{Owner}
use Rattle.owner_machine.specs.Must.{Due as OwnerDue, Completes, BacksFailed, Answers, Hands, BacksDue, HandsAsk, EntersReset, owner_must, serves}
use Rattle.legal_run.specs.State.{Inputs, State, Next, Free, Takes, Verdicts, Spinning, Makes, Stops, start, clock}
use Rattle.legal_run.specs.Owed.{may_jump}
use Rattle.legal_run.specs.Replies.{replies}
use Rattle.legal_run.specs.After.{after}
use Rattle.legal_run.specs.Must.{Due, Owes, Exactly, ReplyOf, first_of, made_next, first_stop, next_must, taken_first, must, is_carried, Serves}
use Rattle.legal_run.specs.Run.{RunFrom, now_from, now, Run, Meets, freely, breaks_in, clock_behind}
use Rattle.legal_run.specs.Laws.{is_piecemeal}
use Rattle.legal_run.proofs.Forced.{AreForced, IsForced, made_piece, next_forced}
use Rattle.legal_run.proofs.Clocks.{effect_moment}
use Rattle.legal_run.proofs.Runs.{run_less}

pub true_both : (a b : Bool) → (a && b) ≡ true → (a ≡ true) × (b ≡ true)
true_both true b h = (refl, h)
true_both false b h = absurd (cc)

-- ---- what is due

abbrev pub DueForced : Due → Type 0
DueForced (Exactly e) = is_piecemeal e ≡ true
DueForced _ = ⊤

abbrev pub AllForced : Option Due → Type 0
AllForced None = ⊤
AllForced (Some due) = DueForced due

or_forced : (d f : Option Due) → AllForced d → AllForced f → AllForced (option_or d f)
or_forced None f one other = other
or_forced (Some due) f one other = one

owes_forced : (d : Option OwnerDue) → AllForced (option_map Owes d)
owes_forced None = tt
owes_forced (Some d) = tt

stop_forced : (ats : List ℕ) (stop : ℕ → Entry) → ((a : ℕ) → is_piecemeal (stop a) ≡ true) → AllForced (first_stop ats stop)
stop_forced [] stop h = tt
stop_forced (a ∷ ats) stop h = h a

list_forced : (es : List Entry) → AreForced es → AllForced (first_of es)
list_forced [] h = tt
list_forced (e ∷ es) h = made_piece e h.0

made_forced : (x : CtxNo) (es : List Entry) → AreForced es → AllForced (made_next x es)
made_forced x [] h = tt
made_forced x (e ∷ es) h = made_piece e h.0

next_must_forced : (n : Next) → IsForced n → AllForced (next_must n)
next_must_forced Free h = tt
next_must_forced (Takes e) h = made_piece e h
next_must_forced (Verdicts es) h = list_forced es h
next_must_forced (Spinning x lock) h = refl
next_must_forced (Makes x es lent) h = made_forced x es h
next_must_forced (Stops cause ats) h = stop_forced ats _ (λ a. refl)

taken_forced : (n : Next) → IsForced n → AllForced (taken_first n)
taken_forced (Takes e) h = made_piece e h
taken_forced Free h = tt
taken_forced (Verdicts es) h = tt
taken_forced (Spinning x lock) h = tt
taken_forced (Makes x es lent) h = tt
taken_forced (Stops cause ats) h = tt

pub must_forced : (s : State) → IsForced s.next → AllForced (must s)
unfolding must
must_forced s h = or_forced _ _ (taken_forced s.next h) (or_forced _ _ (owes_forced (owner_must s.owner)) (next_must_forced s.next h))

-- ---- what serves it

owner_piece : (o : Owner) (d : OwnerDue) (e : Entry) → serves o d e ≡ true → is_piecemeal e ≡ true
owner_piece o (Completes fresh k status) (entries.Complete packet other) h = refl
owner_piece o (Completes fresh k status) (entries.Tag packet id) h = refl
owner_piece o (Completes fresh k status) _ h = absurd (cc)
owner_piece o (BacksFailed j) (entries.Back loan failed) h = refl
owner_piece o (BacksFailed j) _ h = absurd (cc)
owner_piece o (Answers r status) (entries.Answer request other bytes) h = refl
owner_piece o (Answers r status) _ h = absurd (cc)
owner_piece o (Hands k) (entries.Hand packet) h = refl
owner_piece o (Hands k) _ h = absurd (cc)
owner_piece o (BacksDue a) (entries.Back loan failed) h = refl
owner_piece o (BacksDue a) _ h = absurd (cc)
owner_piece o (HandsAsk r) (entries.HandAsk request) h = refl
owner_piece o (HandsAsk r) _ h = absurd (cc)
owner_piece o (EntersReset a) (entries.Enter b x k words writes) h = refl
owner_piece o (EntersReset a) _ h = absurd (cc)

reply_piece : (s : State) (x : CtxNo) (e : Entry) → replies s x e ≡ true → is_piecemeal e ≡ true
reply_piece s x (entries.Reply y eax writes) h = refl
reply_piece s x _ h = absurd (cc)

serves_piece : (c : Inputs) (s : State) (due : Due) (e : Entry) → DueForced due → Serves c s due e → is_piecemeal e ≡ true
serves_piece c s (Owes d) e forced h = owner_piece s.owner d e (true_both _ (is_carried c s e) h).0
serves_piece c s (Exactly f) e forced h = ap is_piecemeal h ∙ forced
serves_piece c s (ReplyOf x) e forced h = reply_piece s x e h

breaks_piece : (c : Inputs) (s : State) (e : Entry) → breaks_in c s e ≡ true → is_piecemeal e ≡ true
breaks_piece c s (entries.Stop a Memory) h = refl
breaks_piece c s _ h = absurd (cc)

turn_piece : (c : Inputs) (s : State) (e : Entry) (due : Due) (d : Option Due) → AllForced d → d ≡ Some due → MatchOption d (freely c s e ≡ true) (λ x. Serves c s x e) → is_piecemeal e ≡ true
turn_piece c s e due None forced is h = absurd (cc)
turn_piece c s e due (Some f) forced is h = serves_piece c s f e forced h

pub between : (c : Inputs) (s : State) (due : Due) (e : Entry) → IsForced s.next → must s ≡ Some due → Meets c s e → is_piecemeal e ≡ true
between c s due e forced is meets = elim meets.turn [ inl h ↦ turn_piece c s e due (must s) (must_forced s forced) is h | inr h ↦ breaks_piece c s e h ]

-- ---- over a run

forced_from : (c : Inputs) (s : State) (log : List Entry) → IsForced s.next → IsForced (now_from c s log).next
unfolding now_from
forced_from c s [] h = h
forced_from c s (e ∷ log) h = forced_from c (after c s e) log (next_forced c s e h)

pub forced_now : (c : Inputs) (log : List Entry) → IsForced (now c log).next
forced_now c log = forced_from c (start c) log tt

pub nothing_between : (c : Inputs) (log : List Entry) (due : Due) (e : Entry) → Run c (log ++ e ∷ []) → must (now c log) ≡ Some due → is_piecemeal e ≡ true
nothing_between c log due e run is = between c (now c log) due e (forced_now c log) is (run_less c (start c) log e run).1

-- ---- a jump goes forward

pub free_turn : (c : Inputs) (s : State) (e : Entry) (d : Option Due) → is_piecemeal e ≡ false → AllForced d → MatchOption d (freely c s e ≡ true) (λ x. Serves c s x e) → freely c s e ≡ true
free_turn c s e None not forced h = h
free_turn c s e (Some due) not forced h = let yes : is_piecemeal e ≡ true = serves_piece c s due e forced h in absurd (cc)

jumps : (c : Inputs) (s : State) (m : ℕ) → IsForced s.next → Meets c s (entries.Time m) → clock s < m
jumps c s m forced meets = elim meets.turn [
  | inl h ↦ let free : may_jump c s m ≡ true = free_turn c s (entries.Time m) (must s) refl (must_forced s forced) h in ltb-true (clock s) m (true_both _ _ free).0
  | inr h ↦ absurd (cc)
]

behind_later : (c : Inputs) (s : State) (e : Entry) → IsForced s.next → Meets c s e → clock s ≤ clock_behind s e
behind_later c s (entries.Time m) forced meets = let later = jumps c s m forced meets in omega arith
behind_later c s _ forced meets = omega arith

clock_rises : (c : Inputs) (s : State) (e : Entry) → IsForced s.next → Meets c s e → clock s ≤ clock (after c s e)
clock_rises c s e forced meets = let later = behind_later c s e forced meets in subst (λ (n : ℕ). clock s ≤ n) (sym (effect_moment c s e)) later

clocks_rise : (c : Inputs) (s : State) (log : List Entry) → IsForced s.next → RunFrom c s log → clock s ≤ clock (now_from c s log)
unfolding RunFrom now_from
clocks_rise c s [] forced run = omega arith
clocks_rise c s (e ∷ log) forced run =
    let one = clock_rises c s e forced run.0 in
    let more = clocks_rise c (after c s e) log (next_forced c s e forced) run.1 in
    omega arith

-- the run behind a front
run_behind : (c : Inputs) (s : State) (log more : List Entry) → RunFrom c s (log ++ more) → RunFrom c (now_from c s log) more
unfolding RunFrom now_from
run_behind c s [] more run = run
run_behind c s (e ∷ log) more run = run_behind c (after c s e) log more run.1

now_behind : (c : Inputs) (s : State) (log more : List Entry) → now_from c s (log ++ more) ≡ now_from c (now_from c s log) more
unfolding now_from
now_behind c s [] more = refl
now_behind c s (e ∷ log) more = now_behind c (after c s e) log more

pub rises : (c : Inputs) (log more : List Entry) → Run c (log ++ more) → clock (now c log) ≤ clock (now c (log ++ more))
rises c log more run =
    subst (λ (t : State). clock (now c log) ≤ clock t) (sym (now_behind c (start c) log more))
    (clocks_rise c (now c log) more (forced_now c log) (run_behind c (start c) log more run))
