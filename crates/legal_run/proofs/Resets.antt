-- Where a reset began, its handler can be entered: a context is free, no frame is due, and no serial handler is open.
use Rattle.std.proofs.Common.{rules, ◌≡◌, ℕ, zero, suc, Bool, true, false, cond, ◌&&◌, ◌||◌, ◌==◌, not, List, [], ◌∷◌, ◌++◌, refl, sym, ap, ◌∙◌, subst, Option, Some, None, inl, inr}
use Rattle.std.specs.Prelude.{slice_get}
use Rattle.std.specs.List.{list_any}
use Rattle.std.specs.Option.{MatchOption, option_map_or, option_or}
use Rattle.std.specs.Str.{bytes_eq}
use Rattle.std.proofs.lemmas.Bool.{eq-eqb, cases_Bool}
use Rattle.std.proofs.lemmas.Slice.Eq.{bytes_eq-Decides}
use Rattle.nd_base.specs.declared.numbers.AdapterNo.{AdapterNo}
use Rattle.log_fields.specs.declared.write.Write.{Write}
use Rattle.log_fields.specs.declared.field_values.Handler.TheVariants as handler
use Rattle.call_log.specs.declared.entry.Entry.{Entry}
use Rattle.call_log.specs.declared.entry.Entry.TheVariants as entries
use Rattle.owner_machine.specs.declared.rows.Adapter.{Adapter}
use Rattle.owner_machine.specs.declared.rows.Context.{Context}
use Rattle.owner_machine.specs.declared.rows.Context.TheVariants as kept
use Rattle.owner_machine.specs.State.{Owner, at, change, implies, is_running, is_stopped, stands}
use Rattle.owner_machine.specs.Contexts.{is_free as is_free_row, in_brackets, serialized, none_runs, is_serial, is_exclusive}
use Rattle.owner_machine.specs.Adapters.{reset_begun, may_begin_reset}
use Rattle.owner_machine.specs.Must.{Due as OwnerDue, Completes, EntersReset, serves, is_served}
use Rattle.owner_machine.specs.Machine.{has_case}
use Rattle.legal_run.specs.State.{Inputs, State, Next, Free, Takes, Verdicts, Spinning, Makes, Stops, is_free, is_free_context, all_contexts, alive}
use Rattle.legal_run.specs.Owed.{frame_due, is_owed, owed_row}
use Rattle.legal_run.specs.Enters.{area, words_of, same_writes, carries, zero_at, may_lie}
use Rattle.legal_run.specs.After.{after, popped}
use Rattle.legal_run.specs.Must.{Due, Owes, Exactly, ReplyOf, next_must, taken_first, must, is_carried, Serves}
use Rattle.legal_run.specs.Run.{Run, now, freely}
use Rattle.legal_run.specs.EntryLaws.{GoesOn}
use Rattle.legal_run.proofs.Between.{true_both, forced_now}
use Rattle.legal_run.proofs.Duties.{taken, goes_by}
use Rattle.legal_run.proofs.Named.{OfCall, OfSpin, OfStop, NamedIn, must_named, met}
use Rattle.legal_run.proofs.Runs.{next}

-- ---- what is the same as itself

same_number : (n : ℕ) → (n == n) ≡ true
same_number n = eq-eqb n n refl

same_bytes : (bs : List ℕ) → bytes_eq bs bs ≡ true
same_bytes bs = search (rules, bytes_eq-Decides)

same_list : (ws : List Write) → same_writes ws ws ≡ true
same_list [] = refl
same_list (w ∷ ws) = rw (same_number w.at.0) (rw (same_bytes w.bytes) (same_list ws))

-- ---- a free context

record Passing (p : ℕ → Bool) : Type 0 where
  pub number : ℕ
  pub passes : p number ≡ true

some_passes : (p : ℕ → Bool) (xs : List ℕ) → list_any p xs ≡ true → Passing p
some_passes p [] h = absurd (cc)
some_passes p (x ∷ xs) h = elim (cases_Bool (p x)) [
  | inl here ↦ record { number = x; passes = here }
  | inr other ↦ some_passes p xs (subst (λ (b : Bool). (b || list_any p xs) ≡ true) other h)
]

free_row : (contexts : List Context) (x : ℕ) → at is_free_context contexts x ≡ true → at is_free_row contexts x ≡ true
free_row contexts x h = by_row (slice_get contexts x) h
  where
    by_row : (m : Option Context) → option_map_or is_free_context m false ≡ true → option_map_or is_free_row m false ≡ true
    by_row None h = absurd (cc)
    by_row (Some kept.Free) h = refl
    by_row (Some (kept.Open a k enter call)) h = absurd (cc)

-- ---- the adapter

stands_behind : (rows : List Adapter) (a : ℕ) → at (λ row. is_running row.phase && row.owes_reset) rows a ≡ true → at (λ row. not (is_stopped row.phase)) (change reset_begun rows a) a ≡ true
stands_behind [] a h = absurd (cc)
stands_behind (row ∷ rows) zero h = refl
stands_behind (row ∷ rows) (suc a) h = stands_behind rows a h

-- a reset may be open beside what is open, whatever the attributes are
any_attributes : (b d x : Bool) → implies (b || true) x ≡ implies (d || true) x
any_attributes true true x = refl
any_attributes true false x = refl
any_attributes false true x = refl
any_attributes false false x = refl

-- ---- the enter

abbrev reset_words : State → ℕ → ℕ → List ℕ
reset_words s a x = words_of s a x handler.Reset []

abbrev reset_writes : ℕ → List Write
reset_writes x = zero_at (area x) ∷ []

abbrev reset_enter : State → AdapterNo → ℕ → Entry
reset_enter s a x = entries.Enter (Some a) (record { 0 = x }) handler.Reset (reset_words s a.0 x) (reset_writes x)

carried : (c : Inputs) (s : State) (a x : ℕ) → is_free s x ≡ true → frame_due c s ≡ false → carries c s a x handler.Reset (reset_words s a x) (reset_writes x) ≡ true
unfolding may_lie
carried c s a x free frames = rw free (rw frames (rw (same_bytes (reset_words s a x)) (same_list (reset_writes x))))

-- ---- a reset that begins

case_of : (b d : Bool) (l : Option ℕ) (rule : ℕ) → cond (b && d) l (Some rule) ≡ None → d ≡ true
case_of true true l rule h = refl
case_of true false l rule h = absurd (cc)
case_of false d l rule h = absurd (cc)

due_begin : (c : Inputs) (s : State) (a : AdapterNo) (due : Due) → NamedIn s.next (Some due) → Serves c s due (entries.ResetBegin a) → ⊥
due_begin c s a (Owes d) named served = no_begin d (true_both (serves s.owner d (entries.ResetBegin a)) true served).0
  where
    no_begin : (d : OwnerDue) → serves s.owner d (entries.ResetBegin a) ≡ true → ⊥
    no_begin (Completes fresh k status) h = absurd (cc)
    no_begin _ h = absurd (cc)
due_begin c s a (Exactly e) (OfCall made) served = absurd (cc)
due_begin c s a (Exactly e) (OfSpin y lock spin) served = absurd (cc)
due_begin c s a (Exactly e) (OfStop why b ats next stop) served = absurd (cc)
due_begin c s a (ReplyOf y) named served = absurd (cc)

turn_begin : (c : Inputs) (s : State) (a : AdapterNo) (d : Option Due) → NamedIn s.next d
    → MatchOption d (freely c s (entries.ResetBegin a) ≡ true) (λ due. Serves c s due (entries.ResetBegin a)) → freely c s (entries.ResetBegin a) ≡ true
turn_begin c s a None named h = h
turn_begin c s a (Some due) named h = absurd (due_begin c s a due named h)

begins : (c : Inputs) (log : List Entry) (a : AdapterNo) → Run c (log ++ entries.ResetBegin a ∷ []) → freely c (now c log) (entries.ResetBegin a) ≡ true
begins c log a run = elim (met c log (entries.ResetBegin a) run).turn [
  | inl h ↦ turn_begin c (now c log) a (must (now c log)) (must_named (now c log) (forced_now c log)) h
  | inr h ↦ absurd (cc)
]

-- ---- what must stand behind it

never_taken : (n : Next) → taken_first (popped n) ≡ None
never_taken Free = refl
never_taken (Takes e) = refl
never_taken (Verdicts es) = refl
never_taken (Spinning x lock) = refl
never_taken (Makes x es lent) = refl
never_taken (Stops why ats) = refl

must_reset : (c : Inputs) (s : State) (a : AdapterNo) → must (after c s (entries.ResetBegin a)) ≡ Some (Owes (EntersReset a.0))
unfolding must
must_reset c s a = ap (λ m. option_or m (option_or (Some (Owes (EntersReset a.0))) (next_must (popped s.next)))) (never_taken s.next)

brackets : (c : Inputs) (s : State) (a : AdapterNo) → in_brackets (after c s (entries.ResetBegin a)).owner a.0 handler.Reset ≡ in_brackets s.owner a.0 handler.Reset
brackets c s a =
    let alone : Bool = none_runs s.owner is_serial a.0 in
    let rest : Bool = in_rest s.owner a.0 in
    ap (λ b. b && rest) (any_attributes (serialized (after c s (entries.ResetBegin a)).owner a.0) (serialized s.owner a.0) alone)
  where
    in_rest : Owner → ℕ → Bool
    in_rest o a = none_runs o is_exclusive a && (true && (true && (true && true)))

pub resets_go_on : (c : Inputs) (log : List Entry) (a : AdapterNo) → Run c (log ++ entries.ResetBegin a ∷ []) → GoesOn c (now c (log ++ entries.ResetBegin a ∷ []))
resets_go_on c log a run =
    let s : State = now c log in
    let e : Entry = entries.ResetBegin a in
    let t : State = after c s e in
    let free : (is_owed c s a.0 handler.Reset && (list_any (is_free s) all_contexts && not (frame_due c s))) ≡ true = begins c log a run in
    let owed = true_both (is_owed c s a.0 handler.Reset) (list_any (is_free s) all_contexts && not (frame_due c s)) free in
    let room = true_both (list_any (is_free s) all_contexts) (not (frame_due c s)) owed.1 in
    let some = some_passes (is_free s) all_contexts room.0 in
    let x : ℕ = some.number in
    let frames : frame_due c s ≡ false = not_true (frame_due c s) room.1 in
    let in_place = true_both (in_brackets s.owner a.0 handler.Reset) true (true_both (owed_row c s a.0 handler.Reset) _ (true_both (alive s a.0) _ owed.0).1).1 in
    let begun : may_begin_reset s.owner a.0 ≡ true = case_of (is_served s.owner e) (may_begin_reset s.owner a.0) None 4 (met c log e run).owner in
    let stand : stands t.owner a.0 ≡ true = stands_behind s.owner.adapters a.0 (true_both _ _ begun).0 in
    let f : Entry = reset_enter t a x in
    let served : serves t.owner (EntersReset a.0) f ≡ true = rw (same_number a.0) refl in
    let carry : is_carried c t f ≡ true = carried c t a.0 x some.passes frames in
    let case : has_case t.owner f ≡ true = rw (free_row s.owner.contexts x some.passes) (rw stand (rw (brackets c s a ∙ in_place.0) refl)) in
    let is = must_reset c s a in
    let goes : GoesOn c t = goes_by c t (Owes (EntersReset a.0)) f is (rw served carry) (taken t.owner (EntersReset a.0) f refl served case refl) in
    subst (GoesOn c) (sym (next c log e)) goes
  where
    not_true : (b : Bool) → not b ≡ true → b ≡ false
    not_true true h = absurd (cc)
    not_true false h = refl
