-- An `enter` that carries what it must may stand: where its handler is owed and nothing must stand, and directly behind a reset's begin.
use Rattle.std.proofs.Common.{◌≡◌, ℕ, zero, suc, Bool, true, false, ◌&&◌, ◌||◌, not, List, [], ◌∷◌, refl, sym, ap, ◌∙◌, subst, rules, Option, Some, None, inl}
use Rattle.std.specs.Prelude.{slice_get}
use Rattle.std.specs.Option.{MatchOption, option_map, option_map_or, option_or}
use Rattle.std.specs.Str.{bytes_eq}
use Rattle.std.proofs.lemmas.Bool.{eq-eqb, false≢true}
use Rattle.nd_base.specs.declared.numbers.AdapterNo.{AdapterNo}
use Rattle.nd_base.specs.declared.numbers.CtxNo.{CtxNo}
use Rattle.nd_base.specs.declared.numbers.Phase.{Phase}
use Rattle.nd_base.specs.declared.numbers.Phase.TheVariants as phases
use Rattle.log_fields.specs.declared.write.Write.{Write}
use Rattle.log_fields.specs.declared.field_values.Handler.{Handler}
use Rattle.log_fields.specs.declared.field_values.Handler.TheVariants as handler
use Rattle.call_log.specs.declared.entry.Entry.TheVariants as entries
use Rattle.owner_machine.specs.declared.rows.Adapter.{Adapter}
use Rattle.owner_machine.specs.declared.rows.Context.{Context}
use Rattle.owner_machine.specs.declared.rows.Context.TheVariants as kept
use Rattle.owner_machine.specs.State.{Owner, at, change, implies, is_stopped, stands}
use Rattle.owner_machine.specs.Contexts.{in_brackets, is_entry, is_exclusive, is_free as is_free_row, is_halt, is_serial, none_runs, serialized}
use Rattle.owner_machine.specs.Adapters.{reset_begun}
use Rattle.owner_machine.specs.Handlers.{may_halt}
use Rattle.owner_machine.specs.Must.{Due as OwnerDue, EntersReset, owner_must, serves}
use Rattle.legal_run.specs.State.{Inputs, State, Next, Free, Takes, Verdicts, Spinning, Makes, Stops, alive, is_alive, is_free, is_free_context}
use Rattle.legal_run.specs.Owed.{frame_due, is_owed, owed_row, owes_entry}
use Rattle.legal_run.specs.Enters.{carries, has_subject, handed_to, is_reset, may_lie, named_in, same_writes, words_of, writes_of}
use Rattle.legal_run.specs.After.{after, popped}
use Rattle.legal_run.specs.Must.{Due, Owes, next_must, taken_first, must, Serves}
use Rattle.legal_run.specs.Run.{Meets, freely}

-- ---- both of two

pub parts : (a b : Bool) → (a && b) ≡ true → (a ≡ true) × (b ≡ true)
parts true b e = (refl, e)
parts false b e = absurd (false≢true e)

both : {a b : Bool} → a ≡ true → b ≡ true → (a && b) ≡ true
both e f = search rules

-- ---- a free context, and an adapter that lives

free_row : (contexts : List Context) (x : ℕ) → at is_free_context contexts x ≡ true → at is_free_row contexts x ≡ true
free_row contexts x h = by_row (slice_get contexts x) h
  where
    by_row : (m : Option Context) → option_map_or is_free_context m false ≡ true → option_map_or is_free_row m false ≡ true
    by_row None h = absurd (false≢true h)
    by_row (Some kept.Free) h = refl
    by_row (Some (kept.Open a k enter call)) h = absurd (false≢true h)

stands_alive : (rows : List Adapter) (a : ℕ) → at (λ row. is_alive row.phase) rows a ≡ true → at (λ row. not (is_stopped row.phase)) rows a ≡ true
stands_alive rows a h = by_row (slice_get rows a) h
  where
    by_phase : (p : Phase) → is_alive p ≡ true → not (is_stopped p) ≡ true
    by_phase phases.Stopped h = absurd (false≢true h)
    by_phase _ h = refl

    by_row : (m : Option Adapter) → option_map_or (λ row. is_alive row.phase) m false ≡ true → option_map_or (λ row. not (is_stopped row.phase)) m false ≡ true
    by_row None h = absurd (false≢true h)
    by_row (Some row) h = by_phase row.phase h

-- a free context is told by what the `enter` carries
free_carried : (c : Inputs) (s : State) (a x : ℕ) (h : Handler) (words : List ℕ) (writes : List Write) → carries c s a x h words writes ≡ true → is_free s x ≡ true
free_carried c s a x h words writes e =
    (parts (is_free s x) (not (frame_due c s) && (has_subject s a h words && (may_lie s (handed_to s a h words) (named_in h words writes)
    && (bytes_eq words (words_of s a x h words) && same_writes writes (writes_of s a x h words writes))))) e).0

-- ---- nothing must stand

none_first : (m : Option OwnerDue) (d n : Option Due) → option_or d (option_or (option_map Owes m) n) ≡ None → m ≡ None
none_first None d n e = refl
none_first (Some due) None n e = absurd (cc)
none_first (Some due) (Some f) n e = absurd (cc)

no_duty : (s : State) → must s ≡ None → owner_must s.owner ≡ None
unfolding must
no_duty s e = none_first (owner_must s.owner) (taken_first s.next) (next_must s.next) e

no_entry : (c : Inputs) (s : State) (a : ℕ) (h : Handler) → owed_row c s a h ≡ true → not (is_entry h) ≡ true
no_entry c s a handler.DriverEntry e = absurd (false≢true e)
no_entry c s a _ e = refl

-- ---- an owed handler

pub meets_owed : (c : Inputs) (s : State) (a : AdapterNo) (x : CtxNo) (h : Handler) (words : List ℕ) (writes : List Write) → must s ≡ None
    → is_owed c s a.0 h ≡ true → is_reset h ≡ false → carries c s a.0 x.0 h words writes ≡ true → Meets c s (entries.Enter (Some a) x h words writes)
meets_owed c s a x h words writes free owed reset carry =
    let o = s.owner in
    let lives = parts (alive s a.0) (owed_row c s a.0 h && (in_brackets o a.0 h && implies (is_halt h) (may_halt o a.0))) owed in
    let row = parts (owed_row c s a.0 h) (in_brackets o a.0 h && implies (is_halt h) (may_halt o a.0)) lives.1 in
    let stand : stands o a.0 ≡ true = stands_alive o.adapters a.0 lives.0 in
    let vacant : at is_free_row o.contexts x.0 ≡ true = free_row o.contexts x.0 (free_carried c s a.0 x.0 h words writes carry) in
    record {
      owner = rw (no_duty s free) (rw (both vacant (both (no_entry c s a.0 h row.0) (both stand row.1))) refl);
      turn = inl (subst (λ m. MatchOption m (freely c s (entries.Enter (Some a) x h words writes) ≡ true) (λ due. Serves c s due (entries.Enter (Some a) x h words writes))) (sym free)
          (both (ap not reset) (both owed carry)));
    }

-- ---- DriverEntry

pub meets_entry : (c : Inputs) (s : State) (x : CtxNo) (words : List ℕ) (writes : List Write) → must s ≡ None → owes_entry c s ≡ true → x.0 ≡ 0
    → carries c s 0 x.0 handler.DriverEntry words writes ≡ true → Meets c s (entries.Enter None x handler.DriverEntry words writes)
meets_entry c s x words writes free owed first carry =
    let o = s.owner in
    let vacant : at is_free_row o.contexts x.0 ≡ true = free_row o.contexts x.0 (free_carried c s 0 x.0 handler.DriverEntry words writes carry) in
    record {
      owner = rw (no_duty s free) (rw (both vacant refl) refl);
      turn = inl (subst (λ m. MatchOption m (freely c s (entries.Enter None x handler.DriverEntry words writes) ≡ true) (λ due. Serves c s due (entries.Enter None x handler.DriverEntry words writes))) (sym free)
          (both (eq-eqb x.0 0 first) (both owed carry)));
    }

-- ---- the handler of a reset, behind its begin

stands_behind : (test : Adapter → Bool) (rows : List Adapter) (a : ℕ) → at test rows a ≡ true → at (λ row. not (is_stopped row.phase)) (change reset_begun rows a) a ≡ true
stands_behind test [] a h = absurd (false≢true h)
stands_behind test (row ∷ rows) zero h = refl
stands_behind test (row ∷ rows) (suc a) h = stands_behind test rows a h

-- a reset may be open beside what is open, whatever the attributes are
any_attributes : (b d x : Bool) → implies (b || true) x ≡ implies (d || true) x
any_attributes true true x = refl
any_attributes true false x = refl
any_attributes false true x = refl
any_attributes false false x = refl

never_taken : (n : Next) → taken_first (popped n) ≡ None
never_taken Free = refl
never_taken (Takes e) = refl
never_taken (Verdicts es) = refl
never_taken (Spinning x lock) = refl
never_taken (Makes x es lent) = refl
never_taken (Stops why ats) = refl

must_reset : (c : Inputs) (s : State) (a : AdapterNo) → must (after c s (entries.ResetBegin a)) ≡ Some (Owes (EntersReset a.0))
unfolding must
must_reset c s a = ap (λ m. option_or m (option_or (Some (Owes (EntersReset a.0))) (next_must (popped s.next)))) (never_taken s.next)

brackets : (c : Inputs) (s : State) (a : AdapterNo) → in_brackets (after c s (entries.ResetBegin a)).owner a.0 handler.Reset ≡ in_brackets s.owner a.0 handler.Reset
brackets c s a =
    let alone : Bool = none_runs s.owner is_serial a.0 in
    let rest : Bool = in_rest s.owner a.0 in
    ap (λ b. b && rest) (any_attributes (serialized (after c s (entries.ResetBegin a)).owner a.0) (serialized s.owner a.0) alone)
  where
    in_rest : Owner → ℕ → Bool
    in_rest o a = none_runs o is_exclusive a && (true && (true && (true && true)))

pub meets_reset : (c : Inputs) (s : State) (a : AdapterNo) (x : CtxNo) (words : List ℕ) (writes : List Write) → is_owed c s a.0 handler.Reset ≡ true
    → carries c (after c s (entries.ResetBegin a)) a.0 x.0 handler.Reset words writes ≡ true
    → Meets c (after c s (entries.ResetBegin a)) (entries.Enter (Some a) x handler.Reset words writes)
meets_reset c s a x words writes owed carry =
    let t : State = after c s (entries.ResetBegin a) in
    let lives = parts (alive s a.0) (owed_row c s a.0 handler.Reset && (in_brackets s.owner a.0 handler.Reset && true)) owed in
    let row = parts (owed_row c s a.0 handler.Reset) (in_brackets s.owner a.0 handler.Reset && true) lives.1 in
    let between = parts (in_brackets s.owner a.0 handler.Reset) true row.1 in
    let stand : stands t.owner a.0 ≡ true = stands_behind (λ r. is_alive r.phase) s.owner.adapters a.0 lives.0 in
    let vacant : at is_free_row t.owner.contexts x.0 ≡ true = free_row t.owner.contexts x.0 (free_carried c t a.0 x.0 handler.Reset words writes carry) in
    let served : serves t.owner (EntersReset a.0) (entries.Enter (Some a) x handler.Reset words writes) ≡ true = both (eq-eqb a.0 a.0 refl) refl in
    record {
      owner = rw served (rw vacant (rw stand (rw (brackets c s a ∙ between.0) refl)));
      turn = inl (subst (λ m. MatchOption m (freely c t (entries.Enter (Some a) x handler.Reset words writes) ≡ true) (λ due. Serves c t due (entries.Enter (Some a) x handler.Reset words writes))) (sym (must_reset c s a))
          (both served carry));
    }
