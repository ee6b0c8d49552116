-- DriverEntry's context has not reached its budget where no stop is due; so no context has, where it may go on, or be answered.
use Rattle.std.proofs.Common.{◌≡◌, inl, inr, ℕ, suc, ◌+◌, ◌<◌, Bool, true, false, not, ◌&&◌, ◌||◌, List, [], ◌∷◌, Option, Some, None, refl, sym, ap, ◌∙◌, length, slice_get, arith}
use Rattle.std.specs.Prelude.{nat_le}
use Rattle.std.specs.Option.{option_map_or}
use Rattle.std.specs.List.{list_any, list_all}
use Rattle.nd_base.specs.declared.numbers.AdapterNo.{AdapterNo}
use Rattle.nd_base.specs.declared.numbers.CtxNo.{CtxNo}
use Rattle.log_fields.specs.declared.write.Write.{Write}
use Rattle.log_fields.specs.declared.field_values.Cause.{Cause}
use Rattle.call_log.specs.declared.entry.Entry.TheVariants as entries
use Rattle.owner_machine.specs.declared.rows.Adapter.{Adapter}
use Rattle.owner_machine.specs.declared.rows.Context.{Context}
use Rattle.owner_machine.specs.declared.rows.Context.TheVariants.{Free, Open}
use Rattle.owner_machine.specs.State.{at, stands}
use Rattle.owner_machine.specs.Contexts.{may_be_answered}
use Rattle.legal_run.specs.State.{Inputs, State, adapter_in, adapter_of, adapters_of, call_at, is_open, is_open_context}
use Rattle.legal_run.specs.After.{charges_of, reaches, reaches_for}
use Rattle.legal_run.specs.Must.{must}
use Rattle.legal_run.specs.Run.{Meets, is_going, is_over}
use Rattle.std.specs.Prelude.{is_none}
use Rattle.run_facts.specs.Facts.{IsFed}
use Rattle.run_facts.proofs.Runs.{case_of, true_both}
use Rattle.run_facts.proofs.Counts.{AdaptersGiven, counts}
use Rattle.run_facts.proofs.Inside.{HandlersStand, below, handlers_stand, inside}
use Rattle.run_facts.proofs.Levels.{has_stopped}
use Rattle.run_facts.proofs.Budgets.{Sums, Among, among, due, due_in, found, none_due, plus_none, spends, standing}
use Rattle.run_facts.proofs.Starts.{VerdictsStand}
use Rattle.run_facts.proofs.Early.{EntersOwed, is_entrys, begins, inside_before, remains}

-- no stop of an adapter is due
abbrev NoneDue : State → Type 0
NoneDue s = (a : ℕ) → due_in s.next a ≡ true → ⊥

-- ---- an adapter that stands has not spent its budget

unspent_at : Sums → HandlersStand → (c : Inputs) (s : State) (a : ℕ) → 0 < c.budget → IsFed c s → NoneDue s → a < length c.adapters → stands s.owner a ≡ true → nat_le c.budget (charges_of s a) ≡ false
unspent_at sums stand c s a some fed none less there = by_test (nat_le c.budget (charges_of s a)) refl
  where
    by_test : (t : Bool) → nat_le c.budget (charges_of s a) ≡ t → t ≡ false
    by_test false is = refl
    by_test true is = absurd (none a (due sums stand c s a some fed less there is))

-- the charge of an adapter's context
unspent_of : Sums → AdaptersGiven → HandlersStand → (c : Inputs) (s : State) (x : ℕ) (a : AdapterNo) → 0 < c.budget → IsFed c s → NoneDue s → adapter_of s x ≡ Some a → reaches_for c s (Some a) 0 ≡ false
unspent_of sums given stand c s x a some fed none its =
    let there = handlers_stand stand c s x a fed.is its in
    let less = inside given stand c s x a fed.is its in
    ap (λ (k : ℕ). nat_le c.budget k) (plus_none (charges_of s a.0)) ∙ unspent_at sums stand c s a.0 some fed none less there

-- ---- DriverEntry's

some_stands : (rows : List Adapter) → list_all has_stopped rows ≡ false → (a : ℕ) × (at standing rows a ≡ true)
some_stands [] h = absurd (cc)
some_stands (row ∷ rows) h = by_test (has_stopped row) refl h (λ more. some_stands rows more)
  where
    by_test : (t : Bool) → has_stopped row ≡ t → (t && list_all has_stopped rows) ≡ false → (list_all has_stopped rows ≡ false → (a : ℕ) × (at standing rows a ≡ true))
        → (a : ℕ) × (at standing (row ∷ rows) a ≡ true)
    by_test false is h more = (0, ap not is)
    by_test true is h more = let rest = more h in (suc rest.0, rest.1)

any_false : (p : ℕ → Bool) → ((a : ℕ) → p a ≡ false) → (xs : List ℕ) → list_any p xs ≡ false
any_false p none [] = refl
any_false p none (x ∷ xs) = by_test (p x) (none x) (any_false p none xs)
  where
    by_test : (t : Bool) → t ≡ false → list_any p xs ≡ false → (t || list_any p xs) ≡ false
    by_test false is more = more
    by_test true is more = absurd (cc)

neither : (p q : Bool) → p ≡ false → q ≡ false → (p || q) ≡ false
neither false q one other = other
neither true q one other = absurd (cc)

with_own : (charged own : ℕ) → own ≡ 0 → charged + own + 0 ≡ charged + 0
with_own charged own none = omega (arith, none)

unspent_entry : Sums → AdaptersGiven → HandlersStand → EntersOwed → VerdictsStand → (c : Inputs) (s : State) (x : ℕ) → 0 < c.budget → 0 < length c.adapters → IsFed c s → NoneDue s
    → at is_entrys s.owner.contexts x ≡ true → reaches_for c s None 0 ≡ false
unspent_entry sums given stand owed verdicts c s x some adapters fed none there =
    let began = begins owed verdicts c s fed.is in
    let early = began.early (inside_before s.entrance (began.ones x there).1) in
    let one = some_stands s.owner.adapters (not_all (list_all has_stopped s.owner.adapters) refl) in
    let less = below standing s.owner.adapters one.0 one.1 in
    let count = (counts given c s fed.is).rows in
    let known = unspent_at sums stand c s one.0 some fed none (omega (arith, less, count)) one.1 in
    let first : nat_le c.budget (s.charged + 0) ≡ false = ap (λ (k : ℕ). nat_le c.budget k) (sym (plus_own s.charged _ (early.own one.0))) ∙ known in
    let each : (a : ℕ) → nat_le c.budget (charges_of s a + 0) ≡ false = λ a. ap (λ (k : ℕ). nat_le c.budget k) (with_own s.charged _ (early.own a)) ∙ first in
    neither _ _ first (any_false (λ (a : ℕ). nat_le c.budget (charges_of s a + 0)) each (adapters_of c))
  where
    plus_own : (charged own : ℕ) → own ≡ 0 → charged + own ≡ charged + 0
    plus_own charged own none = omega (arith, none)

    not_all : (b : Bool) → list_all has_stopped s.owner.adapters ≡ b → b ≡ false
    not_all false is = refl
    not_all true is = absurd (remains owed verdicts given c s adapters fed.is is x there)

-- ---- any context

open_is : (os : List Context) (x : ℕ) → at is_open_context os x ≡ true → adapter_in (slice_get os x) ≡ None → at is_entrys os x ≡ true
open_is os x there none = by_row (slice_get os x) there none
  where
    by_row : (m : Option Context) → option_map_or is_open_context m false ≡ true → adapter_in m ≡ None → option_map_or is_entrys m false ≡ true
    by_row (Some (Open None h n call)) there none = refl
    by_row (Some (Open (Some a) h n call)) there none = absurd (cc)
    by_row (Some Free) there none = absurd (cc)
    by_row None there none = absurd (cc)

unspent_any : Sums → AdaptersGiven → HandlersStand → EntersOwed → VerdictsStand → (c : Inputs) (s : State) (x : CtxNo) → 0 < c.budget → 0 < length c.adapters → IsFed c s → NoneDue s → is_open s x.0 ≡ true
    → reaches c s x 0 ≡ false
unspent_any sums given stand owed verdicts c s x some adapters fed none there = by_adapter (adapter_of s x.0) refl
  where
    by_adapter : (m : Option AdapterNo) → adapter_of s x.0 ≡ m → reaches_for c s m 0 ≡ false
    by_adapter None its = unspent_entry sums given stand owed verdicts c s x.0 some adapters fed none (open_is s.owner.contexts x.0 there its)
    by_adapter (Some a) its = unspent_of sums given stand c s x.0 a some fed none its

pub turns : Sums → AdaptersGiven → HandlersStand → EntersOwed → VerdictsStand → (c : Inputs) (s : State) (x : CtxNo) → 0 < c.budget → 0 < length c.adapters → IsFed c s → must s ≡ None
    → is_going c s x ≡ true → reaches c s x 0 ≡ false
turns sums given stand owed verdicts c s x some adapters fed none going =
    unspent_any sums given stand owed verdicts c s x some adapters fed (λ a h. none_due s a none h)
    (true_both (is_open s x.0) (is_none (call_at s x.0) && not (is_over c s)) going).0

pub answered_open : (o : List Context) (os : List Context) (x : ℕ) → at (may_be_answered o) os x ≡ true → at is_open_context os x ≡ true
answered_open o os x h = by_row (slice_get os x) h
  where
    by_row : (m : Option Context) → option_map_or (may_be_answered o) m false ≡ true → option_map_or is_open_context m false ≡ true
    by_row (Some (Open a k n call)) h = refl
    by_row (Some Free) h = absurd (cc)
    by_row None h = absurd (cc)

reply_none : Sums → HandlersStand → (c : Inputs) (s : State) (x : CtxNo) (eax : ℕ) (writes : List Write) → 0 < c.budget → IsFed c s → Meets c s (entries.Reply x eax writes) → NoneDue s
reply_none sums stand c s x eax writes some fed meets a h =
    let d = found s.next a h in
    by_among d.first d.why (among c s (entries.Reply x eax writes) d.why d.first d.ats d.next ((spends sums stand c s some fed).calm a h) refl meets)
  where
    by_among : (b : ℕ) (why : Cause) → Among s (entries.Reply x eax writes) b why → ⊥
    by_among b why is = elim is [ inl end ↦ let wrong : false ≡ true = end.0 in absurd (cc) | inr stop ↦ absurd (cc) ]

pub replies : Sums → AdaptersGiven → HandlersStand → EntersOwed → VerdictsStand → (c : Inputs) (s : State) (x : CtxNo) (eax : ℕ) (writes : List Write) → 0 < c.budget → 0 < length c.adapters → IsFed c s
    → Meets c s (entries.Reply x eax writes) → reaches c s x 0 ≡ false
replies sums given stand owed verdicts c s x eax writes some adapters fed meets =
    unspent_any sums given stand owed verdicts c s x some adapters fed (reply_none sums stand c s x eax writes some fed meets)
    (answered_open s.owner.contexts s.owner.contexts x.0 (case_of s.owner (entries.Reply x eax writes) meets.owner))
