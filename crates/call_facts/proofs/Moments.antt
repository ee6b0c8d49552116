-- What may stand where nothing must, and what the owner machine has a case for.
use Rattle.std.proofs.Common.{rules, arith, ◌≡◌, ℕ, suc, ◌+◌, ◌<◌, ◌≤◌, Bool, true, false, cond, ◌&&◌, ◌==◌, List, [], ◌∷◌, ◌++◌, Option, Some, None, refl, sym, ap, ◌∙◌, subst, inl, inr, ◌⊎◌, length, nat_lt, slice_get}
use Rattle.std.specs.Prelude.{not}
use Rattle.std.specs.Option.{MatchOption}
use Rattle.std.specs.List.{position, position_or_len}
use Rattle.std.proofs.lemmas.Bool.{eqb-true}
use Rattle.std.proofs.lemmas.Bool.Decides.{nat_tests}
use Rattle.std.proofs.lemmas.Option.{slice_get_cases}
use Rattle.std.proofs.Math.ListN.{get_or}
use Rattle.call_log.specs.declared.entry.Entry.{Entry}
use Rattle.owner_machine.specs.State.{Owner, is_number}
use Rattle.owner_machine.specs.Machine.{rule_against, has_case, last_rule, rule_of}
use Rattle.owner_machine.specs.Must.{is_served}
use Rattle.legal_run.specs.State.{Inputs, State}
use Rattle.legal_run.specs.Laws.{RunLaws, NothingStandsBetween, is_piecemeal}
use Rattle.legal_run.specs.Must.{Due, Serves, must}
use Rattle.legal_run.specs.Run.{Run, Meets, breaks_in, freely}
use Rattle.run_facts.specs.Facts.{IsOfRun}

pub true_both : (a b : Bool) → (a && b) ≡ true → (a ≡ true) × (b ≡ true)
true_both true b h = (refl, h)
true_both false b h = absurd (cc)

-- an entry that breaks no rule has its case
pub case_of : (o : Owner) (e : Entry) → rule_against o e ≡ None → has_case o e ≡ true
case_of o e h = by_test (is_served o e) (has_case o e) h
  where
    by_test : (b d : Bool) → cond (b && d) (last_rule o e) (Some (rule_of e)) ≡ None → d ≡ true
    by_test true true h = refl
    by_test true false h = absurd (cc)
    by_test false d h = absurd (cc)

-- the log with one more entry is a run
pub run_more : RunLaws → (c : Inputs) (s : State) (e : Entry) → (is : IsOfRun c s) → Meets c s e → Run c (is.log ++ e ∷ [])
run_more runs c s e is meets = (runs.more c is.log e).1 (is.reaches.run, subst (λ (t : State). Meets c t e) (sym is.reaches.state) meets)

-- a kind that never stands where something must stands by itself
pub stands_freely : RunLaws → NothingStandsBetween → (c : Inputs) (s : State) (e : Entry) → IsOfRun c s → Meets c s e → is_piecemeal e ≡ false → breaks_in c s e ≡ false → freely c s e ≡ true
stands_freely runs between c s e is meets kind breaks = by_turn meets.turn
  where
    by_must : (m : Option Due) → must s ≡ m → MatchOption m (freely c s e ≡ true) (λ due. Serves c s due e) → freely c s e ≡ true
    by_must None there h = h
    by_must (Some d) there h =
        let kept = between c is.log d e (run_more runs c s e is meets) (ap must is.reaches.state ∙ there) in
        absurd (cc)

    by_turn : MatchOption (must s) (freely c s e ≡ true) (λ due. Serves c s due e) ⊎ (breaks_in c s e ≡ true) → freely c s e ≡ true
    by_turn (inl h) = by_must (must s) refl h
    by_turn (inr h) = absurd (cc)

pub less_than : (a b : ℕ) → nat_lt a b ≡ true → a < b
less_than a b h = grind (arith, nat_tests)

-- ---- the first row that passes

passes : {A : Type 0} (p : A → Bool) (rows : List A) (x : A) → slice_get rows (position_or_len p rows) ≡ Some x → p x ≡ true
passes p [] x h = absurd (cc)
passes p (row ∷ rows) x h = by_test (p row) refl h (passes p rows x)
  where
    by_test : (t : Bool) → p row ≡ t → slice_get (row ∷ rows) (cond (not t) (1 + position_or_len p rows) 0) ≡ Some x → (slice_get rows (position_or_len p rows) ≡ Some x → p x ≡ true) → p x ≡ true
    by_test true is here more = let same : row ≡ x = cc in subst (λ r. p r ≡ true) same is
    by_test false is here more =
        let next : 1 + position_or_len p rows ≡ suc (position_or_len p rows) = omega arith in
        more (ap (slice_get (row ∷ rows)) (sym next) ∙ here)

pub position_passes : {A : Type 0} (p : A → Bool) (rows : List A) (k : ℕ) (x : A) → position p rows ≡ Some k → slice_get rows k ≡ Some x → p x ≡ true
position_passes p rows k x is there = by_test (nat_lt (position_or_len p rows) (length rows)) is
  where
    by_test : (b : Bool) → cond b (Some (position_or_len p rows)) None ≡ Some k → p x ≡ true
    by_test true h = let same : position_or_len p rows ≡ k = cc in passes p rows x (ap (slice_get rows) same ∙ there)
    by_test false h = absurd (cc)

position_within : {A : Type 0} (p : A → Bool) (rows : List A) (k : ℕ) → position p rows ≡ Some k → k < length rows
position_within p rows k is = by_test (nat_lt (position_or_len p rows) (length rows)) refl is
  where
    by_test : (b : Bool) → nat_lt (position_or_len p rows) (length rows) ≡ b → cond b (Some (position_or_len p rows)) None ≡ Some k → k < length rows
    by_test true less h =
        let same : position_or_len p rows ≡ k = cc in
        let below = less_than (position_or_len p rows) (length rows) less in
        subst (λ (n : ℕ). n < length rows) same below
    by_test false less h = absurd (cc)

pub position_there : {A : Type 0} (p : A → Bool) (rows : List A) (k : ℕ) → position p rows ≡ Some k → (x : A) × (slice_get rows k ≡ Some x)
position_there {A = A} p rows k is = by_found (slice_get rows k) refl
  where
    by_found : (found : Option A) → slice_get rows k ≡ found → (x : A) × (slice_get rows k ≡ Some x)
    by_found (Some x) there = (x, there)
    by_found None there = absurd (past (position_within p rows k is) (slice_get_cases rows k).1)
      where
        past : k < length rows → ((x : A) × (k < length rows) × (slice_get rows k ≡ Some x) × (get_or rows k x ≡ x)) ⊎ ((length rows ≤ k) × (slice_get rows k ≡ None)) → ⊥
        past less (inl h) = let both : Some h.0 ≡ None = sym h.2 ∙ there in cc
        past less (inr h) = let behind = h.0 in omega (arith, less, behind)

pub own : (n : ℕ) → (n == n) ≡ true
own n = search rules

pub apart : (m n : ℕ) → (m == n) ≡ false → m ≡ n → ⊥
apart m n h is = let same : (m == n) ≡ true = subst (λ (k : ℕ). (m == k) ≡ true) is (own m) in cc

pub number_is : (m : Option ℕ) (k : ℕ) → is_number m k ≡ true → m ≡ Some k
number_is None k h = absurd (cc)
number_is (Some n) k h = ap Some (eqb-true n k h)
