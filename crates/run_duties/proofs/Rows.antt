-- Rows, tests that hold, and how a run goes on.
use Rattle.std.proofs.Common.{◌≡◌, ℕ, zero, suc, ◌+◌, Bool, true, false, cond, ◌&&◌, ◌==◌, List, [], ◌∷◌, ◌++◌, Option, Some, None, refl, sym, ap, ◌∙◌, subst, inl, inr, slice_get, arith}
use Rattle.std.specs.Prelude.{count_by}
use Rattle.std.specs.List.{position}
use Rattle.std.specs.Option.{MatchOption, option_map_or}
use Rattle.std.proofs.lemmas.List.Quantifiers.{position-Some}
use Rattle.std.proofs.lemmas.List.Sums.{sum_by-append}
use Rattle.std.proofs.lemmas.Option.{slice_get-get_or}
use Rattle.call_log.specs.declared.entry.Entry.{Entry}
use Rattle.owner_machine.specs.State.{Owner, at, change}
use Rattle.owner_machine.specs.Laws.{number}
use Rattle.owner_machine.specs.Machine.{rule_against, has_case, last_rule}
use Rattle.owner_machine.specs.Must.{is_served}
use Rattle.legal_run.specs.State.{Inputs, State, start}
use Rattle.legal_run.specs.After.{after}
use Rattle.legal_run.specs.Must.{Due, must, Serves}
use Rattle.legal_run.specs.EntryLaws.{GoesOn}
use Rattle.legal_run.specs.Run.{RunFrom, now_from, now, Meets, freely, breaks_in}

-- ---- tests

pub true_both : (a b : Bool) → (a && b) ≡ true → (a ≡ true) × (b ≡ true)
true_both true b h = (refl, h)
true_both false b h = absurd (cc)

-- an entry that breaks no rule has its case
pub case_of : (o : Owner) (e : Entry) → rule_against o e ≡ None → has_case o e ≡ true
case_of o e h = by_test (is_served o e) (has_case o e) h
  where
    by_test : (b d : Bool) → cond (b && d) (last_rule o e) (Some (Rattle.owner_machine.specs.Machine.rule_of e)) ≡ None → d ≡ true
    by_test true true h = refl
    by_test true false h = absurd (cc)
    by_test false d h = absurd (cc)

-- ---- rows

pub kept : {A : Type 0} (test : A → Bool) (f : A → A) (rows : List A) (j k : ℕ) → ((row : A) → test (f row) ≡ test row) → at test (change f rows j) k ≡ at test rows k
kept test f [] j k w = refl
kept test f (row ∷ rows) zero zero w = w row
kept test f (row ∷ rows) zero (suc k) w = refl
kept test f (row ∷ rows) (suc j) zero w = refl
kept test f (row ∷ rows) (suc j) (suc k) w = kept test f rows j k w

suc_other : (m n : ℕ) → (suc m == suc n) ≡ false → (m == n) ≡ false
suc_other m n h = grind arith

pub other_row : {A : Type 0} (test : A → Bool) (f : A → A) (rows : List A) (j k : ℕ) → (j == k) ≡ false → at test (change f rows j) k ≡ at test rows k
other_row test f [] j k h = refl
other_row test f (row ∷ rows) zero zero h = absurd (cc)
other_row test f (row ∷ rows) zero (suc k) h = refl
other_row test f (row ∷ rows) (suc j) zero h = refl
other_row test f (row ∷ rows) (suc j) (suc k) h = other_row test f rows j k (suc_other j k h)

pub count_cons : {A : Type 0} (p : A → Bool) (row : A) (rows : List A) → count_by p (row ∷ rows) ≡ number (p row) + count_by p rows
count_cons p row rows = let parts = sum_by-append (λ x. cond (p x) 1 0) (row ∷ []) rows in omega (arith, parts)

-- the first row that passes passes
pub position_passes : {A : Type 0} (test : A → Bool) (rows : List A) (k : ℕ) → position test rows ≡ Some k → at test rows k ≡ true
position_passes test [] k found = absurd (cc)
position_passes test (x ∷ xs) k found = let h = position-Some test (x ∷ xs) k x found in ap (λ o. option_map_or test o false) (slice_get-get_or (x ∷ xs) k x h.0) ∙ h.1

-- the row that passes
pub record IsRow {A : Type 0} (test : A → Bool) (rows : List A) (k : ℕ) : Type 0 where
  pub row : A
  pub there : slice_get rows k ≡ Some row
  pub passes : test row ≡ true

pub row_at : {A : Type 0} (test : A → Bool) (rows : List A) (k : ℕ) → at test rows k ≡ true → IsRow test rows k
row_at {A} test rows k h = by_row (slice_get rows k) refl h
  where
    by_row : (m : Option A) → slice_get rows k ≡ m → option_map_or test m false ≡ true → IsRow test rows k
    by_row None is h = absurd (cc)
    by_row (Some row) is h = record { row = row; there = is; passes = h }

pub at_row : {A : Type 0} (test : A → Bool) (rows : List A) (k : ℕ) (row : A) → slice_get rows k ≡ Some row → at test rows k ≡ test row
at_row test rows k row is = ap (λ m. option_map_or test m false) is

-- ---- runs

-- what holds at the start, and behind each entry that may stand where it holds, holds of every state of a run
pub kept_from : (c : Inputs) (P : State → Type 0) → ((s : State) (e : Entry) → P s → Meets c s e → P (after c s e)) → (s : State) (log : List Entry) → P s → RunFrom c s log
    → P (now_from c s log)
unfolding RunFrom now_from
kept_from c P step s [] p run = p
kept_from c P step s (e ∷ log) p run = kept_from c P step (after c s e) log (step s e p run.0) run.1

pub run_parts : (c : Inputs) (s : State) (log : List Entry) (e : Entry) → RunFrom c s (log ++ e ∷ []) → RunFrom c s log × Meets c (now_from c s log) e
unfolding RunFrom now_from
run_parts c s [] e run = (tt, run.0)
run_parts c s (f ∷ log) e run = let more = run_parts c (after c s f) log e run.1 in ((run.0, more.0), more.1)

now_more : (c : Inputs) (s : State) (log : List Entry) (e : Entry) → now_from c s (log ++ e ∷ []) ≡ after c (now_from c s log) e
unfolding now_from
now_more c s [] e = refl
now_more c s (first ∷ log) e = now_more c (after c s first) log e

pub next : (c : Inputs) (log : List Entry) (e : Entry) → now c (log ++ e ∷ []) ≡ after c (now c log) e
next c log e = now_more c (start c) log e

pub due_meets : (c : Inputs) (s : State) (due : Due) (e : Entry) → must s ≡ Some due → Serves c s due e → rule_against s.owner e ≡ None → Meets c s e
due_meets c s due e is serves owner = record {
  owner = owner;
  turn = inl (subst (λ (d : Option Due). MatchOption d (freely c s e ≡ true) (λ x. Serves c s x e)) (sym is) serves);
}

-- and what serves what must stand is how a run goes on
pub goes_by : (c : Inputs) (s : State) (due : Due) (e : Entry) → must s ≡ Some due → Serves c s due e → Meets c s e → GoesOn c s
goes_by c s due e is serves meets = record { entry = e; meets = meets; asked = record { due = due; must = is; serves = serves } }

-- what stands there in its turn serves it
pub in_turn : (c : Inputs) (s : State) (due : Due) (e : Entry) → must s ≡ Some due → breaks_in c s e ≡ false → Meets c s e → Serves c s due e
in_turn c s due e is other meets = elim meets.turn [
  | inl h ↦ subst (λ (d : Option Due). MatchOption d (freely c s e ≡ true) (λ x. Serves c s x e)) is h
  | inr h ↦ absurd (cc)
]
