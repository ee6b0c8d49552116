-- What is answered once the model line and its install section are found, and the first line at fault.
use Rattle.std.proofs.Common.{inl, inr, ◌≡◌, ℕ, ◌≤◌, Bool, true, false, ◌&&◌, ltb, List, [], ◌∷◌, ◌++◌, Option, None, Some, refl, sym, ◌∙◌, subst, arith, append_assoc, ◌≢◌, Result, Ok, Err}
use Rattle.std.specs.List.{fold, list_any}
use Rattle.std.proofs.lemmas.Bool.{cases_Bool, or_parts, or_from}
use Rattle.std.proofs.lemmas.Bool.Decides.{nat_tests}
use Rattle.std.proofs.lemmas.List.{append-nil}
use Rattle.std.proofs.lemmas.List.Folds.{list_any-append}
use Rattle.std.proofs.lemmas.List.Elements.{Contains-push, Contains-append_left}
use Rattle.inf_text.specs.Sections.{Line, Section, lines_named}
use Rattle.inf_file.specs.Earliest.{earlier_if, earliest, IsEarliest, IsFirst, HasNone}
use Rattle.std.specs.Prelude.{codes}
use Rattle.inf_file.specs.Strings.{line_lacks}
use Rattle.inf_file.specs.Models.{is_signed}
use Rattle.inf_file.specs.Rows.{is_bad, params_of}
use Rattle.inf_file.specs.Parameters.{strings_in, model_in, install_of, directives_of, rows_named, unless_bad, unless_lacking, of_rows, answer, parameters_of}
use Rattle.inf_file.specs.ByName.{lines_at_some, rows_of, LacksNone, FirstLacking, BadNone, FirstBad, lines_with, lines_for}
use Rattle.inf_file.specs.declared.param.Param.{Param}
use Rattle.inf_file.specs.declared.param.ParamRefusal.{ParamRefusal}
use Rattle.inf_file.specs.declared.param.ParamRefusal.TheVariants.{NoVersion, NoModel, NoInstall, NoString, BadValue}

-- ---- the line that is found is the first of the file that passes

none_passes : (f g : Line → Bool) → ((x : Line) → f x ≡ false → g x ≡ false) → (ls : List Line) → list_any f ls ≡ false → list_any g ls ≡ false
none_passes f g weaker [] h = refl
none_passes f g weaker (l ∷ ls) h = let p = or_parts (f l) (list_any f ls) h in or_from (g l) (list_any g ls) (weaker l p.0) (none_passes f g weaker ls p.1)

module _ (test : Line → Bool) where
  abbrev is_before : ℕ → Line → Bool
  is_before n line = test line && ltb line.number n

  not_before : (n : ℕ) (line : Line) → n ≤ line.number → is_before n line ≡ false
  not_before n line h = let off : ltb line.number n ≡ false = search (arith, nat_tests) in elim (cases_Bool (test line)) [ inl on ↦ rw (on, off) refl | inr fails ↦ rw fails refl ]

  nowhere : (n : ℕ) (line : Line) → test line ≡ false → is_before n line ≡ false
  nowhere n line h = rw h refl

  sooner : (m n : ℕ) → m ≤ n → (line : Line) → is_before n line ≡ false → is_before m line ≡ false
  sooner m n le line h = elim (cases_Bool (test line)) [
    | inl on ↦ let h2 : ltb line.number n ≡ false = rw on at h in let off : ltb line.number m ≡ false = grind (arith, nat_tests) in rw (on, off) refl
    | inr off ↦ rw off refl
  ]

  none_more : (f : Line → Bool) (ls : List Line) (line : Line) → list_any f ls ≡ false → f line ≡ false → list_any f (ls ++ line ∷ []) ≡ false
  none_more f ls line h k = list_any-append f ls (line ∷ []) ∙ or_from (list_any f ls) _ h (rw k refl)

  kept : (ls : List Line) (m line : Line) → IsEarliest test ls m → is_before m.number line ≡ false → IsEarliest test (ls ++ line ∷ []) m
  kept ls m line r h = record { there = Contains-append_left ls (line ∷ []) m r.there; passes = r.passes; none_before = none_more (is_before m.number) ls line r.none_before h }

  taken : (ls : List Line) (line : Line) → test line ≡ true → list_any (is_before line.number) ls ≡ false → IsEarliest test (ls ++ line ∷ []) line
  taken ls line on h = record { there = Contains-push ls line; passes = on; none_before = none_more (is_before line.number) ls line h (not_before line.number line (omega arith)) }

  step : (ls : List Line) (o : Option Line) (line : Line) → IsFirst test ls o → IsFirst test (ls ++ line ∷ []) (earlier_if test o line)
  step ls None line h = elim (cases_Bool (test line)) [
    | inl on ↦ rw on (taken ls line on (none_passes test (is_before line.number) (nowhere line.number) ls h))
    | inr off ↦ rw off (none_more test ls line h off)
  ]
  step ls (Some m) line r = elim (cases_Bool (test line)) [
    | inl on ↦ rw on (elim (cases_Bool (ltb line.number m.number)) [
      | inl less ↦ let le : line.number ≤ m.number = grind (arith, nat_tests) in rw less (taken ls line on (none_passes (is_before m.number) (is_before line.number) (sooner line.number m.number le) ls r.none_before))
      | inr more ↦ let le : m.number ≤ line.number = grind (arith, nat_tests) in rw more (kept ls m line r (not_before m.number line le))
    ])
    | inr off ↦ rw off (kept ls m line r (nowhere m.number line off))
  ]

  steps : (ys xs : List Line) (o : Option Line) → IsFirst test xs o → IsFirst test (xs ++ ys) (fold (earlier_if test) o ys)
  steps [] xs o h = subst (λ (ls : List Line). IsFirst test ls o) (sym (append-nil xs)) h
  steps (y ∷ ys) xs o h = subst (λ (ls : List Line). IsFirst test ls (fold (earlier_if test) (earlier_if test o y) ys)) (append_assoc xs (y ∷ []) ys) (steps ys (xs ++ y ∷ []) (earlier_if test o y) (step xs o y h))

  pub earliest_is_first : (ls : List Line) → IsFirst test ls (earliest test ls)
  unfolding earliest
  earliest_is_first ls = steps ls [] None refl

  pub earliest-some : (ls : List Line) (line : Line) → earliest test ls ≡ Some line → IsEarliest test ls line
  earliest-some ls line h = subst (λ (o : Option Line). IsFirst test ls o) h (earliest_is_first ls)

  pub earliest-none : (ls : List Line) → earliest test ls ≡ None → HasNone test ls
  earliest-none ls h = subst (λ (o : Option Line). IsFirst test ls o) h (earliest_is_first ls)

-- ---- what is answered once the model line and its install section are found

module _ (ss : List Section) (id : List ℕ) where
  -- refusals that come before any row is read
  record IsLater (r : Result (List Param) ParamRefusal) : Type 0 where
    version : r ≢ Err NoVersion
    model : r ≢ Err NoModel
    install : r ≢ Err NoInstall

  found : (r : Result (List Param) ParamRefusal) (model : Option Line) (install : Option ℕ) → IsLater r → answer ss model install ≡ r
      → let directives = directives_of (lines_at_some ss install) in let rows = rows_named (strings_in ss) ss directives in r ≡ of_rows (strings_in ss) (lines_with ss directives rows model) rows
  found r None install later h = absurd (later.model (sym h))
  found r (Some model) None later h = absurd (later.install (sym h))
  found r (Some model) (Some install) later h = sym h

  given : (r : Result (List Param) ParamRefusal) → IsLater r → parameters_of ss id ≡ r → r ≡ of_rows (strings_in ss) (lines_for ss id) (rows_of ss id)
  unfolding parameters_of rows_of
  given r later h = elim (cases_Bool (is_signed (lines_named (codes "Version") ss))) [
    | inl on ↦ let signed = rw on at h in found r (model_in ss id) (install_of ss id) later signed
    | inr off ↦ let unsigned : ◌≡◌ {A = Result (List Param) ParamRefusal} (Err NoVersion) r = rw off at h in absurd (later.version (sym unsigned))
  ]

  -- ---- the three answers that are left

  answer-ok : (lacking bad : Option Line) (ps params : List Param) → Ok params ≡ unless_lacking lacking (unless_bad bad ps) → (lacking ≡ None) × (bad ≡ None) × (params ≡ ps)
  answer-ok (Some l) bad ps params h = absurd (cc)
  answer-ok None (Some l) ps params h = absurd (cc)
  answer-ok None None ps params h = (refl, refl, cc)

  answer-lacking : (lacking bad : Option Line) (ps : List Param) (n : ℕ) → Err (NoString n) ≡ unless_lacking lacking (unless_bad bad ps) → (line : Line) × (line.number ≡ n) × (lacking ≡ Some line)
  answer-lacking (Some l) bad ps n h = (l, cc, refl)
  answer-lacking None (Some l) ps n h = absurd (cc)
  answer-lacking None None ps n h = absurd (cc)

  answer-bad : (lacking bad : Option Line) (ps : List Param) (n : ℕ) → Err (BadValue n) ≡ unless_lacking lacking (unless_bad bad ps) → (lacking ≡ None) × (line : Line) × (line.number ≡ n) × (bad ≡ Some line)
  answer-bad (Some l) bad ps n h = absurd (cc)
  answer-bad None (Some l) ps n h = (refl, l, cc, refl)
  answer-bad None None ps n h = absurd (cc)

  pub all-ok : (params : List Param) → parameters_of ss id ≡ Ok params
      → (earliest (line_lacks (strings_in ss)) (lines_for ss id) ≡ None) × (earliest (is_bad (strings_in ss)) (rows_of ss id) ≡ None) × (params ≡ params_of (strings_in ss) (rows_of ss id))
  all-ok params h = answer-ok _ _ _ params (given (Ok params) (record { version = λ e. absurd cc; model = λ e. absurd cc; install = λ e. absurd cc }) h)

  pub all-lacking : (n : ℕ) → parameters_of ss id ≡ Err (NoString n) → (line : Line) × (line.number ≡ n) × (earliest (line_lacks (strings_in ss)) (lines_for ss id) ≡ Some line)
  all-lacking n h = answer-lacking _ (earliest (is_bad (strings_in ss)) (rows_of ss id)) (params_of (strings_in ss) (rows_of ss id)) n (given (Err (NoString n)) (record { version = λ e. absurd cc; model = λ e. absurd cc; install = λ e. absurd cc }) h)

  pub all-bad : (n : ℕ) → parameters_of ss id ≡ Err (BadValue n)
      → (earliest (line_lacks (strings_in ss)) (lines_for ss id) ≡ None) × (line : Line) × (line.number ≡ n) × (earliest (is_bad (strings_in ss)) (rows_of ss id) ≡ Some line)
  all-bad n h = answer-bad _ _ (params_of (strings_in ss) (rows_of ss id)) n (given (Err (BadValue n)) (record { version = λ e. absurd cc; model = λ e. absurd cc; install = λ e. absurd cc }) h)

pub answered : (ss : List Section) (id : List ℕ) (params : List Param) → parameters_of ss id ≡ Ok params → params ≡ params_of (strings_in ss) (rows_of ss id)
answered ss id params h = (all-ok ss id params h).2

-- ---- the line that a refusal names is the first one at fault

module _ (ss : List Section) (id : List ℕ) where
  pub no_string : (n : ℕ) → parameters_of ss id ≡ Err (NoString n) → FirstLacking ss id n
  no_string n h = let r = all-lacking ss id n h in (r.0, r.1, earliest-some (line_lacks (strings_in ss)) (lines_for ss id) r.0 r.2)

  pub bad_value : (n : ℕ) → parameters_of ss id ≡ Err (BadValue n) → LacksNone ss id × FirstBad ss id n
  bad_value n h = let r = all-bad ss id n h in (earliest-none (line_lacks (strings_in ss)) (lines_for ss id) r.0, (r.1, r.2, earliest-some (is_bad (strings_in ss)) (rows_of ss id) r.1 r.3))

  pub no_fault : (params : List Param) → parameters_of ss id ≡ Ok params → LacksNone ss id × BadNone ss id
  no_fault params h = let r = all-ok ss id params h in (earliest-none (line_lacks (strings_in ss)) (lines_for ss id) r.0, earliest-none (is_bad (strings_in ss)) (rows_of ss id) r.1)
