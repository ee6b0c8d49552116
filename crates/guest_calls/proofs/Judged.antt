-- A call at a level in its range, with all its words, comes to what its import's row answers.
use Rattle.std.proofs.Common.{◌≡◌, ◌≤◌, ℕ, Bool, true, false, refl, ap, sym, ◌∙◌, subst, arith, Result, Ok, List, length, slice_index_or}
use Rattle.std.specs.Prelude.{◌-◌, nat_le}
use Rattle.std.proofs.lemmas.Bool.Decides.{nat_tests}
use Rattle.nd_base.specs.declared.numbers.Breach.{Breach}
use Rattle.irql_lock.specs.LockState.{level_of}
use Rattle.irql_lock.specs.LockMoves.{allow, in_range}
use Rattle.import_table.specs.Table.{Row}
use Rattle.guest_world.specs.declared.world.World.{World}
use Rattle.guest_world.specs.declared.answer.Answer.{Answer}
use Rattle.guest_world.specs.declared.answer.Caller.{Caller}
use Rattle.guest_world.specs.declared.answer.CallRefusal.{CallRefusal}
use Rattle.import_answers.specs.Outcomes.{Outcome, asks, arguments_rule}
use Rattle.import_answers.specs.Answers.{answering, none_such, eight, level_rule, outcome}
use Rattle.call_replies.specs.Wanting.{ComesOr}

is_true : (b : Bool) (broken : Breach) (u : Unit {0}) → ◌≡◌ {A = Result (Unit {0}) Breach} (allow b broken tt) (Ok u) → b ≡ true
is_true true broken u h = refl
is_true false broken u h = cc

asked : (b : Bool) (rule : ℕ) (o : Outcome) → b ≡ true → asks b rule o ≡ o
asked true rule o h = refl
asked false rule o h = cc

at_most : (n m : ℕ) → n ≤ m → nat_le n m ≡ true
at_most n m h = grind (arith, nat_tests)

pub judged : (P : World → World → Type 0) (w : World) (x : Caller) (n : ℕ) (row it : Row) (words given : List ℕ) (u : Unit {0}) (r : Result Answer CallRefusal) (v : World)
    → row ≡ it → it.import ≡ n → ◌≡◌ {A = Result (Unit {0}) Breach} (in_range (level_of w.levels x.context) row.low row.high) (Ok u) → row.words ≤ length words → eight words ≡ given
    → ComesOr P (slice_index_or answering (n - 1) none_such w x given) w r v → ComesOr P (outcome w x it words) w r v
judged P w x n row it words given u r v is numbered level many same h =
    let full : outcome w x row words ≡ slice_index_or answering (row.import - 1) none_such w x given =
    asked _ level_rule _ (is_true _ _ u level) ∙ asked (nat_le row.words (length words)) arguments_rule _ (at_most row.words (length words) many)
    ∙ ap (λ ws. slice_index_or answering (row.import - 1) none_such w x ws) same in
    let number : row.import ≡ n = ap (λ (r : Row). r.import) is ∙ numbered in
    let all : outcome w x it words ≡ slice_index_or answering (n - 1) none_such w x given =
    ap (λ (r : Row). outcome w x r words) (sym is) ∙ full ∙ ap (λ k. slice_index_or answering (k - 1) none_such w x given) number in
    subst (λ (o : Outcome). ComesOr P o w r v) (sym all) h
