use Rattle.std.proofs.Common.{◌≡◌, ℕ, Bool, true, false, List, [], ◌∷◌, ◌++◌, ◌<◌, ◌≤◌, length, get_or, drop, arith, sym, ap, ◌∙◌, ◌+◌, append_assoc}
use Rattle.std.proofs.lemmas.List.{append-nil}
use Rattle.inf_text.specs.Quotes.{turned, stays, resolved_behind}
use Rattle.inf_text.proofs.Loops.{resolved_stay, resolved_go, resolved_end}
use Rattle.inf_text.proofs.quotes.resolved.Goals as goal
use Rattle.inf_text.proofs.quotes.resolved.Goals.{then-stays+in_ok-push, else-stays}

stay : (text next : List ℕ) (before : ℕ) (inside now : Bool) (cs all : List ℕ) (i : ℕ) → i < length cs → stays before inside (get_or cs i 0) ≡ true → next ≡ text ++ get_or cs i 0 ∷ [] → now ≡ turned inside (get_or cs i 0)
    → text ++ resolved_behind before inside (drop i cs) ≡ all → next ++ resolved_behind (get_or cs i 0) now (drop (i + 1) cs) ≡ all
stay text next before inside now cs all i lt on is turn so_far = rw (is, turn, append_assoc) (ap (λ (xs : List ℕ). text ++ xs) (sym (resolved_stay before inside cs i lt on)) ∙ so_far)

go : (text next : List ℕ) (before : ℕ) (inside now : Bool) (cs all : List ℕ) (i : ℕ) → i < length cs → stays before inside (get_or cs i 0) ≡ false → next ≡ text → now ≡ turned inside (get_or cs i 0)
    → text ++ resolved_behind before inside (drop i cs) ≡ all → next ++ resolved_behind (get_or cs i 0) now (drop (i + 1) cs) ≡ all
go text next before inside now cs all i lt off is turn so_far = rw (is, turn) (ap (λ (xs : List ℕ). text ++ xs) (sym (resolved_go before inside cs i lt off)) ∙ so_far)

done : (text : List ℕ) (before : ℕ) (inside : Bool) (cs all : List ℕ) (i : ℕ) → length cs ≤ i → text ++ resolved_behind before inside (drop i cs) ≡ all → text ≡ all
done text before inside cs all i le so_far = sym (append-nil text) ∙ ap (λ (xs : List ℕ). text ++ xs) (sym (resolved_end before inside cs i le)) ∙ so_far

pub loop-c-preserved : goal.loop-c-preserved
loop-c-preserved c = elim c.if-stays.branch [
  | then-stays+in_ok-push w ↦ stay c.loop-c.text _ c.loop-c.before c.loop-c.inside _ c.args.chars.now _ c.loop-c.c-index (omega arith) (sym c.stays.ensures ∙ w.if-stays.true) (w.text-is ∙ w.in_ok-push.ensures.ok) c.turned-inside.ensures c.loop-c.invariant
  | else-stays w ↦ go c.loop-c.text _ c.loop-c.before c.loop-c.inside _ c.args.chars.now _ c.loop-c.c-index (omega arith) (sym c.stays.ensures ∙ w.if-stays.false) w.text-is c.turned-inside.ensures c.loop-c.invariant
]

pub returns : goal.returns
returns c = done c.loop-c.text c.loop-c.before c.loop-c.inside c.args.chars.now _ c.loop-c.c-index (omega arith) c.loop-c.invariant
