use Rattle.std.proofs.Common.{◌≡◌, ℕ, List, [], ◌∷◌, ◌++◌, false, map, Some, None, sym, ap, ◌∙◌, append_assoc}
use Rattle.inf_text.specs.Quotes.{value, cut, parts}
use Rattle.inf_text.proofs.Loops.{parts_some, parts_none}
use Rattle.inf_text.proofs.quotes.values.Goals as goal

one_more : (found next all : List (List ℕ)) (cs part behind one : List ℕ) → cut 44 cs ≡ Some (part, behind) → one ≡ value part → next ≡ found ++ one ∷ [] → found ++ map value (parts false cs) ≡ all → next ++ map value (parts false behind) ≡ all
one_more found next all cs part behind one h v is so_far = rw (is, v, append_assoc) (ap (λ (ps : List (List ℕ)). found ++ map value ps) (sym (parts_some cs part behind h)) ∙ so_far)

last_one : (found next all : List (List ℕ)) (cs one : List ℕ) → cut 44 cs ≡ None → one ≡ value cs → next ≡ found ++ one ∷ [] → found ++ map value (parts false cs) ≡ all → next ≡ all
last_one found next all cs one h v is so_far = rw (is, v) (ap (λ (ps : List (List ℕ)). found ++ map value ps) (sym (parts_none cs h)) ∙ so_far)

pub loop-part-preserved : goal.loop-part-preserved
loop-part-preserved c = one_more c.loop-part.found.items _ _ c.loop-part.rest.now c.in-Some.part.now c.in-Some.behind.now _ c.in-Some.ensures c.in_ok-value.ensures c.in_ok-push.ensures.items c.loop-part.invariant

pub returns : goal.returns
returns c = last_one c.loop-part.found.items _ _ c.loop-part.rest.now _ c.in_default.ensures c.in_ok-value-2.ensures c.in_ok-push-2.ensures.items c.loop-part.invariant
