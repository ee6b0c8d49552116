use Rattle.std.proofs.Common.{◌≡◌, ◌<◌, ◌+◌, ◌-◌, ℕ, suc, [], ◌∷◌, refl, ap, ◌∙◌, arith}
use Rattle.log_fields.specs.Codes.{find}
use Rattle.log_fields.specs.Names.{import_name, imports_all, counted}
use Rattle.log_fields.proofs.names.find_import.Goals as goal

one_more : (n m : ℕ) → counted n (suc m) ≡ n ∷ counted (n + 1) m
unfolding counted
one_more n m = refl

next : (n : ℕ) → n < 65 → counted n (65 - n) ≡ n ∷ counted (n + 1) (65 - (n + 1))
next n h = let e : 65 - n ≡ suc (65 - (n + 1)) = omega arith in ap (counted n) e ∙ one_more n (65 - (n + 1))

pub loop-n-init : goal.loop-n-init
unfolding imports_all
loop-n-init c = refl

pub loop-n-preserved : goal.loop-n-preserved
loop-n-preserved c = let e = next c.loop-n.n (omega arith) in grind (arith, e)

pub returns-then-eq : goal.returns-then-eq
returns-then-eq c = let e = next c.loop-n.n (omega arith) in grind (arith, e)

no_more : (n : ℕ) → counted n 0 ≡ []
unfolding counted
no_more n = refl

pub returns : goal.returns
returns c = let z : 65 - c.loop-n.n ≡ 0 = omega arith in let e : counted c.loop-n.n (65 - c.loop-n.n) ≡ [] = ap (counted c.loop-n.n) z ∙ no_more c.loop-n.n in grind (arith, e)
