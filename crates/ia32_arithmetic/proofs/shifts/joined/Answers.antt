use Rattle.std.proofs.Common.{arith}
use Rattle.ia32_arithmetic.proofs.Rotations.{joined_bounds}
use Rattle.ia32_arithmetic.proofs.shifts.joined.Goals as goal

pub overflow_mul-result : goal.overflow_mul-result
overflow_mul-result c = let e = joined_bounds c.args.bits c.args.a c.args.c c.args.n _ _ c.power-low.ensures c.power.ensures c.requires.within c.requires.few c.requires.fits in omega arith

pub overflow_add-result : goal.overflow_add-result
overflow_add-result c = let e = joined_bounds c.args.bits c.args.a c.args.c c.args.n _ _ c.power-low.ensures c.power.ensures c.requires.within c.requires.few c.requires.fits in omega arith

pub returns-clause-fits : goal.returns-clause-fits
returns-clause-fits c = let e = joined_bounds c.args.bits c.args.a c.args.c c.args.n _ _ c.power-low.ensures c.power.ensures c.requires.within c.requires.few c.requires.fits in omega arith
