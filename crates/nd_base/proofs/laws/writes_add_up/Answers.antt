use Rattle.nd_base.proofs.FileCalls.{OnlyWrites-trans, readable-writes, writable-writes}
use Rattle.nd_base.proofs.laws.writes_add_up.Goals as goal

pub returns : goal.returns
returns g c = record {
  in_a_row = λ old mid new first second. OnlyWrites-trans first second;
  readable = λ old new name only may. readable-writes only name may;
  writable = λ old new name only may. writable-writes only name may;
}
