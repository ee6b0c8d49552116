use Rattle.nd_base.proofs.FileCalls.{OnlyReads-trans, readable-reads, writable-reads, told-reads}
use Rattle.nd_base.proofs.laws.looks_add_up.Goals as goal

pub returns : goal.returns
returns g c = record {
  in_a_row = λ old mid new first second. OnlyReads-trans first second;
  readable = λ old new name only may. readable-reads only name may;
  writable = λ old new name only may. writable-reads only name may;
  told = λ old new files only is. told-reads only files is;
}
