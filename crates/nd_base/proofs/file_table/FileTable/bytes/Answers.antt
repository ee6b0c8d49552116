use Rattle.std.proofs.Common.{sym}
use Rattle.nd_base.proofs.FileTable.{get-absent, get-present}
use Rattle.nd_base.proofs.file_table.FileTable.bytes.Goals as goal

pub returns-in_err-place : goal.returns-in_err-place
returns-in_err-place c =
    rw (← c.self.view_is, get-absent c.args.name.now c.self.inside.files.items (sym (rw c.deref.ensures.value at c.in_err-place.ensures)), c.from_residual.ensures)

pub returns : goal.returns
returns c =
    rw (← c.self.view_is, get-present c.args.name.now c.self.inside.files.items c.in_ok-place.place c.index.result.now (sym (rw c.deref.ensures.value at c.in_ok-place.ensures)) c.index.ensures, c.as_slice.ensures)
