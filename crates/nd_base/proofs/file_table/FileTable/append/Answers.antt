use Rattle.nd_base.proofs.FileTable.{get-absent}
use Rattle.nd_base.proofs.file_table.FileTable.append.Goals as goal

pub add-requires : goal.add-requires
add-requires c = rw (← c.self.view_is) (get-absent c.args.name.now c.self.inside.files.items cc)

pub returns-in_ok-bytes-in-None-clause-ok : goal.returns-in_ok-bytes-in-None-clause-ok
returns-in_ok-bytes-in-None-clause-ok c =
    let absent = rw c.self.view_is at (get-absent c.args.name.now c.self.inside.files.items cc) in
    rw (absent, ← c.in_ok-bytes-in-None.ensures) c.add.ensures.ok
