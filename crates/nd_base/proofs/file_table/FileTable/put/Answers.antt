use Rattle.nd_base.proofs.FileTable.{get-absent}
use Rattle.nd_base.proofs.file_table.FileTable.put.Goals as goal

pub add-requires : goal.add-requires
add-requires c = rw (← c.self.view_is) (get-absent c.args.name.now c.self.inside.files.items cc)
