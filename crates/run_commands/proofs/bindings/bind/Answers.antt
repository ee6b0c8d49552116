use Rattle.std.proofs.Common.{refl}
use Rattle.call_log.specs.declared.entry.Entry.TheVariants as entries
use Rattle.run_commands.proofs.Settling.{settles_by}
use Rattle.run_commands.proofs.bindings.bind.Goals as goal

pub returns : goal.returns
returns g c =
    let e = entries.Bind c.args.driver c.args.adapter in
    settles_by c.run_laws.ensures c.rooms_stay.ensures g.c e c.args.run.now c.bind.new.self c.requires.0 c.requires.1.1 (c.moves_add.ensures g.c e c.args.run.now c.bind.new.self c.bind.ensures) refl refl refl refl
