use Rattle.std.proofs.Common.{◌≡◌, Err, rules}
use Rattle.import_slots.specs.Slots.{first_unknown}
use Rattle.ndis_run.specs.Shown.{served}
use Rattle.ndis_run.proofs.Judging.{unserved_line}
use Rattle.ndis_run.proofs.run_zero.served.Goals as goal

pub returns-in_ok-unknown_import_line-in-Err-UnknownImport-clause-refused : goal.returns-in_ok-unknown_import_line-in-Err-UnknownImport-clause-refused
returns-in_ok-unknown_import_line-in-Err-UnknownImport-clause-refused c = λ line e.
    let is : served c.args.image.now (first_unknown c.args.image.now.imports) ≡ Err line = search rules in
    (unserved_line _ _ line is, is)
