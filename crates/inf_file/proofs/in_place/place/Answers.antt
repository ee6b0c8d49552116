use Rattle.std.proofs.Common.{◌∙◌}
use Rattle.inf_file.proofs.InPlaceLaws.{placed}
use Rattle.inf_file.proofs.in_place.place.Goals as goal

pub returns : goal.returns
returns c = c.first_named.ensures ∙ placed _ _ c.args.inf.now
