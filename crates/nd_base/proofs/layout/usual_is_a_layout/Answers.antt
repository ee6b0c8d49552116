use Rattle.nd_base.proofs.Usual.{usual_is_layout}
use Rattle.nd_base.proofs.layout.usual_is_a_layout.Goals as goal

pub returns : goal.returns
returns c = usual_is_layout
