use Rattle.inf_text.proofs.LayoutFiles.{laid_out_is_read}
use Rattle.inf_text.proofs.laws.laid_out_is_read.Goals as goal

pub returns : goal.returns
returns c = laid_out_is_read
