use Rattle.ndis_run.proofs.EndsLaws.{one_form}
use Rattle.ndis_run.proofs.laws.words_have_one_form.Goals as goal

pub returns : goal.returns
returns c = one_form
