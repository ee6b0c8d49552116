use Rattle.asm_encode.proofs.Chosen.{template_one}
use Rattle.asm_encode.proofs.templates.template_is_one.Goals as goal

pub returns : goal.returns
returns c = template_one c.chosen_is_one.ensures
