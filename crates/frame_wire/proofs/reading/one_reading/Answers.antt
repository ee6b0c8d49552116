use Rattle.frame_wire.proofs.Files.{one_value, one_refusal, never_both}
use Rattle.frame_wire.proofs.reading.one_reading.Goals as goal

pub returns-clause-frames : goal.returns-clause-frames
returns-clause-frames c = one_value

pub returns-clause-refusals : goal.returns-clause-refusals
returns-clause-refusals c = one_refusal

pub returns-clause-apart : goal.returns-clause-apart
returns-clause-apart c = never_both
