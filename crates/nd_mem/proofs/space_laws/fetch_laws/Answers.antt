use Rattle.nd_mem.proofs.Runs.{executable_le}
use Rattle.nd_mem.proofs.SpaceLaws.{executable_each, executable_longest, executable_written}
use Rattle.nd_mem.proofs.space_laws.fetch_laws.Goals as goal

pub returns : goal.returns
returns c = record { most = executable_le; each = executable_each; longest = executable_longest; written = executable_written }
