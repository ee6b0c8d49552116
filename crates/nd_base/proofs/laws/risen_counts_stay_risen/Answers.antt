use Rattle.nd_base.proofs.FileCalls.{Rose-earlier, Rose-later}
use Rattle.nd_base.proofs.laws.risen_counts_stay_risen.Goals as goal

pub returns : goal.returns
returns c = record { earlier = λ first before now le rose. Rose-earlier before now le rose; later = Rose-later }
