use Rattle.run_enters.proofs.Early.{all_free}
use Rattle.run_enters.proofs.laws.all_are_free.Goals as goal

pub returns : goal.returns
returns c = all_free c.entry_laws.ensures.enter c.each_duty_is_served.ensures.drawn c.lists_keep_their_lengths.ensures
