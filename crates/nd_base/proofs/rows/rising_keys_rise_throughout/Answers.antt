use Rattle.nd_base.proofs.Rising.{rise_all, rise_from}
use Rattle.nd_base.proofs.rows.rising_keys_rise_throughout.Goals as goal

pub returns : goal.returns
returns c = λ keys. (rise_all keys, rise_from keys)
