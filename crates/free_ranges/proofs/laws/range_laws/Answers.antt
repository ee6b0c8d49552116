use Rattle.free_ranges.proofs.laws.range_laws.Goals as goal
use Rattle.free_ranges.proofs.LawLemmas.{apart, taken, stays, stays_beside, given}

pub returns : goal.returns
returns c = record {
  apart = apart;
  taken = taken;
  stays = stays;
  stays_beside = stays_beside;
  given = given;
}
