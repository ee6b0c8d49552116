use Rattle.std.proofs.Common.{◌≡◌, ℕ, ◌<◌, ◌≤◌, true, None, is_some, take}
use Rattle.nd_mem.specs.Regions.{cells_of}
use Rattle.nd_mem.proofs.regions.first_held.Given as goal

abbrev pub invariant-loop-region : goal.invariant-loop-region
invariant-loop-region l =
    record {
      low : l.at ≤ l.first;
      high : l.first ≤ l.end;
      before : (a : ℕ) → l.at ≤ a → a < l.first → cells_of (take l.region-index l.regions) a ≡ None;
      here : l.first < l.end → is_some (cells_of (take l.region-index l.regions) l.first) ≡ true;
    }
