use Rattle.std.proofs.Common.{sym}
use Rattle.free_ranges.proofs.RangeLists.{taken_kept, taken_takes}
use Rattle.free_ranges.proofs.ranges.FreeRanges.take_at.Goals as goal

pub invariant_of-self : goal.invariant_of-self
invariant_of-self c = taken_kept c.args.self.now c.self.inside.lengths c.self.inside.ends.items c.set.new.self c.set-2.new.self c.args.first c.args.length c.get-before.result (sym c.self.view_is) c.self.invariant c.requires.some c.requires.free c.get-before.ensures c.set.ensures c.set-2.ensures

pub returns : goal.returns
returns c = taken_takes c.args.self.now c.self.inside.lengths c.self.inside.ends.items c.set.new.self c.set-2.new.self c.args.first c.args.length c.get-before.result (sym c.self.view_is) c.self.invariant c.requires.some c.requires.free c.get-before.ensures c.set.ensures c.set-2.ensures
