use Rattle.std.proofs.Common.{Some, None}
use Rattle.frame_wire.specs.Reading.{seen, entries_of}
use Rattle.frame_wire.proofs.Loop.{goes, goes_on, at_start}
use Rattle.frame_wire.proofs.reading.frames_of.Goals as goal

pub loop-entry-init : goal.loop-entry-init
loop-entry-init c = rw (c.in_ok-frames.ensures.items, c.first_time-first.ensures) (at_start c.args.order c.args.bytes.now)

pub arrival-requires : goal.arrival-requires
arrival-requires c =
    let more = goes c.args.order c.first_time-first.result c.loop-entry.frames.items c.loop-entry.rest.now (Some (seen c.in-Some.entry, c.in-Some.behind.now)) (entries_of c.args.order c.args.bytes.now) c.in-Some.ensures.value c.loop-entry.invariant c.requires in
    more.0

pub loop-entry-preserved : goal.loop-entry-preserved
loop-entry-preserved c =
    goes_on c.args.order c.first_time-first.result c.loop-entry.frames.items c.push.new.self.items c.loop-entry.rest.now (seen c.in-Some.entry) c.in-Some.behind.now c.in_ok-arrival.field-0 (entries_of c.args.order c.args.bytes.now)
    c.in-Some.ensures.value c.in_ok-push.ensures.items c.in_ok-arrival.ensures c.loop-entry.invariant c.requires

pub returns : goal.returns
returns c = goes c.args.order c.first_time-first.result c.loop-entry.frames.items c.loop-entry.rest.now None (entries_of c.args.order c.args.bytes.now) c.in_default.ensures.value c.loop-entry.invariant c.requires
