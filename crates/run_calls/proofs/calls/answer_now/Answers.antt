use Rattle.std.proofs.Common.{◌≡◌, refl, ap, subst, arith, le_refl}
use Rattle.call_verdicts.specs.declared.deeds.Deed.TheVariants as deeds
use Rattle.legal_run.specs.Calls.{Did, Made, did}
use Rattle.legal_run.specs.Calls as calls
use Rattle.legal_run.specs.After.{calling}
use Rattle.run_stops.specs.Standing.{point_of, state_of}
use Rattle.run_calls.proofs.Deeds.{IsServed, did_served, judged_as, made_as, world_stays}
use Rattle.run_calls.proofs.Judging.{lost_asking, opens_as, settled_asking}
use Rattle.run_calls.proofs.calls.answer_now.Goals as goal

pub break_rule-requires : goal.break_rule-requires
break_rule-requires g c =
    let q = c.requires in
    let a = c.args in
    let s = state_of g.c a.run.now in
    let rule = c.in-Ok-Broken.rule in
    let does : did s a.x a.calling.import a.words ≡ calls.Broken rule.0 = judged_as s a.x a.call.now a.calling.import a.words c.in-Ok-Broken.field-0 (deeds.Broken rule) q.1.1.0.0 q.1.1.0.1 c.in-Ok-Broken.field-0-is c.in-Ok-Broken.ensures in
    let range = subst IsServed does (did_served s a.x a.calling.import a.words a.reply a.run.now.world q.1.1.1.1.1.1.1.1.1.1 q.1.1.1.0) in
    let room = q.1.1.1.1.1.1.1.1.1.0 in (
      settled_asking g.c a.run.now (world_stays s a.x a.calling.import a.words a.reply a.run.now.world rule.0 q.1.1.1.1.1.1.1.1.1.1 q.1.1.1.0 does) q.0,
      (opens_as (point_of g.c a.run.now) a.x a.calling a.words q.1.0 (ap (calling a.calling.import a.words) does), (does, (range, (q.1.1.1.1.1.1.1.1.0, omega (arith, room))))),
    )

pub returns-in-Err : goal.returns-in-Err
returns-in-Err g c = lost_asking g.c c.args.run.now c.args.run.now.log refl (le_refl c.args.run.now.log.spare) c.requires.0

pub answer_with_room-requires : goal.answer_with_room-requires
answer_with_room-requires g c =
    let q = c.requires in
    let a = c.args in
    let s = state_of g.c a.run.now in
    let d = c.in-Ok-Made in
    let does = judged_as s a.x a.call.now a.calling.import a.words d.field-0 (deeds.Made d.made d.field-0-1 d.field-0-2) q.1.1.0.0 q.1.1.0.1 d.field-0-is d.ensures in
    let makes = made_as (did s a.x a.calling.import a.words) d.made d.field-0-1 d.field-0-2 does (did_served s a.x a.calling.import a.words a.reply a.run.now.world q.1.1.1.1.1.1.1.1.1.1 q.1.1.1.0) in (
      q.0,
      (
        opens_as (point_of g.c a.run.now) a.x a.calling a.words q.1.0 (ap (calling a.calling.import a.words) makes.0),
        (makes.0, (makes.1, (q.1.1.1.0, (q.1.1.1.1.0, (q.1.1.1.1.1.0, (q.1.1.1.1.1.1.0, (q.1.1.1.1.1.1.1.0, (q.1.1.1.1.1.1.1.1.0, q.1.1.1.1.1.1.1.1.1.0)))))))),
      ),
    )
