use Rattle.std.proofs.Common.{◌≡◌, [], ◌∷◌, Option, ap, ◌∙◌, arith}
use Rattle.nd_base.specs.declared.numbers.AdapterNo.{AdapterNo}
use Rattle.legal_run.specs.State.{Stops}
use Rattle.legal_run.specs.After.{adapters_stopped}
use Rattle.run_stops.specs.Standing.{state_of}
use Rattle.run_stops.specs.Stopping.{owner_of}
use Rattle.run_stops.proofs.Several.{must_of_stops, one_stopped, room_for_one, stands_if_due}
use Rattle.run_stops.proofs.stops.stop_for.Goals as goal

pub stop_next-requires : goal.stop_next-requires
stop_next-requires g c =
    let due : (state_of g.c c.args.run.now).next ≡ Stops c.args.cause (c.in-Some.a.0 ∷ []) = c.requires.1.0 ∙ ap (λ (a : Option AdapterNo). Stops c.args.cause (adapters_stopped g.c (state_of g.c c.args.run.now) a)) c.in-Some.is in
    let must_be = must_of_stops (state_of g.c c.args.run.now) c.args.cause (c.in-Some.a.0 ∷ []) due c.requires.1.1.0 in
    let is = stands_if_due c.each_duty_is_served.ensures g.c c.in-Some.a c.args.cause c.args.run.now c.requires.0 must_be in
    let one = room_for_one (owner_of g.c c.args.run.now) c.in-Some.a.0 is in
    let all = c.requires.1.1.1.1.1.1.1.1 in
    (c.requires.0, (must_be, (c.requires.1.1.1.1.0, (c.requires.1.1.1.1.1.1.1.0, omega (arith, one, all)))))

pub returns-in-Some : goal.returns-in-Some
returns-in-Some g c =
    let due : (state_of g.c c.args.run.now).next ≡ Stops c.args.cause (c.in-Some.a.0 ∷ []) = c.requires.1.0 ∙ ap (λ (a : Option AdapterNo). Stops c.args.cause (adapters_stopped g.c (state_of g.c c.args.run.now) a)) c.in-Some.is in
    let must_be = must_of_stops (state_of g.c c.args.run.now) c.args.cause (c.in-Some.a.0 ∷ []) due c.requires.1.1.0 in
    let is = stands_if_due c.each_duty_is_served.ensures g.c c.in-Some.a c.args.cause c.args.run.now c.requires.0 must_be in
    one_stopped g.c c.in-Some.a c.args.cause c.args.run.now c.stop_next.new.run c.requires.1.1.1.1.1.0 c.requires.1.1.1.0 due is c.requires.1.1.1.1.1.1.1.1 c.stop_next.ensures
