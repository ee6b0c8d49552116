use Rattle.std.proofs.Common.{refl}
use Rattle.call_log.specs.declared.entry.Entry.TheVariants as entries
use Rattle.run_stops.specs.Standing.{state_of}
use Rattle.run_calls.proofs.Opening.{waiting_free}
use Rattle.run_calls.proofs.Settling.{by_one}
use Rattle.run_calls.proofs.calls.wait.Goals as goal

pub returns : goal.returns
returns g c =
    let q = c.requires in
    let a = c.args in
    let e = entries.Call a.x a.calling.import a.words in
    by_one c.run_laws.ensures c.rooms_stay.ensures g.c e a.run.now c.call.new.self (c.moves_add.ensures g.c e a.run.now c.call.new.self c.call.ensures) refl refl q.0.fed q.1.1.1.1
    (waiting_free c.states_are_free.ensures g.c (state_of g.c a.run.now) a.x a.calling.import a.words a.calling.wait q.1.1.0 q.1.1.1.0)
