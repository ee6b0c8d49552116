use Rattle.std.proofs.Common.{◌≡◌, ap, ◌∙◌, sym, refl, arith, Option}
use Rattle.nd_base.specs.declared.numbers.AdapterNo.{AdapterNo}
use Rattle.log_fields.specs.declared.field_values.Cause.TheVariants as cause
use Rattle.call_log.specs.declared.entry.Entry.TheVariants as entries
use Rattle.owner_machine.specs.Must.{owner_must}
use Rattle.legal_run.specs.State.{State, Stops, adapter_of}
use Rattle.legal_run.specs.After.{adapters_stopped, after}
use Rattle.run_stops.specs.Standing.{state_of}
use Rattle.run_calls.proofs.Opening.{broken_stops}
use Rattle.run_calls.proofs.Settling.{fed_stays, room_stays, then_settles}
use Rattle.run_calls.proofs.calls.break_rule.Goals as goal

pub stop_for-requires : goal.stop_for-requires
stop_for-requires g c =
    let q = c.requires in
    let a = c.args in
    let e = entries.Call a.x a.calling.import a.words in
    let added = c.moves_add.ensures g.c e a.run.now c.call.new.self c.call.ensures in
    let s = state_of g.c a.run.now in
    let stays = room_stays c.run_laws.ensures c.rooms_stay.ensures g.c e a.run.now c.call.new.self added refl in
    let spare = added.spare in
    let room = q.1.1.1.1.1 in
    let given = q.1.1.1.1.0 in
    let own : c.adapter_of-adapter.result ≡ adapter_of s a.x.0 = c.adapter_of-adapter.ensures ∙ ap (λ o. adapter_of (record s { owner = o }) a.x.0) q.0.runs.kept.owner in (
      added.runs,
      (
        ap (λ (t : State). t.next) added.state
            ∙ broken_stops g.c s a.x a.calling.import a.words a.rule q.1.1.0
            ∙ ap (λ (n : Option AdapterNo). Stops (cause.Breach a.rule) (adapters_stopped g.c (after g.c s e) n)) (sym own)
            ∙ ap (λ (t : State). Stops (cause.Breach a.rule) (adapters_stopped g.c t c.adapter_of-adapter.result)) (sym added.state),
        (
          ap (λ (t : State). owner_must t.owner) added.state,
          (fed_stays g.c e a.run.now c.call.new.self added refl q.0.fed, (q.1.1.1.0, (refl, (omega (arith, given.adapters), (given.drivers, omega (arith, stays, spare, room)))))),
        ),
      ),
    )

pub returns : goal.returns
returns g c =
    let e = entries.Call c.args.x c.args.calling.import c.args.words in
    then_settles g.c e c.args.run.now c.call.new.self c.stop_for.new.run c.call.ensures.written c.stop_for.ensures
