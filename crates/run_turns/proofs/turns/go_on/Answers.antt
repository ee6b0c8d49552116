use Rattle.std.proofs.Common.{Option, Some, None, ap, ◌∙◌, subst, arith}
use Rattle.ia32_step.specs.declared.Stepped.{Stepped}
use Rattle.ia32_step.specs.declared.Stepped.TheVariants.{Trap, Went, Fault}
use Rattle.nd_base.specs.declared.numbers.Slot.{Slot}
use Rattle.nd_base.specs.declared.numbers.Slot.TheVariants.{Import, Leave}
use Rattle.ia32_step.specs.Machine.{outcome}
use Rattle.legal_run.specs.After.{machine_of}
use Rattle.legal_run.specs.Run.{is_at_import}
use Rattle.run_moves.specs.Runs.{TurnsTo}
use Rattle.run_stops.specs.Standing.{point_of, state_of}
use Rattle.run_turns.proofs.Turning.{at_import, at_leave, faulted_whole, faults, goes, known, room_stays, spent_whole, turned_whole, went_on}
use Rattle.run_turns.proofs.turns.go_on.Goals as goal

pub turn-requires : goal.turn-requires
turn-requires g c =
    let q = c.requires in
    let room = q.1.1.1.1.1.1.1.1 in
    (q.0.runs, (record { goes = goes c.contexts_are_ready.ensures g.c c.args.run.now c.args.x q.0 q.1.0 q.1.1.0; frames = q.1.1.1.0; unspent = q.1.1.1.1.0 }, (q.1.1.1.1.1.0, omega (arith, room))))

pub end_by_fault-requires : goal.end_by_fault-requires
end_by_fault-requires g c =
    let q = c.requires in
    let p = point_of g.c c.args.run.now in
    let turned : TurnsTo p c.args.x c.args.run.now c.turn.new.self (Some (Fault c.in-Some-Fault.kind c.in-Some-Fault.address)) = subst (λ (last : Option Stepped). TurnsTo p c.args.x c.args.run.now c.turn.new.self last) (c.in-Some-Fault.is ∙ ap (λ (s : Stepped). Some s) c.in-Some-Fault.field-0-is) c.turn.ensures in
    let on = went_on c.moves_add.ensures c.states_are_free.ensures g.c c.args.x c.args.run.now c.turn.new.self _ q.0 q.1.1.0 q.1.1.1.1.1.1.1.1 turned in
    (on.settled, (q.1.0, (on.going, (faults _ _ _ _ (known c.moves_add.ensures g.c c.args.x c.args.run.now c.turn.new.self _ (λ same. absurd (cc)) turned) c.logged_kind.ensures, (q.1.1.1.1.1.1.0, (q.1.1.1.1.1.1.1.0, room_stays c.moves_add.ensures g.c c.args.x c.args.run.now c.turn.new.self _ turned q.1.1.1.1.1.1.1.1))))))

pub returns-in-Some-Went : goal.returns-in-Some-Went
returns-in-Some-Went g c =
    let q = c.requires in
    let p = point_of g.c c.args.run.now in
    let turned : TurnsTo p c.args.x c.args.run.now c.turn.new.self (Some Went) = subst (λ (last : Option Stepped). TurnsTo p c.args.x c.args.run.now c.turn.new.self last) (c.in-Some-Went.is ∙ ap (λ (s : Stepped). Some s) c.in-Some-Went.field-0-is) c.turn.ensures in
    let on = went_on c.moves_add.ensures c.states_are_free.ensures g.c c.args.x c.args.run.now c.turn.new.self _ q.0 q.1.1.0 q.1.1.1.1.1.1.1.1 turned in
    turned_whole g.c c.args.x c.args.run.now c.turn.new.self on.settled turned

pub returns-in-Some-Trap-Import : goal.returns-in-Some-Trap-Import
returns-in-Some-Trap-Import g c =
    let q = c.requires in
    let p = point_of g.c c.args.run.now in
    let turned : TurnsTo p c.args.x c.args.run.now c.turn.new.self (Some (Trap (Import c.in-Some-Trap-Import.import))) = subst (λ (last : Option Stepped). TurnsTo p c.args.x c.args.run.now c.turn.new.self last) (c.in-Some-Trap-Import.is ∙ ap (λ (s : Stepped). Some s) (c.in-Some-Trap-Import.field-0-is ∙ ap (λ (s : Slot). Trap s) c.in-Some-Trap-Import.field-0-0-is)) c.turn.ensures in
    let on = went_on c.moves_add.ensures c.states_are_free.ensures g.c c.args.x c.args.run.now c.turn.new.self _ q.0 q.1.1.0 q.1.1.1.1.1.1.1.1 turned in
    (on, ap (λ n. is_at_import (outcome (machine_of (state_of g.c c.turn.new.self) c.args.x)) n) c.in-Some-Trap-Import.import-is ∙ at_import _ _ (known c.moves_add.ensures g.c c.args.x c.args.run.now c.turn.new.self _ (λ same. absurd (cc)) turned))

pub returns-in-Some-Trap-Leave : goal.returns-in-Some-Trap-Leave
returns-in-Some-Trap-Leave g c =
    let q = c.requires in
    let p = point_of g.c c.args.run.now in
    let turned : TurnsTo p c.args.x c.args.run.now c.turn.new.self (Some (Trap Leave)) = subst (λ (last : Option Stepped). TurnsTo p c.args.x c.args.run.now c.turn.new.self last) (c.in-Some-Trap-Leave.is ∙ ap (λ (s : Stepped). Some s) (c.in-Some-Trap-Leave.field-0-is ∙ ap (λ (s : Slot). Trap s) c.in-Some-Trap-Leave.field-0-0-is)) c.turn.ensures in
    let on = went_on c.moves_add.ensures c.states_are_free.ensures g.c c.args.x c.args.run.now c.turn.new.self _ q.0 q.1.1.0 q.1.1.1.1.1.1.1.1 turned in
    (on, at_leave _ (known c.moves_add.ensures g.c c.args.x c.args.run.now c.turn.new.self _ (λ same. absurd (cc)) turned))

pub returns-in-Some-Fault : goal.returns-in-Some-Fault
returns-in-Some-Fault g c =
    let q = c.requires in
    let p = point_of g.c c.args.run.now in
    let turned : TurnsTo p c.args.x c.args.run.now c.turn.new.self (Some (Fault c.in-Some-Fault.kind c.in-Some-Fault.address)) = subst (λ (last : Option Stepped). TurnsTo p c.args.x c.args.run.now c.turn.new.self last) (c.in-Some-Fault.is ∙ ap (λ (s : Stepped). Some s) c.in-Some-Fault.field-0-is) c.turn.ensures in
    let on = went_on c.moves_add.ensures c.states_are_free.ensures g.c c.args.x c.args.run.now c.turn.new.self _ q.0 q.1.1.0 q.1.1.1.1.1.1.1.1 turned in
    faulted_whole g.c c.args.x _ _ c.args.run.now c.turn.new.self c.end_by_fault.new.run on c.end_by_fault.ensures

pub returns-in-None : goal.returns-in-None
returns-in-None g c =
    let p = point_of g.c c.args.run.now in
    let turned : TurnsTo p c.args.x c.args.run.now c.turn.new.self None = subst (λ (last : Option Stepped). TurnsTo p c.args.x c.args.run.now c.turn.new.self last) c.in-None.is c.turn.ensures in
    spent_whole g.c c.args.x c.args.run.now c.turn.new.self c.stop_for.new.run turned c.stop_for.ensures
