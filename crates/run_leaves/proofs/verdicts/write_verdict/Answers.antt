use Rattle.std.proofs.Common.{◌∷◌, subst}
use Rattle.call_log.specs.declared.entry.Entry.{Entry}
use Rattle.run_leaves.specs.Leaving.{IsWriting, rest_of}
use Rattle.run_leaves.proofs.Writing.{Laws, answered, completed, ends_reset, requeued, reset_whole, some_spare, verdict_due}
use Rattle.run_leaves.proofs.verdicts.write_verdict.Goals as goal

pub complete-requires : goal.complete-requires
complete-requires g c =
    let writing = subst (λ (e : Entry). IsWriting g.c (e ∷ rest_of g.c c.args.run.now) c.args.run.now) c.in-Complete.is c.requires in
    (writing.runs, (verdict_due g.c _ _ c.args.run.now writing, some_spare g.c _ _ c.args.run.now writing))

pub requeue-requires : goal.requeue-requires
requeue-requires g c =
    let writing = subst (λ (e : Entry). IsWriting g.c (e ∷ rest_of g.c c.args.run.now) c.args.run.now) c.in-Requeue.is c.requires in
    (writing.runs, (verdict_due g.c _ _ c.args.run.now writing, some_spare g.c _ _ c.args.run.now writing))

pub end_reset-requires : goal.end_reset-requires
end_reset-requires g c =
    let writing = subst (λ (e : Entry). IsWriting g.c (e ∷ rest_of g.c c.args.run.now) c.args.run.now) c.in-ResetEnd.is c.requires in
    (writing.runs, (verdict_due g.c _ _ c.args.run.now writing, some_spare g.c _ _ c.args.run.now writing))

pub answer-requires : goal.answer-requires
answer-requires g c =
    let writing = subst (λ (e : Entry). IsWriting g.c (e ∷ rest_of g.c c.args.run.now) c.args.run.now) c.in-Answer.is c.requires in
    (writing.runs, (verdict_due g.c _ _ c.args.run.now writing, some_spare g.c _ _ c.args.run.now writing))

pub abort_held-requires : goal.abort_held-requires
abort_held-requires g c =
    let laws : Laws = record { moves = c.moves_add.ensures; runs = c.run_laws.ensures; rooms = c.rooms_stay.ensures } in
    let writing = subst (λ (e : Entry). IsWriting g.c (e ∷ rest_of g.c c.args.run.now) c.args.run.now) c.in-ResetEnd.is c.requires in
    (ends_reset laws g.c c.in-ResetEnd.adapter c.in-ResetEnd.status _ c.args.run.now c.end_reset.new.run writing c.end_reset.ensures).0

pub returns-in-Complete : goal.returns-in-Complete
returns-in-Complete g c =
    let laws : Laws = record { moves = c.moves_add.ensures; runs = c.run_laws.ensures; rooms = c.rooms_stay.ensures } in
    let writing = subst (λ (e : Entry). IsWriting g.c (e ∷ rest_of g.c c.args.run.now) c.args.run.now) c.in-Complete.is c.requires in
    completed laws g.c c.in-Complete.packet c.in-Complete.status _ c.args.run.now c.complete.new.run writing c.complete.ensures

pub returns-in-Requeue : goal.returns-in-Requeue
returns-in-Requeue g c =
    let laws : Laws = record { moves = c.moves_add.ensures; runs = c.run_laws.ensures; rooms = c.rooms_stay.ensures } in
    let writing = subst (λ (e : Entry). IsWriting g.c (e ∷ rest_of g.c c.args.run.now) c.args.run.now) c.in-Requeue.is c.requires in
    requeued laws g.c c.in-Requeue.packet _ c.args.run.now c.requeue.new.run writing c.requeue.ensures

pub returns-in-ResetEnd : goal.returns-in-ResetEnd
returns-in-ResetEnd g c =
    let laws : Laws = record { moves = c.moves_add.ensures; runs = c.run_laws.ensures; rooms = c.rooms_stay.ensures } in
    let writing = subst (λ (e : Entry). IsWriting g.c (e ∷ rest_of g.c c.args.run.now) c.args.run.now) c.in-ResetEnd.is c.requires in
    let ended = ends_reset laws g.c c.in-ResetEnd.adapter c.in-ResetEnd.status _ c.args.run.now c.end_reset.new.run writing c.end_reset.ensures in
    reset_whole g.c c.in-ResetEnd.adapter c.in-ResetEnd.status _ c.args.run.now c.end_reset.new.run c.abort_held.new.run writing ended.1 c.abort_held.ensures

pub returns-in-Answer : goal.returns-in-Answer
returns-in-Answer g c =
    let laws : Laws = record { moves = c.moves_add.ensures; runs = c.run_laws.ensures; rooms = c.rooms_stay.ensures } in
    let writing = subst (λ (e : Entry). IsWriting g.c (e ∷ rest_of g.c c.args.run.now) c.args.run.now) c.in-Answer.is c.requires in
    answered laws g.c c.in-Answer.request c.in-Answer.status c.in-Answer.bytes _ c.args.run.now c.answer.new.run c.answer.result writing c.answer.ensures
