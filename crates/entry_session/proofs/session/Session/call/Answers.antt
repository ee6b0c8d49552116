use Rattle.std.proofs.Common.{◌≡◌, ℕ, ◌∙◌, ap, sym, refl, subst, arith, Ok, Err, None}
use Rattle.nd_base.specs.declared.numbers.Slot.TheVariants.{Import}
use Rattle.import_table.specs.Table.{Row, row_of, seen}
use Rattle.guest_world.specs.declared.answer.Answer.TheVariants.{Now, Sleep}
use Rattle.guest_world.specs.declared.answer.CallRefusal.TheVariants.{Broken}
use Rattle.guest_calls.specs.Rows.{Stays}
use Rattle.entry_run.specs.Laws.{Going, asking}
use Rattle.entry_session.specs.Session.{going_of, machine_of}
use Rattle.entry_session.specs.Replying.{MayReply, MaySleep}
use Rattle.entry_session.proofs.Calling.{numbered, trapped_at}
use Rattle.entry_session.proofs.Answering.{is_called, comes_of, words_at, may_reply, may_sleep, call_broken, call_unanswered, with_going, with_going_asleep}
use Rattle.entry_session.proofs.session.Session.call.Goals as goal

pub import_row-row-requires : goal.import_row-row-requires
import_row-row-requires g c = numbered c.args.self.now.regs.eip c.args.import (trapped_at (machine_of c.args.self.now) (Import c.args.import) c.requires.1.1)

pub call_of-call-requires : goal.call_of-call-requires
call_of-call-requires g c =
    let range = numbered c.args.self.now.regs.eip c.args.import (trapped_at (machine_of c.args.self.now) (Import c.args.import) c.requires.1.1) in
    let number : c.import_row-row.result.now.import ≡ c.args.import = ap (λ (r : Row). r.import) c.import_row-row.ensures ∙ c.table_laws.ensures.number c.args.import range.0 range.1 in
    (omega (arith, number, range.0), omega (arith, number, range.1))

pub reply-requires : goal.reply-requires
reply-requires g c =
    let s = c.args.self.now in
    let call = c.call_of-call in
    let n = c.import_row-row.result.now.import in
    let range = numbered s.regs.eip c.args.import (trapped_at (machine_of s) (Import c.args.import) c.requires.1.1) in
    let number : n ≡ c.args.import = ap (λ (r : Row). r.import) c.import_row-row.ensures ∙ c.table_laws.ensures.number c.args.import range.0 range.1 in
    let is = is_called s (record s { world = c.answer.new.world; log = c.push.new.self }) n c.args.import (seen c.import_row-row.result.now) call.result c.in_ok-calling.field-0 range.0 range.1 c.requires.1.1 c.import_row-row.ensures number call.ensures.words call.ensures.import call.ensures.call call.ensures.fits c.in_ok-calling.ensures c.in_ok-push.ensures.ok refl refl refl in
    let comes = comes_of (Stays None) s n c.args.import (seen c.import_row-row.result.now) call.result c.answer.result (Ok (Now c.in-Ok-Now.reply)) c.answer.new.world c.import_row-row.ensures number call.ensures.words call.ensures.import (c.in-Ok-Now.is ∙ ap Ok c.in-Ok-Now.field-0-is) c.answer.ensures in
    (c.import_row-row.ensures ∙ ap row_of (sym number), with_going g.before.setting g.before.going s _ n c.in-Ok-Now.reply c.requires.1.0 (may_reply c.run_laws.ensures c.entry_laws.ensures c.calls_keep.ensures c.calls_of_driver_entry.ensures c.call_laws.ensures g.before.setting s (record s { world = c.answer.new.world; log = c.push.new.self }) n (words_at s n) c.in-Ok-Now.reply c.requires.0 is comes))

pub sleep-requires : goal.sleep-requires
sleep-requires g c =
    let s = c.args.self.now in
    let call = c.call_of-call in
    let n = c.import_row-row.result.now.import in
    let range = numbered s.regs.eip c.args.import (trapped_at (machine_of s) (Import c.args.import) c.requires.1.1) in
    let number : n ≡ c.args.import = ap (λ (r : Row). r.import) c.import_row-row.ensures ∙ c.table_laws.ensures.number c.args.import range.0 range.1 in
    let is = is_called s (record s { world = c.answer.new.world; log = c.push.new.self }) n c.args.import (seen c.import_row-row.result.now) call.result c.in_ok-calling.field-0 range.0 range.1 c.requires.1.1 c.import_row-row.ensures number call.ensures.words call.ensures.import call.ensures.call call.ensures.fits c.in_ok-calling.ensures c.in_ok-push.ensures.ok refl refl refl in
    let comes = comes_of (Stays None) s n c.args.import (seen c.import_row-row.result.now) call.result c.answer.result (Ok (Sleep c.in-Ok-Sleep.wake)) c.answer.new.world c.import_row-row.ensures number call.ensures.words call.ensures.import (c.in-Ok-Sleep.is ∙ ap Ok c.in-Ok-Sleep.field-0-is) c.answer.ensures in
    (c.import_row-row.ensures ∙ ap row_of (sym number), (refl, (refl, with_going_asleep g.before.setting g.before.going s _ n c.in-Ok-Sleep.wake c.requires.1.0 (may_sleep c.run_laws.ensures c.entry_laws.ensures c.calls_of_driver_entry.ensures c.call_laws.ensures g.before.setting s (record s { world = c.answer.new.world; log = c.push.new.self }) n (words_at s n) c.in-Ok-Sleep.wake c.requires.0 is comes))))

pub returns-in-Err-Broken : goal.returns-in-Err-Broken
returns-in-Err-Broken g c =
    let s = c.args.self.now in
    let call = c.call_of-call in
    let n = c.import_row-row.result.now.import in
    let range = numbered s.regs.eip c.args.import (trapped_at (machine_of s) (Import c.args.import) c.requires.1.1) in
    let number : n ≡ c.args.import = ap (λ (r : Row). r.import) c.import_row-row.ensures ∙ c.table_laws.ensures.number c.args.import range.0 range.1 in
    let is = is_called s (record s { world = c.answer.new.world; log = c.push.new.self }) n c.args.import (seen c.import_row-row.result.now) call.result c.in_ok-calling.field-0 range.0 range.1 c.requires.1.1 c.import_row-row.ensures number call.ensures.words call.ensures.import call.ensures.call call.ensures.fits c.in_ok-calling.ensures c.in_ok-push.ensures.ok refl refl refl in
    let comes = comes_of (Stays None) s n c.args.import (seen c.import_row-row.result.now) call.result c.answer.result (Err (Broken c.in-Err-Broken.field-0-0)) c.answer.new.world c.import_row-row.ensures number call.ensures.words call.ensures.import (c.in-Err-Broken.is ∙ ap Err c.in-Err-Broken.field-0-is) c.answer.ensures in
    call_broken c.run_laws.ensures c.entry_laws.ensures g.before.setting s _ n (words_at s n) c.in-Err-Broken.field-0-0 c.requires.0 is comes

pub returns-in-Err-OutOfMemory : goal.returns-in-Err-OutOfMemory
returns-in-Err-OutOfMemory g c =
    let s = c.args.self.now in
    let call = c.call_of-call in
    let n = c.import_row-row.result.now.import in
    let range = numbered s.regs.eip c.args.import (trapped_at (machine_of s) (Import c.args.import) c.requires.1.1) in
    let number : n ≡ c.args.import = ap (λ (r : Row). r.import) c.import_row-row.ensures ∙ c.table_laws.ensures.number c.args.import range.0 range.1 in
    let is = is_called s (record s { world = c.answer.new.world; log = c.push.new.self }) n c.args.import (seen c.import_row-row.result.now) call.result c.in_ok-calling.field-0 range.0 range.1 c.requires.1.1 c.import_row-row.ensures number call.ensures.words call.ensures.import call.ensures.call call.ensures.fits c.in_ok-calling.ensures c.in_ok-push.ensures.ok refl refl refl in
    call_unanswered c.run_laws.ensures c.entry_laws.ensures g.before.setting s _ n (words_at s n) c.requires.0 is
