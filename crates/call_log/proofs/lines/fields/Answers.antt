use Rattle.std.proofs.Common.{sym, subst}
use Rattle.log_fields.specs.Codes.{Gives}
use Rattle.call_log.specs.Lines.{line_of, read_fields}
use Rattle.call_log.specs.declared.kinds.Kind.{Kind}
use Rattle.call_log.proofs.lines.fields.Goals as goal

pub returns-in-Bind : goal.returns-in-Bind
returns-in-Bind c = subst (λ (k : Kind). Gives (λ x. (line_of x.0, x.1.now)) c.bind_line.result (read_fields k c.args.bytes.now)) (sym c.in-Bind.is) c.bind_line.ensures

pub returns-in-Unbind : goal.returns-in-Unbind
returns-in-Unbind c = subst (λ (k : Kind). Gives (λ x. (line_of x.0, x.1.now)) c.unbind_line.result (read_fields k c.args.bytes.now)) (sym c.in-Unbind.is) c.unbind_line.ensures

pub returns-in-Quiet : goal.returns-in-Quiet
returns-in-Quiet c = subst (λ (k : Kind). Gives (λ x. (line_of x.0, x.1.now)) c.quiet_line.result (read_fields k c.args.bytes.now)) (sym c.in-Quiet.is) c.quiet_line.ensures

pub returns-in-Done : goal.returns-in-Done
returns-in-Done c = subst (λ (k : Kind). Gives (λ x. (line_of x.0, x.1.now)) c.done_line.result (read_fields k c.args.bytes.now)) (sym c.in-Done.is) c.done_line.ensures

pub returns-in-Send : goal.returns-in-Send
returns-in-Send c = subst (λ (k : Kind). Gives (λ x. (line_of x.0, x.1.now)) c.send_line.result (read_fields k c.args.bytes.now)) (sym c.in-Send.is) c.send_line.ensures

pub returns-in-Hand : goal.returns-in-Hand
returns-in-Hand c = subst (λ (k : Kind). Gives (λ x. (line_of x.0, x.1.now)) c.hand_line.result (read_fields k c.args.bytes.now)) (sym c.in-Hand.is) c.hand_line.ensures

pub returns-in-Requeue : goal.returns-in-Requeue
returns-in-Requeue c = subst (λ (k : Kind). Gives (λ x. (line_of x.0, x.1.now)) c.requeue_line.result (read_fields k c.args.bytes.now)) (sym c.in-Requeue.is) c.requeue_line.ensures

pub returns-in-Late : goal.returns-in-Late
returns-in-Late c = subst (λ (k : Kind). Gives (λ x. (line_of x.0, x.1.now)) c.late_line.result (read_fields k c.args.bytes.now)) (sym c.in-Late.is) c.late_line.ensures

pub returns-in-Complete : goal.returns-in-Complete
returns-in-Complete c = subst (λ (k : Kind). Gives (λ x. (line_of x.0, x.1.now)) c.complete_line.result (read_fields k c.args.bytes.now)) (sym c.in-Complete.is) c.complete_line.ensures

pub returns-in-Indicate : goal.returns-in-Indicate
returns-in-Indicate c = subst (λ (k : Kind). Gives (λ x. (line_of x.0, x.1.now)) c.indicate_line.result (read_fields k c.args.bytes.now)) (sym c.in-Indicate.is) c.indicate_line.ensures

pub returns-in-Return : goal.returns-in-Return
returns-in-Return c = subst (λ (k : Kind). Gives (λ x. (line_of x.0, x.1.now)) c.return_line.result (read_fields k c.args.bytes.now)) (sym c.in-Return.is) c.return_line.ensures

pub returns-in-Back : goal.returns-in-Back
returns-in-Back c = subst (λ (k : Kind). Gives (λ x. (line_of x.0, x.1.now)) c.back_line.result (read_fields k c.args.bytes.now)) (sym c.in-Back.is) c.back_line.ensures

pub returns-in-Ask : goal.returns-in-Ask
returns-in-Ask c = subst (λ (k : Kind). Gives (λ x. (line_of x.0, x.1.now)) c.ask_line.result (read_fields k c.args.bytes.now)) (sym c.in-Ask.is) c.ask_line.ensures

pub returns-in-HandAsk : goal.returns-in-HandAsk
returns-in-HandAsk c = subst (λ (k : Kind). Gives (λ x. (line_of x.0, x.1.now)) c.hand_ask_line.result (read_fields k c.args.bytes.now)) (sym c.in-HandAsk.is) c.hand_ask_line.ensures

pub returns-in-Answer : goal.returns-in-Answer
returns-in-Answer c = subst (λ (k : Kind). Gives (λ x. (line_of x.0, x.1.now)) c.answer_line.result (read_fields k c.args.bytes.now)) (sym c.in-Answer.is) c.answer_line.ensures

pub returns-in-Enter : goal.returns-in-Enter
returns-in-Enter c = subst (λ (k : Kind). Gives (λ x. (line_of x.0, x.1.now)) c.enter_line.result (read_fields k c.args.bytes.now)) (sym c.in-Enter.is) c.enter_line.ensures

pub returns-in-Leave : goal.returns-in-Leave
returns-in-Leave c = subst (λ (k : Kind). Gives (λ x. (line_of x.0, x.1.now)) c.leave_line.result (read_fields k c.args.bytes.now)) (sym c.in-Leave.is) c.leave_line.ensures

pub returns-in-Turn : goal.returns-in-Turn
returns-in-Turn c = subst (λ (k : Kind). Gives (λ x. (line_of x.0, x.1.now)) c.turn_line.result (read_fields k c.args.bytes.now)) (sym c.in-Turn.is) c.turn_line.ensures

pub returns-in-Call : goal.returns-in-Call
returns-in-Call c = subst (λ (k : Kind). Gives (λ x. (line_of x.0, x.1.now)) c.call_line.result (read_fields k c.args.bytes.now)) (sym c.in-Call.is) c.call_line.ensures

pub returns-in-Reply : goal.returns-in-Reply
returns-in-Reply c = subst (λ (k : Kind). Gives (λ x. (line_of x.0, x.1.now)) c.reply_line.result (read_fields k c.args.bytes.now)) (sym c.in-Reply.is) c.reply_line.ensures

pub returns-in-Spin : goal.returns-in-Spin
returns-in-Spin c = subst (λ (k : Kind). Gives (λ x. (line_of x.0, x.1.now)) c.spin_line.result (read_fields k c.args.bytes.now)) (sym c.in-Spin.is) c.spin_line.ensures

pub returns-in-Port : goal.returns-in-Port
returns-in-Port c = subst (λ (k : Kind). Gives (λ x. (line_of x.0, x.1.now)) c.port_line.result (read_fields k c.args.bytes.now)) (sym c.in-Port.is) c.port_line.ensures

pub returns-in-WireIn : goal.returns-in-WireIn
returns-in-WireIn c = subst (λ (k : Kind). Gives (λ x. (line_of x.0, x.1.now)) c.wire_in_line.result (read_fields k c.args.bytes.now)) (sym c.in-WireIn.is) c.wire_in_line.ensures

pub returns-in-WireOut : goal.returns-in-WireOut
returns-in-WireOut c = subst (λ (k : Kind). Gives (λ x. (line_of x.0, x.1.now)) c.wire_out_line.result (read_fields k c.args.bytes.now)) (sym c.in-WireOut.is) c.wire_out_line.ensures

pub returns-in-Time : goal.returns-in-Time
returns-in-Time c = subst (λ (k : Kind). Gives (λ x. (line_of x.0, x.1.now)) c.time_line.result (read_fields k c.args.bytes.now)) (sym c.in-Time.is) c.time_line.ensures

pub returns-in-ResetBegin : goal.returns-in-ResetBegin
returns-in-ResetBegin c = subst (λ (k : Kind). Gives (λ x. (line_of x.0, x.1.now)) c.reset_begin_line.result (read_fields k c.args.bytes.now)) (sym c.in-ResetBegin.is) c.reset_begin_line.ensures

pub returns-in-ResetEnd : goal.returns-in-ResetEnd
returns-in-ResetEnd c = subst (λ (k : Kind). Gives (λ x. (line_of x.0, x.1.now)) c.reset_end_line.result (read_fields k c.args.bytes.now)) (sym c.in-ResetEnd.is) c.reset_end_line.ensures

pub returns-in-Fault : goal.returns-in-Fault
returns-in-Fault c = subst (λ (k : Kind). Gives (λ x. (line_of x.0, x.1.now)) c.fault_line.result (read_fields k c.args.bytes.now)) (sym c.in-Fault.is) c.fault_line.ensures

pub returns-in-Stop : goal.returns-in-Stop
returns-in-Stop c = subst (λ (k : Kind). Gives (λ x. (line_of x.0, x.1.now)) c.stop_line.result (read_fields k c.args.bytes.now)) (sym c.in-Stop.is) c.stop_line.ensures

pub returns-in-Await : goal.returns-in-Await
returns-in-Await c = subst (λ (k : Kind). Gives (λ x. (line_of x.0, x.1.now)) c.await_line.result (read_fields k c.args.bytes.now)) (sym c.in-Await.is) c.await_line.ensures

pub returns-in-Tag : goal.returns-in-Tag
returns-in-Tag c = subst (λ (k : Kind). Gives (λ x. (line_of x.0, x.1.now)) c.tag_line.result (read_fields k c.args.bytes.now)) (sym c.in-Tag.is) c.tag_line.ensures

pub returns-in-Cancel : goal.returns-in-Cancel
returns-in-Cancel c = subst (λ (k : Kind). Gives (λ x. (line_of x.0, x.1.now)) c.cancel_line.result (read_fields k c.args.bytes.now)) (sym c.in-Cancel.is) c.cancel_line.ensures

pub returns-in-Event : goal.returns-in-Event
returns-in-Event c = subst (λ (k : Kind). Gives (λ x. (line_of x.0, x.1.now)) c.event_line.result (read_fields k c.args.bytes.now)) (sym c.in-Event.is) c.event_line.ensures
