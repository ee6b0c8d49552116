-- No entry's text holds a control code.
use Rattle.std.proofs.Common.{arith}
use Rattle.log_fields.specs.Exact.{ArePrinted, Prints}
use Rattle.log_fields.specs.Codes.{named}
use Rattle.log_fields.specs.PrintLaws.{octet_prints, word_prints, bytes_prints, behind_prints, pair_prints, chosen_prints, named_prints}
use Rattle.log_fields.specs.FieldLaws.{printed_from, small_prints, medium_prints, large_prints, flag_prints, width_prints, words_prints, holders_prints, adapter_prints, writes_prints, import_prints, handler_prints, fault_prints, direction_prints, question_prints, cause_prints, what_prints}
use Rattle.call_log.specs.Kinds.{kind_name, kinds_all}
use Rattle.call_log.specs.Lines.{shape, Fields, fields, line, line_of, text_of}
use Rattle.call_log.specs.Logs.{NoTextHoldsLf}
use Rattle.call_log.specs.declared.kinds.Kind.{Kind}
use Rattle.call_log.specs.declared.kinds.Kind.TheVariants as kinds
use Rattle.call_log.proofs.Whole.{kind_test}

shape_prints : (k : Kind) → Prints (shape k).code
shape_prints kinds.Bind = pair_prints _ _ small_prints small_prints
shape_prints kinds.Unbind = small_prints
shape_prints kinds.Quiet = small_prints
shape_prints kinds.Done = small_prints
shape_prints kinds.Send = pair_prints _ _ small_prints (pair_prints _ _ large_prints bytes_prints)
shape_prints kinds.Hand = large_prints
shape_prints kinds.Requeue = large_prints
shape_prints kinds.Late = large_prints
shape_prints kinds.Complete = pair_prints _ _ large_prints word_prints
shape_prints kinds.Indicate = pair_prints _ _ small_prints (pair_prints _ _ large_prints (pair_prints _ _ bytes_prints (pair_prints _ _ holders_prints flag_prints)))
shape_prints kinds.Return = pair_prints _ _ small_prints large_prints
shape_prints kinds.Back = pair_prints _ _ large_prints flag_prints
shape_prints kinds.Ask = pair_prints _ _ small_prints (pair_prints _ _ large_prints question_prints)
shape_prints kinds.HandAsk = large_prints
shape_prints kinds.Answer = pair_prints _ _ large_prints (pair_prints _ _ word_prints bytes_prints)
shape_prints kinds.Enter = pair_prints _ _ adapter_prints (pair_prints _ _ small_prints (pair_prints _ _ handler_prints (pair_prints _ _ words_prints writes_prints)))
shape_prints kinds.Leave = pair_prints _ _ small_prints word_prints
shape_prints kinds.Turn = pair_prints _ _ small_prints large_prints
shape_prints kinds.Call = pair_prints _ _ small_prints (pair_prints _ _ import_prints words_prints)
shape_prints kinds.Reply = pair_prints _ _ small_prints (pair_prints _ _ word_prints writes_prints)
shape_prints kinds.Spin = pair_prints _ _ small_prints word_prints
shape_prints kinds.Port = pair_prints _ _ small_prints (pair_prints _ _ direction_prints (pair_prints _ _ width_prints (pair_prints _ _ octet_prints bytes_prints)))
shape_prints kinds.WireIn = large_prints
shape_prints kinds.WireOut = pair_prints _ _ small_prints bytes_prints
shape_prints kinds.Time = large_prints
shape_prints kinds.ResetBegin = small_prints
shape_prints kinds.ResetEnd = pair_prints _ _ small_prints word_prints
shape_prints kinds.Fault = pair_prints _ _ small_prints (pair_prints _ _ fault_prints word_prints)
shape_prints kinds.Stop = pair_prints _ _ small_prints cause_prints
shape_prints kinds.Await = pair_prints _ _ small_prints what_prints
shape_prints kinds.Tag = pair_prints _ _ large_prints medium_prints
shape_prints kinds.Cancel = pair_prints _ _ small_prints medium_prints
shape_prints kinds.Event = pair_prints _ _ small_prints (pair_prints _ _ medium_prints (pair_prints _ _ bytes_prints flag_prints))

line_prints : Prints line
unfolding line
line_prints = chosen_prints (named kind_name kinds_all) Fields fields (named_prints kind_name kinds_all (λ k. printed_from _ (kind_test k))) (λ k. behind_prints 32 (shape k).code (omega arith) (shape_prints k))

pub no_lf : NoTextHoldsLf
no_lf e fits = line_prints.printed (line_of e) fits
