use Rattle.std.proofs.Common.{ap, sym, ◌∙◌, arith}
use Rattle.std.proofs.lemmas.List.{length-take}
use Rattle.import_table.specs.Table.{Row}
use Rattle.guest_calls.specs.Rows.{words_of, Stays}
use Rattle.guest_calls.proofs.Judged.{judged}
use Rattle.guest_calls.proofs.answers.answer.Goals as goal

pub returns : goal.returns
returns c =
    let call = c.args.call.now in
    judged (Stays c.args.caller.adapter) c.args.world.now c.args.caller call.import _ _ (words_of call) call.words c.in_default.field-0 c.served.result c.served.new.world c.import_row-row.ensures
    (c.table_laws.ensures.number call.import c.requires.call.from c.requires.call.to) (sym c.check.ensures ∙ c.in_default.is)
    (omega (arith, length-take call.count call.words, c.if-call-row.false, ap (λ (r : Row). r.words) c.import_row-row.ensures, c.table_laws.ensures.words call.import c.requires.call.from c.requires.call.to)) c.requires.call.zeros c.served.ensures
