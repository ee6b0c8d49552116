use Rattle.std.proofs.Common.{[], ◌∷◌, ◌∙◌, ap, sym}
use Rattle.call_log.specs.declared.entry.Entry.TheVariants as entries
use Rattle.import_table.specs.Table.{row_of}
use Rattle.run_calls.proofs.Answered.{known_as}
use Rattle.run_calls.proofs.Making.{longer}
use Rattle.run_calls.proofs.makes.make_and_reply.Goals as goal

pub reply_due-requires : goal.reply_due-requires
reply_due-requires g c =
    let q = c.requires in
    let known = known_as g.v [] c.make_each.new.run c.args.x c.args.reply c.make_each.ensures.making q.1.0 q.1.1.0 in
    (known.0, (q.1.1.1.0 ∙ ap row_of (sym known.1), q.1.1.1.1))

pub returns : goal.returns
returns g c =
    let done = c.reply_due.ensures in
    record { settled = done.settled; longer = longer c.args.run.now c.make_each.new.run c.reply_due.new.run c.make_each.ensures.longer (record { more = entries.Reply c.args.x c.args.reply.eax c.args.reply.writes ∷ done.more; written = done.written }) }
