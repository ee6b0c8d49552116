use Rattle.std.proofs.Common.{ap, ◌∙◌, arith}
use Rattle.owner_machine.specs.State.{Owner}
use Rattle.owner_machine.specs.Handlers.{outstanding}
use Rattle.owner_machine.specs.Machine.{after}
use Rattle.call_log.specs.declared.entry.Entry.TheVariants as entries
use Rattle.log_fields.specs.declared.field_values.Cause.TheVariants.{Budget}
use Rattle.owner_rules.specs.State.{owner_of}
use Rattle.owner_book.proofs.TailSteps.{same_left, stops_whole}
use Rattle.owner_book.proofs.book.Book.stop.Goals as goal

pub returns-clause-stops : goal.returns-clause-stops
returns-clause-stops c = stops_whole c.args.self.now (owner_of c.stop.new.ledger) (owner_of c.end_all.new.ledger) c.args.a c.args.cause c.args.log.now.entries c.append.new.self c.end_all.new.log (c.stop.ensures ∙ ap (λ (x : Owner). after x (entries.Stop c.args.a Budget)) c.self.view_is) c.append.ensures.entries c.end_all.ensures.tails c.end_all.ensures.over

pub returns-clause-spare : goal.returns-clause-spare
returns-clause-spare c =
    let begun = same_left (owner_of c.self.inside.ledger) (owner_of c.stop.new.ledger) c.args.a c.stop.ensures in
    let viewed = ap (λ (x : Owner). outstanding x c.args.a.0) c.self.view_is in
    let ended = c.end_all.ensures.spare in
    let put = c.append.ensures.spare in
    let room = c.requires.spare in
    omega (arith, begun, viewed, ended, put, room)
