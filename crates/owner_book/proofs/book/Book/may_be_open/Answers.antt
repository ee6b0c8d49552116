use Rattle.std.proofs.Common.{◌≡◌, ◌&&◌, ◌∙◌, ap}
use Rattle.owner_machine.specs.State.{Owner, implies}
use Rattle.owner_machine.specs.Contexts.{in_brackets, is_halt}
use Rattle.owner_machine.specs.Handlers.{may_halt}
use Rattle.owner_book.proofs.book.Book.may_be_open.Goals as goal

pub returns : goal.returns
returns c =
    let a = c.args.a.0 in
    let h = c.args.h in
    c.may_be_open.ensures ∙ ap (λ (o : Owner). in_brackets o a h && implies (is_halt h) (may_halt o a)) c.self.view_is
