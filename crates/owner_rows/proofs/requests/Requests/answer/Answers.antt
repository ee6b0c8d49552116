use Rattle.std.proofs.Common.{sym, ap, ◌∙◌, slice_get}
use Rattle.std.specs.Option.{option_copied}
use Rattle.owner_machine.specs.Requests.{answered}
use Rattle.owner_rows.specs.Changes.{change_none}
use Rattle.owner_rows.proofs.KeptRows.{requests_answered}
use Rattle.owner_rows.proofs.requests.Requests.answer.Goals as goal

pub returns-in_default : goal.returns-in_default
returns-in_default c = sym (change_none answered c.args.self.now c.args.r (sym c.get.ensures ∙ ap option_copied c.in_default.is))

pub invariant_of-self : goal.invariant_of-self
invariant_of-self c = rw (c.answer_row.ensures, c.keep.ensures, c.recount.ensures, c.is_open-was.ensures) (requests_answered c.self.inside.rows.items c.args.r c.in-Some.request.now c.self.inside.live c.self.inside.unanswered c.self.invariant (ap (λ rows. slice_get rows c.args.r) c.self.view_is ∙ sym c.in-Some.ensures))
