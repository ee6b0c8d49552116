use Rattle.std.proofs.Common.{◌≡◌, ◌∙◌, ap, sym, subst, Option, Some}
use Rattle.std.specs.Prelude.{slice_get}
use Rattle.std.specs.Option.{option_copied}
use Rattle.notices.specs.Reading.{Finds}
use Rattle.notices.specs.declared.told.Told.{Told}
use Rattle.notices.proofs.Going.{taken_on}
use Rattle.notices.proofs.places.Place.take.Goals as goal

pub returns : goal.returns
returns g c =
    let log = c.args.log.now.entries in
    let p = c.next.new.self in
    let e = c.in-Some.entry.now in
    let there : slice_get log p.at ≡ Some e = sym c.entry.ensures.value ∙ ap option_copied c.in-Some.is in
    taken_on g.c log c.args.self.now p c.pass.new.self e c.in_ok-told.told c.requires.0 (subst (λ (t : Option Told). Finds g.c log c.args.self.now p t) c.in_ok-told.was c.next.ensures) there c.pass.ensures
