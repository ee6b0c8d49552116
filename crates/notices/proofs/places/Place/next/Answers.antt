use Rattle.std.proofs.Common.{◌≡◌, ◌∙◌, ap, sym, subst, true, false, Option, Some, None, refl}
use Rattle.std.specs.Prelude.{slice_get, is_some}
use Rattle.std.specs.Option.{option_copied}
use Rattle.owner_machine.specs.State.{Owner}
use Rattle.notices.specs.Notices.{tells_by}
use Rattle.notices.specs.Reading.{Finds}
use Rattle.notices.specs.declared.told.Told.{Told}
use Rattle.notices.proofs.Going.{found, gone_on}
use Rattle.notices.proofs.places.Place.next.Goals as goal

some_told : {A : Type 0} (o : Option A) → is_some o ≡ true → (t : A) × (o ≡ Some t)
some_told (Some t) h = (t, refl)
some_told None h = absurd (cc)

none_told : {A : Type 0} (o : Option A) → is_some o ≡ false → o ≡ None
none_told None h = refl
none_told (Some t) h = absurd (cc)

pub returns-then-is_some : goal.returns-then-is_some
returns-then-is_some g c =
    let kept = c.loop-self.invariant in
    let log = c.args.log.now.entries in
    let p = c.loop-self.self in
    let e = c.in-Some.entry.now in
    let one = some_told c.told-told.result (sym c.is_some.ensures ∙ c.if-is_some.true) in
    let there : slice_get log p.at ≡ Some e = sym c.entry.ensures.value ∙ ap option_copied c.in-Some.is in
    subst (λ (t : Option Told). Finds g.c log c.args.self.now p t) (sym one.1)
    (found g.c log c.args.self.now p e one.0 c.requires.0 kept.0 kept.1 kept.2 there (ap (λ (o : Owner). tells_by o p.driver p.bound e) (sym c.requires.1.0) ∙ sym c.told-told.ensures ∙ one.1))

pub loop-self-preserved : goal.loop-self-preserved
loop-self-preserved g c =
    let kept = c.loop-self.invariant in
    let log = c.args.log.now.entries in
    let p = c.loop-self.self in
    let e = c.in-Some.entry.now in
    let one = none_told c.told-told.result (sym c.is_some.ensures ∙ c.if-is_some.false) in
    let there : slice_get log p.at ≡ Some e = sym c.entry.ensures.value ∙ ap option_copied c.in-Some.is in
    gone_on g.c log c.args.self.now p c.pass.new.self e c.requires.0 kept.0 kept.1 kept.2 there (ap (λ (o : Owner). tells_by o p.driver p.bound e) (sym c.requires.1.0) ∙ sym c.told-told.ensures ∙ one) c.pass.ensures
