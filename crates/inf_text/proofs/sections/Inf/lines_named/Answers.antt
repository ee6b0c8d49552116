use Rattle.std.proofs.Common.{◌≡◌, true, false, sym, ap, ◌∙◌}
use Rattle.inf_text.specs.Names.{is_same}
use Rattle.inf_text.specs.Sections.{lines_named}
use Rattle.inf_text.specs.Entries.{section_in, sections_in}
use Rattle.inf_text.proofs.SectionLaws.{Entries, named-here, named-further}
use Rattle.inf_text.proofs.sections.Inf.lines_named.Goals as goal

pub loop-own-init : goal.loop-own-init
loop-own-init c = ap (λ (es : Entries). lines_named c.args.name.now (sections_in es)) c.into_iter-own-iterator.ensures.into_iter_gives.0 ∙ ap (lines_named c.args.name.now) c.self.view_is

pub returns-then-is_word : goal.returns-then-is_word
returns-then-is_word c =
    let on : is_same c.args.name.now c.in-Some.own.now ≡ true = ap (is_same c.args.name.now) (sym c.as_slice.ensures) ∙ sym c.is_word.ensures ∙ c.if-is_word.true in
    c.as_slice-then-is_word.ensures.value ∙ sym (named-here c.args.name.now (section_in (c.in-Some.own.now, c.in-Some.lines.now)) (sections_in c.next.new.self) on)
    ∙ ap (λ (es : Entries). lines_named c.args.name.now (sections_in es)) (sym c.in-Some.ensures.steps) ∙ c.loop-own.invariant

pub loop-own-preserved : goal.loop-own-preserved
loop-own-preserved c =
    let off : is_same c.args.name.now c.in-Some.own.now ≡ false = ap (is_same c.args.name.now) (sym c.as_slice.ensures) ∙ sym c.is_word.ensures ∙ c.if-is_word.false in
    sym (named-further c.args.name.now (section_in (c.in-Some.own.now, c.in-Some.lines.now)) (sections_in c.next.new.self) off)
    ∙ ap (λ (es : Entries). lines_named c.args.name.now (sections_in es)) (sym c.in-Some.ensures.steps) ∙ c.loop-own.invariant

pub returns : goal.returns
returns c = ap (λ (es : Entries). lines_named c.args.name.now (sections_in es)) (sym c.in-None.ensures.steps.0) ∙ c.loop-own.invariant
