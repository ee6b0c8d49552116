use Rattle.std.proofs.Common.{◌+◌, Option, sym, ap, subst, ◌∙◌, arith}
use Rattle.std.specs.Str.Lines.{lines}
use Rattle.std.specs.Option.{option_map}
use Rattle.asm_lines.specs.Lines.{Content, content_seen}
use Rattle.line_bytes.specs.Made.{IsMadeIn}
use Rattle.line_bytes.specs.Putting.{AreWide}
use Rattle.line_bytes.specs.declared.piece.Tables.{Tables}
use Rattle.sys_forge.specs.Standing.{past}
use Rattle.sys_forge.proofs.Planning.{planned-none, planned-more, planned-all, wide-none, wide-line, wide-past, wide-at, empty-lines}
use Rattle.sys_forge.proofs.plan.plan.Goals as goal

pub loop-rest-init : goal.loop-rest-init
loop-rest-init c =
    let words = ap (λ (t : Tables). t.words) c.begun-tables.ensures in
    record {
      low = omega (arith, words);
      high = omega (arith, words);
      planned = planned-none (lines c.args.text.now) c.begun-tables.result c.new-all.result.items c.begun-tables.ensures c.new-all.ensures.items;
      labels = wide-none c.begun-tables.result.labels (ap (λ (t : Tables). t.labels) c.begun-tables.ensures);
      moved = wide-none c.begun-moved.result.labels (ap (λ (t : Tables). t.labels) c.begun-moved.ensures);
    }

pub loop-rest-preserved : goal.loop-rest-preserved
loop-rest-preserved c =
    let t : Tables = c.loop-rest.tables in
    let seen = option_map content_seen c.line_content-content.result in
    let i = c.loop-rest.invariant in
    let made = subst (λ (k : Option Content). IsMadeIn k c.made_in-made.result) c.line_content-content.ensures c.made_in-made.ensures in
    let behind = c.in_ok-note_line.ensures.past in
    record {
      low = omega (arith, i.low, c.in_ok-note_line.ensures.high);
      high = c.in_ok-note_line.ensures.low;
      planned = planned-more (lines c.args.text.now) (lines c.loop-rest.rest.now) (lines c.next_line.result.1.now) c.next_line.result.0.now c.made_in-made.result t c.note_line.new.tables c.loop-rest.all.items c.push.new.self.items
          i.planned c.next_line.ensures.lines made (behind ∙ ap (λ (k : Option Content). past t k c.made_in-made.result) c.line_content-content.ensures) c.in_ok-push.ensures.items;
      labels = subst (λ (x : Tables). AreWide x.labels) (sym behind) (wide-past t seen c.made_in-made.result i.labels i.low i.high);
      moved = subst AreWide (sym c.in_ok-note_line_at.ensures.labels) (wide-line c.loop-rest.moved.labels (t.words + 0x01010101) seen i.moved (wide-at (t.words + 0x01010101) (omega (arith, i.low)) (omega (arith, i.high))));
    }

pub returns-clause-wide : goal.returns-clause-wide
returns-clause-wide c = (c.loop-rest.invariant.labels, c.loop-rest.invariant.moved)

pub returns-clause-made : goal.returns-clause-made
returns-clause-made c = (planned-all (lines c.args.text.now) (lines c.loop-rest.rest.now) c.loop-rest.tables c.loop-rest.all.items (empty-lines c.loop-rest.rest.now c.loop-rest-test.ensures) c.loop-rest.invariant.planned).0

pub returns-clause-laid : goal.returns-clause-laid
returns-clause-laid c = (planned-all (lines c.args.text.now) (lines c.loop-rest.rest.now) c.loop-rest.tables c.loop-rest.all.items (empty-lines c.loop-rest.rest.now c.loop-rest-test.ensures) c.loop-rest.invariant.planned).1
