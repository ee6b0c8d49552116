use Rattle.std.proofs.Common.{Bor, ◌++◌, [], None, Option, List, map, take, sym, ap, ◌∙◌, append_assoc, arith}
use Rattle.std.specs.List.{filter_map, cons_option}
use Rattle.inf_text.specs.declared.line.Line.{Line}
use Rattle.inf_file.specs.declared.param.Param.{Param}
use Rattle.inf_file.specs.Keyed.{string_in}
use Rattle.inf_file.specs.Earliest.{earlier_if}
use Rattle.inf_file.specs.Rows.{setting, given_default, is_bad}
use Rattle.inf_file.proofs.ListLemmas.{fold-mapped, filter_map-mapped}
use Rattle.inf_file.proofs.gathered.Gathered.add_rows.Goals as goal

pub loop-row-preserved : goal.loop-row-preserved
loop-row-preserved c =
    let s = string_in c.args.source.now.strings.now in
    let now = λ (l : Bor Line). l.now in
    let rows = c.args.rows.now in
    let i = c.loop-row.row-index in
    let row = c.row-item.result in
    record {
      sets = c.in_ok-bad.ensures.set ∙ ap (λ (ps : List Param). setting s ps row.now) c.loop-row.invariant.sets ∙ sym (fold-mapped (setting s) now c.args.self.now.set rows i row (omega arith) c.row-item.is);
      gives = c.in_ok-bad.ensures.defaults ∙ ap (λ (ps : List Param). ps ++ cons_option (given_default s row.now) []) c.loop-row.invariant.gives
          ∙ append_assoc c.args.self.now.defaults.items (filter_map (given_default s) (map now (take i rows))) (cons_option (given_default s row.now) [])
          ∙ ap (λ (ps : List Param). c.args.self.now.defaults.items ++ ps) (sym (filter_map-mapped (given_default s) now rows i row (omega arith) c.row-item.is));
      first_bad = c.in_ok-bad.ensures.bad ∙ ap (λ (o : Option Line). earlier_if (is_bad s) o row.now) c.loop-row.invariant.first_bad ∙ sym (fold-mapped (earlier_if (is_bad s)) now None rows i row (omega arith) c.row-item.is);
    }
