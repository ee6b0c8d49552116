use Rattle.std.proofs.Common.{◌≡◌, ℕ, List, None, is_some, true, false, sym, ap, subst, ◌∙◌}
use Rattle.std.specs.List.{position}
use Rattle.std.specs.Map.{keys_of, lookup}
use Rattle.std.specs.Str.{bytes_eq}
use Rattle.indexmap.proofs.CallerLemmas.{insert_entry-new}
use Rattle.line_bytes.specs.Tables.{Rows, with_row}
use Rattle.line_bytes.specs.TableRows.{rows_in}
use Rattle.line_bytes.proofs.TableLaws.{named, row-kept, row-added, none_from}
use Rattle.line_bytes.proofs.table.Table.add.Goals as goal

pub returns-then-is_some : goal.returns-then-is_some
returns-then-is_some c =
    let name = c.args.name.now in
    let es = c.self.inside.numbers.entries in
    let there : is_some (position (named name) (keys_of es)) ≡ true = sym (ap is_some c.get_index_of.ensures.index) ∙ sym c.is_some.ensures ∙ c.if-is_some.true in
    sym c.self.view_is ∙ sym (row-kept name c.args.number es there) ∙ ap (λ (rows : Rows). with_row rows name c.args.number) c.self.view_is

pub returns : goal.returns
returns c =
    let name = c.args.name.now in
    let es = c.self.inside.numbers.entries in
    let absent : is_some (position (named name) (keys_of es)) ≡ false = sym (ap is_some c.get_index_of.ensures.index) ∙ sym c.is_some.ensures ∙ c.if-is_some.false in
    let none : lookup (named name) es ≡ None = none_from (lookup (named name) es) (sym c.get_index_of.ensures.found ∙ sym c.is_some.ensures ∙ c.if-is_some.false) in
    let own : lookup (λ k. bytes_eq c.in_ok-key.key.items k.items) es ≡ None = subst (λ (n : List ℕ). lookup (λ k. bytes_eq n k.items) es ≡ None) (sym c.in_ok-key.ensures.items) none in
    ap rows_in (c.in_ok-insert.ensures.entries ∙ insert_entry-new (λ x y. bytes_eq x.items y.items) c.self.inside.numbers c.in_ok-key.key c.args.number own)
    ∙ row-added name c.args.number es c.in_ok-key.key absent c.in_ok-key.ensures.items
    ∙ ap (λ (rows : Rows). with_row rows name c.args.number) c.self.view_is
