use Rattle.std.proofs.Common.{sym, ap, ◌∙◌}
use Rattle.line_bytes.specs.Tables.{Rows, row_of}
use Rattle.line_bytes.proofs.TableLaws.{row-found, row-absent}
use Rattle.line_bytes.proofs.table.Table.find.Goals as goal

pub returns-in-Some : goal.returns-in-Some
returns-in-Some c =
    let name = c.args.name.now in
    let es = c.self.inside.numbers.entries in
    sym (row-found name es c.in-Some.place c.in-Some.number.now (sym c.in-Some.ensures.index) (sym c.in-Some.ensures.value)) ∙ ap (λ (rows : Rows). row_of rows name) c.self.view_is

pub returns-in-None : goal.returns-in-None
returns-in-None c =
    let name = c.args.name.now in
    let es = c.self.inside.numbers.entries in
    sym (row-absent name es (sym c.in-None.ensures.index)) ∙ ap (λ (rows : Rows). row_of rows name) c.self.view_is
