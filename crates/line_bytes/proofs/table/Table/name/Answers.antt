use Rattle.std.proofs.Common.{Some, sym, ap, ◌∙◌}
use Rattle.std.specs.Option.{option_map}
use Rattle.std.specs.List.{slice_get}
use Rattle.std.specs.Map.{keys_of}
use Rattle.line_bytes.specs.Tables.{Rows}
use Rattle.line_bytes.proofs.TableLaws.{key_of, name-at}
use Rattle.line_bytes.proofs.table.Table.name.Goals as goal

pub returns-in-Some : goal.returns-in-Some
returns-in-Some c =
    let place = c.args.place in
    ap (λ name. Some name) c.as_slice.ensures.value
    ∙ ap (option_map key_of) c.in-Some.ensures.entry ∙ sym (name-at c.self.inside.numbers.entries place)
    ∙ ap (λ (rows : Rows). slice_get (keys_of rows) place) c.self.view_is

pub returns-in-None : goal.returns-in-None
returns-in-None c =
    let place = c.args.place in
    ap (option_map key_of) c.in-None.ensures.entry ∙ sym (name-at c.self.inside.numbers.entries place)
    ∙ ap (λ (rows : Rows). slice_get (keys_of rows) place) c.self.view_is
