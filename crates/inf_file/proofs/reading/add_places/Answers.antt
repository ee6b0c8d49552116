use Rattle.std.proofs.Common.{[], ◌++◌, List, Option, ℕ, ap₂, ◌∙◌, arith}
use Rattle.std.specs.List.{cons_option}
use Rattle.inf_file.specs.Keyed.{string_in}
use Rattle.inf_text.specs.Sections.{place_named}
use Rattle.inf_file.specs.Strings.{replaced}
use Rattle.inf_file.specs.Parameters.{named_places}
use Rattle.inf_file.proofs.ListLemmas.{filter_map_behind}
use Rattle.inf_file.proofs.reading.add_places.Goals as goal

pub loop-value-preserved : goal.loop-value-preserved
unfolding named_places
loop-value-preserved c =
    let f = λ (value : List ℕ). place_named (replaced (string_in c.args.source.now.strings.now) value) c.args.source.now.inf.now in
    c.in_ok-push_place.ensures ∙ ap₂ (λ (ps : List ℕ) (o : Option ℕ). ps ++ cons_option o []) c.loop-value.invariant c.in_ok-place.ensures
    ∙ filter_map_behind f c.args.places.now.items c.args.values.now c.loop-value.value-index c.value-item.result (omega arith) c.value-item.is
