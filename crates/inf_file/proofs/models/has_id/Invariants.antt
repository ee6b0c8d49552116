use Rattle.std.proofs.Common.{◌≡◌, false, take}
use Rattle.std.specs.List.{list_any}
use Rattle.inf_file.specs.Keyed.{string_in}
use Rattle.inf_text.specs.Names.{is_same}
use Rattle.inf_file.specs.Strings.{replaced}
use Rattle.inf_file.proofs.models.has_id.Given as goal

abbrev pub invariant-loop-value : goal.invariant-loop-value
invariant-loop-value l = list_any (λ value. is_same l.id (replaced (string_in l.source.strings.now) value)) (take l.value-index l.value-items) ≡ false
