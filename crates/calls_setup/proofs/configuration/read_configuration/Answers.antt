use Rattle.std.proofs.Common.{◌≡◌, ℕ, ◌/◌, List, Option, None, Some, refl, sym, ap, ◌∙◌}
use Rattle.std.specs.Option.{option_and_then}
use Rattle.std.specs.FinMap as map
use Rattle.nd_base.specs.declared.numbers.AdapterNo.{AdapterNo}
use Rattle.inf_file.specs.declared.param.Param.{Param}
use Rattle.inf_file.specs.ByName.{value_of}
use Rattle.guest_world.specs.declared.world.World.{World}
use Rattle.import_answers.specs.World.{word, params_in, params_of}
use Rattle.import_answers.specs.Outcomes.{can_read}
use Rattle.import_answers.specs.Configuration.{read_as, units_at}
use Rattle.calls_setup.specs.Adapters.{adapter_in}
use Rattle.calls_setup.specs.Keywords.{counted_of}
use Rattle.calls_setup.specs.Values.{read_in_some}
use Rattle.calls_setup.proofs.ReadLemmas.{read_comes}
use Rattle.calls_setup.proofs.configuration.read_configuration.Goals as goal

same_params : (w : World) (a : Option AdapterNo) → params_in (adapter_in w.adapters a) ≡ params_of w a
same_params w None = refl
same_params w (Some a) = refl

pub returns : goal.returns
returns c =
    let w = c.args.world.now in
    let words = c.args.words.now in
    let k = c.at-keyword.result in
    let value = c.asked_value-value.ensures ∙ ap (λ (params : List Param). option_and_then (read_as (word words 5)) (value_of (units_at (map.get w.memory) k.characters (k.length / 2)) params)) (c.params_of-params.ensures ∙ same_params w c.args.caller.now.adapter) in
    let readable = ap (λ (n : ℕ). can_read w k.characters n) (sym c.from.ensures) ∙ sym c.can_read-2.ensures ∙ c.if-not-can_read-2.false in
    read_comes w _ c.args.caller.now words (counted_of k) (read_in_some c.asked_value-value.result) c.given_value.result (sym c.can_write.ensures ∙ c.if-not-can_write.false) (sym c.is_configuration_handle.ensures ∙ c.if-not-is_configuration_handle.false) (sym c.can_read.ensures ∙ c.if-not-can_read.false) c.at-keyword.ensures c.if-keyword-ne0.false readable value (c.given_value.ensures w refl (sym c.can_write-writable.ensures))
