use Rattle.std.proofs.Common.{◌≡◌, List, ℕ, sym, ap, ◌∙◌}
use Rattle.inf_file.specs.Keyed.{params_in}
use Rattle.inf_file.specs.Rows.{with_default}
use Rattle.inf_file.specs.declared.param.Param.{Param}
use Rattle.inf_file.specs.declared.param.ParamValue.{ParamValue}
use Rattle.inf_file.proofs.ParamLists.{default_old}
use Rattle.inf_file.proofs.gathered.Params.set_default.Goals as goal

-- what a table's parameters are with a default of this name is what they are with the default that is given
same_param : (es : List (List ℕ × ParamValue)) (ps : List Param) (name : List ℕ) (p : Param) → name ≡ p.name → params_in es ≡ ps → with_default (params_in es) (record { name = name; value = p.value }) ≡ with_default ps p
same_param es ps name p n e = ap (λ (m : List ℕ). with_default (params_in es) (record { name = m; value = p.value })) n ∙ ap (λ (qs : List Param). with_default qs p) e

pub returns-then-contains_key : goal.returns-then-contains_key
returns-then-contains_key c =
    let es = c.self.inside.table.entries in
    sym c.self.view_is ∙ default_old es c.new-name.result c.args.param.value (sym c.contains_key.ensures ∙ c.if-contains_key.true) ∙ same_param es c.args.self.now c.new-name.result c.args.param c.new-name.ensures c.self.view_is
