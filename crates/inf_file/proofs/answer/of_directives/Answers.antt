use Rattle.std.proofs.Common.{Bor, List, Result, map, ap, subst, ◌∙◌}
use Rattle.inf_text.specs.declared.line.Line.{Line}
use Rattle.inf_file.specs.declared.param.Param.{Param}
use Rattle.inf_file.specs.declared.param.ParamRefusal.{ParamRefusal}
use Rattle.inf_file.specs.Keyed.{string_in}
use Rattle.inf_file.specs.Parameters.{reg_places, lines_read, of_rows}
use Rattle.inf_file.specs.declared.param.ParamRefusal.TheVariants.{OutOfMemory}
use Rattle.nd_base.specs.Results.{Gives}
use Rattle.inf_file.proofs.ParamLaws.{rows-thinned}
use Rattle.inf_file.proofs.answer.of_directives.Goals as goal

pub returns : goal.returns
returns c =
    let s = string_in c.args.source.now.strings.now in
    let ss = c.args.source.now.inf.now in
    let now = λ (ls : List (Bor Line)). map (λ (l : Bor Line). l.now) ls in
    let ds = now c.args.directives.now in
    let read = lines_read c.args.makers.now c.args.model.now ds in
    subst (λ (r : Result (List Param) ParamRefusal). Gives OutOfMemory (λ v. v.items) c.of_rows.result r)
    (ap (λ (ls : List Line). of_rows s (read ls) ls) (ap now c.as_slice.ensures.value ∙ c.in_ok-rows.ensures) ∙ rows-thinned ss (reg_places s ss ds) s c.args.makers.now c.args.model.now ds)
    c.of_rows.ensures
