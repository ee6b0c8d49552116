use Rattle.std.proofs.Common.{◌≡◌, ◌++◌, ◌∷◌, [], ℕ, List, length, map, get_or, set, refl, sym, ap, ◌∙◌, arith}
use Rattle.std.proofs.lemmas.List.{length-map}
use Rattle.driver_script.specs.declared.adapter_lines.ParamLine.{ParamLine}
use Rattle.driver_script.specs.contracts.script_file.Script.{the_view}
use Rattle.driver_script.specs.Scripts.{Contents}
use Rattle.driver_script.proofs.Adds.{there, not_there, add_at, set_none}
use Rattle.driver_script.proofs.script_file.Script.add_param.Goals as goal
use Rattle.driver_script.proofs.script_file.Script.add_param.Goals.{in-Some+in_ok-param+in_ok-push, in_default}

abbrev with_param : ParamLine → ℕ → Contents → Contents
with_param p n s = record s { params = set s.params n (get_or s.params n [] ++ p ∷ []) }

pub returns : goal.returns
returns c =
    let p : ParamLine = record { name = c.args.name.now; text = c.args.text.now } in
    let inside = c.self.inside in
    let now = ap (with_param p c.from.result) c.self.view_is ∙ ap (λ (n : ℕ). with_param p n c.args.self.now) c.from.ensures in
    elim c.match-get_mut.branch [
      | in-Some+in_ok-param+in_ok-push w ↦
          let lt = there _ _ _ _ c.get_mut.ensures.item.0 w.in-Some.is in
          let more = w.in_ok-push.ensures.items ∙ ap (λ (x : ParamLine). w.in-Some.params.now.items ++ x ∷ []) w.in_ok-param.ensures in
          ap the_view w.self-inside-is
          ∙ ap (λ (ps : List (List ParamLine)). record { adapters = inside.adapters.items; params = ps; drivers = inside.drivers.items; sections = map (λ v. v.items) inside.sections.items }) (add_at (λ v. v.items) inside.params.items c.from.result w.in-Some.params.now w.push.new.self p lt w.in-Some.ensures.value more)
          ∙ now
      | in_default w ↦
          let le = not_there _ _ _ c.get_mut.ensures.item.0 w.in_default.is in
          ap the_view w.self-inside-is
          ∙ ap (λ (ps : List (List ParamLine)). record { adapters = inside.adapters.items; params = ps; drivers = inside.drivers.items; sections = map (λ v. v.items) inside.sections.items }) (sym (set_none (map (λ v. v.items) inside.params.items) c.from.result (get_or (map (λ v. v.items) inside.params.items) c.from.result [] ++ p ∷ []) (let same = length-map inside.params.items (λ v. v.items) in omega (arith, same, le))))
          ∙ now
    ]
