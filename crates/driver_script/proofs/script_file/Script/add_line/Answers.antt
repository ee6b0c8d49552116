use Rattle.std.proofs.Common.{◌≡◌, ◌-◌, ◌++◌, ◌∷◌, [], ℕ, List, length, map, get_or, set, ◌<◌, refl, sym, ap, ◌∙◌, arith}
use Rattle.std.proofs.lemmas.List.{length-map}
use Rattle.driver_script.specs.declared.section_lines.Line.{Line}
use Rattle.driver_script.specs.contracts.script_file.Script.{the_view}
use Rattle.driver_script.specs.Statements.{line_of}
use Rattle.driver_script.specs.Scripts.{Contents}
use Rattle.driver_script.specs.Reading.{onto_last}
use Rattle.driver_script.proofs.Adds.{there, not_there, add_at, onto_last_at, onto_none}
use Rattle.driver_script.proofs.script_file.Script.add_line.Goals as goal
use Rattle.driver_script.proofs.script_file.Script.add_line.Goals.{in-Some+in_ok-line+in_ok-push, in_default}

abbrev with_line : Line → Contents → Contents
with_line l s = record s { sections = onto_last s.sections l }

pub returns : goal.returns
returns c =
    let l = line_of c.args.text.now in
    let inside = c.self.inside in
    let now = ap (with_line l) c.self.view_is in
    let lists = map (λ v. v.items) inside.sections.items in
    let long = length-map inside.sections.items (λ v. v.items) in
    let len = inside.sections.ok.0 in
    elim c.match-last_mut.branch [
      | in-Some+in_ok-line+in_ok-push w ↦
          let some = there _ _ _ _ c.last_mut.ensures.item.0 w.in-Some.is in
          let lt : inside.sections.len - 1 < length inside.sections.items = omega (arith, some, len) in
          let more = w.in_ok-push.ensures.items ∙ ap (λ (x : Line). w.in-Some.lines.now.items ++ x ∷ []) w.in_ok-line.ensures in
          let last : inside.sections.len - 1 ≡ length lists - 1 = omega (arith, len, long) in
          ap the_view w.self-inside-is
          ∙ ap (λ (ls : List (List Line)). record { adapters = inside.adapters.items; params = map (λ v. v.items) inside.params.items; drivers = inside.drivers.items; sections = ls })
          (add_at (λ v. v.items) inside.sections.items (inside.sections.len - 1) w.in-Some.lines.now w.push.new.self l lt w.in-Some.ensures.value more
          ∙ ap (λ (k : ℕ). set lists k (get_or lists k [] ++ l ∷ [])) last
          ∙ onto_last_at lists l (omega (arith, some, long)))
          ∙ now
      | in_default w ↦
          let le = not_there _ _ _ c.last_mut.ensures.item.0 w.in_default.is in
          ap the_view w.self-inside-is
          ∙ ap (λ (ls : List (List Line)). record { adapters = inside.adapters.items; params = map (λ v. v.items) inside.params.items; drivers = inside.drivers.items; sections = ls }) (sym (onto_none lists l (omega (arith, long, le))))
          ∙ now
    ]
