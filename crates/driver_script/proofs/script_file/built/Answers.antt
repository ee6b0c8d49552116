use Rattle.std.proofs.Common.{◌≡◌, ◌∙◌, sym, ap}
use Rattle.driver_script.specs.Reading.{Said, put}
use Rattle.driver_script.proofs.Texts.{builds_more, builds_all}
use Rattle.driver_script.proofs.script_file.built.Goals as goal

pub loop-rest-preserved : goal.loop-rest-preserved
loop-rest-preserved c =
    builds_more c.loop-rest.script c.put.new.self c.loop-rest.rest.now c.next_line.result.0.now c.next_line.result.1.now c.next_line.ensures.lines
    (c.in_ok-put.ensures ∙ ap (λ (s : Said). put c.loop-rest.script s) c.content_of.ensures) ∙ c.loop-rest.invariant

pub returns : goal.returns
returns c = sym (builds_all c.loop-rest.script c.loop-rest.rest.now c.loop-rest-test.ensures) ∙ c.loop-rest.invariant
