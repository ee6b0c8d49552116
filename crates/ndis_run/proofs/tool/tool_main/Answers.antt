use Rattle.std.proofs.Common.{map, string_bytes}
use Rattle.ndis_run.specs.Words.{form_of}
use Rattle.ndis_run.proofs.EndsLaws.{ends_also, not_two, one_form}
use Rattle.ndis_run.proofs.tool.tool_main.Goals as goal

pub run_command-requires-clause-inputs : goal.run_command-requires-clause-inputs
run_command-requires-clause-inputs g c = λ name reads. c.requires.inputs name (form_of c.in-Some.command, c.in-Some.ensures, reads)

pub run_command-requires-clause-outputs : goal.run_command-requires-clause-outputs
run_command-requires-clause-outputs g c = λ name makes. c.requires.outputs name (form_of c.in-Some.command, c.in-Some.ensures, makes)

pub returns-in-Some-clause-form : goal.returns-in-Some-clause-form
returns-in-Some-clause-form g c = λ form has.
    ends_also _ _ _ _ _ (one_form (map string_bytes c.args.words.now) (form_of c.in-Some.command) form c.in-Some.ensures has) c.run_command.ensures

pub returns-in-Some-clause-no_form : goal.returns-in-Some-clause-no_form
returns-in-Some-clause-no_form g c = λ none. absurd (none (form_of c.in-Some.command) c.in-Some.ensures)

pub returns-in-Some-clause-words : goal.returns-in-Some-clause-words
returns-in-Some-clause-words g c = λ two form has. not_two (form_of c.in-Some.command) _ _ _ c.run_command.ensures two
