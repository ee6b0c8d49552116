-- What is read behind the name of a cause or a condition.
use Rattle.std.proofs.Common.{◌≡◌, ℕ, List, Some, sym, ap, ◌∙◌}
use Rattle.log_fields.specs.Codes.{find, before_end, from_end}
use Rattle.log_fields.specs.Names.{cause_name, causes_all, what_name, whats_all}
use Rattle.log_fields.specs.Fields.{Caused, caused, cause, read_caused, read_awaited, Awaited, awaited, what}
use Rattle.log_fields.specs.ExactLaws.{chosen_at}
use Rattle.log_fields.specs.declared.names.CauseKind.{CauseKind}
use Rattle.log_fields.specs.declared.names.ConditionKind.{ConditionKind}

pub cause_at : (bytes rest : List ℕ) (k : CauseKind) → find cause_name causes_all (before_end bytes) ≡ Some k → rest ≡ from_end bytes → cause.read bytes ≡ read_caused k rest
cause_at bytes rest k h e = chosen_at cause_name causes_all Caused caused bytes k h ∙ ap (read_caused k) (sym e)

pub what_at : (bytes rest : List ℕ) (k : ConditionKind) → find what_name whats_all (before_end bytes) ≡ Some k → rest ≡ from_end bytes → what.read bytes ≡ read_awaited k rest
what_at bytes rest k h e = chosen_at what_name whats_all Awaited awaited bytes k h ∙ ap (read_awaited k) (sym e)
