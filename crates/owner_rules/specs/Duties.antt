-- What must stand directly next, as it is told.
use Rattle.owner_machine.specs.Must.{Due}
use Rattle.owner_machine.specs.Must as due
use Rattle.owner_rules.specs.declared.duties.Duty.{Duty}
use Rattle.owner_rules.specs.declared.duties.Duty.TheVariants as duties

abbrev pub due_as : Duty → Due
due_as (duties.Completes fresh packet status) = due.Completes fresh packet status
due_as (duties.BacksFailed loan) = due.BacksFailed loan
due_as (duties.Answers request status) = due.Answers request status
due_as (duties.Hands packet) = due.Hands packet
due_as (duties.BacksDue adapter) = due.BacksDue adapter
due_as (duties.HandsAsk request) = due.HandsAsk request
due_as (duties.EntersReset adapter) = due.EntersReset adapter
