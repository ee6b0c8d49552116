-- What must stand next, as it is kept and told.
use Rattle.std.specs.Prelude.{false}
use Rattle.call_log.specs.declared.entry.Entry.TheVariants as entries
use Rattle.legal_run.specs.State as run
use Rattle.legal_run.specs.Must as must
use Rattle.legal_run.specs.Must.{Due as RunDue}
use Rattle.owner_rules.specs.Duties.{due_as as owed_as}
use Rattle.run_next.specs.declared.next.Next.{Next}
use Rattle.run_next.specs.declared.next.Next.TheVariants as kept
use Rattle.run_next.specs.declared.dues.Due.{Due}
use Rattle.run_next.specs.declared.dues.Due.TheVariants as told

abbrev pub next_of : Next → run.Next
next_of kept.Free = run.Free
next_of (kept.Takes loan) = run.Takes (entries.Back loan false)
next_of (kept.Verdicts es) = run.Verdicts es.items
next_of (kept.Spinning x lock) = run.Spinning x lock.0
next_of (kept.Makes x es lent) = run.Makes x es.items lent.items
next_of (kept.Stops cause ats) = run.Stops cause ats.items

abbrev pub due_as : Due → RunDue
due_as (told.Owes duty) = must.Owes (owed_as duty)
due_as (told.Back loan) = must.Exactly (entries.Back loan false)
due_as (told.Exactly e) = must.Exactly e.now
due_as (told.Spin x lock) = must.Exactly (entries.Spin x lock)
due_as (told.Stop a cause) = must.Exactly (entries.Stop a cause)
due_as (told.ReplyOf x) = must.ReplyOf x
