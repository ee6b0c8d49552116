use Rattle.legal_run.proofs.Runs.{front, more, next, one, due_meets}
use Rattle.legal_run.proofs.laws.run_laws.Goals as goal

pub returns : goal.returns
returns c = record { front = front; more = more; next = next; one = one; due = due_meets }
