use Rattle.std.proofs.Common.{[], inr}
use Rattle.std.proofs.lemmas.Result.{on_ok_weaker}
use Rattle.ndis_run.proofs.forge_command.write_file.Goals as goal

pub returns-clause-ok : goal.returns-clause-ok
returns-clause-ok g c = on_ok_weaker c.append_all.result (λ appends. λ m is. appends m [] (c.in_ok-create.ensures.known m is)) c.append_all.ensures.ok

pub returns-clause-front : goal.returns-clause-front
returns-clause-front g c = λ m is. inr (c.append_all.ensures.front m [] (c.in_ok-create.ensures.known m is))
