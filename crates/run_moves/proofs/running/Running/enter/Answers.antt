use Rattle.std.proofs.Common.{◌≡◌, ℕ, sym, subst}
use Rattle.handler_entries.specs.Entries.{entry_of}
use Rattle.run_moves.specs.Runs.{Grows}
use Rattle.run_moves.proofs.Turning.{entered}
use Rattle.run_moves.proofs.running.Running.enter.Goals as goal

pub returns : goal.returns
returns g c =
    subst
    (λ (n : ℕ). Grows g.o (entry_of c.args.x c.args.entering) c.args.self.now (record { adapters = c.enter.new.adapters; book = c.enter.new.book; world = c.enter.new.world; log = c.enter.new.log; course = record c.args.self.now.course { expired = n } }))
    (sym c.expirations-expired.ensures)
    (entered c.run_laws.ensures g.o c.args.x c.args.entering c.args.self.now c.enter.new.adapters c.enter.new.book c.enter.new.world c.enter.new.log c.requires.0 c.requires.1.1.0 c.in_ok-enter.ensures)
