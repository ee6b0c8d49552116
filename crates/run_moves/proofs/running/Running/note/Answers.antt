use Rattle.std.proofs.Common.{◌≡◌, ℕ, sym, ap, ◌∙◌, subst}
use Rattle.run_moves.specs.Runs.{Grows, progressed}
use Rattle.run_moves.proofs.Noted.{noted}
use Rattle.run_moves.proofs.running.Running.note.Goals as goal

pub returns : goal.returns
returns g c =
    subst
    (λ (n : ℕ). Grows g.o c.args.entry c.args.self.now (record c.args.self.now { book = c.write.new.book; log = c.write.new.log; course = record c.args.self.now.course { expired = n } }))
    (sym (c.progressed-expired.ensures ∙ ap (progressed c.args.self.now.course.expired) c.makes_progress.ensures))
    (noted c.run_laws.ensures g.o c.args.entry c.args.self.now c.write.new.book c.write.new.log c.requires.0 c.requires.1.0 c.write.ensures.logs c.write.ensures.book)
