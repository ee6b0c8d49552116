use Rattle.std.proofs.Common.{sym, ◌∙◌}
use Rattle.run_rests.proofs.Stillness.{rests_here}
use Rattle.run_rests.proofs.choice.comes_next.Goals as goal

pub at_rest-requires : goal.at_rest-requires
at_rest-requires g c =
    (c.requires.0, (c.requires.1.0, (c.requires.1.1.0, (c.requires.1.1.1, rests_here g.o.inputs g.o.state c.owed_laws.ensures (sym c.frame_due.ensures ∙ c.if-frame_due.false) (sym c.in_default.ensures) c.in_default-ready.ensures.none))))
