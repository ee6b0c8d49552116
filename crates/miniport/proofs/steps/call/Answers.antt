use Rattle.std.proofs.Common.{◌≡◌, ℕ, ◌≤◌, ap, sym, subst, refl}
use Rattle.call_log.specs.declared.entry.Entry.TheVariants as entries
use Rattle.legal_run.specs.State.{Calling}
use Rattle.legal_run.specs.Run.{Meets}
use Rattle.miniport.proofs.Standing.{may_call}
use Rattle.miniport.proofs.steps.call.Goals as goal

pub write-requires : goal.write-requires
write-requires g c =
    let e : c.calling.inside.import ≡ c.args.calling.import = ap (λ (call : Calling). call.import) c.calling.view_is in
    let may = c.requires.1.1.0 in (
      subst (λ (i : ℕ). Meets g.o.inputs g.o.state (entries.Call c.args.x i c.args.words)) (sym e) (may_call g.o c.args.x c.args.calling.import c.args.words may.goes may.slot may.said),
      (c.requires.1.0, (refl, (subst (λ (i : ℕ). (1 ≤ i) × (i ≤ 64)) (sym e) may.number, c.requires.1.1.1))),
    )
