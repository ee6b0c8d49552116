use Rattle.std.proofs.Common.{ℕ, ◌*◌, List, ◌++◌, replicate, ap, subst, ◌∙◌}
use Rattle.std.specs.Str.Lines.{lines}
use Rattle.sys_forge.specs.Moved.{AreAddresses}
use Rattle.sys_forge.proofs.assembly.assemble_with_places.Goals as goal

pub returns-in-Ok-put_zeros-clause-ok : goal.returns-in-Ok-put_zeros-clause-ok
returns-in-Ok-put_zeros-clause-ok c = record {
  settled = c.in_ok-plan.ensures.settled;
  bytes = c.in_ok-plan.bytes;
  emitted = c.in_ok-plan.ensures.ok;
  words = c.in-Ok-put_zeros.ensures ∙ ap (λ n. c.in_ok-plan.bytes ++ replicate (4 * n) 0) c.len.ensures;
  addresses = subst (λ (bs : List ℕ). AreAddresses c.in_ok-plan.plan.tables (lines c.args.text.now) bs c.in-Ok.places.items) c.as_slice.ensures c.in-Ok.ensures.ok;
}
