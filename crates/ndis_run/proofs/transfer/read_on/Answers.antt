use Rattle.std.proofs.Common.{◌≡◌, ℕ, Some, arith, ◌∙◌, ap, take, drop, length}
use Rattle.nd_base.specs.Files.{bytes_at}
use Rattle.ndis_run.proofs.Pieces.{read_more}
use Rattle.ndis_run.proofs.transfer.read_on.Goals as goal

pub loop-bytes-preserved : goal.loop-bytes-preserved
loop-bytes-preserved g c =
    let before = c.loop-bytes.invariant in
    let place : c.len.result ≡ length c.loop-bytes.bytes.items = omega (arith, c.loop-bytes.bytes.ok.0, c.len.ensures) in
    record {
      within = omega arith;
      readable = c.looks_add_up.ensures.readable _ _ c.args.name.now c.read.ensures.only before.readable;
      told = λ m is. read_more _ _ _ _ c.in_ok-count.count (before.told m is) c.in_ok-extend_from_slice.ensures.items ((c.in_ok-count.ensures.known m (c.looks_add_up.ensures.told _ _ (Some m) before.only is)).bytes ∙ ap (λ (at : ℕ). take c.in_ok-count.count (drop at (bytes_at m c.args.name.now))) place);
      quiet = c.in_ok-count.ensures.quiet ∙ before.quiet;
      only = c.looks_add_up.ensures.in_a_row _ _ _ before.only c.read.ensures.only;
    }
