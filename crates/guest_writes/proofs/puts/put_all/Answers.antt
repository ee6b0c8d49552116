use Rattle.std.proofs.Common.{List, ap, sym, ◌+◌, ◌∙◌, take}
use Rattle.nd_mem.specs.Space.{put_from}
use Rattle.log_fields.specs.declared.write.Write.{Write}
use Rattle.legal_run.specs.Guest.{with_writes}
use Rattle.guest_writes.proofs.Steps.{write_put}
use Rattle.guest_writes.proofs.puts.put_all.Goals as goal

pub loop-write-preserved : goal.loop-write-preserved
loop-write-preserved c =
    let s = c.args.memory.now in
    let i = c.loop-write.write-index in
    let same = c.as_slice-write-items.ensures in
    let made = c.loop-write.invariant.memory ∙ ap (λ (l : List Write). with_writes s (take i l)) (sym same) in
    record {
      memory = write_put s c.loop-write.memory c.put.new.memory i c.as_slice-write-items.result.now c.write-item.result _ c.loop-write-test.true made c.write-item.is (c.put.ensures ∙ ap (put_from c.loop-write.memory c.write-item.result.at.0) c.as_slice.ensures)
          ∙ ap (λ (l : List Write). with_writes s (take (i + 1) l)) same;
    }
