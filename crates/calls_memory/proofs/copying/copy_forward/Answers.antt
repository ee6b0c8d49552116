use Rattle.std.proofs.Common.{◌≡◌, length, sym, ◌∙◌, arith}
use Rattle.std.specs.FinMap as map
use Rattle.calls_memory.proofs.Forward.{made_forward, copied_bytes}
use Rattle.calls_memory.proofs.copying.copy_forward.Goals as goal

pub returns : goal.returns
returns c =
    let bytes = c.repeat_behind.new.bytes in
    let count : length bytes ≡ length c.args.bytes.now = c.repeat_behind.auto.bytes ∙ c.read.auto.out in
    let reads = rw (← count) at c.requires.read in
    let writes = rw (← count) at c.requires.written in
    let were = rw (← count) at c.in-Ok.ensures.ok in
    let is = made_forward c.fault_laws.ensures c.read_laws.ensures c.args.memory.now c.args.to c.args.from c.read.new.out bytes c.read.ensures.low (omega arith) (omega arith) reads writes were c.repeat_behind.ensures.repeats c.repeat_behind.ensures.same in
    let mapped = c.fault_laws.ensures.mapped _ (map.get c.args.memory.now) c.args.to (length bytes) writes in
    rw (← count) (sym (copied_bytes c.write_laws.ensures c.read_laws.ensures c.args.memory.now c.args.to c.args.from bytes is mapped))
