use Rattle.std.proofs.Common.{◌+◌, ◌*◌, ◌++◌, ◌-◌, length, replicate, ap, ◌∙◌, arith}
use Rattle.dp8390.specs.Ring.{padded}
use Rattle.dp8390.proofs.PutBytes.{Put, put_twice, behind_twice, zeros_behind}
use Rattle.dp8390.proofs.board.Board.put_frame.Goals as goal

pub returns : goal.returns
returns c =
    let b = c.args.self.now in
    let a = 256 * c.from-start.result in
    let h = c.put_bytes-behind_header in
    let f = c.put_bytes-behind_frame in
    let header = c.args.header.now in
    let frame = c.args.frame.now in
    put_twice b f.new.self c.put_bytes.new.self a f.result (header ++ frame) _
    (put_twice b h.new.self f.new.self a h.result header frame h.ensures.memory h.ensures.next f.ensures.memory)
    (behind_twice b h.new.self a h.result f.result header frame h.ensures.memory h.ensures.next f.ensures.next)
    c.put_bytes.ensures.memory
    ∙ ap (Put b a) (zeros_behind header frame (c.max.result + 4 - length frame) (omega arith))
    ∙ ap (λ page. Put b (256 * page) (header ++ padded frame ++ replicate 4 0)) c.from-start.ensures
