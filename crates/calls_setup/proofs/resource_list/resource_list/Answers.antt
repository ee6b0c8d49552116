use Rattle.std.proofs.Common.{◌≡◌, ◌/◌, ◌%◌, arith}
use Rattle.calls_setup.proofs.resource_list.resource_list.Goals as goal

pub returns : goal.returns
returns c =
    let port = c.args.hardware.port in
    let irq = c.args.hardware.irq in
    let p2 : port / 65536 % 256 ≡ 0 = omega arith in
    let p3 : port / 16777216 % 256 ≡ 0 = omega arith in
    let p4 : port / 4294967296 % 256 ≡ 0 = omega arith in
    let p5 : port / 1099511627776 % 256 ≡ 0 = omega arith in
    let p6 : port / 281474976710656 % 256 ≡ 0 = omega arith in
    let p7 : port / 72057594037927936 % 256 ≡ 0 = omega arith in
    let i0 : irq % 256 ≡ irq = omega arith in
    let i1 : irq / 256 % 256 ≡ 0 = omega arith in
    let i2 : irq / 65536 % 256 ≡ 0 = omega arith in
    let i3 : irq / 16777216 % 256 ≡ 0 = omega arith in
    rw (c.to_le_bytes.ensures, p2, p3, p4, p5, p6, p7, i1, i2, i3) (simp i0)
