use Rattle.std.proofs.Common.{◌≡◌, ◌-◌, ◌≤◌, length, Ok, Err, ap, sym, rules}
use Rattle.codes.specs.declared.Stop.TheVariants.{Outside, More}
use Rattle.codes.specs.Readings.{reading_of}
use Rattle.codes.specs.ReadingLaws.{only_reading, rest_within, left_within, size_at_most, index_at_most, AreBytes-from}
use Rattle.ia32_decode.specs.Prefixes.{instruction, none, read_behind}
use Rattle.ia32_decode.proofs.PrefixLaws.{instruction_exact}
use Rattle.ia32_decode.proofs.Lengths.{at_most_fifteen}
use Rattle.ia32_decode.proofs.decoding.decode.Goals as goal

pub overflow_sub-result : goal.overflow_sub-result
overflow_sub-result c =
    let bytes = c.args.bytes.now in
    rest_within instruction instruction_exact bytes (AreBytes-from bytes (λ k p. search rules)) c.in-Ok.instruction c.in-Ok.rest.now (search rules)

pub overflow_sub-result-in-Err-Outside : goal.overflow_sub-result-in-Err-Outside
overflow_sub-result-in-Err-Outside c =
    let bytes = c.args.bytes.now in
    left_within instruction instruction_exact bytes (AreBytes-from bytes (λ k p. search rules)) c.in-Err-Outside.left (search rules)

pub overflow_cast-result : goal.overflow_cast-result
overflow_cast-result c =
    let bytes = c.args.bytes.now in
    let below : length bytes - length c.in-Ok.rest.now ≤ 15 = size_at_most instruction instruction_exact 15 at_most_fifteen bytes (AreBytes-from bytes (λ k p. search rules)) c.in-Ok.instruction c.in-Ok.rest.now (search rules) in
    search rules

pub overflow_cast-result-in-Err-Outside : goal.overflow_cast-result-in-Err-Outside
overflow_cast-result-in-Err-Outside c =
    let bytes = c.args.bytes.now in
    let below : length bytes - c.in-Err-Outside.left ≤ 15 = index_at_most instruction instruction_exact 15 at_most_fifteen bytes (AreBytes-from bytes (λ k p. search rules)) c.in-Err-Outside.left (search rules) in
    search rules

pub returns-in-Ok-clause-only : goal.returns-in-Ok-clause-only
returns-in-Ok-clause-only c =
    let bytes = c.args.bytes.now in
    let e : read_behind none bytes ≡ Ok (c.in-Ok.instruction, c.in-Ok.rest.now) = search rules in
    only_reading instruction instruction_exact bytes (AreBytes-from bytes (λ k p. search rules)) _ (sym (ap (reading_of bytes) e))

pub returns-in-Err-Outside-clause-only : goal.returns-in-Err-Outside-clause-only
returns-in-Err-Outside-clause-only c =
    let bytes = c.args.bytes.now in
    let e : read_behind none bytes ≡ Err (Outside c.in-Err-Outside.left) = search rules in
    only_reading instruction instruction_exact bytes (AreBytes-from bytes (λ k p. search rules)) _ (sym (ap (reading_of bytes) e))

pub returns-in-Err-More-clause-only : goal.returns-in-Err-More-clause-only
returns-in-Err-More-clause-only c =
    let bytes = c.args.bytes.now in
    let e : read_behind none bytes ≡ Err More = search rules in
    only_reading instruction instruction_exact bytes (AreBytes-from bytes (λ k p. search rules)) _ (sym (ap (reading_of bytes) e))
