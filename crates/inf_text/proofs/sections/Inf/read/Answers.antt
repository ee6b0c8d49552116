use Rattle.std.proofs.Common.{arith, sym, ◌∙◌}
use Rattle.inf_text.specs.Characters.{text_of}
use Rattle.inf_text.proofs.LineLoops.{too_long, bad_byte_there, all_good, all_given}
use Rattle.inf_text.proofs.sections.Inf.read.Goals as goal

pub returns-then-bytes-gt-LONGEST_FILE-clause-value : goal.returns-then-bytes-gt-LONGEST_FILE-clause-value
returns-then-bytes-gt-LONGEST_FILE-clause-value c = λ no_want. too_long c.args.bytes.now c.if-bytes-gt-LONGEST_FILE.true

pub returns-in-Some-clause-value : goal.returns-in-Some-clause-value
returns-in-Some-clause-value c = λ no_want. bad_byte_there c.args.bytes.now c.in-Some.at (omega arith) c.in-Some.ensures

pub returns-clause-value : goal.returns-clause-value
returns-clause-value c =
    all_given c.args.bytes.now (text_of c.args.bytes.now) c.as_slice.result.now c.in_ok-lines.lines.items c.as_slice-2.result.now c.of_lines.result (omega arith) (all_good c.args.bytes.now c.in_default.ensures) (c.as_slice.ensures.value ∙ c.in_ok-text.ensures.value)
    c.in_ok-lines.ensures c.as_slice-2.ensures.value c.of_lines.ensures

pub returns-clause-memory : goal.returns-clause-memory
returns-clause-memory c = λ e. record { short = omega arith; good = sym c.in_default.ensures }
