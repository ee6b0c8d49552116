use Rattle.std.proofs.Common.{length, sym, ◌∙◌}
use Rattle.asm_encode.proofs.Behind.{found, found_0, found_1, found_2, found_4}
use Rattle.asm_encode.proofs.templates.behind_offset.Goals as goal

pub returns-then-ends_behind-clause-found : goal.returns-then-ends_behind-clause-found
returns-then-ends_behind-clause-found c = λ front back imm h.
    found_0 c.args.bytes.now c.args.word (length back) (found c.args.bytes.now c.args.word imm front back c.requires h) (sym c.ends_behind.ensures ∙ c.if-ends_behind.true)

pub returns-then-ends_behind-2-clause-found : goal.returns-then-ends_behind-2-clause-found
returns-then-ends_behind-2-clause-found c = λ front back imm h.
    found_1 c.args.bytes.now c.args.word (length back) (found c.args.bytes.now c.args.word imm front back c.requires h) (sym c.ends_behind.ensures ∙ c.if-ends_behind.false)
    (sym c.ends_behind-else-ends_behind.ensures ∙ c.if-ends_behind-2.true)

pub returns-then-ends_behind-3-clause-found : goal.returns-then-ends_behind-3-clause-found
returns-then-ends_behind-3-clause-found c = λ front back imm h.
    found_2 c.args.bytes.now c.args.word (length back) (found c.args.bytes.now c.args.word imm front back c.requires h) (sym c.ends_behind.ensures ∙ c.if-ends_behind.false)
    (sym c.ends_behind-else-ends_behind.ensures ∙ c.if-ends_behind-2.false) (sym c.ends_behind-else-ends_behind-2.ensures ∙ c.if-ends_behind-3.true)

pub returns-else-ends_behind-3-clause-found : goal.returns-else-ends_behind-3-clause-found
returns-else-ends_behind-3-clause-found c = λ front back imm h.
    found_4 c.args.bytes.now c.args.word (length back) (found c.args.bytes.now c.args.word imm front back c.requires h) (sym c.ends_behind.ensures ∙ c.if-ends_behind.false)
    (sym c.ends_behind-else-ends_behind.ensures ∙ c.if-ends_behind-2.false) (sym c.ends_behind-else-ends_behind-2.ensures ∙ c.if-ends_behind-3.false)
