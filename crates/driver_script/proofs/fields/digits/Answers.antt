use Rattle.std.proofs.Common.{◌≡◌, ◌∙◌, sym, ap, Bool, cond, Some, None, length, arith}
use Rattle.nd_base.specs.Words.{words}
use Rattle.driver_script.specs.Forms.{octet_string, from_to, is_within}
use Rattle.driver_script.specs.Statements.{octets}
use Rattle.driver_script.proofs.Exact.{take_none, take_some}
use Rattle.driver_script.proofs.Digits.{digits_none, digits_some}
use Rattle.driver_script.proofs.fields.digits.Goals as goal

pub returns-then-not-is_hexadecimal : goal.returns-then-not-is_hexadecimal
returns-then-not-is_hexadecimal c =
    let w = c.in_ok-word.word.now in
    take_none (from_to c.args.least c.args.most octet_string) (words c.args.line.now) w (words c.in_ok-word.rest.now) c.in_ok-word.ensures
    (digits_none w c.args.least c.args.most (sym c.if-not-is_hexadecimal.ensures))

pub returns-then-not-is_within : goal.returns-then-not-is_within
returns-then-not-is_within c =
    let w = c.in_ok-word.word.now in
    take_none (from_to c.args.least c.args.most octet_string) (words c.args.line.now) w (words c.in_ok-word.rest.now) c.in_ok-word.ensures
    (digits_some w c.args.least c.args.most (sym c.if-not-is_hexadecimal.ensures) ∙ ap (λ (b : Bool). cond b (Some (octets w)) None) (sym c.if-not-is_within.ensures))

pub returns : goal.returns
returns c =
    let w = c.in_ok-word.word.now in
    take_some (from_to c.args.least c.args.most octet_string) (words c.args.line.now) w (octets w) (words c.in_ok-word.rest.now) c.in_ok-word.ensures
    (digits_some w c.args.least c.args.most (sym c.if-not-is_hexadecimal.ensures) ∙ ap (λ (b : Bool). cond b (Some (octets w)) None) (sym c.if-not-is_within.ensures))
