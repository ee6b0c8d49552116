use Rattle.std.proofs.Common.{◌≡◌, ◌∙◌, sym, ap, Some, None}
use Rattle.nd_base.specs.Words.{words}
use Rattle.driver_script.specs.Forms.{octet_string, dash_or}
use Rattle.driver_script.specs.Statements.{octets}
use Rattle.driver_script.proofs.Exact.{take_none, take_some}
use Rattle.driver_script.proofs.Digits.{dash_read, dash_digits, dash_none}
use Rattle.driver_script.proofs.fields.dash_or_digits.Goals as goal

pub returns-then-is_dash : goal.returns-then-is_dash
returns-then-is_dash c =
    let w = c.in_ok-word.word.now in
    take_some (dash_or octet_string) (words c.args.line.now) w (octets w) (words c.in_ok-word.rest.now) c.in_ok-word.ensures (dash_read w (sym c.if-is_dash.ensures))

pub returns-then-not-is_hexadecimal : goal.returns-then-not-is_hexadecimal
returns-then-not-is_hexadecimal c =
    let w = c.in_ok-word.word.now in
    take_none (dash_or octet_string) (words c.args.line.now) w (words c.in_ok-word.rest.now) c.in_ok-word.ensures (dash_none w (sym c.if-is_dash.ensures) (sym c.if-not-is_hexadecimal.ensures))

pub returns : goal.returns
returns c =
    let w = c.in_ok-word.word.now in
    take_some (dash_or octet_string) (words c.args.line.now) w (octets w) (words c.in_ok-word.rest.now) c.in_ok-word.ensures (dash_digits w (sym c.if-is_dash.ensures) (sym c.if-not-is_hexadecimal.ensures))
