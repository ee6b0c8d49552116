use Rattle.std.proofs.Common.{◌≡◌, ℕ, inl, inr, ◌<◌, ◌+◌, ◌*◌, ◌-◌, ◌^◌, ◌≤◌, min, true, false, length, drop, get_or, sym, ap, ◌∙◌, arith}
use Rattle.std.specs.Char.{is_digit, digit_value}
use Rattle.std.proofs.lemmas.Bool.{cases_Bool, ltb-true, lt-ltb}
use Rattle.nd_base.specs.Words.{saturated}
use Rattle.nd_base.proofs.LinesAndWords.{digit_stop, digit_step, saturated_same, read_all}
use Rattle.nd_base.proofs.words.digits.Goals as goal

no_digit : (code byte : ℕ) → code ≡ byte → ¬ (digit_value code < 10) → is_digit byte 10 ≡ false
no_digit code byte same none = elim (cases_Bool (is_digit byte 10)) [
  | inl on ↦ absurd (none (let lt = ltb-true (digit_value byte) 10 on in omega (arith, ap digit_value same, lt)))
  | inr off ↦ off
]

pub returns-in_err-digit : goal.returns-in_err-digit
returns-in_err-digit c =
    let i = c.loop-byte.byte-index in
    let w = c.args.word.now in
    let lt : i < length w = omega arith in
    let code : c.from.result ≡ get_or w i 0 = grind arith in
    let off : is_digit (get_or w i 0) 10 ≡ false = no_digit _ _ code c.in_err-digit.ensures.value in
    c.from_residual.ensures ∙ sym (sym c.loop-byte.invariant.so_far ∙ ap saturated (digit_stop c.loop-byte.value i w lt off))

pub loop-byte-preserved : goal.loop-byte-preserved
loop-byte-preserved c =
    let i = c.loop-byte.byte-index in
    let w = c.args.word.now in
    let v = c.loop-byte.value in
    let lt : i < length w = omega arith in
    let code : c.from.result ≡ get_or w i 0 = grind arith in
    let digit : c.in_ok-digit.digit ≡ digit_value (get_or w i 0) = c.in_ok-digit.ensures.value.1 ∙ ap digit_value code in
    let on : is_digit (get_or w i 0) 10 ≡ true = lt-ltb _ _ (omega (arith, digit, c.in_ok-digit.ensures.value.0, c.in_ok-digit.ensures.value.1)) in
    let same : min c.saturating_add-value.result (2 ^ 64 - 1) ≡ min (v * 10 + digit_value (get_or w i 0)) (2 ^ 64 - 1) = omega (arith, digit) in
    record {
      small = omega arith;
      so_far = saturated_same c.saturating_add-value.result (v * 10 + digit_value (get_or w i 0)) (drop (i + 1) w) same ∙ ap saturated (sym (digit_step v i w lt on)) ∙ c.loop-byte.invariant.so_far;
    }

pub returns : goal.returns
returns c =
    let w = c.args.word.now in
    let k : length w ≤ c.loop-byte.byte-index = omega arith in
    sym (sym c.loop-byte.invariant.so_far ∙ read_all c.loop-byte.value c.loop-byte.byte-index w k c.loop-byte.invariant.small)
