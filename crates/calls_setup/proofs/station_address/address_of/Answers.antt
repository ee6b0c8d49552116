use Rattle.std.proofs.Common.{◌≡◌, ℕ, Bool, true, List, map, length, nat_eq, if◌then◌else◌, Option, None, Some, Result, Ok, Err, MatchResult, refl, sym, ap, ◌∙◌, arith}
use Rattle.std.specs.Result.{result_ok}
use Rattle.std.proofs.lemmas.List.{length-map}
use Rattle.std.proofs.lemmas.Bool.Decides.{nat_tests}
use Rattle.hex.specs.declared.error.FromHexError.{FromHexError}
use Rattle.hex.specs.Hex.{decode_of, decode_sized}
use Rattle.import_answers.specs.Configuration.{address_of}
use Rattle.calls_setup.specs.Digits.{clipped}
use Rattle.calls_setup.proofs.DigitLemmas.{same_decode}
use Rattle.calls_setup.proofs.station_address.address_of.Goals as goal

sized : (text : List ℕ) → length text ≡ 12 → decode_sized text 6 ≡ decode_of text
sized text len = rw len refl

ok_case : (d : Result (List ℕ) FromHexError) (out : List ℕ) (r : Result (Unit {0}) FromHexError) (u : Unit {0}) → MatchResult d (λ bytes. (r ≡ Ok tt) × (out ≡ bytes)) (λ e. r ≡ Err e) → r ≡ Ok u → Some out ≡ result_ok d
ok_case (Ok bytes) out r u h is = ap (λ (b : List ℕ). Some b) h.1
ok_case (Err e) out r u h is = absurd (cc (h, is))

err_case : (d : Result (List ℕ) FromHexError) (out : List ℕ) (r : Result (Unit {0}) FromHexError) (f : FromHexError) → MatchResult d (λ bytes. (r ≡ Ok tt) × (out ≡ bytes)) (λ e. r ≡ Err e) → r ≡ Err f → None ≡ result_ok d
err_case (Ok bytes) out r f h is = absurd (cc (h.0, is))
err_case (Err e) out r f h is = refl

address_is : (digits text : List ℕ) (x : Option (List ℕ)) → length digits ≡ 12 → text ≡ map clipped digits → length text ≡ 12 → x ≡ result_ok (decode_sized text 6) → x ≡ address_of digits
address_is digits text x len is count e =
    let on : nat_eq (length digits) 12 ≡ true = grind (arith, nat_tests) in
    e ∙ ap result_ok (sized text count) ∙ ap (λ (t : List ℕ). result_ok (decode_of t)) is ∙ same_decode digits len ∙ sym (ap (λ (b : Bool). if b then result_ok (decode_of digits) else None) on)

pub returns-in-Ok : goal.returns-in-Ok
returns-in-Ok c =
    address_is c.args.digits.now c.as_slice.result.now _ c.if-digits-ne12.false (c.as_slice.ensures ∙ c.text_of.ensures) (ap length (c.as_slice.ensures ∙ c.text_of.ensures) ∙ length-map c.args.digits.now clipped ∙ c.if-digits-ne12.false) (ok_case _ c.decode_to_slice.new.out c.decode_to_slice.result _ c.decode_to_slice.ensures.value c.in-Ok.is)

pub returns-in-Err : goal.returns-in-Err
returns-in-Err c =
    address_is c.args.digits.now c.as_slice.result.now _ c.if-digits-ne12.false (c.as_slice.ensures ∙ c.text_of.ensures) (ap length (c.as_slice.ensures ∙ c.text_of.ensures) ∙ length-map c.args.digits.now clipped ∙ c.if-digits-ne12.false) (err_case _ c.decode_to_slice.new.out c.decode_to_slice.result _ c.decode_to_slice.ensures.value c.in-Err.is)
