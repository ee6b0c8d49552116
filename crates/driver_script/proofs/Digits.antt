-- Bytes in hexadecimal.
use Rattle.std.proofs.Common.{◌≡◌, ℕ, ◌+◌, ◌*◌, ◌-◌, ◌^◌, ◌<◌, ◌≤◌, Bool, true, false, not, cond, List, [], ◌∷◌, length, min, Option, Some, None, Result, Ok, Err, refl, sym, ap, subst, ◌∙◌, inl, inr, ◌⊎◌, arith}
use Rattle.std.specs.Prelude.{codes, ◌/◌, ◌%◌}
use Rattle.std.specs.List.{list_all, AllPass}
use Rattle.std.specs.Option.{MatchOption}
use Rattle.std.specs.Result.{is_ok, result_ok, MatchResult}
use Rattle.std.specs.Str.{bytes_eq}
use Rattle.std.proofs.lemmas.Bool.{cases_Bool, cases_eq}
use Rattle.std.proofs.lemmas.List.Sums.{AllPass-from_list_all, list_all-from_AllPass}
use Rattle.std.proofs.lemmas.Slice.Eq.{bytes_eq-Decides}
use Rattle.hex.specs.Hex.{decode_of, decode_sized, is_hex_digit}
use Rattle.hex.specs.declared.error.FromHexError.{FromHexError}
use Rattle.hex.proofs.HexLemmas.{decode_of-ok, decode_of-digits, decode_sized-twice, decode_sized-ok}
use Rattle.nd_base.specs.Words.{IsDecimal, decimal_value}
use Rattle.driver_script.specs.Forms.{passing, is_within, decimal_read, number, octet_string, from_to, dash_or}
use Rattle.driver_script.specs.Statements.{octets}
use Rattle.driver_script.proofs.Decimals.{read_decimal, read_none}

-- ---- decimal numbers

pub number_none : (w : List ℕ) (least most : ℕ) → (IsDecimal w → ⊥) → (number least most).read w ≡ None
number_none w least most h = ap (passing (is_within least most)) (read_none w h)

within_same : (least most v n : ℕ) → most < 2 ^ 64 - 1 → v ≡ min n (2 ^ 64 - 1) → is_within least most v ≡ is_within least most n
within_same least most v n small e = elim (cases_eq v n) [
  | inl same ↦ ap (is_within least most) same
  | inr other ↦
      let a : most < v = omega (arith, e) in
      let b : most < n = omega (arith, e) in
      grind arith
]

pub number_some : (w : List ℕ) (least most v : ℕ) → most < 2 ^ 64 - 1 → IsDecimal w → v ≡ min (decimal_value w) (2 ^ 64 - 1) → (number least most).read w ≡ cond (is_within least most v) (Some v) None
number_some w least most v small d e = elim (cases_Bool (is_within least most (decimal_value w))) [
  | inl on ↦
      let t : is_within least most v ≡ true = within_same least most v (decimal_value w) small e ∙ on in
      let le : decimal_value w ≤ most = grind arith in
      let same : decimal_value w ≡ v = omega (arith, e) in
      ap (passing (is_within least most)) (read_decimal w d) ∙ ap (λ (b : Bool). cond b (Some (decimal_value w)) None) on ∙ ap (λ (n : ℕ). Some n) same ∙ sym (ap (λ (b : Bool). cond b (Some v) None) t)
  | inr off ↦
      let t : is_within least most v ≡ false = within_same least most v (decimal_value w) small e ∙ off in
      ap (passing (is_within least most)) (read_decimal w d) ∙ ap (λ (b : Bool). cond b (Some (decimal_value w)) None) off ∙ sym (ap (λ (b : Bool). cond b (Some v) None) t)
]

-- ---- bytes

decoded : (w : List ℕ) (r : Result (List ℕ) FromHexError) → decode_of w ≡ r → is_ok r ≡ true → AllPass is_hex_digit w
decoded w (Ok bytes) e h = (decode_of-ok w bytes e).1
decoded w (Err d) e h = absurd cc

pub even_digits : (w : List ℕ) → length w % 2 ≡ 0 → list_all is_hex_digit w ≡ is_ok (decode_of w)
even_digits w even = elim (cases_Bool (list_all is_hex_digit w)) [
  | inl on ↦
      let d = decode_of-digits w even (AllPass-from_list_all is_hex_digit w on) in
      on ∙ sym (ap is_ok d.1)
  | inr off ↦ elim (cases_Bool (is_ok (decode_of w))) [
    | inl good ↦
        let on = list_all-from_AllPass is_hex_digit w (decoded w (decode_of w) refl good) in
        let e : true ≡ false = sym on ∙ off in
        absurd cc
    | inr bad ↦ off ∙ sym bad
  ]
]

-- the value of a word that is bytes in hexadecimal
is_octets : (w : List ℕ) (r : Result (List ℕ) FromHexError) → decode_of w ≡ r → is_ok r ≡ true → r ≡ Ok (octets w)
unfolding octets
is_octets w (Ok bytes) e h = rw e refl
is_octets w (Err d) e h = absurd cc

no_octets : (r : Result (List ℕ) FromHexError) → is_ok r ≡ false → result_ok r ≡ None
no_octets (Ok bytes) h = absurd cc
no_octets (Err d) h = refl

pub digits_none : (w : List ℕ) (least most : ℕ) → is_ok (decode_of w) ≡ false → (from_to least most octet_string).read w ≡ None
digits_none w least most h = ap (passing (λ (v : List ℕ). is_within least most (length v))) (no_octets (decode_of w) h)

pub digits_some : (w : List ℕ) (least most : ℕ) → is_ok (decode_of w) ≡ true → (from_to least most octet_string).read w ≡ cond (is_within least most (length w / 2)) (Some (octets w)) None
digits_some w least most h =
    let e = is_octets w (decode_of w) refl h in
    let long = (decode_of-ok w (octets w) e).2 in
    let half : length (octets w) ≡ length w / 2 = omega (arith, long) in
    ap (λ (r : Result (List ℕ) FromHexError). passing (λ (v : List ℕ). is_within least most (length v)) (result_ok r)) e
    ∙ ap (λ (n : ℕ). cond (is_within least most n) (Some (octets w)) None) half

pub dash_read : (w : List ℕ) → bytes_eq w (codes "-") ≡ true → (dash_or octet_string).read w ≡ Some (octets w)
unfolding octets
dash_read w h = let same : w ≡ codes "-" = (bytes_eq-Decides w (codes "-")).0 h in rw (h, same) refl

pub dash_digits : (w : List ℕ) → bytes_eq w (codes "-") ≡ false → is_ok (decode_of w) ≡ true → (dash_or octet_string).read w ≡ Some (octets w)
dash_digits w off h = ap (λ (b : Bool). cond b (Some []) (result_ok (decode_of w))) off ∙ ap result_ok (is_octets w (decode_of w) refl h)

pub dash_none : (w : List ℕ) → bytes_eq w (codes "-") ≡ false → is_ok (decode_of w) ≡ false → (dash_or octet_string).read w ≡ None
dash_none w off h = ap (λ (b : Bool). cond b (Some []) (result_ok (decode_of w))) off ∙ no_octets (decode_of w) h

-- ---- so many bytes

pub sized_ok : (w bytes : List ℕ) (n : ℕ) → decode_sized w n ≡ Ok bytes → (from_to n n octet_string).read w ≡ Some bytes
sized_ok w bytes n h =
    let two = decode_sized-ok w n bytes h in
    let e : decode_of w ≡ Ok bytes = sym (decode_sized-twice w n two) ∙ h in
    let long = (decode_of-ok w bytes e).2 in
    let count : n ≡ length bytes = omega (arith, two, long) in
    let in_range : is_within n n (length bytes) ≡ true = grind arith in
    ap (λ (r : Result (List ℕ) FromHexError). passing (λ (v : List ℕ). is_within n n (length v)) (result_ok r)) e ∙ ap (λ (b : Bool). cond b (Some bytes) None) in_range

sized_err_of : (w : List ℕ) (n : ℕ) (d : FromHexError) (r : Result (List ℕ) FromHexError) → decode_sized w n ≡ Err d → decode_of w ≡ r → passing (λ (v : List ℕ). is_within n n (length v)) (result_ok r) ≡ None
sized_err_of w n d (Ok bytes) h e = elim (cases_eq (length bytes) n) [
  | inl same ↦
      let long = (decode_of-ok w bytes e).2 in
      let two : length w ≡ 2 * n = omega (arith, same, long) in
      let bad : Err d ≡ Ok bytes = sym h ∙ decode_sized-twice w n two ∙ e in
      absurd cc
  | inr other ↦ let off : is_within n n (length bytes) ≡ false = grind arith in ap (λ (b : Bool). cond b (Some bytes) None) off
]
sized_err_of w n d (Err x) h e = refl

pub sized_err : (w : List ℕ) (n : ℕ) (d : FromHexError) → decode_sized w n ≡ Err d → (from_to n n octet_string).read w ≡ None
sized_err w n d h = sized_err_of w n d (decode_of w) h refl

err_by : (w : List ℕ) (n : ℕ) (x : Result (List ℕ) FromHexError) (P : List ℕ → Type 0) (Q : FromHexError → Type 0) → decode_sized w n ≡ x → MatchResult x P Q → ((bytes : List ℕ) → P bytes → ⊥) → None ≡ (from_to n n octet_string).read w
err_by w n (Ok bytes) P Q e h none = absurd (none bytes h)
err_by w n (Err d) P Q e h none = sym (sized_err w n d e)

pub err_read : (w : List ℕ) (n : ℕ) (P : List ℕ → Type 0) (Q : FromHexError → Type 0) → MatchResult (decode_sized w n) P Q → ((bytes : List ℕ) → P bytes → ⊥) → None ≡ (from_to n n octet_string).read w
err_read w n P Q h none = err_by w n (decode_sized w n) P Q refl h none
