-- Hexadecimal digits, where what is no byte is taken as 0.
use Rattle.std.proofs.Common.{◌≡◌, ℕ, ◌+◌, ◌*◌, ◌≤◌, List, [], ◌∷◌, map, length, nat_lt, Option, None, Some, Result, Ok, Err, inl, inr, refl, sym, ap, arith}
use Rattle.std.specs.Result.{result_ok}
use Rattle.std.proofs.lemmas.Bool.{cases_Bool}
use Rattle.std.proofs.lemmas.Bool.Decides.{nat_tests}
use Rattle.std.proofs.lemmas.List.{length-map}
use Rattle.hex.specs.declared.error.FromHexError.{FromHexError}
use Rattle.hex.specs.Hex.{hex_digit_value, digit_or_error, decode_pairs, decode_of, ◌>>=◌}
use Rattle.calls_setup.specs.Digits.{clipped}

no_digit : (c : ℕ) → 256 ≤ c → hex_digit_value c ≡ None
no_digit c big = grind (arith, nat_tests)

pub same_value : (c : ℕ) → hex_digit_value (clipped c) ≡ hex_digit_value c
same_value c = elim (cases_Bool (nat_lt c 256)) [
  | inl on ↦ rw on refl
  | inr off ↦ let big : 256 ≤ c = grind (arith, nat_tests) in rw off (sym (no_digit c big))
]

-- a byte of two digits in front of others
abbrev decoded : ℕ → ℕ → ℕ → Option ℕ → Option ℕ → Result (List ℕ) FromHexError → Result (List ℕ) FromHexError
decoded high low i h l rest =
    ((digit_or_error high i h >>= (λ a. digit_or_error low (i + 1) l >>= (λ b. Ok (a * 16 + b)))) >>= (λ byte. rest >>= (λ bytes. Ok (byte ∷ bytes))))

ok_bind : (byte : ℕ) (r s : Result (List ℕ) FromHexError) → result_ok r ≡ result_ok s → result_ok (r >>= (λ bytes. Ok (byte ∷ bytes))) ≡ result_ok (s >>= (λ bytes. Ok (byte ∷ bytes)))
ok_bind byte (Ok x) (Ok y) e = let same : x ≡ y = cc in ap (λ bytes. Some (byte ∷ bytes)) same
ok_bind byte (Ok x) (Err f) e = absurd (cc e)
ok_bind byte (Err f) (Ok y) e = absurd (cc e)
ok_bind byte (Err f) (Err g) e = refl

same_decoded : (high low high' low' i : ℕ) (h l : Option ℕ) (r s : Result (List ℕ) FromHexError) → result_ok r ≡ result_ok s → result_ok (decoded high low i h l r) ≡ result_ok (decoded high' low' i h l s)
same_decoded high low high' low' i None l r s e = refl
same_decoded high low high' low' i (Some a) None r s e = refl
same_decoded high low high' low' i (Some a) (Some b) r s e = ok_bind (a * 16 + b) r s e

same_pairs : (i : ℕ) (text : List ℕ) → result_ok (decode_pairs i (map clipped text)) ≡ result_ok (decode_pairs i text)
unfolding decode_pairs
same_pairs i [] = refl
same_pairs i (digit ∷ []) = refl
same_pairs i (high ∷ low ∷ rest) =
    rw (same_value high, same_value low) (same_decoded (clipped high) (clipped low) high low i (hex_digit_value high) (hex_digit_value low) (decode_pairs (i + 2) (map clipped rest)) (decode_pairs (i + 2) rest) (same_pairs (i + 2) rest))

pub same_decode : (text : List ℕ) → length text ≡ 12 → result_ok (decode_of (map clipped text)) ≡ result_ok (decode_of text)
same_decode text len = rw (length-map text clipped, len) (same_pairs 0 text)
