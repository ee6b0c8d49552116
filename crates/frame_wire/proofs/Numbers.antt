-- An entry that is read is the entry that was spelled, and what was spelled is read again.
use Rattle.std.proofs.Common.{◌≡◌, ℕ, ◌+◌, ◌^◌, ◌<◌, ◌≤◌, Bool, true, false, cond, ltb, List, ◌++◌, length, get_or, take, drop, Option, Some, None, refl, sym, ap, subst, ◌∙◌, append_assoc, arith, inl, inr}
use Rattle.std.proofs.lemmas.Bool.{cases_lt, ltb-false, le-ltb}
use Rattle.std.proofs.lemmas.List.{take_at, drop_at, take-append-drop, length-append, length-take, length-drop, get_or-drop, get_or-take, get_or_past, drop-drop}
use Rattle.std.proofs.lemmas.Nat.{le_bytes_4, be_bytes_4, from_le_bytes-to_le_bytes_4, from_be_bytes-to_be_bytes_4}
use Rattle.frame_wire.specs.declared.order.Order.{Order}
use Rattle.frame_wire.specs.declared.order.Order.TheVariants.{Little, Big}
use Rattle.frame_wire.specs.Entries.{number, value, field, Entry, spelling, time, IsWhole}
use Rattle.frame_wire.specs.Reading.{whole_at, first_time}

abbrev pub IsBytes : List ℕ → Type 0
IsBytes bytes = (i : ℕ) → get_or bytes i 0 < 256

pub IsBytes-drop : (n : ℕ) (bytes : List ℕ) → IsBytes bytes → IsBytes (drop n bytes)
IsBytes-drop n bytes h i = rw get_or-drop (h (n + i))

pub IsBytes-take : (n : ℕ) (bytes : List ℕ) → IsBytes bytes → IsBytes (take n bytes)
IsBytes-take n bytes h i =
    elim (cases_lt i n) [
      | inl lt ↦ rw (get_or-take n bytes i 0 lt) (h i)
      | inr le ↦ rw (get_or_past (take n bytes) i 0 (omega (arith, length-take n bytes))) (omega arith)
    ]

-- ---- numbers

pub number_len : (order : Order) (n : ℕ) → length (number order n) ≡ 4
number_len Little n = refl
number_len Big n = refl

pub value_number : (order : Order) (n : ℕ) → n < 2 ^ 32 → value order (number order n) ≡ n
value_number Little n lt = from_le_bytes-to_le_bytes_4 n lt
value_number Big n lt = from_be_bytes-to_be_bytes_4 n lt

pub number_value : (order : Order) (bytes : List ℕ) → length bytes ≡ 4 → IsBytes bytes → number order (value order bytes) ≡ bytes
number_value Little bytes len fits = le_bytes_4 bytes _ len fits refl
number_value Big bytes len fits = be_bytes_4 bytes _ len fits refl

pub value_fits : (order : Order) (bytes : List ℕ) → IsBytes bytes → value order bytes < 2 ^ 32
value_fits Little bytes fits = omega (arith, fits 0, fits 1, fits 2, fits 3)
value_fits Big bytes fits = omega (arith, fits 0, fits 1, fits 2, fits 3)

-- ---- four bytes at a place

pub skip : (k : ℕ) (s a r : List ℕ) → length a ≡ 4 → drop k s ≡ a ++ r → drop (k + 4) s ≡ r
skip k s a r len e = sym (drop-drop 4 k s) ∙ ap (drop 4) e ∙ drop_at a r 4 len

pub at_field : (k : ℕ) (s a r : List ℕ) → length a ≡ 4 → drop k s ≡ a ++ r → field k s ≡ a
at_field k s a r len e = ap (take 4) e ∙ take_at a r 4 len

pub reaches : (k : ℕ) (s a r : List ℕ) → length a ≡ 4 → drop k s ≡ a ++ r → k + 4 ≤ length s
reaches k s a r len e = omega (arith, length-drop k s, ap length e, length-append a r)

pub field_len : (k : ℕ) (s : List ℕ) → k + 4 ≤ length s → length (field k s) ≡ 4
field_len k s le = omega (arith, length-take 4 (drop k s), length-drop k s)

-- the number at a place, and what is behind it
pub piece : (order : Order) (k : ℕ) (s : List ℕ) → IsBytes s → k + 4 ≤ length s → drop k s ≡ number order (value order (field k s)) ++ drop (k + 4) s
piece order k s fits le =
    let same = number_value order (field k s) (field_len k s le) (IsBytes-take 4 (drop k s) (IsBytes-drop k s fits)) in
    rw (same, ← drop-drop 4 k s) (sym (take-append-drop 4 (drop k s)))

pub field_fits : (order : Order) (k : ℕ) (s : List ℕ) → IsBytes s → value order (field k s) < 2 ^ 32
field_fits order k s fits = value_fits order (field k s) (IsBytes-take 4 (drop k s) (IsBytes-drop k s fits))

-- ---- entries

pub spelling-append : (order : Order) (e : Entry) (rest : List ℕ) → spelling order e ++ rest ≡ number order e.seconds ++ (number order e.microseconds ++ (number order e.included ++ (number order e.original ++ (e.frame ++ rest))))
unfolding spelling
spelling-append order e rest = simp append_assoc

pub whole_of : (order : Order) (s : List ℕ) (e : Entry) (rest : List ℕ) → IsWhole e → s ≡ spelling order e ++ rest → whole_at order s ≡ Some (e, rest)
unfolding whole_at
whole_of order s e rest w is =
    let e0 : drop 0 s ≡ number order e.seconds ++ (number order e.microseconds ++ (number order e.included ++ (number order e.original ++ (e.frame ++ rest)))) = is ∙ spelling-append order e rest in
    let e4 = skip 0 s _ _ (number_len order e.seconds) e0 in
    let e8 = skip 4 s _ _ (number_len order e.microseconds) e4 in
    let e12 = skip 8 s _ _ (number_len order e.included) e8 in
    let e16 : drop 16 s ≡ e.frame ++ rest = skip 12 s _ _ (number_len order e.original) e12 in
    let v0 : value order (field 0 s) ≡ e.seconds = ap (value order) (at_field 0 s _ _ (number_len order e.seconds) e0) ∙ value_number order e.seconds w.seconds in
    let v4 : value order (field 4 s) ≡ e.microseconds = ap (value order) (at_field 4 s _ _ (number_len order e.microseconds) e4) ∙ value_number order e.microseconds w.microseconds in
    let v8 : value order (field 8 s) ≡ e.included = ap (value order) (at_field 8 s _ _ (number_len order e.included) e8) ∙ value_number order e.included w.included in
    let v12 : value order (field 12 s) ≡ e.original = ap (value order) (at_field 12 s _ _ (number_len order e.original) e12) ∙ value_number order e.original w.original in
    let long : ltb (length s) 16 ≡ false = le-ltb _ _ (reaches 12 s _ _ (number_len order e.original) e12) in
    let room : ltb (length (e.frame ++ rest)) e.included ≡ false = le-ltb _ _ (omega (arith, length-append e.frame rest, w.frame)) in
    rw (long, v8, e16, room, v0, v4, v12, take_at e.frame rest e.included w.frame, drop_at e.frame rest e.included w.frame) refl

pub past : {A : Type 0} (b : Bool) (r : Option A) (y : A) → cond b None r ≡ Some y → (b ≡ false) × (r ≡ Some y)
past true r y e = absurd cc
past false r y e = (refl, e)

abbrev pub found : {A : Type 0} → A → Option A
found x = Some x

pub some_is : {A : Type 0} (x y : A) → found x ≡ found y → x ≡ y
some_is x y e = cc

-- the entry that 16 bytes and a frame behind them make
abbrev entry_in : Order → List ℕ → Entry
entry_in order s = record { seconds = value order (field 0 s); microseconds = value order (field 4 s); included = value order (field 8 s); original = value order (field 12 s); frame = take (value order (field 8 s)) (drop 16 s) }

whole_parts : (order : Order) (s : List ℕ) → IsBytes s → 16 ≤ length s → s ≡ spelling order (entry_in order s) ++ drop (value order (field 8 s)) (drop 16 s)
whole_parts order s fits le =
    let p0 : s ≡ number order (value order (field 0 s)) ++ drop 4 s = piece order 0 s fits (omega arith) in
    let p4 = piece order 4 s fits (omega arith) in
    let p8 = piece order 8 s fits (omega arith) in
    let p12 = piece order 12 s fits (omega arith) in
    let n = value order (field 8 s) in
    let p16 : drop 16 s ≡ take n (drop 16 s) ++ drop n (drop 16 s) = sym (take-append-drop n (drop 16 s)) in
    let q12 : drop 12 s ≡ number order (value order (field 12 s)) ++ (take n (drop 16 s) ++ drop n (drop 16 s)) = p12 ∙ ap (λ (x : List ℕ). number order (value order (field 12 s)) ++ x) p16 in
    let q8 = p8 ∙ ap (λ (x : List ℕ). number order (value order (field 8 s)) ++ x) q12 in
    let q4 = p4 ∙ ap (λ (x : List ℕ). number order (value order (field 4 s)) ++ x) q8 in
    p0 ∙ ap (λ (x : List ℕ). number order (value order (field 0 s)) ++ x) q4 ∙ sym (spelling-append order (entry_in order s) (drop n (drop 16 s)))

pub whole_is : (order : Order) (s : List ℕ) (x : Entry × List ℕ) → IsBytes s → whole_at order s ≡ Some x → (s ≡ spelling order x.0 ++ x.1) × IsWhole x.0 × IsBytes x.1
unfolding whole_at
whole_is order s x fits h =
    let n = value order (field 8 s) in
    let long = past (ltb (length s) 16) (cond (ltb (length (drop 16 s)) n) None (Some (entry_in order s, drop n (drop 16 s)))) x h in
    let room = past (ltb (length (drop 16 s)) n) (Some (entry_in order s, drop n (drop 16 s))) x long.1 in
    let is = some_is (entry_in order s, drop n (drop 16 s)) x room.1 in
    let le : 16 ≤ length s = ltb-false _ _ long.0 in
    let enough : n ≤ length (drop 16 s) = ltb-false _ _ room.0 in
    let whole : IsWhole (entry_in order s) = record { seconds = field_fits order 0 s fits; microseconds = field_fits order 4 s fits; included = field_fits order 8 s fits; original = field_fits order 12 s fits; frame = omega (arith, length-take n (drop 16 s)) } in
    subst (λ (y : Entry × List ℕ). (s ≡ spelling order y.0 ++ y.1) × IsWhole y.0 × IsBytes y.1) is (whole_parts order s fits le, whole, IsBytes-drop n (drop 16 s) (IsBytes-drop 16 s fits))

pub whole_len : (order : Order) (s : List ℕ) (x : Entry × List ℕ) → whole_at order s ≡ Some x → 16 ≤ length s
unfolding whole_at
whole_len order s x h =
    let n = value order (field 8 s) in
    ltb-false _ _ (past (ltb (length s) 16) (cond (ltb (length (drop 16 s)) n) None (Some (entry_in order s, drop n (drop 16 s)))) x h).0

pub first_of_front : (order : Order) (s : List ℕ) (e : Entry) (rest : List ℕ) → IsWhole e → s ≡ spelling order e ++ rest → first_time order s ≡ time e
first_of_front order s e rest w is =
    let e0 : drop 0 s ≡ number order e.seconds ++ (number order e.microseconds ++ (number order e.included ++ (number order e.original ++ (e.frame ++ rest)))) = is ∙ spelling-append order e rest in
    let e4 = skip 0 s _ _ (number_len order e.seconds) e0 in
    let v0 : value order (field 0 s) ≡ e.seconds = ap (value order) (at_field 0 s _ _ (number_len order e.seconds) e0) ∙ value_number order e.seconds w.seconds in
    let v4 : value order (field 4 s) ≡ e.microseconds = ap (value order) (at_field 4 s _ _ (number_len order e.microseconds) e4) ∙ value_number order e.microseconds w.microseconds in
    let long : ltb (length s) 16 ≡ false = le-ltb _ _ (whole_len order s (e, rest) (whole_of order s e rest w is)) in
    rw (long, v0, v4) refl
