-- What was written is spelled as the grammar has it.
use Rattle.std.proofs.Common.{◌≡◌, ℕ, ◌+◌, ◌-◌, ◌*◌, ◌/◌, ◌%◌, ◌^◌, ◌≤◌, Bool, true, eqb, leb, ◌&&◌, List, [], ◌∷◌, ◌++◌, length, map, refl, sym, ap, ◌∙◌, append_assoc, arith}
use Rattle.std.specs.List.{flat_map, AllByRecursion}
use Rattle.std.proofs.lemmas.Bool.{eq-eqb, le-leb}
use Rattle.std.proofs.lemmas.List.{length-append, length-map}
use Rattle.std.proofs.lemmas.List.Concat.{flat_map-cons}
use Rattle.frame_wire.specs.declared.order.Order.TheVariants.{Little}
use Rattle.frame_wire.specs.declared.arrival.Arrival.{Arrival}
use Rattle.frame_wire.specs.Entries.{number, Entry, spelling, time, has_good_length, arrival, entry}
use Rattle.frame_wire.specs.Captures.{header, spellings, DoNotFall, start_time, IsGood, IsFront, IsSpelled, usual, written, start_stamp, rebased, StampsDoNotFall, IsFrameBelow, CanReturn}
use Rattle.frame_wire.proofs.Headers.{header_len}
use Rattle.frame_wire.proofs.Fronts.{spellings-nil, spellings-cons}

-- what the file can hold of a frame
abbrev IsWritable : Arrival → Type 0
IsWritable f = IsFrameBelow (2 ^ 32 * 1000000) f

time_is : (f : Arrival) → IsWritable f → time (entry f) ≡ f.stamp
time_is f h = let lt = h.stamp in omega arith

len_is : (f : Arrival) → IsWritable f → length f.bytes % 2 ^ 32 ≡ length f.bytes
len_is f h = let most = h.length_fits.1 in omega arith

all_three : (a b c : Bool) → a ≡ true → b ≡ true → c ≡ true → (a && (b && c)) ≡ true
all_three a b c p q r = rw (p, q, r) refl

good_length : (f : Arrival) → IsWritable f → has_good_length (entry f) ≡ true
good_length f h =
    let least = h.length_fits.0 in
    let most = h.length_fits.1 in
    all_three (eqb (length f.bytes % 2 ^ 32) (length f.bytes % 2 ^ 32)) (leb 14 (length f.bytes % 2 ^ 32)) (leb (length f.bytes % 2 ^ 32) 1514) (eq-eqb _ _ refl) (le-leb _ _ (omega arith)) (le-leb _ _ (omega arith))

is_good : (f : Arrival) → IsWritable f → IsGood (entry f)
is_good f h = (record { seconds = omega arith; microseconds = omega arith; included = omega arith; original = omega arith; frame = sym (len_is f h) }, good_length f h)

are_good : (fs : List Arrival) → AllByRecursion IsWritable fs → AllByRecursion IsGood (map entry fs)
are_good [] h = tt
are_good (f ∷ fs) h = (is_good f h.0, are_good fs h.1)

rises : (last : ℕ) (fs : List Arrival) → AllByRecursion IsWritable fs → StampsDoNotFall last fs → DoNotFall last (map entry fs)
rises last [] h r = tt
rises last (f ∷ fs) h r =
    let is = time_is f h.0 in
    (omega (arith, is, r.0), rw is (rises f.stamp fs h.1 r.1))

spells : (fs : List Arrival) → flat_map (λ f. spelling Little (entry f)) fs ≡ spellings Little (map entry fs)
spells [] = sym (spellings-nil Little)
spells (f ∷ fs) = flat_map-cons (λ f. spelling Little (entry f)) f fs ∙ ap (λ (x : List ℕ). spelling Little (entry f) ++ x) (spells fs) ∙ sym (spellings-cons Little (entry f) (map entry fs))

starts : (fs : List Arrival) → AllByRecursion IsWritable fs → start_time (map entry fs) ≡ start_stamp fs
starts [] h = refl
starts (f ∷ fs) h = time_is f h.0

moves : (n : ℕ) (fs : List Arrival) → AllByRecursion IsWritable fs → map (λ (f : Arrival). record { stamp = 1000000 + (f.stamp - n); bytes = f.bytes }) fs ≡ map (arrival n) (map entry fs)
moves n [] h = refl
moves n (f ∷ fs) h =
    let one : record { stamp = 1000000 + (f.stamp - n); bytes = f.bytes } ≡ arrival n (entry f) = ap (λ (t : ℕ). record { stamp = 1000000 + (t - n); bytes = f.bytes }) (sym (time_is f h.0)) in
    ap (λ (a : Arrival). a ∷ map (λ (g : Arrival). record { stamp = 1000000 + (g.stamp - n); bytes = g.bytes }) fs) one ∙ ap (λ (gs : List Arrival). arrival n (entry f) ∷ gs) (moves n fs h.1)

spelling_len : (e : Entry) → length (spelling Little e) ≡ 16 + length e.frame
unfolding spelling
spelling_len e = omega arith

short : (fs : List Arrival) → AllByRecursion IsWritable fs → length (flat_map (λ f. spelling Little (entry f)) fs) ≤ 1530 * length fs
short [] h = omega arith
short (f ∷ fs) h =
    let most = h.0.length_fits.1 in
    let rest = short fs h.1 in
    omega (arith, ap length (flat_map-cons (λ f. spelling Little (entry f)) f fs), length-append (spelling Little (entry f)) (flat_map (λ f. spelling Little (entry f)) fs), spelling_len (entry f))

pub returns : (fs : List Arrival) → CanReturn fs → IsSpelled (written fs) (rebased fs)
returns fs can =
    let count = can.count in
    let f : IsFront Little usual (map entry fs) = record { other_len = refl; good = are_good fs can.fits; rising = rises 0 fs can.fits can.rising; count = omega (arith, length-map fs entry) } in
    let len : length (written fs) ≤ 134217728 = omega (arith, length-append (header Little usual 1) (flat_map (λ f. spelling Little (entry f)) fs), header_len Little usual 1 refl, short fs can.fits) in
    (len, (Little, usual, map entry fs, f, ap (λ (x : List ℕ). header Little usual 1 ++ x) (spells fs), moves (start_stamp fs) fs can.fits ∙ ap (λ (n : ℕ). map (arrival n) (map entry fs)) (sym (starts fs can.fits))))

-- four numbers and a frame, one behind the other
pub joined : (a b c d e : List ℕ) (f : Arrival) (seconds microseconds len : ℕ) → b ≡ a ++ number Little seconds → c ≡ b ++ number Little microseconds → d ≡ c ++ number Little len → e ≡ d ++ number Little len
    → seconds ≡ f.stamp / 1000000 % 2 ^ 32 → microseconds ≡ f.stamp % 1000000 → len ≡ length f.bytes % 2 ^ 32 → e ++ f.bytes ≡ a ++ spelling Little (entry f)
unfolding spelling
joined a b c d e f seconds microseconds len p q r s u v w = rw (s, r, q, p, u, v, w) (simp append_assoc)
