-- The entries of the longest good front are read, and reading stops behind them.
use Rattle.std.proofs.Common.{◌≡◌, ℕ, zero, suc, ◌+◌, ◌-◌, ◌<◌, ◌≤◌, Bool, true, false, ltb, List, [], ◌∷◌, ◌++◌, length, map, Option, Some, None, Result, Ok, Err, refl, sym, ap, ◌∙◌, append_assoc, zero-add, add-zero, arith, inl, inr, ◌⊎◌}
use Rattle.std.specs.List.{AllByRecursion}
use Rattle.std.proofs.lemmas.Bool.{ltb-false, ltb-true}
use Rattle.std.proofs.lemmas.List.{length-append}
use Rattle.std.proofs.lemmas.List.Concat.{flat_map-cons}
use Rattle.nd_base.specs.Results.{◌>>=◌}
use Rattle.frame_wire.specs.declared.order.Order.{Order}
use Rattle.frame_wire.specs.declared.arrival.Arrival.{Arrival}
use Rattle.frame_wire.specs.declared.refusal.WireRefusal.{WireRefusal}
use Rattle.frame_wire.specs.Entries.{Entry, spelling, time, has_good_length, arrival}
use Rattle.frame_wire.specs.Captures.{spellings, DoNotFall, last_time, IsGood}
use Rattle.frame_wire.specs.Reading.{whole_at, judged, frames_from}
use Rattle.frame_wire.proofs.Numbers.{IsBytes, whole_of, whole_is}
use Rattle.frame_wire.proofs.Loop.{with_front, with_nil, judged_good, taken}

pub spellings-nil : (order : Order) → spellings order [] ≡ []
unfolding spellings
spellings-nil order = refl

pub spellings-cons : (order : Order) (e : Entry) (es : List Entry) → spellings order (e ∷ es) ≡ spelling order e ++ spellings order es
unfolding spellings
spellings-cons order e es = flat_map-cons (spelling order) e es

pub cons-append : (order : Order) (e : Entry) (es : List Entry) (rest : List ℕ) → spellings order (e ∷ es) ++ rest ≡ spelling order e ++ (spellings order es ++ rest)
cons-append order e es rest = ap (λ (x : List ℕ). x ++ rest) (spellings-cons order e es) ∙ append_assoc (spelling order e) (spellings order es) rest

-- why an entry isn't taken
abbrev pub IsBad : Order → ℕ → List ℕ → Type 0
IsBad order last rest = (whole_at order rest ≡ None) ⊎ ((x : Entry × List ℕ) × (whole_at order rest ≡ Some x) × ((has_good_length x.0 ≡ false) ⊎ ((has_good_length x.0 ≡ true) × (time x.0 < last))))

-- ---- entries that are read

front-cons : (f : Arrival) (fs : List Arrival) (read : Result (List Arrival) WireRefusal) → (with_front fs read >>= λ others. Ok (f ∷ others)) ≡ with_front (f ∷ fs) read
front-cons f fs (Ok x) = refl
front-cons f fs (Err e) = refl

not_empty : (order : Order) (s : List ℕ) (x : Entry × List ℕ) → whole_at order s ≡ Some x → 0 < length s
unfolding whole_at
not_empty order [] x h = absurd cc
not_empty order (b ∷ s) x h = omega arith

pub frames_again : (order : Order) (first last at m : ℕ) (es : List Entry) (rest : List ℕ) → AllByRecursion IsGood es → DoNotFall last es
    → frames_from order first last at (length es + m) (spellings order es ++ rest) ≡ with_front (map (arrival first) es) (frames_from order first (last_time last es) (at + length (spellings order es)) m rest)
frames_again order first last at m [] rest good rising =
    rw (spellings-nil order, zero-add m, add-zero at) (sym (with_nil (frames_from order first last at m rest)))
frames_again order first last at m (e ∷ es) rest good rising =
    let s = spellings order (e ∷ es) ++ rest in
    let behind = spellings order es ++ rest in
    let parts = cons-append order e es rest in
    let whole : whole_at order s ≡ Some (e, behind) = whole_of order s e behind good.0.0 parts in
    let took : judged at last (whole_at order s) ≡ Ok (e, behind) = ap (judged at last) whole ∙ judged_good at last (e, behind) good.0.1 rising.0 in
    let one = taken order first last at (length es + m) s e behind (not_empty order s (e, behind) whole) took in
    let far : length s - length behind ≡ length (spelling order e) = omega (arith, ap length parts, length-append (spelling order e) behind) in
    let others = frames_again order first (time e) (at + length (spelling order e)) m es rest good.1 rising.1 in
    let count : length (e ∷ es) + m ≡ suc (length es + m) = omega arith in
    let place : at + length (spelling order e) + length (spellings order es) ≡ at + length (spellings order (e ∷ es)) = omega (arith, ap length (spellings-cons order e es), length-append (spelling order e) (spellings order es)) in
    let left = frames_from order first (last_time (time e) es) (at + length (spellings order (e ∷ es))) m rest in
    ap (λ (n : ℕ). frames_from order first last at n s) count ∙ one ∙ ap (λ (k : ℕ). frames_from order first (time e) (at + k) (length es + m) behind >>= λ fs. Ok (arrival first e ∷ fs)) far
    ∙ ap (λ (r : Result (List Arrival) WireRefusal). r >>= λ fs. Ok (arrival first e ∷ fs)) (others ∙ ap (λ (k : ℕ). with_front (map (arrival first) es) (frames_from order first (last_time (time e) es) k m rest)) place)
    ∙ front-cons (arrival first e) (map (arrival first) es) left

-- ---- the longest good front

abbrev pub Stops : Order → ℕ → ℕ → List ℕ → Type 0
Stops order last m rest = (rest ≡ []) ⊎ ((0 < length rest) × ((m ≡ 0) ⊎ ((0 < m) × IsBad order last rest)))

pub record Longest (order : Order) (last n : ℕ) (bytes : List ℕ) : Type 0 where
  pub es : List Entry
  pub rest : List ℕ
  pub left : ℕ
  pub good : AllByRecursion IsGood es
  pub rising : DoNotFall last es
  pub count : length es + left ≡ n
  pub parts : bytes ≡ spellings order es ++ rest
  pub fits : IsBytes rest
  pub stop : Stops order (last_time last es) left rest

none_taken : (order : Order) (last n : ℕ) (bytes : List ℕ) → IsBytes bytes → Stops order last n bytes → Longest order last n bytes
none_taken order last n bytes fits stop = record { es = []; rest = bytes; left = n; good = tt; rising = tt; count = zero-add n; parts = sym (ap (λ (x : List ℕ). x ++ bytes) (spellings-nil order)); fits = fits; stop = stop }

one_taken : (order : Order) (last n : ℕ) (bytes : List ℕ) (x : Entry × List ℕ) → (bytes ≡ spelling order x.0 ++ x.1) → IsGood x.0 → last ≤ time x.0 → Longest order (time x.0) n x.1 → Longest order last (suc n) bytes
one_taken order last n bytes x parts good le l =
    record { es = x.0 ∷ l.es; rest = l.rest; left = l.left; good = (good, l.good); rising = (le, l.rising); count = omega (arith, l.count); parts = parts ∙ ap (λ (r : List ℕ). spelling order x.0 ++ r) l.parts ∙ sym (cons-append order x.0 l.es l.rest); fits = l.fits; stop = l.stop }

by_time : (order : Order) (last n : ℕ) (bytes : List ℕ) (x : Entry × List ℕ) (b : Bool) → IsBytes bytes → 0 < length bytes → whole_at order bytes ≡ Some x → has_good_length x.0 ≡ true → ltb (time x.0) last ≡ b
    → ((s : List ℕ) (before : ℕ) → IsBytes s → Longest order before n s) → Longest order last (suc n) bytes
by_time order last n bytes x true fits some whole good test rec = none_taken order last (suc n) bytes fits (inr (some, inr (omega arith, inr (x, whole, inr (good, ltb-true _ _ test)))))
by_time order last n bytes x false fits some whole good test rec =
    let w = whole_is order bytes x fits whole in
    one_taken order last n bytes x w.0 (w.1, good) (ltb-false _ _ test) (rec x.1 (time x.0) w.2)

by_length : (order : Order) (last n : ℕ) (bytes : List ℕ) (x : Entry × List ℕ) (b : Bool) → IsBytes bytes → 0 < length bytes → whole_at order bytes ≡ Some x → has_good_length x.0 ≡ b
    → ((s : List ℕ) (before : ℕ) → IsBytes s → Longest order before n s) → Longest order last (suc n) bytes
by_length order last n bytes x true fits some whole good rec = by_time order last n bytes x (ltb (time x.0) last) fits some whole good refl rec
by_length order last n bytes x false fits some whole good rec = none_taken order last (suc n) bytes fits (inr (some, inr (omega arith, inr (x, whole, inl good))))

by_bytes : (order : Order) (last n : ℕ) (bytes : List ℕ) (o : Option (Entry × List ℕ)) → IsBytes bytes → 0 < length bytes → whole_at order bytes ≡ o
    → ((s : List ℕ) (before : ℕ) → IsBytes s → Longest order before n s) → Longest order last (suc n) bytes
by_bytes order last n bytes None fits some whole rec = none_taken order last (suc n) bytes fits (inr (some, inr (omega arith, inl whole)))
by_bytes order last n bytes (Some x) fits some whole rec = by_length order last n bytes x (has_good_length x.0) fits some whole refl rec

pub longest : (order : Order) (last n : ℕ) (bytes : List ℕ) → IsBytes bytes → Longest order last n bytes
longest order last zero [] fits = none_taken order last 0 [] fits (inl refl)
longest order last zero (b ∷ bytes) fits = none_taken order last 0 (b ∷ bytes) fits (inr (omega arith, inl refl))
longest order last (suc n) [] fits = none_taken order last (suc n) [] fits (inl refl)
longest order last (suc n) (b ∷ bytes) fits = by_bytes order last n (b ∷ bytes) (whole_at order (b ∷ bytes)) fits (omega arith) refl (λ s before h. longest order before n s h)
