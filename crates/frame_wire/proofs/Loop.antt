-- Reading entries one after the other, as the loops do.
use Rattle.std.proofs.Common.{◌≡◌, ℕ, zero, suc, ◌-◌, ◌+◌, ◌<◌, ◌≤◌, Bool, true, false, eqb, ltb, List, [], ◌∷◌, ◌++◌, length, Option, Some, None, Result, Ok, Err, refl, sym, ap, subst, ◌∙◌, append_assoc, arith}
use Rattle.std.specs.Prelude.{IsOk}
use Rattle.std.proofs.lemmas.Bool.{ltb-false, le-ltb, ltb-true, lt-ltb}
use Rattle.std.proofs.lemmas.List.{append-nil}
use Rattle.nd_base.specs.Results.{◌>>=◌}
use Rattle.frame_wire.specs.declared.order.Order.{Order}
use Rattle.frame_wire.specs.declared.arrival.Arrival.{Arrival}
use Rattle.frame_wire.specs.declared.refusal.WireRefusal.{WireRefusal}
use Rattle.frame_wire.specs.declared.refusal.WireRefusal.TheVariants.{TooLong, CutShort, Length, Backwards}
use Rattle.frame_wire.specs.Entries.{Entry, time, has_good_length, arrival}
use Rattle.frame_wire.specs.Reading.{whole_at, judged, first_time, frames_from, entries_of, count_of}

-- ---- what is taken of an entry

pub judged_good : (at last : ℕ) (x : Entry × List ℕ) → has_good_length x.0 ≡ true → last ≤ time x.0 → judged at last (Some x) ≡ Ok x
judged_good at last x good le =
    let test : ltb (time x.0) last ≡ false = le-ltb _ _ le in
    rw (good, test) refl

pub judged_bad : (at last : ℕ) (x : Entry × List ℕ) → has_good_length x.0 ≡ false → judged at last (Some x) ≡ Err (Length at)
judged_bad at last x bad = rw bad refl

pub judged_back : (at last : ℕ) (x : Entry × List ℕ) → has_good_length x.0 ≡ true → time x.0 < last → judged at last (Some x) ≡ Err (Backwards at)
judged_back at last x good lt =
    let test : ltb (time x.0) last ≡ true = lt-ltb _ _ lt in
    rw (good, test) refl

-- ---- one entry after the other

-- what was read before, and what is still read
abbrev pub with_front : List Arrival → Result (List Arrival) WireRefusal → Result (List Arrival) WireRefusal
with_front front read = read >>= λ x. Ok (front ++ x)

regroup : (front : List Arrival) (f : Arrival) (read : Result (List Arrival) WireRefusal) → with_front front (read >>= λ x. Ok (f ∷ x)) ≡ with_front (front ++ f ∷ []) read
regroup front f (Ok x) = ap (λ (fs : List Arrival). Ok fs) (simp append_assoc)
regroup front f (Err e) = refl

pub taken : (order : Order) (first last at n : ℕ) (bytes : List ℕ) (e : Entry) (behind : List ℕ) → 0 < length bytes → judged at last (whole_at order bytes) ≡ Ok (e, behind)
    → frames_from order first last at (suc n) bytes ≡ (frames_from order first (time e) (at + (length bytes - length behind)) n behind >>= λ others. Ok (arrival first e ∷ others))
unfolding frames_from
taken order first last at n [] e behind lt h = absurd (omega arith)
taken order first last at n (b ∷ bytes) e behind lt h = rw h refl

pub stopped : (order : Order) (first last at n : ℕ) (bytes : List ℕ) (d : WireRefusal) → 0 < length bytes → judged at last (whole_at order bytes) ≡ Err d → frames_from order first last at (suc n) bytes ≡ Err d
unfolding frames_from
stopped order first last at n [] d lt h = absurd (omega arith)
stopped order first last at n (b ∷ bytes) d lt h = rw h refl

pub too_many : (order : Order) (first last at : ℕ) (bytes : List ℕ) → 0 < length bytes → frames_from order first last at 0 bytes ≡ Err TooLong
unfolding frames_from
too_many order first last at [] lt = absurd (omega arith)
too_many order first last at (b ∷ bytes) lt = refl

pub ended : (order : Order) (first last at n : ℕ) → frames_from order first last at n [] ≡ Ok []
unfolding frames_from
ended order first last at zero = refl
ended order first last at (suc n) = refl

pub some_left : (s : List ℕ) → false ≡ eqb (length s) 0 → 0 < length s
some_left [] e = absurd cc
some_left (b ∷ s) e = omega arith

-- ---- counting

-- how many were counted before, and how many are still counted
abbrev pub counted : ℕ → Result (List Arrival) WireRefusal → Result ℕ WireRefusal
counted before (Ok fs) = Ok (before + length fs)
counted before (Err e) = Err e

pub counted_none : (read : Result (List Arrival) WireRefusal) → counted 0 read ≡ count_of read
counted_none (Ok fs) = ap (λ (n : ℕ). Ok n) (omega arith)
counted_none (Err e) = refl

one_counted : (before : ℕ) (f : Arrival) (read : Result (List Arrival) WireRefusal) → counted before (read >>= λ others. Ok (f ∷ others)) ≡ counted (before + 1) read
one_counted before f (Ok fs) = ap (λ (n : ℕ). Ok n) (omega arith)
one_counted before f (Err e) = refl

pub counts_on : (order : Order) (first last at before : ℕ) (bytes : List ℕ) (e : Entry) (behind : List ℕ) (total : Result ℕ WireRefusal) → before < 65536 → 0 < length bytes → judged at last (whole_at order bytes) ≡ Ok (e, behind)
    → counted before (frames_from order first last at (65536 - before) bytes) ≡ total
    → counted (before + 1) (frames_from order first (time e) (at + (length bytes - length behind)) (65536 - (before + 1)) behind) ≡ total
counts_on order first last at before bytes e behind total lt some h so_far =
    let k : 65536 - before ≡ suc (65536 - (before + 1)) = omega arith in
    let one = taken order first last at (65536 - (before + 1)) bytes e behind some h in
    sym (one_counted before (arrival first e) (frames_from order first (time e) (at + (length bytes - length behind)) (65536 - (before + 1)) behind))
    ∙ ap (counted before) (sym one ∙ ap (λ (n : ℕ). frames_from order first last at n bytes) (sym k)) ∙ so_far

pub count_fails : (order : Order) (first last at before : ℕ) (bytes : List ℕ) (d : WireRefusal) (total : Result ℕ WireRefusal) → before < 65536 → 0 < length bytes → judged at last (whole_at order bytes) ≡ Err d
    → counted before (frames_from order first last at (65536 - before) bytes) ≡ total → total ≡ Err d
count_fails order first last at before bytes d total lt some h so_far =
    let k : 65536 - before ≡ suc (65536 - (before + 1)) = omega arith in
    sym so_far ∙ ap (counted before) (ap (λ (n : ℕ). frames_from order first last at n bytes) k ∙ stopped order first last at (65536 - (before + 1)) bytes d some h)

pub count_full : (order : Order) (first last at before : ℕ) (bytes : List ℕ) (total : Result ℕ WireRefusal) → before ≡ 65536 → 0 < length bytes
    → counted before (frames_from order first last at (65536 - before) bytes) ≡ total → total ≡ Err TooLong
count_full order first last at before bytes total full some so_far =
    let k : 65536 - before ≡ 0 = omega arith in
    sym so_far ∙ ap (counted before) (ap (λ (n : ℕ). frames_from order first last at n bytes) k ∙ too_many order first last at bytes some)

pub count_ends : (order : Order) (first last at before : ℕ) (bytes : List ℕ) (total : Result ℕ WireRefusal) → bytes ≡ []
    → counted before (frames_from order first last at (65536 - before) bytes) ≡ total → total ≡ Ok before
count_ends order first last at before bytes total nothing so_far =
    sym so_far ∙ ap (counted before) (ap (frames_from order first last at (65536 - before)) nothing ∙ ended order first last at (65536 - before)) ∙ ap (λ (n : ℕ). Ok n) (omega arith)

-- ---- taking

-- the frames of a good file have been taken up to here
pub record TakenUpTo (order : Order) (first : ℕ) (fs : List Arrival) (bytes : List ℕ) (total : Result (List Arrival) WireRefusal) : Type 0 where
  pub last : ℕ
  pub at : ℕ
  pub left : ℕ
  pub later : first ≤ last
  pub so_far : with_front fs (frames_from order first last at left bytes) ≡ total

-- what stands in front: no entry at the end, and else a good one
abbrev pub Goes : Order → ℕ → List Arrival → Option (Entry × List ℕ) → Result (List Arrival) WireRefusal → Type 0
Goes order first fs None total = total ≡ Ok fs
Goes order first fs (Some x) total = (first ≤ time x.0) × TakenUpTo order first (fs ++ arrival first x.0 ∷ []) x.1 total

no_error : (fs : List Arrival) (read : Result (List Arrival) WireRefusal) (d : WireRefusal) (total : Result (List Arrival) WireRefusal) → read ≡ Err d → with_front fs read ≡ total → IsOk total → ⊥
no_error fs read d total is so_far ok =
    let bad : IsOk (with_front fs (Err d)) = subst (λ (r : Result (List Arrival) WireRefusal). IsOk r) (sym so_far ∙ ap (with_front fs) is) ok in
    cc

goes_by_time : (order : Order) (first last at n : ℕ) (fs : List Arrival) (bytes : List ℕ) (x : Entry × List ℕ) (b : Bool) (total : Result (List Arrival) WireRefusal) → 0 < length bytes → whole_at order bytes ≡ Some x → has_good_length x.0 ≡ true → ltb (time x.0) last ≡ b
    → first ≤ last → with_front fs (frames_from order first last at (suc n) bytes) ≡ total → IsOk total → Goes order first fs (Some x) total
goes_by_time order first last at n fs bytes x true total some whole good test le so_far ok =
    absurd (no_error fs (frames_from order first last at (suc n) bytes) (Backwards at) total (stopped order first last at n bytes (Backwards at) some (ap (judged at last) whole ∙ judged_back at last x good (ltb-true _ _ test))) so_far ok)
goes_by_time order first last at n fs bytes x false total some whole good test le so_far ok =
    let later : last ≤ time x.0 = ltb-false _ _ test in
    let took = taken order first last at n bytes x.0 x.1 some (ap (judged at last) whole ∙ judged_good at last x good later) in
    let next = frames_from order first (time x.0) (at + (length bytes - length x.1)) n x.1 in
    (omega arith, record { last = time x.0; at = at + (length bytes - length x.1); left = n; later = omega arith; so_far = sym (regroup fs (arrival first x.0) next) ∙ ap (with_front fs) (sym took) ∙ so_far })

goes_by_length : (order : Order) (first last at n : ℕ) (fs : List Arrival) (bytes : List ℕ) (x : Entry × List ℕ) (b : Bool) (total : Result (List Arrival) WireRefusal) → 0 < length bytes → whole_at order bytes ≡ Some x → has_good_length x.0 ≡ b
    → first ≤ last → with_front fs (frames_from order first last at (suc n) bytes) ≡ total → IsOk total → Goes order first fs (Some x) total
goes_by_length order first last at n fs bytes x true total some whole good le so_far ok = goes_by_time order first last at n fs bytes x (ltb (time x.0) last) total some whole good refl le so_far ok
goes_by_length order first last at n fs bytes x false total some whole bad le so_far ok =
    absurd (no_error fs (frames_from order first last at (suc n) bytes) (Length at) total (stopped order first last at n bytes (Length at) some (ap (judged at last) whole ∙ judged_bad at last x bad)) so_far ok)

goes_by_bytes : (order : Order) (first last at n : ℕ) (fs : List Arrival) (bytes : List ℕ) (o : Option (Entry × List ℕ)) (total : Result (List Arrival) WireRefusal) → 0 < length bytes → whole_at order bytes ≡ o
    → first ≤ last → with_front fs (frames_from order first last at (suc n) bytes) ≡ total → IsOk total → Goes order first fs o total
goes_by_bytes order first last at n fs bytes None total some whole le so_far ok =
    absurd (no_error fs (frames_from order first last at (suc n) bytes) (CutShort at) total (stopped order first last at n bytes (CutShort at) some (ap (judged at last) whole)) so_far ok)
goes_by_bytes order first last at n fs bytes (Some x) total some whole le so_far ok = goes_by_length order first last at n fs bytes x (has_good_length x.0) total some whole refl le so_far ok

goes_by_count : (order : Order) (first last at n : ℕ) (fs : List Arrival) (bytes : List ℕ) (total : Result (List Arrival) WireRefusal) → 0 < length bytes
    → first ≤ last → with_front fs (frames_from order first last at n bytes) ≡ total → IsOk total → Goes order first fs (whole_at order bytes) total
goes_by_count order first last at zero fs bytes total some le so_far ok = absurd (no_error fs (frames_from order first last at 0 bytes) TooLong total (too_many order first last at bytes some) so_far ok)
goes_by_count order first last at (suc n) fs bytes total some le so_far ok = goes_by_bytes order first last at n fs bytes (whole_at order bytes) total some refl le so_far ok

none_of_none : (order : Order) → whole_at order [] ≡ None
unfolding whole_at
none_of_none order = refl

goes_by_end : (order : Order) (first : ℕ) (fs : List Arrival) (bytes : List ℕ) (total : Result (List Arrival) WireRefusal) → TakenUpTo order first fs bytes total → IsOk total → Goes order first fs (whole_at order bytes) total
goes_by_end order first fs [] total t ok =
    subst (λ (o : Option (Entry × List ℕ)). Goes order first fs o total) (sym (none_of_none order)) (sym t.so_far ∙ ap (with_front fs) (ended order first t.last t.at t.left) ∙ ap (λ (x : List Arrival). Ok x) (append-nil fs))
goes_by_end order first fs (b ∷ bytes) total t ok = goes_by_count order first t.last t.at t.left fs (b ∷ bytes) total (omega arith) t.later t.so_far ok

pub goes : (order : Order) (first : ℕ) (fs : List Arrival) (bytes : List ℕ) (o : Option (Entry × List ℕ)) (total : Result (List Arrival) WireRefusal) → o ≡ whole_at order bytes → TakenUpTo order first fs bytes total → IsOk total → Goes order first fs o total
goes order first fs bytes o total is t ok = rw is (goes_by_end order first fs bytes total t ok)

pub goes_on : (order : Order) (first : ℕ) (fs items : List Arrival) (bytes : List ℕ) (e : Entry) (behind : List ℕ) (f : Arrival) (total : Result (List Arrival) WireRefusal) → Some (e, behind) ≡ whole_at order bytes → items ≡ fs ++ f ∷ [] → f ≡ arrival first e
    → TakenUpTo order first fs bytes total → IsOk total → TakenUpTo order first items behind total
goes_on order first fs items bytes e behind f total is pushed made t ok = rw (pushed, made) (goes order first fs bytes (Some (e, behind)) total is t ok).1

pub with_nil : (read : Result (List Arrival) WireRefusal) → with_front [] read ≡ read
with_nil (Ok x) = refl
with_nil (Err e) = refl

pub at_start : (order : Order) (bytes : List ℕ) → TakenUpTo order (first_time order bytes) [] bytes (entries_of order bytes)
at_start order bytes = record { last = first_time order bytes; at = 24; left = 65536; later = omega arith; so_far = with_nil (entries_of order bytes) }
