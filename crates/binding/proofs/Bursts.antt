-- The packets of a burst, and the steps that are left in one.
use Rattle.std.proofs.Common.{◌≡◌, ℕ, zero, suc, ◌+◌, ◌-◌, ◌<◌, ◌≤◌, Bool, true, false, cond, List, [], ◌∷◌, ◌++◌, Some, None, length, map, replicate, get_or, drop, refl, sym, ap, subst, ◌∙◌, arith, append_assoc, length-append}
use Rattle.std.specs.Prelude.{◌%◌}
use Rattle.std.specs.List.{range_with_len, AllByRecursion}
use Rattle.std.proofs.lemmas.List.{drop_more, drop_all}
use Rattle.std.proofs.lemmas.List.FromFn.{length-map-range_with_len}
use Rattle.driver_script.specs.declared.section_lines.Line.{Line}
use Rattle.driver_script.specs.declared.section_lines.Line.TheVariants as lines
use Rattle.binding.specs.Steps.{Step, Send, Hold, Release, burst_packet, burst_steps, steps, skip, is_due, behind, act_of_steps}
use Rattle.driver_script.specs.Sound.{FitsLine}
use Rattle.binding.specs.Bursts.{InBurst, left, holds_behind, TakeEffect, StepIsDone, act_of_line, HasMore, IsLast}

abbrev pub upto : List ℕ → ℕ → ℕ → List ℕ
upto mac i k = replicate 6 255 ++ (mac ++ (0x88 ∷ 0xb5 ∷ map (λ m. (i + m) % 256) (range_with_len 0 k)))

range_more : (f : ℕ → ℕ) (a n : ℕ) → map f (range_with_len a (suc n)) ≡ map f (range_with_len a n) ++ f (a + n) ∷ []
range_more f a zero = let e : a ≡ a + 0 = omega arith in ap (λ (x : ℕ). f x ∷ []) e
range_more f a (suc n) =
    let e : a + 1 + n ≡ a + suc n = omega arith in
    ap (λ (xs : List ℕ). f a ∷ xs) (range_more f (a + 1) n ∙ ap (λ (x : ℕ). map f (range_with_len (a + 1) n) ++ f x ∷ []) e)

pub burst_more : (mac : List ℕ) (i k : ℕ) (bytes : List ℕ) → bytes ≡ upto mac i k → bytes ++ (i + k) % 256 ∷ [] ≡ upto mac i (k + 1)
burst_more mac i k bytes h =
    let f : ℕ → ℕ = λ m. (i + m) % 256 in
    let more : map f (range_with_len 0 (k + 1)) ≡ map f (range_with_len 0 k) ++ f k ∷ [] =
    (let one : k + 1 ≡ suc k = omega arith in let none : 0 + k ≡ k = omega arith in ap (λ (n : ℕ). map f (range_with_len 0 n)) one ∙ range_more f 0 k ∙ ap (λ (x : ℕ). map f (range_with_len 0 k) ++ f x ∷ []) none) in
    ap (λ (xs : List ℕ). xs ++ f k ∷ []) h
    ∙ append_assoc (replicate 6 255) (mac ++ (0x88 ∷ 0xb5 ∷ map f (range_with_len 0 k))) (f k ∷ [])
    ∙ ap (λ (xs : List ℕ). replicate 6 255 ++ xs) (append_assoc mac (0x88 ∷ 0xb5 ∷ map f (range_with_len 0 k)) (f k ∷ []))
    ∙ ap (λ (xs : List ℕ). replicate 6 255 ++ (mac ++ (0x88 ∷ 0xb5 ∷ xs))) (sym more)

pub burst_len : (mac : List ℕ) (i len : ℕ) → length mac ≡ 6 → 14 ≤ len → length (burst_packet mac i len) ≡ len
unfolding burst_packet
burst_len mac i len six least =
    let a = length-map-range_with_len (λ (m : ℕ). (i + m) % 256) 0 (len - 14) in
    let b = length-append mac (0x88 ∷ 0xb5 ∷ map (λ m. (i + m) % 256) (range_with_len 0 (len - 14))) in
    let c = length-append (replicate 6 255) (mac ++ (0x88 ∷ 0xb5 ∷ map (λ m. (i + m) % 256) (range_with_len 0 (len - 14)))) in
    omega (arith, a, b, c, six)

-- ---- steps that are left

pub left_zero : (mac : List ℕ) (ls : List Line) → left mac 0 ls ≡ steps mac ls
left_zero mac [] = refl
left_zero mac (lines.Send b ∷ ls) = refl
left_zero mac (lines.Burst n len ∷ ls) = let e : n - 0 ≡ n = omega arith in ap (λ (k : ℕ). burst_steps mac 0 k len (steps mac ls)) e
left_zero mac (lines.Ask q ∷ ls) = refl
left_zero mac (lines.Await w ∷ ls) = refl
left_zero mac (lines.Hold ∷ ls) = refl
left_zero mac (lines.Release ∷ ls) = refl

one_left : (mac : List ℕ) (sent n len : ℕ) (more : List Step) → sent < n → burst_steps mac sent (n - sent) len more ≡ Send (burst_packet mac sent len) ∷ burst_steps mac (suc sent) (n - suc sent) len more
one_left mac sent n len more lt = let e : n - sent ≡ suc (n - suc sent) = omega arith in ap (λ (k : ℕ). burst_steps mac sent k len more) e

pub fits_drop : (n : ℕ) (ls : List Line) → AllByRecursion FitsLine ls → AllByRecursion FitsLine (drop n ls)
fits_drop zero ls h = h
fits_drop (suc n) [] h = h
fits_drop (suc n) (l ∷ ls) h = fits_drop n ls h.1

-- a line that is neither hold nor release stands
pub stands : (mac : List ℕ) (sent : ℕ) (has hold : Bool) (l : Line) (ls : List Line) → holds_behind l ≡ None → InBurst sent (l ∷ ls) → skip has hold (left mac sent (l ∷ ls)) ≡ (left mac sent (l ∷ ls), hold)
stands mac sent has hold (lines.Send b) ls e at = refl
stands mac sent has hold (lines.Burst n len) ls e at =
    ap (skip has hold) (one_left mac sent n len (steps mac ls) at) ∙ ap (λ (xs : List Step). (xs, hold)) (sym (one_left mac sent n len (steps mac ls) at))
stands mac sent has hold (lines.Ask q) ls e at = refl
stands mac sent has hold (lines.Await w) ls e at = refl
stands mac sent has hold lines.Hold ls e at = absurd (cc)
stands mac sent has hold lines.Release ls e at = absurd (cc)

-- a hold or a release stands where loans are due
pub waits : (mac : List ℕ) (sent : ℕ) (has hold h : Bool) (l : Line) (ls : List Line) → holds_behind l ≡ Some h → is_due has hold ≡ true → skip has hold (left mac sent (l ∷ ls)) ≡ (left mac sent (l ∷ ls), hold)
waits mac sent has hold h (lines.Send b) ls e due = absurd (cc)
waits mac sent has hold h (lines.Burst n len) ls e due = absurd (cc)
waits mac sent has hold h (lines.Ask q) ls e due = absurd (cc)
waits mac sent has hold h (lines.Await w) ls e due = absurd (cc)
waits mac sent has hold h lines.Hold ls e due = ap (λ v. cond v (Hold ∷ steps mac ls, hold) (skip has true (steps mac ls))) due
waits mac sent has hold h lines.Release ls e due = ap (λ v. cond v (Release ∷ steps mac ls, hold) (skip has false (steps mac ls))) due

-- and else takes effect
pub takes_effect : (mac : List ℕ) (sent : ℕ) (has hold h : Bool) (l : Line) (ls : List Line) → holds_behind l ≡ Some h → is_due has hold ≡ false → skip has hold (left mac sent (l ∷ ls)) ≡ skip has h (left mac 0 ls)
takes_effect mac sent has hold h (lines.Send b) ls e due = absurd (cc)
takes_effect mac sent has hold h (lines.Burst n len) ls e due = absurd (cc)
takes_effect mac sent has hold h (lines.Ask q) ls e due = absurd (cc)
takes_effect mac sent has hold h (lines.Await w) ls e due = absurd (cc)
takes_effect mac sent has hold h lines.Hold ls e due =
    let is : true ≡ h = cc in
    ap (λ v. cond v (Hold ∷ steps mac ls, hold) (skip has true (steps mac ls))) due ∙ (ap (λ v. skip has v (steps mac ls)) is ∙ ap (skip has h) (sym (left_zero mac ls)))
takes_effect mac sent has hold h lines.Release ls e due =
    let is : false ≡ h = cc in
    ap (λ v. cond v (Release ∷ steps mac ls, hold) (skip has false (steps mac ls))) due ∙ (ap (λ v. skip has v (steps mac ls)) is ∙ ap (skip has h) (sym (left_zero mac ls)))

pub none_sent : (ls : List Line) → AllByRecursion FitsLine ls → InBurst 0 ls
none_sent [] h = refl
none_sent (lines.Send b ∷ ls) h = refl
none_sent (lines.Burst n len ∷ ls) h = omega (arith, h.0.0)
none_sent (lines.Ask q ∷ ls) h = refl
none_sent (lines.Await w ∷ ls) h = refl
none_sent (lines.Hold ∷ ls) h = refl
none_sent (lines.Release ∷ ls) h = refl

no_burst : (sent : ℕ) (h : Bool) (l : Line) (ls : List Line) → holds_behind l ≡ Some h → InBurst sent (l ∷ ls) → sent ≡ 0
no_burst sent h (lines.Send b) ls e at = at
no_burst sent h (lines.Burst n len) ls e at = absurd (cc)
no_burst sent h (lines.Ask q) ls e at = at
no_burst sent h (lines.Await w) ls e at = at
no_burst sent h lines.Hold ls e at = at
no_burst sent h lines.Release ls e at = at

-- ---- the walk over holds and releases: what is left to be walked says what the whole says

pub record Walked (has hold : Bool) (ls : List Line) (passed : ℕ) (holds : Bool) : Type 0 where
  pub leads : (mac : List ℕ) (sent : ℕ) → InBurst sent ls → (skip has hold (left mac sent ls) ≡ skip has holds (left mac sent (drop passed ls))) × InBurst sent (drop passed ls)

pub walked_none : (has hold : Bool) (ls : List Line) → Walked has hold ls 0 hold
walked_none has hold ls = record { leads = λ mac sent at. (refl, at) }

next_line : (ls : List Line) (n : ℕ) (l : Line) → n < length ls → l ≡ get_or ls n l → drop n ls ≡ l ∷ drop (n + 1) ls
next_line ls n l lt is = drop_more ls n l lt ∙ ap (λ (x : Line). x ∷ drop (n + 1) ls) (sym is)

to_zero : (P : ℕ → Type 0) (n : ℕ) → n ≡ 0 → P 0 → P n
to_zero P n e h = subst P (sym e) h

walked_on : (has hold holds h : Bool) (ls : List Line) (n : ℕ) (l : Line) → drop n ls ≡ l ∷ drop (n + 1) ls → AllByRecursion FitsLine (drop (n + 1) ls) → Walked has hold ls n holds → holds_behind l ≡ Some h → is_due has holds ≡ false → (mac : List ℕ) (sent : ℕ) → InBurst sent ls → (skip has hold (left mac sent ls) ≡ skip has h (left mac sent (drop (n + 1) ls))) × InBurst sent (drop (n + 1) ls)
walked_on has hold holds h ls n l is fit w e due mac sent at =
    let so = w.leads mac sent at in
    let in_front : InBurst sent (l ∷ drop (n + 1) ls) = subst (InBurst sent) is so.1 in
    let none : sent ≡ 0 = no_burst sent h l (drop (n + 1) ls) e in_front in (
      so.0
          ∙ (ap (λ (xs : List Line). skip has holds (left mac sent xs)) is
          ∙ (takes_effect mac sent has holds h l (drop (n + 1) ls) e due ∙ ap (λ (k : ℕ). skip has h (left mac k (drop (n + 1) ls))) (sym none))),
      to_zero (λ k. InBurst k (drop (n + 1) ls)) sent none (none_sent (drop (n + 1) ls) fit),
    )

pub walked_more : (has hold holds h : Bool) (ls : List Line) (n : ℕ) (l : Line) → AllByRecursion FitsLine ls → n < length ls → l ≡ get_or ls n l → Walked has hold ls n holds → holds_behind l ≡ Some h → is_due has holds ≡ false → Walked has hold ls (n + 1) h
walked_more has hold holds h ls n l fit lt is w e due = record { leads = walked_on has hold holds h ls n l (next_line ls n l lt is) (fits_drop (n + 1) ls fit) w e due }

stops_at : (has hold holds : Bool) (ls : List Line) (n : ℕ) → Walked has hold ls n holds → ((mac : List ℕ) (sent : ℕ) → InBurst sent (drop n ls) → skip has holds (left mac sent (drop n ls)) ≡ (left mac sent (drop n ls), holds)) → TakeEffect has hold ls n holds
stops_at has hold holds ls n w stop = λ mac sent at. (let so = w.leads mac sent at in (so.0 ∙ stop mac sent so.1, so.1))

-- it ends in front of a line of another kind
pub walked_to_line : (has hold holds : Bool) (ls : List Line) (n : ℕ) (l : Line) → n < length ls → l ≡ get_or ls n l → Walked has hold ls n holds → holds_behind l ≡ None → TakeEffect has hold ls n holds
walked_to_line has hold holds ls n l lt is w e =
    let at : drop n ls ≡ l ∷ drop (n + 1) ls = next_line ls n l lt is in
    stops_at has hold holds ls n w (subst (λ (xs : List Line). (mac : List ℕ) (sent : ℕ) → InBurst sent xs → skip has holds (left mac sent xs) ≡ (left mac sent xs, holds)) (sym at) (λ mac sent b. stands mac sent has holds l (drop (n + 1) ls) e b))

-- or where loans are due
pub walked_to_due : (has hold holds h : Bool) (ls : List Line) (n : ℕ) (l : Line) → n < length ls → l ≡ get_or ls n l → Walked has hold ls n holds → holds_behind l ≡ Some h → is_due has holds ≡ true → TakeEffect has hold ls n holds
walked_to_due has hold holds h ls n l lt is w e due =
    let at : drop n ls ≡ l ∷ drop (n + 1) ls = next_line ls n l lt is in
    stops_at has hold holds ls n w (subst (λ (xs : List Line). (mac : List ℕ) (sent : ℕ) → InBurst sent xs → skip has holds (left mac sent xs) ≡ (left mac sent xs, holds)) (sym at) (λ mac sent b. waits mac sent has holds h l (drop (n + 1) ls) e due))

-- or at the end
pub walked_to_end : (has hold holds : Bool) (ls : List Line) (n : ℕ) → length ls ≤ n → Walked has hold ls n holds → TakeEffect has hold ls n false
walked_to_end has hold holds ls n le w =
    let none : drop n ls ≡ [] = drop_all n ls le in
    λ mac sent at. (let so = w.leads mac sent at in (so.0 ∙ (ap (λ (xs : List Line). skip has holds (left mac sent xs)) none ∙ ap (λ (xs : List Line). (left mac sent xs, false)) (sym none)), so.1))

-- one more packet of a burst
pub behind_more : (mac : List ℕ) (sent n len : ℕ) (ls : List Line) → sent < n → left mac (sent + 1) (lines.Burst n len ∷ ls) ≡ behind (left mac sent (lines.Burst n len ∷ ls))
behind_more mac sent n len ls lt =
    let e : sent + 1 ≡ suc sent = omega arith in
    ap (λ (k : ℕ). burst_steps mac k (n - k) len (steps mac ls)) e ∙ sym (ap behind (one_left mac sent n len (steps mac ls) lt))

-- the last packet of a burst, or another line
pub behind_last : (mac : List ℕ) (sent n len : ℕ) (ls : List Line) → sent < n → n ≤ sent + 1 → left mac 0 ls ≡ behind (left mac sent (lines.Burst n len ∷ ls))
behind_last mac sent n len ls lt le =
    let none : n - suc sent ≡ 0 = omega arith in
    left_zero mac ls ∙ sym (ap behind (one_left mac sent n len (steps mac ls) lt) ∙ ap (λ (k : ℕ). burst_steps mac (suc sent) k len (steps mac ls)) none)

-- ---- the line in front

pub front_line : (ls : List Line) (l : Line) → 0 < length ls → l ≡ get_or ls 0 l → ls ≡ l ∷ drop 1 ls
front_line ls l lt is = next_line ls 0 l lt is

act_cons : (mac : List ℕ) (sent : ℕ) (l : Line) (ls : List Line) → InBurst sent (l ∷ ls) → act_of_line mac sent l ≡ act_of_steps (left mac sent (l ∷ ls))
act_cons mac sent (lines.Send b) ls at = refl
act_cons mac sent (lines.Burst n len) ls at = sym (ap act_of_steps (one_left mac sent n len (steps mac ls) at))
act_cons mac sent (lines.Ask q) ls at = refl
act_cons mac sent (lines.Await w) ls at = refl
act_cons mac sent lines.Hold ls at = refl
act_cons mac sent lines.Release ls at = refl

pub act_front : (mac : List ℕ) (sent : ℕ) (ls : List Line) (l : Line) → 0 < length ls → l ≡ get_or ls 0 l → InBurst sent ls → act_of_line mac sent l ≡ act_of_steps (left mac sent ls)
act_front mac sent ls l lt is at =
    let e : ls ≡ l ∷ drop 1 ls = front_line ls l lt is in
    act_cons mac sent l (drop 1 ls) (subst (InBurst sent) e at) ∙ ap (λ (xs : List Line). act_of_steps (left mac sent xs)) (sym e)

more_cons : (sent more : ℕ) (l : Line) (ls : List Line) → InBurst sent (l ∷ ls) → HasMore sent l more → StepIsDone sent (l ∷ ls) 0 more
more_cons sent more (lines.Send b) ls at h = absurd h
more_cons sent more (lines.Burst n len) ls at h =
    (λ mac. ap (λ (k : ℕ). left mac k (lines.Burst n len ∷ ls)) h.1 ∙ behind_more mac sent n len ls at, h.0)
more_cons sent more (lines.Ask q) ls at h = absurd h
more_cons sent more (lines.Await w) ls at h = absurd h
more_cons sent more lines.Hold ls at h = absurd h
more_cons sent more lines.Release ls at h = absurd h

pub more_done : (sent more : ℕ) (ls : List Line) (l : Line) → 0 < length ls → l ≡ get_or ls 0 l → InBurst sent ls → HasMore sent l more → StepIsDone sent ls 0 more
more_done sent more ls l lt is at h =
    let e : ls ≡ l ∷ drop 1 ls = front_line ls l lt is in
    subst (λ (xs : List Line). StepIsDone sent xs 0 more) (sym e) (more_cons sent more l (drop 1 ls) (subst (InBurst sent) e at) h)

last_cons : (sent : ℕ) (l : Line) (ls : List Line) → AllByRecursion FitsLine ls → InBurst sent (l ∷ ls) → IsLast sent l → StepIsDone sent (l ∷ ls) 1 0
last_cons sent (lines.Send b) ls fit at h = (λ mac. left_zero mac ls, none_sent ls fit)
last_cons sent (lines.Burst n len) ls fit at h = (λ mac. behind_last mac sent n len ls at h, none_sent ls fit)
last_cons sent (lines.Ask q) ls fit at h = (λ mac. left_zero mac ls, none_sent ls fit)
last_cons sent (lines.Await w) ls fit at h = (λ mac. left_zero mac ls, none_sent ls fit)
last_cons sent lines.Hold ls fit at h = (λ mac. left_zero mac ls, none_sent ls fit)
last_cons sent lines.Release ls fit at h = (λ mac. left_zero mac ls, none_sent ls fit)

pub last_done : (sent : ℕ) (ls : List Line) (l : Line) → 0 < length ls → l ≡ get_or ls 0 l → AllByRecursion FitsLine ls → InBurst sent ls → IsLast sent l → StepIsDone sent ls 1 0
last_done sent ls l lt is fit at h =
    let e : ls ≡ l ∷ drop 1 ls = front_line ls l lt is in
    subst (λ (xs : List Line). StepIsDone sent xs 1 0) (sym e) (last_cons sent l (drop 1 ls) (fits_drop 1 ls fit) (subst (InBurst sent) e at) h)

sent_alone : (sent : ℕ) (l : Line) (ls : List Line) → InBurst sent (l ∷ ls) → InBurst sent (l ∷ [])
sent_alone sent (lines.Send b) ls at = at
sent_alone sent (lines.Burst n len) ls at = at
sent_alone sent (lines.Ask q) ls at = at
sent_alone sent (lines.Await w) ls at = at
sent_alone sent lines.Hold ls at = at
sent_alone sent lines.Release ls at = at

pub front_sent : (sent : ℕ) (ls : List Line) (l : Line) → 0 < length ls → l ≡ get_or ls 0 l → InBurst sent ls → InBurst sent (l ∷ [])
front_sent sent ls l lt is at = sent_alone sent l (drop 1 ls) (subst (InBurst sent) (front_line ls l lt is) at)

pub front_fits : (ls : List Line) (l : Line) → 0 < length ls → l ≡ get_or ls 0 l → AllByRecursion FitsLine ls → FitsLine l
front_fits ls l lt is fit =
    let whole : AllByRecursion FitsLine (l ∷ drop 1 ls) = subst (AllByRecursion FitsLine) (front_line ls l lt is) fit in
    whole.0
