-- What is known behind good lines, and what is read of all of them.
use Rattle.std.proofs.Common.{◌≡◌, ◌≢◌, ℕ, zero, suc, ◌+◌, ◌<◌, ◌≤◌, Bool, true, false, cond, List, [], ◌∷◌, length, drop, get_or, set, Result, Ok, Err, refl, sym, ap, subst, ◌∙◌, inl, inr, ◌⊎◌, arith, add-one}
use Rattle.std.proofs.lemmas.Bool.{cases_lt, cases_eq, false_from_ne_true}
use Rattle.std.proofs.lemmas.List.{length-set, length-drop, get_or-set_same, get_or-set_other, get_or-replicate, drop_more, drop_all}
use Rattle.nd_base.specs.declared.layout_text.Content.{Content}
use Rattle.nd_base.specs.declared.layout_text.Content.TheVariants.{Skipped, Bad, Unknown, Offset}
use Rattle.nd_base.specs.declared.layout.LayoutRefusal.{LayoutRefusal}
use Rattle.nd_base.specs.declared.layout.LayoutRefusal.TheVariants.{TooLong, Line, UnknownName, Repeated, Missing, Overlap}
use Rattle.nd_base.specs.declared.layout.Offsets.{Offsets}
use Rattle.nd_base.specs.LayoutText.{line_content}
use Rattle.nd_base.specs.Words.{SaysNothing}
use Rattle.nd_base.specs.LayoutFile.{States, line_at, IsStated, IsGood, AreGood, AreRefused}
use Rattle.nd_base.specs.Results.{◌>>=◌}
use Rattle.nd_base.specs.LayoutReading.{behind, behind_lines, nothing}
use Rattle.nd_base.proofs.LayoutLine.{content_states, content_nothing, content_unknown, content_bad, Holds, holds}

-- behind the first k lines
pub record Knows (ls : List (List ℕ)) (k : ℕ) (known : Offsets) : Type 0 where
  pub given_len : length known.given ≡ 31
  pub offsets_len : length known.offsets ≡ 31
  pub good : AreGood ls k
  pub stated : (i : ℕ) → i < 31 → get_or known.given i false ≡ true → IsStated ls k i (get_or known.offsets i 0)
  pub known_all : (i n : ℕ) → IsStated ls k i n → (get_or known.given i false ≡ true) × (get_or known.offsets i 0 ≡ n)

both : (b : Bool) → b ≡ true → b ≡ false → ⊥
both b p q = let e : true ≡ false = sym p ∙ q in absurd cc

none_given : (i : ℕ) → i < 31 → get_or nothing.given i false ≡ false
none_given i lt = get_or-replicate 31 i false false lt

at_start : (ls : List (List ℕ)) → Knows ls 0 nothing
at_start ls = record {
  given_len = refl;
  offsets_len = refl;
  good = λ j lt. absurd (omega arith);
  stated = λ i lt given. absurd (both (get_or nothing.given i false) given (none_given i lt));
  known_all = λ i n s. let lt = s.1 in absurd (omega arith);
}

grown : (ls : List (List ℕ)) (k i n : ℕ) → IsStated ls k i n → IsStated ls (k + 1) i n
grown ls k i n (j, lt, states) = (j, omega arith, states)

last_or_before : (ls : List (List ℕ)) (k i n : ℕ) → IsStated ls (k + 1) i n → IsStated ls k i n ⊎ States (line_at ls k) i n
last_or_before ls k i n (j, lt, states) = elim (cases_lt j k) [
  | inl less ↦ inl (j, less, states)
  | inr more ↦ let e : j ≡ k = omega arith in inr (subst (λ (m : ℕ). States (line_at ls m) i n) e states)
]

good_more : (ls : List (List ℕ)) (k : ℕ) → AreGood ls k → IsGood ls k → AreGood ls (k + 1)
good_more ls k good here = λ j lt. elim (cases_lt j k) [
  | inl less ↦ good j less
  | inr more ↦ let e : k ≡ j = omega arith in subst (IsGood ls) e here
]

behind_nothing : (ls : List (List ℕ)) (k : ℕ) (known : Offsets) → Knows ls k known → SaysNothing (line_at ls k) → Knows ls (k + 1) known
behind_nothing ls k known kn here = record {
  given_len = kn.given_len;
  offsets_len = kn.offsets_len;
  good = good_more ls k kn.good (inl here);
  stated = λ i lt given. grown ls k i (get_or known.offsets i 0) (kn.stated i lt given);
  known_all = λ i n s. elim (last_or_before ls k i n s) [
    | inl before ↦ kn.known_all i n before
    | inr states ↦ let p = content_nothing (line_at ls k) here in let q = content_states (line_at ls k) i n states in absurd (cc)
  ];
}

abbrev with_offset : Offsets → ℕ → ℕ → Offsets
with_offset known p m = record { given = set known.given p true; offsets = set known.offsets p m }

same_offset : (line : List ℕ) (p m i n : ℕ) → States line p m → States line i n → (p ≡ i) × (m ≡ n)
same_offset line p m i n a b =
    let x = content_states line p m a in
    let y = content_states line i n b in
    let e : Offset p m ≡ Offset i n = sym x ∙ y in
    (cc, cc)

behind_offset : (ls : List (List ℕ)) (k : ℕ) (known : Offsets) (p m : ℕ) → Knows ls k known → States (line_at ls k) p m → get_or known.given p false ≡ false → Knows ls (k + 1) (with_offset known p m)
behind_offset ls k known p m kn here off =
    let lt = here.0 in
    let in_given : p < length known.given = rw kn.given_len lt in
    let in_offsets : p < length known.offsets = rw kn.offsets_len lt in
    let new : (n : ℕ) → IsStated ls k p n → ⊥ = λ n s. both (get_or known.given p false) (kn.known_all p n s).0 off in
    record {
      given_len = length-set known.given p true ∙ kn.given_len;
      offsets_len = length-set known.offsets p m ∙ kn.offsets_len;
      good = good_more ls k kn.good (inr (p, m, here, new));
      stated = λ i small given. elim (cases_eq i p) [
        | inl same ↦ subst (λ (x : ℕ). IsStated ls (k + 1) x (get_or (set known.offsets p m) x 0)) (sym same) (rw (get_or-set_same known.offsets p m 0 in_offsets) (k, omega arith, here))
        | inr other ↦
            let before = kn.stated i small (sym (get_or-set_other known.given p i true false other) ∙ given) in
            rw (get_or-set_other known.offsets p i m 0 other) (grown ls k i (get_or known.offsets i 0) before)
      ];
      known_all = λ i n s. elim (last_or_before ls k i n s) [
        | inl before ↦
            let q = kn.known_all i n before in
            let other : i ≢ p = λ e. new n (subst (λ (x : ℕ). IsStated ls k x n) e before) in
            (get_or-set_other known.given p i true false other ∙ q.0, get_or-set_other known.offsets p i m 0 other ∙ q.1)
        | inr states ↦
            let q = same_offset (line_at ls k) p m i n here states in
            (subst (λ (x : ℕ). get_or (set known.given p true) x false ≡ true) q.0 (get_or-set_same known.given p true false in_given), subst (λ (x : ℕ). get_or (set known.offsets p m) x 0 ≡ n) q.0 (get_or-set_same known.offsets p m 0 in_offsets ∙ q.1))
      ];
    }

-- ---- from the reading to the grammar

abbrev pub Outcome : List (List ℕ) → Result Offsets LayoutRefusal → Type 0
Outcome ls (Ok known) = Knows ls (length ls) known
Outcome ls (Err e) = AreRefused ls e

by_given : (ls rest : List (List ℕ)) (k : ℕ) (known : Offsets) (p m : ℕ) (b : Bool) → k < length ls → Knows ls k known → States (line_at ls k) p m → get_or known.given p false ≡ b
    → ((after : Offsets) → Knows ls (k + 1) after → Outcome ls (behind_lines (k + 1 + 1) after rest)) → Outcome ls (cond b (Err (Repeated (k + 1))) (Ok (with_offset known p m)) >>= (λ after. behind_lines (k + 1 + 1) after rest))
by_given ls rest k known p m true lt kn here given rec = (k, refl, lt, kn.good, (p, m, get_or known.offsets p 0, here, kn.stated p here.0 given))
by_given ls rest k known p m false lt kn here given rec = rec (with_offset known p m) (behind_offset ls k known p m kn here given)

by_content : (ls rest : List (List ℕ)) (k : ℕ) (known : Offsets) (c : Content) → k < length ls → Knows ls k known → Holds (line_at ls k) c
    → ((after : Offsets) → Knows ls (k + 1) after → Outcome ls (behind_lines (k + 1 + 1) after rest)) → Outcome ls (behind (k + 1) known c >>= (λ after. behind_lines (k + 1 + 1) after rest))
by_content ls rest k known Skipped lt kn here rec = rec known (behind_nothing ls k known kn here)
by_content ls rest k known Bad lt kn here rec = (k, refl, lt, kn.good, here)
by_content ls rest k known Unknown lt kn here rec = (k, refl, lt, kn.good, here)
by_content ls rest k known (Offset p m) lt kn here rec = by_given ls rest k known p m (get_or known.given p false) lt kn here refl rec

walk : (ls rest : List (List ℕ)) (k : ℕ) (known : Offsets) → k ≤ length ls → rest ≡ drop k ls → Knows ls k known → Outcome ls (behind_lines (k + 1) known rest)
unfolding behind_lines
walk ls [] k known le is kn =
    let e : k ≡ length ls = omega (arith, ap length is, length-drop k ls) in
    subst (λ (m : ℕ). Knows ls m known) e kn
walk ls (line ∷ rest) k known le is kn =
    let lt : k < length ls = omega (arith, ap length is, length-drop k ls) in
    let parts : line ∷ rest ≡ line_at ls k ∷ drop (k + 1) ls = is ∙ drop_more ls k [] lt in
    let line_is : line ≡ line_at ls k = cc in
    let rest_is : rest ≡ drop (k + 1) ls = cc in
    by_content ls rest k known (line_content line) lt kn (subst (λ (s : List ℕ). Holds s (line_content line)) line_is (holds line)) (λ after kn2. walk ls rest (k + 1) after (omega arith) rest_is kn2)

pub walked : (ls : List (List ℕ)) → Outcome ls (behind_lines 1 nothing ls)
walked ls = walk ls ls 0 nothing (omega arith) refl (at_start ls)

-- ---- from the grammar to the reading

Reached : List (List ℕ) → ℕ → Type 0
Reached ls k = (known : Offsets) × Knows ls k known × (behind_lines 1 nothing ls ≡ behind_lines (k + 1) known (drop k ls))

one_line : (ls : List (List ℕ)) (k : ℕ) (known : Offsets) (c : Content) → k < length ls → line_content (line_at ls k) ≡ c → behind_lines (k + 1) known (drop k ls) ≡ (behind (k + 1) known c >>= (λ after. behind_lines (k + 1 + 1) after (drop (k + 1) ls)))
unfolding behind_lines
one_line ls k known c lt is = ap (behind_lines (k + 1) known) (drop_more ls k [] lt) ∙ ap (λ (x : Content). behind (k + 1) known x >>= (λ after. behind_lines (k + 1 + 1) after (drop (k + 1) ls))) is

more : (ls : List (List ℕ)) (k : ℕ) → k < length ls → Reached ls k → IsGood ls k → Reached ls (k + 1)
unfolding Reached
more ls k lt (known, kn, is) (inl here) = (known, behind_nothing ls k known kn here, is ∙ one_line ls k known Skipped lt (content_nothing (line_at ls k) here))
more ls k lt (known, kn, is) (inr (p, m, here, new)) =
    let off : get_or known.given p false ≡ false = false_from_ne_true (get_or known.given p false) (λ given. new (get_or known.offsets p 0) (kn.stated p here.0 given)) in (
      with_offset known p m,
      behind_offset ls k known p m kn here off,
      is ∙ one_line ls k known (Offset p m) lt (content_states (line_at ls k) p m here)
          ∙ ap (λ (b : Bool). cond b (Err (Repeated (k + 1))) (Ok (with_offset known p m)) >>= (λ after. behind_lines (k + 1 + 1) after (drop (k + 1) ls))) off,
    )

reached : (ls : List (List ℕ)) (k : ℕ) → k ≤ length ls → AreGood ls k → Reached ls k
unfolding Reached
reached ls zero le good = (nothing, at_start ls, refl)
reached ls (suc k) le good = subst (Reached ls) (add-one k) (more ls k (omega arith) (reached ls k (omega arith) (λ j lt. good j (omega arith))) (good k (omega arith)))

pub all_good : (ls : List (List ℕ)) → AreGood ls (length ls) → (known : Offsets) × Knows ls (length ls) known × (behind_lines 1 nothing ls ≡ Ok known)
unfolding Reached behind_lines
all_good ls good = let r = reached ls (length ls) (omega arith) good in (r.0, r.1, r.2 ∙ ap (behind_lines (length ls + 1) r.0) (drop_all (length ls) ls (omega arith)))

stops_at : (ls : List (List ℕ)) (k : ℕ) (c : Content) (e : LayoutRefusal) → k < length ls → AreGood ls k → line_content (line_at ls k) ≡ c → ((known : Offsets) → Knows ls k known → behind (k + 1) known c ≡ Err e) → behind_lines 1 nothing ls ≡ Err e
unfolding Reached
stops_at ls k c e lt good is bad =
    let r = reached ls k (omega arith) good in
    r.2 ∙ one_line ls k r.0 c lt is ∙ ap (λ (x : Result Offsets LayoutRefusal). x >>= (λ after. behind_lines (k + 1 + 1) after (drop (k + 1) ls))) (bad r.0 r.1)

bad_again : (ls : List (List ℕ)) (number : ℕ) → AreRefused ls (Line number) → behind_lines 1 nothing ls ≡ Err (Line number)
bad_again ls number (k, is, lt, good, bad) =
    let content = content_bad (line_at ls k) (line_content (line_at ls k)) refl (holds (line_at ls k)) bad in
    stops_at ls k Bad (Line number) lt good content (λ known kn. ap (λ (n : ℕ). Err (Line n)) (sym is))

unknown_again : (ls : List (List ℕ)) (number : ℕ) → AreRefused ls (UnknownName number) → behind_lines 1 nothing ls ≡ Err (UnknownName number)
unknown_again ls number (k, is, lt, good, unknown) = stops_at ls k Unknown (UnknownName number) lt good (content_unknown (line_at ls k) unknown) (λ known kn. ap (λ (n : ℕ). Err (UnknownName n)) (sym is))

repeated_again : (ls : List (List ℕ)) (number : ℕ) → AreRefused ls (Repeated number) → behind_lines 1 nothing ls ≡ Err (Repeated number)
repeated_again ls number (k, is, lt, good, (i, n, m, here, before)) =
    stops_at ls k (Offset i n) (Repeated number) lt good (content_states (line_at ls k) i n here)
    (λ known kn. ap (λ (b : Bool). cond b (Err (Repeated (k + 1))) (Ok (with_offset known i n))) (kn.known_all i m before).0 ∙ ap (λ (x : ℕ). Err (Repeated x)) (sym is))

-- a fault of one line
abbrev pub IsOfLine : LayoutRefusal → Type 0
IsOfLine (Line number) = Unit {0}
IsOfLine (UnknownName number) = Unit {0}
IsOfLine (Repeated number) = Unit {0}
IsOfLine TooLong = ⊥
IsOfLine (Missing field) = ⊥
IsOfLine (Overlap first second) = ⊥

pub line_again : (ls : List (List ℕ)) (e : LayoutRefusal) → IsOfLine e → AreRefused ls e → behind_lines 1 nothing ls ≡ Err e
line_again ls (Line number) kind h = bad_again ls number h
line_again ls (UnknownName number) kind h = unknown_again ls number h
line_again ls (Repeated number) kind h = repeated_again ls number h
line_again ls TooLong kind h = absurd kind
line_again ls (Missing field) kind h = absurd kind
line_again ls (Overlap first second) kind h = absurd kind
