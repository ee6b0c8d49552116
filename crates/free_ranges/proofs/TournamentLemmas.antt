-- The nodes of a tournament: after a leaf is written and the way to the root is mended, and on the way from the root to a leaf that is not below a bound.
use Rattle.std.proofs.Common.{◌≡◌, ◌≢◌, ℕ, zero, suc, ◌+◌, ◌-◌, ◌*◌, ◌/◌, ◌^◌, ◌<◌, ◌≤◌, max, List, length, get_or, set, drop, replicate, None, Some, sym, ap, ◌∙◌, subst, ⊎_elim, arith, length-set}
use Rattle.std.proofs.Math.Nat.{pow-suc, mul-le-mul_left}
use Rattle.std.proofs.lemmas.Bool.{cases_lt}
use Rattle.std.proofs.lemmas.List.{get_or-set_same, get_or-set_other, get_or-drop, get_or_past, get_or-replicate, length-replicate, length-drop, drop-replicate, drop-set-add, drop-set-lt}
use Rattle.free_ranges.specs.Tournament.{IsTournament, IsTournamentBut, IsNotBelow, IsFirstNotBelow}

-- a node has the greater number of its two children
abbrev pub Wins : List ℕ → ℕ → Type 0
Wins nodes n = get_or nodes n 0 ≡ max (get_or nodes (2 * n) 0) (get_or nodes (2 * n + 1) 0)

still : (nodes : List ℕ) (i x n : ℕ) → n ≢ i → 2 * n ≢ i → 2 * n + 1 ≢ i → Wins nodes n → Wins (set nodes i x) n
still nodes i x n p q r wins =
    let a : get_or (set nodes i x) n 0 ≡ get_or nodes n 0 = get_or-set_other nodes i n x 0 p in
    let b : get_or (set nodes i x) (2 * n) 0 ≡ get_or nodes (2 * n) 0 = get_or-set_other nodes i (2 * n) x 0 q in
    let c : get_or (set nodes i x) (2 * n + 1) 0 ≡ get_or nodes (2 * n + 1) 0 = get_or-set_other nodes i (2 * n + 1) x 0 r in
    a ∙ wins ∙ sym (ap (λ y. max y (get_or (set nodes i x) (2 * n + 1) 0)) b ∙ ap (λ y. max (get_or nodes (2 * n) 0) y) c)

-- ---- the places at first
zeros : (n i : ℕ) → get_or {A = ℕ} (replicate {A = ℕ} n 0) i 0 ≡ 0
zeros n i = ⊎_elim (λ less. get_or-replicate n i 0 0 less) (λ le. let size = length-replicate {A = ℕ} n 0 in get_or_past (replicate n 0) i 0 (omega (arith, size))) (cases_lt i n)

pub zero_nodes : (places : ℕ) → 1 ≤ places → places ≤ 2 ^ 30 → IsTournament places (replicate (2 * places) 0)
zero_nodes places some small = record {
  some = some;
  small = small;
  size = length-replicate {A = ℕ} (2 * places) 0;
  wins = λ n a b. let e = zeros (2 * places) n in let f = zeros (2 * places) (2 * n) in let g = zeros (2 * places) (2 * n + 1) in omega (arith, e, f, g);
}

pub zero_view : (places : ℕ) → drop {A = ℕ} places (replicate {A = ℕ} (2 * places) 0) ≡ replicate {A = ℕ} places 0
zero_view places = drop-replicate places (2 * places) 0 ∙ (let e : 2 * places - places ≡ places = omega arith in ap (λ n. replicate n 0) e)

-- ---- a place is read
pub read_place : (places : ℕ) (nodes : List ℕ) (place : ℕ) → get_or nodes (places + place) 0 ≡ get_or (drop places nodes) place 0
read_place places nodes place = sym (get_or-drop places nodes place 0)

pub read_past : (places : ℕ) (nodes : List ℕ) (place : ℕ) → length nodes ≡ 2 * places → places ≤ place → 0 ≡ get_or (drop places nodes) place 0
read_past places nodes place size past = let h = length-drop places nodes in sym (get_or_past (drop places nodes) place 0 (omega (arith, h)))

-- ---- a place is written
pub leaf_set : (places : ℕ) (nodes : List ℕ) (place x : ℕ) → IsTournament places nodes → place < places → IsTournamentBut places (set nodes (places + place) x) ((places + place) / 2)
leaf_set places nodes place x is less = record {
  some = is.some;
  small = is.small;
  size = length-set nodes (places + place) x ∙ is.size;
  wins = λ n some inner not. still nodes (places + place) x n (omega arith) (omega arith) (omega arith) (is.wins n some inner);
}

module _ (places : ℕ) (nodes : List ℕ) (hole x : ℕ) (x_is : x ≡ max (get_or nodes (2 * hole) 0) (get_or nodes (2 * hole + 1) 0)) (is : IsTournamentBut places nodes hole) (some_hole : 1 ≤ hole) (inner_hole : hole < places) where
  away : (n : ℕ) → 1 ≤ n → n < places → n ≢ hole / 2 → n ≢ hole → Wins (set nodes hole x) n
  away n some_n inner_n not not_here = still nodes hole x n not_here (omega arith) (omega arith) (is.wins n some_n inner_n not_here)

  here : Wins (set nodes hole x) hole
  here =
      let size = is.size in
      let b : get_or (set nodes hole x) (2 * hole) 0 ≡ get_or nodes (2 * hole) 0 = get_or-set_other nodes hole (2 * hole) x 0 (omega arith) in
      let c : get_or (set nodes hole x) (2 * hole + 1) 0 ≡ get_or nodes (2 * hole + 1) 0 = get_or-set_other nodes hole (2 * hole + 1) x 0 (omega arith) in
      get_or-set_same nodes hole x 0 (omega (arith, size)) ∙ x_is
      ∙ sym (ap (λ y. max y (get_or (set nodes hole x) (2 * hole + 1) 0)) b ∙ ap (λ y. max (get_or nodes (2 * hole) 0) y) c)

  at : (n : ℕ) → n ≡ hole → Wins (set nodes hole x) n
  at n e = subst (Wins (set nodes hole x)) (sym e) here

  pub node_set : IsTournamentBut places (set nodes hole x) (hole / 2)
  node_set = record {
    some = is.some;
    small = is.small;
    size = length-set nodes hole x ∙ is.size;
    wins = λ n some_n inner_n not. ⊎_elim (λ less. away n some_n inner_n not (omega arith)) (λ le. ⊎_elim (λ less. away n some_n inner_n not (omega arith)) (λ ge. at n (omega arith)) (cases_lt hole n)) (cases_lt n hole);
  }

pub mended : (places : ℕ) (nodes : List ℕ) (hole : ℕ) → hole ≡ 0 → IsTournamentBut places nodes hole → IsTournament places nodes
mended places nodes hole e is = record { some = is.some; small = is.small; size = is.size; wins = λ n some inner. is.wins n some inner (omega arith) }

-- what the places have after a write
pub leaf_view : (places : ℕ) (nodes : List ℕ) (place x : ℕ) → drop places (set nodes (places + place) x) ≡ set (drop places nodes) place x
leaf_view places nodes place x = drop-set-add places nodes place x

pub node_view : (places : ℕ) (nodes : List ℕ) (n x : ℕ) → n < places → drop places (set nodes n x) ≡ drop places nodes
node_view places nodes n x less = drop-set-lt places nodes n x less

-- ---- on the way down
module _ (places : ℕ) (nodes : List ℕ) (is : IsTournament places nodes) where
  below_parent : (n : ℕ) → 2 ≤ n → n < 2 * places → get_or nodes n 0 ≤ get_or nodes (n / 2) 0
  below_parent n some less =
      let wins = is.wins (n / 2) (omega arith) (omega arith) in
      ⊎_elim (λ even. let e : 2 * (n / 2) ≡ n = omega arith in let same : get_or nodes (2 * (n / 2)) 0 ≡ get_or nodes n 0 = ap (λ k. get_or nodes k 0) e in omega (arith, wins, same))
      (λ odd. let e : 2 * (n / 2) + 1 ≡ n = omega arith in let same : get_or nodes (2 * (n / 2) + 1) 0 ≡ get_or nodes n 0 = ap (λ k. get_or nodes k 0) e in omega (arith, wins, same)) (cases_lt n (2 * (n / 2) + 1))

  below_root : (fuel n : ℕ) → n ≤ fuel → 1 ≤ n → n < 2 * places → get_or nodes n 0 ≤ get_or nodes 1 0
  below_root zero n small some less = absurd (omega arith)
  below_root (suc fuel) n small some less = ⊎_elim (λ more. let up = below_parent n (omega arith) less in let rest = below_root fuel (n / 2) (omega arith) (omega arith) (omega arith) in omega (arith, up, rest))
      (λ one. let e : n ≡ 1 = omega arith in let same : get_or nodes n 0 ≡ get_or nodes 1 0 = ap (λ k. get_or nodes k 0) e in omega (arith, same)) (cases_lt 1 n)

  pub all_below : (bound : ℕ) → get_or nodes 1 0 < bound → IsNotBelow (drop places nodes) bound None
  all_below bound root place less =
      let size = is.size in
      let size_dropped = length-drop places nodes in
      let read = get_or-drop places nodes place 0 in
      let h = below_root (places + place) (places + place) (omega arith) (let some = is.some in omega arith) (omega arith) in omega (arith, read, h, root)

  -- where the left child is below the bound, the right one is not
  pub go_right : (bound node child : ℕ) → 1 ≤ node → node < places → bound ≤ get_or nodes node 0 → child ≡ 2 * node → get_or nodes child 0 < bound → bound ≤ get_or nodes (child + 1) 0
  go_right bound node child some less won e lost =
      let wins = is.wins node some less in
      let here : get_or nodes child 0 ≡ get_or nodes (2 * node) 0 = ap (λ k. get_or nodes k 0) e in
      let there : get_or nodes (child + 1) 0 ≡ get_or nodes (2 * node + 1) 0 = ap (λ k. get_or nodes (k + 1) 0) e in
      omega (arith, wins, here, there, won, lost)

  pub at_leaf : (bound node : ℕ) → places ≤ node → node < 2 * places → bound ≤ get_or nodes node 0 → IsNotBelow (drop places nodes) bound (Some (node - places))
  at_leaf bound node from to won =
      let size = is.size in
      let size_dropped = length-drop places nodes in
      let on : places + (node - places) ≡ node = omega arith in
      let read : get_or (drop places nodes) (node - places) 0 ≡ get_or nodes node 0 = get_or-drop places nodes (node - places) 0 ∙ ap (λ k. get_or nodes k 0) on in
      (omega (arith, size, size_dropped), omega (arith, read, won))

-- ---- the first leaf, where all leaves are equally deep

-- A node has so many leaves below it, its steps to them doubled that often. They are leaves, and each leaf in front of them is below the bound.
pub record HasPassed (places : ℕ) (nodes : List ℕ) (bound node : ℕ) : Type 0 where
  pub steps : ℕ
  pub from : places ≤ node * 2 ^ steps
  pub to : (node + 1) * 2 ^ steps ≤ 2 * places
  pub passed : (leaf : ℕ) → places ≤ leaf → leaf < node * 2 ^ steps → get_or nodes leaf 0 < bound

some_power : (e : ℕ) → 1 ≤ 2 ^ e
some_power zero = omega arith
some_power (suc e) = let h = some_power e in let p = pow-suc 2 e in omega (arith, h, p)

pub at_root : (places k bound : ℕ) (nodes : List ℕ) → places ≡ 2 ^ k → HasPassed places nodes bound 1
at_root places k bound nodes e = record { steps = k; from = omega (arith, e); to = omega (arith, e); passed = λ leaf from to. absurd (omega (arith, e, from, to)) }

-- no leaf in front of one that was reached
pub at_end : (places bound node : ℕ) (nodes : List ℕ) → HasPassed places nodes bound node → (leaf : ℕ) → places ≤ leaf → leaf < node → get_or nodes leaf 0 < bound
at_end places bound node nodes has leaf from less = has.passed leaf from (let some = some_power has.steps in let h = mul-le-mul_left node some in omega (arith, h, less))

module _ (places : ℕ) (nodes : List ℕ) (is : IsTournament places nodes) where
  -- the leaves below a node are not above it
  below_node : (e n leaf : ℕ) → 1 ≤ n → n * 2 ^ e ≤ leaf → leaf < (n + 1) * 2 ^ e → leaf < 2 * places → get_or nodes leaf 0 ≤ get_or nodes n 0
  below_node zero n leaf some from to less = let e : leaf ≡ n = omega arith in let same : get_or nodes leaf 0 ≡ get_or nodes n 0 = ap (λ k. get_or nodes k 0) e in omega (arith, same)
  below_node (suc e) n leaf some from to less =
      let p = pow-suc 2 e in
      let from_half : n * (2 ^ e * 2) ≤ leaf = subst (λ (q : ℕ). n * q ≤ leaf) p from in
      let to_half : leaf < (n + 1) * (2 ^ e * 2) = subst (λ (q : ℕ). leaf < (n + 1) * q) p to in
      let up = below_parent places nodes is leaf (halves n leaf (2 ^ e) some (some_power e) from_half) less in
      let rest = below_node e n (leaf / 2) some (omega (arith, from_half)) (omega (arith, to_half)) (omega (arith, less)) in
      omega (arith, up, rest)
    where
      halves : (n leaf power : ℕ) → 1 ≤ n → 1 ≤ power → n * (power * 2) ≤ leaf → 2 ≤ leaf
      halves n leaf power some some_p from = let h = mul-le-mul_left n some_p in omega (arith, h, some, from)

  -- one step down to the left passes no leaf
  pub step_left : (bound node child : ℕ) → node < places → child ≡ 2 * node → HasPassed places nodes bound node → HasPassed places nodes bound child
  step_left bound node child less child_is has = step has.steps has.from has.to has.passed
    where
      step : (e : ℕ) → places ≤ node * 2 ^ e → (node + 1) * 2 ^ e ≤ 2 * places → ((leaf : ℕ) → places ≤ leaf → leaf < node * 2 ^ e → get_or nodes leaf 0 < bound) → HasPassed places nodes bound child
      step zero from to passed = absurd (omega (arith, from, less))
      step (suc e) from to passed =
          let p = pow-suc 2 e in
          let from_half : places ≤ node * (2 ^ e * 2) = subst (λ (q : ℕ). places ≤ node * q) p from in
          let to_half : (node + 1) * (2 ^ e * 2) ≤ 2 * places = subst (λ (q : ℕ). (node + 1) * q ≤ 2 * places) p to in
          let same : child * 2 ^ e ≡ (2 * node) * 2 ^ e = ap (λ (n : ℕ). n * 2 ^ e) child_is in
          record {
            steps = e;
            from = omega (arith, from_half, same);
            to = omega (arith, to_half, same);
            passed = λ leaf a b. passed leaf a (subst (λ (q : ℕ). leaf < node * q) (sym p) (omega (arith, b, same)));
          }

  -- one step down to the right passes the leaves below the left child, which is below the bound
  pub step_right : (bound node child : ℕ) → 1 ≤ node → node < places → child ≡ 2 * node → get_or nodes child 0 < bound → HasPassed places nodes bound node → HasPassed places nodes bound (child + 1)
  step_right bound node child some less child_is lost has = step has.steps has.from has.to has.passed
    where
      step : (e : ℕ) → places ≤ node * 2 ^ e → (node + 1) * 2 ^ e ≤ 2 * places → ((leaf : ℕ) → places ≤ leaf → leaf < node * 2 ^ e → get_or nodes leaf 0 < bound) → HasPassed places nodes bound (child + 1)
      step zero from to passed = absurd (omega (arith, from, less))
      step (suc e) from to passed =
          let p = pow-suc 2 e in
          let from_half : places ≤ node * (2 ^ e * 2) = subst (λ (q : ℕ). places ≤ node * q) p from in
          let to_half : (node + 1) * (2 ^ e * 2) ≤ 2 * places = subst (λ (q : ℕ). (node + 1) * q ≤ 2 * places) p to in
          let same : child * 2 ^ e ≡ (2 * node) * 2 ^ e = ap (λ (n : ℕ). n * 2 ^ e) child_is in
          record {
            steps = e;
            from = omega (arith, from_half, same);
            to = omega (arith, to_half, same);
            passed = λ leaf a b. ⊎_elim (λ (old : leaf < node * (2 ^ e * 2)). passed leaf a (subst (λ (q : ℕ). leaf < node * q) (sym p) old))
                (λ new. let below = below_node e child leaf (omega arith) (omega (arith, new, same)) b (omega (arith, b, to_half, same)) in omega (arith, below, lost)) (cases_lt leaf (node * (2 ^ e * 2)));
          }

pub first_place : (places bound node : ℕ) (nodes : List ℕ) → length nodes ≡ 2 * places → places ≤ node → HasPassed places nodes bound node → IsFirstNotBelow (drop places nodes) bound (Some (node - places))
first_place places bound node nodes size from has before less =
    let read = get_or-drop places nodes before 0 in
    let h = at_end places bound node nodes has (places + before) (omega arith) (omega (arith, less, from)) in
    omega (arith, read, h)
