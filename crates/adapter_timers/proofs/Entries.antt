-- Entries whose numbers strictly rise: what stands at a number is what is found there.
use Rattle.std.proofs.Common.{◌≡◌, ℕ, Bool, true, false, ◌&&◌, ◌||◌, cond, T, List, [], ◌∷◌, Some, refl, sym, subst}
use Rattle.std.specs.List.{list_any}
use Rattle.std.specs.Option.{option_map_or}
use Rattle.std.specs.Ordering.{nat_cmp, eq_by_cmp, is_lt, is_eq}
use Rattle.std.specs.declared.cmp.Ordering.TheVariants.{Less, Equal, Greater}
use Rattle.std.specs.FinMap.{find, is_sorted, nat_cmp-IsAntisymmetric}
use Rattle.std.specs.FinMap.Entries.{below_all}

and_first : (a b : Bool) → T (a && b) → T a
and_first true b h = tt
and_first false b h = h

and_second : (a b : Bool) → T (a && b) → T b
and_second true b h = h
and_second false b h = absurd h

or_none : (a b : Bool) → b ≡ false → (a || b) ≡ a
or_none true b e = refl
or_none false b e = e

-- an entry at the number passes
abbrev pub stands : {X : Type 0} → (X → Bool) → ℕ → List (ℕ × X) → Bool
stands p q es = list_any (λ e. eq_by_cmp nat_cmp q e.0 && p e.1) es

absent : {X : Type 0} (p : X → Bool) (q : ℕ) (es : List (ℕ × X)) → T (below_all nat_cmp q es) → stands p q es ≡ false
absent p q [] h = refl
absent p q (e ∷ es) h =
    elim (nat_cmp q e.0) as (λ o. T (is_lt o && below_all nat_cmp q es) → ((is_eq o && p e.1) || stands p q es) ≡ false) [
      | Less ↦ λ k. absent p q es k
      | Equal ↦ λ k. absurd k
      | Greater ↦ λ k. absurd k
    ] h

pub stands_is : {X : Type 0} (p : X → Bool) (q : ℕ) (es : List (ℕ × X)) → T (is_sorted nat_cmp es) → stands p q es ≡ option_map_or p (find nat_cmp q es) false
stands_is p q [] h = refl
stands_is p q (e ∷ es) h =
    let rest = and_second (below_all nat_cmp e.0 es) (is_sorted nat_cmp es) h in
    let above = and_first (below_all nat_cmp e.0 es) (is_sorted nat_cmp es) h in
    elim (nat_cmp q e.0) as (λ o. nat_cmp q e.0 ≡ o → ((is_eq o && p e.1) || stands p q es) ≡ option_map_or p (cond (is_eq o) (Some e.1) (find nat_cmp q es)) false) [
      | Less ↦ λ t. stands_is p q es rest
      | Equal ↦ λ t. or_none (p e.1) (stands p q es) (absent p q es (subst (λ k. T (below_all nat_cmp k es)) (sym (nat_cmp-IsAntisymmetric q e.0 t)) above))
      | Greater ↦ λ t. stands_is p q es rest
    ] refl
