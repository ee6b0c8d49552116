-- The laws of free ranges.
use Rattle.std.proofs.Common.{ℕ, List, get_or, ⊎_elim}
use Rattle.free_ranges.specs.Ranges.{IsWithin, Fits, Takes, Gives, AreTaken}

pub apart : (lengths : List ℕ) (first n other m : ℕ) → AreTaken (λ u. get_or lengths u 0) first n → Fits (λ u. get_or lengths u 0) m other → (k : ℕ) → IsWithin first n k → IsWithin other m k → ⊥
apart lengths first n other m are_taken fits k a b = are_taken k a (fits k b)

pub taken : (before after : List ℕ) (first n : ℕ) → Takes before after first n → AreTaken (λ u. get_or after u 0) first n
taken before after first n takes k within free = takes.taken k free within

pub stays : (before after : List ℕ) (first n other m : ℕ) → AreTaken (λ u. get_or before u 0) other m → Takes before after first n → AreTaken (λ u. get_or after u 0) other m
stays before after first n other m are_taken takes k within free = are_taken k within (takes.kept k free)

pub stays_beside : (before after : List ℕ) (first n other m : ℕ) → AreTaken (λ u. get_or before u 0) other m → Gives before after first n → ((k : ℕ) → IsWithin first n k → IsWithin other m k → ⊥) → AreTaken (λ u. get_or after u 0) other m
stays_beside before after first n other m are_taken gives beside k within free = ⊎_elim (λ a. beside k a within) (λ was. are_taken k within was) (gives.others k free)

pub given : (before after : List ℕ) (first n : ℕ) → Gives before after first n → Fits (λ u. get_or after u 0) n first
given before after first n gives k within = gives.given k within
