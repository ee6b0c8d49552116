-- All adapters, and all contexts, one after the other.
use Rattle.std.proofs.Common.{◌≡◌, ℕ, zero, suc, ◌+◌, ◌<◌, Bool, true, false, ◌&&◌, cond, List, [], ◌∷◌, length, drop, Ok, refl, sym, ap, ◌∙◌, arith}
use Rattle.std.specs.Prelude.{filter}
use Rattle.std.specs.List.{list_all}
use Rattle.nd_base.specs.declared.numbers.CtxNo.{CtxNo}
use Rattle.irql_lock.specs.LockState.{LockState}
use Rattle.irql_lock.specs.LockMoves as levels
use Rattle.guest_world.specs.declared.world.World.{World}
use Rattle.legal_run.specs.State.{all_contexts, numbers}
use Rattle.legal_run.specs.After.{all_ended, leveled, levels_behind}

pub all_true : {A : Type 0} (f : ℕ → Bool) (n : ℕ) (xs : List A) → ((i : ℕ) → i < length xs → f (n + i) ≡ true) → list_all f (numbers n xs) ≡ true
all_true f n [] h = refl
all_true f n (x ∷ xs) h =
    let first : f n ≡ true = ap f (omega arith) ∙ h 0 (omega arith) in
    let rest : list_all f (numbers (suc n) xs) ≡ true = all_true f (suc n) xs (λ i less. ap f (omega arith) ∙ h (suc i) (omega arith)) in
    rw (first, rest) refl

pub all_false : {A : Type 0} (f : ℕ → Bool) (n : ℕ) (xs : List A) (i : ℕ) → i < length xs → f (n + i) ≡ false → list_all f (numbers n xs) ≡ false
all_false f n [] i less h = absurd (omega arith)
all_false f n (x ∷ xs) zero less h = let first : f n ≡ false = ap f (omega arith) ∙ h in rw first refl
all_false f n (x ∷ xs) (suc i) less h = other (f n) _ (all_false f (suc n) xs i (omega arith) (ap f (omega arith) ∙ h))
  where
    other : (x y : Bool) → y ≡ false → (x && y) ≡ false
    other true y h = h
    other false y h = refl

-- the context of that number is the next of all
pub next_context : (n : ℕ) → n < 16 → drop n all_contexts ≡ n ∷ drop (suc n) all_contexts
next_context zero h = refl
next_context (suc zero) h = refl
next_context (suc (suc zero)) h = refl
next_context (suc (suc (suc zero))) h = refl
next_context (suc (suc (suc (suc zero)))) h = refl
next_context (suc (suc (suc (suc (suc zero))))) h = refl
next_context (suc (suc (suc (suc (suc (suc zero)))))) h = refl
next_context (suc (suc (suc (suc (suc (suc (suc zero))))))) h = refl
next_context (suc (suc (suc (suc (suc (suc (suc (suc zero)))))))) h = refl
next_context (suc (suc (suc (suc (suc (suc (suc (suc (suc zero))))))))) h = refl
next_context (suc (suc (suc (suc (suc (suc (suc (suc (suc (suc zero)))))))))) h = refl
next_context (suc (suc (suc (suc (suc (suc (suc (suc (suc (suc (suc zero))))))))))) h = refl
next_context (suc (suc (suc (suc (suc (suc (suc (suc (suc (suc (suc (suc zero)))))))))))) h = refl
next_context (suc (suc (suc (suc (suc (suc (suc (suc (suc (suc (suc (suc (suc zero))))))))))))) h = refl
next_context (suc (suc (suc (suc (suc (suc (suc (suc (suc (suc (suc (suc (suc (suc zero)))))))))))))) h = refl
next_context (suc (suc (suc (suc (suc (suc (suc (suc (suc (suc (suc (suc (suc (suc (suc zero))))))))))))))) h = refl
next_context (suc (suc (suc (suc (suc (suc (suc (suc (suc (suc (suc (suc (suc (suc (suc (suc n)))))))))))))))) h = absurd (omega arith)

pub ends_one : (f : ℕ → Bool) (w : World) (n : ℕ) → n < 16 → f n ≡ true → all_ended w (filter f (drop n all_contexts)) ≡ all_ended (leveled w (levels.End (record { 0 = n }))) (filter f (drop (n + 1) all_contexts))
unfolding all_ended
ends_one f w n less ends =
    let next : suc n ≡ n + 1 = omega arith in
    let more : drop n all_contexts ≡ n ∷ drop (n + 1) all_contexts = next_context n less ∙ ap (λ (k : ℕ). n ∷ drop k all_contexts) next in
    ap (λ (xs : List ℕ). all_ended w (filter f xs)) more ∙ ap (λ b. all_ended w (cond b (n ∷ filter f (drop (n + 1) all_contexts)) (filter f (drop (n + 1) all_contexts)))) ends

pub ends_none : (f : ℕ → Bool) (w : World) (n : ℕ) → n < 16 → f n ≡ false → all_ended w (filter f (drop n all_contexts)) ≡ all_ended w (filter f (drop (n + 1) all_contexts))
ends_none f w n less stays =
    let next : suc n ≡ n + 1 = omega arith in
    let more : drop n all_contexts ≡ n ∷ drop (n + 1) all_contexts = next_context n less ∙ ap (λ (k : ℕ). n ∷ drop k all_contexts) next in
    ap (λ (xs : List ℕ). all_ended w (filter f xs)) more ∙ ap (λ b. all_ended w (cond b (n ∷ filter f (drop (n + 1) all_contexts)) (filter f (drop (n + 1) all_contexts)))) stays

pub ends_all : (f : ℕ → Bool) (w : World) (n : ℕ) → n ≡ 16 → all_ended w (filter f (drop n all_contexts)) ≡ w
unfolding all_ended
ends_all f w n all = ap (λ k. all_ended w (filter f (drop k all_contexts))) all

-- a context that ends leaves these levels
pub ended_levels : (w : World) (x : CtxNo) (l : LockState) → levels.moved w.levels (levels.End x) ≡ Ok l → record w { levels = l } ≡ leveled w (levels.End x)
ended_levels w x l h = ap (λ (k : LockState). record w { levels = k }) (sym (ap (levels_behind w.levels) h))
