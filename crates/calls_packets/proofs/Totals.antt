-- The counts of a chain, summed buffer by buffer.
use Rattle.std.proofs.Common.{◌≡◌, ◌<◌, ℕ, zero, suc, ◌+◌, Bool, true, false, ◌&&◌, Option, None, Some, if◌then◌else◌, refl, sym, ap, ◌∙◌, arith, add-zero}
use Rattle.std.specs.Option.{option_map}
use Rattle.nd_base.specs.declared.layout_field.Field.TheVariants.{BufferCount, BufferNext}
use Rattle.guest_world.specs.declared.world.World.{World}
use Rattle.import_answers.specs.Descriptors.{can_read_field, count_of, next_of, total_from}

abbrev readable : World → ℕ → Bool
readable w b = can_read_field w BufferCount b && can_read_field w BufferNext b

abbrev pub Left : World → ℕ → ℕ → ℕ → ℕ → Type 0
Left w first total buffer n = total_from w first 64 ≡ option_map (λ more. total + more) (total_from w buffer n)

total_nil : (w : World) (n : ℕ) → total_from w 0 n ≡ Some 0
unfolding total_from
total_nil w n = refl

total_none : (w : World) (b : ℕ) → 0 < b → total_from w b 0 ≡ None
unfolding total_from
total_none w zero h = absurd (omega arith)
total_none w (suc b) h = refl

total_more : (w : World) (b n : ℕ) → 0 < b → total_from w b (suc n) ≡ (if readable w b then option_map (λ more. count_of w b + more) (total_from w (next_of w b) n) else None)
unfolding total_from
total_more w zero n h = absurd (omega arith)
total_more w (suc b) n h = refl

-- what was found by a test
taken : {A : Type 0} (b : Bool) (x y : A) → (if b then Some x else None) ≡ Some y → (b ≡ true) × (x ≡ y)
taken true x y e = (refl, cc)
taken false x y e = absurd (cc)

not_taken : {A : Type 0} (b : Bool) (x : A) → (if b then Some x else None) ≡ None → b ≡ false
not_taken true x e = absurd (cc)
not_taken false x e = refl

added : (total count : ℕ) (o : Option ℕ) → option_map (λ more. total + more) (option_map (λ more. count + more) o) ≡ option_map (λ more. total + count + more) o
added total count None = refl
added total count (Some more) = ap Some (omega arith)

-- the chain ends
pub ends_here : (w : World) (first total buffer n : ℕ) → Left w first total buffer n → buffer ≡ 0 → Some total ≡ total_from w first 64
ends_here w first total buffer n left end =
    sym (left ∙ (ap (λ b. option_map (λ more. total + more) (total_from w b n)) end ∙ (ap (option_map (λ more. total + more)) (total_nil w n) ∙ ap Some (add-zero total))))

-- there are too many buffers
pub too_many : (w : World) (first total buffer n : ℕ) → Left w first total buffer n → n ≡ 0 → 0 < buffer → None ≡ total_from w first 64
too_many w first total buffer n left none some =
    sym (left ∙ (ap (λ n. option_map (λ more. total + more) (total_from w buffer n)) none ∙ ap (option_map (λ more. total + more)) (total_none w buffer some)))

-- a buffer can't be read
pub stops_here : (w : World) (first total buffer n m : ℕ) → Left w first total buffer n → n ≡ suc m → 0 < buffer → if◌then◌else◌ {A = Option (ℕ × ℕ)} (readable w buffer) (Some (count_of w buffer, next_of w buffer)) None ≡ None → None ≡ total_from w first 64
stops_here w first total buffer n m left more some unread =
    let no = let pair : ℕ × ℕ = (count_of w buffer, next_of w buffer) in not_taken (readable w buffer) pair unread in
    let none : total_from w buffer (suc m) ≡ None = total_more w buffer m some ∙ ap (λ b. if b then option_map (λ more. count_of w buffer + more) (total_from w (next_of w buffer) m) else None) no in
    sym (left ∙ (ap (λ n. option_map (λ more. total + more) (total_from w buffer n)) more ∙ ap (option_map (λ more. total + more)) none))

-- one buffer more
pub goes_on : (w : World) (first total buffer n m count next : ℕ) → Left w first total buffer n → n ≡ suc m → 0 < buffer → if◌then◌else◌ {A = Option (ℕ × ℕ)} (readable w buffer) (Some (count_of w buffer, next_of w buffer)) None ≡ Some (count, next) → Left w first (total + count) next m
goes_on w first total buffer n m count next left more some found =
    let yes = let pair : ℕ × ℕ = (count_of w buffer, next_of w buffer) in let given : ℕ × ℕ = (count, next) in taken (readable w buffer) pair given found in
    let is_count : count_of w buffer ≡ count = ap (λ (p : ℕ × ℕ). p.0) yes.1 in
    let is_next : next_of w buffer ≡ next = ap (λ (p : ℕ × ℕ). p.1) yes.1 in
    let step : total_from w buffer (suc m) ≡ option_map (λ more. count_of w buffer + more) (total_from w (next_of w buffer) m) =
    total_more w buffer m some ∙ ap (λ b. if b then option_map (λ more. count_of w buffer + more) (total_from w (next_of w buffer) m) else None) yes.0 in
    left ∙ (ap (λ n. option_map (λ more. total + more) (total_from w buffer n)) more
    ∙ (ap (option_map (λ more. total + more)) step
    ∙ (added total (count_of w buffer) (total_from w (next_of w buffer) m)
    ∙ (ap (λ c. option_map (λ more. total + c + more) (total_from w (next_of w buffer) m)) is_count ∙ ap (λ b. option_map (λ more. total + count + more) (total_from w b m)) is_next))))

-- of a chain that was summed, the first buffer's count was read
pub count_is_read : (w : World) (head total : ℕ) (x : ℕ) → 0 < head → total_from w head 64 ≡ Some total → (if can_read_field w BufferCount head then Some x else None) ≡ None → ⊥
count_is_read w head total x some is unread =
    let no = not_taken (can_read_field w BufferCount head) x unread in
    let none : total_from w head 64 ≡ None = total_more w head 63 some ∙ ap (λ b. if b && can_read_field w BufferNext head then option_map (λ more. count_of w head + more) (total_from w (next_of w head) 63) else None) no in
    none_some total (sym none ∙ is)
  where
    none_some : (x : ℕ) → None ≡ Some x → ⊥
    none_some x e = cc
