-- Lists of addresses of six bytes each, behind the first one.
use Rattle.std.proofs.Common.{◌≡◌, ℕ, zero, suc, ◌≤◌, ◌-◌, Bool, true, false, ◌&&◌, ◌||◌, ◌==◌, List, [], ◌∷◌, length, get_or, take, drop, refl, sym, ap, ◌∙◌, arith}
use Rattle.std.specs.Str.{bytes_eq}
use Rattle.owner_machine.specs.declared.rows.Driver.{Driver}
use Rattle.owner_machine.specs.State.{is_bound}
use Rattle.owner_machine.specs.Loans.{is_listed, destination, takes, wants}

take_all : (n : ℕ) (xs : List ℕ) → length xs ≤ n → take n xs ≡ xs
take_all zero [] less = refl
take_all zero (x ∷ xs) less = absurd (omega arith)
take_all (suc n) [] less = refl
take_all (suc n) (x ∷ xs) less = ap (λ ys. x ∷ ys) (take_all n xs (omega arith))

pub listed_rest : (to list : List ℕ) (n : ℕ) → n ≡ length list - 6 → 6 ≤ length list → bytes_eq (get_or list 0 0 ∷ get_or list 1 0 ∷ get_or list 2 0 ∷ get_or list 3 0 ∷ get_or list 4 0 ∷ get_or list 5 0 ∷ []) to ≡ false → is_listed to list ≡ is_listed to (take n (drop 6 list))
listed_rest to [] n same long other = absurd (omega arith)
listed_rest to (a ∷ []) n same long other = absurd (omega arith)
listed_rest to (a ∷ b ∷ []) n same long other = absurd (omega arith)
listed_rest to (a ∷ b ∷ c ∷ []) n same long other = absurd (omega arith)
listed_rest to (a ∷ b ∷ c ∷ d ∷ []) n same long other = absurd (omega arith)
listed_rest to (a ∷ b ∷ c ∷ d ∷ e ∷ []) n same long other = absurd (omega arith)
listed_rest to (a ∷ b ∷ c ∷ d ∷ e ∷ f ∷ rest) n same long other = ap (λ (t : Bool). t || is_listed to rest) other ∙ ap (is_listed to) (sym (take_all n rest (omega (arith, same))))

-- a driver of the adapter that is bound wants what its filter takes
pub wants_when : (a : ℕ) (bytes : List ℕ) (d : Driver) (list to : List ℕ) (r : Bool) → is_bound d.binding ≡ true → d.adapter.0 ≡ a → list ≡ d.list → to ≡ destination bytes → r ≡ takes d.filter list to → r ≡ wants a bytes d
wants_when a bytes d list to r bound own same_list same_to is =
    is
    ∙ ap (λ xs. takes d.filter xs to) same_list
    ∙ ap (λ xs. takes d.filter d.list xs) same_to
    ∙ sym (ap (λ (t : Bool). t && ((d.adapter.0 == a) && takes d.filter d.list (destination bytes))) bound ∙ ap (λ (t : Bool). t && takes d.filter d.list (destination bytes)) (same d.adapter.0 a own))
  where
    same : (m n : ℕ) → m ≡ n → (m == n) ≡ true
    same m n is = grind arith
