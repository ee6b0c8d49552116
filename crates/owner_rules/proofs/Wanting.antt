-- The holders of a frame, beside the drivers that want it.
use Rattle.std.proofs.Common.{◌≡◌, ℕ, zero, suc, ◌+◌, ◌≤◌, ◌<◌, Bool, true, false, ◌&&◌, ◌==◌, List, [], ◌∷◌, length, get_or, map, drop, drop-cons, refl, sym, ap, ◌∙◌, arith}
use Rattle.std.specs.Str.{bytes_eq}
use Rattle.nd_base.specs.declared.numbers.BindingNo.{BindingNo}
use Rattle.owner_machine.specs.declared.rows.Driver.{Driver}
use Rattle.owner_machine.specs.State.{numbers_from, in_front}

abbrev pub numbers : List BindingNo → List ℕ
numbers holders = map (λ h. h.0) holders

-- the holders from one on, beside the drivers from one on
abbrev pub are_same : (Driver → Bool) → (holders : List BindingNo) → (drivers : List Driver) → (named b : ℕ) → Bool
are_same wanted holders drivers named b = bytes_eq (numbers (drop named holders)) (numbers_from b wanted (drop b drivers))

front : (wanted : Driver → Bool) (drivers : List Driver) (b : ℕ) (d : Driver) → b < length drivers → d ≡ get_or drivers b d → drop b drivers ≡ d ∷ drop (suc b) drivers
front wanted drivers b d less is = drop-cons drivers b d less ∙ ap (λ x. x ∷ drop (suc b) drivers) (sym is)

numbered : (wanted : Driver → Bool) (drivers : List Driver) (b : ℕ) (d : Driver) (t : Bool) → b < length drivers → d ≡ get_or drivers b d → wanted d ≡ t → numbers_from b wanted (drop b drivers) ≡ in_front t b (numbers_from (suc b) wanted (drop (suc b) drivers))
numbered wanted drivers b d t less is want = ap (λ ds. numbers_from b wanted ds) (front wanted drivers b d less is) ∙ ap (λ (u : Bool). in_front u b (numbers_from (suc b) wanted (drop (suc b) drivers))) want

next_number : (b : ℕ) → b + 1 ≡ suc b
next_number b = omega arith

-- a driver that does not want the frame
pub passed_over : (wanted : Driver → Bool) (holders : List BindingNo) (drivers : List Driver) (named b : ℕ) (d : Driver) → b < length drivers → d ≡ get_or drivers b d → wanted d ≡ false → are_same wanted holders drivers named b ≡ are_same wanted holders drivers named (b + 1)
passed_over wanted holders drivers named b d less is want = ap (λ ns. bytes_eq (numbers (drop named holders)) ns) (numbered wanted drivers b d false less is want) ∙ ap (λ (m : ℕ). are_same wanted holders drivers named m) (sym (next_number b))

holder_first : (holders : List BindingNo) (named : ℕ) (h : BindingNo) → named < length holders → h ≡ get_or holders named h → numbers (drop named holders) ≡ h.0 ∷ numbers (drop (suc named) holders)
holder_first holders named h less is = ap numbers (drop-cons holders named h less ∙ ap (λ x. x ∷ drop (suc named) holders) (sym is))

-- one that does, and is the next holder
pub named_next : (wanted : Driver → Bool) (holders : List BindingNo) (drivers : List Driver) (named b : ℕ) (d : Driver) (h : BindingNo) → b < length drivers → d ≡ get_or drivers b d → wanted d ≡ true → named < length holders → h ≡ get_or holders named h → h.0 ≡ b → are_same wanted holders drivers named b ≡ are_same wanted holders drivers (named + 1) (b + 1)
named_next wanted holders drivers named b d h less is want less_named held same =
    ap (λ ns. bytes_eq (numbers (drop named holders)) ns) (numbered wanted drivers b d true less is want)
    ∙ ap (λ ms. bytes_eq ms (b ∷ numbers_from (suc b) wanted (drop (suc b) drivers))) (holder_first holders named h less_named held)
    ∙ ap (λ (t : Bool). t && bytes_eq (numbers (drop (suc named) holders)) (numbers_from (suc b) wanted (drop (suc b) drivers))) equal
    ∙ ap (λ (m : ℕ). bytes_eq (numbers (drop m holders)) (numbers_from (suc b) wanted (drop (suc b) drivers))) (sym (next_number named))
    ∙ ap (λ (m : ℕ). are_same wanted holders drivers (named + 1) m) (sym (next_number b))
  where
    equal : (h.0 == b) ≡ true
    equal = grind arith

-- one that does, and is another
pub named_other : (wanted : Driver → Bool) (holders : List BindingNo) (drivers : List Driver) (named b : ℕ) (d : Driver) (h : BindingNo) → b < length drivers → d ≡ get_or drivers b d → wanted d ≡ true → named < length holders → h ≡ get_or holders named h → (h.0 == b) ≡ false → are_same wanted holders drivers named b ≡ false
named_other wanted holders drivers named b d h less is want less_named held other =
    ap (λ ns. bytes_eq (numbers (drop named holders)) ns) (numbered wanted drivers b d true less is want)
    ∙ ap (λ ms. bytes_eq ms (b ∷ numbers_from (suc b) wanted (drop (suc b) drivers))) (holder_first holders named h less_named held)
    ∙ ap (λ (t : Bool). t && bytes_eq (numbers (drop (suc named) holders)) (numbers_from (suc b) wanted (drop (suc b) drivers))) other

none_left : (holders : List BindingNo) (named : ℕ) → length holders ≤ named → drop named holders ≡ []
none_left [] zero more = refl
none_left [] (suc named) more = refl
none_left (h ∷ holders) zero more = absurd (omega arith)
none_left (h ∷ holders) (suc named) more = none_left holders named (omega arith)

-- one that does, where no holder is left
pub named_none : (wanted : Driver → Bool) (holders : List BindingNo) (drivers : List Driver) (named b : ℕ) (d : Driver) → b < length drivers → d ≡ get_or drivers b d → wanted d ≡ true → length holders ≤ named → are_same wanted holders drivers named b ≡ false
named_none wanted holders drivers named b d less is want more =
    ap (λ ns. bytes_eq (numbers (drop named holders)) ns) (numbered wanted drivers b d true less is want)
    ∙ ap (λ hs. bytes_eq (numbers hs) (b ∷ numbers_from (suc b) wanted (drop (suc b) drivers))) (none_left holders named more)

no_drivers : (drivers : List Driver) (b : ℕ) → length drivers ≤ b → drop b drivers ≡ []
no_drivers [] zero more = refl
no_drivers [] (suc b) more = refl
no_drivers (d ∷ drivers) zero more = absurd (omega arith)
no_drivers (d ∷ drivers) (suc b) more = no_drivers drivers b (omega arith)

all_named : (holders : List BindingNo) (named : ℕ) → named ≤ length holders → bytes_eq (numbers (drop named holders)) [] ≡ (named == length holders)
all_named [] zero less = refl
all_named [] (suc named) less = absurd (omega arith)
all_named (h ∷ holders) zero less = let other : (0 == suc (length holders)) ≡ false = grind arith in sym other
all_named (h ∷ holders) (suc named) less = all_named holders named (omega arith) ∙ sym (suc_eq named (length holders))
  where
    suc_eq : (m n : ℕ) → (suc m == suc n) ≡ (m == n)
    suc_eq m n = grind arith

-- behind the last driver
pub named_all : (wanted : Driver → Bool) (holders : List BindingNo) (drivers : List Driver) (named b : ℕ) → length drivers ≤ b → named ≤ length holders → are_same wanted holders drivers named b ≡ (named == length holders)
named_all wanted holders drivers named b more less = ap (λ ds. bytes_eq (numbers (drop named holders)) (numbers_from b wanted ds)) (no_drivers drivers b more) ∙ all_named holders named less
