-- A header that is read is the header that was spelled, and what was spelled is read again.
use Rattle.std.proofs.Common.{◌≡◌, ℕ, ◌^◌, ◌<◌, ◌≤◌, Bool, true, false, cond, ltb, eqb, List, ◌++◌, length, take, drop, Option, Some, None, refl, sym, ap, subst, ◌∙◌, append_assoc, arith, inl, inr, ◌⊎◌, lit<}
use Rattle.std.proofs.lemmas.Bool.{ltb-false, le-ltb, eqb-true, eq-eqb}
use Rattle.std.proofs.lemmas.List.{drop_at, take-append-drop, length-append, length-take, length-drop, drop-drop}
use Rattle.frame_wire.specs.declared.order.Order.{Order}
use Rattle.frame_wire.specs.declared.order.Order.TheVariants.{Little, Big}
use Rattle.frame_wire.specs.Entries.{number, value, field, magic}
use Rattle.frame_wire.specs.Captures.{header}
use Rattle.frame_wire.specs.Reading.{order_of}
use Rattle.frame_wire.proofs.Numbers.{IsBytes, number_len, value_number, skip, at_field, piece}

pub header-append : (order : Order) (other : List ℕ) (link : ℕ) (rest : List ℕ) → header order other link ++ rest ≡ number order magic ++ (other ++ (number order link ++ rest))
unfolding header
header-append order other link rest = simp append_assoc

pub header_len : (order : Order) (other : List ℕ) (link : ℕ) → length other ≡ 16 → length (header order other link) ≡ 24
unfolding header
header_len order other link len = omega (arith, len, length-append (number order magic) (other ++ number order link), length-append other (number order link), number_len order magic, number_len order link)

abbrev picks : Bool → Bool → Bool → Option Order
picks short little big = cond short None (cond little (Some Little) (cond big (Some Big) None))

order_is : (s : List ℕ) (a b c : Bool) → ltb (length s) 24 ≡ a → eqb (value Little (field 0 s)) magic ≡ b → eqb (value Big (field 0 s)) magic ≡ c → order_of s ≡ picks a b c
order_is s a b c p q r =
    ap (λ (x : Bool). picks x (eqb (value Little (field 0 s)) magic) (eqb (value Big (field 0 s)) magic)) p ∙ ap (λ (x : Bool). picks a x (eqb (value Big (field 0 s)) magic)) q ∙ ap (picks a b) r

pub order_again : (order : Order) (s rest : List ℕ) → 24 ≤ length s → s ≡ number order magic ++ rest → order_of s ≡ Some order
order_again Little s rest long is =
    let v : value Little (field 0 s) ≡ magic = ap (value Little) (at_field 0 s (number Little magic) rest refl is) ∙ value_number Little magic (lit< tt) in
    order_is s false true (eqb (value Big (field 0 s)) magic) (le-ltb _ _ long) (eq-eqb _ _ v) refl
order_again Big s rest long is =
    let f : field 0 s ≡ number Big magic = at_field 0 s (number Big magic) rest refl is in
    let v : value Big (field 0 s) ≡ magic = ap (value Big) f ∙ value_number Big magic (lit< tt) in
    let other : value Little (field 0 s) ≡ 0xd4c3b2a1 = ap (value Little) f in
    order_is s false false true (le-ltb _ _ long) (ap (λ (n : ℕ). eqb n magic) other) (eq-eqb _ _ v)

picked : (order : Order) (a b c : Bool) → picks a b c ≡ Some order → (a ≡ false) × (((b ≡ true) × (order ≡ Little)) ⊎ ((c ≡ true) × (order ≡ Big)))
picked order true b c e = absurd cc
picked order false true c e = (refl, inl (refl, cc))
picked order false false true e = (refl, inr (refl, cc))
picked order false false false e = absurd cc

magic_is : (order : Order) (s : List ℕ) → IsBytes s → 24 ≤ length s → value order (field 0 s) ≡ magic → s ≡ number order magic ++ drop 4 s
magic_is order s fits long v = subst (λ (n : ℕ). s ≡ number order n ++ drop 4 s) v (piece order 0 s fits (omega arith))

pub order_found : (order : Order) (s : List ℕ) → IsBytes s → order_of s ≡ Some order → (24 ≤ length s) × (s ≡ number order magic ++ drop 4 s)
order_found order s fits e =
    let p = picked order (ltb (length s) 24) (eqb (value Little (field 0 s)) magic) (eqb (value Big (field 0 s)) magic) e in
    let long : 24 ≤ length s = ltb-false _ _ p.0 in
    elim p.1 [
      | inl l ↦ (long, subst (λ (o : Order). s ≡ number o magic ++ drop 4 s) (sym l.1) (magic_is Little s fits long (eqb-true _ _ l.0)))
      | inr b ↦ (long, subst (λ (o : Order). s ≡ number o magic ++ drop 4 s) (sym b.1) (magic_is Big s fits long (eqb-true _ _ b.0)))
    ]

pub record HasHeader (order : Order) (link : ℕ) (s rest : List ℕ) : Type 0 where
  pub order_is : order_of s ≡ Some order
  pub link_is : value order (field 20 s) ≡ link
  pub rest_is : drop 24 s ≡ rest

pub header_again : (order : Order) (other : List ℕ) (link : ℕ) (s rest : List ℕ) → length other ≡ 16 → link < 2 ^ 32 → s ≡ header order other link ++ rest → HasHeader order link s rest
header_again order other link s rest len lt is =
    let h0 : drop 0 s ≡ number order magic ++ (other ++ (number order link ++ rest)) = is ∙ header-append order other link rest in
    let h4 : drop 4 s ≡ other ++ (number order link ++ rest) = skip 0 s _ _ (number_len order magic) h0 in
    let h20 : drop 20 s ≡ number order link ++ rest = sym (drop-drop 16 4 s) ∙ ap (drop 16) h4 ∙ drop_at other (number order link ++ rest) 16 len in
    let long : 24 ≤ length s = omega (arith, ap length is, length-append (header order other link) rest, header_len order other link len) in
    record { order_is = order_again order s (other ++ (number order link ++ rest)) long h0; link_is = ap (value order) (at_field 20 s _ _ (number_len order link) h20) ∙ value_number order link lt; rest_is = skip 20 s _ _ (number_len order link) h20 }

pub header_parts : (order : Order) (s : List ℕ) → IsBytes s → 24 ≤ length s → s ≡ number order magic ++ drop 4 s → s ≡ header order (take 16 (drop 4 s)) (value order (field 20 s)) ++ drop 24 s
header_parts order s fits long is =
    let link = value order (field 20 s) in
    let p4 : drop 4 s ≡ take 16 (drop 4 s) ++ drop 20 s = sym (take-append-drop 16 (drop 4 s)) ∙ ap (λ (x : List ℕ). take 16 (drop 4 s) ++ x) (drop-drop 16 4 s) in
    let q4 = p4 ∙ ap (λ (x : List ℕ). take 16 (drop 4 s) ++ x) (piece order 20 s fits long) in
    is ∙ ap (λ (x : List ℕ). number order magic ++ x) q4 ∙ sym (header-append order (take 16 (drop 4 s)) link (drop 24 s))

pub other_len : (s : List ℕ) → 24 ≤ length s → length (take 16 (drop 4 s)) ≡ 16
other_len s long = omega (arith, length-take 16 (drop 4 s), length-drop 4 s)
