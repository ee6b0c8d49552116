-- What each move leaves of the packets that are on loan, and of those that may be lent.
use Rattle.std.proofs.Common.{◌≡◌, ◌≢◌, ℕ, Bool, true, false, cond, not, ◌&&◌, Option, Some, None, is_some, refl, sym, ap, ◌∙◌, eqb, ltb, ne_eqb, eq-eqb, ltb-true, arith}
use Rattle.std.specs.Ordering.{nat_cmp, eq_by_cmp, is_eq}
use Rattle.std.specs.declared.cmp.Ordering.TheVariants.{Less, Equal, Greater}
use Rattle.std.specs.Cmp.{nat_cmp_total}
use Rattle.std.specs.FinMap.{FinMap, get, insert, remove, get-insert, get-remove}
use Rattle.std.proofs.lemmas.Bool.{and_parts}
use Rattle.packet_pool.specs.declared.states.Kind.{Kind}
use Rattle.packet_pool.specs.declared.states.Kind.TheVariants.{Packet}
use Rattle.packet_pool.specs.declared.states.Descriptor.{Descriptor}
use Rattle.packet_pool.specs.LiveSet.{LiveSet, pool_of, descriptor_at, is_of_kind, is_lent_in, is_out, is_lent}
use Rattle.packet_pool.specs.LiveMoves.{MakePool, FreePool, Allocate, Free, Lend, MakeBlock, FreeBlock, may, after, with_pool, pool_room, is_pool_of, is_place_of_pool, marked}
use Rattle.loan_facts.specs.Lent.{IsOnLoan, MayBeLent}

-- ---- keys of a finite map

tied : (less same : Bool) → (less ≡ true → same ≡ false) → is_eq (cond less Less (cond same Equal Greater)) ≡ same
tied true same h = sym (h refl)
tied false true h = refl
tied false false h = refl

ties : (q k : ℕ) → eq_by_cmp nat_cmp q k ≡ eqb q k
ties q k = tied (ltb q k) (eqb q k) (λ h. ne_eqb q k (λ e. omega (arith, ltb-true q k h)))

ties_not : (q k : ℕ) → q ≢ k → eq_by_cmp nat_cmp q k ≡ false
ties_not q k ne = ties q k ∙ ne_eqb q k ne

ties_self : (k : ℕ) → eq_by_cmp nat_cmp k k ≡ true
ties_self k = ties k k ∙ eq-eqb k k refl

insert_here : {X : Type 0} (m : FinMap nat_cmp X) (k : ℕ) (v : X) → get (insert m k v) k ≡ Some v
insert_here m k v = get-insert nat_cmp_total m k v k ∙ ap (λ b. cond b (Some v) (get m k)) (ties_self k)

insert_other : {X : Type 0} (m : FinMap nat_cmp X) (k : ℕ) (v : X) (q : ℕ) → q ≢ k → get (insert m k v) q ≡ get m q
insert_other m k v q ne = get-insert nat_cmp_total m k v q ∙ ap (λ b. cond b (Some v) (get m q)) (ties_not q k ne)

remove_other : {X : Type 0} (m : FinMap nat_cmp X) (k q : ℕ) → q ≢ k → get (remove m k) q ≡ get m q
remove_other m k q ne = get-remove nat_cmp_total m k q ∙ ap (λ b. cond b None (get m q)) (ties_not q k ne)

-- ---- what both depend on

pub on_loan_as : (p q : LiveSet) (d : ℕ) → descriptor_at q d ≡ descriptor_at p d → IsOnLoan p d → IsOnLoan q d
on_loan_as p q d is h = record { out = ap (is_of_kind Packet) is ∙ h.out; lent = ap is_lent_in is ∙ h.lent }

pub may_be_as : (p q : LiveSet) (d : ℕ) → descriptor_at q d ≡ descriptor_at p d → MayBeLent p d → MayBeLent q d
may_be_as p q d is h = record { out = ap (is_of_kind Packet) is ∙ h.out; kept = ap is_lent_in is ∙ h.kept }

-- one that is on loan is not one that may be lent
pub never_both : (p : LiveSet) (d e : ℕ) → IsOnLoan p d → MayBeLent p e → d ≢ e
never_both p d e on may same = let is : is_lent p e ≡ true = ap (is_lent p) (sym same) ∙ on.lent in let is_not = may.kept in absurd (cc)

-- ---- a packet is lent, or comes back

pub marked_other : (p : LiveSet) (a : ℕ) (lent : Bool) (d : ℕ) → d ≢ a → descriptor_at (marked p a lent (descriptor_at p a)) d ≡ descriptor_at p d
marked_other p a lent d ne = by_found (descriptor_at p a)
  where
    by_found : (o : Option Descriptor) → descriptor_at (marked p a lent o) d ≡ descriptor_at p d
    by_found None = refl
    by_found (Some found) = insert_other p.descriptors a (record found { lent = lent }) d ne

pub lent_now : (p : LiveSet) (d : ℕ) → is_out p Packet d ≡ true → IsOnLoan (after p (Lend d)) d
lent_now p d out = by_found (descriptor_at p d) out
  where
    by_found : (o : Option Descriptor) → is_of_kind Packet o ≡ true → IsOnLoan (marked p d true o) d
    by_found None h = absurd (cc)
    by_found (Some found) h =
        let here = insert_here p.descriptors d (record found { lent = true }) in
        record { out = ap (is_of_kind Packet) here ∙ h; lent = ap is_lent_in here }

-- ---- what the moves of a call leave: what is on loan stays so

pub record KeepsLoans (p q : LiveSet) : Type 0 where
  pub each : (d : ℕ) → IsOnLoan p d → IsOnLoan q d

pub unmoved : (p : LiveSet) → KeepsLoans p p
unmoved p = record { each = λ d h. h }

pub pool_made : (p : LiveSet) (kind : Kind) (n : ℕ) → KeepsLoans p (after p (MakePool kind n))
pool_made p kind n = by_room (pool_room p kind n)
  where
    by_room : (o : Option ℕ) → KeepsLoans p (with_pool p kind n o)
    by_room None = unmoved p
    by_room (Some first) = record { each = λ d h. record { out = h.out; lent = h.lent } }

pub pool_freed : (p : LiveSet) (handle : ℕ) → KeepsLoans p (after p (FreePool handle))
pool_freed p handle = record { each = λ d h. record { out = h.out; lent = h.lent } }

pub block_made : (p : LiveSet) (n a : ℕ) → KeepsLoans p (after p (MakeBlock n a))
block_made p n a = record { each = λ d h. record { out = h.out; lent = h.lent } }

pub block_freed : (p : LiveSet) (a : ℕ) → KeepsLoans p (after p (FreeBlock a))
block_freed p a = record { each = λ d h. record { out = h.out; lent = h.lent } }

-- a descriptor is taken only where none is out
out_is_some : (o : Option Descriptor) → is_of_kind Packet o ≡ true → not (is_some o) ≡ true → ⊥
out_is_some None h free = absurd (cc)
out_is_some (Some d) h free = absurd (cc)

taken_other : (p : LiveSet) (kind : Kind) (handle a d : ℕ) → may p (Allocate kind handle a) ≡ true → IsOnLoan p d → d ≢ a
taken_other p kind handle a d may_a h same =
    let place = (and_parts (is_pool_of kind (pool_of p handle)) (is_place_of_pool (pool_of p handle) a && not (is_some (descriptor_at p a))) may_a).1 in
    let free = (and_parts (is_place_of_pool (pool_of p handle) a) (not (is_some (descriptor_at p a))) place).1 in
    out_is_some (descriptor_at p a) (ap (is_out p Packet) (sym same) ∙ h.out) free

pub allocated : (p : LiveSet) (kind : Kind) (handle a : ℕ) → may p (Allocate kind handle a) ≡ true → KeepsLoans p (after p (Allocate kind handle a))
allocated p kind handle a may_a =
    record { each = λ d h. on_loan_as p (after p (Allocate kind handle a)) d (insert_other p.descriptors a (record { kind = kind; pool = handle; lent = false }) d (taken_other p kind handle a d may_a h)) h }

-- and none is freed that is on loan
lent_not : (b : Bool) → b ≡ true → not b ≡ true → ⊥
lent_not true h free = absurd (cc)
lent_not false h free = absurd (cc)

freed_other : (p : LiveSet) (kind : Kind) (a d : ℕ) → may p (Free kind a) ≡ true → IsOnLoan p d → d ≢ a
freed_other p kind a d may_a h same = lent_not (is_lent p a) (ap (is_lent p) (sym same) ∙ h.lent) (and_parts (is_out p kind a) (not (is_lent p a)) may_a).1

pub freed : (p : LiveSet) (kind : Kind) (a : ℕ) → may p (Free kind a) ≡ true → KeepsLoans p (after p (Free kind a))
freed p kind a may_a = record { each = λ d h. on_loan_as p (after p (Free kind a)) d (remove_other p.descriptors a d (freed_other p kind a d may_a h)) h }
