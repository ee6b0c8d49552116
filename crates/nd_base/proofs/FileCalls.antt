-- One call on files or a sink after another: what two calls leave together.
use Rattle.std.proofs.Common.{◌≡◌, ℕ, ◌≤◌, ◌≢◌, List, [], Bool, true, false, cond, Option, Some, IsTrue, refl, sym, ◌∙◌, ap, subst, inl, inr, arith}
use Rattle.std.specs.Option.{unwrap_or}
use Rattle.std.specs.Str.{bytes_eq}
use Rattle.std.specs.Ordering.{nat_cmp, eq_by_cmp, is_eq}
use Rattle.std.specs.Cmp.{tied_itself}
use Rattle.std.specs.Cmp.Lexicographic.{slice_cmp, nat_list_cmp_total, texts_ties, same_text}
use Rattle.std.specs.FinMap.{get, insert, get-insert, same_map, nat_cmp-IsAntisymmetric, slice_cmp-IsAntisymmetric}
use Rattle.nd_base.specs.Files.{Kept, bytes_at, Rose, OnlyReads, OnlyWrites}

module _ {S : Type 0} {read_faults write_faults : S → ℕ} {may_read may_write : S → List ℕ → Bool} where
  module _ {old mid new : S} where
    pub OnlyWrites-trans : OnlyWrites read_faults write_faults may_read may_write old mid → OnlyWrites read_faults write_faults may_read may_write mid new → OnlyWrites read_faults write_faults may_read may_write old new
    OnlyWrites-trans p q = record {
      later = omega (arith, p.later, q.later);
      same_read_faults = q.same_read_faults ∙ p.same_read_faults;
      same_readable = q.same_readable ∙ p.same_readable;
      same_writable = q.same_writable ∙ p.same_writable;
    }

  module _ {old new : S} where
    -- a name that may be read or written stays so
    pub readable-writes : OnlyWrites read_faults write_faults may_read may_write old new → (name : List ℕ) → IsTrue (may_read old name) → IsTrue (may_read new name)
    readable-writes p name h = subst (λ (may : List ℕ → Bool). IsTrue (may name)) (sym p.same_readable) h

    pub writable-writes : OnlyWrites read_faults write_faults may_read may_write old new → (name : List ℕ) → IsTrue (may_write old name) → IsTrue (may_write new name)
    writable-writes p name h = subst (λ (may : List ℕ → Bool). IsTrue (may name)) (sym p.same_writable) h

  module _ {kept : S → Option Kept} where
    pub OnlyReads-trans : {old mid new : S} → OnlyReads kept read_faults write_faults may_read may_write old mid → OnlyReads kept read_faults write_faults may_read may_write mid new → OnlyReads kept read_faults write_faults may_read may_write old new
    OnlyReads-trans p q = record {
      later = omega (arith, p.later, q.later);
      same_files = q.same_files ∙ p.same_files;
      same_write_faults = q.same_write_faults ∙ p.same_write_faults;
      same_readable = q.same_readable ∙ p.same_readable;
      same_writable = q.same_writable ∙ p.same_writable;
    }

    module _ {old new : S} where
      pub readable-reads : OnlyReads kept read_faults write_faults may_read may_write old new → (name : List ℕ) → IsTrue (may_read old name) → IsTrue (may_read new name)
      readable-reads p name h = subst (λ (may : List ℕ → Bool). IsTrue (may name)) (sym p.same_readable) h

      pub writable-reads : OnlyReads kept read_faults write_faults may_read may_write old new → (name : List ℕ) → IsTrue (may_write old name) → IsTrue (may_write new name)
      writable-reads p name h = subst (λ (may : List ℕ → Bool). IsTrue (may name)) (sym p.same_writable) h

      -- what is told after a call that only looks is what was told before it
      pub told-reads : OnlyReads kept read_faults write_faults may_read may_write old new → (files : Option Kept) → kept old ≡ files → kept new ≡ files
      told-reads p files e = p.same_files ∙ e

-- a count that rose from a later one rose from an earlier one
pub Rose-earlier : {first : ℕ} (before now : ℕ) → first ≤ before → Rose before now → Rose first now
Rose-earlier before now le (inl lt) = inl (omega arith)
Rose-earlier before now le (inr e) = inr e

-- and has risen later too
pub Rose-later : (before mid now : ℕ) → before ≤ mid → mid ≤ now → Rose before mid → Rose before now
Rose-later before mid now low later (inl less) = inl (omega arith)
Rose-later before mid now low later (inr last) = grind arith

tied : (name : List ℕ) → eq_by_cmp (slice_cmp nat_cmp) name name ≡ true
tied name = ap is_eq (tied_itself nat_list_cmp_total name)

untied : (name other : List ℕ) → other ≢ name → eq_by_cmp (slice_cmp nat_cmp) other name ≡ false
untied name other apart =
    elim (bytes_eq other name) as (λ b. bytes_eq other name ≡ b → eq_by_cmp (slice_cmp nat_cmp) other name ≡ false) [
      | true ↦ λ e. absurd (apart (same_text other name (sym e)))
      | false ↦ λ e. sym (texts_ties other name) ∙ e
    ] refl

-- the bytes of a name that were just set
pub bytes_at-insert : (files : Kept) (name bytes : List ℕ) → bytes_at (insert files name bytes) name ≡ bytes
bytes_at-insert files name bytes = ap (λ (o : Option (List ℕ)). unwrap_or o []) (get-insert nat_list_cmp_total files name bytes name ∙ ap (λ b. cond b (Some bytes) (get files name)) (tied name))

-- the bytes of other names stay
pub bytes_at-insert_other : (files : Kept) (name other bytes : List ℕ) → other ≢ name → bytes_at (insert files name bytes) other ≡ bytes_at files other
bytes_at-insert_other files name other bytes apart =
    ap (λ (o : Option (List ℕ)). unwrap_or o []) (get-insert nat_list_cmp_total files name bytes other ∙ ap (λ b. cond b (Some bytes) (get files other)) (untied name other apart))

again : {A : Type 0} (b : Bool) (x y z : A) → cond b x (cond b y z) ≡ cond b x z
again true x y z = refl
again false x y z = refl

-- of two settings of one name the last counts
pub insert-insert : (files : Kept) (name first last : List ℕ) → insert (insert files name first) name last ≡ insert files name last
insert-insert files name first last =
    same_map nat_list_cmp_total (slice_cmp-IsAntisymmetric nat_cmp-IsAntisymmetric) _ _ (λ asked.
    get-insert nat_list_cmp_total (insert files name first) name last asked
    ∙ ap (cond (eq_by_cmp (slice_cmp nat_cmp) asked name) (Some last)) (get-insert nat_list_cmp_total files name first asked)
    ∙ again (eq_by_cmp (slice_cmp nat_cmp) asked name) (Some last) (Some first) (get files asked)
    ∙ sym (get-insert nat_list_cmp_total files name last asked))
