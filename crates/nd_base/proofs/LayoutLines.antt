-- Lines of a layout file, one after the other.
use Rattle.std.proofs.Common.{◌≡◌, ℕ, ◌+◌, true, false, eqb, List, [], ◌∷◌, length, Ok, Err, Some, None, refl, sym, ap, ◌∙◌, arith}
use Rattle.std.specs.Str.Lines.{lines}
use Rattle.std.proofs.lemmas.Bool.{eqb-true}
use Rattle.nd_base.specs.declared.layout.LayoutRefusal.{LayoutRefusal}
use Rattle.nd_base.specs.declared.layout.Offsets.{Offsets}
use Rattle.nd_base.specs.LayoutText.{line_content}
use Rattle.std.specs.Option.{is_some}
use Rattle.nd_base.specs.declared.layout.LayoutRefusal.TheVariants.{Overlap}
use Rattle.nd_base.specs.declared.layout_field.Field.{Field}
use Rattle.nd_base.specs.Layout.{row}
use Rattle.nd_base.specs.LayoutReading.{behind, behind_lines, shared_with, first_shared, overlap_of, pair_of}

pub one_more : (n : ℕ) (known next : Offsets) (bs line rest : List ℕ) → lines bs ≡ line ∷ lines rest → behind n known (line_content line) ≡ Ok next → behind_lines (n + 1) next (lines rest) ≡ behind_lines n known (lines bs)
unfolding behind_lines
one_more n known next bs line rest h k = sym (ap (behind_lines n known) h ∙ rw k refl)

pub stops : (n : ℕ) (known : Offsets) (e : LayoutRefusal) (bs line rest : List ℕ) → lines bs ≡ line ∷ lines rest → behind n known (line_content line) ≡ Err e → behind_lines n known (lines bs) ≡ Err e
unfolding behind_lines
stops n known e bs line rest h k = ap (behind_lines n known) h ∙ rw k refl

pub ends : (n : ℕ) (known : Offsets) (bs : List ℕ) → true ≡ eqb (length bs) 0 → behind_lines n known (lines bs) ≡ Ok known
unfolding behind_lines
ends n known [] h = refl
ends n known (b ∷ bs) h = let k : length (b ∷ bs) ≡ 0 = eqb-true _ _ (sym h) in absurd (omega arith)

pub pair_is : (o : List ℕ) (i j : ℕ) (a b : Field) → first_shared o ≡ Some i → shared_with o i ≡ Some j → a ≡ (row i).field → b ≡ (row j).field → Some (Overlap a b) ≡ overlap_of o (first_shared o)
pair_is o i j a b h k p q = rw (p, q) (sym (ap (overlap_of o) h ∙ ap (pair_of i) k))

pub some_is : (o : List ℕ) (i j : ℕ) → shared_with o i ≡ Some j → is_some (shared_with o i) ≡ true
some_is o i j h = ap is_some h

pub none_is : (o : List ℕ) (i : ℕ) → shared_with o i ≡ None → is_some (shared_with o i) ≡ false
none_is o i h = ap is_some h
