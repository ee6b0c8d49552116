-- What holds of each row of the table.
use Rattle.std.proofs.Common.{◌≡◌, ℕ, ◌≤◌, Bool, true, false, cond, List, [], ◌∷◌, Option, Some, refl, sym, ap, ◌∙◌}
use Rattle.std.specs.Prelude.{◌==◌, nat_le}
use Rattle.std.specs.Str.{bytes_eq}
use Rattle.std.proofs.lemmas.Bool.{eqb-true, leb-true}
use Rattle.std.proofs.lemmas.Option.{none-some, same_Some}
use Rattle.std.proofs.lemmas.Slice.Eq.{bytes_eq-Decides}
use Rattle.log_fields.specs.Codes.{find}
use Rattle.log_fields.specs.Names.{import_name, import_names, imports_all, NamesAreFound}
use Rattle.log_fields.specs.NameLaws.{import_range}
use Rattle.import_table.specs.Table.{rows, row_of, number_of}
use Rattle.import_table.specs.Laws.{TableLaws}
use Rattle.import_table.proofs.Counting.{all_from, passes}

-- ---- names

named_at : (k n : ℕ) (rest : Option ℕ) (bytes : List ℕ) (t : Bool) → bytes_eq (import_name k) bytes ≡ t → cond t (Some k) rest ≡ Some n → (rest ≡ Some n → import_name n ≡ bytes) → import_name n ≡ bytes
named_at k n rest bytes true e h more = ap import_name (sym (same_Some k n h)) ∙ (bytes_eq-Decides (import_name k) bytes).0 e
named_at k n rest bytes false e h more = more h

named_in : (ks : List ℕ) (n : ℕ) (bytes : List ℕ) → find import_name ks bytes ≡ Some n → import_name n ≡ bytes
named_in [] n bytes h = absurd (none-some n h)
named_in (k ∷ ks) n bytes h = named_at k n (find import_name ks bytes) bytes (bytes_eq (import_name k) bytes) refl h (named_in ks n bytes)

-- what is found has the name
pub name_of_number : (n : ℕ) (name : List ℕ) → number_of name ≡ Some n → import_name n ≡ name
unfolding number_of
name_of_number n name h = named_in imports_all n name h

pub number_range : (n : ℕ) (name : List ℕ) → number_of name ≡ Some n → (1 ≤ n) × (n ≤ 64)
unfolding number_of
number_range n name h = import_range n name h

pub number_of_name : NamesAreFound → (n : ℕ) → 1 ≤ n → n ≤ 64 → number_of (import_name n) ≡ Some n
unfolding number_of
number_of_name names n low high = names.imports n low high

-- ---- rows

abbrev has_number : ℕ → Bool
has_number n = (row_of n).import == n

numbers : all_from has_number 1 64 ≡ true
unfolding rows row_of
numbers = refl

abbrev has_name : ℕ → Bool
has_name n = bytes_eq (row_of n).name (import_name n)

names_agree : all_from has_name 1 64 ≡ true
unfolding rows row_of import_name import_names
names_agree = refl

pub row_name : (n : ℕ) → 1 ≤ n → n ≤ 64 → (row_of n).name ≡ import_name n
row_name n low high = (bytes_eq-Decides (row_of n).name (import_name n)).0 (passes has_name n names_agree low high)

abbrev has_room : ℕ → Bool
has_room n = nat_le (row_of n).words 8

words : all_from has_room 1 64 ≡ true
unfolding rows row_of
words = refl

abbrev rises : ℕ → Bool
rises n = nat_le (row_of n).low (row_of n).high

levels : all_from rises 1 64 ≡ true
unfolding rows row_of
levels = refl

abbrev is_low : ℕ → Bool
is_low n = nat_le (row_of n).high 26

highest : all_from is_low 1 64 ≡ true
unfolding rows row_of
highest = refl

pub table_facts : NamesAreFound → TableLaws
table_facts names = record {
  number = λ n low high. eqb-true _ n (passes has_number n numbers low high);
  name = λ n low high. ap number_of (row_name n low high) ∙ number_of_name names n low high;
  from = λ n name h. (number_range n name h).0;
  to = λ n name h. (number_range n name h).1;
  found = λ n name h. row_name n (number_range n name h).0 (number_range n name h).1 ∙ name_of_number n name h;
  words = λ n low high. leb-true _ _ (passes has_room n words low high);
  levels = λ n low high. leb-true _ _ (passes rises n levels low high);
  highest = λ n low high. leb-true _ _ (passes is_low n highest low high);
}
