-- Names of sections, keys, hardware ids and parameters: texts that are compared without regard to the case of ASCII letters
-- (Windows Driver Kit, "General Syntax Rules for INF Files"). A text is the list of its UTF-16 units.
use Rattle.std.specs.Prelude.{◌≡◌, ℕ, ◌+◌, Bool, true, ◌&&◌, nat_le, List, map, if◌then◌else◌}
use Rattle.std.proofs.Common.{ap}
use Rattle.std.specs.Str.{bytes_eq}
use Rattle.std.specs.Cmp.{IsEquivalence, on_equiv}
use Rattle.std.specs.Cmp.Lexicographic.{bytes_decides, nat_list_eq_equiv}
use Rattle.std.specs.Hash as fed
use Rattle.std.specs.Hash.{HashWrites}

-- ASCII capitals are small letters
abbrev pub without_case : ℕ → ℕ
without_case unit = if nat_le 65 unit && nat_le unit 90 then unit + 32 else unit

unfoldable pub folded : List ℕ → List ℕ
folded text = map without_case text

-- two texts are equal without ASCII case
unfoldable pub is_same : List ℕ → List ℕ → Bool
is_same a b = bytes_eq (folded a) (folded b)

pub same_laws : IsEquivalence is_same
unfolding is_same
same_laws = on_equiv folded nat_list_eq_equiv

-- what a table's hasher is fed of a name
abbrev pub name_fed : List ℕ → HashWrites
name_fed name = fed.slice fed.u16 (folded name)

pub same_fed : (a b : List ℕ) → is_same a b ≡ true → name_fed a ≡ name_fed b
unfolding is_same
same_fed a b h = ap (fed.slice fed.u16) ((bytes_decides (folded a) (folded b)).0 h)
