-- Sections that an INF file names more than once (Windows Driver Kit, "INF AddReg Directive", "INF Manufacturer Section"). The words for
-- keys that are put into a set one after the other are indexmap's.
use Rattle.std.specs.Prelude.{ℕ, nat_eq, ◌==◌, List, [], ◌++◌, length, reverse, if◌then◌else◌}
use Rattle.indexmap.specs.IndexSet.{insert_all}

-- each place once, where it stands first
abbrev pub once : List ℕ → List ℕ
once places = insert_all nat_eq [] places

-- where places come again, each as it stands first, and behind them each as it stands last
abbrev pub thinned : List ℕ → List ℕ
thinned places = if length (once places) == length places then places else once places ++ reverse (once (reverse places))
