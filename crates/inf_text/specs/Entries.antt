-- How the table of an INF file holds its sections: the lines of each under its name.
use Rattle.std.specs.Prelude.{ℕ, List, map, Vec}
use Rattle.std.specs.declared.alloc.Global.{Global}
use Rattle.inf_text.specs.Sections.{Line, Section}

abbrev pub section_in : List ℕ × Vec Line Global → Section
section_in e = record { name = e.0; lines = e.1.items }

abbrev pub sections_in : List (List ℕ × Vec Line Global) → List Section
sections_in es = map section_in es
