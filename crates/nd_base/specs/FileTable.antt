-- Named files in a list, of which the first of a name counts.
use Rattle.std.specs.Prelude.{List, map}
use Rattle.std.specs.String.{string_bytes}
use Rattle.std.specs.FinMap.{from_entries}
use Rattle.nd_base.specs.Files.{Kept}
use Rattle.nd_base.specs.declared.file_table.NamedFile.{NamedFile}

-- the files of a list
abbrev pub files_of : List NamedFile → Kept
files_of files = from_entries (map (λ file. (string_bytes file.name, file.bytes)) files)
