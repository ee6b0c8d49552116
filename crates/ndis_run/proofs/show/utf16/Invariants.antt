use Rattle.std.proofs.Common.{◌≡◌, ◌++◌, IsUtf8, length}
use Rattle.std.specs.Str.Iter.{chars_rest}
use Rattle.ndis_run.specs.Shown.{utf16}
use Rattle.ndis_run.proofs.show.utf16.Given as goal

abbrev pub invariant-loop-character : goal.invariant-loop-character
invariant-loop-character l = IsUtf8 (chars_rest l.rest) × (l.units ++ utf16 (chars_rest l.rest) ≡ utf16 l.text)

abbrev pub decreases-loop-character : goal.decreases-loop-character
decreases-loop-character l = length (chars_rest l.rest)
