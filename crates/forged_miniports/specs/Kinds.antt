-- The kinds of test miniports: their names and their source texts. (The project's own: examples/.)
use Rattle.std.specs.Prelude.{ℕ, List, codes}
use Rattle.forged_miniports.specs.declared.kind.Kind.{Kind}
use Rattle.forged_miniports.specs.declared.kind.Kind.TheVariants.{Idle, Double, Scarce, Mute, Deserial}
use Rattle.forged_miniports.specs.declared.idle.TheConstants.{IDLE}
use Rattle.forged_miniports.specs.declared.double.TheConstants.{DOUBLE}
use Rattle.forged_miniports.specs.declared.scarce.TheConstants.{SCARCE}
use Rattle.forged_miniports.specs.declared.mute.TheConstants.{MUTE}
use Rattle.forged_miniports.specs.declared.deserial.TheConstants.{DESERIAL}

-- the word that names a kind
abbrev pub name_of : Kind → List ℕ
name_of Idle = codes "idle"
name_of Double = codes "double"
name_of Scarce = codes "scarce"
name_of Mute = codes "mute"
name_of Deserial = codes "deserial"

-- the text of its source
unfoldable pub source_of : Kind → List ℕ
source_of Idle = IDLE.now
source_of Double = DOUBLE.now
source_of Scarce = SCARCE.now
source_of Mute = MUTE.now
source_of Deserial = DESERIAL.now
