-- A source has one outcome, but for want of memory. (The project's own.)
use Rattle.std.specs.Prelude.{ℕ, ◌≡◌, ◌≢◌, List}
use Rattle.line_bytes.specs.Excluding.{BytesExcludeRefusal}
use Rattle.line_bytes.specs.One.{MadeIsOne, PieceIsOne, ReasonIsOne}
use Rattle.line_bytes.specs.declared.piece.Tables.{Tables}
use Rattle.sys_forge.specs.Assembly.{IsAssembly, IsRefusedText}
use Rattle.sys_forge.specs.Whole.{IsAssembled}
use Rattle.sys_forge.specs.declared.refusal.ForgeRefusal.{ForgeRefusal}
use Rattle.sys_forge.specs.declared.refusal.ForgeRefusal.TheVariants as refusals

-- its bytes are one
abbrev pub AssemblyIsOne : Type 0
AssemblyIsOne = (text out other : List ℕ) → IsAssembly text out → IsAssembly text other → out ≡ other

-- and so is where its labels and words stand
abbrev pub AssembledIsOne : Type 0
AssembledIsOne = (text : List ℕ) (t u : Tables) (out other places more : List ℕ) → IsAssembled text t out places → IsAssembled text u other more → (t ≡ u) × (out ≡ other)

abbrev pub AssembledIsAssembly : Type 0
AssembledIsAssembly = (text : List ℕ) (t : Tables) (out places : List ℕ) → IsAssembled text t out places → IsAssembly text out

-- what has bytes is not refused
abbrev pub AssemblyExcludesRefusal : Type 0
AssemblyExcludesRefusal = (text out : List ℕ) (why : ForgeRefusal) → IsAssembly text out → IsRefusedText text why → why ≡ refusals.OutOfMemory

-- one of its lines is refused, and for one reason
abbrev pub RefusalIsOne : Type 0
RefusalIsOne = (text : List ℕ) (why other : ForgeRefusal) → why ≢ refusals.OutOfMemory → other ≢ refusals.OutOfMemory → IsRefusedText text why → IsRefusedText text other → why ≡ other

-- ---- the same of single lines

pub record LineLaws : Type 0 where
  pub made : MadeIsOne
  pub piece : PieceIsOne
  pub reason : ReasonIsOne
  pub excluded : BytesExcludeRefusal
