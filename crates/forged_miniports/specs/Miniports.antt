-- What the files of a test miniport are.
use Rattle.std.specs.Prelude.{ℕ, ◌≡◌, List, Ok, codes}
use Rattle.image_forge.specs.Forged.{IsForged}
use Rattle.inf_text.specs.Sections.{Section}
use Rattle.inf_text.specs.Reading.{sections_of}
use Rattle.inf_file.specs.Parameters.{parameters_of}
use Rattle.inf_file.specs.declared.param.Param.{Param}
use Rattle.forged_miniports.specs.declared.kind.Kind.{Kind}
use Rattle.forged_miniports.specs.declared.inf.TheConstants.{INF}
use Rattle.forged_miniports.specs.Kinds.{source_of}

-- the bytes are an INF file, and it gives the hardware id parameters
pub record IsInfOf (inf id : List ℕ) : Type 0 where
  pub sections : List Section
  pub read : sections_of inf ≡ Ok sections
  pub given : List Param
  pub gives : parameters_of sections id ≡ Ok given

-- an image of the kind's source, whose entry point is its label `start`, and the INF's text, which gives an NE2000's hardware id parameters
pub record IsMiniport (kind : Kind) (image inf : List ℕ) : Type 0 where
  pub forged : IsForged (source_of kind) (codes "start") image
  pub text : inf ≡ INF.now
  pub is_inf : IsInfOf inf (codes "*PNP80D6")
