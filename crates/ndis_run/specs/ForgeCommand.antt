-- What `forge KIND SYS INF` leaves: its status, the files, and what it prints.
use Rattle.std.specs.Prelude.{◌≡◌, ℕ, List, Option, Some, Ok, Err, Result}
use Rattle.std.specs.FinMap.{insert}
use Rattle.nd_base.specs.Files.{Kept, Rose}
use Rattle.forged_miniports.specs.declared.kind.Kind.{Kind}
use Rattle.forged_miniports.specs.Miniports.{IsMiniport}
use Rattle.ndis_run.specs.declared.forge_command.ForgeFailure.{ForgeFailure}
use Rattle.ndis_run.specs.declared.forge_command.ForgeFailure.TheVariants as failure
use Rattle.ndis_run.specs.Devices.{Devices, Storage}
use Rattle.ndis_run.specs.Prints.{TellsMemory, TellsUnwritten}
use Rattle.ndis_run.specs.Transfer.{WritesFront}

-- SYS holds a front of the image of a miniport of the kind, or what it held; no other file changed
pub record HasImageFront (kind : Kind) (sys : List ℕ) (old new : Option Kept) : Type 0 where
  pub image : List ℕ
  pub text : List ℕ
  pub is : IsMiniport kind image text
  pub files : WritesFront old new sys image

-- SYS holds the image of a miniport of the kind, and INF a front of its INF, or what it held; no other file changed
pub record HasInfFront (kind : Kind) (sys inf : List ℕ) (old new : Option Kept) : Type 0 where
  pub image : List ℕ
  pub text : List ℕ
  pub is : IsMiniport kind image text
  pub files : (m : Kept) → old ≡ Some m → WritesFront (Some (insert m sys image)) new inf text

-- SYS holds the image of a miniport of the kind, and INF its INF; no other file changed
pub record HasMiniport (kind : Kind) (sys inf : List ℕ) (old new : Option Kept) : Type 0 where
  pub image : List ℕ
  pub text : List ℕ
  pub is : IsMiniport kind image text
  pub files : (m : Kept) → old ≡ Some m → new ≡ Some (insert (insert m sys image) inf text)

-- no file changed, or SYS was begun, or INF behind it
pub data StopsForging (kind : Kind) (sys inf : List ℕ) (old new : Option Kept) : Type 0 where
  unbegun : new ≡ old → StopsForging kind sys inf old new
  in_image : HasImageFront kind sys old new → StopsForging kind sys inf old new
  in_inf : HasInfFront kind sys inf old new → StopsForging kind sys inf old new

-- no call failed, and the two files stand
pub record HasForged (kind : Kind) (sys inf : List ℕ) (old new : Storage) : Type 0 where
  pub files : HasMiniport kind sys inf old.kept new.kept
  pub same_read_faults : new.read_faults ≡ old.read_faults
  pub same_write_faults : new.write_faults ≡ old.write_faults

-- a create or append failed, and no size or read
pub record HasFailed (old new : Storage) : Type 0 where
  pub cause : Rose old.write_faults new.write_faults
  pub same_read_faults : new.read_faults ≡ old.read_faults

-- what forging a miniport and writing SYS and INF comes to
abbrev pub ForgesAndWrites : Kind → List ℕ → List ℕ → Result (Unit {0}) ForgeFailure → Storage → Storage → Type 0
ForgesAndWrites kind sys inf (Ok _) old new = HasForged kind sys inf old new
ForgesAndWrites kind sys inf (Err failure.Memory) old new = StopsForging kind sys inf old.kept new.kept
ForgesAndWrites kind sys inf (Err failure.Image) old new = HasImageFront kind sys old.kept new.kept × HasFailed old new
ForgesAndWrites kind sys inf (Err failure.Inf) old new = HasInfFront kind sys inf old.kept new.kept × HasFailed old new

-- what `forge KIND SYS INF` leaves
pub data EndsForging (kind : Kind) (sys inf : List ℕ) (status : ℕ) (before after : Devices) : Type 0 where
  -- SYS and INF stand: 0, and nothing is printed
  forged : HasForged kind sys inf before.storage after.storage → status ≡ 0 → after.output ≡ before.output → EndsForging kind sys inf status before after
  -- SYS was not written: 4
  image_unwritten : HasImageFront kind sys before.storage.kept after.storage.kept → HasFailed before.storage after.storage
      → TellsUnwritten sys status before.output after.output → EndsForging kind sys inf status before after
  -- INF was not written: 4
  inf_unwritten : HasInfFront kind sys inf before.storage.kept after.storage.kept → HasFailed before.storage after.storage
      → TellsUnwritten inf status before.output after.output → EndsForging kind sys inf status before after
  -- memory was wanted: 10
  no_memory : StopsForging kind sys inf before.storage.kept after.storage.kept → TellsMemory status before.output after.output → EndsForging kind sys inf status before after
