-- What writing the files of a miniport comes to where it stops.
use Rattle.std.proofs.Common.{◌≡◌, ℕ, List, Option, Some, subst}
use Rattle.nd_base.specs.Files.{Kept}
use Rattle.forged_miniports.specs.declared.kind.Kind.{Kind}
use Rattle.forged_miniports.specs.Miniports.{IsMiniport}
use Rattle.ndis_run.specs.ForgeCommand.{StopsForging, in_image, in_inf}
use Rattle.ndis_run.specs.Transfer.{Writes, WritesFront}

-- a front of the image was written
pub stopped_in_image : (kind : Kind) (sys inf image text first : List ℕ) (old new : Option Kept) → IsMiniport kind image text → first ≡ image
    → WritesFront old new sys first → StopsForging kind sys inf old new
stopped_in_image kind sys inf image text first old new is same front =
    in_image (record { image = image; text = text; is = is; files = subst (λ bytes. WritesFront old new sys bytes) same front })

-- the image was written, and a front of the INF's text
pub stopped_in_inf : (kind : Kind) (sys inf image text first second : List ℕ) (old mid new : Option Kept) → IsMiniport kind image text → first ≡ image → second ≡ text
    → Writes old mid sys first → WritesFront mid new inf second → StopsForging kind sys inf old new
stopped_in_inf kind sys inf image text first second old mid new is same same' writes front =
    let written : Writes old mid sys image = subst (λ bytes. Writes old mid sys bytes) same writes in
    let begun : WritesFront mid new inf text = subst (λ bytes. WritesFront mid new inf bytes) same' front in
    in_inf (record { image = image; text = text; is = is; files = λ m has. subst (λ (told : Option Kept). WritesFront told new inf text) (written m has) begun })
