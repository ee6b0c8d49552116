use Rattle.std.proofs.Common.{◌≡◌, refl}
use Rattle.ndis_run.specs.Printed.{help_text, version_line}
use Rattle.ndis_run.proofs.EndsLaws.{ends_as}
use Rattle.ndis_run.proofs.Lines.{prints_same}
use Rattle.ndis_run.proofs.tool.run_command.Goals as goal

pub returns-in-Help : goal.returns-in-Help
returns-in-Help g c =
    let text : c.as_bytes.result.now ≡ help_text = c.as_bytes.ensures.value in
    ends_as _ _ _ _ _ c.in-Help.is (record {
      quiet = record { same_files = refl; same_read_faults = refl; same_write_faults = refl };
      printed = prints_same _ _ _ _ _ _ _ text c.tell.ensures;
    })

pub returns-in-Version : goal.returns-in-Version
returns-in-Version g c =
    let text : c.as_bytes-in-Version.result.now ≡ version_line = c.as_bytes-in-Version.ensures.value in
    ends_as _ _ _ _ _ c.in-Version.is (record {
      quiet = record { same_files = refl; same_read_faults = refl; same_write_faults = refl };
      printed = prints_same _ _ _ _ _ _ _ text c.tell-in-Version.ensures;
    })

pub returns-in-RunZero : goal.returns-in-RunZero
returns-in-RunZero g c = ends_as _ _ _ _ _ c.in-RunZero.is c.run_zero.ensures

pub returns-in-ShowImage : goal.returns-in-ShowImage
returns-in-ShowImage g c = ends_as _ _ _ _ _ c.in-ShowImage.is c.tell_image.ensures

pub returns-in-ShowInf : goal.returns-in-ShowInf
returns-in-ShowInf g c = ends_as _ _ _ _ _ c.in-ShowInf.is c.tell_inf.ensures

pub returns-in-Forge : goal.returns-in-Forge
returns-in-Forge g c = ends_as _ _ _ _ _ c.in-Forge.is c.forge_files.ensures
