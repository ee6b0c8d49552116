-- What a command leaves: its status, the files, and what it prints.
use Rattle.std.specs.Prelude.{ℕ, List, codes}
use Rattle.ndis_run.specs.Devices.{Devices, IsQuiet}
use Rattle.ndis_run.specs.ForgeCommand.{EndsForging}
use Rattle.ndis_run.specs.Printed.{help_text, version_line}
use Rattle.ndis_run.specs.Prints.{Tells}
use Rattle.ndis_run.specs.RunZero.{EndsZero}
use Rattle.ndis_run.specs.Showing.{EndsShowing}
use Rattle.ndis_run.specs.Shown.{shown_image, shown_inf}
use Rattle.ndis_run.specs.Words.{Form, Help, Version, RunZero, ShowImage, ShowInf, Forge}

-- what a command leaves that only prints a text, with a status
pub record EndsWith (wanted : ℕ) (text : List ℕ) (status : ℕ) (before after : Devices) : Type 0 where
  pub quiet : IsQuiet before.storage after.storage
  pub printed : Tells text wanted status before.output after.output

-- what words of a form leave
abbrev pub Ends : Form → ℕ → Devices → Devices → Type 0
Ends Help status before after = EndsWith 0 help_text status before after
Ends Version status before after = EndsWith 0 version_line status before after
Ends (RunZero sys log) status before after = EndsZero sys log status before after
Ends (ShowImage sys) status before after = EndsShowing shown_image 5 sys status before after
Ends (ShowInf inf id) status before after = EndsShowing (shown_inf id) 6 inf status before after
Ends (Forge kind sys inf) status before after = EndsForging kind sys inf status before after

-- what words leave that have no form
abbrev pub EndsWithNoForm : ℕ → Devices → Devices → Type 0
EndsWithNoForm status before after = EndsWith 2 (codes "words\n") status before after
