-- What a command leaves that shows the file of a name: its status, the files, and what it prints.
use Rattle.std.specs.Prelude.{◌≡◌, ℕ, ◌⊎◌, List, Some, Ok, Err, Result}
use Rattle.nd_base.specs.Files.{Kept, bytes_at}
use Rattle.ndis_run.specs.declared.show.Answer.{Answer as Found}
use Rattle.ndis_run.specs.declared.show.ShowFailure.{ShowFailure}
use Rattle.ndis_run.specs.declared.show.ShowFailure.TheVariants.{Memory, Unread}
use Rattle.ndis_run.specs.Devices.{Devices, IsQuiet, IsUnread, Storage}
use Rattle.ndis_run.specs.Printed.{read_line}
use Rattle.ndis_run.specs.Prints.{Tells, TellsMemory}
use Rattle.ndis_run.specs.Shown.{Answer, answer}

-- the answer to the bytes of a file, where the files tell them: its status is 0 or that of a refusal, no file changed and no call failed
pub record IsAnswered (answered : List ℕ → Answer) (refusal : ℕ) (name : List ℕ) (found : Answer) (old new : Storage) : Type 0 where
  pub is_status : (found.status ≡ 0) ⊎ (found.status ≡ refusal)
  pub of_bytes : (m : Kept) → old.kept ≡ Some m → found ≡ answered (bytes_at m name)
  pub quiet : IsQuiet old new

-- what reading a file and answering its bytes comes to
abbrev pub ReadsAndAnswers : (List ℕ → Answer) → ℕ → List ℕ → Result Found ShowFailure → Storage → Storage → Type 0
ReadsAndAnswers answered refusal name (Ok found) old new = IsAnswered answered refusal name (answer found.status found.text) old new
ReadsAndAnswers answered refusal name (Err Unread) old new = IsUnread old new
ReadsAndAnswers answered refusal name (Err Memory) old new = (new.kept ≡ old.kept) × (new.write_faults ≡ old.write_faults)

-- what a command leaves that shows the file of a name
pub data EndsShowing (answered : List ℕ → Answer) (refusal : ℕ) (name : List ℕ) (status : ℕ) (before after : Devices) : Type 0 where
  -- 0, or the status of a refusal, with the text that goes with it
  shown : (found : Answer) → IsAnswered answered refusal name found before.storage after.storage
      → Tells found.text found.status status before.output after.output → EndsShowing answered refusal name status before after
  -- the file was not read: 3
  unread : IsUnread before.storage after.storage → Tells (read_line name) 3 status before.output after.output → EndsShowing answered refusal name status before after
  -- memory was wanted: 10
  no_memory : after.storage.kept ≡ before.storage.kept → after.storage.write_faults ≡ before.storage.write_faults
      → TellsMemory status before.output after.output → EndsShowing answered refusal name status before after
