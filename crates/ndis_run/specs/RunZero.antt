-- What `run0 SYS LOG` leaves: its status, the files, and what it prints.
use Rattle.std.specs.Prelude.{◌≡◌, ◌≢◌, ℕ, ◌≤◌, ◌⊎◌, List, Option, Some, Ok, Err, Result, length, take}
use Rattle.std.specs.FinMap.{insert}
use Rattle.nd_base.specs.Files.{Kept, bytes_at, Rose}
use Rattle.nd_base.specs.Layout.{usual as usual_layout}
use Rattle.pe_image.specs.Image.{ImageParts}
use Rattle.import_slots.specs.Slots.{addresses_of}
use Rattle.pe_image.specs.declared.refusal.PeRefusal.{PeRefusal}
use Rattle.pe_image.specs.declared.refusal.PeRefusal.TheVariants.{OutOfMemory}
use Rattle.printed_lines.specs.ImageLines.{image_line, unknown_import_line}
use Rattle.call_log.specs.declared.entry.Entry.{Entry}
use Rattle.entry_session.specs.declared.session.Ending.{Ending}
use Rattle.entry_session.specs.declared.session.Ending.TheVariants.{Left, Faulting, Spent}
use Rattle.call_log.specs.Lines.{log_text}
use Rattle.entry_session.specs.Session.{Setting, inputs, IsWhole}
use Rattle.legal_run.specs.Run.{now}
use Rattle.ndis_run.specs.declared.run_zero.Finished.{Finished}
use Rattle.ndis_run.specs.declared.run_zero.Failure.{Failure}
use Rattle.ndis_run.specs.declared.run_zero.Failure.TheVariants as failure
use Rattle.ndis_run.specs.Devices.{Devices, IsQuiet, IsUnread, Storage}
use Rattle.ndis_run.specs.Printed.{driver_entry_line, read_line}
use Rattle.ndis_run.specs.Prints.{Tells, TellsMemory, TellsUnwritten}
use Rattle.ndis_run.specs.Shown.{judged}

-- DriverEntry of an image alone, with a slot for each import, the usual budget and the usual layout
abbrev pub usual : ImageParts → Setting
usual image = record { image = image; slots = addresses_of image.imports; budget = 4000000; layout = usual_layout }

-- a whole run of an image, its text, and what it was charged
pub record HasRun (image : ImageParts) (ending : Ending) (sum : ℕ) (text : List ℕ) : Type 0 where
  pub entries : List Entry
  pub whole : IsWhole (inputs (usual image)) entries ending
  pub is_sum : sum ≡ (now (inputs (usual image)) entries).charged
  pub is_text : text ≡ log_text entries

-- the status of a run's end
abbrev pub status_of : Ending → ℕ
status_of (Left status) = 0
status_of Faulting = 1
status_of Spent = 1

-- a whole run of the image that a file of these bytes holds
pub record IsRunOf (bytes : List ℕ) (ending : Ending) (sum : ℕ) (text : List ℕ) : Type 0 where
  pub image : ImageParts
  pub read : judged bytes ≡ Ok image
  pub run : HasRun image ending sum text

-- LOG holds the text of a whole run of the image that SYS held, with this end and this charge; no other file changed
pub record Logs (m : Kept) (sys log : List ℕ) (kept : Option Kept) (ending : Ending) (sum : ℕ) : Type 0 where
  pub text : List ℕ
  pub run : IsRunOf (bytes_at m sys) ending sum text
  pub file : kept ≡ Some (insert m log text)

-- LOG holds a front of the text of a whole run of the image that SYS held; no other file changed
pub record LogsFront (m : Kept) (sys log : List ℕ) (kept : Option Kept) : Type 0 where
  pub ending : Ending
  pub sum : ℕ
  pub text : List ℕ
  pub run : IsRunOf (bytes_at m sys) ending sum text
  pub count : ℕ
  pub within : count ≤ length text
  pub file : kept ≡ Some (insert m log (take count text))

-- no file changed, or LOG holds a front of the text of a run
abbrev pub Stops : List ℕ → List ℕ → Option Kept → Option Kept → Type 0
Stops sys log kept kept' = (m : Kept) → kept ≡ Some m → (kept' ≡ Some m) ⊎ LogsFront m sys log kept'

-- the line of an image that `run0` refuses
abbrev pub IsRefusalLine : List ℕ → Type 0
IsRefusalLine line = ((r : PeRefusal) × (r ≢ OutOfMemory) × (line ≡ image_line r)) ⊎ ((name : List ℕ) × (line ≡ unknown_import_line name))

-- no call failed, and where the files tell their bytes, LOG holds the text of the run
pub record HasLogged (sys log : List ℕ) (ending : Ending) (sum : ℕ) (old new : Storage) : Type 0 where
  pub logs : (m : Kept) → old.kept ≡ Some m → Logs m sys log new.kept ending sum
  pub same_read_faults : new.read_faults ≡ old.read_faults
  pub same_write_faults : new.write_faults ≡ old.write_faults

-- the line is that of a refusal, and of the refusal of the bytes of SYS where the files tell them
pub record IsRefused (sys line : List ℕ) (old new : Storage) : Type 0 where
  pub is_line : IsRefusalLine line
  pub of_bytes : (m : Kept) → old.kept ≡ Some m → judged (bytes_at m sys) ≡ Err line
  pub quiet : IsQuiet old new

-- a create or append failed, and no size or read
pub record IsUnwritten (sys log : List ℕ) (old new : Storage) : Type 0 where
  pub cause : Rose old.write_faults new.write_faults
  pub same_read_faults : new.read_faults ≡ old.read_faults
  pub files : Stops sys log old.kept new.kept

-- what reading SYS, running it and writing LOG comes to
abbrev pub RunsAndLogs : List ℕ → List ℕ → Result Finished Failure → Storage → Storage → Type 0
RunsAndLogs sys log (Ok finished) old new = HasLogged sys log finished.ending finished.charged old new
RunsAndLogs sys log (Err failure.Memory) old new = Stops sys log old.kept new.kept
RunsAndLogs sys log (Err failure.Unread) old new = IsUnread old new
RunsAndLogs sys log (Err (failure.Refused line)) old new = IsRefused sys line old new
RunsAndLogs sys log (Err failure.Unwritten) old new = IsUnwritten sys log old new

-- what `run0 SYS LOG` leaves
pub data EndsZero (sys log : List ℕ) (status : ℕ) (before after : Devices) : Type 0 where
  -- SYS ran: 0 or 1 with the line of the run that LOG holds
  ran : (ending : Ending) (sum : ℕ) → HasLogged sys log ending sum before.storage after.storage
      → Tells (driver_entry_line ending sum) (status_of ending) status before.output after.output → EndsZero sys log status before after
  -- SYS was not read: 3
  unread : IsUnread before.storage after.storage → Tells (read_line sys) 3 status before.output after.output → EndsZero sys log status before after
  -- SYS is refused: 5
  refused : (line : List ℕ) → IsRefused sys line before.storage after.storage → Tells line 5 status before.output after.output → EndsZero sys log status before after
  -- LOG was not written: 4
  unwritten : IsUnwritten sys log before.storage after.storage → TellsUnwritten log status before.output after.output → EndsZero sys log status before after
  -- memory was wanted: 10
  no_memory : Stops sys log before.storage.kept after.storage.kept → TellsMemory status before.output after.output → EndsZero sys log status before after
