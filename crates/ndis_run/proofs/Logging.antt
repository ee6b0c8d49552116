-- What reading SYS, running it and writing LOG come to.
use Rattle.std.proofs.Common.{◌≡◌, ℕ, List, Option, Some, Ok, Err, inl, inr, length, ◌≤◌, take, subst, sym, ◌∙◌, refl}
use Rattle.nd_base.specs.Files.{Kept, bytes_at, Rose}
use Rattle.pe_image.specs.Image.{ImageParts}
use Rattle.entry_session.specs.declared.session.Ending.{Ending}
use Rattle.ndis_run.specs.declared.run_zero.Failure.{Failure}
use Rattle.ndis_run.specs.declared.run_zero.Failure.TheVariants as failure
use Rattle.ndis_run.specs.Devices.{Storage}
use Rattle.ndis_run.specs.RunZero.{HasRun, IsRefusalLine, IsRunOf, Logs, LogsFront, RunsAndLogs, Stops}
use Rattle.ndis_run.specs.Shown.{judged}
use Rattle.ndis_run.specs.Transfer.{Writes, WritesFront}

-- where there is no image to run
pub not_run : (sys log : List ℕ) (e : Failure) (old new : Storage)
    → ((line : List ℕ) → e ≡ failure.Refused line → IsRefusalLine line × ((m : Kept) → old.kept ≡ Some m → judged (bytes_at m sys) ≡ Err line))
    → (e ≡ failure.Unwritten → ⊥) → (e ≡ failure.Unread → Rose old.read_faults new.read_faults)
    → ((line : List ℕ) → e ≡ failure.Refused line → new.read_faults ≡ old.read_faults)
    → new.kept ≡ old.kept → new.write_faults ≡ old.write_faults → RunsAndLogs sys log (Err e) old new
not_run sys log failure.Memory old new refusal unwritten unread quiet same writes = λ m is. inl (same ∙ is)
not_run sys log failure.Unread old new refusal unwritten unread quiet same writes = record { cause = unread refl; same_files = same; same_write_faults = writes }
not_run sys log (failure.Refused line) old new refusal unwritten unread quiet same writes =
    let facts = refusal line refl in
    record { is_line = facts.0; of_bytes = facts.1; quiet = record { same_files = same; same_read_faults = quiet line refl; same_write_faults = writes } }
not_run sys log failure.Unwritten old new refusal unwritten unread quiet same writes = absurd (unwritten refl)

-- a run of the image that the bytes of SYS hold
run_of : (sys text bytes : List ℕ) (image : ImageParts) (ending : Ending) (sum : ℕ) (m : Kept) → judged (bytes_at m sys) ≡ Ok image → HasRun image ending sum text → bytes ≡ text → IsRunOf (bytes_at m sys) ending sum bytes
run_of sys text bytes image ending sum m read run same = record { image = image; read = read; run = subst (λ (t : List ℕ). HasRun image ending sum t) (sym same) run }

-- its text was written
pub logged : (sys log text bytes : List ℕ) (image : ImageParts) (ending : Ending) (sum : ℕ) (old mid new : Option Kept)
    → mid ≡ old → ((m : Kept) → old ≡ Some m → judged (bytes_at m sys) ≡ Ok image) → HasRun image ending sum text → bytes ≡ text → Writes mid new log bytes
    → (m : Kept) → old ≡ Some m → Logs m sys log new ending sum
logged sys log text bytes image ending sum old mid new still read run same writes = λ m is.
    record { text = bytes; run = run_of sys text bytes image ending sum m (read m is) run same; file = writes m (still ∙ is) }

-- a front of its text was written
pub stopped : (sys log text bytes : List ℕ) (image : ImageParts) (ending : Ending) (sum : ℕ) (old mid new : Option Kept)
    → mid ≡ old → ((m : Kept) → old ≡ Some m → judged (bytes_at m sys) ≡ Ok image) → HasRun image ending sum text → bytes ≡ text → WritesFront mid new log bytes
    → Stops sys log old new
stopped sys log text bytes image ending sum old mid new still read run same front = λ m is. elim (front m (still ∙ is)) [
  | inl same_files ↦ inl same_files
  | inr written ↦ inr (record {
    ending = ending;
    sum = sum;
    text = bytes;
    run = run_of sys text bytes image ending sum m (read m is) run same;
    count = written.0;
    within = written.1;
    file = written.2;
  })
]
