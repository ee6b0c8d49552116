-- The devices of a command, the files and the sink that it is run over, as values: what they tell, and how many of their calls failed.
use Rattle.std.specs.Prelude.{◌≡◌, ℕ, List, Option}
use Rattle.nd_base.specs.Files.{Kept, Rose}
use Rattle.nd_base.specs.declared.named_files.Files.{Ghosts as FilesMean}
use Rattle.nd_base.specs.declared.line_sink.Sink.{Ghosts as SinkMean}

-- the files: their bytes, where they are told, and how many of size and read, and of create and append, failed
pub record Storage : Type 0 where
  pub kept : Option Kept
  pub read_faults : ℕ
  pub write_faults : ℕ

-- the sink: what was written, where it is told, and how many writes failed
pub record Output : Type 0 where
  pub printed : Option (List ℕ)
  pub print_faults : ℕ

pub record Devices : Type 0 where
  pub storage : Storage
  pub output : Output

-- files and a sink as values, by what their types mean
abbrev pub storage : {F : Type 0} → FilesMean F → F → Storage
storage mean files = record { kept = mean.kept files; read_faults = mean.read_faults files; write_faults = mean.write_faults files }

abbrev pub output : {O : Type 0} → SinkMean O → O → Output
output mean sink = record { printed = mean.written sink; print_faults = mean.faults sink }

abbrev pub devices : {F O : Type 0} → FilesMean F → SinkMean O → F → O → Devices
devices files_mean sink_mean files sink = record { storage = storage files_mean files; output = output sink_mean sink }

-- no file changed and no call failed
pub record IsQuiet (old new : Storage) : Type 0 where
  pub same_files : new.kept ≡ old.kept
  pub same_read_faults : new.read_faults ≡ old.read_faults
  pub same_write_faults : new.write_faults ≡ old.write_faults

-- a size or read failed, and no file changed
pub record IsUnread (old new : Storage) : Type 0 where
  pub cause : Rose old.read_faults new.read_faults
  pub same_files : new.kept ≡ old.kept
  pub same_write_faults : new.write_faults ≡ old.write_faults
