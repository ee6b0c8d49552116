-- What the types of an entry's fields hold: each number is below the first that its type has no room for.
use Rattle.std.specs.Prelude.{ℕ, ◌^◌, ◌<◌, List, Option, None, Some}
use Rattle.std.specs.List.{AllByRecursion}
use Rattle.nd_base.specs.declared.numbers.AdapterNo.{AdapterNo}
use Rattle.nd_base.specs.declared.numbers.BindingNo.{BindingNo}
use Rattle.log_fields.specs.declared.field_values.Question.{Question}
use Rattle.log_fields.specs.declared.field_values.Question.TheVariants as questions
use Rattle.log_fields.specs.declared.field_values.Condition.{Condition}
use Rattle.log_fields.specs.declared.field_values.Condition.TheVariants as conditions
use Rattle.log_fields.specs.declared.write.Write.{Write}
use Rattle.call_log.specs.declared.entry.Entry.{Entry}
use Rattle.call_log.specs.declared.entry.Entry.TheVariants as entries

abbrev pub AreBytes : List ℕ → Type 0
AreBytes bytes = AllByRecursion (λ b. b < 2 ^ 8) bytes

abbrev pub AreWords : List ℕ → Type 0
AreWords words = AllByRecursion (λ w. w < 2 ^ 32) words

abbrev pub AreHolders : List BindingNo → Type 0
AreHolders holders = AllByRecursion (λ (h : BindingNo). h.0 < 2 ^ 8) holders

abbrev pub IsWrite : Write → Type 0
IsWrite w = (w.at.0 < 2 ^ 32) × AreBytes w.bytes

abbrev pub AreWrites : List Write → Type 0
AreWrites writes = AllByRecursion IsWrite writes

abbrev pub IsAdapter : Option AdapterNo → Type 0
IsAdapter None = Unit {0}
IsAdapter (Some a) = a.0 < 2 ^ 8

abbrev pub IsQuestion : Question → Type 0
IsQuestion (questions.Query oid length) = (oid < 2 ^ 32) × (length < 2 ^ 32)
IsQuestion (questions.Set oid bytes) = (oid < 2 ^ 32) × AreBytes bytes

abbrev pub IsCondition : Condition → Type 0
IsCondition (conditions.Frames n) = n < 2 ^ 64
IsCondition _ = Unit {0}

-- an entry as its types hold it
abbrev pub IsHeld : Entry → Type 0
IsHeld (entries.Bind driver adapter) = (driver.0 < 2 ^ 8) × (adapter.0 < 2 ^ 8)
IsHeld (entries.Unbind driver) = driver.0 < 2 ^ 8
IsHeld (entries.Quiet driver) = driver.0 < 2 ^ 8
IsHeld (entries.Done driver) = driver.0 < 2 ^ 8
IsHeld (entries.Send driver packet bytes) = (driver.0 < 2 ^ 8) × (packet.0 < 2 ^ 64) × AreBytes bytes
IsHeld (entries.Hand packet) = packet.0 < 2 ^ 64
IsHeld (entries.Requeue packet) = packet.0 < 2 ^ 64
IsHeld (entries.Late packet) = packet.0 < 2 ^ 64
IsHeld (entries.Complete packet status) = (packet.0 < 2 ^ 64) × (status.0 < 2 ^ 32)
IsHeld (entries.Indicate adapter loan bytes holders copied) = (adapter.0 < 2 ^ 8) × (loan.0 < 2 ^ 64) × AreBytes bytes × AreHolders holders
IsHeld (entries.Return driver loan) = (driver.0 < 2 ^ 8) × (loan.0 < 2 ^ 64)
IsHeld (entries.Back loan failed) = loan.0 < 2 ^ 64
IsHeld (entries.Ask driver request asks) = (driver.0 < 2 ^ 8) × (request.0 < 2 ^ 64) × IsQuestion asks
IsHeld (entries.HandAsk request) = request.0 < 2 ^ 64
IsHeld (entries.Answer request status bytes) = (request.0 < 2 ^ 64) × (status.0 < 2 ^ 32) × AreBytes bytes
IsHeld (entries.Enter adapter context entered words writes) = IsAdapter adapter × (context.0 < 2 ^ 8) × AreWords words × AreWrites writes
IsHeld (entries.Leave context eax) = (context.0 < 2 ^ 8) × (eax < 2 ^ 32)
IsHeld (entries.Turn context count) = (context.0 < 2 ^ 8) × (count < 2 ^ 64)
IsHeld (entries.Call context n words) = (context.0 < 2 ^ 8) × AreWords words
IsHeld (entries.Reply context eax writes) = (context.0 < 2 ^ 8) × (eax < 2 ^ 32) × AreWrites writes
IsHeld (entries.Spin context lock) = (context.0 < 2 ^ 8) × (lock.0 < 2 ^ 32)
IsHeld (entries.Port adapter way size port bytes) = (adapter.0 < 2 ^ 8) × (port < 2 ^ 8) × AreBytes bytes
IsHeld (entries.WireIn frame) = frame < 2 ^ 64
IsHeld (entries.WireOut adapter bytes) = (adapter.0 < 2 ^ 8) × AreBytes bytes
IsHeld (entries.Time clock) = clock < 2 ^ 64
IsHeld (entries.ResetBegin adapter) = adapter.0 < 2 ^ 8
IsHeld (entries.ResetEnd adapter status) = (adapter.0 < 2 ^ 8) × (status.0 < 2 ^ 32)
IsHeld (entries.Fault context kind address) = (context.0 < 2 ^ 8) × (address.0 < 2 ^ 32)
IsHeld (entries.Stop adapter why) = adapter.0 < 2 ^ 8
IsHeld (entries.Await driver until) = (driver.0 < 2 ^ 8) × IsCondition until
IsHeld (entries.Tag packet id) = (packet.0 < 2 ^ 64) × (id < 2 ^ 32)
IsHeld (entries.Cancel driver id) = (driver.0 < 2 ^ 8) × (id < 2 ^ 32)
IsHeld (entries.Event driver number bytes taken) = (driver.0 < 2 ^ 8) × (number < 2 ^ 32) × AreBytes bytes
