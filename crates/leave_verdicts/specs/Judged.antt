-- What was drawn from a leave, as it is told, and what can be read of memory for it.
use Rattle.std.specs.Prelude.{◌≡◌, ◌++◌, ℕ, ⊤, List, Option, None, Some, slice_get}
use Rattle.std.specs.Option.{option_and_then}
use Rattle.nd_base.specs.declared.numbers.AdapterNo.{AdapterNo}
use Rattle.log_fields.specs.declared.field_values.Handler.{Handler}
use Rattle.log_fields.specs.declared.field_values.Handler.TheVariants as handler
use Rattle.call_log.specs.declared.entry.Entry.{Entry}
use Rattle.owner_machine.specs.declared.rows.Request.{Request}
use Rattle.legal_run.specs.State.{State}
use Rattle.legal_run.specs.Owed.{first}
use Rattle.legal_run.specs.Calls.{Drawn, Breaking, Draws, slot_status}
use Rattle.verdict_parts.specs.Places.{CanAnswer, HasSlotStatus}
use Rattle.leave_verdicts.specs.declared.judgement.Judgement.{Judgement}
use Rattle.leave_verdicts.specs.declared.judgement.Judgement.TheVariants as judgements
use Rattle.leave_verdicts.specs.declared.packets.Judging.{Judging}
use Rattle.leave_verdicts.specs.declared.packets.Judging.TheVariants as judgings

abbrev pub drawn_as : Judgement → Drawn
drawn_as (judgements.Breaks rule) = Breaking rule.0
drawn_as (judgements.Draws entries) = Draws entries.items

-- verdicts in front of what is drawn behind them
abbrev pub in_front : List Entry → Drawn → Drawn
in_front es (Breaking rule) = Breaking rule
in_front es (Draws more) = Draws (es ++ more)

-- the status by which a packet is judged
abbrev pub status_by : State → Judging → ℕ → ℕ
status_by s (judgings.ByReturn eax) k = eax
status_by s judgings.InPlace k = slot_status s k

-- it can be read
abbrev pub HasStatusBy : State → Judging → ℕ → Type 0
HasStatusBy s (judgings.ByReturn eax) k = ⊤
HasStatusBy s judgings.InPlace k = HasSlotStatus s k

-- what answers a request can be read
abbrev pub CanAnswerAt : State → ℕ → Option ℕ → Type 0
CanAnswerAt s a r = (row : Request) → option_and_then (λ k. slice_get s.owner.requests k) r ≡ Some row → CanAnswer s a row.question

-- what a handler of an adapter answers can be read
abbrev pub CanJudge : State → ℕ → List ℕ → Handler → Type 0
CanJudge s a subject handler.SendPackets = (k : ℕ) → HasSlotStatus s k
CanJudge s a subject handler.Query = CanAnswerAt s a (first subject)
CanJudge s a subject handler.Set = CanAnswerAt s a (first subject)
CanJudge s a subject _ = ⊤

abbrev pub CanJudgeOf : State → Option AdapterNo → List ℕ → Handler → Type 0
CanJudgeOf s None subject h = ⊤
CanJudgeOf s (Some a) subject h = CanJudge s a.0 subject h
