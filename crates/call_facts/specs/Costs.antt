-- What a call costs: at most what the largest word counts, in microseconds. (How much each import costs: docs/IMPORTS.md.)
use Rattle.std.specs.Prelude.{◌≡◌, ◌<◌, ◌≤◌, ℕ, ◌^◌, List, slice_index_or, Some, Ok}
use Rattle.nd_base.specs.declared.numbers.CtxNo.{CtxNo}
use Rattle.import_table.specs.Table.{Row}
use Rattle.guest_world.specs.declared.answer.Answer.TheVariants.{Now}
use Rattle.guest_world.specs.declared.answer.Caller.{Caller}
use Rattle.guest_world.specs.declared.answer.Reply.{Reply}
use Rattle.guest_world.specs.declared.world.World.{World}
use Rattle.import_answers.specs.Answers.{eight, outcome}
use Rattle.import_answers.specs.Outcomes.{Comes, resumed}
use Rattle.legal_run.specs.State.{State, Calling, call_at}
use Rattle.legal_run.specs.Replies.{Answered, Told, answered}

-- words of a call have four bytes
abbrev pub AreWords : List ℕ → Type 0
AreWords words = (k : ℕ) → slice_index_or words k 0 < 2 ^ 32

pub record CostsAreSmall : Type 0 where
  -- whatever an import answers at once
  pub now : (w v : World) (x : Caller) (row : Row) (words : List ℕ) (reply : Reply) → AreWords (eight words) → Comes (outcome w x row words) w (Ok (Now reply)) v → reply.cost ≤ 2 ^ 32
  -- what a call answers that has waited
  pub waited : (import al : ℕ) → (resumed import al).cost ≤ 2 ^ 32
  -- so every answer to an open call
  pub answers : (s : State) (x : CtxNo) (told : Told) (call : Calling) (given : Answered) → call_at s x.0 ≡ Some call → AreWords (eight call.words) → answered s x told ≡ Some given
      → given.0.cost ≤ 2 ^ 32
