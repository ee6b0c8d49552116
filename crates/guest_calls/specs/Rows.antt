-- What a call of an import comes to, and what may have changed where memory is wanted.
use Rattle.std.specs.Prelude.{◌≡◌, ◌≤◌, ◌⊎◌, ℕ, ◌-◌, List, take, slice_index_or, Option}
use Rattle.nd_base.specs.declared.numbers.AdapterNo.{AdapterNo}
use Rattle.import_table.specs.declared.calls.Call.{Call}
use Rattle.guest_world.specs.declared.world.World.{World}
use Rattle.guest_world.specs.declared.answer.Caller.{Caller}
use Rattle.import_answers.specs.Outcomes.{Outcome}
use Rattle.import_answers.specs.Answers.{answering, none_such, eight}
use Rattle.calls_ports.specs.Cards.{ChangesCard}
use Rattle.calls_packets.specs.Wants.{ChangesLive}

-- what the row of an import says, behind the level and the number of words
abbrev pub row_answer : ℕ → World → Caller → List ℕ → Outcome
row_answer import w x words = slice_index_or answering (import - 1) none_such w x words

-- the words of a call that were read
abbrev pub words_of : Call → List ℕ
words_of call = take call.count call.words

-- a call of one of the 64 imports, with zeros behind the words that were read
pub record IsCall (call : Call) : Type 0 where
  pub from : 1 ≤ call.import
  pub to : call.import ≤ 64
  pub zeros : eight (words_of call) ≡ call.words

-- where memory is wanted nothing has changed but the caller's card, whose accesses can't be taken back, or which handles of pools were given
abbrev pub Stays : Option AdapterNo → World → World → Type 0
Stays adapter before after = (after ≡ before) ⊎ (ChangesCard adapter before after ⊎ ChangesLive before after)
