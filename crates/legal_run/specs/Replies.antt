-- The reply of a call: what its import's row says in the state that stands when it is made, or what it has waited for. An address that the library picks
-- stands in the reply itself. (What each import answers: docs/IMPORTS.md. How a call returns: the calling conventions of Microsoft's C compiler for x86.)
use Rattle.std.specs.Prelude.{ℕ, ◌+◌, ◌-◌, ◌*◌, ◌%◌, Bool, false, ◌&&◌, ◌==◌, if◌then◌else◌, List, [], ◌∷◌, ◌++◌, filter, Option, Some, None, is_some}
use Rattle.std.specs.Option.{option_map, option_map_or, option_and_then}
use Rattle.std.specs.List.{flat_map}
use Rattle.std.specs.Int.{w32, from_le_bytes}
use Rattle.nd_base.specs.declared.numbers.CtxNo.{CtxNo}
use Rattle.nd_mem.specs.Space.{Cells, wrapped}
use Rattle.ia32_step.specs.Registers.{Registers, general_of, with_general, ESP}
use Rattle.packet_chain.specs.Chain.{word_at}
use Rattle.packet_pool.specs.LiveMoves.{LiveMove, MakeBlock, Allocate, may}
use Rattle.log_fields.specs.declared.write.Write.{Write}
use Rattle.call_log.specs.declared.entry.Entry.{Entry}
use Rattle.call_log.specs.declared.entry.Entry.TheVariants as entries
use Rattle.import_table.specs.declared.rows.Convention.{Convention}
use Rattle.import_table.specs.declared.rows.Convention.TheVariants.{Stdcall, Cdecl, Fastcall}
use Rattle.import_table.specs.Table.{Row}
use Rattle.guest_world.specs.declared.answer.Reply.{Reply}
use Rattle.guest_world.specs.declared.world.World.{World}
use Rattle.import_answers.specs.Outcomes.{Outcome, Replies, Picks, PicksDescriptor, resumed}
use Rattle.legal_run.specs.State.{State, Calling, Wait, OnClock, OnSync, Left, call_at}
use Rattle.legal_run.specs.Owed.{first, has_come}
use Rattle.legal_run.specs.Calls.{outcome_of}
use Rattle.legal_run.specs.Enters.{same_writes}

-- a reply, and the world behind it, but for what it writes
abbrev pub Answered : Type 0
Answered = Reply × World

-- what an entry says of it
pub record Told : Type 0 where
  pub eax : ℕ
  pub writes : List Write

abbrev pub is_told : Told → List Write → Reply → Bool
is_told told more reply = (reply.eax == told.eax) && same_writes (reply.writes ++ more) told.writes

abbrev pub told_as : Told → List Write → Reply → World → Option Answered
told_as told more reply world = if is_told told more reply then Some (reply, world) else None

-- ---- the address that was picked is one of those that the reply names: where it writes, or what

abbrev pub word_in : Write → ℕ
word_in write = from_le_bytes w32 write.bytes

abbrev pub addresses_named : List Write → List ℕ
addresses_named writes = flat_map (λ write. write.at.0 ∷ word_in write ∷ []) writes

abbrev pub is_picked : World → Told → List Write → (ℕ → LiveMove) → (ℕ → Reply) → ℕ → Bool
is_picked w told more move reply a = may w.pools (move a) && is_told told more (reply a)

abbrev pub picked : World → Told → List Write → (ℕ → LiveMove) → (ℕ → Reply) → Option ℕ
picked w told more move reply = first (filter (is_picked w told more move reply) (addresses_named told.writes))

-- ---- by the outcome of the call

abbrev pub by_outcome : World → Told → List Write → Outcome → Option Answered
by_outcome w told more (Replies reply world) = told_as told more reply world
by_outcome w told more (Picks n reply world) = option_map (λ a. (reply a, world a)) (picked w told more (MakeBlock n) reply)
by_outcome w told more (PicksDescriptor kind handle reply world) = option_map (λ a. (reply a, world a)) (picked w told more (Allocate kind handle) reply)
by_outcome w told more _ = None

-- a call of NdisMSynchronizeWithInterrupt answers AL of its function, one of NdisMSleep nothing; every other call is as its row says now
abbrev pub answered_by : State → CtxNo → Told → Calling → Wait → Option Answered
answered_by s x told call (OnSync (Left eax)) = told_as told [] (resumed call.import (eax % 256)) s.world
answered_by s x told call (OnSync _) = None
answered_by s x told call (OnClock wake) = told_as told [] (resumed call.import 0) s.world
answered_by s x told call _ = by_outcome s.world told call.writes (outcome_of s x call.import call.words)

-- the reply that the entry makes of the context's open call, if it is one
abbrev pub answered : State → CtxNo → Told → Option Answered
answered s x told = option_and_then (λ call. answered_by s x told call call.wait) (call_at s x.0)

-- ---- registers behind it: the call returns, and takes its words from the stack where its convention says so

abbrev pub taken_words : Convention → ℕ → ℕ
taken_words Stdcall n = n
taken_words Cdecl n = 0
taken_words Fastcall n = n - 2

abbrev pub taken_by : Row → ℕ
taken_by row = 4 + 4 * taken_words row.convention row.words

-- the address to return to is read before anything is written
abbrev pub returned : Cells → Registers → Row → ℕ → Registers
returned memory r row eax =
    record (with_general 0 eax (with_general ESP (wrapped (general_of r ESP + taken_by row)) r)) { eip = word_at memory (general_of r ESP) }

-- ---- the entry that makes it

-- what the entry tells, where it is the reply of that context
abbrev pub told_in : CtxNo → Entry → Option Told
told_in x (entries.Reply context eax writes) = if context.0 == x.0 then Some (record { eax = eax; writes = writes }) else None
told_in x _ = None

abbrev pub replies : State → CtxNo → Entry → Bool
replies s x e = option_map_or (λ told. is_some (answered s x told)) (told_in x e) false

-- a call that has waited may be answered where what it waits for has come
abbrev pub has_waited : State → CtxNo → Bool
has_waited s x = option_map_or (λ call. has_come s call.wait) (call_at s x.0) false
