-- A call of a context, from its entry to its reply: meanwhile the world is the one behind the answer. (docs/LEGAL-RUN.md)
use Rattle.std.specs.Prelude.{◌≡◌, ◌<◌, ◌≤◌, ℕ, ◌+◌, ◌^◌, ◌++◌, ◌==◌, ◌&&◌, not, length, drop, Bool, true, false, List, [], ◌∷◌, None, Some, Ok}
use Rattle.std.specs.List.{AllByRecursion, list_any}
use Rattle.nd_base.specs.declared.numbers.CtxNo.{CtxNo}
use Rattle.nd_mem.specs.Space.{first_fault, Reading}
use Rattle.ia32_step.specs.Registers.{general_of, ESP}
use Rattle.call_log.specs.declared.entry.Entry.{Entry}
use Rattle.call_log.specs.declared.entry.Entry.TheVariants as entries
use Rattle.call_log.specs.Lines.{InRange}
use Rattle.owner_machine.specs.declared.rows.Next.TheVariants as owners
use Rattle.guest_world.specs.declared.answer.Answer.TheVariants.{Now}
use Rattle.guest_world.specs.declared.answer.Reply.{Reply}
use Rattle.guest_world.specs.declared.world.World.{World}
use Rattle.guest_world.specs.Worlds.{longest_time}
use Rattle.import_answers.specs.Outcomes.{Comes}
use Rattle.owner_machine.specs.Contexts.{indicate_receive_packet, reset_complete, query_complete, set_complete}
use Rattle.owner_book.specs.Stopping.{stop_room}
use Rattle.legal_run.specs.State.{Inputs, State, Calling, Next, Makes, Wait, Nothing, OnClock, OnSync, call_at, cells, clock, context_at}
use Rattle.ia32_step.specs.Machine.{outcome}
use Rattle.legal_run.specs.Calls.{outcome_of}
use Rattle.legal_run.specs.After.{machine_of, packet_driver, spoke}
use Rattle.legal_run.specs.Laws.{is_by_row}
use Rattle.legal_run.specs.Must.{must}
use Rattle.legal_run.specs.Run.{call_words, is_at_import, is_memory_stop}
use Rattle.miniport.specs.Steps.{Goes}
use Rattle.miniport_state.specs.Seen.{Point, behind}
use Rattle.run_moves.specs.declared.running.Running.{Running}
use Rattle.run_moves.specs.Runs.{IsAnswering}
use Rattle.run_stops.specs.Standing.{Lengthens, point_of, state_of}

-- one entry more; the world is still the one behind the answer
pub record Continues (o : Point) (e : Entry) (before r : Running) : Type 0 where
  pub run : IsAnswering (behind o e) r
  pub world : r.world ≡ before.world
  pub written : r.log.entries ≡ before.log.entries ++ e ∷ []
  pub spare : r.log.spare + 1 ≡ before.log.spare

-- nothing must stand next, and the world is the one behind the answer of a call that is made now
pub record IsAsking (c : Inputs) (r : Running) : Type 0 where
  pub answering : IsAnswering (point_of c r) r
  pub free : must (state_of c r) ≡ None
  pub fed : list_any is_memory_stop r.log.entries ≡ false
  pub room : stop_room (state_of c r).owner ≤ r.log.spare

-- a call that waits, and not for a lock
abbrev pub does_not_spin : Wait → Bool
does_not_spin (OnClock wake) = true
does_not_spin (OnSync stage) = true
does_not_spin _ = false

-- the imports whose calls are served: all but NdisMIndicateReceivePacket, NdisMResetComplete, and the ends of requests
abbrev pub is_served : ℕ → Bool
is_served import = not (import == indicate_receive_packet) && (not (import == reset_complete) && (not (import == query_complete) && not (import == set_complete)))

-- the context is at the import, with these words; the call waits for nothing, and its reply writes nothing beside what the row says
pub record Opens (o : Point) (x : CtxNo) (call : Calling) (words : List ℕ) : Type 0 where
  pub goes : Goes o x
  pub number : (1 ≤ call.import) × (call.import ≤ 64)
  pub slot : is_at_import (outcome (machine_of o.state x)) call.import ≡ true
  pub said : words ≡ call_words o.state x call.import
  pub kept : call ≡ record { import = call.import; words = words; wait = Nothing; writes = [] }

-- where the call would return to can be read
abbrev pub CanReturn : State → CtxNo → Type 0
CanReturn s x = first_fault Reading (cells s) (general_of (context_at s x.0).registers ESP) 4 ≡ None

-- the call is answered at once, with this reply
abbrev pub IsAnswer : State → CtxNo → ℕ → List ℕ → Reply → World → Type 0
IsAnswer s x import words reply w = Comes (outcome_of s x import words) s.world (Ok (Now reply)) w

-- ---- what a call makes in front of its reply

-- ends of packets, accesses to ports and what they send: none of them changes the world
abbrev pub is_light : Entry → Bool
is_light (entries.Complete _ _) = true
is_light (entries.Late _) = true
is_light (entries.Port _ _ _ _ _) = true
is_light (entries.WireOut _ _) = true
is_light _ = false

-- who hears of it: the driver of a packet that is completed; and it counts as something that was done, as a frame on the wire does
abbrev pub told_of : State → Entry → State
told_of s (entries.Complete packet status) = record (spoke s (packet_driver s packet.0)) { expired = 0 }
told_of s (entries.WireOut a bytes) = record s { expired = 0 }
told_of s _ = s

abbrev pub IsLight : Entry → Type 0
IsLight e = (is_light e ≡ true) × InRange e

-- a call that is being answered: whose it is, its import, and the reply
pub record Serving : Type 0 where
  pub inputs : Inputs
  pub context : CtxNo
  pub import : ℕ
  pub reply : Reply

-- the context's call of this import is open; these entries must stand, and then its reply, which is what the import's row answers; there is room for them,
-- for the reply, and to stop every adapter
pub record IsMaking (v : Serving) (es : List Entry) (r : Running) : Type 0 where
  pub answering : IsAnswering (point_of v.inputs r) r
  pub next : (state_of v.inputs r).next ≡ Makes v.context es []
  pub silent : (state_of v.inputs r).owner.next ≡ owners.Free
  pub light : AllByRecursion IsLight es
  pub call : Calling
  pub called : call_at (state_of v.inputs r) v.context.0 ≡ Some call
  pub number : call.import ≡ v.import
  pub plain : call.writes ≡ []
  pub by_row : is_by_row call.wait ≡ true
  pub comes : IsAnswer (state_of v.inputs r) v.context call.import call.words v.reply r.world
  pub most : v.reply.cost ≤ 2 ^ 33
  pub returns : CanReturn (state_of v.inputs r) v.context
  pub fed : list_any is_memory_stop r.log.entries ≡ false
  pub time : clock (state_of v.inputs r) + longest_time < 2 ^ 64
  pub room : stop_room (state_of v.inputs r).owner + length es < r.log.spare

pub record MakesOn (v : Serving) (es : List Entry) (before r : Running) : Type 0 where
  pub making : IsMaking v es r
  pub longer : Lengthens before r

-- the entries behind the first one
abbrev pub made_due : Next → List Entry
made_due (Makes x es lent) = es
made_due _ = []

abbrev pub rest_of : Inputs → Running → List Entry
rest_of c r = drop 1 (made_due (state_of c r).next)
