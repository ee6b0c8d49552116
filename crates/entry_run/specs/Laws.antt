-- How a run of DriverEntry alone begins and goes on: each entry that it may make, and what is kept behind it.
use Rattle.std.specs.Prelude.{◌≡◌, ℕ, ◌+◌, ◌<◌, ◌≤◌, Bool, true, false, List, [], Some, None, Ok, not, ◌==◌, if◌then◌else◌}
use Rattle.nd_base.specs.declared.numbers.Addr.{Addr}
use Rattle.nd_base.specs.declared.numbers.CtxNo.{CtxNo}
use Rattle.pe_image.specs.Image.{ImageParts}
use Rattle.ia32_step.specs.Registers.{general_of}
use Rattle.ia32_step.specs.Machine.{machine, outcome}
use Rattle.irql_lock.specs.LockMoves.{Begin}
use Rattle.dpc_timer.specs.ClockState.{Rise}
use Rattle.log_fields.specs.declared.field_values.FaultKind.{FaultKind}
use Rattle.log_fields.specs.declared.field_values.Handler.TheVariants.{DriverEntry, CancelSend, PnpEvent}
use Rattle.call_log.specs.declared.entry.Entry.{Entry}
use Rattle.call_log.specs.declared.entry.Entry.TheVariants as entries
use Rattle.legal_run.specs.Guest.{with_writes, driver_entry_words, entry_point, entered_memory, entered_registers, stack_pointer}
use Rattle.legal_run.specs.State.{Inputs, Free, Makes, Nothing, OnClock, start, start_world}
use Rattle.std.specs.FinMap as table
use Rattle.std.specs.Option.{option_map_or}
use Rattle.import_table.specs.Table.{row_of}
use Rattle.guest_world.specs.declared.answer.Reply.{Reply}
use Rattle.guest_world.specs.declared.answer.Answer.TheVariants.{Now}
use Rattle.import_answers.specs.Registration as registration
use Rattle.import_answers.specs.Outcomes.{Outcome, Sleeps, Comes, plain}
use Rattle.log_fields.specs.declared.field_values.Handler.{Handler}
use Rattle.legal_run.specs.Replies.{returned}
use Rattle.legal_run.specs.Run.{Meets, is_turn, faults_as, is_at_import, is_at_leave, call_words}
use Rattle.legal_run.specs.After.{after, turned, leveled, clocked, spent, reaches, calling, call_next}
use Rattle.legal_run.specs.Calls.{Breaking, Draws, did, outcome_of, leaves, leaves_even}
use Rattle.ia32_step.specs.Registers.{Registers}
use Rattle.guest_world.specs.declared.world.World.{World}
use Rattle.entry_run.specs.Alone.{alone, Kept, shown}

-- DriverEntry's context
abbrev pub first : CtxNo
first = record { 0 = 0 }

abbrev pub entering : Entry
entering = entries.Enter None first DriverEntry driver_entry_words []

-- what is kept behind its enter
abbrev pub entered : Inputs → Kept
entered c =
    let w = start_world c in
    record {
      world = record (leveled w (Begin first 0)) { memory = entered_memory w.memory 0 driver_entry_words [] };
      registers = entered_registers (stack_pointer 0 driver_entry_words) (entry_point c.image);
      call = None;
      charged = 0;
      cancelsend = false;
      pnpevent = false;
      next = Free;
    }

-- no call is open, and nothing must stand next
pub record Going : Type 0 where
  pub world : World
  pub registers : Registers
  pub charged : ℕ
  pub cancelsend : Bool
  pub pnpevent : Bool

abbrev pub going : Going → Kept
going g =
    record { world = g.world; registers = g.registers; call = None; charged = g.charged; cancelsend = g.cancelsend; pnpevent = g.pnpevent; next = Free }

-- what is kept behind a turn of n instructions, behind the call of an import, behind the end of the handler
abbrev pub behind_turn : Inputs → Going → ℕ → Kept
behind_turn c g n =
    let m = turned n (machine g.registers g.world.memory) in
    record (going g) {
      world = clocked (record g.world { memory = m.memory }) (Rise n);
      registers = m.registers;
      charged = g.charged + n;
      next = spent c (shown (going g)) first (reaches c (shown (going g)) first n);
    }

abbrev pub behind_call : Inputs → Going → ℕ → List ℕ → Kept
behind_call c g import words =
    let did = did (shown (going g)) first import words in
    record (going g) { call = Some (calling import words did); next = call_next c (shown (going g)) first words did }

-- a call that is answered at once: nothing stands between it and its reply
abbrev pub asking : Going → ℕ → List ℕ → Kept
asking g import words =
    record (going g) { call = Some (record { import = import; words = words; wait = Nothing; writes = [] }); next = Makes first [] [] }

-- a call that sleeps
abbrev pub sleeping : Going → ℕ → List ℕ → ℕ → Kept
sleeping g import words wake = record (going g) { call = Some (record { import = import; words = words; wait = OnClock wake; writes = [] }); next = Free }

-- a world's miniport has such a handler
abbrev pub has_handler_in : World → Handler → Bool
has_handler_in w h = not (option_map_or (λ m. registration.handler_of m h) w.miniport 0 == 0)

-- what an import's row says of a call of it
abbrev pub row_outcome : Going → ℕ → List ℕ → Outcome
row_outcome g import words = outcome_of (shown (going g)) first import words

-- what is kept behind a reply, with the world that the row leaves
abbrev pub behind_reply : Inputs → Going → Kept → ℕ → Reply → World → Kept
behind_reply c g asked import reply w =
    let written = record w { memory = with_writes w.memory reply.writes } in
    record asked {
      world = clocked written (Rise reply.cost);
      registers = returned (table.get g.world.memory) g.registers (row_of import) reply.eax;
      call = None;
      charged = g.charged + reply.cost;
      cancelsend = has_handler_in written CancelSend;
      pnpevent = has_handler_in written PnpEvent;
      next = spent c (shown asked) first (reaches c (shown asked) first reply.cost);
    }

-- the clock has gone on to a moment
abbrev pub at_moment : Going → ℕ → Going
at_moment g moment = record g { world = record g.world { clock = record g.world.clock { clock = moment } } }

pub record EntryLaws : Type 0 where
  -- it is entered first
  pub enter : (image : ImageParts) (slots : List ℕ) (budget : ℕ) (layout : List ℕ) →
      let c = alone image slots budget layout in Meets c (start c) entering × (after c (start c) entering ≡ shown (entered c))
  -- it makes turns
  pub turn : (image : ImageParts) (slots : List ℕ) (budget : ℕ) (layout : List ℕ) (g : Going) (n : ℕ) →
      let c = alone image slots budget layout in is_turn c (shown (going g)) first n ≡ true →
      Meets c (shown (going g)) (entries.Turn first n) × (after c (shown (going g)) (entries.Turn first n) ≡ shown (behind_turn c g n))
  -- at the slot of an import it calls it, with the words that stand there
  pub call : (image : ImageParts) (slots : List ℕ) (budget : ℕ) (layout : List ℕ) (g : Going) (import : ℕ) (words : List ℕ) →
      let c = alone image slots budget layout in is_at_import (outcome (machine g.registers g.world.memory)) import ≡ true →
      words ≡ call_words (shown (going g)) first import →
      Meets c (shown (going g)) (entries.Call first import words) × (after c (shown (going g)) (entries.Call first import words) ≡ shown (behind_call c g import words))
  -- a call that its row answers is answered at once
  pub asks : (g : Going) (image : ImageParts) (slots : List ℕ) (budget : ℕ) (layout : List ℕ) (import : ℕ) (words : List ℕ) (reply : Reply) (w : World) →
      Comes (row_outcome g import words) g.world (Ok (Now reply)) w → behind_call (alone image slots budget layout) g import words ≡ asking g import words
  pub reply : (image : ImageParts) (slots : List ℕ) (budget : ℕ) (layout : List ℕ) (g : Going) (import : ℕ) (words : List ℕ) (reply : Reply) (w : World) →
      let c = alone image slots budget layout in let e = entries.Reply first reply.eax reply.writes in
      Comes (row_outcome g import words) g.world (Ok (Now reply)) w →
      Meets c (shown (asking g import words)) e × (after c (shown (asking g import words)) e ≡ shown (behind_reply c g (asking g import words) import reply w))
  -- a call that sleeps waits for its moment; the clock goes on to it, where it is not there yet; and then the call is answered
  pub sleeps : (g : Going) (image : ImageParts) (slots : List ℕ) (budget : ℕ) (layout : List ℕ) (import : ℕ) (words : List ℕ) (wake : ℕ) →
      row_outcome g import words ≡ Sleeps wake → behind_call (alone image slots budget layout) g import words ≡ sleeping g import words wake
  pub jump : (image : ImageParts) (slots : List ℕ) (budget : ℕ) (layout : List ℕ) (g : Going) (import : ℕ) (words : List ℕ) (wake : ℕ) →
      let c = alone image slots budget layout in g.world.clock.clock < wake →
      Meets c (shown (sleeping g import words wake)) (entries.Time wake)
      × (after c (shown (sleeping g import words wake)) (entries.Time wake) ≡ shown (sleeping (at_moment g wake) import words wake))
  pub wakes : (image : ImageParts) (slots : List ℕ) (budget : ℕ) (layout : List ℕ) (g : Going) (import : ℕ) (words : List ℕ) (wake : ℕ) →
      let c = alone image slots budget layout in let s = sleeping g import words wake in wake ≤ g.world.clock.clock →
      Meets c (shown s) (entries.Reply first 0 []) × (after c (shown s) (entries.Reply first 0 []) ≡ shown (behind_reply c g s import (plain 0 []) g.world))
  -- at the address that handlers return to it leaves, with its EAX; a level or a lock that it keeps breaks rule 7, and nothing else does
  pub leave : (image : ImageParts) (slots : List ℕ) (budget : ℕ) (layout : List ℕ) (g : Going) (eax : ℕ) →
      let c = alone image slots budget layout in
      is_at_leave (outcome (machine g.registers g.world.memory)) ≡ true → general_of g.registers 0 ≡ eax → Meets c (shown (going g)) (entries.Leave first eax)
  pub even : (image : ImageParts) (slots : List ℕ) (budget : ℕ) (layout : List ℕ) (g : Going) (eax : ℕ) →
      leaves (alone image slots budget layout) (shown (going g)) first eax ≡ (if leaves_even (shown (going g)) first then Draws [] else Breaking 7)
  -- an instruction without a result ends it
  pub fault : (image : ImageParts) (slots : List ℕ) (budget : ℕ) (layout : List ℕ) (g : Going) (kind : FaultKind) (address : Addr) →
      let c = alone image slots budget layout in
      faults_as (outcome (machine g.registers g.world.memory)) kind address.0 ≡ true → Meets c (shown (going g)) (entries.Fault first kind address)
