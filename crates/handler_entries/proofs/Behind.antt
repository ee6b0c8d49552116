-- An enter, as the run tells it.
use Rattle.std.proofs.Common.{◌≡◌, ℕ, List, Option, None, Some, Ok, refl, sym, ap, ◌∙◌, subst}
use Rattle.std.specs.Prelude.{slice_set}
use Rattle.std.specs.Option.{option_map}
use Rattle.std.proofs.lemmas.List.{length-set}
use Rattle.nd_base.specs.declared.numbers.AdapterNo.{AdapterNo}
use Rattle.nd_base.specs.declared.numbers.CtxNo.{CtxNo}
use Rattle.nd_mem.specs.Space.{Space}
use Rattle.ia32_step.specs.Registers.{Registers}
use Rattle.irql_lock.specs.LockState.{LockState, context_of}
use Rattle.irql_lock.specs.LockMoves as levels
use Rattle.log_fields.specs.declared.write.Write.{Write}
use Rattle.log_fields.specs.declared.field_values.Handler.{Handler}
use Rattle.log_fields.specs.declared.field_values.Handler.TheVariants as handler
use Rattle.call_log.specs.declared.entry.Entry.TheVariants as entries
use Rattle.guest_world.specs.declared.world.World.{World}
use Rattle.owner_machine.specs.State.{Owner}
use Rattle.owner_machine.specs.Machine as owners
use Rattle.legal_run.specs.Guest.{entered_memory, entered_registers, stack_pointer}
use Rattle.legal_run.specs.State.{Inputs, State, Context, Next, OnSync, Entered}
use Rattle.legal_run.specs.Owed.{due_timer, sync_caller}
use Rattle.legal_run.specs.Enters.{address_of, level_of}
use Rattle.legal_run.specs.After.{begun, fired, leveled, levels_behind, number_in, subject_of, taken, with_wait}
use Rattle.miniport_state.specs.declared.adapters.Adapters.{Adapters}
use Rattle.miniport_state.specs.Seen.{Point, Keeps, IsAt, behind}
use Rattle.handler_entries.specs.Entries.{begun_by}

-- ---- an enter takes nothing from the world but from its clock

fires : (w : World) (t : Option ℕ) → fired w t ≡ record w { clock = (fired w t).clock }
fires w None = refl
fires w (Some t) = refl

waits : (s : State) (x : Option ℕ) → (with_wait s x (OnSync Entered)).world ≡ s.world
waits s None = refl
waits s (Some x) = refl

pub taken_world : (s : State) (a : ℕ) (h : Handler) (words : List ℕ) (writes : List Write) → (taken s a h words writes).world ≡ record s.world { clock = (taken s a h words writes).world.clock }
taken_world s a handler.Timer words writes = fires s.world (option_map (λ t. t.0) (due_timer s a))
taken_world s a handler.Sync words writes =
    let same = waits s (sync_caller s a) in
    same ∙ ap (λ (w : World). record s.world { clock = w.clock }) (sym same)
taken_world s a handler.DriverEntry words writes = refl
taken_world s a handler.Initialize words writes = refl
taken_world s a handler.HandleInterrupt words writes = refl
taken_world s a handler.EnableInterrupt words writes = refl
taken_world s a handler.CheckForHang words writes = refl
taken_world s a handler.Send words writes = refl
taken_world s a handler.SendPackets words writes = refl
taken_world s a handler.Halt words writes = refl
taken_world s a handler.Reset words writes = refl
taken_world s a handler.Isr words writes = refl
taken_world s a handler.DisableInterrupt words writes = refl
taken_world s a handler.ReturnPacket words writes = refl
taken_world s a handler.Query words writes = refl
taken_world s a handler.Set words writes = refl
taken_world s a handler.TransferData words writes = refl
taken_world s a handler.CancelSend words writes = refl
taken_world s a handler.PnpEvent words writes = refl
taken_world s a handler.Shutdown words writes = refl

pub still_closed : (s : State) (w : World) (a : ℕ) (h : Handler) (words : List ℕ) (writes : List Write) (x : CtxNo) → w ≡ (taken s a h words writes).world → context_of s.world.levels x ≡ None → context_of w.levels x ≡ None
still_closed s w a h words writes x is none = ap (λ (v : World). context_of v.levels x) (is ∙ taken_world s a h words writes) ∙ none

-- ---- what is kept behind it

kept_begun : (c : Inputs) (t : State) (x : ℕ) (y z : Context) (owner : Owner) (world : World) (expired : ℕ) (next : Next) (m : Adapters) (ran : List ℕ) (runs : ℕ) → Keeps c t m → y ≡ z
    → Keeps c (record t { owner = owner; world = world; contexts = slice_set t.contexts x z; expired = expired; next = next }) (record m { contexts = slice_set m.contexts x y; ran = ran; runs = runs })
kept_begun c t x y z owner world expired next m ran runs k same = record {
  rows = ap (λ (cs : List Context). slice_set cs x y) k.rows ∙ ap (slice_set t.contexts x) same;
  sixteen = length-set m.contexts x y ∙ k.sixteen;
  entry = k.entry;
  come = k.come;
  own = k.own;
  each = k.each;
  count = k.count;
  few = k.few;
  small = k.small;
  levels = k.levels;
  most = k.most;
  begins = k.begins;
  ends = k.ends;
}

pub entered_on : (o : Point) (adapter : Option AdapterNo) (x : CtxNo) (h : Handler) (words : List ℕ) (writes : List Write) (level address esp : ℕ) (registers : Registers) (subject : List ℕ)
    (m1 m2 m3 : Adapters) (book : Owner) (w : World) (l : LockState) (memory : Space)
    → let n = number_in o.inputs adapter in
    address ≡ address_of o.inputs o.state n h → level ≡ level_of o.inputs n h → esp ≡ stack_pointer x.0 words → registers ≡ entered_registers esp address
    → subject ≡ subject_of o.state n h words
    → Keeps o.inputs (taken o.state n h words writes) m1 → w ≡ (taken o.state n h words writes).world
    → levels.moved w.levels (levels.Begin x level) ≡ Ok l → memory ≡ entered_memory w.memory x.0 words writes
    → m2 ≡ record m1 { contexts = slice_set m1.contexts x.0 (begun_by registers subject) } → m3 ≡ record m2 { ran = m3.ran; runs = m3.runs }
    → book ≡ owners.after o.state.owner (entries.Enter adapter x h words writes)
    → IsAt (behind o (entries.Enter adapter x h words writes)) m3 book (record w { memory = memory; levels = l })
entered_on o adapter x h words writes level address esp registers subject m1 m2 m3 book w l memory place high low made about keeps same moved put two three admitted =
    let s = o.state in
    let n = number_in o.inputs adapter in
    let t = taken s n h words writes in
    let y = begun_by registers subject in
    let z = begun o.inputs s n x h words in
    let alike : y ≡ z =
    ap (λ (r : Registers). begun_by r subject) (made ∙ ap (λ e. entered_registers e address) low ∙ ap (entered_registers (stack_pointer x.0 words)) place)
    ∙ ap (begun_by (entered_registers (stack_pointer x.0 words) (address_of o.inputs s n h))) about in
    let whole : m3 ≡ record m1 { contexts = slice_set m1.contexts x.0 y; ran = m3.ran; runs = m3.runs } = three ∙ ap (λ (m : Adapters). record m { ran = m3.ran; runs = m3.runs }) two in
    let kept : w.memory ≡ s.world.memory = ap (λ (v : World). v.memory) (same ∙ taken_world s n h words writes) in
    let spaces : memory ≡ entered_memory s.world.memory x.0 words writes = put ∙ ap (λ (mem : Space). entered_memory mem x.0 words writes) kept in
    record {
      keeps = subst (Keeps o.inputs (behind o (entries.Enter adapter x h words writes)).state) (sym whole) (kept_begun o.inputs t x.0 y z _ _ _ _ m1 m3.ran m3.runs keeps alike);
      owner = admitted;
      world =
          ap (λ (k : LockState). record w { memory = memory; levels = k }) (sym (ap (levels_behind w.levels) moved))
          ∙ ap (λ (k : ℕ). record (leveled w (levels.Begin x k)) { memory = memory }) high
          ∙ ap (λ (v : World). record (leveled v (levels.Begin x (level_of o.inputs n h))) { memory = memory }) same
          ∙ ap (λ (mem : Space). record (leveled t.world (levels.Begin x (level_of o.inputs n h))) { memory = mem }) spaces;
    }
