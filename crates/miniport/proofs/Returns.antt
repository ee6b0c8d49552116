-- A reply, as the run tells it.
use Rattle.std.proofs.Common.{◌≡◌, ℕ, Bool, true, false, List, [], ◌∷◌, Option, None, Some, refl, sym, ap, ◌∙◌, subst}
use Rattle.std.specs.Prelude.{if◌then◌else◌, slice_index_or, slice_set}
use Rattle.std.specs.FinMap as table
use Rattle.nd_base.specs.declared.numbers.AdapterNo.{AdapterNo}
use Rattle.nd_base.specs.declared.numbers.CtxNo.{CtxNo}
use Rattle.nd_mem.specs.Space.{Space, address, first_fault, Reading}
use Rattle.ia32_step.specs.Registers.{Registers, general_of, ESP}
use Rattle.dpc_timer.specs.ClockState.{ClockState, Cancel, Rise, moved}
use Rattle.call_log.specs.declared.entry.Entry.TheVariants as entries
use Rattle.import_table.specs.Table.{Row, row_of}
use Rattle.guest_world.specs.declared.answer.Reply.{Reply}
use Rattle.guest_world.specs.declared.world.World.{World}
use Rattle.owner_machine.specs.State.{Owner}
use Rattle.owner_machine.specs.Machine as owners
use Rattle.legal_run.specs.Guest.{with_writes}
use Rattle.legal_run.specs.State.{State, Context, Next, no_context, cells, context_at, adapter_of, alive}
use Rattle.legal_run.specs.Replies.{Answered, answered, returned}
use Rattle.legal_run.specs.After.{cancelled, charge_to, import_of, quiet_if_off, quieted, registered, replied, with_context, with_world}
use Rattle.miniport_state.specs.declared.adapters.Adapters.{Adapters}
use Rattle.miniport_state.specs.Seen.{Point, Keeps, IsAt, behind}
use Rattle.miniport.specs.Replies.{MayReply, resumed}
use Rattle.miniport.proofs.Instructions.{kept_charged, repacked, charged_world}

-- ---- the clock's moment stays where timers are cancelled

cancelled_moment : (k : ClockState) (ts : List ℕ) → (cancelled k ts).clock ≡ k.clock
unfolding cancelled
cancelled_moment k [] = refl
cancelled_moment k (t ∷ ts) = cancelled_moment (moved k (Cancel (address t))) ts

pub quiet_moment : (s : State) (w : World) (adapter : Option AdapterNo) → (quiet_if_off s w adapter).clock.clock ≡ w.clock.clock
quiet_moment s w None = refl
quiet_moment s w (Some a) = of (alive s a.0)
  where
    of : (b : Bool) → (if b then w else quieted s w a.0).clock.clock ≡ w.clock.clock
    of true = refl
    of false = cancelled_moment w.clock _

-- ---- what is kept behind a reply

-- the context behind its call
pub row_behind : (o : Point) (x : CtxNo) (m : Adapters) (row : Row) (eax : ℕ) (memory : Space) (registers : Registers) → Keeps o.inputs o.state m → row ≡ row_of (import_of o.state x) → memory ≡ o.state.world.memory
    → registers ≡ returned (table.get memory) (slice_index_or m.contexts x.0 no_context).registers row eax
    → slice_set m.contexts x.0 (resumed registers (slice_index_or m.contexts x.0 no_context))
    ≡ slice_set o.state.contexts x.0 (resumed (returned (cells o.state) (context_at o.state x.0).registers (row_of (import_of o.state x)) eax) (context_at o.state x.0))
row_behind o x m row eax memory registers keeps is same made =
    let r : registers ≡ returned (cells o.state) (slice_index_or m.contexts x.0 no_context).registers (row_of (import_of o.state x)) eax =
    made
    ∙ ap (λ (mem : Space). returned (table.get mem) (slice_index_or m.contexts x.0 no_context).registers row eax) same
    ∙ ap (λ (rw : Row). returned (cells o.state) (slice_index_or m.contexts x.0 no_context).registers rw eax) is in
    ap (λ (q : Registers). slice_set m.contexts x.0 (resumed q (slice_index_or m.contexts x.0 no_context))) r
    ∙ ap (λ (cs : List Context). slice_set cs x.0 (resumed (returned (cells o.state) (slice_index_or cs x.0 no_context).registers (row_of (import_of o.state x)) eax) (slice_index_or cs x.0 no_context))) keeps.rows

pub returns_there : (o : Point) (x : CtxNo) (m : Adapters) (memory : Space) → Keeps o.inputs o.state m → memory ≡ o.state.world.memory
    → first_fault Reading (cells o.state) (general_of (context_at o.state x.0).registers ESP) 4 ≡ None
    → first_fault Reading (table.get memory) (general_of (slice_index_or m.contexts x.0 no_context).registers ESP) 4 ≡ None
returns_there o x m memory keeps same h =
    ap (λ (mem : Space). first_fault Reading (table.get mem) (general_of (slice_index_or m.contexts x.0 no_context).registers ESP) 4) same
    ∙ ap (λ (cs : List Context). first_fault Reading (cells o.state) (general_of (slice_index_or cs x.0 no_context).registers ESP) 4) keeps.rows ∙ h

charged_owner : (s : State) (w : World) (x : ℕ) (y : Context) (adapter : Option AdapterNo) (n : ℕ) (owner : Owner)
    → registered (charge_to (with_context (with_world s w) x y) adapter n) owner ≡ registered (record s { world = w }) owner
charged_owner s w x y None n owner = refl
charged_owner s w x y (Some a) n owner = refl

abbrev given_in : Option Answered → Answered → Answered
given_in None d = d
given_in (Some p) d = p

-- what is kept behind it, where the answer is this one
kept_by : (o : Point) (x : CtxNo) (reply : Reply) (found : Option Answered) (given : Reply) (w v : World) (contexts : List Context) (adapter : Option AdapterNo) (m2 m3 : Adapters) (book : Owner) (clock : ClockState)
    → found ≡ Some (given, w) → given.cost ≡ reply.cost → adapter ≡ adapter_of o.state x.0
    → contexts ≡ slice_set o.state.contexts x.0 (resumed (returned (cells o.state) (context_at o.state x.0).registers (row_of (import_of o.state x)) reply.eax) (context_at o.state x.0))
    → v ≡ quiet_if_off o.state (record w { memory = with_writes w.memory reply.writes }) adapter
    → Keeps o.inputs (charge_to (record o.state { contexts = contexts }) adapter reply.cost) m2 → m3 ≡ record m2 { ran = m3.ran; runs = m3.runs }
    → book ≡ registered (record o.state { world = v }) (owners.after o.state.owner (entries.Reply x reply.eax reply.writes)) → clock ≡ moved v.clock (Rise reply.cost)
    → (expired : ℕ) (next : Next)
    → let t = replied o.state x (record { eax = reply.eax; writes = reply.writes }) found in
    IsAt (record { inputs = o.inputs; state = record t { owner = registered t (owners.after o.state.owner (entries.Reply x reply.eax reply.writes)); expired = expired; next = next } }) m3 book (record v { clock = clock })
kept_by o x reply None given w v contexts adapter m2 m3 book clock is cost own row quiet charged ran told rises expired next = cc
kept_by o x reply (Some (other, u)) given w v contexts adapter m2 m3 book clock is cost own row quiet charged ran told rises expired next =
    let s = o.state in
    let mine = adapter_of s x.0 in
    let pair : ◌≡◌ {A = Answered} (other, u) (given, w) = ap (λ (f : Option Answered). given_in f (other, u)) is in
    let n : reply.cost ≡ other.cost = sym cost ∙ sym (ap (λ (p : Answered). p.0.cost) pair) in
    let y = resumed (returned (cells s) (context_at s x.0).registers (row_of (import_of s x)) reply.eax) (context_at s x.0) in
    let q = quiet_if_off s (record u { memory = with_writes u.memory reply.writes }) mine in
    let left : v ≡ q =
    quiet ∙ ap (quiet_if_off s (record w { memory = with_writes w.memory reply.writes })) own
    ∙ ap (λ (p : Answered). quiet_if_off s (record p.1 { memory = with_writes p.1.memory reply.writes }) mine) (sym pair) in
    let here = subst (λ (k : ℕ). Keeps o.inputs (charge_to (record s { contexts = contexts }) mine k) m2) n (subst (λ (a : Option AdapterNo). Keeps o.inputs (charge_to (record s { contexts = contexts }) a reply.cost) m2) own charged) in
    let kept = kept_charged o.inputs s x y q contexts mine other.cost m2 row here in
    let admitted = owners.after s.owner (entries.Reply x reply.eax reply.writes) in
    let t = charge_to (with_context (with_world s q) x.0 y) mine other.cost in
    record {
      keeps = subst (Keeps o.inputs (record t { owner = registered t admitted; expired = expired; next = next })) (sym ran) (repacked o.inputs t (registered t admitted) expired next m2 m3.ran m3.runs kept);
      owner = told ∙ ap (λ (v : World). registered (record s { world = v }) admitted) left ∙ sym (charged_owner s q x.0 y mine other.cost admitted);
      world =
          ap (λ (k : ClockState). record v { clock = k }) rises ∙ ap (λ (v : World). record v { clock = moved v.clock (Rise reply.cost) }) left
          ∙ ap (λ (k : ℕ). record q { clock = moved q.clock (Rise k) }) n ∙ sym (charged_world (with_context (with_world s q) x.0 y) mine other.cost);
    }

pub reply_kept : (o : Point) (x : CtxNo) (reply : Reply) (w v : World) (contexts : List Context) (adapter : Option AdapterNo) (m2 m3 : Adapters) (book : Owner) (clock : ClockState)
    → MayReply o x reply w → adapter ≡ adapter_of o.state x.0
    → contexts ≡ slice_set o.state.contexts x.0 (resumed (returned (cells o.state) (context_at o.state x.0).registers (row_of (import_of o.state x)) reply.eax) (context_at o.state x.0))
    → v ≡ quiet_if_off o.state (record w { memory = with_writes w.memory reply.writes }) adapter
    → Keeps o.inputs (charge_to (record o.state { contexts = contexts }) adapter reply.cost) m2 → m3 ≡ record m2 { ran = m3.ran; runs = m3.runs }
    → book ≡ registered (record o.state { world = v }) (owners.after o.state.owner (entries.Reply x reply.eax reply.writes)) → clock ≡ moved v.clock (Rise reply.cost)
    → IsAt (behind o (entries.Reply x reply.eax reply.writes)) m3 book (record v { clock = clock })
reply_kept o x reply w v contexts adapter m2 m3 book clock may own row quiet charged ran told rises =
    kept_by o x reply (answered o.state x (record { eax = reply.eax; writes = reply.writes })) may.given w v contexts adapter m2 m3 book clock may.found may.same own row quiet charged ran told rises _ _
