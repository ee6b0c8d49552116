-- A reply, and a sleep before it, as the log tells them.
use Rattle.std.proofs.Common.{◌≡◌, ℕ, ◌+◌, ◌-◌, ◌*◌, ◌^◌, ◌<◌, ◌≤◌, Bool, true, false, List, [], ◌∷◌, ◌++◌, ◌==◌, refl, sym, ap, ◌∙◌, subst, arith}
use Rattle.std.specs.Prelude.{nat_le, if◌then◌else◌}
use Rattle.std.specs.FinMap as table
use Rattle.nd_mem.specs.Space.{Space}
use Rattle.ia32_step.specs.Registers.{Registers}
use Rattle.ia32_step.specs.Machine.{Machine, machine}
use Rattle.dpc_timer.specs.ClockState.{ClockState, Rise, moved}
use Rattle.log_fields.specs.declared.field_values.Cause.TheVariants as cause
use Rattle.call_log.specs.declared.entry.Entry.{Entry}
use Rattle.call_log.specs.declared.entry.Entry.TheVariants as entries
use Rattle.import_table.specs.Table.{Row, row_of}
use Rattle.guest_world.specs.declared.world.World.{World}
use Rattle.guest_world.specs.declared.answer.Reply.{Reply}
use Rattle.import_answers.specs.Outcomes.{plain, resumed}
use Rattle.legal_run.specs.Guest.{with_writes}
use Rattle.legal_run.specs.State.{Stops}
use Rattle.legal_run.specs.Laws.{RunLaws}
use Rattle.legal_run.specs.Replies.{returned}
use Rattle.legal_run.specs.Run.{Meets, Reaches}
use Rattle.legal_run.specs.After.{after, spent}
use Rattle.entry_run.specs.Alone.{Kept, shown}
use Rattle.entry_run.specs.Laws.{EntryLaws, Going, going, first, behind_reply, sleeping, at_moment}
use Rattle.entry_session.specs.declared.session.Session.{Session}
use Rattle.entry_session.specs.Session.{Setting, inputs, going_of}
use Rattle.entry_session.specs.Replying.{Asked, MayReply, Sleeping, MaySleep, IsAwake}
use Rattle.entry_session.proofs.Reaching.{goes, reached, adds_none}
use Rattle.entry_session.proofs.Turning.{with_parts, parts_are}

-- what is kept behind a reply, but for what must stand next
abbrev pub answered : Asked → Session → Reply → Going
answered o s reply =
    with_parts s.world (machine (returned (table.get s.world.memory) s.regs (row_of o.import) reply.eax) (with_writes s.world.memory reply.writes))
    (moved s.world.clock (Rise reply.cost)) (s.charged + reply.cost)

behind_is : (o : Asked) (s : Session) (reply : Reply) → MayReply o s reply → (b : Bool) → nat_le o.setting.budget (s.charged + reply.cost) ≡ b
    → behind_reply (inputs o.setting) o.going o.kept o.import reply s.world ≡ record (going (answered o s reply)) { next = spent (inputs o.setting) (shown o.kept) first b }
behind_is o s reply may b is =
    let cells : returned (table.get o.going.world.memory) o.going.registers (row_of o.import) reply.eax ≡ returned (table.get s.world.memory) s.regs (row_of o.import) reply.eax =
    ap (λ (x : Space). returned (table.get x) o.going.registers (row_of o.import) reply.eax) (sym may.memory) ∙ ap (λ (x : Registers). returned (table.get s.world.memory) x (row_of o.import) reply.eax) (sym may.registers) in
    let at : nat_le o.setting.budget (o.kept.charged + reply.cost) ≡ b = ap (λ (x : ℕ). nat_le o.setting.budget (x + reply.cost)) (may.kept ∙ sym may.charged) ∙ is in
    ap (λ (x : Registers). record (behind_reply (inputs o.setting) o.going o.kept o.import reply s.world) { registers = x }) cells
    ∙ ap (λ (x : ℕ). record (behind_reply (inputs o.setting) o.going o.kept o.import reply s.world) { registers = returned (table.get s.world.memory) s.regs (row_of o.import) reply.eax; charged = x + reply.cost }) (sym may.charged)
    ∙ ap (λ (x : Bool). record (going (answered o s reply)) { next = spent (inputs o.setting) (shown o.kept) first x }) (reached o.setting o.kept reply.cost ∙ at)

logged : RunLaws → (o : Asked) (s : Session) (reply : Reply) → MayReply o s reply → (more : List Entry) → more ≡ s.log.entries ++ entries.Reply first reply.eax reply.writes ∷ []
    → (k : Kept) → behind_reply (inputs o.setting) o.going o.kept o.import reply s.world ≡ k → Reaches (inputs o.setting) more (shown k)
logged runs o s reply may more is k kept =
    goes runs (inputs o.setting) s.log.entries more (entries.Reply first reply.eax reply.writes) (shown o.kept) (shown k) may.reached may.meets (may.leaves ∙ ap shown kept) is

-- the call goes on behind it, where the budget is not reached
pub replied_on : RunLaws → (o : Asked) (s : Session) (reply : Reply) → MayReply o s reply → (more : List Entry) → more ≡ s.log.entries ++ entries.Reply first reply.eax reply.writes ∷ []
    → (m : Machine) (clock : ClockState) (charged : ℕ) → m ≡ machine (returned (table.get s.world.memory) s.regs (row_of o.import) reply.eax) (with_writes s.world.memory reply.writes)
    → clock ≡ moved s.world.clock (Rise reply.cost) → charged ≡ s.charged + reply.cost → nat_le o.setting.budget charged ≡ false
    → Reaches (inputs o.setting) more (shown (going (with_parts s.world m clock charged)))
replied_on runs o s reply may more is m clock charged made rises sum under =
    logged runs o s reply may more is (going (with_parts s.world m clock charged))
    (behind_is o s reply may false (ap (nat_le o.setting.budget) (sym sum) ∙ under) ∙ ap going (parts_are s.world _ m _ clock _ charged (sym made) (sym rises) (sym sum)))

-- ... where it is
pub replied_out : RunLaws → (o : Asked) (s : Session) (reply : Reply) → MayReply o s reply → (more : List Entry) → more ≡ s.log.entries ++ entries.Reply first reply.eax reply.writes ∷ []
    → (charged : ℕ) → charged ≡ s.charged + reply.cost → nat_le o.setting.budget charged ≡ true
    → Reaches (inputs o.setting) more (shown (record (going (answered o s reply)) { next = Stops cause.Budget [] }))
replied_out runs o s reply may more is charged sum over =
    logged runs o s reply may more is (record (going (answered o s reply)) { next = Stops cause.Budget [] }) (behind_is o s reply may true (ap (nat_le o.setting.budget) (sym sum) ∙ over))

-- ---- a sleep

resumed_plain : (n : ℕ) → resumed n 0 ≡ plain 0 []
resumed_plain n = ap (λ (x : ℕ). plain x []) (same (n == 15))
  where
    same : (b : Bool) → ◌≡◌ {A = ℕ} (if b then 0 else 0) 0
    same true = refl
    same false = refl

-- the call wakes: its moment has come
pub wakes : EntryLaws → (o : Sleeping) (b s : Session) (reply : Reply) → IsAwake o b s → reply ≡ resumed o.import 0
    → MayReply (record { setting = o.setting; going = going_of s; import = o.import; kept = sleeping (going_of s) o.import o.words o.wake }) s reply
wakes laws o b s reply may is =
    let c = o.setting in
    let law = laws.wakes c.image c.slots c.budget c.layout (going_of s) o.import o.words o.wake may.come in
    let asked : Asked = record { setting = c; going = going_of s; import = o.import; kept = sleeping (going_of s) o.import o.words o.wake } in
    subst (λ (r : Reply). MayReply asked s r) (sym (is ∙ resumed_plain o.import)) (record {
      reached = may.reached;
      meets = law.0;
      leaves = law.1;
      memory = refl;
      registers = refl;
      charged = refl;
      kept = refl;
      returns = may.returns;
      cost = (omega arith, omega arith);
      time = may.time;
      budget = may.budget;
      alone = may.alone;
    })

-- the clock has gone on to the moment of a call that sleeps
pub jumped : RunLaws → EntryLaws → (o : Sleeping) (s : Session) → MaySleep o s → s.world.clock.clock < o.wake → (clock : ClockState) → clock ≡ moved s.world.clock (Rise (o.wake - s.world.clock.clock))
    → (more : List Entry) → more ≡ s.log.entries ++ entries.Time o.wake ∷ []
    → Reaches (inputs o.setting) more (shown (sleeping (going_of (record s { world = record s.world { clock = clock } })) o.import o.words o.wake))
jumped runs laws o s may less clock rises more is =
    let c = o.setting in
    let law = laws.jump c.image c.slots c.budget c.layout (going_of s) o.import o.words o.wake less in
    let at : clock ≡ record s.world.clock { clock = o.wake } = rises ∙ ap (λ (x : ℕ). record s.world.clock { clock = x }) (omega arith) in
    let there = goes runs (inputs c) s.log.entries more (entries.Time o.wake) (shown (sleeping (going_of s) o.import o.words o.wake)) _ may.reached law.0 law.1 is in
    subst (λ (x : ClockState). Reaches (inputs c) more (shown (sleeping (going_of (record s { world = record s.world { clock = x } })) o.import o.words o.wake))) (sym at) there

-- nothing has to be waited for
pub awake : (o : Sleeping) (s : Session) → MaySleep o s → o.wake ≤ s.world.clock.clock → IsAwake o s s
awake o s may come =
    let time : s.world.clock.clock ≤ s.charged * 2 ^ 33 = may.time in
    record { reached = may.reached; come = come; returns = may.returns; time = omega (arith, time); budget = may.budget; alone = may.alone; charged = refl; added = adds_none s.log.entries s.log.entries refl }

pub woken_time : (before after : ClockState) (n wake : ℕ) → after ≡ moved before (Rise (wake - before.clock)) → before.clock < wake → wake ≤ before.clock + 2 ^ 32 → before.clock ≤ n * 2 ^ 33 → (wake ≤ after.clock) × (after.clock ≤ n * 2 ^ 33 + 2 ^ 32)
woken_time before after n wake rises later near time =
    let is : after.clock ≡ before.clock + (wake - before.clock) = ap (λ (x : ClockState). x.clock) rises in (omega (arith, is), omega (arith, is))
