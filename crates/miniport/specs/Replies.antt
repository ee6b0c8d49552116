-- What the reply of an open call needs.
use Rattle.std.specs.Prelude.{◌≡◌, ◌≤◌, ◌<◌, ◌+◌, ◌^◌, false, None, Some}
use Rattle.nd_base.specs.declared.numbers.CtxNo.{CtxNo}
use Rattle.nd_mem.specs.Space.{first_fault, Reading}
use Rattle.ia32_step.specs.Registers.{Registers, general_of, ESP}
use Rattle.call_log.specs.declared.entry.Entry.TheVariants as entries
use Rattle.guest_world.specs.declared.answer.Reply.{Reply}
use Rattle.guest_world.specs.declared.world.World.{World}
use Rattle.legal_run.specs.State.{Context, cells, context_at}
use Rattle.legal_run.specs.After.{reaches}
use Rattle.legal_run.specs.Replies.{answered}
use Rattle.legal_run.specs.Run.{Meets}
use Rattle.miniport_state.specs.Seen.{Point}

-- a context behind its call
abbrev pub resumed : Registers → Context → Context
resumed registers x = record x { registers = registers; call = None }

-- the entry may stand; it is the answer to the context's open call, and this is the world that the answer leaves, but for its writes; the call can return
pub record MayReply (o : Point) (x : CtxNo) (reply : Reply) (w : World) : Type 0 where
  pub number : x.0 < 16
  pub meets : Meets o.inputs o.state (entries.Reply x reply.eax reply.writes)
  pub given : Reply
  pub found : answered o.state x (record { eax = reply.eax; writes = reply.writes }) ≡ Some (given, w)
  pub same : given.cost ≡ reply.cost
  pub most : reply.cost ≤ 2 ^ 33
  pub unspent : reaches o.inputs o.state x 0 ≡ false
  pub memory : w.memory ≡ o.state.world.memory
  pub returns : first_fault Reading (cells o.state) (general_of (context_at o.state x.0).registers ESP) 4 ≡ None
  pub time : w.clock.clock + reply.cost < 2 ^ 64
