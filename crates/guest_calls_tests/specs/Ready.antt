-- When a call of context 0, of adapter 0 or of none, may be answered.
use Rattle.std.specs.Prelude.{◌<◌, ◌+◌, ◌^◌, Some, IsSome}
use Rattle.nd_base.specs.declared.numbers.AdapterNo.{AdapterNo}
use Rattle.nd_base.specs.declared.numbers.CtxNo.{CtxNo}
use Rattle.irql_lock.specs.LockState.{IsOpen}
use Rattle.guest_world.specs.declared.world.World.{World}
use Rattle.guest_world.specs.Worlds.{IsIdle, adapter_of, longest_time}

abbrev pub first : CtxNo
first = record { 0 = 0 }

abbrev pub only : AdapterNo
only = record { 0 = 0 }

pub record IsReady (w : World) : Type 0 where
  pub opened : IsOpen w.levels first
  pub idle : IsIdle w
  pub moments : w.clock.clock + longest_time < 2 ^ 64
  pub there : IsSome (adapter_of w (Some only))
