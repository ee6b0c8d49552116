-- The library's own places in guest memory, which may be read in every state of a run: where MiniportISR answers, the answer to a request, and the
-- status of a packet in its send slot. (Where they stand: docs/MEMORY.md.)
use Rattle.std.specs.Prelude.{◌≤◌, ◌<◌, ℕ, length}
use Rattle.nd_base.specs.Layout.{IsSound}
use Rattle.nd_base.specs.declared.numbers.CtxNo.{CtxNo}
use Rattle.guest_map.specs.Regions.{adapters, contexts, drivers}
use Rattle.pe_image.specs.Image.{IsLaidOut}
use Rattle.log_fields.specs.declared.field_values.Handler.{Handler}
use Rattle.legal_run.specs.State.{Inputs, State, adapter_of, context_at, handler_of}
use Rattle.handler_leaves.specs.Leaves.{IsRead}
use Rattle.verdict_parts.specs.Places.{HasSlotStatus}
use Rattle.leave_verdicts.specs.Judged.{CanJudgeOf}
use Rattle.call_verdicts.specs.Deeds.{CanEnd}
use Rattle.run_facts.specs.Facts.{IsOfRun}

-- what a run is given fits the guest's map: the image lies in its space, fields in their objects, and there are no more adapters and drivers than places
pub record FitsMap (c : Inputs) : Type 0 where
  pub image : IsLaidOut c.image
  pub layout : IsSound c.layout
  pub adapters : length c.adapters ≤ adapters
  pub drivers : length c.drivers ≤ drivers

pub record OwnPlacesAreReadable : Type 0 where
  -- where MiniportISR answers
  pub answers : (c : Inputs) (s : State) (x : CtxNo) (h : Handler) → FitsMap c → IsOfRun c s → x.0 < contexts → IsRead s x h
  -- what answers the request of an adapter that is handed
  pub ends : (c : Inputs) (s : State) (a : ℕ) → FitsMap c → IsOfRun c s → a < adapters → CanEnd s a
  -- what answers the request that a handler was entered for
  pub judges : (c : Inputs) (s : State) (x : CtxNo) → FitsMap c → IsOfRun c s → CanJudgeOf s (adapter_of s x.0) (context_at s x.0).subject (handler_of s x.0)
  -- the status of a packet in its send slot
  pub statuses : (c : Inputs) (s : State) (k : ℕ) → FitsMap c → IsOfRun c s → HasSlotStatus s k
