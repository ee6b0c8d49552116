-- How a handler is entered, whole: from a point where nothing must stand to the next one. (What an `enter` carries: crates/legal_run/specs/Enters.antt; what
-- must stand behind it: After.antt and Must.antt there; the project's own: docs/LEGAL-RUN.md.)
use Rattle.std.specs.Prelude.{◌≡◌, ◌⊎◌, ◌<◌, ℕ, Bool, true, false, List, [], ◌∷◌, ◌++◌, Option, Some, None, Result, Ok, Err}
use Rattle.std.specs.List.{list_all}
use Rattle.nd_base.specs.declared.OutOfMemory.{OutOfMemory}
use Rattle.nd_base.specs.declared.numbers.AdapterNo.{AdapterNo}
use Rattle.nd_base.specs.declared.numbers.CtxNo.{CtxNo}
use Rattle.log_fields.specs.declared.write.Write.{Write}
use Rattle.log_fields.specs.declared.field_values.Handler.{Handler}
use Rattle.log_fields.specs.declared.field_values.Handler.TheVariants as handler
use Rattle.call_log.specs.declared.entry.Entry.{Entry}
use Rattle.call_log.specs.declared.entry.Entry.TheVariants as entries
use Rattle.legal_run.specs.State.{Inputs, State, is_free}
use Rattle.legal_run.specs.Owed.{owes_entry}
use Rattle.legal_run.specs.Enters.{carries}
use Rattle.legal_run.specs.EntryLaws.{is_forced}
use Rattle.legal_run.specs.VerdictLaws.{is_send}
use Rattle.legal_run.specs.Run.{now}
use Rattle.handler_words.specs.Ready.{number_of}
use Rattle.owed_handlers.specs.declared.choice.Owed.{Owed}
use Rattle.owed_handlers.specs.declared.choice.Owed.TheVariants as owed
use Rattle.run_facts.specs.Facts.{IsOfRun}
use Rattle.run_moves.specs.declared.running.Running.{Running}
use Rattle.run_stops.specs.Standing.{IsLost, IsSettled}

-- the begin of a reset stands directly in front of the `enter` of its handler; in front of no other anything must
abbrev pub begin_of : Option AdapterNo → Handler → List Entry
begin_of (Some a) handler.Reset = entries.ResetBegin a ∷ []
begin_of _ _ = []

-- nothing stands in front of its `enter`, and it is entered for no packet, loan or request that must stand behind it
abbrev pub is_alone : Handler → Bool
is_alone handler.Reset = false
is_alone handler.Send = false
is_alone handler.SendPackets = false
is_alone handler.ReturnPacket = false
is_alone handler.Query = false
is_alone handler.Set = false
is_alone _ = true

-- the run goes on by the `enter` of this handler in that context, which carries what it must where it stands; and behind it by what must stand, until
-- nothing must
pub record EntersBy (c : Inputs) (a : Option AdapterNo) (x : CtxNo) (h : Handler) (before r : Running) : Type 0 where
  pub settled : IsSettled c r
  pub words : List ℕ
  pub writes : List Write
  pub carried : carries c (now c (before.log.entries ++ begin_of a h)) (number_of a) x.0 h words writes ≡ true
  pub more : List Entry
  pub forced : list_all is_forced more ≡ true
  pub written : r.log.entries ≡ before.log.entries ++ (begin_of a h ++ entries.Enter a x h words writes ∷ more)

-- memory was wanted: no handler was entered, though a reset may have begun
pub record IsUnentered (c : Inputs) (a : Option AdapterNo) (h : Handler) (before r : Running) : Type 0 where
  pub lost : IsLost c before r
  pub written : (r.log.entries ≡ before.log.entries) ⊎ (r.log.entries ≡ before.log.entries ++ begin_of a h)

abbrev pub EntersByOr : Inputs → Option AdapterNo → CtxNo → Handler → Running → Running → Result (Unit {0}) OutOfMemory → Type 0
EntersByOr c a x h before r (Ok _) = EntersBy c a x h before r
EntersByOr c a x h before r (Err _) = IsUnentered c a h before r

-- ---- what is owed

abbrev pub first_context : CtxNo
first_context = record { 0 = 0 }

-- an adapter's handler in a context that is given, DriverEntry in the first one
abbrev pub EntersOwed : Inputs → CtxNo → Owed → Running → Running → Result (Unit {0}) OutOfMemory → Type 0
EntersOwed c x owed.Entry before r result = EntersByOr c None first_context handler.DriverEntry before r result
EntersOwed c x (owed.Handler a h) before r result = EntersByOr c (Some a) x h before r result

-- packets are handed to it
abbrev pub sends : Owed → Bool
sends owed.Entry = false
sends (owed.Handler a h) = is_send h

-- ---- laws

-- before DriverEntry is entered every context is free
abbrev pub AllAreFree : Type 0
AllAreFree = (c : Inputs) (s : State) (x : ℕ) → IsOfRun c s → owes_entry c s ≡ true → x < 16 → is_free s x ≡ true
