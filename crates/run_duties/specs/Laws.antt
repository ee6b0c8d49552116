-- Duties of a run that are served: where something must stand, there is an entry that may. Each record is the contract of a function of src/laws.rt that
-- does nothing. (The duties of the owner machine: `DutyLaws` of crates/legal_run/specs/EntryLaws.antt.)
use Rattle.std.specs.Prelude.{◌≡◌, ℕ, ◌++◌, true, ◌&&◌, ◌==◌, List, [], ◌∷◌, length, slice_get, Option, Some, Ok}
use Rattle.std.specs.List.{list_any}
use Rattle.nd_base.specs.declared.numbers.Addr.{Addr}
use Rattle.nd_base.specs.declared.numbers.AdapterNo.{AdapterNo}
use Rattle.nd_base.specs.declared.numbers.CtxNo.{CtxNo}
use Rattle.nd_base.specs.declared.numbers.RequestNo.{RequestNo}
use Rattle.nd_base.specs.declared.numbers.Status.{Status}
use Rattle.log_fields.specs.declared.field_values.Cause.{Cause}
use Rattle.log_fields.specs.declared.field_values.Handler.{Handler}
use Rattle.call_log.specs.declared.entry.Entry.{Entry}
use Rattle.call_log.specs.declared.entry.Entry.TheVariants as entries
use Rattle.guest_world.specs.declared.answer.Answer.TheVariants.{Now}
use Rattle.guest_world.specs.declared.answer.Reply.{Reply}
use Rattle.guest_world.specs.declared.world.World.{World}
use Rattle.import_answers.specs.Outcomes.{Comes}
use Rattle.owner_machine.specs.declared.rows.Context.TheVariants.{Open}
use Rattle.owner_machine.specs.declared.rows.OpenCall.{OpenCall}
use Rattle.owner_machine.specs.State.{at, stands}
use Rattle.owner_machine.specs.Packets.{at_miniport}
use Rattle.legal_run.specs.State.{Inputs, Calling, Makes, Verdicts, adapter_of, call_at, context_at}
use Rattle.legal_run.specs.Calls.{outcome_of}
use Rattle.legal_run.specs.After.{after}
use Rattle.legal_run.specs.Must.{Due, Exactly, ReplyOf, must}
use Rattle.legal_run.specs.Run.{Run, Meets, now}
use Rattle.legal_run.specs.EntryLaws.{GoesOn}
use Rattle.legal_run.specs.VerdictLaws.{is_send}

-- ---- stops

pub record StopLaws : Type 0 where
  -- the adapters are those that were given
  pub adapters : (c : Inputs) (log : List Entry) → Run c log → length (now c log).owner.adapters ≡ length c.adapters
  -- the adapter of an open handler is there, and is not stopped
  pub handlers : (c : Inputs) (log : List Entry) (x : ℕ) (a : AdapterNo) → Run c log → adapter_of (now c log) x ≡ Some a → stands (now c log).owner a.0 ≡ true
  -- a stop that is due may stand: behind a breach, a fault, a spent budget, and behind another stop
  pub stops : (c : Inputs) (log : List Entry) (a : AdapterNo) (why : Cause) → Run c log → must (now c log) ≡ Some (Exactly (entries.Stop a why)) → GoesOn c (now c log)

-- ---- calls

pub record CallLaws : Type 0 where
  -- behind a call that waits for a lock its spin may stand
  pub spins : (c : Inputs) (log : List Entry) (x : CtxNo) (lock : Addr) → Run c log → must (now c log) ≡ Some (Exactly (entries.Spin x lock)) → GoesOn c (now c log)
  -- what a call makes may stand, one entry after the other: completions, loans, the end of a reset, answers, accesses to ports and what they send
  pub makes : (c : Inputs) (log : List Entry) (x : CtxNo) (e : Entry) (es : List Entry) (lent : List ℕ) → Run c log → (now c log).next ≡ Makes x (e ∷ es) lent → Meets c (now c log) e
  -- where a reply is due, whatever the import's row answers may stand: at each free address, where the library picks one
  pub given : (c : Inputs) (log : List Entry) (x : CtxNo) (call : Calling) (reply : Reply) (w : World) → Run c log → must (now c log) ≡ Some (ReplyOf x)
      → call_at (now c log) x.0 ≡ Some call → Comes (outcome_of (now c log) x call.import call.words) (now c log).world (Ok (Now reply)) w
      → Meets c (now c log) (entries.Reply x reply.eax (reply.writes ++ call.writes))
  -- and the row answers there: it breaks no rule and does not wait, and a free address is there where one is picked
  pub replies : (c : Inputs) (log : List Entry) (x : CtxNo) → Run c log → must (now c log) ≡ Some (ReplyOf x) → GoesOn c (now c log)

-- ---- ends

pub record EndLaws : Type 0 where
  -- the end of a reset may stand where it must, whether a call makes it or the leave of its handler
  pub resets : (c : Inputs) (log : List Entry) (a : AdapterNo) (status : Status) → Run c log → must (now c log) ≡ Some (Exactly (entries.ResetEnd a status)) → Meets c (now c log) (entries.ResetEnd a status)
  -- and so may the answer to a request
  pub answers : (c : Inputs) (log : List Entry) (r : RequestNo) (status : Status) (bytes : List ℕ) → Run c log → must (now c log) ≡ Some (Exactly (entries.Answer r status bytes))
      → Meets c (now c log) (entries.Answer r status bytes)

-- ---- every duty

pub record ServedLaws : Type 0 where
  -- where such a handler leaves, each packet that it was entered for, and that its miniport holds still, is its adapter's, and was handed by its own enter
  pub handed : (c : Inputs) (log : List Entry) (x : CtxNo) (eax : ℕ) (a : AdapterNo) (h : Handler) (enter : ℕ) (call : Option OpenCall) (k : ℕ) → is_send h ≡ true
      → Run c (log ++ entries.Leave x eax ∷ []) → slice_get (now c log).owner.contexts x.0 ≡ Some (Open (Some a) h enter call)
      → list_any (λ i. i == k) (context_at (now c log) x.0).subject ≡ true → at_miniport (now c log).owner k ≡ true
      → at (λ p. (p.adapter.0 == a.0) && (p.hand == enter)) (now c log).owner.packets k ≡ true
  -- what is drawn from a leave may stand, one entry after the other: completions, packets that go back into the queue, an answer, the end of a reset
  pub drawn : (c : Inputs) (log : List Entry) (e : Entry) (es : List Entry) → Run c log → (now c log).next ≡ Verdicts (e ∷ es)
      → Meets c (now c log) e × ((after c (now c log) e).next ≡ Verdicts es)
  -- an entry that must stand may stand
  pub entries : (c : Inputs) (log : List Entry) (e : Entry) → Run c log → must (now c log) ≡ Some (Exactly e) → Meets c (now c log) e
  -- each duty has an entry that serves it, and that may stand
  pub each : (c : Inputs) (log : List Entry) (due : Due) → Run c log → must (now c log) ≡ Some due → GoesOn c (now c log)
