-- A handler that can be entered.
use Rattle.std.specs.Prelude.{◌≡◌, ◌≤◌, ◌<◌, ℕ, Bool, true, false, length, Option, Some, None}
use Rattle.nd_base.specs.declared.numbers.AdapterNo.{AdapterNo}
use Rattle.nd_base.specs.declared.numbers.CtxNo.{CtxNo}
use Rattle.log_fields.specs.declared.field_values.Handler.{Handler}
use Rattle.log_fields.specs.declared.field_values.Handler.TheVariants as handler
use Rattle.legal_run.specs.Enters.{carries}
use Rattle.legal_run.specs.After.{number_in, subject_of}
use Rattle.legal_run.specs.VerdictLaws.{is_send}
use Rattle.miniport_state.specs.Seen.{Point}
use Rattle.handler_entries.specs.declared.enters.Entering.{Entering}

-- DriverEntry has no adapter, and any other handler one of four
abbrev pub MayBeOf : Option AdapterNo → Handler → Type 0
MayBeOf None h = h ≡ handler.DriverEntry
MayBeOf (Some a) h = a.0 < 4

-- the adapter that an `enter` is carried for: 0 where it has none
abbrev pub number_of : Option AdapterNo → ℕ
number_of None = 0
number_of (Some a) = a.0

-- it carries what its `enter` must, and is about what that says; it has at most sixteen words
pub record IsReady (o : Point) (a : Option AdapterNo) (x : CtxNo) (h : Handler) (e : Entering) : Type 0 where
  pub adapter : e.adapter ≡ a
  pub handler : e.handler ≡ h
  pub carried : carries o.inputs o.state (number_of a) x.0 h e.words e.writes ≡ true
  pub few : length e.words ≤ 16
  pub about : e.subject.items ≡ subject_of o.state (number_in o.inputs a) h e.words

-- where a handler is due it is ready, and there is none else
abbrev pub IsReadyIf : Bool → Point → Option AdapterNo → CtxNo → Handler → Option Entering → Type 0
IsReadyIf due o a x h None = due ≡ false
IsReadyIf due o a x h (Some e) = due ≡ true → IsReady o a x h e

-- it is ready, or it is one that sends
abbrev pub IsReadyOr : Point → AdapterNo → CtxNo → Handler → Option Entering → Type 0
IsReadyOr o a x h None = is_send h ≡ true
IsReadyOr o a x h (Some e) = IsReady o (Some a) x h e
