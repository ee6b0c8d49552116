-- Where an open call returns to. (The calling conventions of Microsoft's C compiler for x86: at ESP stands the address to return to. A call that broke a
-- rule is never answered: docs/LEGAL-RUN.md.)
use Rattle.std.specs.Prelude.{◌≡◌, ℕ, Bool, true, false, List, None, Some}
use Rattle.nd_base.specs.declared.numbers.CtxNo.{CtxNo}
use Rattle.nd_mem.specs.Space.{first_fault, Reading}
use Rattle.ia32_step.specs.Registers.{general_of, ESP}
use Rattle.log_fields.specs.declared.write.Write.{Write}
use Rattle.call_log.specs.declared.entry.Entry.{Entry}
use Rattle.call_log.specs.declared.entry.Entry.TheVariants as entries
use Rattle.legal_run.specs.State.{Inputs, State, Wait, Nothing, Calling, Makes, call_at, cells, context_at}
use Rattle.legal_run.specs.Must.{ReplyOf, must}
use Rattle.legal_run.specs.Run.{Meets}
use Rattle.run_facts.specs.Facts.{IsOfRun}

-- the address that the context's call returns to can be read
abbrev pub CanReturn : State → CtxNo → Type 0
CanReturn s x = first_fault Reading (cells s) (general_of (context_at s x.0).registers ESP) 4 ≡ None

abbrev pub waits : Wait → Bool
waits Nothing = false
waits _ = true

pub record CallsReturn : Type 0 where
  -- where a call makes its entries, or its reply is due
  pub made : (c : Inputs) (s : State) (x : CtxNo) (es : List Entry) (lent : List ℕ) → IsOfRun c s → s.next ≡ Makes x es lent → CanReturn s x
  pub due : (c : Inputs) (s : State) (x : CtxNo) → IsOfRun c s → must s ≡ Some (ReplyOf x) → CanReturn s x
  -- where it waits
  pub waiting : (c : Inputs) (s : State) (x : CtxNo) (call : Calling) → IsOfRun c s → call_at s x.0 ≡ Some call → waits call.wait ≡ true → CanReturn s x
  -- so wherever its reply may stand
  pub replies : (c : Inputs) (s : State) (x : CtxNo) (eax : ℕ) (writes : List Write) → IsOfRun c s → Meets c s (entries.Reply x eax writes) → CanReturn s x
