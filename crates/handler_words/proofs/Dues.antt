-- An owed handler is due, so it is ready.
use Rattle.std.proofs.Common.{◌≡◌, ◌==◌, ◌&&◌, ℕ, Bool, true, false, not, Option, Some, None, Result, Ok, Err, IfOk, refl, sym, ap, subst, ◌∙◌}
use Rattle.std.specs.Prelude.{count_by}
use Rattle.std.proofs.lemmas.Bool.{eq-eqb, false≢true}
use Rattle.nd_base.specs.declared.numbers.AdapterNo.{AdapterNo}
use Rattle.nd_base.specs.declared.numbers.CtxNo.{CtxNo}
use Rattle.nd_base.specs.declared.OutOfMemory.{OutOfMemory}
use Rattle.log_fields.specs.declared.field_values.Handler.{Handler}
use Rattle.log_fields.specs.declared.field_values.Handler.TheVariants as handler
use Rattle.owner_machine.specs.State.{implies}
use Rattle.owner_machine.specs.Contexts.{in_brackets, is_halt}
use Rattle.owner_machine.specs.Handlers.{may_halt}
use Rattle.owner_machine.specs.Loans.{due_of}
use Rattle.legal_run.specs.State.{Inputs, State, alive, serving}
use Rattle.legal_run.specs.Owed.{hands_set, is_owed, owed_row, running, to_hand}
use Rattle.miniport_state.specs.Seen.{Point}
use Rattle.handler_entries.specs.declared.enters.Entering.{Entering}
use Rattle.handler_words.specs.declared.requests.Asked.{Asked}
use Rattle.handler_words.specs.Asked.{IsAsked, asking_handler}
use Rattle.handler_words.specs.Ready.{IsReady, IsReadyIf, IsReadyOr}
use Rattle.handler_words.proofs.Carried.{asks_it}
use Rattle.handler_words.proofs.Meets.{parts}

row_of : (c : Inputs) (s : State) (a : ℕ) (h : Handler) → is_owed c s a h ≡ true → owed_row c s a h ≡ true
row_of c s a h owed =
    let lives = parts (alive s a) (owed_row c s a h && (in_brackets s.owner a h && implies (is_halt h) (may_halt s.owner a))) owed in
    (parts (owed_row c s a h) (in_brackets s.owner a h && implies (is_halt h) (may_halt s.owner a)) lives.1).0

-- ---- what is due is ready

ready_or : (due : Bool) (o : Point) (a : AdapterNo) (x : CtxNo) (h : Handler) (r : Result (Option Entering) OutOfMemory) → due ≡ true
    → IfOk r (IsReadyIf due o (Some a) x h) → IfOk r (IsReadyOr o a x h)
ready_or due o a x h (Ok None) is none = absurd (false≢true (sym none ∙ is))
ready_or due o a x h (Ok (Some e)) is ready = ready is
ready_or due o a x h (Err e) is ready = ready

pub query_ready : (o : Point) (a : AdapterNo) (x : CtxNo) (r : Result (Option Entering) OutOfMemory) → is_owed o.inputs o.state a.0 handler.Query ≡ true
    → IfOk r (IsReadyIf (hands_set false (to_hand o.state a.0)) o (Some a) x handler.Query) → IfOk r (IsReadyOr o a x handler.Query)
query_ready o a x r owed =
    let row = parts (running o.state a.0) (hands_set false (to_hand o.state a.0)) (row_of o.inputs o.state a.0 handler.Query owed) in
    ready_or (hands_set false (to_hand o.state a.0)) o a x handler.Query r row.1

pub set_ready : (o : Point) (a : AdapterNo) (x : CtxNo) (r : Result (Option Entering) OutOfMemory) → is_owed o.inputs o.state a.0 handler.Set ≡ true
    → IfOk r (IsReadyIf (hands_set true (to_hand o.state a.0)) o (Some a) x handler.Set) → IfOk r (IsReadyOr o a x handler.Set)
set_ready o a x r owed =
    let row = parts (running o.state a.0) (hands_set true (to_hand o.state a.0)) (row_of o.inputs o.state a.0 handler.Set owed) in
    ready_or (hands_set true (to_hand o.state a.0)) o a x handler.Set r row.1

pub home_ready : (o : Point) (a : AdapterNo) (x : CtxNo) (r : Result (Option Entering) OutOfMemory) → is_owed o.inputs o.state a.0 handler.ReturnPacket ≡ true
    → IfOk r (IsReadyIf (not (count_by (due_of a.0) o.state.owner.loans == 0)) o (Some a) x handler.ReturnPacket) → IfOk r (IsReadyOr o a x handler.ReturnPacket)
home_ready o a x r owed =
    let row = parts (serving o.state a.0) (not (count_by (due_of a.0) o.state.owner.loans == 0)) (row_of o.inputs o.state a.0 handler.ReturnPacket owed) in
    ready_or (not (count_by (due_of a.0) o.state.owner.loans == 0)) o a x handler.ReturnPacket r row.1

-- ---- a request, and none

pub no_request : (s : State) (a : ℕ) (set : Bool) → to_hand s a ≡ None → hands_set set (to_hand s a) ≡ false
no_request s a set none = ap (hands_set set) none ∙ never set
  where
    never : (b : Bool) → hands_set b None ≡ false
    never true = refl
    never false = refl

pub ready_asked : (o : Point) (a : AdapterNo) (x : CtxNo) (set : Bool) (asked : Asked) (e : Entering) → IsAsked o.state a.0 asked
    → IsReady o (Some a) x (asking_handler asked.is_set) e → IsReadyIf (hands_set set (to_hand o.state a.0)) o (Some a) x (asking_handler set) (Some e)
ready_asked o a x set asked e is ready due = subst (λ k. IsReady o (Some a) x k e) (asks_it o.state a.0 set asked is due) ready

-- ---- a loan, and none

pub no_loan : (n : ℕ) → n ≡ 0 → not (n == 0) ≡ false
no_loan n is = ap not (eq-eqb n 0 is)

pub ready_home : (due : Bool) (o : Point) (a : AdapterNo) (x : CtxNo) (h : Handler) (e : Entering) → IsReady o (Some a) x h e → IsReadyIf due o (Some a) x h (Some e)
ready_home due o a x h e ready is = ready
