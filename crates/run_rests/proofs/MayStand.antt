-- What comes next may stand.
use Rattle.std.proofs.Common.{◌≡◌, ℕ, Bool, true, false, ◌&&◌, not, cond, List, [], ◌∷◌, filter, Option, Some, None, is_some, refl, sym, ap, ◌∙◌}
use Rattle.std.specs.List.{list_any}
use Rattle.nd_base.specs.declared.numbers.AdapterNo.{AdapterNo}
use Rattle.nd_base.specs.declared.numbers.CtxNo.{CtxNo}
use Rattle.log_fields.specs.declared.field_values.Handler.TheVariants as handler
use Rattle.owed_handlers.specs.declared.choice.Owed.{Owed}
use Rattle.owed_handlers.specs.declared.choice.Owed.TheVariants as owed
use Rattle.owed_handlers.specs.Order.{first_owed}
use Rattle.owed_handlers.specs.Laws.{OwedLaws, IsOwed}
use Rattle.legal_run.specs.State.{Inputs, State, all_contexts, is_free}
use Rattle.legal_run.specs.Owed.{first}
use Rattle.legal_run.specs.Run.{may_begin_reset}
use Rattle.run_rests.specs.Entering.{first_free, placed}
use Rattle.run_rests.specs.Laws.{CanEnter, DueLaws}
use Rattle.run_rests.specs.Order.{Enters}
use Rattle.run_rests.proofs.Owing.{any_first}
use Rattle.run_rests.proofs.Stillness.{itself}

-- ---- the first that passes passes

some_same : {A : Type 0} (x y : A) → Some x ≡ Some y → x ≡ y
some_same x y e = cc

front_passes : {A : Type 0} (p : A → Bool) (y : A) (ys : List A) (x : A) (b : Bool) → (first (filter p ys) ≡ Some x → p x ≡ true) → p y ≡ b → first (cond b (y ∷ filter p ys) (filter p ys)) ≡ Some x → p x ≡ true
front_passes p y ys x true behind passes e = ap p (sym (some_same y x e)) ∙ passes
front_passes p y ys x false behind passes e = behind e

first_passes : {A : Type 0} (p : A → Bool) (xs : List A) (x : A) → first (filter p xs) ≡ Some x → p x ≡ true
first_passes p [] x e = cc
first_passes p (y ∷ ys) x e = front_passes p y ys x (p y) (λ f. first_passes p ys x f) refl e

-- ---- which comes first

context_placed : (x : Option ℕ) (which : Option Owed) (n : ℕ) (one : Owed) → placed x which ≡ Some (n, one) → x ≡ Some n
context_placed None which n one e = cc
context_placed (Some x) None n one e = cc
context_placed (Some x) (Some which) n one e = ap (λ r. Some r.0) (some_same {A = ℕ × Owed} (x, which) (n, one) e)

handler_placed : (x : Option ℕ) (which : Option Owed) (n : ℕ) (one : Owed) → placed x which ≡ Some (n, one) → which ≡ Some one
handler_placed None which n one e = cc
handler_placed (Some x) None n one e = cc
handler_placed (Some x) (Some which) n one e = ap (λ r. Some r.1) (some_same {A = ℕ × Owed} (x, which) (n, one) e)

can_enter : (c : Inputs) (s : State) (x : CtxNo) (which : Owed) → OwedLaws → Enters c s x which → CanEnter c s x which
can_enter c s x which laws enters = record {
  owed = laws.owed c s which (handler_placed (first_free s) (first_owed c s) x.0 which enters.first);
  free = first_passes (is_free s) all_contexts x.0 (context_placed (first_free s) (first_owed c s) x.0 which enters.first);
  no_frame = enters.no_frame;
}

begins : (c : Inputs) (s : State) (x : CtxNo) (a : AdapterNo) → OwedLaws → Enters c s x (owed.Handler a handler.Reset) → may_begin_reset c s a.0 ≡ true
begins c s x a laws enters =
    let is : IsOwed c s (owed.Handler a handler.Reset) = (can_enter c s x (owed.Handler a handler.Reset) laws enters).owed in
    let some : list_any (is_free s) all_contexts ≡ true = sym (any_first (is_free s) all_contexts) ∙ ap is_some (context_placed (first_free s) (first_owed c s) x.0 (owed.Handler a handler.Reset) enters.first) in
    (λ i. is.1 i && (some i && not (enters.no_frame i)))

pub due_laws : OwedLaws → DueLaws
due_laws laws = record {
  frame = λ c s m who e. (λ i. itself s.come i && e i);
  enter = λ c s m who x which e. can_enter c s x which laws e;
  reset = λ c s m who x a e. begins c s x a laws e;
  jump = λ c s m who moment e. e;
  stop = λ c s m who a e. e;
  quiet = λ c s m who b e. e.1;
}
