-- Where a run rests, and what that leaves.
use Rattle.std.proofs.Common.{◌≡◌, ℕ, zero, suc, ◌+◌, ◌<◌, Bool, true, false, ◌&&◌, ◌||◌, not, eqb, Option, Some, None, is_some, refl, sym, ap, ◌∙◌, arith}
use Rattle.std.specs.Option.{option_map}
use Rattle.std.specs.List.{list_any, range_with_len}
use Rattle.nd_base.specs.declared.numbers.AdapterNo.{AdapterNo}
use Rattle.nd_base.specs.declared.numbers.BindingNo.{BindingNo}
use Rattle.nd_base.specs.declared.numbers.CtxNo.{CtxNo}
use Rattle.owed_handlers.specs.declared.choice.Owed.{Owed}
use Rattle.owed_handlers.specs.Laws.{OwedLaws}
use Rattle.legal_run.specs.State.{Inputs, State, all_contexts, is_free}
use Rattle.legal_run.specs.Owed.{can_run, frame_due, is_moment, may_be_quiet, may_be_silent, may_jump, rests, some_owed}
use Rattle.run_rests.specs.Entering.{next_enter}
use Rattle.run_rests.proofs.Counted.{contexts_are}
use Rattle.run_rests.proofs.Owing.{some_next}

-- ---- a run rests

none_of : (p : ℕ → Bool) (n count : ℕ) → ((y : ℕ) → y < n + count → p y ≡ false) → list_any p (range_with_len n count) ≡ false
none_of p n zero none = refl
none_of p n (suc count) none = (λ i. none n (omega arith) i || none_of p (n + 1) count (λ y lt. none y (omega (arith, lt))) i)

none_can : (p : ℕ → Bool) → ((y : ℕ) → y < 16 → p y ≡ false) → list_any p all_contexts ≡ false
none_can p none = ap (list_any p) contexts_are ∙ none_of p 0 16 none

pub rests_here : (c : Inputs) (s : State) → OwedLaws → frame_due c s ≡ false → next_enter c s ≡ None → ((y : ℕ) → y < 16 → can_run s y ≡ false) → rests c s ≡ true
rests_here c s laws frame enter runs =
    let no_enter : (some_owed c s && list_any (is_free s) all_contexts) ≡ false = sym (some_next c s laws) ∙ ap is_some enter in
    (λ i. not (frame i) && (not (no_enter i) && not (none_can (can_run s) runs i)))

pub none_enters : (c : Inputs) (s : State) (r : Option (CtxNo × Owed)) → option_map (λ e. (e.0.0, e.1)) r ≡ next_enter c s → r ≡ None → next_enter c s ≡ None
none_enters c s r is none = sym is ∙ ap (option_map (λ e. (e.0.0, e.1))) none

pub one_enters : (c : Inputs) (s : State) (r : Option (CtxNo × Owed)) (x : CtxNo) (owed : Owed) → option_map (λ e. (e.0.0, e.1)) r ≡ next_enter c s → r ≡ Some (x, owed) → next_enter c s ≡ Some (x.0, owed)
one_enters c s r x owed is some = sym is ∙ ap (option_map (λ e. (e.0.0, e.1))) some

-- ---- moments

pub itself : (m : ℕ) → eqb m m ≡ true
itself m = grind arith

pub jumps_to : (c : Inputs) (s : State) (r : Option ℕ) (m : ℕ) → ((k : ℕ) → may_jump c s k ≡ is_moment k r) → r ≡ Some m → may_jump c s m ≡ true
jumps_to c s r m is some = is m ∙ ap (is_moment m) some ∙ itself m

pub jumps_nowhere : (c : Inputs) (s : State) (r : Option ℕ) → ((k : ℕ) → may_jump c s k ≡ is_moment k r) → r ≡ None → (m : ℕ) → may_jump c s m ≡ false
jumps_nowhere c s r is none m = is m ∙ ap (is_moment m) none

pub stops_it : (c : Inputs) (s : State) (r : Option AdapterNo) (a : AdapterNo) → ((k : ℕ) → may_be_silent c s k ≡ is_moment k (option_map (λ n. n.0) r)) → r ≡ Some a → may_be_silent c s a.0 ≡ true
stops_it c s r a is some = is a.0 ∙ ap (λ r. is_moment a.0 (option_map (λ n. n.0) r)) some ∙ itself a.0

pub stops_none : (c : Inputs) (s : State) (r : Option AdapterNo) → ((k : ℕ) → may_be_silent c s k ≡ is_moment k (option_map (λ n. n.0) r)) → r ≡ None → (a : ℕ) → may_be_silent c s a ≡ false
stops_none c s r is none a = is a ∙ ap (λ r. is_moment a (option_map (λ n. n.0) r)) none

-- ---- the driver who asks

pub none_asks : (c : Inputs) (s : State) (who : Option BindingNo) → who ≡ None → (b : BindingNo) → who ≡ Some b → may_be_quiet c s b.0 ≡ false
none_asks c s who none b some = absurd (nobody b (sym none ∙ some))
  where
    nobody : (b : BindingNo) → None ≡ Some b → ⊥
    nobody b e = cc

pub it_hears : (c : Inputs) (s : State) (who : Option BindingNo) (d : BindingNo) → who ≡ Some d → may_be_quiet c s d.0 ≡ false → (b : BindingNo) → who ≡ Some b → may_be_quiet c s b.0 ≡ false
it_hears c s who d is not_quiet b some = ap (λ n. may_be_quiet c s n.0) (same b d (sym some ∙ is)) ∙ not_quiet
  where
    same : (b d : BindingNo) → Some b ≡ Some d → b ≡ d
    same b d e = cc
