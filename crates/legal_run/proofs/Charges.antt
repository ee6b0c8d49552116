-- What an adapter is charged is the sum of its turns and replies and of DriverEntry's.
use Rattle.std.proofs.Common.{◌≡◌, ℕ, ◌+◌, ◌<◌, Bool, true, false, cond, ◌==◌, List, [], ◌∷◌, length, get_or, set, slice_index_or, refl, sym, ap, ◌∙◌, subst, Option, Some, None, inl, inr, arith}
use Rattle.std.proofs.lemmas.Bool.Decides.{eqb_tells}
use Rattle.std.proofs.lemmas.List.{length-set, get_or-set_other}
use Rattle.std.proofs.lemmas.Grind.{get_or-set_at}
use Rattle.std.specs.Option.{option_map_or}
use Rattle.nd_base.specs.declared.numbers.AdapterNo.{AdapterNo}
use Rattle.nd_base.specs.declared.numbers.BindingNo.{BindingNo}
use Rattle.nd_base.specs.declared.numbers.CtxNo.{CtxNo}
use Rattle.log_fields.specs.declared.write.Write.{Write}
use Rattle.log_fields.specs.declared.field_values.Handler.{Handler}
use Rattle.log_fields.specs.declared.field_values.Handler.TheVariants as handler
use Rattle.call_log.specs.declared.entry.Entry.{Entry}
use Rattle.call_log.specs.declared.entry.Entry.TheVariants as entries
use Rattle.import_answers.specs.Statuses.{success}
use Rattle.legal_run.specs.State.{Inputs, State, Wait, Calling, adapter_of, has_handler}
use Rattle.legal_run.specs.Calls.{leaves}
use Rattle.legal_run.specs.Replies.{Answered, Told}
use Rattle.legal_run.specs.After.{after, effect, framed, all_spoke, charge_to, charges_of, with_wait, taken, left_row, replied, spun, is_breaking, recognized}
use Rattle.legal_run.specs.Run.{now_from, cost, costs, is_charged}

-- two states have the same charges
pub record Same (s t : State) : Type 0 where
  pub entry : s.charged ≡ t.charged
  pub adapters : s.charges ≡ t.charges

same : (s : State) → Same s s
same s = record { entry = refl; adapters = refl }

framed_same : (s : State) (bs : List BindingNo) → Same (framed s bs) s
unfolding framed
framed_same s [] = same s
framed_same s (b ∷ bs) = let rest = framed_same _ bs in record { entry = rest.entry; adapters = rest.adapters }

spoke_same : (s : State) (bs : List ℕ) → Same (all_spoke s bs) s
unfolding all_spoke
spoke_same s [] = same s
spoke_same s (b ∷ bs) = let rest = spoke_same _ bs in record { entry = rest.entry; adapters = rest.adapters }

wait_same : (s : State) (x : Option ℕ) (w : Wait) → Same (with_wait s x w) s
wait_same s None w = same s
wait_same s (Some x) w = record { entry = refl; adapters = refl }

spun_same : (s : State) (x : CtxNo) (call : Option Calling) → Same (spun s x call) s
spun_same s x None = same s
spun_same s x (Some call) = record { entry = refl; adapters = refl }

either_same : (b : Bool) (x y s : State) → Same x s → Same y s → Same (cond b x y) s
either_same true x y s one other = one
either_same false x y s one other = other

taken_same : (s : State) (a : ℕ) (h : Handler) (words : List ℕ) (writes : List Write) → Same (taken s a h words writes) s
taken_same s a handler.Sync words writes = wait_same s _ _
taken_same s a _ words writes = record { entry = refl; adapters = refl }

left_row_same : (c : Inputs) (s : State) (a : ℕ) (x : CtxNo) (eax : ℕ) (h : Handler) → Same (left_row c s a x eax h) s
left_row_same c s a x eax handler.Initialize = either_same (eax == success) _ _ _ (record { entry = refl; adapters = refl }) (record { entry = refl; adapters = refl })
left_row_same c s a x eax handler.Isr = either_same (recognized s x) _ _ _ (record { entry = refl; adapters = refl }) (same s)
left_row_same c s a x eax handler.HandleInterrupt = either_same (has_handler s handler.EnableInterrupt) _ _ _ (record { entry = refl; adapters = refl }) (same s)
left_row_same c s a x eax handler.Sync = wait_same s _ _
left_row_same c s a x eax _ = record { entry = refl; adapters = refl }

-- DriverEntry's charges and one adapter's
raised_here : (cs : List ℕ) (b a n : ℕ) → a < length cs → get_or (set cs b (get_or cs b 0 + n)) a 0 ≡ get_or cs a 0 + cond (b == a) n 0
raised_here cs b a n within = elim (eqb_tells b a) [
  | inl here ↦ let at = get_or-set_at cs b a (get_or cs b 0 + n) 0 (sym here.1) (subst (λ (k : ℕ). k < length cs) (sym here.1) within) in
      at ∙ ap (λ k. get_or cs k 0 + n) here.1 ∙ ap (λ k. get_or cs a 0 + cond k n 0) (sym here.0)
  | inr other ↦ let at = get_or-set_other cs b a (get_or cs b 0 + n) 0 (λ h. other.1 (sym h)) in
      at ∙ plus_zero (get_or cs a 0) ∙ ap (λ k. get_or cs a 0 + cond k n 0) (sym other.0)
]
  where
    plus_zero : (m : ℕ) → m ≡ m + 0
    plus_zero m = omega arith

charged_more : (s : State) (who : Option AdapterNo) (n a : ℕ) → a < length s.charges → charges_of (charge_to s who n) a ≡ charges_of s a + cond (is_charged who a) n 0
charged_more s None n a within = omega arith
charged_more s (Some b) n a within = let here = raised_here s.charges b.0 a n within in ap (λ k. s.charged + k) here ∙ omega arith

same_charges : (s t : State) (a : ℕ) → Same s t → charges_of s a ≡ charges_of t a + 0
same_charges s t a h = ap (λ k. k + slice_index_or s.charges a 0) h.entry ∙ ap (λ k. t.charged + slice_index_or k a 0) h.adapters ∙ omega arith

none_costs : (b : Bool) (m : ℕ) → m ≡ m + cond b 0 0
none_costs true m = omega arith
none_costs false m = omega arith

replied_charges : (s : State) (x : CtxNo) (told : Told) (answer : Option Answered) (a : ℕ) → a < length s.charges
    → charges_of (replied s x told answer) a ≡ charges_of s a + cond (is_charged (adapter_of s x.0) a) (option_map_or (λ given. given.0.cost) answer 0) 0
replied_charges s x told None a within = none_costs (is_charged (adapter_of s x.0) a) (charges_of s a)
replied_charges s x told (Some given) a within = charged_more _ (adapter_of s x.0) given.0.cost a within

pub effect_charges : (c : Inputs) (s : State) (e : Entry) (a : ℕ) → a < length s.charges → charges_of (effect c s e) a ≡ charges_of s a + cost s a e
effect_charges c s (entries.Indicate b j bytes holders copied) a within = let h = framed_same s holders in same_charges (effect c s (entries.Indicate b j bytes holders copied)) s a (record { entry = h.entry; adapters = h.adapters })
effect_charges c s (entries.Enter b x h words writes) a within = let t = taken_same s _ h words writes in same_charges (effect c s (entries.Enter b x h words writes)) s a (record { entry = t.entry; adapters = t.adapters })
effect_charges c s (entries.Leave x eax) a within = let t = left_row_same c s _ x eax _ in same_charges (effect c s (entries.Leave x eax)) s a (either_same (is_breaking (leaves c s x eax)) _ _ _ (same s) (record { entry = t.entry; adapters = t.adapters }))
effect_charges c s (entries.Turn x n) a within = charged_more _ (adapter_of s x.0) n a within
effect_charges c s (entries.Reply x eax writes) a within = replied_charges s x (record { eax = eax; writes = writes }) _ a within
effect_charges c s (entries.Stop b cause) a within = let t = spoke_same s _ in same_charges (effect c s (entries.Stop b cause)) s a (record { entry = t.entry; adapters = t.adapters })
effect_charges c s (entries.Spin x lock) a within = same_charges (effect c s (entries.Spin x lock)) s a (spun_same s x _)
effect_charges c s _ a within = omega arith

-- the list of charges keeps its length
charged_length : (s : State) (who : Option AdapterNo) (n : ℕ) → length (charge_to s who n).charges ≡ length s.charges
charged_length s None n = refl
charged_length s (Some b) n = length-set s.charges b.0 _

replied_length : (s : State) (x : CtxNo) (told : Told) (answer : Option Answered) → length (replied s x told answer).charges ≡ length s.charges
replied_length s x told None = refl
replied_length s x told (Some given) = charged_length _ (adapter_of s x.0) given.0.cost

same_length : (s t : State) → Same s t → length s.charges ≡ length t.charges
same_length s t h = ap (λ k. length k) h.adapters

pub effect_length : (c : Inputs) (s : State) (e : Entry) → length (effect c s e).charges ≡ length s.charges
effect_length c s (entries.Indicate b j bytes holders copied) = let h = framed_same s holders in same_length (effect c s (entries.Indicate b j bytes holders copied)) s (record { entry = h.entry; adapters = h.adapters })
effect_length c s (entries.Enter b x h words writes) = let t = taken_same s _ h words writes in same_length (effect c s (entries.Enter b x h words writes)) s (record { entry = t.entry; adapters = t.adapters })
effect_length c s (entries.Leave x eax) = let t = left_row_same c s _ x eax _ in same_length (effect c s (entries.Leave x eax)) s (either_same (is_breaking (leaves c s x eax)) _ _ _ (same s) (record { entry = t.entry; adapters = t.adapters }))
effect_length c s (entries.Turn x n) = charged_length _ (adapter_of s x.0) n
effect_length c s (entries.Reply x eax writes) = replied_length s x (record { eax = eax; writes = writes }) _
effect_length c s (entries.Stop b cause) = let t = spoke_same s _ in same_length (effect c s (entries.Stop b cause)) s (record { entry = t.entry; adapters = t.adapters })
effect_length c s (entries.Spin x lock) = same_length (effect c s (entries.Spin x lock)) s (spun_same s x _)
effect_length c s _ = refl

pub charges_sum : (c : Inputs) (s : State) (log : List Entry) (a : ℕ) → a < length s.charges → charges_of (now_from c s log) a ≡ charges_of s a + costs c s a log
unfolding now_from costs
charges_sum c s [] a within = omega arith
charges_sum c s (e ∷ log) a within =
    let rest = charges_sum c (after c s e) log a (subst (λ (n : ℕ). a < n) (sym (effect_length c s e)) within) in
    let one = effect_charges c s e a within in
    rest ∙ ap (λ k. k + costs c (after c s e) a log) one ∙ omega arith
