-- A log, split at an entry.
use Rattle.std.proofs.Common.{◌≡◌, ℕ, zero, suc, ◌≤◌, List, [], ◌∷◌, ◌++◌, length, take, Some, refl, sym, ap, ◌∙◌, subst, arith, append_assoc}
use Rattle.std.specs.Prelude.{slice_get}
use Rattle.std.specs.Option.{option_to_list}
use Rattle.nd_base.specs.declared.numbers.BindingNo.{BindingNo}
use Rattle.call_log.specs.declared.entry.Entry.{Entry}
use Rattle.legal_run.specs.State.{Inputs, State}
use Rattle.legal_run.specs.After.{after}
use Rattle.legal_run.specs.Run.{Meets, RunFrom, now_from}
use Rattle.notices.specs.Notices.{notices_from, tells}
use Rattle.notices.specs.declared.told.Told.{Told}

-- the entry of a number meets what it needs where it stands, and the log behind it leads to the log's state
pub record StandsAt (c : Inputs) (s : State) (b : BindingNo) (log : List Entry) (n : ℕ) (e : Entry) : Type 0 where
  pub meets : Meets c (now_from c s (take n log)) e
  pub next : now_from c s (take (suc n) log) ≡ after c (now_from c s (take n log)) e
  pub rest : List Entry
  pub leads : now_from c s log ≡ now_from c (after c (now_from c s (take n log)) e) rest
  pub told : notices_from c s b (take (suc n) log) ≡ notices_from c s b (take n log) ++ option_to_list (tells (now_from c s (take n log)) b e)
  pub within : suc n ≤ length log

pub stands_at : (c : Inputs) (s : State) (b : BindingNo) (log : List Entry) (n : ℕ) (e : Entry) → RunFrom c s log → slice_get log n ≡ Some e → StandsAt c s b log n e
unfolding now_from RunFrom notices_from
stands_at c s b [] n e run is = absurd (cc)
stands_at c s b (f ∷ log) zero e run is =
    let same : f ≡ e = cc in
    subst (λ (g : Entry). StandsAt c s b (f ∷ log) 0 g) same
    (record { meets = run.0; next = refl; rest = log; leads = refl; told = none_behind (option_to_list (tells s b f)); within = omega arith })
  where
    none_behind : (xs : List Told) → xs ++ [] ≡ xs
    none_behind [] = refl
    none_behind (x ∷ xs) = ap (λ ys. x ∷ ys) (none_behind xs)
stands_at c s b (f ∷ log) (suc n) e run is =
    let at = stands_at c (after c s f) b log n e run.1 is in
    let more = at.within in
    record {
      meets = at.meets;
      next = at.next;
      rest = at.rest;
      leads = at.leads;
      told = ap (λ xs. option_to_list (tells s b f) ++ xs) at.told ∙ sym (append_assoc (option_to_list (tells s b f)) (notices_from c (after c s f) b (take n log)) (option_to_list (tells (now_from c (after c s f) (take n log)) b e)));
      within = omega (arith, more);
    }
