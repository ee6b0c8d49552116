-- A driver goes on in a log.
use Rattle.std.proofs.Common.{◌≡◌, ℕ, suc, ◌+◌, List, [], ◌∷◌, ◌++◌, length, take, Option, Some, None, refl, sym, ap, ◌∙◌, subst, arith}
use Rattle.std.specs.Prelude.{slice_get}
use Rattle.std.specs.Option.{option_to_list}
use Rattle.nd_base.specs.declared.numbers.BindingNo.{BindingNo}
use Rattle.call_log.specs.declared.entry.Entry.{Entry}
use Rattle.owner_machine.specs.State.{bound}
use Rattle.legal_run.specs.State.{Inputs, State, start}
use Rattle.legal_run.specs.After.{after}
use Rattle.legal_run.specs.Run.{Run, now, now_from}
use Rattle.notices.specs.Notices.{notices, tells, tells_by}
use Rattle.notices.specs.Reading.{Finds, IsPlace, Takes, bound_behind, heard, passed}
use Rattle.notices.specs.declared.places.Place.{Place}
use Rattle.notices.specs.declared.told.Told.{Told}
use Rattle.notices.proofs.Fronts.{StandsAt, stands_at}
use Rattle.notices.proofs.Rows.{Keeps, bound_after, has, keeps_all, keeps_behind, keeps_over, tells_still}

-- the rows where an entry stands are kept to the end of the log
kept_to_end : (c : Inputs) (b : BindingNo) (log : List Entry) (n : ℕ) (e : Entry) → StandsAt c (start c) b log n e → Keeps (now c (take n log)).owner (now c log).owner
kept_to_end c b log n e at =
    subst (λ (t : State). Keeps (now c (take n log)).owner t.owner) (sym at.leads)
    (keeps_over (now c (take n log)).owner (after c (now c (take n log)) e).owner (now_from c (after c (now c (take n log)) e) at.rest).owner (keeps_behind c (now c (take n log)) e) (keeps_all c (after c (now c (take n log)) e) at.rest))

-- what the rows at the end of the log tell of an entry is what it tells where it stands
told_there : (c : Inputs) (log : List Entry) (p : Place) (e : Entry) → StandsAt c (start c) p.driver log p.at e → IsPlace c log p → tells (now c (take p.at log)) p.driver e ≡ tells_by (now c log).owner p.driver p.bound e
told_there c log p e at place =
    ap (λ t. tells_by (now c (take p.at log)).owner p.driver t e) (sym place.bindings)
    ∙ sym (tells_still (now c (take p.at log)).owner (now c log).owner p.driver p.bound e (kept_to_end c p.driver log p.at e at) (has (now c (take p.at log)).owner e at.meets.owner))

pub found : (c : Inputs) (log : List Entry) (before p : Place) (e : Entry) (told : Told) → Run c log → IsPlace c log p → p.driver ≡ before.driver → heard c log p ≡ heard c log before → slice_get log p.at ≡ Some e
    → tells_by (now c log).owner p.driver p.bound e ≡ Some told → Finds c log before p (Some told)
found c log before p e told run place driver same is says =
    let at = stands_at c (start c) p.driver log p.at e run is in
    record { place = place; driver = driver; same = same; next = record { entry = e; there = is; says = told_there c log p e at place ∙ says } }

pub placed_on : (c : Inputs) (log : List Entry) (p : Place) (e : Entry) → Run c log → IsPlace c log p → slice_get log p.at ≡ Some e → IsPlace c log (passed p e)
placed_on c log p e run place is =
    let at = stands_at c (start c) p.driver log p.at e run is in
    let more = at.within in
    record {
      within = omega (arith, more);
      bindings =
          ap (λ t. bound_behind p.driver.0 t e) place.bindings
          ∙ sym (bound_after c (now c (take p.at log)) p.driver.0 e at.meets)
          ∙ ap (λ (s : State). bound s.owner p.driver.0) (sym at.next)
          ∙ ap (λ n. bound (now c (take n log)).owner p.driver.0) (one_on p.at);
    }
  where
    one_on : (n : ℕ) → suc n ≡ n + 1
    one_on n = omega arith

one_on : (n : ℕ) → suc n ≡ n + 1
one_on n = omega arith

-- what it has heard behind the entry is what the entry tells it more
pub heard_on : (c : Inputs) (log : List Entry) (p : Place) (e : Entry) (told : Option Told) → Run c log → IsPlace c log p → slice_get log p.at ≡ Some e → tells (now c (take p.at log)) p.driver e ≡ told
    → heard c log (passed p e) ≡ heard c log p ++ option_to_list told
heard_on c log p e told run place is says =
    let at = stands_at c (start c) p.driver log p.at e run is in
    ap (λ n. notices c p.driver (take n log)) (sym (one_on p.at)) ∙ at.told ∙ ap (λ t. heard c log p ++ option_to_list t) says

none_more : (xs : List Told) → xs ++ [] ≡ xs
none_more [] = refl
none_more (x ∷ xs) = ap (λ ys. x ∷ ys) (none_more xs)

pub silent_on : (c : Inputs) (log : List Entry) (p : Place) (e : Entry) → Run c log → IsPlace c log p → slice_get log p.at ≡ Some e → tells_by (now c log).owner p.driver p.bound e ≡ None
    → heard c log (passed p e) ≡ heard c log p
silent_on c log p e run place is says =
    let at = stands_at c (start c) p.driver log p.at e run is in
    heard_on c log p e None run place is (told_there c log p e at place ∙ says) ∙ none_more (heard c log p)

all_taken : (log : List Entry) → take (length log) log ≡ log
all_taken [] = refl
all_taken (e ∷ log) = ap (λ es. e ∷ es) (all_taken log)

pub ended : (c : Inputs) (log : List Entry) (before p : Place) → p.driver ≡ before.driver → heard c log p ≡ heard c log before → p.at ≡ length log → heard c log before ≡ notices c before.driver log
ended c log before p driver same end =
    sym same ∙ ap (λ n. notices c p.driver (take n log)) end ∙ ap (λ es. notices c p.driver es) (all_taken log) ∙ ap (λ (b : BindingNo). notices c b log) driver

pub taken_on : (c : Inputs) (log : List Entry) (before p q : Place) (e : Entry) (told : Told) → Run c log → Finds c log before p (Some told) → slice_get log p.at ≡ Some e → q ≡ passed p e → Takes c log before q (Some told)
taken_on c log before p q e told run finds is same =
    let one : Some finds.next.entry ≡ Some e = sym finds.next.there ∙ is in
    let entry : finds.next.entry ≡ e = cc in
    let says = ap (λ (f : Entry). tells (now c (take p.at log)) p.driver f) (sym entry) ∙ finds.next.says in
    subst (λ (r : Place). Takes c log before r (Some told)) (sym same)
    (record {
      place = placed_on c log p e run finds.place is;
      driver = finds.driver;
      taken = heard_on c log p e (Some told) run finds.place is says ∙ ap (λ xs. xs ++ told ∷ []) finds.same;
    })

pub gone_on : (c : Inputs) (log : List Entry) (before p q : Place) (e : Entry) → Run c log → IsPlace c log p → p.driver ≡ before.driver → heard c log p ≡ heard c log before → slice_get log p.at ≡ Some e
    → tells_by (now c log).owner p.driver p.bound e ≡ None → q ≡ passed p e → IsPlace c log q × (q.driver ≡ before.driver) × (heard c log q ≡ heard c log before)
gone_on c log before p q e run place driver same is says on =
    subst (λ (r : Place). IsPlace c log r × (r.driver ≡ before.driver) × (heard c log r ≡ heard c log before)) (sym on)
    (placed_on c log p e run place is, driver, silent_on c log p e run place is says ∙ same)
