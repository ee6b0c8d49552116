-- A driver with a script follows the script: its state is, wherever its loop is, that of the rules.
use Rattle.std.proofs.Common.{◌≡◌, ℕ, Bool, true, false, cond, List, [], ◌∷◌, ◌++◌, Some, refl, ap, sym, ◌∙◌, subst, inl, inr, ◌⊎◌, append-nil, true≢false}
use Rattle.log_fields.specs.declared.field_values.Condition.{Condition}
use Rattle.log_fields.specs.declared.field_values.Condition.TheVariants.{Room, All}
use Rattle.driver_script.specs.declared.section_lines.Line.{Line}
use Rattle.binding.specs.declared.packet.Loan.{Loan}
use Rattle.binding.specs.declared.events.Act.{Act}
use Rattle.binding.specs.declared.events.Act.TheVariants.{Do, Finish}
use Rattle.binding.specs.declared.events.Command.{Command}
use Rattle.binding.specs.declared.events.Command.TheVariants as commands
use Rattle.binding.specs.declared.events.Event.{Event}
use Rattle.binding.specs.declared.events.Event.TheVariants as events
use Rattle.binding.specs.declared.events.Outcome.{Outcome}
use Rattle.binding.specs.declared.events.Outcome.TheVariants as outcomes
use Rattle.binding.specs.declared.events.Point.{Point}
use Rattle.binding.specs.declared.events.Point.TheVariants.{Begin, Taking, Asking, Pumping, Unbinding, Clearing, Closing, End}
use Rattle.binding.specs.Words.{in_outcome, in_notice}
use Rattle.binding.specs.Meaning.{Meaning, MayAnswer}
use Rattle.binding.specs.Loop.{Loop, at_point, asks_at, after_at, ask_of, close_of, took, acted, pumped, unbound, closes, waits_on, unbinds_on}
use Rattle.binding.specs.Steps.{steps, at_first, Step, Send, Ask, Await, Hold, Release, Gives, sends, asks as asks_step, awaits, Follower, has_any, is_due, skip, front, past, script_act, kept_then, script_then, behind, script_told, script_meaning}
use Rattle.binding.specs.StepLaws.{Shape, owes, returns, finishes, does, shape, then_same, bool_cases}
use Rattle.binding.specs.Turns.{Turn, Possible, AllPossible, Made}
use Rattle.binding.specs.Follows.{Follows, FollowsSoFar, FollowsAll, ScriptsAreFollowed, IsSettled, Stage, Fresh, Between, InSteps, Roomless, Parting, Unbound, Closing as Closed, Gone, NoneDue, IsToldAll, Waits, WaitsNot, is_waiting, is_told_all, kept_taking, is_quiet, is_met, is_unbound, is_done}
use Rattle.binding.specs.Follows as rule

-- ---- holds and releases

settled_skip : (has hold : Bool) (kept : List Loan) (ls : List Step) → has ≡ has_any kept → IsSettled (skip has hold ls).1 kept (skip has hold ls).0
settled_skip has hold kept [] e = refl
settled_skip has hold kept (Hold ∷ ls) e =
    let P : List Step × Bool → Type 0 = λ r. IsSettled r.1 kept r.0 in
    bool_cases (is_due has hold) (P (skip has hold (Hold ∷ ls)))
    (λ d. subst (λ (v : Bool). P (cond v (Hold ∷ ls, hold) (skip has true ls))) (sym d) (ap (λ v. is_due v hold) (sym e) ∙ d))
    (λ d. subst (λ (v : Bool). P (cond v (Hold ∷ ls, hold) (skip has true ls))) (sym d) (settled_skip has true kept ls e))
settled_skip has hold kept (Release ∷ ls) e =
    let P : List Step × Bool → Type 0 = λ r. IsSettled r.1 kept r.0 in
    bool_cases (is_due has hold) (P (skip has hold (Release ∷ ls)))
    (λ d. subst (λ (v : Bool). P (cond v (Release ∷ ls, hold) (skip has false ls))) (sym d) (ap (λ v. is_due v hold) (sym e) ∙ d))
    (λ d. subst (λ (v : Bool). P (cond v (Release ∷ ls, hold) (skip has false ls))) (sym d) (settled_skip has false kept ls e))
settled_skip has hold kept (Send v ∷ ls) e = tt
settled_skip has hold kept (Ask q ∷ ls) e = tt
settled_skip has hold kept (Await w ∷ ls) e = tt

skip_settled : (hold : Bool) (kept : List Loan) (ls : List Step) → IsSettled hold kept ls → skip (has_any kept) hold ls ≡ (ls, hold)
skip_settled hold kept [] s = ap (λ (v : Bool). ([], v)) (sym s)
skip_settled hold kept (Hold ∷ ls) s = ap (λ v. cond v (Hold ∷ ls, hold) (skip (has_any kept) true ls)) s
skip_settled hold kept (Release ∷ ls) s = ap (λ v. cond v (Release ∷ ls, hold) (skip (has_any kept) false ls)) s
skip_settled hold kept (Send v ∷ ls) s = refl
skip_settled hold kept (Ask q ∷ ls) s = refl
skip_settled hold kept (Await w ∷ ls) s = refl

more_due : (hold : Bool) (kept more : List Loan) → is_due (has_any kept) hold ≡ true → is_due (has_any (kept ++ more)) hold ≡ true
more_due true kept more d = d
more_due false [] more d = absurd (true≢false (sym d))
more_due false (j ∷ js) more d = d

more_settled : (hold : Bool) (kept more : List Loan) (ls : List Step) → IsSettled hold kept ls → IsSettled hold (kept ++ more) ls
more_settled hold kept more [] s = s
more_settled hold kept more (Hold ∷ ls) s = more_due hold kept more s
more_settled hold kept more (Release ∷ ls) s = more_due hold kept more s
more_settled hold kept more (Send v ∷ ls) s = tt
more_settled hold kept more (Ask q ∷ ls) s = tt
more_settled hold kept more (Await w ∷ ls) s = tt

taking_settled : (hold : Bool) (kept : List Loan) (o : Outcome) (ls : List Step) → IsSettled hold kept ls → IsSettled hold (kept_taking kept o) ls
taking_settled hold kept (outcomes.Notice n) ls s = more_settled hold kept (in_notice n) ls s
taking_settled hold kept _ ls s = s

abbrev m : Meaning Follower
m = script_meaning

module _ (steps : List Step) where
  by_kept : {es : List Turn} {ls : List Step} {hold : Bool} {a b : List Loan} {g : Stage} → a ≡ b → Follows steps es ls hold b g → Follows steps es ls hold a g
  by_kept {es} {ls} {hold} {g = g} e f = let Q : List Loan → Type 0 = λ k. Follows steps es ls hold k g in subst Q (sym e) f

  by_lines : {es : List Turn} {a b : List Step} {hold : Bool} {kept : List Loan} {g : Stage} → a ≡ b → Follows steps es b hold kept g → Follows steps es a hold kept g
  by_lines {es} {hold = hold} {kept} {g} e f = let Q : List Step → Type 0 = λ k. Follows steps es k hold kept g in subst Q (sym e) f

  by_hold : {es : List Turn} {ls : List Step} {a b : Bool} {kept : List Loan} {g : Stage} → a ≡ b → Follows steps es ls b kept g → Follows steps es ls a kept g
  by_hold {es} {ls} {kept = kept} {g} e f = let Q : Bool → Type 0 = λ k. Follows steps es ls k kept g in subst Q (sym e) f

  -- holds and releases take effect
  skips : (es : List Turn) (has hold : Bool) (kept : List Loan) (ls : List Step) → has ≡ has_any kept → Follows steps es ls hold kept Between → Follows steps es (skip has hold ls).0 (skip has hold ls).1 kept Between
  skips es has hold kept [] e f = rule.ends f
  skips es has hold kept (Hold ∷ ls) e f =
      let P : List Step × Bool → Type 0 = λ r. Follows steps es r.0 r.1 kept Between in
      bool_cases (is_due has hold) (P (skip has hold (Hold ∷ ls)))
      (λ d. subst (λ (v : Bool). P (cond v (Hold ∷ ls, hold) (skip has true ls))) (sym d) f)
      (λ d. subst (λ (v : Bool). P (cond v (Hold ∷ ls, hold) (skip has true ls))) (sym d) (skips es has true kept ls e (rule.holds f (ap (λ v. is_due v hold) (sym e) ∙ d))))
  skips es has hold kept (Release ∷ ls) e f =
      let P : List Step × Bool → Type 0 = λ r. Follows steps es r.0 r.1 kept Between in
      bool_cases (is_due has hold) (P (skip has hold (Release ∷ ls)))
      (λ d. subst (λ (v : Bool). P (cond v (Release ∷ ls, hold) (skip has false ls))) (sym d) f)
      (λ d. subst (λ (v : Bool). P (cond v (Release ∷ ls, hold) (skip has false ls))) (sym d) (skips es has false kept ls e (rule.releases f (ap (λ v. is_due v hold) (sym e) ∙ d))))
  skips es has hold kept (Send v ∷ ls) e f = f
  skips es has hold kept (Ask q ∷ ls) e f = f
  skips es has hold kept (Await w ∷ ls) e f = f

  -- ---- where a driver is among its steps

  record Inside (es : List Turn) (p : Follower) : Type 0 where
    settled : IsSettled p.hold p.kept p.steps
    stage : ((p.owing ≡ false) × Follows steps es p.steps p.hold p.kept InSteps) ⊎ ((p.owing ≡ true) × Follows steps es p.steps p.hold p.kept Roomless)

  record Parts (es : List Turn) (p : Follower) : Type 0 where
    steps_none : p.steps ≡ []
    hold_none : p.hold ≡ false
    kept_none : p.kept ≡ []
    owing_none : p.owing ≡ false
    follows : Follows steps es [] false [] Parting

  abbrev AgreesAt : List Turn → Point → Follower → List Loan → Type 0
  AgreesAt es Begin p back = (p ≡ record { steps = (skip false false steps).0; hold = (skip false false steps).1; owing = false; kept = [] }) × Follows steps es steps false [] Fresh
  AgreesAt es Taking p back = WaitsNot es × Inside es p
  AgreesAt es Asking p back = IsToldAll es × Inside es p
  AgreesAt es Pumping p back = Waits es × Inside es p
  AgreesAt es Unbinding p back = Parts es p
  AgreesAt es Clearing p back = WaitsNot es × Follows steps es [] false p.kept Unbound
  AgreesAt es Closing p back = Follows steps es [] false back Closed
  AgreesAt es End p back = Follows steps es [] false [] Gone

  -- it is asked when it has been told all
  record Ready (es : List Turn) (p : Follower) : Type 0 where
    told : IsToldAll es
    inside : Inside es p

  -- behind a command that was done it is settled
  settles : (es : List Turn) (q : Follower) (hold : Bool) (ls : List Step) → q.steps ≡ (skip (has_any q.kept) hold ls).0 → q.hold ≡ (skip (has_any q.kept) hold ls).1 → q.owing ≡ false → Follows steps es ls hold q.kept Between → Inside es q
  settles es q hold ls s h w f =
      let P : List Step → Type 0 = λ x. IsSettled q.hold q.kept x in
      let R : Bool → Type 0 = λ x. IsSettled x q.kept (skip (has_any q.kept) hold ls).0 in
      let is : IsSettled q.hold q.kept q.steps = subst P (sym s) (subst R (sym h) (settled_skip (has_any q.kept) hold q.kept ls refl)) in
      record {
        settled = is;
        stage = inl (w, rule.goes_on (by_lines s (by_hold h (skips es (has_any q.kept) hold q.kept ls refl f))) is);
      }

  -- all but the turns and the kept loans is as it was
  record Same (p q : Follower) : Type 0 where
    same_steps : q.steps ≡ p.steps
    same_hold : q.hold ≡ p.hold

  settled_same : (p q : Follower) → Same p q → IsSettled p.hold q.kept p.steps → IsSettled q.hold q.kept q.steps
  settled_same p q s is =
      let P : List Step → Type 0 = λ x. IsSettled q.hold q.kept x in
      let R : Bool → Type 0 = λ x. IsSettled x q.kept p.steps in
      subst P (sym s.same_steps) (subst R (sym s.same_hold) is)

  follows_same : {es : List Turn} {g : Stage} (p q : Follower) → Same p q → Follows steps es p.steps p.hold q.kept g → Follows steps es q.steps q.hold q.kept g
  follows_same p q s f = by_lines s.same_steps (by_hold s.same_hold f)

  settled_kept : (p q : Follower) → q.kept ≡ p.kept → IsSettled p.hold p.kept p.steps → IsSettled p.hold q.kept p.steps
  settled_kept p q k is = let P : List Loan → Type 0 = λ x. IsSettled p.hold x p.steps in subst P (sym k) is

  in_steps : (es : List Turn) (p : Follower) (i : Inside es p) → p.owing ≡ false → Follows steps es p.steps p.hold p.kept InSteps
  in_steps es p i o = elim i.stage [ inl x ↦ x.1 | inr x ↦ absurd (true≢false (sym x.0 ∙ o)) ]

  is_roomless : (es : List Turn) (p : Follower) (i : Inside es p) → p.owing ≡ true → Follows steps es p.steps p.hold p.kept Roomless
  is_roomless es p i o = elim i.stage [ inl x ↦ absurd (true≢false (sym o ∙ x.0)) | inr x ↦ x.1 ]

  front_is : (es : List Turn) (p : Follower) → Inside es p → front p ≡ (p.steps, p.hold)
  front_is es p i = skip_settled p.hold p.kept p.steps i.settled

  -- whether a command's turn waits
  waiting_at : (t : Turn) (c : Command) (o : Outcome) (v : Bool) → t.event ≡ events.Command c → t.outcome ≡ o → is_waiting (events.Command c) o ≡ v → is_waiting t.event t.outcome ≡ v
  waiting_at t c o v ev is e = ap (λ (x : Event). is_waiting x t.outcome) ev ∙ (ap (is_waiting (events.Command c)) is ∙ e)

  no_wait : (t : Turn) (e : Event) → t.event ≡ e → is_waiting e t.outcome ≡ false → is_waiting t.event t.outcome ≡ false
  no_wait t e ev h = ap (λ (x : Event). is_waiting x t.outcome) ev ∙ h

  -- ---- the awaits for room
  owing_waits : (es : List Turn) (p q : Follower) (t : Turn) → t.event ≡ events.Command (commands.Await Room) → is_met t.outcome ≡ false → p.owing ≡ true → Same p q → q.owing ≡ p.owing → q.kept ≡ p.kept → Ready es p → Inside (t ∷ es) q
  owing_waits es p q t ev not_met w s o k i = record {
    settled = settled_same p q s (settled_kept p q k i.inside.settled);
    stage = inr (o ∙ w, follows_same p q s (by_kept k (rule.wants_room t ev not_met i.told (is_roomless es p i.inside w))));
  }

  owing_step : (es : List Turn) (p : Follower) (t : Turn) (o : Outcome) → t.outcome ≡ o → t.event ≡ events.Command (commands.Await Room) → MayAnswer (commands.Await Room) o → p.owing ≡ true → Ready es p → Inside (t ∷ es) (script_told p o)
  owing_step es p t outcomes.Met is ev may w i =
      let q = script_told p outcomes.Met in
      let s : Same p q = record { same_steps = ap (λ v. cond v p.steps (past p).0) w; same_hold = ap (λ v. cond v p.hold (past p).1) w } in
      record {
        settled = settled_same p q s (settled_kept p q (append-nil p.kept) i.inside.settled);
        stage = inl (refl, follows_same p q s (by_kept (append-nil p.kept) (rule.has_room t ev is i.told (is_roomless es p i.inside w))));
      }
  owing_step es p t outcomes.Waiting is ev may w i = owing_waits es p (script_told p outcomes.Waiting) t ev (ap is_met is) w (record { same_steps = refl; same_hold = refl }) refl (append-nil p.kept) i
  owing_step es p t outcomes.News is ev may w i = owing_waits es p (script_told p outcomes.News) t ev (ap is_met is) w (record { same_steps = refl; same_hold = refl }) refl (append-nil p.kept) i
  owing_step es p t _ is ev may w i = absurd may

  -- ---- returns
  returned : (es : List Turn) (p q : Follower) (t : Turn) (j : Loan) (js : List Loan) → t.event ≡ events.Command (commands.Return j) → p.owing ≡ false → p.kept ≡ j ∷ js → (front p).1 ≡ false → q.kept ≡ js ++ in_outcome t.outcome → q.steps ≡ (skip (has_any q.kept) p.hold p.steps).0 → q.hold ≡ (skip (has_any q.kept) p.hold p.steps).1 → q.owing ≡ p.owing → Ready es p → Inside (t ∷ es) q
  returned es p q t j js ev w k f qk qs qh qo i =
      let h : p.hold ≡ false = sym (ap (λ (r : List Step × Bool). r.1) (front_is es p i.inside)) ∙ f in
      let at : Follows steps es p.steps false (j ∷ js) InSteps = by_kept (sym k) (by_hold (sym h) (in_steps es p i.inside w)) in
      settles (t ∷ es) q p.hold p.steps qs qh (qo ∙ w) (by_hold h (by_kept qk (rule.returns t ev i.told at)))

  -- what is kept when a loan is returned
  kept_back : (p : Follower) (t : Turn) (o : Outcome) (js : List Loan) → t.outcome ≡ o → kept_then p ≡ js → kept_then p ++ in_outcome o ≡ js ++ in_outcome t.outcome
  kept_back p t o js is k = ap (λ (l : List Loan). l ++ in_outcome o) k ∙ ap (λ x. js ++ in_outcome x) (sym is)

  back_steps : (q : Follower) (k : List Loan) → k ≡ q.kept → (front q).0 ≡ (skip (has_any k) q.hold q.steps).0
  back_steps q k e = ap (λ (l : List Loan). (skip (has_any l) q.hold q.steps).0) (sym e)

  back_hold : (q : Follower) (k : List Loan) → k ≡ q.kept → (front q).1 ≡ (skip (has_any k) q.hold q.steps).1
  back_hold q k e = ap (λ (l : List Loan). (skip (has_any l) q.hold q.steps).1) (sym e)

  return_step : (es : List Turn) (p : Follower) (t : Turn) (o : Outcome) (j : Loan) (js : List Loan) → t.outcome ≡ o → t.event ≡ events.Command (commands.Return j) → MayAnswer (commands.Return j) o → p.owing ≡ false → p.kept ≡ j ∷ js → kept_then p ≡ js → (front p).1 ≡ false → Ready es p → Inside (t ∷ es) (script_told (script_then p) o)
  return_step es p t (outcomes.Returned n) j js is ev may w k kt f i =
      let q = script_then p in
      returned es p (script_told q (outcomes.Returned n)) t j js ev w k f (kept_back p t (outcomes.Returned n) js is kt) (back_steps q (q.kept ++ []) (append-nil q.kept)) (back_hold q (q.kept ++ []) (append-nil q.kept)) refl i
  return_step es p t (outcomes.AlreadyBack n) j js is ev may w k kt f i =
      let q = script_then p in
      returned es p (script_told q (outcomes.AlreadyBack n)) t j js ev w k f (kept_back p t (outcomes.AlreadyBack n) js is kt) (back_steps q (q.kept ++ []) (append-nil q.kept)) (back_hold q (q.kept ++ []) (append-nil q.kept)) refl i
  return_step es p t _ j js is ev may w k kt f i = absurd may

  -- ---- steps

  -- in front of a step that it gives
  at_step : (es : List Turn) (p : Follower) (i : Inside es p) → p.owing ≡ false → (l : Step) (ls : List Step) → (front p).0 ≡ l ∷ ls → Follows steps es (l ∷ ls) p.hold p.kept InSteps
  at_step es p i w l ls e = by_lines (sym e ∙ ap (λ (r : List Step × Bool). r.0) (front_is es p i)) (in_steps es p i w)

  none_due : (es : List Turn) (p : Follower) → Inside es p → is_due (has_any p.kept) (front p).1 ≡ false → NoneDue p.hold p.kept
  none_due es p i d = ap (λ (r : List Step × Bool). is_due (has_any p.kept) r.1) (sym (front_is es p i)) ∙ d

  done_step : (es : List Turn) (p q : Follower) (t : Turn) (l : Step) (c : Command) (ls : List Step) → t.event ≡ events.Command c → Gives l c → is_done t.outcome ≡ true → p.owing ≡ false → is_due (has_any p.kept) (front p).1 ≡ false → (front p).0 ≡ l ∷ ls → q.steps ≡ (past p).0 → q.hold ≡ (past p).1 → q.owing ≡ false → q.kept ≡ p.kept → Ready es p → Inside (t ∷ es) q
  done_step es p q t l c ls ev g done w d e qs qh qo qk i =
      let f : Follows steps (t ∷ es) ls p.hold p.kept Between = rule.does t ev g done i.told (at_step es p i.inside w l ls e) (none_due es p i.inside d) in
      let hold : (front p).1 ≡ p.hold = ap (λ (r : List Step × Bool). r.1) (front_is es p i.inside) in
      let more : behind (front p).0 ≡ ls = ap behind e in
      settles (t ∷ es) q (front p).1 (behind (front p).0)
      (qs ∙ ap (λ (k : List Loan). (skip (has_any k) (front p).1 (behind (front p).0)).0) (sym qk))
      (qh ∙ ap (λ (k : List Loan). (skip (has_any k) (front p).1 (behind (front p).0)).1) (sym qk))
      qo (by_kept qk (by_hold hold (by_lines more f)))

  -- a step that goes on
  stays_step : (es : List Turn) (p q : Follower) (l : Step) (ls : List Step) (g : Stage) → (front p).0 ≡ l ∷ ls → Same p q → q.kept ≡ p.kept → Inside es p → {es' : List Turn} → Follows steps es' (l ∷ ls) p.hold p.kept g → Follows steps es' q.steps q.hold q.kept g
  stays_step es p q l ls g e s k i f = follows_same p q s (by_kept k (by_lines (sym (ap (λ (r : List Step × Bool). r.0) (front_is es p i)) ∙ e) f))

  waits_step : (es : List Turn) (p q : Follower) (t : Turn) (u : Condition) (ls : List Step) → t.event ≡ events.Command (commands.Await u) → is_met t.outcome ≡ false → p.owing ≡ false → is_due (has_any p.kept) (front p).1 ≡ false → (front p).0 ≡ Await u ∷ ls → Same p q → q.owing ≡ p.owing → q.kept ≡ p.kept → Ready es p → Inside (t ∷ es) q
  waits_step es p q t u ls ev not_met w d e s qo k i = record {
    settled = settled_same p q s (settled_kept p q k i.inside.settled);
    stage = inl (qo ∙ w, stays_step es p q (Await u) ls InSteps e s k i.inside (rule.waits t ev not_met i.told (at_step es p i.inside w (Await u) ls e) (none_due es p i.inside d)));
  }

  held_step : (es : List Turn) (p q : Follower) (t : Turn) (v : List ℕ) (ls : List Step) → t.outcome ≡ outcomes.Held v → t.event ≡ events.Command (commands.Send v) → p.owing ≡ false → is_due (has_any p.kept) (front p).1 ≡ false → (front p).0 ≡ Send v ∷ ls → Same p q → q.owing ≡ true → q.kept ≡ p.kept → Ready es p → Inside (t ∷ es) q
  held_step es p q t v ls is ev w d e s qo k i = record {
    settled = settled_same p q s (settled_kept p q k i.inside.settled);
    stage = inr (qo, stays_step es p q (Send v) ls Roomless e s k i.inside (rule.is_held t ev is i.told (at_step es p i.inside w (Send v) ls e) (none_due es p i.inside d)));
  }

  step_step : (es : List Turn) (p : Follower) (t : Turn) (o : Outcome) (l : Step) (c : Command) (ls : List Step) → Gives l c → t.outcome ≡ o → t.event ≡ events.Command c → MayAnswer c o → p.owing ≡ false → is_due (has_any p.kept) (front p).1 ≡ false → (front p).0 ≡ l ∷ ls → Ready es p → Inside (t ∷ es) (script_told p o)
  step_step es p t (outcomes.Held back) _ _ ls (sends {v = v}) is ev may w d e i =
      held_step es p (script_told p (outcomes.Held back)) t v ls (is ∙ ap (λ x. outcomes.Held x) may) ev w d e (record { same_steps = refl; same_hold = refl }) refl (append-nil p.kept) i
  step_step es p t (outcomes.Sent k) _ _ ls (sends {v = v}) is ev may w d e i =
      done_step es p (script_told p (outcomes.Sent k)) t (Send v) (commands.Send v) ls ev sends (ap is_done is) w d e refl refl refl (append-nil p.kept) i
  step_step es p t _ _ _ ls sends is ev may w d e i = absurd may
  step_step es p t (outcomes.Asked r) _ _ ls (asks_step {q = q}) is ev may w d e i =
      done_step es p (script_told p (outcomes.Asked r)) t (Ask q) (commands.Ask q) ls ev asks_step (ap is_done is) w d e refl refl refl (append-nil p.kept) i
  step_step es p t _ _ _ ls asks_step is ev may w d e i = absurd may
  step_step es p t outcomes.Met _ _ ls (awaits {w = u}) is ev may w d e i =
      done_step es p (script_told p outcomes.Met) t (Await u) (commands.Await u) ls ev awaits (ap is_done is) w d e (ap (λ v. cond v p.steps (past p).0) w) (ap (λ v. cond v p.hold (past p).1) w) refl (append-nil p.kept) i
  step_step es p t outcomes.Waiting _ _ ls (awaits {w = u}) is ev may w d e i =
      waits_step es p (script_told p outcomes.Waiting) t u ls ev (ap is_met is) w d e (record { same_steps = refl; same_hold = refl }) refl (append-nil p.kept) i
  step_step es p t outcomes.News _ _ ls (awaits {w = u}) is ev may w d e i =
      waits_step es p (script_told p outcomes.News) t u ls ev (ap is_met is) w d e (record { same_steps = refl; same_hold = refl }) refl (append-nil p.kept) i
  step_step es p t _ _ _ ls awaits is ev may w d e i = absurd may

  -- ---- its end

  at_end : (es : List Turn) (p : Follower) → Inside es p → p.owing ≡ false → p.kept ≡ [] → (front p).0 ≡ [] → (front p).1 ≡ false → (p.steps ≡ []) × (p.hold ≡ false) × Follows steps es [] false [] InSteps
  at_end es p i w k e f =
      let s : p.steps ≡ [] = sym (ap (λ (r : List Step × Bool). r.0) (front_is es p i)) ∙ e in
      let h : p.hold ≡ false = sym (ap (λ (r : List Step × Bool). r.1) (front_is es p i)) ∙ f in
      (s, h, by_kept (sym k) (by_hold (sym h) (by_lines (sym s) (in_steps es p i w))))

  -- at its end it waits for all
  ended : (es : List Turn) (q : Follower) → q.steps ≡ [] → q.hold ≡ false → q.kept ≡ [] → q.owing ≡ false → Follows steps es [] false [] InSteps → Inside es q
  ended es q s h k w f =
      let P : List Step → Type 0 = λ x. IsSettled q.hold q.kept x in
      record { settled = subst P (sym s) h; stage = inl (w, by_lines s (by_hold h (by_kept k f))) }

  finish_step : (es : List Turn) (p : Follower) (t : Turn) (o : Outcome) → t.outcome ≡ o → t.event ≡ events.Command (commands.Await All) → MayAnswer (commands.Await All) o → p.owing ≡ false → p.kept ≡ [] → kept_then p ≡ p.kept → (front p).0 ≡ [] → (front p).1 ≡ false → Ready es p → AgreesAt (t ∷ es) (unbinds_on o) (script_then p) []
  finish_step es p t outcomes.Met is ev may w k kt e f i =
      let at = at_end es p i.inside w k e f in
      record { steps_none = at.0; hold_none = at.1; kept_none = kt ∙ k; owing_none = w; follows = rule.has_all t ev is i.told at.2 }
  finish_step es p t outcomes.Waiting is ev may w k kt e f i =
      let at = at_end es p i.inside w k e f in
      (waiting_at t (commands.Await All) outcomes.Waiting true ev is refl, ended (t ∷ es) (script_then p) at.0 at.1 (kt ∙ k) w (rule.wants_all t ev (ap is_met is) i.told at.2))
  finish_step es p t outcomes.News is ev may w k kt e f i =
      let at = at_end es p i.inside w k e f in
      (waiting_at t (commands.Await All) outcomes.News false ev is refl, ended (t ∷ es) (script_then p) at.0 at.1 (kt ∙ k) w (rule.wants_all t ev (ap is_met is) i.told at.2))
  finish_step es p t _ is ev may w k kt e f i = absurd may

  -- ---- one turn of the loop

  abbrev Agrees : List Turn → Loop Follower → Type 0
  Agrees es x = AgreesAt es x.point x.protocol x.back

  point_of : (c : Command) (o : Outcome) → MayAnswer c o → ((waits_on o ≡ Pumping) × (is_waiting (events.Command c) o ≡ true)) ⊎ ((waits_on o ≡ Taking) × (is_waiting (events.Command c) o ≡ false))
  point_of (commands.Send v) (outcomes.Held back) may = inr (refl, refl)
  point_of (commands.Send v) (outcomes.Sent k) may = inr (refl, refl)
  point_of (commands.Send v) _ may = absurd may
  point_of (commands.Ask q) (outcomes.Asked r) may = inr (refl, refl)
  point_of (commands.Ask q) _ may = absurd may
  point_of (commands.Return j) (outcomes.Returned k) may = inr (refl, refl)
  point_of (commands.Return j) (outcomes.AlreadyBack k) may = inr (refl, refl)
  point_of (commands.Return j) _ may = absurd may
  point_of (commands.Await w) outcomes.Met may = inr (refl, refl)
  point_of (commands.Await w) outcomes.Waiting may = inl (refl, refl)
  point_of (commands.Await w) outcomes.News may = inr (refl, refl)
  point_of (commands.Await w) _ may = absurd may
  point_of commands.Bind o may = absurd may
  point_of commands.Unbind o may = absurd may
  point_of commands.Done o may = absurd may

  inside_at : (es : List Turn) (q : Follower) (t : Turn) (c : Command) → t.event ≡ events.Command c → MayAnswer c t.outcome → Inside (t ∷ es) q → AgreesAt (t ∷ es) (waits_on t.outcome) q []
  inside_at es q t c ev may i =
      let Q : Point → Type 0 = λ v. AgreesAt (t ∷ es) v q [] in
      elim (point_of c t.outcome may) [
        | inl e ↦ subst Q (sym e.0) (waiting_at t c t.outcome true ev refl e.1, i)
        | inr e ↦ subst Q (sym e.0) (waiting_at t c t.outcome false ev refl e.1, i)
      ]

  may_by : (a : Act) (e : Event) (o : Outcome) (b : Act) → b ≡ a → ask_of b ≡ e → Possible e o → Possible (ask_of a) o
  may_by a e o b is ev may = let Q : Event → Type 0 = λ v. Possible v o in let R : Act → Type 0 = λ v. Possible (ask_of v) o in subst R is (subst Q (sym ev) may)

  may_answer : (l : Step) (c : Command) (o : Outcome) → Gives l c → Possible (events.Command c) o → MayAnswer c o
  may_answer _ _ o sends may = may
  may_answer _ _ o asks_step may = may
  may_answer _ _ o awaits may = may

  ask_step : (es : List Turn) (p : Follower) (t : Turn) → Shape p → ask_of (script_act p) ≡ t.event → Possible t.event t.outcome → Ready es p → Agrees (t ∷ es) (acted m (script_then p) (script_act p) t.outcome)
  ask_step es p t (owes w a k) ev may i =
      let Q : Act → Type 0 = λ x. Agrees (t ∷ es) (acted m (script_then p) x t.outcome) in
      let R : Follower → Type 0 = λ x. Inside (t ∷ es) (script_told x t.outcome) in
      let can = may_by (Do (commands.Await Room)) t.event t.outcome (script_act p) a ev may in
      subst Q (sym a) (inside_at es (script_told (script_then p) t.outcome) t (commands.Await Room) (sym ev ∙ ap ask_of a) can (subst R (sym (then_same p k)) (owing_step es p t t.outcome refl (sym ev ∙ ap ask_of a) can w i)))
  ask_step es p t (returns w j js n a k f) ev may i =
      let Q : Act → Type 0 = λ x. Agrees (t ∷ es) (acted m (script_then p) x t.outcome) in
      let can = may_by (Do (commands.Return j)) t.event t.outcome (script_act p) a ev may in
      subst Q (sym a) (inside_at es (script_told (script_then p) t.outcome) t (commands.Return j) (sym ev ∙ ap ask_of a) can (return_step es p t t.outcome j js refl (sym ev ∙ ap ask_of a) can w n k f i))
  ask_step es p t (finishes w a n k c e f) ev may i =
      let Q : Act → Type 0 = λ x. Agrees (t ∷ es) (acted m (script_then p) x t.outcome) in
      let can = may_by Finish t.event t.outcome (script_act p) a ev may in
      subst Q (sym a) (finish_step es p t t.outcome refl (sym ev ∙ ap ask_of a) can w n k e f i)
  ask_step es p t (does w d l c ls g e a k) ev may i =
      let Q : Act → Type 0 = λ x. Agrees (t ∷ es) (acted m (script_then p) x t.outcome) in
      let R : Follower → Type 0 = λ x. Inside (t ∷ es) (script_told x t.outcome) in
      let can = may_answer l c t.outcome g (may_by (Do c) t.event t.outcome (script_act p) a ev may) in
      subst Q (sym a) (inside_at es (script_told (script_then p) t.outcome) t c (sym ev ∙ ap ask_of a) can (subst R (sym (then_same p k)) (step_step es p t t.outcome l c ls g refl (sym ev ∙ ap ask_of a) can w d e i)))

  quiet_is : (o : Outcome) → is_quiet o ≡ true → o ≡ outcomes.Quiet
  quiet_is outcomes.Quiet e = refl
  quiet_is _ e = absurd (true≢false (sym e))

  pumped_other : (p : Follower) (o : Outcome) → is_quiet o ≡ false → pumped m p o ≡ at_point Taking p
  pumped_other p outcomes.Quiet e = absurd (true≢false e)
  pumped_other p _ e = refl

  pump_step : (es : List Turn) (p : Follower) (t : Turn) → t.event ≡ events.Pump → Waits es → Inside es p → Agrees (t ∷ es) (pumped m p t.outcome)
  pump_step es p t ev w i =
      let not : is_waiting t.event t.outcome ≡ false = no_wait t events.Pump ev refl in
      bool_cases (is_quiet t.outcome) _
      (λ q.
      let is = quiet_is t.outcome q in
      let Q : Outcome → Type 0 = λ v. Agrees (t ∷ es) (pumped m p v) in
      let f : Follows steps (t ∷ es) [] false p.kept InSteps = elim i.stage [ inl x ↦ rule.quiets t ev is tt w x.1 | inr x ↦ rule.quiets t ev is tt w x.1 ] in
      let inside : Inside (t ∷ es) (script_told p outcomes.Quiet) = record { settled = refl; stage = inl (refl, by_kept (append-nil p.kept) f) } in
      subst Q (sym is) (not, inside))
      (λ q.
      let Q : Loop Follower → Type 0 = λ v. Agrees (t ∷ es) v in
      let inside : Inside (t ∷ es) p = record { settled = i.settled; stage = elim i.stage [ inl x ↦ inl (x.0, rule.pumps t ev q tt w x.1) | inr x ↦ inr (x.0, rule.pumps t ev q tt w x.1) ] } in
      subst Q (sym (pumped_other p t.outcome q)) (not, inside))

  take_inside : (es : List Turn) (p q : Follower) (t : Turn) → t.event ≡ events.TakeNotice → WaitsNot es → Same p q → q.owing ≡ p.owing → q.kept ≡ kept_taking p.kept t.outcome → Inside es p → Inside (t ∷ es) q
  take_inside es p q t ev not s w k i =
      let P : List Loan → Type 0 = λ x. IsSettled p.hold x p.steps in
      record {
        settled = settled_same p q s (subst P (sym k) (taking_settled p.hold p.kept t.outcome p.steps i.settled));
        stage = elim i.stage [
          | inl x ↦ inl (w ∙ x.0, follows_same p q s (by_kept k (rule.takes t ev tt not x.1)))
          | inr x ↦ inr (w ∙ x.0, follows_same p q s (by_kept k (rule.takes t ev tt not x.1)))
        ];
      }

  -- where taking a notice leads: on, or to the next command
  told_by : (t : Turn) (o : Outcome) → t.outcome ≡ o → t.event ≡ events.TakeNotice → is_told_all events.TakeNotice o ≡ true → is_told_all t.event t.outcome ≡ true
  told_by t o is ev e = ap (λ (x : Event). is_told_all x t.outcome) ev ∙ (ap (is_told_all events.TakeNotice) is ∙ e)

  take_step : (es : List Turn) (p : Follower) (t : Turn) (o : Outcome) → t.outcome ≡ o → t.event ≡ events.TakeNotice → WaitsNot es → Inside es p → Agrees (t ∷ es) (took m p Taking (at_point Asking p) o)
  take_step es p t (outcomes.Notice n) is ev not i =
      (no_wait t events.TakeNotice ev refl, take_inside es p (script_told p (outcomes.Notice n)) t ev not (record { same_steps = refl; same_hold = refl }) refl (sym (ap (kept_taking p.kept) is)) i)
  take_step es p t _ is ev not i = (told_by t _ is ev refl, take_inside es p p t ev not (record { same_steps = refl; same_hold = refl }) refl (sym (ap (kept_taking p.kept) is)) i)

  clear_step : (es : List Turn) (p : Follower) (t : Turn) (o : Outcome) → t.outcome ≡ o → t.event ≡ events.TakeNotice → WaitsNot es → Follows steps es [] false p.kept Unbound → Agrees (t ∷ es) (took m p Clearing (record { point = Closing; protocol = p; back = p.kept }) o)
  clear_step es p t (outcomes.Notice n) is ev not f = (no_wait t events.TakeNotice ev refl, by_kept (sym (ap (kept_taking p.kept) is)) (rule.takes t ev tt not f))
  clear_step es p t _ is ev not f = rule.closes (told_by t _ is ev refl) (by_kept (sym (ap (kept_taking p.kept) is)) (rule.takes t ev tt not f))

  close_step : (es : List Turn) (p : Follower) (t : Turn) (back : List Loan) → close_of back ≡ t.event → Follows steps es [] false back Closed → Agrees (t ∷ es) (closes p back)
  close_step es p t [] ev f = rule.is_done_with t (sym ev) f
  close_step es p t (j ∷ js) ev f = rule.gives_back t (sym ev) f

  unbound_is : (o : Outcome) → is_unbound o ≡ true → o ≡ outcomes.Unbound
  unbound_is outcomes.Unbound e = refl
  unbound_is _ e = absurd (true≢false (sym e))

  unbound_other : (p : Follower) (o : Outcome) → is_unbound o ≡ false → unbound p o ≡ at_point Taking p
  unbound_other p outcomes.Unbound e = absurd (true≢false e)
  unbound_other p _ e = refl

  unbind_step : (es : List Turn) (p : Follower) (t : Turn) → t.event ≡ events.Command commands.Unbind → Parts es p → Agrees (t ∷ es) (unbound p t.outcome)
  unbind_step es p t ev a =
      let not : is_waiting t.event t.outcome ≡ false = no_wait t (events.Command commands.Unbind) ev refl in
      bool_cases (is_unbound t.outcome) _
      (λ u.
      let is = unbound_is t.outcome u in
      let Q : Outcome → Type 0 = λ v. Agrees (t ∷ es) (unbound p v) in
      let g : Follows steps (t ∷ es) [] false p.kept Unbound = by_kept a.kept_none (rule.unbinds t ev is a.follows) in
      subst Q (sym is) (not, g))
      (λ u.
      let Q : Loop Follower → Type 0 = λ v. Agrees (t ∷ es) v in
      subst Q (sym (unbound_other p t.outcome u)) (not, ended (t ∷ es) p a.steps_none a.hold_none a.kept_none a.owing_none (rule.stays_bound t ev u a.follows)))

  bind_step : (es : List Turn) (p : Follower) (t : Turn) → t.event ≡ events.Command commands.Bind → p ≡ record { steps = (skip false false steps).0; hold = (skip false false steps).1; owing = false; kept = [] } → Follows steps es steps false [] Fresh → WaitsNot (t ∷ es) × Inside (t ∷ es) p
  bind_step es p t ev is f =
      (no_wait t (events.Command commands.Bind) ev refl, subst (Inside (t ∷ es)) (sym is) (settles (t ∷ es) (record { steps = (skip false false steps).0; hold = (skip false false steps).1; owing = false; kept = [] }) false steps refl refl refl (rule.binds t ev f)))

  step_at : (es : List Turn) (point : Point) (p : Follower) (back : List Loan) (t : Turn) → asks_at m point p back ≡ Some t.event → Possible t.event t.outcome → AgreesAt es point p back → Agrees (t ∷ es) (after_at m point p back t.outcome)
  step_at es Begin p back t e may a = let is : events.Command commands.Bind ≡ t.event = cc in bind_step es p t (sym is) a.0 a.1
  step_at es Taking p back t e may a = let is : events.TakeNotice ≡ t.event = cc in take_step es p t t.outcome refl (sym is) a.0 a.1
  step_at es Asking p back t e may a = let is : ask_of (script_act p) ≡ t.event = cc in ask_step es p t (shape p) is may (record { told = a.0; inside = a.1 })
  step_at es Pumping p back t e may a = let is : events.Pump ≡ t.event = cc in pump_step es p t (sym is) a.0 a.1
  step_at es Unbinding p back t e may a = let is : events.Command commands.Unbind ≡ t.event = cc in unbind_step es p t (sym is) a
  step_at es Clearing p back t e may a = let is : events.TakeNotice ≡ t.event = cc in clear_step es p t t.outcome refl (sym is) a.0 a.1
  step_at es Closing p back t e may a = let is : close_of back ≡ t.event = cc in close_step es p t back is a
  step_at es End p back t e may a = absurd (cc)

  agrees : (made : List Turn) (x y : Loop Follower) → Agrees [] x → Made m x made y → AllPossible made → Agrees made y
  agrees [] x y a p q = let Q : Loop Follower → Type 0 = λ v. Agrees [] v in subst Q p a
  agrees (t ∷ ts) x y a p q =
      let Q : Loop Follower → Type 0 = λ v. Agrees (t ∷ ts) v in
      subst Q (sym p.3) (step_at ts p.0.point p.0.protocol p.0.back t p.2 q.0 (agrees ts x p.0 a p.1 q.1))

  so_far : {es : List Turn} {ls : List Step} {hold : Bool} {kept : List Loan} {g : Stage} → Follows steps es ls hold kept g → FollowsSoFar steps es
  so_far {ls = ls} {hold = hold} {kept = kept} {g = g} f = record { left = ls; hold = hold; kept = kept; stage = g; follows = f }

  inside_so_far : (es : List Turn) (p : Follower) → Inside es p → FollowsSoFar steps es
  inside_so_far es p i = elim i.stage [ inl x ↦ so_far x.1 | inr x ↦ so_far x.1 ]

  -- wherever it is, it followed the script so far
  followed_at : (es : List Turn) (point : Point) (p : Follower) (back : List Loan) → AgreesAt es point p back → FollowsSoFar steps es
  followed_at es Begin p back a = so_far a.1
  followed_at es Taking p back a = inside_so_far es p a.1
  followed_at es Asking p back a = inside_so_far es p a.1
  followed_at es Pumping p back a = inside_so_far es p a.1
  followed_at es Unbinding p back a = so_far a.follows
  followed_at es Clearing p back a = so_far a.1
  followed_at es Closing p back a = so_far a
  followed_at es End p back a = so_far a

start_follows : (mac : List ℕ) (ls : List Line) (turns : List Turn) (now : Loop Follower) → Made m (at_point Begin (at_first mac ls)) turns now → AllPossible turns → AgreesAt (steps mac ls) turns now.point now.protocol now.back
start_follows mac ls turns now h may = agrees (steps mac ls) turns (at_point Begin (at_first mac ls)) now (refl, rule.begins) h may

pub scripts_followed : ScriptsAreFollowed
scripts_followed = record {
  so_far = λ mac ls turns now h may. followed_at (steps mac ls) turns now.point now.protocol now.back (start_follows mac ls turns now h may);
  to_end = λ mac ls turns now h may e. subst (λ (v : Point). AgreesAt (steps mac ls) turns v now.protocol now.back) e (start_follows mac ls turns now h may);
}
