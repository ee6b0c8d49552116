-- Where objects have their fields stays as it was given.
use Rattle.std.proofs.Common.{◌≡◌, ℕ, ◌==◌, Bool, true, false, cond, List, [], ◌∷◌, map, Option, Some, None, refl, ◌∙◌}
use Rattle.nd_base.specs.declared.numbers.AdapterNo.{AdapterNo}
use Rattle.nd_base.specs.declared.numbers.BindingNo.{BindingNo}
use Rattle.nd_base.specs.declared.numbers.CtxNo.{CtxNo}
use Rattle.irql_lock.specs.LockMoves.{End}
use Rattle.log_fields.specs.declared.write.Write.{Write}
use Rattle.log_fields.specs.declared.field_values.Handler.{Handler}
use Rattle.log_fields.specs.declared.field_values.Handler.TheVariants as handler
use Rattle.call_log.specs.declared.entry.Entry.{Entry}
use Rattle.call_log.specs.declared.entry.Entry.TheVariants as entries
use Rattle.guest_world.specs.declared.world.World.{World}
use Rattle.import_answers.specs.Statuses.{success}
use Rattle.legal_run.specs.Laws.{CallsKeep}
use Rattle.legal_run.specs.Guest.{with_writes}
use Rattle.legal_run.specs.State.{Inputs, State, Wait, Calling, adapter_of, alive, call_at, has_handler}
use Rattle.legal_run.specs.Calls.{leaves, stays_home}
use Rattle.legal_run.specs.Replies.{Answered, Told, answered}
use Rattle.legal_run.specs.After.{after, all_ended, charge_to, fired, framed, is_breaking, left_row, leveled, quiet_if_off, quieted, recognized, replied, spun, taken, with_wait}
use Rattle.run_facts.specs.Facts.{IsOfRun, GoesOn}
use Rattle.call_facts.proofs.Induction.{of_run}
use Rattle.call_facts.proofs.Ground.{CallsSame, AnswerHas, answer_has, spinning_has}

-- the world of a state has this layout
abbrev Has : List ℕ → State → Type 0
Has l t = t.world.layout ≡ l

framed_has : (l : List ℕ) (s : State) (bs : List BindingNo) → Has l s → Has l (framed s bs)
unfolding framed
framed_has l s [] h = h
framed_has l s (b ∷ bs) h = framed_has l _ bs h

ended_layout : (w : World) (xs : List ℕ) → (all_ended w xs).layout ≡ w.layout
unfolding all_ended
ended_layout w [] = refl
ended_layout w (x ∷ xs) = ended_layout (leveled w (End (record { 0 = x }))) xs

wait_has : (s : State) (x : Option ℕ) (w : Wait) → Has s.world.layout (with_wait s x w)
wait_has s None w = refl
wait_has s (Some x) w = refl

either_has : (b : Bool) (t u : State) (l : List ℕ) → Has l t → Has l u → Has l (cond b t u)
either_has true t u l one other = one
either_has false t u l one other = other

fired_layout : (w : World) (t : Option ℕ) → (fired w t).layout ≡ w.layout
fired_layout w None = refl
fired_layout w (Some t) = refl

taken_has : (s : State) (a : ℕ) (h : Handler) (words : List ℕ) (writes : List Write) → Has s.world.layout (taken s a h words writes)
taken_has s a handler.Sync words writes = wait_has s _ _
taken_has s a handler.Timer words writes = fired_layout s.world _
taken_has s a _ words writes = refl

left_has : (c : Inputs) (s : State) (a : ℕ) (x : CtxNo) (eax : ℕ) (h : Handler) → Has s.world.layout (left_row c s a x eax h)
left_has c s a x eax handler.Initialize = either_has (eax == success) _ _ s.world.layout refl refl
left_has c s a x eax handler.Isr = either_has (recognized s x) _ _ s.world.layout refl refl
left_has c s a x eax handler.HandleInterrupt = either_has (has_handler s handler.EnableInterrupt) _ _ s.world.layout refl refl
left_has c s a x eax handler.Sync = wait_has s _ _
left_has c s a x eax _ = refl

charged_has : (s : State) (who : Option AdapterNo) (n : ℕ) → Has s.world.layout (charge_to s who n)
charged_has s None n = refl
charged_has s (Some a) n = refl

quiet_layout : (s : State) (w : World) (a : Option AdapterNo) → (quiet_if_off s w a).layout ≡ w.layout
quiet_layout s w None = refl
quiet_layout s w (Some a) = by_test (alive s a.0)
  where
    by_test : (b : Bool) → (cond b w (quieted s w a.0)).layout ≡ w.layout
    by_test true = refl
    by_test false = refl

layouts_same : CallsKeep → CallsSame (λ w. w.layout)
layouts_same keep w v x row words answer comes = (keep w v x row words answer comes).layout

spun_has : CallsKeep → (s : State) (x : CtxNo) (call : Option Calling) → Has s.world.layout (spun s x call)
spun_has keep s x None = refl
spun_has keep s x (Some call) = spinning_has (λ w. w.layout) (layouts_same keep) s x call.import call.words _ refl

replied_has : (s : State) (x : CtxNo) (told : Told) (answer : Option Answered) → AnswerHas (λ w. w.layout) s answer → Has s.world.layout (replied s x told answer)
replied_has s x told None h = refl
replied_has s x told (Some given) h =
    let w : World = record given.1 { memory = with_writes given.1.memory told.writes } in
    charged_has _ (adapter_of s x.0) given.0.cost ∙ quiet_layout s w (adapter_of s x.0) ∙ h

one_entry : CallsKeep → (c : Inputs) (s : State) (e : Entry) → Has s.world.layout (after c s e)
one_entry keep c s (entries.Indicate a j bytes holders copied) =
    by_test (stays_home s a.0 (map (λ b. b.0) holders) copied) (framed s holders).world _ refl (framed_has s.world.layout s holders refl)
  where
    by_test : (b : Bool) (w v : World) → v.layout ≡ w.layout → w.layout ≡ s.world.layout → (cond b w v).layout ≡ s.world.layout
    by_test true w v is one = one
    by_test false w v is one = is ∙ one
one_entry keep c s (entries.Enter a x h words writes) = taken_has s _ h words writes
one_entry keep c s (entries.Leave x eax) = either_has (is_breaking (leaves c s x eax)) _ _ s.world.layout refl (left_has c s _ x eax _)
one_entry keep c s (entries.Turn x n) = charged_has _ (adapter_of s x.0) n
one_entry keep c s (entries.Reply x eax writes) =
    let told : Told = record { eax = eax; writes = writes } in replied_has s x told (answered s x told) (answer_has (λ w. w.layout) (layouts_same keep) s x told)
one_entry keep c s (entries.Spin x lock) = spun_has keep s x (call_at s x.0)
one_entry keep c s (entries.Stop a why) = ended_layout _ _
one_entry keep c s _ = refl

pub layout_stays : CallsKeep → GoesOn → (c : Inputs) (s : State) → IsOfRun c s → s.world.layout ≡ c.layout
layout_stays keep on c s is = of_run on c (λ t. t.world.layout ≡ c.layout) (λ t e of h meets. one_entry keep c t e ∙ h) refl s is
