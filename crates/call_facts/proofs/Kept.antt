-- No entry of a run changes which bytes may be read, written or executed.
use Rattle.std.proofs.Common.{◌≡◌, ℕ, ◌==◌, Bool, true, false, cond, List, [], ◌∷◌, map, Option, Some, None, refl, sym, ◌∙◌, subst}
use Rattle.nd_base.specs.declared.numbers.AdapterNo.{AdapterNo}
use Rattle.nd_base.specs.declared.numbers.BindingNo.{BindingNo}
use Rattle.nd_base.specs.declared.numbers.CtxNo.{CtxNo}
use Rattle.nd_mem.specs.Laws.{WriteLaws}
use Rattle.nd_mem.specs.Space.{Space, Access, first_fault}
use Rattle.irql_lock.specs.LockMoves.{End}
use Rattle.log_fields.specs.declared.field_values.Handler.{Handler}
use Rattle.log_fields.specs.declared.field_values.Handler.TheVariants as handler
use Rattle.call_log.specs.declared.entry.Entry.{Entry}
use Rattle.call_log.specs.declared.entry.Entry.TheVariants as entries
use Rattle.guest_world.specs.declared.world.World.{World}
use Rattle.import_answers.specs.Statuses.{success}
use Rattle.legal_run.specs.Laws.{CallsKeep}
use Rattle.legal_run.specs.Guest.{with_writes}
use Rattle.legal_run.specs.State.{Inputs, State, Wait, Calling, adapter_of, alive, call_at, cells, has_handler, start}
use Rattle.legal_run.specs.Calls.{leaves, stays_home}
use Rattle.legal_run.specs.Replies.{Answered, Told, answered}
use Rattle.legal_run.specs.After.{after, all_ended, charge_to, framed, is_breaking, left_row, leveled, machine_of, quiet_if_off, quieted, recognized, replied, spun, turned, with_wait}
use Rattle.run_facts.specs.Facts.{IsOfRun, GoesOn}
use Rattle.call_facts.proofs.Induction.{of_run}
use Rattle.call_facts.proofs.Ground.{CallsSame, AnswerHas, answer_has, spinning_has}
use Rattle.call_facts.proofs.Rights.{SameRights, SpaceRights, faults_same, writes_keep, entered_keeps, turned_keeps}

-- ---- what leaves memory as it was

-- the world of a state has this memory
abbrev Has : Space → State → Type 0
Has m t = t.world.memory ≡ m

framed_has : (m : Space) (s : State) (bs : List BindingNo) → Has m s → Has m (framed s bs)
unfolding framed
framed_has m s [] h = h
framed_has m s (b ∷ bs) h = framed_has m _ bs h

ended_memory : (w : World) (xs : List ℕ) → (all_ended w xs).memory ≡ w.memory
unfolding all_ended
ended_memory w [] = refl
ended_memory w (x ∷ xs) = ended_memory (leveled w (End (record { 0 = x }))) xs

wait_has : (s : State) (x : Option ℕ) (w : Wait) → Has s.world.memory (with_wait s x w)
wait_has s None w = refl
wait_has s (Some x) w = refl

either_has : (b : Bool) (t u : State) (m : Space) → Has m t → Has m u → Has m (cond b t u)
either_has true t u m one other = one
either_has false t u m one other = other

left_has : (c : Inputs) (s : State) (a : ℕ) (x : CtxNo) (eax : ℕ) (h : Handler) → Has s.world.memory (left_row c s a x eax h)
left_has c s a x eax handler.Initialize = either_has (eax == success) _ _ s.world.memory refl refl
left_has c s a x eax handler.Isr = either_has (recognized s x) _ _ s.world.memory refl refl
left_has c s a x eax handler.HandleInterrupt = either_has (has_handler s handler.EnableInterrupt) _ _ s.world.memory refl refl
left_has c s a x eax handler.Sync = wait_has s _ _
left_has c s a x eax _ = refl

charged_has : (s : State) (who : Option AdapterNo) (n : ℕ) → Has s.world.memory (charge_to s who n)
charged_has s None n = refl
charged_has s (Some a) n = refl

quiet_memory : (s : State) (w : World) (a : Option AdapterNo) → (quiet_if_off s w a).memory ≡ w.memory
quiet_memory s w None = refl
quiet_memory s w (Some a) = by_test (alive s a.0)
  where
    by_test : (b : Bool) → (cond b w (quieted s w a.0)).memory ≡ w.memory
    by_test true = refl
    by_test false = refl

-- ---- calls

memories_same : CallsKeep → CallsSame (λ w. w.memory)
memories_same keep w v x row words answer comes = (keep w v x row words answer comes).memory

spun_has : CallsKeep → (s : State) (x : CtxNo) (call : Option Calling) → Has s.world.memory (spun s x call)
spun_has keep s x None = refl
spun_has keep s x (Some call) = spinning_has (λ w. w.memory) (memories_same keep) s x call.import call.words _ refl

-- ---- one entry

-- rights stay where memory does
as_was : (m n : Space) → n ≡ m → SpaceRights n m
as_was m n is = subst (λ (k : Space). SpaceRights k m) (sym is) (λ a. refl)

through : (k m n : Space) → k ≡ m → SpaceRights m n → SpaceRights k n
through k m n is h = subst (λ (l : Space). SpaceRights l n) (sym is) h

replied_memory : (s : State) (x : CtxNo) (told : Told) (given : Answered) → (replied s x told (Some given)).world.memory ≡ with_writes given.1.memory told.writes
replied_memory s x told given =
    let w : World = record given.1 { memory = with_writes given.1.memory told.writes } in
    charged_has _ (adapter_of s x.0) given.0.cost ∙ quiet_memory s w (adapter_of s x.0)

replied_keeps : WriteLaws → (s : State) (x : CtxNo) (told : Told) (answer : Option Answered) → AnswerHas (λ w. w.memory) s answer → SpaceRights (replied s x told answer).world.memory s.world.memory
replied_keeps laws s x told None h = λ a. refl
replied_keeps laws s x told (Some given) h =
    let w : World = record given.1 { memory = with_writes given.1.memory told.writes } in
    through (replied s x told (Some given)).world.memory (with_writes given.1.memory told.writes) s.world.memory (replied_memory s x told given)
    (λ a. writes_keep laws given.1.memory told.writes a ∙ as_was s.world.memory given.1.memory h a)

pub one_entry : WriteLaws → CallsKeep → (c : Inputs) (s : State) (e : Entry) → SpaceRights (after c s e).world.memory s.world.memory
one_entry laws keep c s (entries.Indicate a j bytes holders copied) =
    as_was s.world.memory _ (by_test (stays_home s a.0 (map (λ b. b.0) holders) copied) (framed s holders).world _ refl (framed_has s.world.memory s holders refl))
  where
    by_test : (b : Bool) (w v : World) → v.memory ≡ w.memory → w.memory ≡ s.world.memory → (cond b w v).memory ≡ s.world.memory
    by_test true w v is one = one
    by_test false w v is one = is ∙ one
one_entry laws keep c s (entries.Enter a x h words writes) = entered_keeps laws s.world.memory x.0 words writes
one_entry laws keep c s (entries.Leave x eax) = as_was s.world.memory _ (either_has (is_breaking (leaves c s x eax)) _ _ s.world.memory refl (left_has c s _ x eax _))
one_entry laws keep c s (entries.Turn x n) =
    through (after c s (entries.Turn x n)).world.memory (turned n (machine_of s x)).memory s.world.memory (charged_has _ (adapter_of s x.0) n) (turned_keeps laws n (machine_of s x))
one_entry laws keep c s (entries.Reply x eax writes) =
    let told : Told = record { eax = eax; writes = writes } in replied_keeps laws s x told (answered s x told) (answer_has (λ w. w.memory) (memories_same keep) s x told)
one_entry laws keep c s (entries.Spin x lock) = as_was s.world.memory _ (spun_has keep s x (call_at s x.0))
one_entry laws keep c s (entries.Stop a why) = as_was s.world.memory _ (ended_memory _ _)
one_entry laws keep c s _ = λ a. refl

-- ---- over a run

pub rights_stay : WriteLaws → CallsKeep → GoesOn → (c : Inputs) (s : State) → IsOfRun c s → SameRights (cells s) (cells (start c))
rights_stay laws keep on c s is =
    of_run on c (λ t. SameRights (cells t) (cells (start c))) (λ t e of h meets a. one_entry laws keep c t e a ∙ h a) (λ a. refl) s is

pub stays : WriteLaws → CallsKeep → GoesOn → (c : Inputs) (s : State) (access : Access) (at n : ℕ) → IsOfRun c s → first_fault access (cells s) at n ≡ first_fault access (cells (start c)) at n
stays laws keep on c s access at n is = faults_same access (cells s) (cells (start c)) at n (rights_stay laws keep on c s is)
