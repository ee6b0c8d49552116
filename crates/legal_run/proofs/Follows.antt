-- Contexts follow the code: what a turn and a reply leave of them, and how many there are.
use Rattle.std.proofs.Common.{◌≡◌, ℕ, ◌<◌, ◌+◌, Bool, true, false, cond, List, [], ◌∷◌, ◌++◌, length, slice_set, refl, sym, ap, ◌∙◌, subst, Option, Some, None}
use Rattle.std.proofs.lemmas.List.{length-set, get_or-set_same}
use Rattle.nd_base.specs.declared.numbers.AdapterNo.{AdapterNo}
use Rattle.nd_base.specs.declared.numbers.BindingNo.{BindingNo}
use Rattle.nd_base.specs.declared.numbers.CtxNo.{CtxNo}
use Rattle.log_fields.specs.declared.write.Write.{Write}
use Rattle.log_fields.specs.declared.field_values.Handler.{Handler}
use Rattle.log_fields.specs.declared.field_values.Handler.TheVariants as handler
use Rattle.call_log.specs.declared.entry.Entry.{Entry}
use Rattle.call_log.specs.declared.entry.Entry.TheVariants as entries
use Rattle.import_table.specs.Table.{row_of}
use Rattle.import_answers.specs.Statuses.{success}
use Rattle.legal_run.specs.State.{Inputs, State, Context, Wait, Calling, no_contexts, adapter_of, context_at, cells, has_handler, start}
use Rattle.legal_run.specs.Calls.{leaves}
use Rattle.legal_run.specs.Replies.{Answered, Told, answered, returned}
use Rattle.legal_run.specs.After.{after, effect, framed, all_spoke, charge_to, with_context, with_world, with_wait, taken, left_row, replied, spun, is_breaking, recognized, turned, machine_of, import_of}
use Rattle.legal_run.specs.Run.{now, now_from}

-- ---- how many there are

count : State → ℕ
count s = length s.contexts

framed_count : (s : State) (bs : List BindingNo) → length (framed s bs).contexts ≡ length s.contexts
unfolding framed
framed_count s [] = refl
framed_count s (b ∷ bs) = framed_count _ bs

spoke_count : (s : State) (bs : List ℕ) → length (all_spoke s bs).contexts ≡ length s.contexts
unfolding all_spoke
spoke_count s [] = refl
spoke_count s (b ∷ bs) = spoke_count _ bs

wait_count : (s : State) (x : Option ℕ) (w : Wait) → length (with_wait s x w).contexts ≡ length s.contexts
wait_count s None w = refl
wait_count s (Some x) w = length-set s.contexts x _

taken_count : (s : State) (a : ℕ) (h : Handler) (words : List ℕ) (writes : List Write) → length (taken s a h words writes).contexts ≡ length s.contexts
taken_count s a handler.Sync words writes = wait_count s _ _
taken_count s a _ words writes = refl

either_count : (b : Bool) (x y : State) (n : ℕ) → length x.contexts ≡ n → length y.contexts ≡ n → length (cond b x y).contexts ≡ n
either_count true x y n one other = one
either_count false x y n one other = other

left_count : (c : Inputs) (s : State) (a : ℕ) (x : CtxNo) (eax : ℕ) (h : Handler) → length (left_row c s a x eax h).contexts ≡ length s.contexts
left_count c s a x eax handler.Initialize = either_count (Rattle.std.proofs.Common.◌==◌ eax success) _ _ _ refl refl
left_count c s a x eax handler.Isr = either_count (recognized s x) _ _ _ refl refl
left_count c s a x eax handler.HandleInterrupt = either_count (has_handler s handler.EnableInterrupt) _ _ _ refl refl
left_count c s a x eax handler.Sync = wait_count s _ _
left_count c s a x eax _ = refl

charge_count : (s : State) (who : Option AdapterNo) (n : ℕ) → length (charge_to s who n).contexts ≡ length s.contexts
charge_count s None n = refl
charge_count s (Some a) n = refl

replied_count : (s : State) (x : CtxNo) (told : Told) (answer : Option Answered) → length (replied s x told answer).contexts ≡ length s.contexts
replied_count s x told None = refl
replied_count s x told (Some given) = charge_count _ (adapter_of s x.0) given.0.cost ∙ length-set s.contexts x.0 _

spun_count : (s : State) (x : CtxNo) (call : Option Calling) → length (spun s x call).contexts ≡ length s.contexts
spun_count s x None = refl
spun_count s x (Some call) = refl

effect_count : (c : Inputs) (s : State) (e : Entry) → length (effect c s e).contexts ≡ length s.contexts
effect_count c s (entries.Indicate a j bytes holders copied) = framed_count s holders
effect_count c s (entries.Enter a x h words writes) = length-set _ x.0 _ ∙ taken_count s _ h words writes
effect_count c s (entries.Leave x eax) = either_count (is_breaking (leaves c s x eax)) _ _ _ refl (left_count c s _ x eax _)
effect_count c s (entries.Turn x n) = charge_count _ (adapter_of s x.0) n ∙ length-set s.contexts x.0 _
effect_count c s (entries.Call x import words) = length-set s.contexts x.0 _
effect_count c s (entries.Reply x eax writes) = replied_count s x (record { eax = eax; writes = writes }) (answered s x (record { eax = eax; writes = writes }))
effect_count c s (entries.Spin x lock) = spun_count s x _
effect_count c s (entries.Stop a why) = spoke_count s _
effect_count c s _ = refl

counted : (c : Inputs) (s : State) (log : List Entry) → length (now_from c s log).contexts ≡ length s.contexts
unfolding now_from
counted c s [] = refl
counted c s (e ∷ log) = counted c (after c s e) log ∙ effect_count c s e

begun : length no_contexts ≡ 16
unfolding no_contexts
begun = refl

pub sixteen : (c : Inputs) (log : List Entry) → length (now c log).contexts ≡ 16
sixteen c log = counted c (start c) log ∙ begun

-- ---- a turn

charged_machine : (s : State) (who : Option AdapterNo) (n : ℕ) (x : CtxNo) → machine_of (charge_to s who n) x ≡ machine_of s x
charged_machine s None n x = refl
charged_machine s (Some a) n x = refl

pub turn_leaves : (c : Inputs) (s : State) (x : CtxNo) (n : ℕ) → x.0 < length s.contexts → machine_of (after c s (entries.Turn x n)) x ≡ turned n (machine_of s x)
turn_leaves c s x n within =
    let m : Rattle.ia32_step.specs.Machine.Machine = turned n (machine_of s x) in
    let y : Context = record (context_at s x.0) { registers = m.registers } in
    let t : State = with_context (with_world s (record s.world { memory = m.memory })) x.0 y in
    let here : context_at t x.0 ≡ y = get_or-set_same s.contexts x.0 y _ within in
    charged_machine t (adapter_of s x.0) n x ∙ ap (λ (k : Context). Rattle.ia32_step.specs.Machine.machine k.registers m.memory) here

-- ---- a reply

charged_context : (s : State) (who : Option AdapterNo) (n x : ℕ) → context_at (charge_to s who n) x ≡ context_at s x
charged_context s None n x = refl
charged_context s (Some a) n x = refl

replied_registers : (s : State) (x : CtxNo) (told : Told) (answer : Option Answered) (given : Answered) → x.0 < length s.contexts → answer ≡ Some given
    → (context_at (replied s x told answer) x.0).registers ≡ returned (cells s) (context_at s x.0).registers (row_of (import_of s x)) told.eax
replied_registers s x told None given within h = absurd (cc)
replied_registers s x told (Some (reply, world)) given within h =
    let y : Context = record (context_at s x.0) { registers = returned (cells s) (context_at s x.0).registers (row_of (import_of s x)) told.eax; call = None } in
    ap (λ (k : Context). k.registers) (charged_context _ (adapter_of s x.0) reply.cost x.0 ∙ get_or-set_same s.contexts x.0 y _ within)

pub reply_returns : (c : Inputs) (s : State) (x : CtxNo) (eax : ℕ) (writes : List Write) (given : Answered) → x.0 < length s.contexts
    → answered s x (record { eax = eax; writes = writes }) ≡ Some given
    → (context_at (after c s (entries.Reply x eax writes)) x.0).registers ≡ returned (cells s) (context_at s x.0).registers (row_of (import_of s x)) eax
reply_returns c s x eax writes given within h = replied_registers s x (record { eax = eax; writes = writes }) _ given within h
