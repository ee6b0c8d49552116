-- A call whose answer was judged before its entry: what is due behind the entry, and that the answer stays the same.
use Rattle.std.proofs.Common.{◌≡◌, ℕ, ◌<◌, ◌≤◌, ◌+◌, ◌^◌, false, List, [], ◌∷◌, length, Option, Some, None, Ok, refl, sym, ap, ◌∙◌, subst}
use Rattle.std.specs.List.{AllByRecursion, list_any}
use Rattle.std.specs.Option.{option_map, option_map_or, option_or}
use Rattle.nd_base.specs.declared.numbers.Addr.{Addr}
use Rattle.nd_base.specs.declared.numbers.CtxNo.{CtxNo}
use Rattle.nd_mem.specs.Space.{address, first_fault, Reading}
use Rattle.ia32_step.specs.Registers.{general_of, ESP}
use Rattle.call_log.specs.declared.entry.Entry.{Entry}
use Rattle.call_log.specs.declared.entry.Entry.TheVariants as entries
use Rattle.import_table.specs.Table.{row_of}
use Rattle.guest_world.specs.declared.answer.Answer.TheVariants.{Now, Spin}
use Rattle.guest_world.specs.declared.answer.Caller.{Caller}
use Rattle.guest_world.specs.declared.answer.Reply.{Reply}
use Rattle.guest_world.specs.declared.world.World.{World}
use Rattle.import_answers.specs.Outcomes.{Outcome, Breaks, Replies, Picks, PicksDescriptor, Spins, Sleeps, Synchronizes, Comes}
use Rattle.import_answers.specs.Answers.{outcome}
use Rattle.import_answers.specs.World.{word}
use Rattle.owner_machine.specs.Must.{Due as OwnerDue, must_behind as owners_must, owner_must}
use Rattle.legal_run.specs.State.{Inputs, State, Context, Calling, Next, Free, Spinning, Makes, OnLock, adapter_of, call_at, cells}
use Rattle.legal_run.specs.Calls.{Did, Waits, Made, by_outcome, did, outcome_of}
use Rattle.legal_run.specs.After.{after, call_next, calling, popped, spun, world_spinning}
use Rattle.legal_run.specs.Must.{Exactly, Owes, ReplyOf, must, next_must, taken_first}
use Rattle.guest_world.specs.Worlds.{longest_time}
use Rattle.legal_run.specs.State.{clock}
use Rattle.legal_run.specs.After.{import_of}
use Rattle.legal_run.specs.Run.{is_memory_stop}
use Rattle.run_moves.specs.declared.running.Running.{Running}
use Rattle.run_moves.specs.Runs.{IsAnswering}
use Rattle.run_stops.specs.Standing.{point_of, state_of}
use Rattle.run_calls.specs.Answering.{CanReturn, Continues, IsAnswer, IsLight, IsMaking, Serving}
use Rattle.owner_book.specs.Stopping.{stop_room}
use Rattle.run_calls.proofs.Settling.{fed_more}
use Rattle.run_calls.proofs.Behind.{called, same_caller}

-- where the owner machine asks for nothing
pub must_behind : (s : State) (n : Next) → owner_must s.owner ≡ None → s.next ≡ n → must s ≡ option_or (taken_first n) (next_must n)
unfolding must
must_behind s n none is =
    ap (λ (o : Option OwnerDue). option_or (taken_first s.next) (option_or (option_map Owes o) (next_must s.next))) none ∙ ap (λ (m : Next). option_or (taken_first m) (next_must m)) is

-- ---- behind the call's entry

-- who calls is as it was, and so is what the import's row says
pub same_outcome : (c : Inputs) (s : State) (x : CtxNo) (import : ℕ) (words : List ℕ) (other : ℕ) (others : List ℕ)
    → outcome_of (after c s (entries.Call x import words)) x other others ≡ outcome_of s x other others
same_outcome c s x import words other others = ap (λ (who : Caller). outcome s.world who (row_of other) others) (same_caller c s x import words)

pub opened : (c : Inputs) (s : State) (x : CtxNo) (import : ℕ) (words : List ℕ) → x.0 < length s.contexts
    → call_at (after c s (entries.Call x import words)) x.0 ≡ Some (calling import words (did s x import words))
opened c s x import words less = ap (λ (k : Context). k.call) (called c s x import words less)

pub returns_still : (c : Inputs) (s : State) (x : CtxNo) (import : ℕ) (words : List ℕ) → x.0 < length s.contexts → CanReturn s x → CanReturn (after c s (entries.Call x import words)) x
returns_still c s x import words less can =
    ap (λ (k : Context). first_fault Reading (cells s) (general_of k.registers ESP) 4) (called c s x import words less) ∙ can

-- ---- a call that waits for a lock

pub spins : (o : Outcome) (w v : World) (holder : CtxNo) → Comes o w (Ok (Spin holder)) v → o ≡ Spins holder v
spins (Spins other after) w v holder h = ap (λ (n : CtxNo). Spins n after) (sym h.0) ∙ ap (Spins holder) (sym h.1)
spins (Breaks rule) w v holder h = absurd h
spins (Sleeps moment) w v holder h = absurd h
spins (Replies reply after) w v holder h = absurd h
spins (Picks n reply after) w v holder h = absurd h
spins (PicksDescriptor kind handle reply after) w v holder h = absurd h
spins Synchronizes w v holder h = absurd h

pub did_spin : (s : State) (x : CtxNo) (import : ℕ) (words : List ℕ) (holder : CtxNo) (v : World) → Comes (outcome_of s x import words) s.world (Ok (Spin holder)) v
    → did s x import words ≡ Waits (OnLock (word words 1))
did_spin s x import words holder v h = ap (by_outcome s (adapter_of s x.0) import words) (spins (outcome_of s x import words) s.world v holder h)

pub spin_due : (c : Inputs) (s : State) (x : CtxNo) (import : ℕ) (words : List ℕ) (lock : Addr) → lock.0 ≡ word words 1 → did s x import words ≡ Waits (OnLock (word words 1))
    → must (after c s (entries.Call x import words)) ≡ Some (Exactly (entries.Spin x lock))
spin_due c s x import words lock at is =
    must_behind (after c s (entries.Call x import words)) (Spinning x (word words 1)) refl (ap (call_next c s x words) is) ∙ ap (λ (n : ℕ). Some (Exactly (entries.Spin x (address n)))) (sym at)

pub spun_world : (c : Inputs) (s : State) (x : CtxNo) (import : ℕ) (words : List ℕ) (lock : Addr) (holder : CtxNo) (v : World) → x.0 < length s.contexts
    → Comes (outcome_of s x import words) s.world (Ok (Spin holder)) v → (after c (after c s (entries.Call x import words)) (entries.Spin x lock)).world ≡ v
spun_world c s x import words lock holder v less h =
    let t = after c s (entries.Call x import words) in
    let is : call_at t x.0 ≡ Some (calling import words (Waits (OnLock (word words 1)))) = opened c s x import words less ∙ ap (λ (d : Did). Some (calling import words d)) (did_spin s x import words holder v h) in
    ap (λ (k : Option Calling). (spun t x k).world) is
    ∙ ap (world_spinning s.world) (same_outcome c s x import words import words ∙ spins (outcome_of s x import words) s.world v holder h)

spun_owner : (c : Inputs) (t : State) (x : CtxNo) (lock : Addr) → owner_must (after c t (entries.Spin x lock)).owner ≡ None
spun_owner c t x lock = refl

pub spun_next : (c : Inputs) (s : State) (x : CtxNo) (import : ℕ) (words : List ℕ) (lock : Addr) → did s x import words ≡ Waits (OnLock (word words 1))
    → must (after c (after c s (entries.Call x import words)) (entries.Spin x lock)) ≡ None
spun_next c s x import words lock is =
    must_behind (after c (after c s (entries.Call x import words)) (entries.Spin x lock)) Free (spun_owner c (after c s (entries.Call x import words)) x lock) (ap (λ (n : Next). popped n) (ap (call_next c s x words) is))

-- ---- a call that is answered at once

-- behind the call's entry stands what it makes, and then the reply that was judged
pub begins : (c : Inputs) (x : CtxNo) (import : ℕ) (words : List ℕ) (reply : Reply) (es : List Entry) (before m : Running) → Continues (point_of c before) (entries.Call x import words) before m → IsAnswering (point_of c m) m
    → state_of c m ≡ after c (state_of c before) (entries.Call x import words) → x.0 < length (state_of c before).contexts → did (state_of c before) x import words ≡ Made es [] [] → AllByRecursion IsLight es
    → IsAnswer (state_of c before) x import words reply before.world → list_any is_memory_stop before.log.entries ≡ false → reply.cost ≤ 2 ^ 33 → CanReturn (state_of c before) x
    → clock (state_of c before) + longest_time < 2 ^ 64 → stop_room (state_of c m).owner + length es < m.log.spare
    → IsMaking (record { inputs = c; context = x; import = import; reply = reply }) es m
begins c x import words reply es before m on answering at less makes light answer fed most can time room =
    let s = state_of c before in
    let e = entries.Call x import words in
    let t = after c s e in
    let call : Calling = calling import words (Made es [] []) in
    let there : call_at t x.0 ≡ Some call = opened c s x import words less ∙ ap (λ (d : Did). Some (calling import words d)) makes in
    let same : outcome_of (state_of c m) x import words ≡ outcome_of s x import words = ap (λ (u : State). outcome_of u x import words) at ∙ same_outcome c s x import words import words in
    record {
      answering = answering;
      next = ap (λ (u : State). u.next) at ∙ ap (call_next c s x words) makes;
      silent = ap (λ (u : State). u.owner.next) at;
      light = light;
      call = call;
      called = ap (λ (u : State). call_at u x.0) at ∙ there;
      number = refl;
      plain = refl;
      by_row = refl;
      comes =
          subst (λ (v : World). Comes (outcome_of (state_of c m) x import words) (state_of c m).world (Ok (Now reply)) v) (sym on.world)
          (subst (λ (w : World). Comes (outcome_of (state_of c m) x import words) w (Ok (Now reply)) before.world) (sym (ap (λ (u : State). u.world) at))
          (subst (λ (o : Outcome). Comes o s.world (Ok (Now reply)) before.world) (sym same) answer));
      most = most;
      returns = subst (λ (u : State). CanReturn u x) (sym at) (returns_still c s x import words less can);
      fed = ap (list_any is_memory_stop) on.written ∙ fed_more before.log.entries e fed refl;
      time = subst (λ (u : State). clock u + longest_time < 2 ^ 64) (sym at) time;
      room = room;
    }

-- the open call's import is that of the state
pub import_at : (v : Serving) (es : List Entry) (r : Running) → IsMaking v es r → import_of (state_of v.inputs r) v.context ≡ v.import
import_at v es r making = ap (λ (k : Option Calling). option_map_or (λ call. call.import) k 0) making.called ∙ making.number

pub reply_is_due : (v : Serving) (r : Running) → IsMaking v [] r → must (state_of v.inputs r) ≡ Some (ReplyOf v.context)
reply_is_due v r making = must_behind (state_of v.inputs r) (Makes v.context [] []) (ap (owners_must (state_of v.inputs r).owner) making.silent) making.next

pub entry_is_due : (v : Serving) (e : Entry) (es : List Entry) (r : Running) → IsMaking v (e ∷ es) r → must (state_of v.inputs r) ≡ Some (Exactly e)
entry_is_due v e es r making = must_behind (state_of v.inputs r) (Makes v.context (e ∷ es) []) (ap (owners_must (state_of v.inputs r).owner) making.silent) making.next

-- the same, by the context that calls, its import and the reply
pub known_as : (v : Serving) (es : List Entry) (r : Running) (x : CtxNo) (reply : Reply) → IsMaking v es r → v.context ≡ x → v.reply ≡ reply
    → (IsMaking (record { inputs = v.inputs; context = x; import = import_of (state_of v.inputs r) x; reply = reply }) es r) × (import_of (state_of v.inputs r) x ≡ v.import)
known_as v es r x reply making context given =
    let import : import_of (state_of v.inputs r) x ≡ v.import = ap (import_of (state_of v.inputs r)) (sym context) ∙ import_at v es r making in
    let same : v ≡ record { inputs = v.inputs; context = x; import = import_of (state_of v.inputs r) x; reply = reply } =
    ap (λ (y : CtxNo). record { inputs = v.inputs; context = y; import = v.import; reply = v.reply }) context
    ∙ ap (λ (n : ℕ). record { inputs = v.inputs; context = x; import = n; reply = v.reply }) (sym import)
    ∙ ap (λ (y : Reply). record { inputs = v.inputs; context = x; import = import_of (state_of v.inputs r) x; reply = y }) given in
    (subst (λ (w : Serving). IsMaking w es r) same making, import)
