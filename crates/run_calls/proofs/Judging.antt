-- The call is judged before its entry: what its answer says of it.
use Rattle.std.proofs.Common.{◌≡◌, ℕ, ◌<◌, ◌≤◌, ◌^◌, true, List, [], ◌∷◌, Option, Some, None, Result, Ok, Err, refl, sym, ap, ◌∙◌, subst, arith, append-nil, ◌||◌}
use Rattle.std.specs.FinMap as table
use Rattle.nd_base.specs.declared.numbers.Breach.{Breach}
use Rattle.nd_base.specs.declared.numbers.CtxNo.{CtxNo}
use Rattle.nd_base.specs.declared.numbers.Slot.TheVariants.{Import, Leave}
use Rattle.ia32_step.specs.Machine.{Outcome as StepOutcome, Trapped, Moved, Faulted, outcome as step_outcome}
use Rattle.import_table.specs.declared.calls.Call.{Call}
use Rattle.import_table.specs.Laws.{CallLaws}
use Rattle.import_table.specs.Table.{row_of}
use Rattle.guest_world.specs.declared.answer.Answer.{Answer}
use Rattle.guest_world.specs.declared.answer.Answer.TheVariants.{Sleep, Sync}
use Rattle.guest_world.specs.declared.answer.CallRefusal.{CallRefusal}
use Rattle.guest_world.specs.declared.answer.CallRefusal.TheVariants.{Broken}
use Rattle.guest_world.specs.declared.answer.Caller.{Caller}
use Rattle.guest_world.specs.declared.answer.Reply.{Reply}
use Rattle.guest_world.specs.declared.world.World.{World}
use Rattle.import_answers.specs.Outcomes.{Outcome, Breaks, Replies, Picks, PicksDescriptor, Spins, Sleeps, Synchronizes, Comes}
use Rattle.import_answers.specs.Answers.{eight, outcome}
use Rattle.import_answers.specs.World.{word}
use Rattle.call_replies.specs.Wanting.{ComesOr}
use Rattle.guest_calls.specs.Rows.{IsCall, words_of}
use Rattle.legal_run.specs.State.{Inputs, State, Calling, Wait, Nothing, OnClock, OnSync, Needed, adapter_of, caller, context_at}
use Rattle.legal_run.specs.Calls.{Did, Waits, Made, by_outcome, did, outcome_of}
use Rattle.legal_run.specs.Calls as calls
use Rattle.legal_run.specs.After.{calling, machine_of}
use Rattle.legal_run.specs.Run.{Run, call_words, is_at_import, is_going, is_memory_stop, now}
use Rattle.call_log.specs.Logs.{State as LogState}
use Rattle.owner_book.specs.Stopping.{stop_room}
use Rattle.std.specs.List.{list_any}
use Rattle.miniport.specs.Steps.{Goes, MayCall}
use Rattle.run_facts.specs.Facts.{ContextsAreReady}
use Rattle.run_moves.specs.declared.running.Running.{Running}
use Rattle.run_stops.specs.Standing.{IsLost, IsSettled, point_of, state_of}
use Rattle.std.specs.Option.{option_map, option_map_or, option_or}
use Rattle.log_fields.specs.declared.field_values.Cause.TheVariants.{Memory}
use Rattle.call_log.specs.declared.entry.Entry.TheVariants as entries
use Rattle.owner_machine.specs.Must.{Due as OwnerDue, may_break_in, owner_must, serves}
use Rattle.legal_run.specs.Must.{Due, Owes, must, next_must, taken_first}
use Rattle.call_facts.specs.Costs.{AreWords, CostsAreSmall}
use Rattle.run_calls.specs.Answering.{CanReturn, IsAnswer, IsAsking, Opens}
use Rattle.miniport_state.specs.Seen.{Point}
use Rattle.run_calls.proofs.Words.{breaks, has_words, numbered, returns_to, sleeps, trapped_at}
use Rattle.run_calls.proofs.Rules.{BreaksRule, IsRule, outcome_rule}

-- ---- the slot

at_slot : (o : StepOutcome) (import : ℕ) → is_at_import o import ≡ true → o ≡ Trapped (Import import)
at_slot (Trapped (Import n)) import h = let same : n ≡ import = grind (arith, h) in ap (λ (k : ℕ). Trapped (Import k)) same
at_slot (Trapped Leave) import h = absurd (cc)
at_slot (Moved m) import h = absurd (cc)
at_slot (Faulted kind at) import h = absurd (cc)

pub import_number : (s : State) (x : CtxNo) (import : ℕ) → is_at_import (step_outcome (machine_of s x)) import ≡ true → (1 ≤ import) × (import ≤ 64)
import_number s x import at = numbered (machine_of s x).registers.eip import (trapped_at (machine_of s x) (Import import) (at_slot (step_outcome (machine_of s x)) import at))

pub goes : ContextsAreReady → (c : Inputs) (r : Running) (x : CtxNo) → IsSettled c r → x.0 < 16 → is_going c (state_of c r) x ≡ true → Goes (point_of c r) x
goes laws c r x settled number going = record {
  number = number;
  free = settled.free;
  going = going;
  works = (laws.goes c (state_of c r) x (record { log = r.log.entries; reaches = settled.runs.reaches }) going).works;
}

-- ---- its answer, by the words that were read

pub heard : (P : World → World → Type 0) (s : State) (x : CtxNo) (import : ℕ) (call : Call) (words : List ℕ) (who : Caller) (result given : Result Answer CallRefusal) (w v : World) → words ≡ words_of call
    → call.import ≡ import → who ≡ caller s x → w ≡ s.world → result ≡ given → ComesOr P (outcome w who (row_of call.import) (words_of call)) w result v → ComesOr P (outcome_of s x import words) s.world given v
heard P s x import call words who result given w v said number is world same comes =
    subst (λ (r : Result Answer CallRefusal). ComesOr P (outcome_of s x import words) s.world r v) same
    (subst (λ (ws : List ℕ). ComesOr P (outcome s.world (caller s x) (row_of import) ws) s.world result v) (sym said)
    (subst (λ (n : ℕ). ComesOr P (outcome s.world (caller s x) (row_of n) (words_of call)) s.world result v) number
    (subst (λ (y : Caller). ComesOr P (outcome s.world y (row_of call.import) (words_of call)) s.world result v) is
    (subst (λ (u : World). ComesOr P (outcome u who (row_of call.import) (words_of call)) u result v) world comes))))

pub small_cost : CostsAreSmall → (s : State) (x : CtxNo) (import : ℕ) (call : Call) (words : List ℕ) (reply : Reply) (v : World) → words ≡ words_of call → IsCall call → AreWords call.words
    → IsAnswer s x import words reply v → reply.cost ≤ 2 ^ 33
small_cost laws s x import call words reply v said is fits answer =
    let most = laws.now s.world v (caller s x) (row_of import) words reply (subst AreWords (sym (ap eight said ∙ is.zeros)) fits) answer in
    omega (arith, most)

-- ---- what the call does

pub did_sleep : (s : State) (x : CtxNo) (import : ℕ) (words : List ℕ) (wake : ℕ) (v : World) → Comes (outcome_of s x import words) s.world (Ok (Sleep wake)) v → (did s x import words ≡ Waits (OnClock wake)) × (v ≡ s.world)
did_sleep s x import words wake v h = let is = sleeps (outcome_of s x import words) s.world v wake h in (ap (by_outcome s (adapter_of s x.0) import words) is.0, is.1)

synchronizes : (o : Outcome) (w v : World) → Comes o w (Ok Sync) v → (o ≡ Synchronizes) × (v ≡ w)
synchronizes Synchronizes w v h = (refl, h)
synchronizes (Breaks rule) w v h = absurd h
synchronizes (Sleeps moment) w v h = absurd h
synchronizes (Replies reply after) w v h = absurd h
synchronizes (Picks n reply after) w v h = absurd h
synchronizes (PicksDescriptor kind handle reply after) w v h = absurd h
synchronizes (Spins holder after) w v h = absurd h

pub did_sync : (s : State) (x : CtxNo) (import : ℕ) (words : List ℕ) (v : World) → Comes (outcome_of s x import words) s.world (Ok Sync) v → (did s x import words ≡ Waits (OnSync Needed)) × (v ≡ s.world)
did_sync s x import words v h = let is = synchronizes (outcome_of s x import words) s.world v h in (ap (by_outcome s (adapter_of s x.0) import words) is.0, is.1)

pub did_break : (s : State) (x : CtxNo) (import : ℕ) (words : List ℕ) (b : Breach) (v : World) → Comes (outcome_of s x import words) s.world (Err (Broken b)) v
    → (did s x import words ≡ calls.Broken b.0) × ((v ≡ s.world) × IsRule b.0)
did_break s x import words b v h =
    let is = breaks (outcome_of s x import words) s.world v b h in
    (ap (by_outcome s (adapter_of s x.0) import words) is.0, (is.1, subst BreaksRule is.0 (outcome_rule s.world (caller s x) (row_of import) words)))

pub can_return : CallLaws → (s : State) (x : CtxNo) (import : ℕ) (words : List ℕ) (answer : Answer) (v : World) → words ≡ call_words s x import → (1 ≤ import) × (import ≤ 64)
    → Comes (outcome_of s x import words) s.world (Ok answer) v → CanReturn s x
can_return laws s x import words answer v said range comes =
    returns_to laws s.world (caller s x) (row_of import) (context_at s x.0).registers (table.get s.world.memory) answer v (has_words import range.0 range.1)
    (subst (λ (ws : List ℕ). Comes (outcome_of s x import ws) s.world (Ok answer) v) said comes)

-- ---- how it is kept open

pub may_call : (c : Inputs) (r : Running) (x : CtxNo) (import : ℕ) (words kept : List ℕ) (wait : Wait) → Goes (point_of c r) x → (1 ≤ import) × (import ≤ 64)
    → is_at_import (step_outcome (machine_of (state_of c r) x)) import ≡ true → words ≡ call_words (state_of c r) x import → kept ≡ words
    → calling import words (did (state_of c r) x import words) ≡ record { import = import; words = words; wait = wait; writes = [] }
    → MayCall (point_of c r) x (record { import = import; words = kept; wait = wait; writes = [] }) words
may_call c r x import words kept wait go range at said same does = record {
  goes = go;
  number = range;
  slot = at;
  said = said;
  kept = ap (λ (ws : List ℕ). record { import = import; words = ws; wait = wait; writes = [] }) same ∙ sym does;
}

pub opens : (c : Inputs) (r : Running) (x : CtxNo) (import : ℕ) (words kept : List ℕ) → Goes (point_of c r) x → (1 ≤ import) × (import ≤ 64) → is_at_import (step_outcome (machine_of (state_of c r) x)) import ≡ true
    → words ≡ call_words (state_of c r) x import → kept ≡ words → Opens (point_of c r) x (record { import = import; words = kept; wait = Nothing; writes = [] }) words
opens c r x import words kept go range at said same = record {
  goes = go;
  number = range;
  slot = at;
  said = said;
  kept = ap (λ (ws : List ℕ). record { import = import; words = ws; wait = Nothing; writes = [] }) same;
}

pub opens_as : (o : Point) (x : CtxNo) (call : Calling) (words : List ℕ) → Opens o x call words → calling call.import words (did o.state x call.import words) ≡ record { import = call.import; words = words; wait = Nothing; writes = [] } → MayCall o x call words
opens_as o x call words open_here does = record { goes = open_here.goes; number = open_here.number; slot = open_here.slot; said = open_here.said; kept = open_here.kept ∙ sym does }

-- the first word
pub first_word : (words : List ℕ) → word (eight words) 1 ≡ word words 1
first_word [] = refl
first_word (w ∷ ws) = refl

-- ---- a run that has settled

pub asking : (c : Inputs) (r : Running) (v : World) → IsSettled c r → IsAsking c (record r { world = v })
asking c r v settled = record {
  answering = record { reaches = settled.runs.reaches; keeps = settled.runs.kept.keeps; owner = settled.runs.kept.owner; shown = settled.runs.shown };
  free = settled.free;
  fed = settled.fed;
  room = settled.room;
}

pub still_settled : (c : Inputs) (r : Running) (v : World) → v ≡ (state_of c r).world → IsSettled c r → IsSettled c (record r { world = v })
still_settled c r v same settled = record {
  runs = record { reaches = settled.runs.reaches; kept = record { keeps = settled.runs.kept.keeps; owner = settled.runs.kept.owner; world = same }; shown = settled.runs.shown };
  free = settled.free;
  fed = settled.fed;
  room = settled.room;
}

none_owed : (a b : Option Due) (o : Option OwnerDue) → option_or a (option_or (option_map Owes o) b) ≡ None → o ≡ None
none_owed None b None h = refl
none_owed None b (Some d) h = absurd (cc)
none_owed (Some a) b o h = absurd (cc)

silent : (s : State) → must s ≡ None → owner_must s.owner ≡ None
unfolding must
silent s h = none_owed (taken_first s.next) (next_must s.next) (owner_must s.owner) h

-- memory was wanted before anything was written
pub lost : (c : Inputs) (r : Running) (v : World) → IsSettled c r → IsLost c r (record r { world = v })
lost c r v settled = record {
  cut = record {
    reaches = settled.runs.reaches;
    owner = settled.runs.kept.owner;
    breaks = λ a. ap (λ (o : Option OwnerDue). option_map_or (λ due. serves (state_of c r).owner due (entries.Stop a Memory) || may_break_in (state_of c r).owner.next (entries.Stop a Memory)) o true) (silent (state_of c r) settled.free);
    fed = settled.fed;
    room = settled.room;
    over = λ _. settled.free;
  };
  longer = record { more = []; written = sym (append-nil r.log.entries) };
}

pub lost_asking : (c : Inputs) (r : Running) (log : LogState) → log.entries ≡ r.log.entries → r.log.spare ≤ log.spare → IsAsking c r → IsLost c r (record r { log = log })
lost_asking c r log same more asking =
    let is : now c log.entries ≡ state_of c r = ap (now c) same in
    let room = asking.room in
    let owner : stop_room (now c log.entries).owner ≡ stop_room (state_of c r).owner = ap (λ (s : State). stop_room s.owner) is in
    record {
      cut = record {
        reaches = record { run = subst (Run c) (sym same) asking.answering.reaches.run; state = refl };
        owner = asking.answering.owner ∙ ap (λ (s : State). s.owner) (sym is);
        breaks = λ a. ap (λ (o : Option OwnerDue). option_map_or (λ due. serves (now c log.entries).owner due (entries.Stop a Memory) || may_break_in (now c log.entries).owner.next (entries.Stop a Memory)) o true) (ap (λ (s : State). owner_must s.owner) is ∙ silent (state_of c r) asking.free);
        fed = ap (list_any is_memory_stop) same ∙ asking.fed;
        room = omega (arith, room, owner, more);
        over = λ _. ap must is ∙ asking.free;
      };
      longer = record { more = []; written = same ∙ sym (append-nil r.log.entries) };
    }

-- where the answer has left the world as it was
pub settled_asking : (c : Inputs) (r : Running) → r.world ≡ (state_of c r).world → IsAsking c r → IsSettled c r
settled_asking c r same asking = record {
  runs = record { reaches = asking.answering.reaches; kept = record { keeps = asking.answering.keeps; owner = asking.answering.owner; world = same }; shown = asking.answering.shown };
  free = asking.free;
  fed = asking.fed;
  room = asking.room;
}
