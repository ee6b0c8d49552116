-- What becomes of a call of DriverEntry, as the log tells it.
use Rattle.std.proofs.Common.{◌≡◌, ℕ, ◌+◌, ◌*◌, ◌^◌, ◌<◌, ◌≤◌, List, [], ◌∷◌, ◌++◌, refl, sym, ap, ◌∙◌, subst, arith, rules, Option, Some, None, Result, Ok, Err}
use Rattle.std.specs.Prelude.{slice_index_or, ◌==◌, Bool, true}
use Rattle.std.specs.FinMap as table
use Rattle.nd_base.specs.declared.numbers.Breach.{Breach}
use Rattle.nd_base.specs.declared.numbers.Slot.TheVariants.{Import}
use Rattle.nd_mem.specs.Space.{Space, first_fault, Reading}
use Rattle.ia32_step.specs.Registers.{Registers, general_of, ESP}
use Rattle.ia32_step.specs.Machine.{Outcome, Trapped, outcome}
use Rattle.call_log.specs.declared.entry.Entry.{Entry}
use Rattle.call_log.specs.declared.entry.Entry.TheVariants as entries
use Rattle.import_table.specs.Laws.{CallLaws}
use Rattle.import_table.specs.declared.calls.Call.{Call}
use Rattle.import_table.specs.Table.{Row, row_of}
use Rattle.import_table.specs.Arguments.{arguments}
use Rattle.guest_world.specs.declared.adapters.Adapter.{Adapter}
use Rattle.guest_world.specs.declared.world.World.{World}
use Rattle.guest_world.specs.declared.answer.Answer.{Answer}
use Rattle.guest_world.specs.declared.answer.Answer.TheVariants.{Now, Sleep}
use Rattle.guest_world.specs.declared.answer.CallRefusal.{CallRefusal}
use Rattle.guest_world.specs.declared.answer.CallRefusal.TheVariants.{Broken}
use Rattle.guest_world.specs.declared.answer.Reply.{Reply}
use Rattle.guest_world.specs.Worlds.{HasNoFrame, IsIdle}
use Rattle.import_answers.specs.World.{word}
use Rattle.import_answers.specs.Outcomes.{Outcome as CallOutcome, Breaks, Sleeps, Comes}
use Rattle.import_answers.specs.Answers.{eight, outcome as call_outcome}
use Rattle.call_replies.specs.Wanting.{ComesOr}
use Rattle.guest_calls.specs.Rows.{words_of, IsCall}
use Rattle.legal_run.specs.State.{State, Stops}
use Rattle.legal_run.specs.Calls.{Did, did, by_outcome}
use Rattle.legal_run.specs.Laws.{RunLaws, CallsKeep, CallKeeps, KeepsPart}
use Rattle.legal_run.specs.Run.{Reaches, is_at_import, call_words, words_read}
use Rattle.legal_run.specs.After.{calling, call_next, breach}
use Rattle.entry_run.specs.Alone.{Kept, shown}
use Rattle.entry_run.specs.Laws.{EntryLaws, Going, going, first, asking, sleeping, behind_call, row_outcome}
use Rattle.entry_calls.specs.Laws.{entry_caller, CallsOfDriverEntry, AreWords, Serves}
use Rattle.entry_session.specs.declared.session.Ending.TheVariants.{Faulting}
use Rattle.entry_session.specs.declared.session.Session.{Session}
use Rattle.entry_session.specs.Session.{Setting, inputs, going_of, machine_of, HasBudget, HasBrokenOff, HasEnded, IsAlone, IsRunning}
use Rattle.entry_session.specs.Replying.{Asked, MayReply, Sleeping, MaySleep}
use Rattle.entry_session.proofs.Calling.{returns_to, has_words, sleeps, breaks, served}
use Rattle.entry_session.proofs.Reaching.{goes, adds_one}

-- a session in which a call was logged and answered, and nothing else was done
pub record IsCalled (s t : Session) (import : ℕ) (words : List ℕ) : Type 0 where
  pub low : 1 ≤ import
  pub high : import ≤ 64
  pub at : outcome (machine_of s) ≡ Trapped (Import import)
  pub words_are : words ≡ call_words (shown (going (going_of s))) first import
  pub fit : AreWords (eight words)
  pub log : t.log.entries ≡ s.log.entries ++ entries.Call first import words ∷ []
  pub regs : t.regs ≡ s.regs
  pub charged : t.charged ≡ s.charged
  pub budget : t.budget ≡ s.budget

-- the words of a session's call
abbrev pub words_at : Session → ℕ → List ℕ
words_at s n = call_words (shown (going (going_of s))) first n

read_words : (s : Session) (n m : ℕ) (row : Row) (call : Call) → row ≡ row_of m → n ≡ m → words_of call ≡ words_read (arguments row s.regs (table.get s.world.memory)) → words_of call ≡ words_at s n
read_words s n m row call is same are =
    are ∙ ap (λ (r : Row). words_read (arguments r s.regs (table.get s.world.memory))) is ∙ ap (λ (k : ℕ). words_at s k) (sym same)

pub is_called : (s t : Session) (n m : ℕ) (row : Row) (call : Call) (entry : Entry) → 1 ≤ m → m ≤ 64 → outcome (machine_of s) ≡ Trapped (Import m) → row ≡ row_of m → n ≡ m
    → words_of call ≡ words_read (arguments row s.regs (table.get s.world.memory)) → call.import ≡ n → IsCall call → AreWords call.words
    → entry ≡ entries.Call first call.import (words_of call) → t.log.entries ≡ s.log.entries ++ entry ∷ [] → t.regs ≡ s.regs → t.charged ≡ s.charged → t.budget ≡ s.budget
    → IsCalled s t n (words_at s n)
is_called s t n m row call entry low high at is same are number taken fit told logged regs charged budget =
    let words : words_of call ≡ words_at s n = read_words s n m row call is same are in
    record {
      low = omega (arith, same);
      high = omega (arith, same);
      at = at ∙ ap (λ (k : ℕ). Trapped (Import k)) (sym same);
      words_are = refl;
      fit = subst AreWords (sym (ap eight (sym words) ∙ taken.zeros)) fit;
      log = logged ∙ ap (λ (e : Entry). s.log.entries ++ e ∷ []) (told ∙ ap (λ (k : ℕ). entries.Call first k (words_of call)) number ∙ ap (entries.Call first n) words);
      regs = regs;
      charged = charged;
      budget = budget;
    }

pub comes_of : (P : World → World → Type 0) (s : Session) (n m : ℕ) (row : Row) (call : Call) (r given : Result Answer CallRefusal) (v : World) → row ≡ row_of m → n ≡ m
    → words_of call ≡ words_read (arguments row s.regs (table.get s.world.memory)) → call.import ≡ n → r ≡ given
    → ComesOr P (call_outcome s.world entry_caller (row_of call.import) (words_of call)) s.world r v → ComesOr P (row_outcome (going_of s) n (words_at s n)) s.world given v
comes_of P s n m row call r given v is same are number result comes =
    let words : words_of call ≡ words_at s n = read_words s n m row call is same are in
    let o : call_outcome s.world entry_caller (row_of call.import) (words_of call) ≡ row_outcome (going_of s) n (words_at s n) =
    ap (λ (k : ℕ). call_outcome s.world entry_caller (row_of k) (words_of call)) number ∙ ap (λ (ws : List ℕ). call_outcome s.world entry_caller (row_of n) ws) words in
    subst (λ (x : CallOutcome). ComesOr P x s.world given v) o (subst (λ (x : Result Answer CallRefusal). ComesOr P (call_outcome s.world entry_caller (row_of call.import) (words_of call)) s.world x v) result comes)

own : (n : ℕ) → (n == n) ≡ true
own n = search rules

pub called : RunLaws → EntryLaws → (c : Setting) (s t : Session) (import : ℕ) (words : List ℕ) → IsRunning c s → IsCalled s t import words
    → Reaches (inputs c) t.log.entries (shown (behind_call (inputs c) (going_of s) import words))
called runs laws c s t import words running is =
    let law = laws.call c.image c.slots c.budget c.layout (going_of s) import words (ap (λ (o : Outcome). is_at_import o import) is.at ∙ own import) is.words_are in
    goes runs (inputs c) s.log.entries t.log.entries (entries.Call first import words) (shown (going (going_of s))) _ running.reached law.0 law.1 is.log

budgeted : (c : Setting) (s t : Session) → HasBudget c s → t.charged ≡ s.charged → t.budget ≡ s.budget → HasBudget c t
budgeted c s t has charged budget = record { given = budget ∙ has.given; most = omega (arith, has.most, budget); unspent = omega (arith, has.unspent, budget, charged) }

-- where it returns to can be read still
readable : CallLaws → (s t : Session) (import : ℕ) (words : List ℕ) (answer : Answer) → IsCalled s t import words → t.world.memory ≡ s.world.memory → Comes (row_outcome (going_of s) import words) s.world (Ok answer) t.world
    → first_fault Reading (table.get t.world.memory) (general_of t.regs ESP) 4 ≡ None
readable calls s t import words answer is memory comes =
    ap (λ (x : Space). first_fault Reading (table.get x) (general_of t.regs ESP) 4) memory
    ∙ ap (λ (r : Registers). first_fault Reading (table.get s.world.memory) (general_of r ESP) 4) is.regs
    ∙ returns_to calls s.world entry_caller (row_of import) s.regs (table.get s.world.memory) answer t.world (has_words import is.low is.high)
    (subst (λ (ws : List ℕ). Comes (row_outcome (going_of s) import ws) s.world (Ok answer) t.world) is.words_are comes)

none_added : (before after : Option Adapter) → KeepsPart before after → before ≡ None → after ≡ None
none_added None None keeps is = refl
none_added None (Some a) keeps is = absurd keeps
none_added (Some a) after keeps is = cc

pub may_reply : RunLaws → EntryLaws → CallsKeep → CallsOfDriverEntry → CallLaws → (c : Setting) (s t : Session) (import : ℕ) (words : List ℕ) (reply : Reply) → IsRunning c s → IsCalled s t import words
    → Comes (row_outcome (going_of s) import words) s.world (Ok (Now reply)) t.world
    → MayReply (record { setting = c; going = going_of s; import = import; kept = asking (going_of s) import words }) t reply
may_reply runs laws keep entry calls c s t import words reply running is comes =
    let law = laws.reply c.image c.slots c.budget c.layout (going_of s) import words reply t.world comes in
    let kept = keep s.world t.world entry_caller (row_of import) words (Now reply) comes in
    let answer = served (row_outcome (going_of s) import words) s.world t.world (eight words) reply (entry s.world (row_of import) words running.alone.holds is.fit) comes in
    let moment : t.world.clock.clock ≡ s.world.clock.clock = kept.moment in
    let time : s.world.clock.clock ≤ s.charged * 2 ^ 33 = running.time in
    record {
      reached = subst (λ (k : Kept). Reaches (inputs c) t.log.entries (shown k)) (laws.asks (going_of s) c.image c.slots c.budget c.layout import words reply t.world comes) (called runs laws c s t import words running is);
      meets = law.0;
      leaves = law.1;
      memory = kept.memory;
      registers = is.regs;
      charged = is.charged;
      kept = refl;
      returns = readable calls s t import words (Now reply) is kept.memory comes;
      cost = answer.0;
      time = omega (arith, moment, time, is.charged);
      budget = budgeted c s t running.budget is.charged is.budget;
      alone = record {
        opened = kept.opened first running.alone.opened;
        adapters = λ a. none_added _ _ (kept.parts a) (running.alone.adapters a);
        holds = answer.1;
      };
    }

pub may_sleep : RunLaws → EntryLaws → CallsOfDriverEntry → CallLaws → (c : Setting) (s t : Session) (import : ℕ) (words : List ℕ) (wake : ℕ) → IsRunning c s → IsCalled s t import words
    → Comes (row_outcome (going_of s) import words) s.world (Ok (Sleep wake)) t.world
    → MaySleep (record { setting = c; import = import; words = words; wake = wake }) t
may_sleep runs laws entry calls c s t import words wake running is comes =
    let is_sleep = sleeps (row_outcome (going_of s) import words) s.world t.world wake comes in
    let serves : wake ≡ s.world.clock.clock + word (eight words) 1 = subst (λ (o : CallOutcome). Serves s.world (eight words) o) is_sleep.0 (entry s.world (row_of import) words running.alone.holds is.fit) in
    let few : word (eight words) 1 < 2 ^ 32 = is.fit 0 in
    let world : s.world ≡ t.world = sym is_sleep.1 in
    let time : s.world.clock.clock ≤ s.charged * 2 ^ 33 = running.time in
    let moment : t.world.clock.clock ≡ s.world.clock.clock = ap (λ (w : World). w.clock.clock) is_sleep.1 in
    let there : Reaches (inputs c) t.log.entries (shown (sleeping (going_of s) import words wake)) =
    subst (λ (k : Kept). Reaches (inputs c) t.log.entries (shown k)) (laws.sleeps (going_of s) c.image c.slots c.budget c.layout import words wake is_sleep.0) (called runs laws c s t import words running is) in
    record {
      reached =
          subst (λ (n : ℕ). Reaches (inputs c) t.log.entries (shown (sleeping (going_of (record t { charged = n })) import words wake))) (sym is.charged)
          (subst (λ (r : Registers). Reaches (inputs c) t.log.entries (shown (sleeping (going_of (record t { charged = s.charged; regs = r })) import words wake))) (sym is.regs)
          (subst (λ (w : World). Reaches (inputs c) t.log.entries (shown (sleeping (going_of (record t { charged = s.charged; regs = s.regs; world = w })) import words wake))) world there));
      moment = omega (arith, serves, few, moment);
      returns = readable calls s t import words (Sleep wake) is (ap (λ (w : World). w.memory) is_sleep.1) comes;
      time = omega (arith, moment, time, is.charged);
      budget = budgeted c s t running.budget is.charged is.budget;
      alone = subst IsAlone world running.alone;
    }

-- a call that breaks a rule ends it
broken_next : (c : Setting) (g : Going) (import : ℕ) (words : List ℕ) (rule : ℕ) → row_outcome g import words ≡ Breaks rule → (behind_call (inputs c) g import words).next ≡ Stops (breach rule) []
broken_next c g import words rule is =
    ap (λ (o : CallOutcome). let d = by_outcome (shown (going g)) None import words o in call_next (inputs c) (shown (going g)) first words d) is

pub call_broken : RunLaws → EntryLaws → (c : Setting) (s t : Session) (import : ℕ) (words : List ℕ) (b : Breach) → IsRunning c s → IsCalled s t import words
    → Comes (row_outcome (going_of s) import words) s.world (Err (Broken b)) t.world → HasEnded c t Faulting
call_broken runs laws c s t import words b running is comes =
    let breaking = breaks (row_outcome (going_of s) import words) s.world t.world b comes in
    let there = called runs laws c s t import words running is in
    record {
      whole = record { run = there.run; ends = (b, ap (λ (u : State). u.next) there.state ∙ broken_next c (going_of s) import words b.0 breaking.0) };
      sum = is.charged ∙ sym (ap (λ (u : State). u.charged) there.state);
    }

-- a call that was not answered
pub call_unanswered : RunLaws → EntryLaws → (c : Setting) (s t : Session) (import : ℕ) (words : List ℕ) → IsRunning c s → IsCalled s t import words → HasBrokenOff c s t
call_unanswered runs laws c s t import words running is =
    let there = called runs laws c s t import words running is in
    record { run = there.run; sum = is.charged ∙ sym (ap (λ (u : State). u.charged) there.state); added = adds_one s.log.entries t.log.entries (entries.Call first import words) is.log }

-- before it is answered

no_frame : (a : Option Adapter) → a ≡ None → HasNoFrame a
no_frame None is = tt
no_frame (Some a) is = cc

pub idle : (w : World) → ((a : ℕ) → slice_index_or w.adapters a None ≡ None) → IsIdle w
idle w none a = no_frame (slice_index_or w.adapters a None) (none a)

pub in_moments : (clock charged budget : ℕ) → clock ≤ charged * 2 ^ 33 → charged < budget → budget ≤ 8000000 → clock + 86400000000 < 2 ^ 64
in_moments clock charged budget time left most = omega arith

-- ---- what stood before the call is known by another name

pub with_going : (c : Setting) (before : Going) (s t : Session) (n : ℕ) (reply : Reply) → before ≡ going_of s
    → MayReply (record { setting = c; going = going_of s; import = n; kept = asking (going_of s) n (words_at s n) }) t reply
    → MayReply (record { setting = c; going = before; import = n; kept = asking before n (call_words (shown (going before)) first n) }) t reply
with_going c before s t n reply is may =
    subst (λ (g : Going). MayReply (record { setting = c; going = g; import = n; kept = asking g n (call_words (shown (going g)) first n) }) t reply) (sym is) may

pub with_going_asleep : (c : Setting) (before : Going) (s t : Session) (n wake : ℕ) → before ≡ going_of s → MaySleep (record { setting = c; import = n; words = words_at s n; wake = wake }) t
    → MaySleep (record { setting = c; import = n; words = call_words (shown (going before)) first n; wake = wake }) t
with_going_asleep c before s t n wake is may =
    subst (λ (g : Going). MaySleep (record { setting = c; import = n; words = call_words (shown (going g)) first n; wake = wake }) t) (sym is) may
