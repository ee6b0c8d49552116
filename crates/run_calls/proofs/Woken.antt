-- A call that has waited may be answered.
use Rattle.std.proofs.Common.{rules, ◌≡◌, ℕ, ◌<◌, ◌+◌, ◌%◌, ◌^◌, ◌==◌, true, [], Option, Some, None, refl, sym, ap, ◌∙◌, subst, arith}
use Rattle.std.specs.Option.{option_and_then, option_map, option_map_or}
use Rattle.nd_base.specs.declared.numbers.CtxNo.{CtxNo}
use Rattle.call_log.specs.declared.entry.Entry.TheVariants as entries
use Rattle.guest_world.specs.Worlds.{longest_time}
use Rattle.guest_world.specs.declared.world.World.{World}
use Rattle.import_answers.specs.Outcomes.{resumed}
use Rattle.owner_machine.specs.Machine.{has_case}
use Rattle.legal_run.specs.EntryLaws.{EntryLaws}
use Rattle.legal_run.specs.Laws.{NothingStandsBetween, RunLaws}
use Rattle.legal_run.specs.State.{Inputs, State, Calling, Wait, Nothing, OnClock, OnLock, OnSync, Needed, Entered, Left, call_at, is_open}
use Rattle.legal_run.specs.After.{import_of}
use Rattle.legal_run.specs.Replies.{Answered, Told, answered, answered_by, has_waited, told_as}
use Rattle.legal_run.specs.Run.{Meets, freely}
use Rattle.miniport.specs.Free.{FreeEntriesStand}
use Rattle.miniport.specs.Replies.{MayReply}
use Rattle.call_facts.specs.Costs.{CostsAreSmall}
use Rattle.call_facts.specs.Returns.{CallsReturn, waits}
use Rattle.run_facts.specs.Facts.{CallsAgree, IsOfRun, SpentAreDue}
use Rattle.run_moves.specs.declared.running.Running.{Running}
use Rattle.run_stops.specs.Standing.{IsGiven, IsSettled, point_of, state_of}
use Rattle.run_calls.specs.Waking.{resumption, resumption_of}
use Rattle.run_calls.proofs.Imports.{IsImport, import_in}
use Rattle.run_calls.proofs.Transfers.{may_answer}

-- ---- the open call

pub record Resumes (k : Option Calling) (import al : ℕ) : Type 0 where
  pub call : Calling
  pub is : k ≡ Some call
  pub number : call.import ≡ import
  pub given : resumption call.wait ≡ Some al

pub resumes : (k : Option Calling) (import al : ℕ) → option_and_then resumption_of k ≡ Some (import, al) → Resumes k import al
resumes None import al h = absurd (cc)
resumes (Some call) import al h = by (resumption call.wait) refl h
  where
    by : (r : Option ℕ) → resumption call.wait ≡ r → option_map {U = ℕ × ℕ} (λ (n : ℕ). (call.import, n)) r ≡ Some (import, al) → Resumes (Some call) import al
    by None is same = absurd (cc)
    by (Some n) is same =
        let pair : (call.import, n) ≡ (import, al) = cc in
        record { call = call; is = refl; number = ap (λ (p : ℕ × ℕ). p.0) pair; given = is ∙ ap (λ (p : ℕ × ℕ). Some p.1) pair }

it_waits : (wait : Wait) (al : ℕ) → resumption wait ≡ Some al → waits wait ≡ true
it_waits (OnClock wake) al h = refl
it_waits (OnSync stage) al h = refl
it_waits (OnLock lock) al h = refl
it_waits Nothing al h = absurd (cc)

-- ---- its answer

own : (n : ℕ) → (n == n) ≡ true
own n = search rules

-- what the reply of a resumed call says
abbrev told_of : ℕ → ℕ → Told
told_of import al = record { eax = (resumed import al).eax; writes = [] }

told_here : (import al : ℕ) (w : World) → told_as (told_of import al) [] (resumed import al) w ≡ Some (resumed import al, w)
told_here import al w = rw (own (resumed import al).eax) refl

by_wait : (s : State) (x : CtxNo) (call : Calling) (al : ℕ) (wait : Wait) → resumption wait ≡ Some al → answered_by s x (told_of call.import al) call wait ≡ Some (resumed call.import al, s.world)
by_wait s x call al (OnClock wake) h =
    let same : 0 ≡ al = cc in subst (λ (n : ℕ). told_as (told_of call.import n) [] (resumed call.import 0) s.world ≡ Some (resumed call.import n, s.world)) same (told_here call.import 0 s.world)
by_wait s x call al (OnSync (Left eax)) h =
    let same : eax % 256 ≡ al = cc in subst (λ (n : ℕ). told_as (told_of call.import n) [] (resumed call.import (eax % 256)) s.world ≡ Some (resumed call.import n, s.world)) same (told_here call.import (eax % 256) s.world)
by_wait s x call al (OnSync Needed) h = absurd (cc)
by_wait s x call al (OnSync Entered) h = absurd (cc)
by_wait s x call al (OnLock lock) h = absurd (cc)
by_wait s x call al Nothing h = absurd (cc)

answers : (s : State) (x : CtxNo) (call : Calling) (al : ℕ) → call_at s x.0 ≡ Some call → resumption call.wait ≡ Some al → answered s x (told_of call.import al) ≡ Some (resumed call.import al, s.world)
answers s x call al is h = ap (λ (k : Option Calling). option_and_then (λ (one : Calling). answered_by s x (told_of call.import al) one one.wait) k) is ∙ by_wait s x call al call.wait h

stands_freely : (c : Inputs) (s : State) (x : CtxNo) (told : Told) (given : Answered) → has_waited s x ≡ true → answered s x told ≡ Some given → freely c s (entries.Reply x told.eax told.writes) ≡ true
stands_freely c s x told given waited found = rw (waited, own x.0, found) refl

-- ---- its reply

pub may_wake : CallsAgree → CallsReturn → CostsAreSmall → EntryLaws → FreeEntriesStand → NothingStandsBetween → RunLaws → SpentAreDue → (c : Inputs) (r : Running) (x : CtxNo) (import al : ℕ) → IsSettled c r → IsGiven c → x.0 < 16
    → is_open (state_of c r) x.0 ≡ true → has_waited (state_of c r) x ≡ true → r.world.clock.clock + longest_time < 2 ^ 64 → option_and_then resumption_of (call_at (state_of c r) x.0) ≡ Some (import, al)
    → MayReply (point_of c r) x (resumed import al) r.world
may_wake agree return costs kinds free between runs spent c r x import al settled given number opened waited time is =
    let s = state_of c r in
    let found = resumes (call_at s x.0) import al is in
    let here : IsOfRun c s = record { log = r.log.entries; reaches = settled.runs.reaches } in
    let answer : answered s x (told_of import al) ≡ Some (resumed import al, s.world) =
    subst (λ (n : ℕ). answered s x (told_of n al) ≡ Some (resumed n al, s.world)) found.number (answers s x found.call al found.is found.given) in
    let case : has_case s.owner (entries.Reply x (resumed import al).eax []) ≡ true = may_answer kinds runs c r.log.entries x.0 settled.runs.reaches.run (agree.calls c s x.0 found.call here opened found.is) in
    let meets : Meets c s (entries.Reply x (resumed import al).eax []) = free (point_of c r) (entries.Reply x (resumed import al).eax []) settled.free (stands_freely c s x (told_of import al) (resumed import al, s.world) waited answer) case refl in
    let most = costs.waited import al in
    record {
      number = number;
      meets = meets;
      given = resumed import al;
      found = answer ∙ ap (λ (w : World). Some (resumed import al, w)) (sym settled.runs.kept.world);
      same = refl;
      most = omega (arith, most);
      unspent = spent.replies c s x (resumed import al).eax [] given.budget given.some (record { is = here; fed = settled.fed }) meets;
      memory = ap (λ (w : World). w.memory) settled.runs.kept.world;
      returns = return.waiting c s x found.call here found.is (it_waits found.call.wait al found.given);
      time = omega (arith, most, time);
    }

pub import_range : NothingStandsBetween → RunLaws → (c : Inputs) (r : Running) (x : CtxNo) (import al : ℕ) → IsSettled c r → option_and_then resumption_of (call_at (state_of c r) x.0) ≡ Some (import, al) → IsImport import
import_range between runs c r x import al settled is =
    let found = resumes (call_at (state_of c r) x.0) import al is in
    subst IsImport found.number (import_in runs between c r.log.entries x.0 found.call settled.runs.reaches.run found.is)

pub import_here : (c : Inputs) (r : Running) (x : CtxNo) (import al : ℕ) → option_and_then resumption_of (call_at (state_of c r) x.0) ≡ Some (import, al) → import_of (state_of c r) x ≡ import
import_here c r x import al is =
    let found = resumes (call_at (state_of c r) x.0) import al is in
    ap (λ (k : Option Calling). option_map_or (λ call. call.import) k 0) found.is ∙ found.number
