-- A request that waits, or is handed, asks for no more bytes than a request's buffer has.
use Rattle.std.proofs.Common.{◌≡◌, ◌≤◌, ℕ, zero, suc, Bool, true, false, cond, ◌==◌, List, [], ◌∷◌, ◌++◌, Option, Some, None, refl, subst, slice_get, nat_le, arith}
use Rattle.std.specs.Prelude.{⊤}
use Rattle.std.proofs.lemmas.Bool.Decides.{nat_tests}
use Rattle.nd_base.specs.declared.numbers.Phase.{Phase}
use Rattle.nd_base.specs.declared.numbers.Phase.TheVariants as phases
use Rattle.log_fields.specs.declared.field_values.Question.{Question}
use Rattle.log_fields.specs.declared.field_values.Question.TheVariants.{Query, Set}
use Rattle.call_log.specs.declared.entry.Entry.{Entry}
use Rattle.call_log.specs.declared.entry.Entry.TheVariants as entries
use Rattle.owner_machine.specs.declared.rows.Request.{Request}
use Rattle.owner_machine.specs.declared.rows.RequestPlace.{RequestPlace}
use Rattle.owner_machine.specs.declared.rows.RequestPlace.TheVariants.{Asked, Handed}
use Rattle.owner_machine.specs.State.{Owner, change, adapter_of, is_number}
use Rattle.owner_machine.specs.Requests.{answered, ask_enter, asked, asked_of, first_asked, first_place, handed_ask, handed_of, hands_ask, is_asked, is_handed, may_hand_ask, phase_of, refusal, refused_with, request_adapter, wrong}
use Rattle.owner_machine.specs.Machine as owners
use Rattle.owner_machine.specs.Machine.{has_case}
use Rattle.legal_run.specs.State.{Inputs, State}
use Rattle.legal_run.specs.Calls.{leaves}
use Rattle.legal_run.specs.After.{after, is_breaking, owner_left}
use Rattle.legal_run.specs.Run.{Meets}
use Rattle.run_facts.specs.Facts.{IsOfRun, GoesOn}
use Rattle.call_facts.proofs.Induction.{of_run}
use Rattle.call_facts.proofs.Moments.{case_of, number_is, position_passes, true_both}

-- it asks for 4,096 bytes at most
abbrev pub IsShort : Question → Type 0
IsShort (Query oid n) = n ≤ 4096
IsShort (Set oid bytes) = ⊤

abbrev FitsAt : RequestPlace → Question → Type 0
FitsAt Asked question = IsShort question
FitsAt Handed question = IsShort question
FitsAt _ question = ⊤

abbrev pub AllFit : List Request → Type 0
AllFit [] = ⊤
AllFit (r ∷ rs) = FitsAt r.place r.question × AllFit rs

asked_short : (place : RequestPlace) (question : Question) → is_asked place ≡ true → FitsAt place question → IsShort question
asked_short Asked question is h = h
asked_short _ question is h = absurd (cc)

handed_short : (place : RequestPlace) (question : Question) → is_handed place ≡ true → FitsAt place question → IsShort question
handed_short Handed question is h = h
handed_short _ question is h = absurd (cc)

pub fits_at : (rows : List Request) (k : ℕ) (row : Request) → slice_get rows k ≡ Some row → AllFit rows → FitsAt row.place row.question
fits_at [] k row is all = absurd (cc)
fits_at (r ∷ rs) zero row is all = let same : r ≡ row = cc in subst (λ (q : Request). FitsAt q.place q.question) same all.0
fits_at (r ∷ rs) (suc k) row is all = fits_at rs k row is all.1

-- ---- a new request

at_most : (a b : ℕ) → nat_le a b ≡ true → a ≤ b
at_most a b h = grind (arith, nat_tests)

right_short : (question : Question) → wrong question ≡ None → IsShort question
right_short (Query oid n) h = by_test (nat_le n 4096) refl h
  where
    by_test : (b : Bool) → nat_le n 4096 ≡ b → cond b None (Some Rattle.owner_machine.specs.State.invalid_length) ≡ None → n ≤ 4096
    by_test true is h = at_most n 4096 is
    by_test false is h = absurd (cc)
right_short (Set oid bytes) h = tt

unrefused_short : (phase : Option Phase) (question : Question) → refusal phase question ≡ None → IsShort question
unrefused_short (Some phases.Running) question h = right_short question h
unrefused_short (Some phases.Resetting) question h = absurd (cc)
unrefused_short (Some phases.Starting) question h = absurd (cc)
unrefused_short (Some phases.Halting) question h = absurd (cc)
unrefused_short (Some phases.Off) question h = absurd (cc)
unrefused_short (Some phases.Stopped) question h = absurd (cc)
unrefused_short None question h = absurd (cc)

new_fits : (o : Owner) (a : ℕ) (question : Question) → FitsAt (first_place (refused_with o a question)) question
new_fits o a question = by_refusal (refused_with o a question) refl
  where
    by_refusal : (r : Option ℕ) → refused_with o a question ≡ r → FitsAt (first_place r) question
    by_refusal None is = unrefused_short (phase_of o a) question is
    by_refusal (Some status) is = tt

appended : (rows : List Request) (row : Request) → AllFit rows → FitsAt row.place row.question → AllFit (rows ++ row ∷ [])
appended [] row all h = (h, tt)
appended (r ∷ rs) row all h = (all.0, appended rs row all.1 h)

-- ---- a request that is handed, or answered

changed : (f : Request → Request) (rows : List Request) (k : ℕ) → ((row : Request) → slice_get rows k ≡ Some row → FitsAt row.place row.question → FitsAt (f row).place (f row).question)
    → AllFit rows → AllFit (change f rows k)
changed f [] k keeps all = tt
changed f (r ∷ rs) zero keeps all = (keeps r refl all.0, all.1)
changed f (r ∷ rs) (suc k) keeps all = (all.0, changed f rs k keeps all.1)

handed_fits : (o : Owner) (r : ℕ) (row : Request) → may_hand_ask o r ≡ true → slice_get o.requests r ≡ Some row → FitsAt row.place row.question → IsShort row.question
handed_fits o r row may is h =
    let a = request_adapter o r in
    let number = (true_both (is_number (first_asked o a) r) _ (true_both (hands_ask o.next a) _ may).1).0 in
    let passed = position_passes (asked_of a) o.requests r row (number_is (first_asked o a) r number) is in
    asked_short row.place row.question (true_both (is_asked row.place) (row.adapter.0 == a) passed).0 h

owner_fits : (o : Owner) (e : Entry) → has_case o e ≡ true → AllFit o.requests → AllFit (owners.after o e).requests
owner_fits o (entries.Ask driver request question) may all = appended o.requests (asked o driver question) all (new_fits o (adapter_of o driver.0) question)
owner_fits o (entries.HandAsk request) may all =
    changed (handed_ask (ask_enter o.next)) o.requests request.0 (λ row is h. handed_fits o request.0 row may is h) all
owner_fits o (entries.Answer request status bytes) may all = changed answered o.requests request.0 (λ row is h. tt) all
owner_fits o _ may all = all

step : (c : Inputs) (s : State) (e : Entry) → AllFit s.owner.requests → Meets c s e → AllFit (after c s e).owner.requests
step c s (entries.Leave x eax) all meets = by_test (is_breaking (leaves c s x eax))
  where
    by_test : (b : Bool) → AllFit (owner_left s.owner (entries.Leave x eax) b).requests
    by_test true = all
    by_test false = all
step c s e all meets = owner_fits s.owner e (case_of s.owner e meets.owner) all

pub requests_fit : GoesOn → (c : Inputs) (s : State) → IsOfRun c s → AllFit s.owner.requests
requests_fit on c s is = of_run on c (λ t. AllFit t.owner.requests) (λ t e of h meets. step c t e h meets) tt s is

-- the request that is handed
pub handed_is_short : (a : ℕ) (rows : List Request) (k : ℕ) (row : Request) → Rattle.std.specs.List.position (handed_of a) rows ≡ Some k → slice_get rows k ≡ Some row → AllFit rows → IsShort row.question
handed_is_short a rows k row is there all =
    let passed = position_passes (handed_of a) rows k row is there in
    handed_short row.place row.question (true_both (is_handed row.place) (row.adapter.0 == a) passed).0 (fits_at rows k row there all)

pub asked_is_short : (a : ℕ) (rows : List Request) (k : ℕ) (row : Request) → Rattle.std.specs.List.position (asked_of a) rows ≡ Some k → slice_get rows k ≡ Some row → AllFit rows → IsShort row.question
asked_is_short a rows k row is there all =
    let passed = position_passes (asked_of a) rows k row is there in
    asked_short row.place row.question (true_both (is_asked row.place) (row.adapter.0 == a) passed).0 (fits_at rows k row there all)
