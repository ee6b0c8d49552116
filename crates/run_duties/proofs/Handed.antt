-- An open handler of a query or set that runs on: its request was handed by its own enter, or is answered.
use Rattle.std.proofs.Common.{◌≡◌, ℕ, zero, suc, Bool, true, false, ◌&&◌, ◌==◌, List, [], ◌∷◌, ◌++◌, Option, Some, None, refl, sym, ap, ◌∙◌, subst, slice_set, inl, inr}
use Rattle.std.specs.Prelude.{count_by}
use Rattle.std.specs.Option.{MatchOption, option_map, option_or}
use Rattle.std.proofs.lemmas.Bool.{eqb-true, eq-eqb}
use Rattle.nd_base.specs.declared.numbers.AdapterNo.{AdapterNo}
use Rattle.nd_base.specs.declared.numbers.CtxNo.{CtxNo}
use Rattle.log_fields.specs.declared.write.Write.{Write}
use Rattle.log_fields.specs.declared.field_values.Handler.{Handler}
use Rattle.log_fields.specs.declared.field_values.Handler.TheVariants as handler
use Rattle.call_log.specs.declared.entry.Entry.{Entry}
use Rattle.call_log.specs.declared.entry.Entry.TheVariants as entries
use Rattle.owner_machine.specs.declared.rows.Context.{Context as OwnerContext}
use Rattle.owner_machine.specs.declared.rows.Context.TheVariants as kept_context
use Rattle.owner_machine.specs.declared.rows.Next.TheVariants as nexts
use Rattle.owner_machine.specs.declared.rows.Request.{Request}
use Rattle.owner_machine.specs.declared.rows.RequestPlace.{RequestPlace}
use Rattle.owner_machine.specs.declared.rows.RequestPlace.TheVariants as places
use Rattle.owner_machine.specs.State.{Owner, at, change, is_number}
use Rattle.owner_machine.specs.Requests.{may_hand_ask, hands_ask, handed_of, asked_of, is_asked, first_asked, request_adapter, handed_ask, ask_enter, answered}
use Rattle.owner_machine.specs.Must.{HandsAsk, owner_must, must_behind, serves}
use Rattle.owner_machine.specs.Machine.{rule_against}
use Rattle.owner_machine.specs.Machine as owners
use Rattle.legal_run.specs.State.{Inputs, State, Free, Context, context_at, start}
use Rattle.legal_run.specs.Owed.{first}
use Rattle.legal_run.specs.Calls.{leaves}
use Rattle.legal_run.specs.After.{after, in_list, subject_of, begun, is_breaking, owner_left}
use Rattle.legal_run.specs.Must.{Due, Owes, next_must, taken_first, must, is_carried, Serves}
use Rattle.legal_run.specs.Run.{Meets, freely}
use Rattle.legal_run.specs.EntryLaws.{is_ask}
use Rattle.run_duties.proofs.Rows.{true_both, case_of, other_row, position_passes}
use Rattle.run_duties.proofs.Standing.{at_changed}
use Rattle.run_duties.proofs.Calls.{at_here}
use Rattle.run_duties.proofs.Stops.{Standing, step as standing_step, begun as standing_begun}
use Rattle.run_duties.proofs.Opened.{runs_as, set_at, enters_at, stops_it, run_back, subject_kept, subject_at}
use Rattle.run_duties.proofs.Entered.{none_runs}
use Rattle.run_duties.proofs.Winding.{IsEnding, Unfinished, unfinished_there, broken_in, ending_step, never_leaves}

-- ---- an open handler of a query or set

abbrev pub is_asking : (a n : ℕ) → OwnerContext → Bool
is_asking a n = runs_as is_ask a n

-- ---- a request that was handed by that enter, or is answered

abbrev pub settles : RequestPlace → Bool → Bool
settles places.Handed own = own
settles places.Answered own = true
settles _ own = false

abbrev pub settled : ℕ → Request → Bool
settled n row = settles row.place (row.hand == n)

pub at_append : {A : Type 0} (test : A → Bool) (rows : List A) (x : A) (k : ℕ) → at test rows k ≡ true → at test (rows ++ x ∷ []) k ≡ true
at_append test [] x k h = absurd (cc)
at_append test (row ∷ rows) x zero h = h
at_append test (row ∷ rows) x (suc k) h = at_append test rows x k h

not_both : (a n : ℕ) (rows : List Request) (r : ℕ) → at (asked_of a) rows r ≡ true → at (settled n) rows r ≡ true → ⊥
not_both a n [] r one other = absurd (cc)
not_both a n (row ∷ rows) zero one other = by_place row.place (true_both _ (row.adapter.0 == a) one).0 other
  where
    by_place : (p : RequestPlace) → is_asked p ≡ true → settles p (row.hand == n) ≡ true → ⊥
    by_place places.Asked one other = absurd (cc)
    by_place _ one other = absurd (cc)
not_both a n (row ∷ rows) (suc r) one other = not_both a n rows r one other

pub number_is : (m : Option ℕ) (k : ℕ) → is_number m k ≡ true → m ≡ Some k
number_is None k h = absurd (cc)
number_is (Some n) k h = ap Some (eqb-true n k h)

asked_row : (o : Owner) (q : ℕ) → may_hand_ask o q ≡ true → at (asked_of (request_adapter o q)) o.requests q ≡ true
asked_row o q may =
    let a : ℕ = request_adapter o q in
    let rest = (true_both (hands_ask o.next a) (is_number (first_asked o a) q && (count_by (handed_of a) o.requests == 0)) may).1 in
    let least = (true_both (is_number (first_asked o a) q) (count_by (handed_of a) o.requests == 0) rest).0 in
    position_passes (asked_of a) o.requests q (number_is (first_asked o a) q least)

hand_settled : (o : Owner) (q n r m : ℕ) → may_hand_ask o q ≡ true → at (settled n) o.requests r ≡ true → at (settled n) (change (handed_ask m) o.requests q) r ≡ true
hand_settled o q n r m may is = by_number (q == r) refl (asked_row o q may)
  where
    by_number : (t : Bool) → (q == r) ≡ t → at (asked_of (request_adapter o q)) o.requests q ≡ true → at (settled n) (change (handed_ask m) o.requests q) r ≡ true
    by_number false other asked = other_row (settled n) (handed_ask m) o.requests q r other ∙ is
    by_number true same asked = absurd (not_both (request_adapter o q) n o.requests q asked (subst (λ (k : ℕ). at (settled n) o.requests k ≡ true) (sym (eqb-true q r same)) is))

owner_settled : (o : Owner) (e : Entry) (n r : ℕ) → rule_against o e ≡ None → at (settled n) o.requests r ≡ true → at (settled n) (owners.after o e).requests r ≡ true
owner_settled o (entries.Ask b q question) n r none is = at_append (settled n) o.requests _ r is
owner_settled o (entries.HandAsk q) n r none is = hand_settled o q.0 n r (ask_enter o.next) (case_of o (entries.HandAsk q) none) is
owner_settled o (entries.Answer q status bytes) n r none is = at_changed (settled n) answered o.requests q.0 r (λ row h. refl) is
owner_settled o _ n r none is = is

left_settled : (o : Owner) (x : CtxNo) (eax : ℕ) (breaks : Bool) (n r : ℕ) → at (settled n) o.requests r ≡ true → at (settled n) (owner_left o (entries.Leave x eax) breaks).requests r ≡ true
left_settled o x eax true n r is = is
left_settled o x eax false n r is = is

run_settled : (c : Inputs) (s : State) (e : Entry) (n r : ℕ) → rule_against s.owner e ≡ None → at (settled n) s.owner.requests r ≡ true → at (settled n) (after c s e).owner.requests r ≡ true
run_settled c s (entries.Leave x eax) n r none is = left_settled s.owner x eax (is_breaking (leaves c s x eax)) n r is
run_settled c s (entries.Reply x eax writes) n r none is = is
run_settled c s e n r none is = owner_settled s.owner e n r none is

-- ---- how such a handler stands

-- its request is handed by its own enter, or answered; it was entered just now; or its adapter's stop is due
pub data Good (s : State) (a n r : ℕ) : Type 0 where
  Settled : at (settled n) s.owner.requests r ≡ true → Good s a n r
  Behind : s.next ≡ Free → s.owner.next ≡ nexts.HandingAsk (record { 0 = a }) n → first_asked s.owner a ≡ Some r → Good s a n r
  Ending : IsEnding s a → Good s a n r

-- directly behind the enter its request is handed
must_hand : (s : State) (a n r : ℕ) → s.next ≡ Free → s.owner.next ≡ nexts.HandingAsk (record { 0 = a }) n → first_asked s.owner a ≡ Some r → must s ≡ Some (Owes (HandsAsk r))
unfolding must
must_hand s a n r free next found =
    let owes : owner_must s.owner ≡ Some (HandsAsk r) = ap (must_behind s.owner) next ∙ ap (λ m. option_map (λ k. HandsAsk k) m) found in
    ap (λ m. option_or (taken_first m) (option_or (option_map Owes (owner_must s.owner)) (next_must m))) free ∙ ap (λ m. option_or (option_map Owes m) None) owes

hands_it : (c : Inputs) (s : State) (e : Entry) (a n r : ℕ) → s.owner.next ≡ nexts.HandingAsk (record { 0 = a }) n → first_asked s.owner a ≡ Some r → serves s.owner (HandsAsk r) e ≡ true → Good (after c s e) a n r
hands_it c s (entries.HandAsk q) a n r next found is =
    let here : at (settled n) (change (handed_ask n) s.owner.requests r) r ≡ true =
    at_here (asked_of a) (settled n) (handed_ask n) s.owner.requests r (λ row h. eq-eqb n n refl) (position_passes (asked_of a) s.owner.requests r found) in
    let enter : ask_enter s.owner.next ≡ n = ap ask_enter next in
    let number : q.0 ≡ r = eqb-true q.0 r is in
    Settled (subst (λ (m : ℕ). at (settled n) (change (handed_ask m) s.owner.requests q.0) r ≡ true) (sym enter) (subst (λ (k : ℕ). at (settled n) (change (handed_ask n) s.owner.requests k) r ≡ true) (sym number) here))
hands_it c s _ a n r next found is = absurd (cc)

behind_step : (c : Inputs) (s : State) (e : Entry) (a n r : ℕ) → s.next ≡ Free → s.owner.next ≡ nexts.HandingAsk (record { 0 = a }) n → first_asked s.owner a ≡ Some r → Unfinished c s a
    → stops_it e a ≡ false → Meets c s e → Good (after c s e) a n r
behind_step c s e a n r free next found left other meets = elim meets.turn [
  | inl h ↦
      let served : (serves s.owner (HandsAsk r) e && is_carried c s e) ≡ true =
      subst (λ (d : Option Due). MatchOption d (freely c s e ≡ true) (λ due. Serves c s due e)) (must_hand s a n r free next found) h in
      hands_it c s e a n r next found (true_both _ _ served).0
  | inr h ↦ Ending (broken_in c s e a left other h)
]

good_step : (c : Inputs) (s : State) (e : Entry) (a n r : ℕ) → Standing c s → Unfinished c s a → stops_it e a ≡ false → Meets c s e → Good s a n r → Good (after c s e) a n r
good_step c s e a n r h left other meets (Settled is) = Settled (run_settled c s e n r meets.owner is)
good_step c s e a n r h left other meets (Behind free next found) = behind_step c s e a n r free next found left other meets
good_step c s e a n r h left other meets (Ending is) = Ending (ending_step c s e a is.why is.ats is.next is.winds is.among h.next left other meets)

-- ---- over a run

pub record Asking (s : State) (y a n r : ℕ) : Type 0 where
  pub opened : at (is_asking a n) s.owner.contexts y ≡ true
  pub subject : first (context_at s y).subject ≡ Some r

abbrev pub AllAsk : State → Type 0
AllAsk s = (y a n r : ℕ) → Asking s y a n r → Good s a n r

set_first : (cs : List Context) (k : ℕ) (z : Context) (r : ℕ) → first (subject_at (slice_set cs k z) k) ≡ Some r → first z.subject ≡ Some r
set_first [] k z r h = absurd (cc)
set_first (x ∷ cs) zero z r h = h
set_first (x ∷ cs) (suc k) z r h = set_first cs k z r h

first_listed : (m : Option ℕ) (r : ℕ) → first (in_list m) ≡ Some r → m ≡ Some r
first_listed None r h = absurd (cc)
first_listed (Some k) r h = h

handing : (b : AdapterNo) (a m n : ℕ) → (b.0 == a) ≡ true → (m == n) ≡ true → nexts.HandingAsk b m ≡ nexts.HandingAsk (record { 0 = a }) n
handing b a m n same number =
    let at_a : b.0 ≡ a = eqb-true b.0 a same in
    let at_n : m ≡ n = eqb-true m n number in
    ap (λ (k : ℕ). nexts.HandingAsk (record { 0 = k }) m) at_a ∙ ap (λ (k : ℕ). nexts.HandingAsk (record { 0 = a }) k) at_n

ask_entered : (c : Inputs) (s : State) (b : AdapterNo) (x : CtxNo) (h : Handler) (words : List ℕ) (writes : List Write) (a n r : ℕ) → is_ask h ≡ true → (b.0 == a) ≡ true → (s.owner.enters == n) ≡ true
    → first (subject_of s b.0 h words) ≡ Some r → Good (after c s (entries.Enter (Some b) x h words writes)) a n r
ask_entered c s b x handler.Query words writes a n r ask same number found =
    Behind refl (handing b a s.owner.enters n same number) (ap (first_asked s.owner) (sym (eqb-true b.0 a same)) ∙ first_listed (first_asked s.owner b.0) r found)
ask_entered c s b x handler.Set words writes a n r ask same number found =
    Behind refl (handing b a s.owner.enters n same number) (ap (first_asked s.owner) (sym (eqb-true b.0 a same)) ∙ first_listed (first_asked s.owner b.0) r found)
ask_entered c s b x _ words writes a n r ask same number found = absurd (cc)

enter_new : (c : Inputs) (s : State) (b : Option AdapterNo) (x : CtxNo) (h : Handler) (words : List ℕ) (writes : List Write) (a n r : ℕ)
    → Asking (after c s (entries.Enter b x h words writes)) x.0 a n r → Good (after c s (entries.Enter b x h words writes)) a n r
enter_new c s None x h words writes a n r asking = let is = set_at (is_asking a n) _ x.0 (kept_context.Open None h s.owner.enters None) asking.opened in absurd (cc)
enter_new c s (Some b) x h words writes a n r asking =
    let is : ((b.0 == a) && (is_ask h && (s.owner.enters == n))) ≡ true = set_at (is_asking a n) _ x.0 (kept_context.Open (Some b) h s.owner.enters None) asking.opened in
    let one = true_both (b.0 == a) _ is in
    let two = true_both (is_ask h) (s.owner.enters == n) one.1 in
    ask_entered c s b x h words writes a n r two.0 one.0 two.1 (set_first _ x.0 (begun c s b.0 x h words) r asking.subject)

entered_ask : (c : Inputs) (s : State) (e : Entry) (y a n r : ℕ) → enters_at e y ≡ true → Asking (after c s e) y a n r → Good (after c s e) a n r
entered_ask c s (entries.Enter b x h words writes) y a n r is asking =
    enter_new c s b x h words writes a n r (subst (λ (k : ℕ). Asking (after c s (entries.Enter b x h words writes)) k a n r) (sym (eqb-true x.0 y is)) asking)
entered_ask c s _ y a n r is asking = absurd (cc)

ask_step : (c : Inputs) (s : State) (e : Entry) → Standing c s → AllAsk s → Meets c s e → AllAsk (after c s e)
ask_step c s e h asks meets = λ y a n r asking. by_test y a n r asking (enters_at e y) refl
  where
    by_test : (y a n r : ℕ) → Asking (after c s e) y a n r → (t : Bool) → enters_at e y ≡ t → Good (after c s e) a n r
    by_test y a n r asking true is = entered_ask c s e y a n r is asking
    by_test y a n r asking false is =
        let back = run_back c s e y is_ask a n is asking.opened in
        let was : Asking s y a n r = record { opened = back.0; subject = ap first (sym (subject_kept c s e y is)) ∙ asking.subject } in
        good_step c s e a n r h (unfinished_there c s y is_ask a n h.ones back.0) back.1 meets (asks y a n r was)

pub record Asks (c : Inputs) (s : State) : Type 0 where
  pub standing : Standing c s
  pub asks : AllAsk s

pub asks_step : (c : Inputs) (s : State) (e : Entry) → Asks c s → Meets c s e → Asks c (after c s e)
asks_step c s e h meets = record { standing = standing_step c s e h.standing meets; asks = ask_step c s e h.standing h.asks meets }

pub asks_begun : (c : Inputs) → Asks c (start c)
asks_begun c = record { standing = standing_begun c; asks = λ y a n r asking. absurd (none_runs is_ask a n 16 y asking.opened) }

-- ---- a leave

abbrev pub Leaving : State → ℕ → Type 0
Leaving s y = (a n r : ℕ) → Asking s y a n r → at (settled n) s.owner.requests r ≡ true

good_leaves : (c : Inputs) (s : State) (x : CtxNo) (eax a n r : ℕ) → Meets c s (entries.Leave x eax) → Good s a n r → at (settled n) s.owner.requests r ≡ true
good_leaves c s x eax a n r meets (Settled is) = is
good_leaves c s x eax a n r meets (Behind free next found) = elim meets.turn [
  | inl h ↦
      let served : (serves s.owner (HandsAsk r) (entries.Leave x eax) && is_carried c s (entries.Leave x eax)) ≡ true =
      subst (λ (d : Option Due). MatchOption d (freely c s (entries.Leave x eax) ≡ true) (λ due. Serves c s due (entries.Leave x eax))) (must_hand s a n r free next found) h in
      absurd (cc)
  | inr h ↦ absurd (cc)
]
good_leaves c s x eax a n r meets (Ending is) = absurd (never_leaves c s x eax a meets is)

pub leaving : (c : Inputs) (s : State) (x : CtxNo) (eax : ℕ) → AllAsk s → Meets c s (entries.Leave x eax) → Leaving s x.0
leaving c s x eax asks meets = λ a n r asking. good_leaves c s x eax a n r meets (asks x.0 a n r asking)
