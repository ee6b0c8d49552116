-- Over a run: what its loans that are away lend is on loan, and what a call is about to lend may be lent.
use Rattle.std.proofs.Common.{◌≡◌, ◌≢◌, ℕ, Bool, true, false, cond, ◌&&◌, ◌==◌, List, [], ◌∷◌, ◌++◌, map, Option, Some, None, refl, sym, ap, ◌∙◌, subst, eq-eqb}
use Rattle.std.specs.Prelude.{⊤, filter}
use Rattle.std.specs.Option.{option_map, option_or}
use Rattle.std.proofs.lemmas.Bool.{and_parts, or_parts}
use Rattle.nd_base.specs.declared.numbers.AdapterNo.{AdapterNo}
use Rattle.nd_base.specs.declared.numbers.BindingNo.{BindingNo}
use Rattle.nd_base.specs.declared.numbers.CtxNo.{CtxNo}
use Rattle.nd_base.specs.declared.numbers.LoanNo.{LoanNo}
use Rattle.nd_mem.specs.Space.{address}
use Rattle.irql_lock.specs.LockMoves as levels
use Rattle.packet_pool.specs.LiveSet.{LiveSet}
use Rattle.packet_pool.specs.LiveMoves.{Lend, Unlend}
use Rattle.packet_pool.specs.LiveMoves as live
use Rattle.log_fields.specs.declared.field_values.Handler.{Handler}
use Rattle.log_fields.specs.declared.field_values.Handler.TheVariants as handler
use Rattle.call_log.specs.declared.entry.Entry.{Entry}
use Rattle.call_log.specs.declared.entry.Entry.TheVariants as entries
use Rattle.guest_world.specs.declared.world.World.{World}
use Rattle.owner_machine.specs.declared.rows.Loan.{Loan}
use Rattle.owner_machine.specs.State.{Owner}
use Rattle.owner_machine.specs.Loans as owned
use Rattle.owner_machine.specs.Loans.{away}
use Rattle.owner_machine.specs.Machine.{rule_against, has_case, last_rule, rule_of}
use Rattle.owner_machine.specs.Must.{Due as OwnerDue, Completes, BacksFailed, Answers, Hands, BacksDue, HandsAsk, EntersReset, is_served, owner_must, serves}
use Rattle.legal_run.specs.State.{Inputs, State, Nothing, OnLock, OnClock, OnSync, Next, Free, Takes, Verdicts, Spinning, Makes, Stops, adapter, adapter_of, all_contexts, call_at, handler_of, start}
use Rattle.legal_run.specs.Enters.{loan_named}
use Rattle.legal_run.specs.EntryLaws.{IsAsked, is_forced}
use Rattle.legal_run.specs.Calls.{Did, Broken, Waits, Made, did, Drawn, Breaking, Draws, leaves, stays_home}
use Rattle.legal_run.specs.Replies.{Told}
use Rattle.legal_run.specs.After.{after, framed, lends, popped, call_next, leave_next, enter_next, takes, spent, is_breaking, owner_left, left_row, leveled, pooled, with_world, number_in, reaches, cost_of, quieted, ends_context, bound_to}
use Rattle.legal_run.specs.Must.{Due, Owes, Exactly, ReplyOf, must, next_must, taken_first, Serves}
use Rattle.legal_run.specs.Run.{Run, RunFrom, Meets, now, now_from}
use Rattle.run_facts.specs.Facts.{IsOfRun}
use Rattle.loan_facts.specs.Lent.{IsOnLoan, MayBeLent, descriptor}
use Rattle.loan_facts.proofs.Pools.{never_both, may_be_as, marked_other}
use Rattle.loan_facts.proofs.Made.{ToLend, Lends, Plain, among, dropped, is_loan, did_lends, leaves_plain}
use Rattle.loan_facts.proofs.Lists.{AreLent, lent_at, lent_pools, lent_other, over, returned_lent, home_at, back_lent, indicated_lent, goes_out}
use Rattle.loan_facts.proofs.Effects.{Same, framed_world, spoke_lent, ended_pools, taken_same, left_same, turned_same, replied_keeps, spun_same}

-- ---- what holds at the start and behind each entry that may stand holds of every state of a run

more_from : (c : Inputs) (s : State) (log : List Entry) (e : Entry) → RunFrom c s log → Meets c (now_from c s log) e → RunFrom c s (log ++ e ∷ [])
unfolding RunFrom now_from
more_from c s [] e run meets = (meets, tt)
more_from c s (f ∷ log) e run meets = (run.0, more_from c (after c s f) log e run.1 meets)

now_more : (c : Inputs) (s : State) (log : List Entry) (e : Entry) → now_from c s (log ++ e ∷ []) ≡ after c (now_from c s log) e
unfolding now_from
now_more c s [] e = refl
now_more c s (first ∷ log) e = now_more c (after c s first) log e

run_more : (c : Inputs) (s : State) (e : Entry) → (is : IsOfRun c s) → Meets c s e → Run c (is.log ++ e ∷ [])
run_more c s e is meets = more_from c (start c) is.log e is.reaches.run (subst (λ (t : State). Meets c t e) (sym is.reaches.state) meets)

goes : (c : Inputs) (s : State) (e : Entry) → IsOfRun c s → Meets c s e → IsOfRun c (after c s e)
goes c s e is meets = record {
  log = is.log ++ e ∷ [];
  reaches = record { run = run_more c s e is meets; state = now_more c (start c) is.log e ∙ ap (λ t. after c t e) is.reaches.state };
}

begins : (c : Inputs) → IsOfRun c (start c)
unfolding RunFrom now_from
begins c = record { log = []; reaches = record { run = tt; state = refl } }

kept_from : (c : Inputs) (P : State → Type 0) → ((s : State) (e : Entry) → IsOfRun c s → P s → Meets c s e → P (after c s e)) → (s : State) (log : List Entry) → IsOfRun c s → P s → RunFrom c s log
    → P (now_from c s log)
unfolding RunFrom now_from
kept_from c P step s [] is p run = p
kept_from c P step s (e ∷ log) is p run = kept_from c P step (after c s e) log (goes c s e is run.0) (step s e is p run.0) run.1

of_run : (c : Inputs) (P : State → Type 0) → ((s : State) (e : Entry) → IsOfRun c s → P s → Meets c s e → P (after c s e)) → P (start c) → (s : State) → IsOfRun c s → P s
of_run c P step begun s is = subst P is.reaches.state (kept_from c P step (start c) is.log (begins c) begun is.reaches.run)

-- an entry that breaks no rule has its case
case_of : (o : Owner) (e : Entry) → rule_against o e ≡ None → has_case o e ≡ true
case_of o e h = by_test (is_served o e) (has_case o e) h
  where
    by_test : (b d : Bool) → cond (b && d) (last_rule o e) (Some (rule_of e)) ≡ None → d ≡ true
    by_test true true h = refl
    by_test true false h = absurd (cc)
    by_test false d h = absurd (cc)

-- ---- what is due may be lent

abbrev Waiting : LiveSet → Next → Type 0
Waiting p (Takes e) = is_loan e ≡ false
Waiting p (Verdicts es) = ToLend p es []
Waiting p (Makes x es ds) = ToLend p es ds
Waiting p _ = ⊤

popped_waits : (p : LiveSet) (n : Next) → Waiting p n → Waiting p (popped n)
popped_waits p (Verdicts es) h = dropped p es [] h
popped_waits p (Makes x es ds) h = dropped p es ds h
popped_waits p (Stops why ats) h = tt
popped_waits p (Takes e) h = tt
popped_waits p (Spinning x lock) h = tt
popped_waits p Free h = tt

same_pools : (p q : LiveSet) (n : Next) → q ≡ p → Waiting p n → Waiting q n
same_pools p q n is h = subst (λ (r : LiveSet). Waiting r n) (sym is) h

-- while a packet goes out, of the others
not_equal : (b d : ℕ) → (b == d) ≡ false → b ≢ d
not_equal b d h same = let is = eq-eqb b d same in absurd (cc)

others_wait : (p : LiveSet) (home : Bool) (d : ℕ) (es : List Entry) (ds : List ℕ) → among d ds ≡ false → ToLend p es ds → ToLend (lent_pools p home d) es ds
others_wait p home d [] ds not_there h = tt
others_wait p home d (e ∷ es) [] not_there h = (h.0, others_wait p home d es [] refl h.1)
others_wait p home d (e ∷ es) (b ∷ ds) not_there h =
    let parts = or_parts (b == d) (among d ds) not_there in
    (may_be_as p (lent_pools p home d) b (lent_other p home d b (not_equal b d parts.0)) h.0, h.1, others_wait p home d es ds parts.1 h.2)

-- and while one comes back
back_to_lend : (p : LiveSet) (d : ℕ) (es : List Entry) (ds : List ℕ) → IsOnLoan p d → ToLend p es ds → ToLend (live.after p (Unlend d)) es ds
back_to_lend p d [] ds on h = tt
back_to_lend p d (e ∷ es) [] on h = (h.0, back_to_lend p d es [] on h.1)
back_to_lend p d (e ∷ es) (b ∷ ds) on h =
    (may_be_as p (live.after p (Unlend d)) b (marked_other p d false b (λ same. never_both p d b on h.0 (sym same))) h.0, h.1, back_to_lend p d es ds on h.2)

back_waits : (p : LiveSet) (d : ℕ) (n : Next) → IsOnLoan p d → Waiting p n → Waiting (live.after p (Unlend d)) n
back_waits p d (Verdicts es) on h = back_to_lend p d es [] on h
back_waits p d (Makes x es ds) on h = back_to_lend p d es ds on h
back_waits p d (Takes e) on h = h
back_waits p d (Stops why ats) on h = tt
back_waits p d (Spinning x lock) on h = tt
back_waits p d Free on h = tt

-- ---- what stands behind a call, a leave, an enter, a turn

call_waits : (p : LiveSet) (c : Inputs) (s : State) (x : CtxNo) (words : List ℕ) (d : Did) → Lends p d → Waiting p (call_next c s x words d)
call_waits p c s x words (Broken rule) h = tt
call_waits p c s x words (Waits (OnLock lock)) h = tt
call_waits p c s x words (Waits Nothing) h = tt
call_waits p c s x words (Waits (OnClock wake)) h = tt
call_waits p c s x words (Waits (OnSync stage)) h = tt
call_waits p c s x words (Made es ds writes) h = h

leave_waits : (p : LiveSet) (c : Inputs) (s : State) (x : CtxNo) (d : Drawn) → Plain p d → Waiting p (leave_next c s x d)
leave_waits p c s x (Breaking rule) h = tt
leave_waits p c s x (Draws es) h = h

takes_waits : (p : LiveSet) (o : Option ℕ) → Waiting p (takes o)
takes_waits p None = tt
takes_waits p (Some j) = refl

enter_waits : (p : LiveSet) (s : State) (a : ℕ) (h : Handler) (words : List ℕ) → Waiting p (enter_next s a h words)
enter_waits p s a handler.ReturnPacket words = takes_waits p (loan_named s a words)
enter_waits p s a _ words = tt

spent_waits : (p : LiveSet) (c : Inputs) (s : State) (x : CtxNo) (b : Bool) → Waiting p (spent c s x b)
spent_waits p c s x true = tt
spent_waits p c s x false = tt

-- ---- a loan is made only where it must be

record Offers (p : LiveSet) (n : Next) : Type 0 where
  pub may : MayBeLent p (lends n)
  pub rest : (home : Bool) → Waiting (lent_pools p home (lends n)) (popped n)

abbrev must_by : Next → Option OwnerDue → Option Due
must_by n o = option_or (taken_first n) (option_or (option_map Owes o) (next_must n))

not_both : {A : Type 0} (b : Bool) → b ≡ true → b ≡ false → A
not_both b is is_not = absurd (cc)

same_entry : (e f : Entry) → Some (Exactly f) ≡ Some (Exactly e) → f ≡ e
same_entry e f is = cc

no_loan : {A : Type 0} (e f : Entry) → Some (Exactly f) ≡ Some (Exactly e) → is_loan e ≡ true → is_loan f ≡ false → A
no_loan e f is loan no_one = not_both (is_loan f) (ap is_loan (same_entry e f is) ∙ loan) no_one

offers : (p : LiveSet) (n : Next) (o : Option OwnerDue) (e : Entry) → must_by n o ≡ Some (Exactly e) → is_loan e ≡ true → Waiting p n → Offers p n
offers p (Takes f) o e is loan h = no_loan e f is loan h
offers p Free (Some due) e is loan h = absurd (cc)
offers p Free None e is loan h = absurd (cc)
offers p (Verdicts es) (Some due) e is loan h = absurd (cc)
offers p (Verdicts []) None e is loan h = absurd (cc)
offers p (Verdicts (f ∷ es)) None e is loan h = no_loan e f is loan h.0
offers p (Spinning x lock) (Some due) e is loan h = absurd (cc)
offers p (Spinning x lock) None e is loan h = no_loan e (entries.Spin x (address lock)) is loan refl
offers p (Stops why ats) (Some due) e is loan h = absurd (cc)
offers p (Stops why []) None e is loan h = absurd (cc)
offers p (Stops why (a ∷ ats)) None e is loan h = no_loan e (entries.Stop (adapter a) why) is loan refl
offers p (Makes x es ds) (Some due) e is loan h = absurd (cc)
offers p (Makes x [] ds) None e is loan h = absurd (cc)
offers p (Makes x (f ∷ es) []) None e is loan h = no_loan e f is loan h.0
offers p (Makes x (f ∷ es) (d ∷ ds)) None e is loan h = record { may = h.0; rest = λ home. others_wait p home d es ds h.1 h.2 }

no_service : (o : Owner) (due : OwnerDue) (a : AdapterNo) (j : LoanNo) (bytes : List ℕ) (holders : List BindingNo) (copied : Bool) → serves o due (entries.Indicate a j bytes holders copied) ≡ true → ⊥
no_service o (Completes fresh k status) a j bytes holders copied h = absurd (cc)
no_service o (BacksFailed k) a j bytes holders copied h = absurd (cc)
no_service o (Answers r status) a j bytes holders copied h = absurd (cc)
no_service o (Hands k) a j bytes holders copied h = absurd (cc)
no_service o (BacksDue b) a j bytes holders copied h = absurd (cc)
no_service o (HandsAsk r) a j bytes holders copied h = absurd (cc)
no_service o (EntersReset b) a j bytes holders copied h = absurd (cc)

must_is : (s : State) → must s ≡ must_by s.next (owner_must s.owner)
unfolding must
must_is s = refl

due_offers : (c : Inputs) (s : State) (a : AdapterNo) (j : LoanNo) (bytes : List ℕ) (holders : List BindingNo) (copied : Bool) (due : Due) → must s ≡ Some due
    → Serves c s due (entries.Indicate a j bytes holders copied) → Waiting s.world.pools s.next → Offers s.world.pools s.next
due_offers c s a j bytes holders copied (Owes due) is serving h = absurd (no_service s.owner due a j bytes holders copied (and_parts (serves s.owner due (entries.Indicate a j bytes holders copied)) true serving).0)
due_offers c s a j bytes holders copied (Exactly f) is serving h =
    offers s.world.pools s.next (owner_must s.owner) f (sym (must_is s) ∙ is) (ap is_loan (sym serving)) h
due_offers c s a j bytes holders copied (ReplyOf x) is serving h = absurd (cc)

-- a loan is made only where it must be (a law of crates/legal_run)
abbrev pub StandsAsked : Type 0
StandsAsked = (c : Inputs) (log : List Entry) (e : Entry) → is_forced e ≡ true → Run c (log ++ e ∷ []) → IsAsked c (now c log) e

loan_offers : StandsAsked → (c : Inputs) (s : State) (a : AdapterNo) (j : LoanNo) (bytes : List ℕ) (holders : List BindingNo) (copied : Bool) → IsOfRun c s
    → Meets c s (entries.Indicate a j bytes holders copied) → Waiting s.world.pools s.next → Offers s.world.pools s.next
loan_offers asked c s a j bytes holders copied is meets h =
    let stands = subst (λ (t : State). IsAsked c t (entries.Indicate a j bytes holders copied)) is.reaches.state
    (asked c is.log (entries.Indicate a j bytes holders copied) refl (run_more c s (entries.Indicate a j bytes holders copied) is meets)) in
    due_offers c s a j bytes holders copied stands.due stands.must stands.serves h

-- ---- each entry

record Has (s : State) : Type 0 where
  pub loans : AreLent s.owner.loans s.lent s.world.pools
  pub waits : Waiting s.world.pools s.next

as_is : (rows : List Loan) (lent more : List ℕ) (p q : LiveSet) → more ≡ lent → q ≡ p → AreLent rows lent p → AreLent rows more q
as_is rows lent more p q one other h = subst (λ (l : List ℕ). AreLent rows l q) (sym one) (subst (AreLent rows lent) (sym other) h)

lent_world : (p : LiveSet) (t w : World) (home : Bool) (d : ℕ) → t ≡ w → (cond home t (pooled t (Lend d))).pools ≡ lent_pools w.pools home d
lent_world p t w true d is = ap (λ v. v.pools) is
lent_world p t w false d is = ap (λ v. live.after v.pools (Lend d)) is

indicate_has : (c : Inputs) (s : State) (a : AdapterNo) (j : LoanNo) (bytes : List ℕ) (holders : List BindingNo) (copied : Bool) → Offers s.world.pools s.next → Has s
    → Has (after c s (entries.Indicate a j bytes holders copied))
indicate_has c s a j bytes holders copied offer has =
    let home = stays_home s a.0 (map (λ b. b.0) holders) copied in
    let d = lends s.next in
    let same = lent_world s.world.pools (framed s holders).world s.world home d (framed_world s holders) in
    record {
      loans = subst (AreLent (s.owner.loans ++ owned.lent s.owner a holders copied ∷ []) (s.lent ++ d ∷ [])) (sym same) (indicated_lent s.owner.loans (owned.lent s.owner a holders copied) s.lent s.world.pools home d (goes_out s.owner a.0 holders copied) offer.may has.loans);
      waits = same_pools (lent_pools s.world.pools home d) (after c s (entries.Indicate a j bytes holders copied)).world.pools (popped s.next) same (offer.rest home);
    }

leave_loans : (s t : State) (x : CtxNo) (eax : ℕ) (breaks : Bool) → Same t s → AreLent s.owner.loans s.lent s.world.pools
    → AreLent (owner_left s.owner (entries.Leave x eax) breaks).loans (cond breaks s (with_world t (leveled t.world (levels.Leave x)))).lent (cond breaks s (with_world t (leveled t.world (levels.Leave x)))).world.pools
leave_loans s t x eax true same h = h
leave_loans s t x eax false same h = as_is s.owner.loans s.lent t.lent s.world.pools t.world.pools same.lent same.pools h

leave_pools : (s t : State) (x : CtxNo) (breaks : Bool) → Same t s → (cond breaks s (with_world t (leveled t.world (levels.Leave x)))).world.pools ≡ s.world.pools
leave_pools s t x true same = refl
leave_pools s t x false same = same.pools

step : StandsAsked → (c : Inputs) (s : State) (e : Entry) → IsOfRun c s → Has s → Meets c s e → Has (after c s e)
step asked c s (entries.Indicate a j bytes holders copied) is has meets =
    indicate_has c s a j bytes holders copied (loan_offers asked c s a j bytes holders copied is meets has.waits) has
step asked c s (entries.Return driver loan) is has meets = record {
  loans = returned_lent driver.0 s.owner.loans loan.0 s.lent s.world.pools (case_of s.owner (entries.Return driver loan) meets.owner) has.loans;
  waits = popped_waits s.world.pools s.next has.waits;
}
step asked c s (entries.Back loan failed) is has meets =
    let away = home_at s.owner.next failed s.owner.loans loan.0 (case_of s.owner (entries.Back loan failed) meets.owner) in
    record {
      loans = back_lent s.owner.loans loan.0 s.lent s.world.pools away has.loans;
      waits = popped_waits (live.after s.world.pools (Unlend (lent_at s.lent loan.0))) s.next (back_waits s.world.pools (lent_at s.lent loan.0) s.next (has.loans.lives loan.0 away) has.waits);
    }
step asked c s (entries.Enter a x h words writes) is has meets =
    let same = taken_same s (number_in c a) h words writes in
    record { loans = as_is s.owner.loans s.lent _ s.world.pools _ same.lent same.pools has.loans; waits = enter_waits (after c s (entries.Enter a x h words writes)).world.pools s (number_in c a) h words }
step asked c s (entries.Leave x eax) is has meets =
    let same = left_same c s (number_in c (adapter_of s x.0)) x eax (handler_of s x.0) in
    record {
      loans = leave_loans s (left_row c s (number_in c (adapter_of s x.0)) x eax (handler_of s x.0)) x eax (is_breaking (leaves c s x eax)) same has.loans;
      waits = same_pools s.world.pools (after c s (entries.Leave x eax)).world.pools (leave_next c s x (leaves c s x eax)) (leave_pools s (left_row c s (number_in c (adapter_of s x.0)) x eax (handler_of s x.0)) x (is_breaking (leaves c s x eax)) same) (leave_waits s.world.pools c s x (leaves c s x eax) (leaves_plain c s x eax));
    }
step asked c s (entries.Turn x n) is has meets =
    let same = turned_same s x n in
    record { loans = as_is s.owner.loans s.lent _ s.world.pools _ same.lent same.pools has.loans; waits = spent_waits (after c s (entries.Turn x n)).world.pools c s x (reaches c s x n) }
step asked c s (entries.Call x import words) is has meets = record {
  loans = has.loans;
  waits = call_waits s.world.pools c s x words (did s x import words) (did_lends s x import words);
}
step asked c s (entries.Reply x eax writes) is has meets =
    let told : Told = record { eax = eax; writes = writes } in
    let keeps = replied_keeps s x told in
    record {
      loans = as_is s.owner.loans s.lent (after c s (entries.Reply x eax writes)).lent (after c s (entries.Reply x eax writes)).world.pools (after c s (entries.Reply x eax writes)).world.pools keeps.lent refl (over s.owner.loans s.lent s.world.pools (after c s (entries.Reply x eax writes)).world.pools keeps.pools has.loans);
      waits = spent_waits (after c s (entries.Reply x eax writes)).world.pools c s x (reaches c s x (cost_of s x told));
    }
step asked c s (entries.Spin x lock) is has meets =
    let same = spun_same s x (call_at s x.0) in
    record {
      loans = as_is s.owner.loans s.lent _ s.world.pools _ same.lent same.pools has.loans;
      waits = same_pools s.world.pools (after c s (entries.Spin x lock)).world.pools (popped s.next) same.pools (popped_waits s.world.pools s.next has.waits);
    }
step asked c s (entries.Stop a why) is has meets = record {
  loans = as_is s.owner.loans s.lent _ s.world.pools _ (spoke_lent s (bound_to s a.0)) (ended_pools (quieted s s.world a.0) (filter (ends_context c s a.0) all_contexts)) has.loans;
  waits = tt;
}
step asked c s (entries.Fault x kind place) is has meets = record { loans = has.loans; waits = tt }
step asked c s _ is has meets = record { loans = has.loans; waits = popped_waits s.world.pools s.next has.waits }

begun : (c : Inputs) → Has (start c)
begun c = record { loans = record { long = refl; lives = λ j is. absurd (cc); apart = λ i j one other same. absurd (cc) }; waits = tt }

all_lent : StandsAsked → (c : Inputs) (s : State) → IsOfRun c s → Has s
all_lent asked c s is = of_run c Has (step asked c) (begun c) s is

-- ---- at one loan

pub lives : StandsAsked → (c : Inputs) (s : State) (j : ℕ) → IsOfRun c s → away s.owner j ≡ true → IsOnLoan s.world.pools (descriptor s j)
lives asked c s j is there = (all_lent asked c s is).loans.lives j there

pub stand_apart : StandsAsked → (c : Inputs) (s : State) (i j : ℕ) → IsOfRun c s → away s.owner i ≡ true → away s.owner j ≡ true → descriptor s i ≡ descriptor s j → i ≡ j
stand_apart asked c s i j is one other same = (all_lent asked c s is).loans.apart i j one other same

pub indicated : StandsAsked → (c : Inputs) (s : State) (a : AdapterNo) (loan : LoanNo) (bytes : List ℕ) (holders : List BindingNo) (copied : Bool) → IsOfRun c s
    → Meets c s (entries.Indicate a loan bytes holders copied) → MayBeLent s.world.pools (lends s.next)
indicated asked c s a loan bytes holders copied is meets = (loan_offers asked c s a loan bytes holders copied is meets (all_lent asked c s is).waits).may

pub back_lives : StandsAsked → (c : Inputs) (s : State) (loan : LoanNo) (failed : Bool) → IsOfRun c s → Meets c s (entries.Back loan failed) → IsOnLoan s.world.pools (descriptor s loan.0)
back_lives asked c s loan failed is meets =
    lives asked c s loan.0 is (home_at s.owner.next failed s.owner.loans loan.0 (case_of s.owner (entries.Back loan failed) meets.owner))
