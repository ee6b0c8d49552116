-- Where the stop of an adapter is due: endings and stops alone stand until then.
use Rattle.std.proofs.Common.{◌≡◌, ℕ, zero, suc, ◌+◌, ◌<◌, ◌≤◌, Bool, true, false, cond, not, ◌&&◌, ◌||◌, ◌==◌, List, [], ◌∷◌, Option, Some, None, refl, sym, ap, ◌∙◌, subst, length, inl, inr, ◌⊎◌, arith}
use Rattle.std.specs.Prelude.{filter, nat_lt, count_by, position}
use Rattle.std.specs.List.{list_any}
use Rattle.std.specs.Option.{MatchOption, option_map, option_or}
use Rattle.std.proofs.lemmas.Bool.{eqb-true}
use Rattle.std.proofs.lemmas.Bool.Decides.{nat_tests}
use Rattle.nd_base.specs.declared.numbers.CtxNo.{CtxNo}
use Rattle.log_fields.specs.declared.field_values.Cause.{Cause}
use Rattle.log_fields.specs.declared.field_values.Cause.TheVariants as cause
use Rattle.log_fields.specs.declared.field_values.Handler.{Handler}
use Rattle.call_log.specs.declared.entry.Entry.{Entry}
use Rattle.call_log.specs.declared.entry.Entry.TheVariants as entries
use Rattle.owner_machine.specs.declared.rows.Adapter.{Adapter}
use Rattle.owner_machine.specs.declared.rows.Context.{Context as OwnerContext}
use Rattle.owner_machine.specs.declared.rows.Context.TheVariants as kept_context
use Rattle.owner_machine.specs.declared.rows.Next.{Next as OwnerNext}
use Rattle.owner_machine.specs.declared.rows.Next.TheVariants as nexts
use Rattle.owner_machine.specs.State.{Owner, at, is_stopped, phase_is, failure}
use Rattle.owner_machine.specs.Contexts.{any_handler, runs}
use Rattle.owner_machine.specs.Packets.{out_of, behind_verdict}
use Rattle.owner_machine.specs.Loans.{away_of, behind_back}
use Rattle.owner_machine.specs.Requests.{open_of, behind_answer}
use Rattle.owner_machine.specs.Must.{Due as OwnerDue, Completes, BacksFailed, Answers, owner_must, must_behind, tail, first_due, serves}
use Rattle.legal_run.specs.State.{Inputs, State, Stops, adapter, numbers}
use Rattle.legal_run.specs.Owed.{first, is_finished, is_moment}
use Rattle.legal_run.specs.After.{after, popped, stops_left, stops_behind, unfinished}
use Rattle.legal_run.specs.Must.{Due, Owes, Exactly, next_must, taken_first, must, Serves}
use Rattle.legal_run.specs.Run.{Meets, freely, breaks_in}
use Rattle.run_duties.proofs.Rows.{true_both}
use Rattle.run_duties.proofs.Standing.{standing, AllFit, fits}
use Rattle.run_duties.proofs.Calls.{at_more, at_below}
use Rattle.run_duties.proofs.Made.{some_counts, not_zero, first_or, second_or}
use Rattle.run_duties.proofs.Ones.{StandOnes}
use Rattle.run_duties.proofs.Stops.{StopsFrom, NextStands, all_unfinished}
use Rattle.run_duties.proofs.Opened.{runs_as, stops_it}

-- ---- numbers in lists

abbrev pub is_in : ℕ → List ℕ → Bool
is_in a ats = list_any (λ b. b == a) ats

pub or_cases : (b d : Bool) → (b || d) ≡ true → (b ≡ true) ⊎ (d ≡ true)
or_cases true d h = inl refl
or_cases false d h = inr h

in_filter : (a : ℕ) (p : ℕ → Bool) (ats : List ℕ) → p a ≡ true → is_in a ats ≡ true → is_in a (filter p ats) ≡ true
in_filter a p [] passes h = absurd (cc)
in_filter a p (x ∷ ats) passes h = by_test (p x) refl (or_cases (x == a) (is_in a ats) h) (λ more. in_filter a p ats passes more)
  where
    by_test : (t : Bool) → p x ≡ t → (((x == a) ≡ true) ⊎ (is_in a ats ≡ true)) → (is_in a ats ≡ true → is_in a (filter p ats) ≡ true) → is_in a (cond t (x ∷ filter p ats) (filter p ats)) ≡ true
    by_test true is (inl here) more = first_or (x == a) _ here
    by_test true is (inr there) more = second_or (x == a) _ (more there)
    by_test false is (inr there) more = more there
    by_test false is (inl here) more = let same : p x ≡ true = subst (λ (k : ℕ). p k ≡ true) (sym (eqb-true x a here)) passes in absurd (cc)

in_above : (rows : List Adapter) (n a : ℕ) (ats : List ℕ) → StopsFrom rows n ats → is_in a ats ≡ true → n ≤ a
in_above rows n a [] h is = absurd (cc)
in_above rows n a (x ∷ ats) h is = elim (or_cases (x == a) (is_in a ats) is) [
  | inl here ↦ let same : x ≡ a = eqb-true x a here in let low = h.0 in omega (arith, same, low)
  | inr there ↦ let more = in_above rows (suc x) a ats h.2 there in let low = h.0 in omega (arith, more, low)
]

above_other : (n a : ℕ) → n ≤ a → (n == a) ≡ false → suc n ≤ a
above_other n a low is = grind arith

in_numbers : {A : Type 0} (n a : ℕ) (xs : List A) → n ≤ a → a < n + length xs → is_in a (numbers n xs) ≡ true
in_numbers n a [] low less = absurd (omega (arith, low, less))
in_numbers n a (x ∷ xs) low less = by_number (n == a) refl (λ up. in_numbers (suc n) a xs up (omega (arith, less)))
  where
    by_number : (t : Bool) → (n == a) ≡ t → (suc n ≤ a → is_in a (numbers (suc n) xs) ≡ true) → (t || is_in a (numbers (suc n) xs)) ≡ true
    by_number true is more = refl
    by_number false is more = more (above_other n a low is)

-- ---- an adapter with an open handler is not finished

stands_there : (rows : List Adapter) (cs : List OwnerContext) (y : ℕ) (kind : Handler → Bool) (a n : ℕ) → AllFit rows cs → at (runs_as kind a n) cs y ≡ true → at standing rows a ≡ true
stands_there rows [] y kind a n all is = absurd (cc)
stands_there rows (x ∷ cs) zero kind a n all is = here x all.0 is
  where
    here : (x : OwnerContext) → fits rows x ≡ true → runs_as kind a n x ≡ true → at standing rows a ≡ true
    here (kept_context.Open (Some b) h enter call) fit is = subst (λ (k : ℕ). at standing rows k ≡ true) (eqb-true b.0 a (true_both _ _ is).0) fit
    here (kept_context.Open None h enter call) fit is = absurd (cc)
    here kept_context.Free fit is = absurd (cc)
stands_there rows (x ∷ cs) (suc y) kind a n all is = stands_there rows cs y kind a n all.1 is

runs_any : (kind : Handler → Bool) (a n : ℕ) (x : OwnerContext) → runs_as kind a n x ≡ true → runs any_handler a x ≡ true
runs_any kind a n (kept_context.Open (Some b) h enter call) is = (true_both _ _ is).0
runs_any kind a n (kept_context.Open None h enter call) is = absurd (cc)
runs_any kind a n kept_context.Free is = absurd (cc)

standing_lives : (rows : List Adapter) (a : ℕ) → at standing rows a ≡ true → at (λ row. is_stopped row.phase) rows a ≡ false
standing_lives [] a is = absurd (cc)
standing_lives (row ∷ rows) zero is = not_so (is_stopped row.phase) is
  where
    not_so : (b : Bool) → not b ≡ true → b ≡ false
    not_so true h = absurd (cc)
    not_so false h = refl
standing_lives (row ∷ rows) (suc a) is = standing_lives rows a is

not_done : (b d f g : Bool) → b ≡ false → not g ≡ true → not (b || (d && (f && g))) ≡ true
not_done true d f g one other = absurd (cc)
not_done false true true true one other = absurd (cc)
not_done false true true false one other = refl
not_done false true false g one other = refl
not_done false false f g one other = refl

pub record Unfinished (c : Inputs) (s : State) (a : ℕ) : Type 0 where
  pub rising : StopsFrom s.owner.adapters 0 (unfinished c s)
  pub among : is_in a (unfinished c s) ≡ true

pub unfinished_there : (c : Inputs) (s : State) (y : ℕ) (kind : Handler → Bool) (a n : ℕ) → StandOnes c s.owner → at (runs_as kind a n) s.owner.contexts y ≡ true → Unfinished c s a
unfinished_there c s y kind a n ones is =
    let stood = stands_there s.owner.adapters s.owner.contexts y kind a n ones.fit is in
    let less = at_below standing s.owner.adapters a stood in
    let runs_it = not_zero (count_by (runs any_handler a) s.owner.contexts) (some_counts (runs any_handler a) s.owner.contexts y (at_more (runs_as kind a n) (runs any_handler a) s.owner.contexts y (runs_any kind a n) is)) in
    let goes : not (is_finished s a) ≡ true = not_done (phase_is is_stopped s.owner a) _ _ _ (standing_lives s.owner.adapters a stood) runs_it in
    record {
      rising = all_unfinished c s ones;
      among = in_filter a (λ b. not (is_finished s b)) (numbers 0 c.adapters) goes (in_numbers 0 a c.adapters (omega arith) (omega (arith, less, ones.count)));
    }

-- ---- a stop that is due

abbrev is_winding : OwnerNext → Bool
is_winding nexts.Free = true
is_winding (nexts.Tail _) = true
is_winding _ = false

-- the adapter's stop is due: behind the stops and endings of others
pub record IsEnding (s : State) (a : ℕ) : Type 0 where
  pub why : Cause
  pub ats : List ℕ
  pub next : s.next ≡ Stops why ats
  pub winds : is_winding s.owner.next ≡ true
  pub among : is_in a ats ≡ true

-- a stop for want of memory that breaks in
pub broken_in : (c : Inputs) (s : State) (e : Entry) (a : ℕ) → Unfinished c s a → stops_it e a ≡ false → breaks_in c s e ≡ true → IsEnding (after c s e) a
broken_in c s (entries.Stop b cause.Memory) a left other is = by_list (unfinished c s) refl left.rising left.among
  where
    differs : (b.0 == a) ≡ false
    differs = flipped b.0 a other
      where
        flipped : (m k : ℕ) → (k == m) ≡ false → (m == k) ≡ false
        flipped m k h = grind arith

    by_list : (ats : List ℕ) → unfinished c s ≡ ats → StopsFrom s.owner.adapters 0 ats → is_in a ats ≡ true → IsEnding (after c s (entries.Stop b cause.Memory)) a
    by_list [] same rising among = absurd (cc)
    by_list (x ∷ ats) same rising among =
        let is_first : is_moment b.0 (first (x ∷ ats)) ≡ true = subst (λ (ks : List ℕ). is_moment b.0 (first ks) ≡ true) same is in
        let head : x ≡ b.0 = eqb-true x b.0 is_first in
        let not_head : (x == a) ≡ false = ap (λ (k : ℕ). k == a) head ∙ differs in
        let rest : is_in a ats ≡ true = ap (λ t. t || is_in a ats) (sym not_head) ∙ among in
        let above : suc x ≤ a = in_above s.owner.adapters (suc x) a ats rising.2 rest in
        let higher : nat_lt b.0 a ≡ true = subst (λ (k : ℕ). nat_lt k a ≡ true) head (less x a above) in
        record { why = cause.Memory; ats = stops_behind c s b.0 cause.Memory; next = refl; winds = refl; among = in_filter a (λ k. nat_lt b.0 k) (unfinished c s) higher left.among }
      where
        less : (x a : ℕ) → suc x ≤ a → nat_lt x a ≡ true
        less x a h = grind (arith, nat_tests)
broken_in c s _ a left other is = absurd (cc)

-- where its adapter's stop is due, endings and stops alone stand
abbrev is_end : Entry → Bool
is_end (entries.Complete _ _) = true
is_end (entries.Back _ _) = true
is_end (entries.Answer _ _ _) = true
is_end _ = false

completes_end : (o : Owner) (k : ℕ) (e : Entry) → serves o (Completes false k failure) e ≡ true → is_end e ≡ true
completes_end o k (entries.Complete packet status) h = refl
completes_end o k (entries.Tag packet id) h = absurd (cc)
completes_end o k _ h = absurd (cc)

backs_end : (o : Owner) (j : ℕ) (e : Entry) → serves o (BacksFailed j) e ≡ true → is_end e ≡ true
backs_end o j (entries.Back loan failed) h = refl
backs_end o j _ h = absurd (cc)

answers_end : (o : Owner) (r : ℕ) (e : Entry) → serves o (Answers r failure) e ≡ true → is_end e ≡ true
answers_end o r (entries.Answer q status bytes) h = refl
answers_end o r _ h = absurd (cc)

tail_end : (o : Owner) (b : ℕ) (d : OwnerDue) (e : Entry) → tail o b ≡ Some d → serves o d e ≡ true → is_end e ≡ true
tail_end o b d e is h = go (position (out_of b) o.packets) (position (away_of b) o.loans) (position (open_of b) o.requests) is
  where
    go : (x y z : Option ℕ) → first_due (option_map (λ k. Completes false k failure) x) (first_due (option_map (λ j. BacksFailed j) y) (option_map (λ r. Answers r failure) z)) ≡ Some d → is_end e ≡ true
    go (Some k) y z is = let same : Completes false k failure ≡ d = cc in completes_end o k e (subst (λ (f : OwnerDue). serves o f e ≡ true) (sym same) h)
    go None (Some j) z is = let same : BacksFailed j ≡ d = cc in backs_end o j e (subst (λ (f : OwnerDue). serves o f e ≡ true) (sym same) h)
    go None None (Some r) is = let same : Answers r failure ≡ d = cc in answers_end o r e (subst (λ (f : OwnerDue). serves o f e ≡ true) (sym same) h)
    go None None None is = absurd (cc)

winding_end : (o : Owner) (m : OwnerNext) (d : OwnerDue) (e : Entry) → is_winding m ≡ true → must_behind o m ≡ Some d → serves o d e ≡ true → is_end e ≡ true
winding_end o nexts.Free d e winds is h = absurd (cc)
winding_end o (nexts.Tail b) d e winds is h = tail_end o b.0 d e is h
winding_end o _ d e winds is h = absurd (cc)

complete_winds : (b : Bool) (m : OwnerNext) (k : ℕ) → is_winding m ≡ true → is_winding (cond b (behind_verdict m k) nexts.Free) ≡ true
complete_winds true nexts.Free k h = refl
complete_winds true (nexts.Tail a) k h = refl
complete_winds true _ k h = absurd (cc)
complete_winds false m k h = refl

back_winds : (m : OwnerNext) → is_winding (behind_back m) ≡ true
back_winds (nexts.Tail a) = refl
back_winds _ = refl

answer_winds : (m : OwnerNext) → is_winding (behind_answer m) ≡ true
answer_winds (nexts.Tail a) = refl
answer_winds _ = refl

end_step : (c : Inputs) (s : State) (e : Entry) (a : ℕ) (why : Cause) (ats : List ℕ) → s.next ≡ Stops why ats → is_winding s.owner.next ≡ true → is_in a ats ≡ true → is_end e ≡ true → IsEnding (after c s e) a
end_step c s (entries.Complete packet status) a why ats next winds among is = record { why = why; ats = ats; next = ap popped next; winds = complete_winds _ s.owner.next packet.0 winds; among = among }
end_step c s (entries.Back loan failed) a why ats next winds among is = record { why = why; ats = ats; next = ap popped next; winds = back_winds s.owner.next; among = among }
end_step c s (entries.Answer q status bytes) a why ats next winds among is = record { why = why; ats = ats; next = ap popped next; winds = answer_winds s.owner.next; among = among }
end_step c s _ a why ats next winds among is = absurd (cc)

stop_step : (c : Inputs) (s : State) (x : ℕ) (why : Cause) (rest : List ℕ) (a : ℕ) → s.next ≡ Stops why (x ∷ rest) → NextStands s.owner.adapters s.next → Unfinished c s a → is_in a rest ≡ true
    → IsEnding (after c s (entries.Stop (adapter x) why)) a
stop_step c s x cause.Memory rest a next stands left among =
    let all : StopsFrom s.owner.adapters 0 (x ∷ rest) = subst (NextStands s.owner.adapters) next stands in
    let above : suc x ≤ a = in_above s.owner.adapters (suc x) a rest all.2 among in
    record { why = cause.Memory; ats = stops_behind c s x cause.Memory; next = refl; winds = refl; among = in_filter a (λ k. nat_lt x k) (unfinished c s) (less x a above) left.among }
  where
    less : (x a : ℕ) → suc x ≤ a → nat_lt x a ≡ true
    less x a h = grind (arith, nat_tests)
stop_step c s x (cause.Breach rule) rest a next stands left among = record { why = cause.Breach rule; ats = stops_left s.next; next = refl; winds = refl; among = ap (λ m. is_in a (stops_left m)) next ∙ among }
stop_step c s x cause.Budget rest a next stands left among = record { why = cause.Budget; ats = stops_left s.next; next = refl; winds = refl; among = ap (λ m. is_in a (stops_left m)) next ∙ among }

must_stop : (s : State) (why : Cause) (x : ℕ) (rest : List ℕ) → s.next ≡ Stops why (x ∷ rest) → must s ≡ option_or (option_map Owes (owner_must s.owner)) (Some (Exactly (entries.Stop (adapter x) why)))
unfolding must
must_stop s why x rest next = ap (λ m. option_or (taken_first m) (option_or (option_map Owes (owner_must s.owner)) (next_must m))) next

pub ending_step : (c : Inputs) (s : State) (e : Entry) (a : ℕ) (why : Cause) (ats : List ℕ) → s.next ≡ Stops why ats → is_winding s.owner.next ≡ true → is_in a ats ≡ true
    → NextStands s.owner.adapters s.next → Unfinished c s a → stops_it e a ≡ false → Meets c s e → IsEnding (after c s e) a
ending_step c s e a why [] next winds among stands left other meets = absurd (cc)
ending_step c s e a why (x ∷ rest) next winds among stands left other meets = elim meets.turn [
  | inl h ↦
      by_owner (owner_must s.owner) refl
      (subst (λ (d : Option Due). MatchOption d (freely c s e ≡ true) (λ due. Serves c s due e)) (must_stop s why x rest next) h)
  | inr h ↦ broken_in c s e a left other h
]
  where
    by_owner : (m : Option OwnerDue) → owner_must s.owner ≡ m
        → MatchOption (option_or (option_map Owes m) (Some (Exactly (entries.Stop (adapter x) why)))) (freely c s e ≡ true) (λ due. Serves c s due e) → IsEnding (after c s e) a
    by_owner (Some d) is h = end_step c s e a why (x ∷ rest) next winds among (winding_end s.owner s.owner.next d e winds is (true_both (serves s.owner d e) _ h).0)
    by_owner None is h =
        let differs : (a == x) ≡ false = subst (λ (f : Entry). stops_it f a ≡ false) h other in
        let head : (x == a) ≡ false = flipped x a differs in
        let tail_in : is_in a rest ≡ true = ap (λ t. t || is_in a rest) (sym head) ∙ among in
        subst (λ (f : Entry). IsEnding (after c s f) a) (sym h) (stop_step c s x why rest a next stands left tail_in)
      where
        flipped : (m k : ℕ) → (k == m) ≡ false → (m == k) ≡ false
        flipped m k h = grind arith

-- where it is due its handlers don't leave
pub never_leaves : (c : Inputs) (s : State) (x : CtxNo) (eax a : ℕ) → Meets c s (entries.Leave x eax) → IsEnding s a → ⊥
never_leaves c s x eax a meets h = by_list h.why h.ats h.next h.winds h.among
  where
    by_owner : (why : Cause) (k : ℕ) → is_winding s.owner.next ≡ true → (m : Option OwnerDue) → owner_must s.owner ≡ m
        → MatchOption (option_or (option_map Owes m) (Some (Exactly (entries.Stop (adapter k) why)))) (freely c s (entries.Leave x eax) ≡ true) (λ due. Serves c s due (entries.Leave x eax)) → ⊥
    by_owner why k winds (Some d) is h =
        let end : is_end (entries.Leave x eax) ≡ true = winding_end s.owner s.owner.next d (entries.Leave x eax) winds is (true_both (serves s.owner d (entries.Leave x eax)) _ h).0 in absurd (cc)
    by_owner why k winds None is h = absurd (cc)

    by_list : (why : Cause) (ats : List ℕ) → s.next ≡ Stops why ats → is_winding s.owner.next ≡ true → is_in a ats ≡ true → ⊥
    by_list why [] next winds among = absurd (cc)
    by_list why (k ∷ rest) next winds among = elim meets.turn [
      | inl h ↦
          by_owner why k winds (owner_must s.owner) refl
          (subst (λ (d : Option Due). MatchOption d (freely c s (entries.Leave x eax) ≡ true) (λ due. Serves c s due (entries.Leave x eax))) (must_stop s why k rest next) h)
      | inr h ↦ absurd (cc)
    ]
