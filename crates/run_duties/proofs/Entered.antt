-- Each enter has its own number: no two open handlers have the same, and none that of a handler which has just left.
use Rattle.std.proofs.Common.{◌≡◌, ℕ, zero, suc, ◌+◌, ◌<◌, ◌≤◌, Bool, true, false, cond, ◌==◌, List, [], ◌∷◌, Option, Some, None, refl, sym, ◌∙◌, subst, slice_get, slice_set, arith}
use Rattle.std.specs.Prelude.{replicate}
use Rattle.std.proofs.lemmas.Bool.{eqb-true, eq-eqb}
use Rattle.nd_base.specs.declared.numbers.AdapterNo.{AdapterNo}
use Rattle.nd_base.specs.declared.numbers.CtxNo.{CtxNo}
use Rattle.log_fields.specs.declared.field_values.Handler.{Handler}
use Rattle.log_fields.specs.declared.field_values.Handler.TheVariants as handler
use Rattle.call_log.specs.declared.entry.Entry.{Entry}
use Rattle.call_log.specs.declared.entry.Entry.TheVariants as entries
use Rattle.owner_machine.specs.declared.rows.Context.{Context}
use Rattle.owner_machine.specs.declared.rows.Context.TheVariants as kept_context
use Rattle.owner_machine.specs.declared.rows.Next.{Next as OwnerNext}
use Rattle.owner_machine.specs.declared.rows.Next.TheVariants as nexts
use Rattle.owner_machine.specs.State.{Owner, at}
use Rattle.owner_machine.specs.Contexts.{any_handler}
use Rattle.owner_machine.specs.Packets.{handed_one, behind_verdict}
use Rattle.owner_machine.specs.Loans.{behind_back}
use Rattle.owner_machine.specs.Requests.{behind_answer}
use Rattle.owner_machine.specs.Handlers.{behind_leave, next_entered}
use Rattle.legal_run.specs.State.{Inputs, State, start}
use Rattle.legal_run.specs.Calls.{leaves}
use Rattle.legal_run.specs.After.{after, is_breaking, owner_left}
use Rattle.run_duties.proofs.Rows.{true_both}
use Rattle.run_duties.proofs.Opened.{runs_as, enters_at, run_back, set_free, set_at}

-- ---- numbers of enters

-- an open handler of the adapter, of that enter
abbrev pub runs_on : (a n : ℕ) → Context → Bool
runs_on a n = runs_as any_handler a n

-- the handler of that enter left just now
abbrev pub is_left : OwnerNext → ℕ → Bool
is_left (nexts.Left a h m from) n = m == n
is_left _ n = false

pub record EachOnce (o : Owner) : Type 0 where
  pub below : (x a n : ℕ) → at (runs_on a n) o.contexts x ≡ true → n < o.enters
  pub alone : (x y a b n : ℕ) → at (runs_on a n) o.contexts x ≡ true → at (runs_on b n) o.contexts y ≡ true → x ≡ y
  pub gone : (x a n : ℕ) → is_left o.next n ≡ true → at (runs_on a n) o.contexts x ≡ true → ⊥

-- ---- a handler that is entered has the next number

left_enters : (o : Owner) (x : CtxNo) (eax : ℕ) (breaks : Bool) → (owner_left o (entries.Leave x eax) breaks).enters ≡ o.enters
left_enters o x eax true = refl
left_enters o x eax false = refl

enters_rise : (c : Inputs) (s : State) (e : Entry) → s.owner.enters ≤ (after c s e).owner.enters
enters_rise c s (entries.Enter b x h words writes) = omega arith
enters_rise c s (entries.Leave x eax) = let same = left_enters s.owner x eax (is_breaking (leaves c s x eax)) in omega (arith, same)
enters_rise c s _ = omega arith

pub number_of : (b : Option AdapterNo) (h : Handler) (m a n : ℕ) → runs_on a n (kept_context.Open b h m None) ≡ true → n ≡ m
number_of None h m a n is = absurd (cc)
number_of (Some b) h m a n is = sym (eqb-true m n (true_both (b.0 == a) _ is).1)

-- what an entry enters there
record IsNew (c : Inputs) (s : State) (e : Entry) (y n : ℕ) : Type 0 where
  pub number : n ≡ s.owner.enters
  pub more : (after c s e).owner.enters ≡ s.owner.enters + 1

new_number : (c : Inputs) (s : State) (e : Entry) (y a n : ℕ) → enters_at e y ≡ true → at (runs_on a n) (after c s e).owner.contexts y ≡ true → IsNew c s e y n
new_number c s (entries.Enter b x h words writes) y a n here is =
    let there = subst (λ (k : ℕ). at (runs_on a n) (after c s (entries.Enter b x h words writes)).owner.contexts k ≡ true) (sym (eqb-true x.0 y here)) is in
    record { number = number_of b h s.owner.enters a n (set_at (runs_on a n) _ x.0 (kept_context.Open b h s.owner.enters None) there); more = refl }
new_number c s _ y a n here is = absurd (cc)

one_context : (e : Entry) (x y : ℕ) → enters_at e x ≡ true → enters_at e y ≡ true → x ≡ y
one_context (entries.Enter b z h words writes) x y one other = sym (eqb-true z.0 x one) ∙ eqb-true z.0 y other
one_context _ x y one other = absurd (cc)

below_after : (c : Inputs) (s : State) (e : Entry) → EachOnce s.owner → (x a n : ℕ) → at (runs_on a n) (after c s e).owner.contexts x ≡ true → n < (after c s e).owner.enters
below_after c s e h x a n is = by_test (enters_at e x) refl
  where
    by_test : (t : Bool) → enters_at e x ≡ t → n < (after c s e).owner.enters
    by_test true here = let new = new_number c s e x a n here is in let number = new.number in let more = new.more in omega (arith, number, more)
    by_test false here = let was = h.below x a n (run_back c s e x any_handler a n here is).0 in let rise = enters_rise c s e in omega (arith, was, rise)

alone_after : (c : Inputs) (s : State) (e : Entry) → EachOnce s.owner → (x y a b n : ℕ) → at (runs_on a n) (after c s e).owner.contexts x ≡ true
    → at (runs_on b n) (after c s e).owner.contexts y ≡ true → x ≡ y
alone_after c s e h x y a b n one other = by_test (enters_at e x) refl (enters_at e y) refl
  where
    by_test : (t : Bool) → enters_at e x ≡ t → (r : Bool) → enters_at e y ≡ r → x ≡ y
    by_test true here true there = one_context e x y here there
    by_test true here false there =
        let number = (new_number c s e x a n here one).number in
        let was = h.below y b n (run_back c s e y any_handler b n there other).0 in
        absurd (omega (arith, number, was))
    by_test false here true there =
        let number = (new_number c s e y b n there other).number in
        let was = h.below x a n (run_back c s e x any_handler a n here one).0 in
        absurd (omega (arith, number, was))
    by_test false here false there = h.alone x y a b n (run_back c s e x any_handler a n here one).0 (run_back c s e y any_handler b n there other).0

-- ---- a handler that has left

entered_left : (b : Option AdapterNo) (h : Handler) (m : ℕ) (words : List ℕ) (n : ℕ) → is_left (next_entered b h m words) n ≡ true → ⊥
entered_left None h m words n is = absurd (cc)
entered_left (Some b) handler.Send m words n is = absurd (cc)
entered_left (Some b) handler.SendPackets m words n is = absurd (cc)
entered_left (Some b) handler.ReturnPacket m words n is = absurd (cc)
entered_left (Some b) handler.Query m words n is = absurd (cc)
entered_left (Some b) handler.Set m words n is = absurd (cc)
entered_left (Some b) _ m words n is = absurd (cc)

handed_left : (m : OwnerNext) (n : ℕ) → is_left (handed_one m) n ≡ true → ⊥
handed_left (nexts.Handing a enter left) n is = absurd (cc)
handed_left _ n is = absurd (cc)

back_left : (m : OwnerNext) (n : ℕ) → is_left (behind_back m) n ≡ true → ⊥
back_left (nexts.Tail a) n is = absurd (cc)
back_left (nexts.GoingHome a) n is = absurd (cc)
back_left _ n is = absurd (cc)

answer_left : (m : OwnerNext) (n : ℕ) → is_left (behind_answer m) n ≡ true → ⊥
answer_left (nexts.Tail a) n is = absurd (cc)
answer_left _ n is = absurd (cc)

verdict_left : (m : OwnerNext) (k n : ℕ) → is_left (behind_verdict m k) n ≡ true → is_left m n ≡ true
verdict_left (nexts.Left a h enter from) k n is = is
verdict_left _ k n is = is

complete_left : (b : Bool) (m : OwnerNext) (k n : ℕ) → is_left (cond b (behind_verdict m k) nexts.Free) n ≡ true → is_left m n ≡ true
complete_left true m k n is = verdict_left m k n is
complete_left false m k n is = absurd (cc)

-- the handler that leaves was open there, with its number
record HasLeft (cs : List Context) (y n : ℕ) : Type 0 where
  pub a : ℕ
  pub opened : at (runs_on a n) cs y ≡ true

has_left : (cs : List Context) (y n : ℕ) → is_left (behind_leave (slice_get cs y)) n ≡ true → HasLeft cs y n
has_left [] y n is = absurd (cc)
has_left (kept_context.Open (Some b) h m call ∷ cs) zero n is = record { a = b.0; opened = rw (eq-eqb b.0 b.0 refl) is }
has_left (kept_context.Open None h m call ∷ cs) zero n is = absurd (cc)
has_left (kept_context.Free ∷ cs) zero n is = absurd (cc)
has_left (x ∷ cs) (suc y) n is = let more = has_left cs y n is in record { a = more.a; opened = more.opened }

leave_gone : (o : Owner) (y : CtxNo) (eax : ℕ) (breaks : Bool) → EachOnce o → (x a n : ℕ) → is_left (owner_left o (entries.Leave y eax) breaks).next n ≡ true
    → at (runs_on a n) (owner_left o (entries.Leave y eax) breaks).contexts x ≡ true → ⊥
leave_gone o y eax true h x a n left is = absurd (cc)
leave_gone o y eax false h x a n left is =
    let was = has_left o.contexts y.0 n left in
    let same : x ≡ y.0 = h.alone x y.0 a was.a n (set_free any_handler a n o.contexts y.0 x is) was.opened in
    let there = set_at (runs_on a n) o.contexts y.0 kept_context.Free (subst (λ (k : ℕ). at (runs_on a n) (slice_set o.contexts y.0 kept_context.Free) k ≡ true) same is) in
    absurd (cc)

gone_after : (c : Inputs) (s : State) (e : Entry) → EachOnce s.owner → (x a n : ℕ) → is_left (after c s e).owner.next n ≡ true → at (runs_on a n) (after c s e).owner.contexts x ≡ true → ⊥
gone_after c s (entries.Enter b y k words writes) h x a n left is = entered_left b k s.owner.enters words n left
gone_after c s (entries.Leave y eax) h x a n left is = leave_gone s.owner y eax (is_breaking (leaves c s y eax)) h x a n left is
gone_after c s (entries.Hand packet) h x a n left is = handed_left s.owner.next n left
gone_after c s (entries.Requeue packet) h x a n left is = h.gone x a n (verdict_left s.owner.next packet.0 n left) is
gone_after c s (entries.Complete packet status) h x a n left is = h.gone x a n (complete_left _ s.owner.next packet.0 n left) is
gone_after c s (entries.Back loan failed) h x a n left is = back_left s.owner.next n left
gone_after c s (entries.Answer r status bytes) h x a n left is = answer_left s.owner.next n left
gone_after c s _ h x a n left is = absurd (cc)

-- ---- over a run

pub once_after : (c : Inputs) (s : State) (e : Entry) → EachOnce s.owner → EachOnce (after c s e).owner
once_after c s e h = record { below = below_after c s e h; alone = alone_after c s e h; gone = gone_after c s e h }

pub none_runs : (kind : Handler → Bool) (a n k y : ℕ) → at (runs_as kind a n) (replicate k kept_context.Free) y ≡ true → ⊥
none_runs kind a n zero y h = absurd (cc)
none_runs kind a n (suc k) zero h = absurd (cc)
none_runs kind a n (suc k) (suc y) h = none_runs kind a n k y h

pub once_begun : (c : Inputs) → EachOnce (start c).owner
once_begun c = record {
  below = λ x a n is. absurd (none_runs any_handler a n 16 x is);
  alone = λ x y a b n one other. absurd (none_runs any_handler a n 16 x one);
  gone = λ x a n left is. none_runs any_handler a n 16 x is;
}
