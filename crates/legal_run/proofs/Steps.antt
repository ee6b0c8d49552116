-- Jumps, silence, turns, enters and replies stand where they may.
use Rattle.std.proofs.Common.{◌≡◌, ◌≢◌, ℕ, zero, suc, ◌<◌, ◌&&◌, ◌||◌, ◌==◌, Bool, true, false, not, List, [], ◌∷◌, ◌++◌, length, refl, sym, ap, subst, Option, Some, None, inl, inr, ◌⊎◌, arith}
use Rattle.std.specs.Prelude.{nat_lt, nat_le}
use Rattle.std.specs.Option.{MatchOption}
use Rattle.std.specs.List.{list_any}
use Rattle.std.proofs.lemmas.Bool.{ltb-true, leb-true, eqb-true, cases_Bool}
use Rattle.std.proofs.lemmas.Bool.Decides.{eqb_tells}
use Rattle.std.proofs.lemmas.List.Folds.{list_any_at}
use Rattle.nd_base.specs.declared.numbers.BindingNo.{BindingNo}
use Rattle.nd_base.specs.declared.numbers.CtxNo.{CtxNo}
use Rattle.log_fields.specs.declared.field_values.Handler.{Handler}
use Rattle.log_fields.specs.declared.field_values.Handler.TheVariants as handler
use Rattle.call_log.specs.declared.entry.Entry.{Entry}
use Rattle.call_log.specs.declared.entry.Entry.TheVariants as entries
use Rattle.owner_machine.specs.Contexts.{in_brackets}
use Rattle.legal_run.specs.State.{Inputs, State, clock, all_contexts, adapters_of, is_free, alive}
use Rattle.legal_run.specs.Owed.{frame_due, can_run, is_owed, owes_entry, owes_some, some_owed, handlers, rests, waits, waits_or_is_done, all_wait, next_moment, is_moment, may_jump, may_be_quiet}
use Rattle.legal_run.specs.After.{reaches}
use Rattle.legal_run.specs.Run.{Run, now, goes_on, all_below, is_turn, is_going, freely, breaks_in}
use Rattle.legal_run.specs.EntryLaws.{IsAtRest, Jumps, IsQuiet, IsTurn, IsAsked, is_forced}
use Rattle.legal_run.proofs.Between.{true_both}
use Rattle.legal_run.specs.Must.{Due, must, Serves}
use Rattle.legal_run.proofs.Named.{met, none_numbered, all_numbered, no_context_is, stands_freely}

-- ---- tests

not_true : (b : Bool) → not b ≡ true → b ≡ false
not_true true h = absurd (cc)
not_true false h = refl

neither : (a b : Bool) → (a || b) ≡ false → (a ≡ false) × (b ≡ false)
neither true b h = absurd (cc)
neither false b h = (refl, h)

not_both : (a b : Bool) → not (a && b) ≡ true → a ≡ true → b ≡ false
not_both true true h is = absurd (cc)
not_both true false h is = refl
not_both false b h is = absurd (cc)

some_first : (b : Bool) (d : Bool) → b ≡ true → (b || d) ≡ true
some_first true d h = refl
some_first false d h = absurd (cc)

some_second : (b d : Bool) → d ≡ true → (b || d) ≡ true
some_second true d h = refl
some_second false d h = h

-- ---- rest

never_owed : (b d : Bool) → (b && (false && d)) ≡ true → ⊥
never_owed true d h = absurd (cc)
never_owed false d h = absurd (cc)

owed_handler : (c : Inputs) (s : State) (a : ℕ) (h : Handler) → is_owed c s a h ≡ true → owes_some c s a ≡ true
owed_handler c s a handler.Initialize h = list_any_at (is_owed c s a) handlers 0 handler.Halt (omega arith) h
owed_handler c s a handler.Halt h = list_any_at (is_owed c s a) handlers 1 handler.Halt (omega arith) h
owed_handler c s a handler.Reset h = list_any_at (is_owed c s a) handlers 2 handler.Halt (omega arith) h
owed_handler c s a handler.CheckForHang h = list_any_at (is_owed c s a) handlers 3 handler.Halt (omega arith) h
owed_handler c s a handler.Isr h = list_any_at (is_owed c s a) handlers 4 handler.Halt (omega arith) h
owed_handler c s a handler.DisableInterrupt h = list_any_at (is_owed c s a) handlers 5 handler.Halt (omega arith) h
owed_handler c s a handler.EnableInterrupt h = list_any_at (is_owed c s a) handlers 6 handler.Halt (omega arith) h
owed_handler c s a handler.HandleInterrupt h = list_any_at (is_owed c s a) handlers 7 handler.Halt (omega arith) h
owed_handler c s a handler.Timer h = list_any_at (is_owed c s a) handlers 8 handler.Halt (omega arith) h
owed_handler c s a handler.Sync h = list_any_at (is_owed c s a) handlers 9 handler.Halt (omega arith) h
owed_handler c s a handler.Send h = list_any_at (is_owed c s a) handlers 10 handler.Halt (omega arith) h
owed_handler c s a handler.SendPackets h = list_any_at (is_owed c s a) handlers 11 handler.Halt (omega arith) h
owed_handler c s a handler.ReturnPacket h = list_any_at (is_owed c s a) handlers 12 handler.Halt (omega arith) h
owed_handler c s a handler.Query h = list_any_at (is_owed c s a) handlers 13 handler.Halt (omega arith) h
owed_handler c s a handler.Set h = list_any_at (is_owed c s a) handlers 14 handler.Halt (omega arith) h
owed_handler c s a handler.CancelSend h = list_any_at (is_owed c s a) handlers 15 handler.Halt (omega arith) h
owed_handler c s a handler.PnpEvent h = list_any_at (is_owed c s a) handlers 16 handler.Halt (omega arith) h
owed_handler c s a handler.Shutdown h = list_any_at (is_owed c s a) handlers 17 handler.Halt (omega arith) h
owed_handler c s a handler.DriverEntry h = absurd (never_owed (alive s a) (in_brackets s.owner a handler.DriverEntry && true) h)
owed_handler c s a handler.TransferData h = absurd (never_owed (alive s a) (in_brackets s.owner a handler.TransferData && true) h)

owed_somewhere : (c : Inputs) (s : State) (a : ℕ) → a < length c.adapters → owes_some c s a ≡ true → list_any (owes_some c s) (adapters_of c) ≡ true
owed_somewhere c s a h is = elim (cases_Bool (list_any (owes_some c s) (adapters_of c))) [
  | inl here ↦ here
  | inr none ↦ let nowhere = none_numbered (owes_some c s) c.adapters a h none in absurd (cc)
]

pub at_rest : (c : Inputs) (s : State) → rests c s ≡ true → IsAtRest c s
at_rest c s h =
    let frames = true_both (not (frame_due c s)) (not (some_owed c s && list_any (is_free s) all_contexts) && not (list_any (can_run s) all_contexts)) h in
    let both = true_both (not (some_owed c s && list_any (is_free s) all_contexts)) (not (list_any (can_run s) all_contexts)) frames.1 in
    let none_free = not_both (some_owed c s) (list_any (is_free s) all_contexts) both.0 in
    record {
      frames = not_true (frame_due c s) frames.0;
      contexts = λ x within. no_context_is (can_run s) x within (not_true _ both.1);
      handlers = λ a k x there owed within.
          no_context_is (is_free s) x within (none_free (some_second (owes_entry c s) _ (owed_somewhere c s a there (owed_handler c s a k owed))));
      entry = λ x owed within. no_context_is (is_free s) x within (none_free (some_first (owes_entry c s) _ owed));
    }

-- ---- jumps and silence

moment_is : (m : ℕ) (o : Option ℕ) → is_moment m o ≡ true → o ≡ Some m
moment_is m None h = absurd (cc)
moment_is m (Some n) h = ap Some (eqb-true n m h)

pub jumps : (c : Inputs) (log : List Entry) (m : ℕ) → Run c (log ++ entries.Time m ∷ []) → Jumps c (now c log) m
jumps c log m run =
    let s : State = now c log in
    let free : may_jump c s m ≡ true = stands_freely c log (entries.Time m) refl refl run in
    let later = true_both (nat_lt (clock s) m) (rests c s && (all_wait c s && is_moment m (next_moment c s))) free in
    let rest = true_both (rests c s) (all_wait c s && is_moment m (next_moment c s)) later.1 in
    let wait = true_both (all_wait c s) (is_moment m (next_moment c s)) rest.1 in
    record {
      rest = at_rest c s rest.0;
      drivers = λ b within. all_numbered (waits_or_is_done s) c.drivers b within wait.0;
      later = ltb-true (clock s) m later.0;
      earliest = moment_is m (next_moment c s) wait.1;
    }

pub quiets : (c : Inputs) (log : List Entry) (driver : BindingNo) → Run c (log ++ entries.Quiet driver ∷ []) → IsQuiet c (now c log) driver.0
quiets c log driver run =
    let s : State = now c log in
    let free : may_be_quiet c s driver.0 ≡ true = stands_freely c log (entries.Quiet driver) refl refl run in
    let rest = true_both (rests c s) _ free in
    record { rest = at_rest c s rest.0; waits = (true_both (waits s driver.0) _ rest.1).0 }

-- ---- turns

below : (test : ℕ → Bool) (n k : ℕ) → k < n → all_below test n ≡ true → test k ≡ true
unfolding all_below
below test zero k h all = absurd (omega arith)
below test (suc n) k h all =
    let both = true_both (all_below test n) (test n) all in
    elim (last k n h) [
      | inl is ↦ subst (λ (m : ℕ). test m ≡ true) (sym is) both.1
      | inr less ↦ below test n k less both.0
    ]
  where
    last : (k n : ℕ) → k < suc n → (k ≡ n) ⊎ (k < n)
    last k n h = elim (eqb_tells k n) [ inl is ↦ inl is.1 | inr other ↦ let apart : k ≢ n = other.1 in inr (omega arith) ]

ends_at : (n : ℕ) (r g : Bool) → ((n == 64) || (r || not g)) ≡ true → (n ≡ 64) ⊎ ((r ≡ true) ⊎ (g ≡ false))
ends_at n r g h = elim (cases_Bool (n == 64)) [
  | inl is ↦ inl (eqb-true n 64 is)
  | inr other ↦ inr (rest r g (subst (λ (b : Bool). (b || (r || not g)) ≡ true) other h))
]
  where
    rest : (r g : Bool) → (r || not g) ≡ true → (r ≡ true) ⊎ (g ≡ false)
    rest true g h = inl refl
    rest false true h = absurd (cc)
    rest false false h = inr refl

pub turns : (c : Inputs) (log : List Entry) (x : CtxNo) (n : ℕ) → Run c (log ++ entries.Turn x n ∷ []) → IsTurn c (now c log) x n
turns c log x n run =
    let s : State = now c log in
    let test : (ℕ → Bool) = λ k. goes_on s x k && not (reaches c s x k) in
    let ends : Bool = (n == 64) || (reaches c s x n || not (goes_on s x n)) in
    let free : (is_going c s x && (not (frame_due c s) && is_turn c s x n)) ≡ true = stands_freely c log (entries.Turn x n) refl refl run in
    let going = true_both (is_going c s x) (not (frame_due c s) && is_turn c s x n) free in
    let frames = true_both (not (frame_due c s)) (is_turn c s x n) going.1 in
    let some = true_both (nat_lt 0 n) (nat_le n 64 && (all_below test n && ends)) frames.1 in
    let most = true_both (nat_le n 64) (all_below test n && ends) some.1 in
    let all = true_both (all_below test n) ends most.1 in
    record {
      some = ltb-true 0 n some.0;
      most = leb-true n 64 most.0;
      steps = λ k h. (true_both (goes_on s x k) _ (below test n k h all.0)).0;
      within = λ k h. not_true (reaches c s x k) (true_both (goes_on s x k) _ (below test n k h all.0)).1;
      ends = ends_at n (reaches c s x n) (goes_on s x n) all.1;
      frames = not_true (frame_due c s) frames.0;
    }

-- ---- what stands only where it must

never_free : (c : Inputs) (s : State) (e : Entry) → is_forced e ≡ true → (freely c s e ≡ false) × (breaks_in c s e ≡ false)
never_free c s (entries.Hand packet) is = (refl, refl)
never_free c s (entries.Requeue packet) is = (refl, refl)
never_free c s (entries.Complete packet status) is = (refl, refl)
never_free c s (entries.Late packet) is = (refl, refl)
never_free c s (entries.Indicate a loan bytes holders copied) is = (refl, refl)
never_free c s (entries.Back loan failed) is = (refl, refl)
never_free c s (entries.HandAsk request) is = (refl, refl)
never_free c s (entries.Answer request status bytes) is = (refl, refl)
never_free c s (entries.ResetEnd a status) is = (refl, refl)
never_free c s (entries.Port a way width port bytes) is = (refl, refl)
never_free c s (entries.WireOut a bytes) is = (refl, refl)
never_free c s (entries.Spin x lock) is = (refl, refl)
never_free c s _ is = absurd (cc)

asked_in : (c : Inputs) (s : State) (e : Entry) (d : Option Due) → must s ≡ d → freely c s e ≡ false → MatchOption d (freely c s e ≡ true) (λ due. Serves c s due e) → IsAsked c s e
asked_in c s e None is not h = absurd (cc)
asked_in c s e (Some due) is not h = record { due = due; must = is; serves = h }

pub asked : (c : Inputs) (log : List Entry) (e : Entry) → is_forced e ≡ true → Run c (log ++ e ∷ []) → IsAsked c (now c log) e
asked c log e is run =
    let s : State = now c log in
    let never = never_free c s e is in
    elim (met c log e run).turn [ inl h ↦ asked_in c s e (must s) refl never.0 h | inr h ↦ absurd (cc) ]
