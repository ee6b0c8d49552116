-- The first turn that passes, where it is not above the clock, is that of a timer that is due.
use Rattle.std.proofs.Common.{◌≡◌, ℕ, Bool, true, false, ◌||◌, cond, List, [], ◌∷◌, Option, Some, None, IfSome, refl, sym, ap, ◌∙◌, arith}
use Rattle.std.specs.Prelude.{nat_le}
use Rattle.std.specs.List.{find}
use Rattle.std.specs.Option.{option_map}
use Rattle.std.specs.FinMap as table
use Rattle.std.proofs.lemmas.Bool.{or_left}
use Rattle.std.proofs.lemmas.Bool.Decides.{nat_tests}
use Rattle.nd_mem.specs.Space.{address}
use Rattle.dpc_timer.specs.declared.timer.Timer.{Timer}
use Rattle.dpc_timer.specs.declared.timer.Turn.{Turn}
use Rattle.dpc_timer.specs.ClockState.{ClockState, IsDue}
use Rattle.dpc_timer.specs.Turns.{AreTurnsOf, has_turn, is_for, is_turn}
use Rattle.adapter_timers.specs.Due.{up_to}
use Rattle.adapter_timers.proofs.InOrder.{turn_itself}

later : (b c : Bool) → c ≡ true → (b || c) ≡ true
later true c e = refl
later false c e = e

found_there : (p : Turn → Bool) (xs : List Turn) (t : Turn) → find p xs ≡ Some t → has_turn xs t.moment t.address ≡ true
found_there p [] t h = cc
found_there p (x ∷ xs) t h = by (p x) h (found_there p xs t)
  where
    by : (b : Bool) → cond b (Some x) (find p xs) ≡ Some t → (find p xs ≡ Some t → has_turn xs t.moment t.address ≡ true) → has_turn (x ∷ xs) t.moment t.address ≡ true
    by true e rest =
        let same : x ≡ t = cc in
        ap (λ (y : Turn). has_turn (x ∷ xs) y.moment y.address) (sym same) ∙ or_left (is_turn x.moment x.address x) (has_turn xs x.moment x.address) (turn_itself x)
    by false e rest = later (is_turn t.moment t.address x) (has_turn xs t.moment t.address) (rest e)

armed_from : (o : Option Timer) (m : ℕ) → is_for o m ≡ true → option_map (λ timer. timer.moment) o ≡ Some m
armed_from None m h = cc
armed_from (Some timer) m h = ap Some (grind (arith, nat_tests))

pub come_due : (k : ClockState) (p : Turn → Bool) (xs : List Turn) → AreTurnsOf (table.get k.timers) xs → IfSome (option_map (λ x. address x.address) (up_to k.clock (find p xs))) (IsDue k)
come_due k p xs turns = of (find p xs) refl
  where
    due : (t : Turn) (b : Bool) → find p xs ≡ Some t → nat_le t.moment k.clock ≡ b → IfSome (option_map (λ (x : Turn). address x.address) (cond b (Some t) None)) (IsDue k)
    due t false e le = tt
    due t true e le = record {
      moment = t.moment;
      armed = armed_from (table.get k.timers t.address) t.moment (sym (turns.same t.moment t.address) ∙ found_there p xs t e);
      come = grind (arith, nat_tests);
    }

    of : (o : Option Turn) → find p xs ≡ o → IfSome (option_map (λ (x : Turn). address x.address) (up_to k.clock o)) (IsDue k)
    of None e = tt
    of (Some t) e = due t (nat_le t.moment k.clock) e refl
