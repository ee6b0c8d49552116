-- What is armed after a move.
use Rattle.std.proofs.Common.{◌≡◌, ◌≢◌, ℕ, ◌+◌, min, Bool, true, false, cond, ltb, eqb, Option, None, Some, refl, sym, ap, ◌∙◌, arith, ltb-true, eq-eqb, ne_eqb}
use Rattle.std.specs.Ordering.{nat_cmp, is_eq}
use Rattle.std.specs.declared.cmp.Ordering.TheVariants.{Less, Equal, Greater}
use Rattle.std.specs.Cmp.{nat_cmp_total}
use Rattle.std.specs.FinMap.{get, insert, remove, get-insert, get-remove}
use Rattle.nd_base.specs.declared.numbers.Addr.{Addr}
use Rattle.dpc_timer.specs.declared.timer.Timer.{Timer}
use Rattle.dpc_timer.specs.ClockState.{ClockState, Timers, timer_at, ClockMove, Rise, Queue, Unqueue, Arm, Cancel, Fire, moved, taken, last_moment}
use Rattle.dpc_timer.specs.Laws.{timer_in}

tied : (less same : Bool) → (less ≡ true → same ≡ false) → is_eq (cond less Less (cond same Equal Greater)) ≡ same
tied true same h = sym (h refl)
tied false true h = refl
tied false false h = refl

ties : (q k : ℕ) → is_eq (nat_cmp q k) ≡ eqb q k
ties q k = tied (ltb q k) (eqb q k) (λ h. ne_eqb q k (λ e. omega (arith, ltb-true q k h)))

insert_here : (m : Timers) (k : ℕ) (timer : Timer) → get (insert m k timer) k ≡ Some timer
insert_here m k timer = get-insert nat_cmp_total m k timer k ∙ ap (λ b. cond b (Some timer) (get m k)) (ties k k ∙ eq-eqb k k refl)

insert_there : (m : Timers) (k q : ℕ) (timer : Timer) → q ≢ k → get (insert m k timer) q ≡ get m q
insert_there m k q timer ne = get-insert nat_cmp_total m k timer q ∙ ap (λ b. cond b (Some timer) (get m q)) (ties q k ∙ ne_eqb q k ne)

remove_here : (m : Timers) (k : ℕ) → get (remove m k) k ≡ None
remove_here m k = get-remove nat_cmp_total m k k ∙ ap (λ b. cond b None (get m k)) (ties k k ∙ eq-eqb k k refl)

remove_there : (m : Timers) (k q : ℕ) → q ≢ k → get (remove m k) q ≡ get m q
remove_there m k q ne = get-remove nat_cmp_total m k q ∙ ap (λ b. cond b None (get m q)) (ties q k ∙ ne_eqb q k ne)

abbrev again : ℕ → Timer → Timer
again clock timer = record { moment = min (clock + timer.every) last_moment; every = timer.every }

fired : (s : ClockState) (t : Addr) (timer : Timer) (once : Bool) → timer_at s t ≡ Some timer → eqb timer.every 0 ≡ once → (moved s (Fire t)).timers ≡ cond once (remove s.timers t.0) (insert s.timers t.0 (again s.clock timer))
fired s t timer once e test = ap (taken s.clock s.timers t.0) e ∙ ap (λ b. cond b (remove s.timers t.0) (insert s.timers t.0 (again s.clock timer))) test

pub fired_once : (s : ClockState) (t : Addr) (timer : Timer) → timer_at s t ≡ Some timer → timer.every ≡ 0 → timer_at (moved s (Fire t)) t ≡ None
fired_once s t timer e none = ap (λ (m : Timers). get m t.0) (fired s t timer true e (eq-eqb timer.every 0 none)) ∙ remove_here s.timers t.0

pub fired_again : (s : ClockState) (t : Addr) (timer : Timer) → timer_at s t ≡ Some timer → timer.every ≢ 0 → timer_at (moved s (Fire t)) t ≡ Some (again s.clock timer)
fired_again s t timer e some = ap (λ (m : Timers). get m t.0) (fired s t timer false e (ne_eqb timer.every 0 some)) ∙ insert_here s.timers t.0 (again s.clock timer)

pub armed_here : (s : ClockState) (t : Addr) (moment every : ℕ) → timer_at (moved s (Arm t moment every)) t ≡ Some (record { moment = moment; every = every })
armed_here s t moment every = insert_here s.timers t.0 (record { moment = moment; every = every })

pub cancelled_here : (s : ClockState) (t : Addr) → timer_at (moved s (Cancel t)) t ≡ None
cancelled_here s t = remove_here s.timers t.0

taken_there : (clock : ℕ) (m : Timers) (k q : ℕ) (found : Option Timer) → q ≢ k → get (taken clock m k found) q ≡ get m q
taken_there clock m k q None ne = refl
taken_there clock m k q (Some timer) ne =
    elim (eqb timer.every 0) as (λ b. get (cond b (remove m k) (insert m k (again clock timer))) q ≡ get m q) [ true ↦ remove_there m k q ne | false ↦ insert_there m k q (again clock timer) ne ]

pub others_stay : (s : ClockState) (m : ClockMove) (u : Addr) → timer_in m ≢ Some u.0 → timer_at (moved s m) u ≡ timer_at s u
others_stay s (Rise by) u apart = refl
others_stay s (Queue a) u apart = refl
others_stay s (Unqueue a) u apart = refl
others_stay s (Arm t moment every) u apart = insert_there s.timers t.0 u.0 (record { moment = moment; every = every }) (λ e. apart (ap Some (sym e)))
others_stay s (Cancel t) u apart = remove_there s.timers t.0 u.0 (λ e. apart (ap Some (sym e)))
others_stay s (Fire t) u apart = taken_there s.clock s.timers t.0 u.0 (timer_at s t) (λ e. apart (ap Some (sym e)))
