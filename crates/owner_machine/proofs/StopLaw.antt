-- What stands behind a stop.
use Rattle.std.proofs.Common.{◌≡◌, ℕ, zero, suc, ◌≤◌, Bool, true, false, cond, not, ◌&&◌, ◌||◌, ◌==◌, List, [], ◌∷◌, Option, Some, None, refl, sym, ap, ◌∙◌, subst, inl, inr, arith, slice_get}
use Rattle.std.specs.Prelude.{count_by, slice_set}
use Rattle.std.specs.Option.{option_map_or}
use Rattle.nd_base.specs.declared.numbers.AdapterNo.{AdapterNo}
use Rattle.nd_base.specs.declared.numbers.Phase.{Phase}
use Rattle.nd_base.specs.declared.numbers.Phase.TheVariants.{Running, Resetting as ResetPhase, Off, Stopped}
use Rattle.log_fields.specs.declared.field_values.Handler.{Handler}
use Rattle.log_fields.specs.declared.field_values.Handler.TheVariants as handlers
use Rattle.call_log.specs.declared.entry.Entry.{Entry}
use Rattle.call_log.specs.declared.entry.Entry.TheVariants.{Hand, Requeue, Late, Complete, Indicate, Back, HandAsk, Answer, Enter, Leave, Turn, Call, Reply, Spin, Port, WireOut, ResetBegin, ResetEnd, Fault, Stop, Cancel, Event}
use Rattle.owner_machine.specs.declared.rows.Context.{Context}
use Rattle.owner_machine.specs.declared.rows.Context.TheVariants.{Free, Open}
use Rattle.owner_machine.specs.declared.rows.Adapter.{Adapter}
use Rattle.owner_machine.specs.declared.rows.Next.{Next}
use Rattle.owner_machine.specs.declared.rows.Next.TheVariants.{Free as Nothing, Tail, Aborting, Handing, GoingHome, HandingAsk, Resetting, Left}
use Rattle.owner_machine.specs.State.{Owner, at, change, adapter_of, is_stopped, is_running, is_resetting, phase_is}
use Rattle.owner_machine.specs.Contexts.{in_call, calls, any_handler, runs, how_many, freed, calling, answered_call, send_complete, indicate_receive_packet, lookahead_indicate}
use Rattle.owner_machine.specs.Packets.{behind_verdict, handed_one, hands, packet_adapter, has_verdict, is_ending}
use Rattle.owner_machine.specs.Requests.{hands_ask, request_adapter, behind_answer}
use Rattle.owner_machine.specs.Loans.{behind_back}
use Rattle.owner_machine.specs.Handlers.{may_enter, adapter_entered, adapters_entered, adapter_left, adapters_left, entry_left, off_unless_stopped, adapters_called, adapters_answered, behind_enter, next_entered, behind_leave, contexts_entered, with_attributes, sets_attributes, resources}
use Rattle.owner_machine.specs.Adapters.{held_back_now, reset_begun, reset_ended, stopped, contexts_stopped, all_stopped}
use Rattle.owner_machine.specs.Machine.{rule_against, after}
use Rattle.owner_machine.specs.Legal.{Legal, Ends, Goes, Registers, Breaches}
use Rattle.owner_machine.specs.Laws.{number, is_adapters}
use Rattle.owner_machine.proofs.Bools.{case_of, and_first, and_second, equal, or_true, not_true}
use Rattle.owner_machine.proofs.Changed.{count_cons, suc_eq, weaker}
use Rattle.owner_machine.proofs.Overlap.{kept, count_enter, count_left, count_changed, count_stopped, count_entry_freed, calling_runs, answered_runs, other_row, enters, enters_entry}

-- the next entries may be a handler's of that adapter
abbrev pub wants_guest : Next → ℕ → Bool
wants_guest (Aborting b) a = b.0 == a
wants_guest (Handing b _ _) a = b.0 == a
wants_guest (GoingHome b) a = b.0 == a
wants_guest (HandingAsk b _) a = b.0 == a
wants_guest (Resetting b) a = b.0 == a
wants_guest (Left b _ _ _) a = b.0 == a
wants_guest _ a = false

-- where an adapter is stopped, no handler of it is open, and nothing that stood directly before asks for one
abbrev pub IsStill : Owner → ℕ → Type 0
IsStill o a = phase_is is_stopped o a ≡ true → (how_many o any_handler a ≡ 0) × (wants_guest o.next a ≡ false)

abbrev pub has_stopped : Adapter → Bool
has_stopped row = is_stopped row.phase

-- ---- what stands next

verdict_wants : (n : Next) (k a : ℕ) → wants_guest n a ≡ false → wants_guest (behind_verdict n k) a ≡ false
verdict_wants (Left b h enter from) k a h2 = h2
verdict_wants _ k a h = h

complete_wants : (b : Bool) (n : Next) (k a : ℕ) → wants_guest n a ≡ false → wants_guest (cond b (behind_verdict n k) Nothing) a ≡ false
complete_wants true n k a h = verdict_wants n k a h
complete_wants false n k a h = refl

handed_wants : (n : Next) (a : ℕ) → wants_guest n a ≡ false → wants_guest (handed_one n) a ≡ false
handed_wants (Handing b enter left) a h = h
handed_wants _ a h = refl

back_wants : (n : Next) (a : ℕ) → wants_guest (behind_back n) a ≡ false
back_wants (Tail b) a = refl
back_wants _ a = refl

answer_wants : (n : Next) (a : ℕ) → wants_guest (behind_answer n) a ≡ false
answer_wants (Tail b) a = refl
answer_wants _ a = refl

-- ---- phases

-- a change that leaves the phase
pub same_phase : (f : Adapter → Adapter) (rows : List Adapter) (b a : ℕ) → ((row : Adapter) → has_stopped (f row) ≡ has_stopped row) → at has_stopped (change f rows b) a ≡ true → at has_stopped rows a ≡ true
same_phase f rows b a w is = sym (kept has_stopped f rows b a w) ∙ is

-- a change that makes a phase other than Stopped
pub no_stop : (f : Adapter → Adapter) (rows : List Adapter) (b a : ℕ) → ((row : Adapter) → has_stopped (f row) ≡ false) → at has_stopped (change f rows b) a ≡ true → (b == a ≡ false) × (at has_stopped rows a ≡ true)
no_stop f [] b a w is = absurd (cc)
no_stop f (row ∷ rows) zero zero w is = absurd (not_true _ is (w row))
no_stop f (row ∷ rows) zero (suc a) w is = (grind arith, is)
no_stop f (row ∷ rows) (suc b) zero w is = (grind arith, is)
no_stop f (row ∷ rows) (suc b) (suc a) w is = let more = no_stop f rows b a w is in (suc_eq b a ∙ more.0, more.1)

pub entered_phase : (h : Handler) (row : Adapter) → has_stopped (adapter_entered h row) ≡ true → has_stopped row ≡ true
entered_phase handlers.Halt row is = absurd (cc)
entered_phase handlers.Shutdown row is = absurd (cc)
entered_phase handlers.CancelSend row is = is
entered_phase handlers.PnpEvent row is = is
entered_phase _ row is = is

-- an adapter that a change leaves stopped was stopped
pub were : (f : Adapter → Adapter) (rows : List Adapter) (b a : ℕ) → ((row : Adapter) → has_stopped (f row) ≡ true → has_stopped row ≡ true) → at has_stopped (change f rows b) a ≡ true → at has_stopped rows a ≡ true
were f [] b a w is = is
were f (row ∷ rows) zero zero w is = w row is
were f (row ∷ rows) zero (suc a) w is = is
were f (row ∷ rows) (suc b) zero w is = is
were f (row ∷ rows) (suc b) (suc a) w is = were f rows b a w is

initialized_phase : (c d : Bool) (phase : Phase) → is_stopped (cond c Running (cond d phase Off)) ≡ true → is_stopped phase ≡ true
initialized_phase true d phase is = absurd (cc)
initialized_phase false true phase is = is
initialized_phase false false phase is = absurd (cc)

left_phase : (h : Handler) (eax : ℕ) (row : Adapter) → has_stopped (adapter_left h eax row) ≡ true → has_stopped row ≡ true
left_phase handlers.Initialize eax row is = initialized_phase (eax == 0) (eax == 0x103) row.phase is
left_phase handlers.Halt eax row is = absurd (cc)
left_phase handlers.Shutdown eax row is = absurd (cc)
left_phase handlers.CheckForHang eax row is = is
left_phase _ eax row is = is

off_phase : (phase : Phase) → is_stopped (off_unless_stopped phase) ≡ true → is_stopped phase ≡ true
off_phase Stopped is = refl
off_phase _ is = absurd (cc)

entry_left_phase : (eax : ℕ) (rows : List Adapter) (a : ℕ) → at has_stopped (entry_left eax rows) a ≡ true → at has_stopped rows a ≡ true
entry_left_phase zero rows a is = is
entry_left_phase (suc eax) [] a is = is
entry_left_phase (suc eax) (row ∷ rows) zero is = off_phase row.phase is
entry_left_phase (suc eax) (row ∷ rows) (suc a) is = entry_left_phase (suc eax) rows a is

pub left_phases : (rows : List Adapter) (x : Option Context) (eax a : ℕ) → at has_stopped (adapters_left rows x eax) a ≡ true → at has_stopped rows a ≡ true
left_phases rows (Some (Open (Some b) h enter call)) eax a is = were (adapter_left h eax) rows b.0 a (left_phase h eax) is
left_phases rows (Some (Open None h enter call)) eax a is = entry_left_phase eax rows a is
left_phases rows (Some Free) eax a is = is
left_phases rows None eax a is = is

pub called_phases : (rows : List Adapter) (x : Option Context) (import a : ℕ) → at has_stopped (adapters_called rows x import) a ≡ true → at has_stopped rows a ≡ true
called_phases rows (Some (Open (Some b) h enter call)) import a is = same_phase (resources import) rows b.0 a (λ row. refl) is
called_phases rows (Some (Open None h enter call)) import a is = is
called_phases rows (Some Free) import a is = is
called_phases rows None import a is = is

pub answered_phases : (rows : List Adapter) (x : Option Context) (a : ℕ) → at has_stopped (adapters_answered rows x) a ≡ true → at has_stopped rows a ≡ true
answered_phases rows (Some (Open (Some b) h enter (Some call))) a is = same_phase (with_attributes (sets_attributes h call) call.flags) rows b.0 a (λ row. refl) is
answered_phases rows (Some (Open (Some b) h enter None)) a is = is
answered_phases rows (Some (Open None h enter (Some call))) a is = is
answered_phases rows (Some (Open None h enter None)) a is = is
answered_phases rows (Some Free) a is = is
answered_phases rows None a is = is

-- ---- contexts of a stopped adapter

none_in : (p : Context → Bool) (cs : List Context) (c : ℕ) → count_by p cs ≡ 0 → at p cs c ≡ true → ⊥
none_in p [] c none is = cc
none_in p (y ∷ cs) zero none is = let n = ap number is in absurd (omega (arith, n, none, count_cons p y cs))
none_in p (y ∷ cs) (suc c) none is = none_in p cs c (omega (arith, none, count_cons p y cs)) is

-- a context of a stopped adapter is none
none_open : (o : Owner) (a c : ℕ) → how_many o any_handler a ≡ 0 → at (runs any_handler a) o.contexts c ≡ true → ⊥
none_open o a c none is = none_in (runs any_handler a) o.contexts c none is

left_wants : (o : Owner) (x : Option Context) (c a : ℕ) → slice_get o.contexts c ≡ x → how_many o any_handler a ≡ 0 → wants_guest (behind_leave x) a ≡ false
left_wants o None c a got none = refl
left_wants o (Some Free) c a got none = refl
left_wants o (Some (Open None h enter call)) c a got none = refl
left_wants o (Some (Open (Some b) h enter call)) c a got none = by_adapter (b.0 == a) refl
  where
    by_adapter : (t : Bool) → (b.0 == a) ≡ t → (b.0 == a) ≡ false
    by_adapter false is = is
    by_adapter true is = absurd (none_open o a c none (ap (λ (x : Option Context). option_map_or (runs any_handler a) x false) got ∙ is))

behind_wants : (b : AdapterNo) (a : ℕ) (h : Handler) (enter : ℕ) (words : List ℕ) → (b.0 == a) ≡ false → wants_guest (behind_enter b h enter words) a ≡ false
behind_wants b a handlers.Send enter words is = is
behind_wants b a handlers.SendPackets enter words is = is
behind_wants b a handlers.ReturnPacket enter words is = is
behind_wants b a handlers.Query enter words is = is
behind_wants b a handlers.Set enter words is = is
behind_wants b a _ enter words is = refl

gone : (a : ℕ) (cs : List Context) → count_by (runs any_handler a) (freed a cs) ≡ 0
gone a [] = refl
gone a (y ∷ cs) = let more = gone a cs in let one = none_left (runs any_handler a y) refl in omega (arith, more, one, count_cons (runs any_handler a) (cond (runs any_handler a y) Free y) (freed a cs))
  where
    none_left : (t : Bool) → runs any_handler a y ≡ t → number (runs any_handler a (cond t Free y)) ≡ 0
    none_left true is = refl
    none_left false is = ap number is

pub both_phases : (rows : List Adapter) (a : ℕ) → at (λ row. not (has_stopped row)) rows a ≡ true → at has_stopped rows a ≡ true → ⊥
both_phases [] a lives is = cc
both_phases (row ∷ rows) zero lives is = not_true (not (has_stopped row)) lives (ap not is)
both_phases (row ∷ rows) (suc a) lives is = both_phases rows a lives is

-- an adapter that stands is not the one that is stopped
pub other_adapter : (rows : List Adapter) (a b : ℕ) → at (λ row. not (has_stopped row)) rows b ≡ true → at has_stopped rows a ≡ true → (b == a) ≡ false
other_adapter rows a b lives is = by_number (b == a) refl
  where
    by_number : (t : Bool) → (b == a) ≡ t → (b == a) ≡ false
    by_number false e = e
    by_number true e = absurd (both_phases rows a (subst (λ (m : ℕ). at (λ row. not (has_stopped row)) rows m ≡ true) (equal b a e) lives) is)

enter_still : (o : Owner) (b : Option AdapterNo) (c : ℕ) (h : Handler) (words : List ℕ) (a : ℕ) → may_enter o b c h ≡ true → IsStill o a → at has_stopped (adapters_entered o.adapters b h) a ≡ true → (count_by (runs any_handler a) (slice_set (contexts_entered b h o.enters o.contexts) c (Open b h o.enters None)) ≡ 0) × (wants_guest (next_entered b h o.enters words) a ≡ false)
enter_still o (Some b) c h words a may still_o st =
    let needs = enters o b c h may in
    let was_stopped = were (adapter_entered h) o.adapters b.0 a (entered_phase h) st in
    let other = other_adapter o.adapters a b.0 needs.stands was_stopped in
    let e1 = count_enter any_handler a (Some b) h o.enters c o.contexts (Open (Some b) h o.enters None) needs.free in
    let e2 = ap number other in
    let none = (still_o was_stopped).0 in
    (omega (arith, e1, e2, none), behind_wants b a h o.enters words other)
enter_still o None c h words a may still_o st =
    let e1 = count_enter any_handler a None h o.enters c o.contexts (Open None h o.enters None) (enters_entry o c h may) in
    let none = (still_o st).0 in
    (omega (arith, e1, none), refl)

stop_still : (o : Owner) (a b : ℕ) (all : Bool) → at has_stopped (change stopped o.adapters b) a ≡ true → IsStill o a → (t : Bool) → (b == a) ≡ t → count_by (runs any_handler a) (contexts_stopped o.contexts b all) ≡ 0
stop_still o a b all st still_o false other = let was = (still_o (sym (other_row has_stopped stopped o.adapters b a other) ∙ st)).0 in let e1 = count_stopped (runs any_handler a) o.contexts b all refl in omega (arith, e1, was)
stop_still o a b true st still_o true same = let e1 = count_entry_freed (runs any_handler a) (freed b o.contexts) refl in let e2 = ap (λ (m : ℕ). count_by (runs any_handler a) (freed m o.contexts)) (equal b a same) ∙ gone a o.contexts in omega (arith, e1, e2)
stop_still o a b false st still_o true same = ap (λ (m : ℕ). count_by (runs any_handler a) (freed m o.contexts)) (equal b a same) ∙ gone a o.contexts

pub still_after : (o : Owner) (e : Entry) (a : ℕ) → rule_against o e ≡ None → IsStill o a → IsStill (after o e) a
still_after o (Cancel b id) a h still_o = λ st. ((still_o (same_phase _ o.adapters (adapter_of o b.0) a (λ row. refl) st)).0, refl)
still_after o (Event b m bytes taken) a h still_o = λ st. ((still_o (same_phase _ o.adapters (adapter_of o b.0) a (λ row. refl) st)).0, refl)
still_after o (Hand k) a h still_o = λ st. ((still_o st).0, handed_wants o.next a (still_o st).1)
still_after o (Requeue k) a h still_o = λ st. let was = still_o (same_phase held_back_now o.adapters (packet_adapter o k.0) a (λ row. refl) st) in (was.0, verdict_wants o.next k.0 a was.1)
still_after o (Complete k status) a h still_o = λ st. ((still_o st).0, complete_wants (at (λ p. has_verdict o.next k.0 p || is_ending o.next p) o.packets k.0) o.next k.0 a (still_o st).1)
still_after o (Back k failed) a h still_o = λ st. ((still_o st).0, back_wants o.next a)
still_after o (Answer k status bytes) a h still_o = λ st. ((still_o st).0, answer_wants o.next a)
still_after o (ResetBegin b) a h still_o = λ st. let was = no_stop reset_begun o.adapters b.0 a (λ row. refl) st in ((still_o was.1).0, was.0)
still_after o (ResetEnd b status) a h still_o = λ st. let was = no_stop reset_ended o.adapters b.0 a (λ row. refl) st in ((still_o was.1).0, was.0)
still_after o (Enter b c handler words writes) a h still_o = λ st. enter_still o b c.0 handler words a (case_of o (Enter b c handler words writes) h) still_o st
still_after o (Leave c eax) a h still_o = λ st.
    let was = still_o (left_phases o.adapters (slice_get o.contexts c.0) eax a st) in
    let e1 = count_left (runs any_handler a) o.contexts c.0 refl in
    let none = was.0 in
    (omega (arith, e1, none), left_wants o (slice_get o.contexts c.0) c.0 a refl was.0)
still_after o (Call c import words) a h still_o = λ st. ((count_changed (runs any_handler a) (calling import words) o.contexts c.0 (calling_runs any_handler a import words)) ∙ (still_o (called_phases o.adapters (slice_get o.contexts c.0) import a st)).0, refl)
still_after o (Reply c eax writes) a h still_o = λ st. ((count_changed (runs any_handler a) answered_call o.contexts c.0 (answered_runs any_handler a)) ∙ (still_o (answered_phases o.adapters (slice_get o.contexts c.0) a st)).0, refl)
still_after o (Stop b cause) a h still_o = λ st. (stop_still o a b.0 (all_stopped (change stopped o.adapters b.0)) st still_o (b.0 == a) refl, refl)
still_after o _ a h still_o = λ st. ((still_o st).0, refl)

pub still_now : (o n : Owner) (log : List Entry) (a : ℕ) → Legal o log n → IsStill o a → IsStill n a
still_now o n log a (Ends m) still_o = still_o
still_now o n log a (Goes m l e rest h more) still_o = still_now (after o e) n rest a more (still_after o e a h still_o)
still_now o n log a (Registers m l rest c p more) still_o = still_now _ n log a more still_o
still_now o n log a (Breaches m l c eax rest h more) still_o = still_now _ n rest a more (λ st. ((still_o st).0, refl))

-- ---- what does not stand

-- in a call of that adapter's
pub calls_run : (o : Owner) (a import : ℕ) → in_call o a import ≡ true → how_many o any_handler a ≡ 0 → ⊥
calls_run o a import is none = not_true (not (count_by (calls a import) o.contexts == 0)) is (is_none (count_by (calls a import) o.contexts) (omega (arith, fewer o.contexts, none)))
  where
    is_none : (n : ℕ) → n ≡ 0 → not (n == 0) ≡ false
    is_none n e = grind arith

    less : (y : Context) → number (calls a import y) ≤ number (runs any_handler a y)
    less (Open (Some b) h enter (Some call)) = grind arith
    less (Open (Some b) h enter None) = omega arith
    less (Open None h enter (Some call)) = omega arith
    less (Open None h enter None) = omega arith
    less Free = omega arith

    fewer : (cs : List Context) → count_by (calls a import) cs ≤ count_by (runs any_handler a) cs
    fewer [] = omega arith
    fewer (y ∷ cs) = let more = fewer cs in let one = less y in omega (arith, more, one, count_cons (calls a import) y cs, count_cons (runs any_handler a) y cs)

hands_wants : (n : Next) (a b : ℕ) → hands n b ≡ true → (b == a) ≡ true → wants_guest n a ≡ true
hands_wants (Handing d enter left) a b is same = ap (λ (m : ℕ). m == a) (equal d.0 b (and_first _ _ is)) ∙ same
hands_wants _ a b is same = absurd (cc)

hands_ask_wants : (n : Next) (a b : ℕ) → hands_ask n b ≡ true → (b == a) ≡ true → wants_guest n a ≡ true
hands_ask_wants (HandingAsk d enter) a b is same = ap (λ (m : ℕ). m == a) (equal d.0 b is) ∙ same
hands_ask_wants _ a b is same = absurd (cc)

running_lives : (phase : Phase) → is_running phase ≡ true → not (is_stopped phase) ≡ true
running_lives Running is = refl
running_lives _ is = absurd (cc)

resetting_lives : (phase : Phase) → is_resetting phase ≡ true → not (is_stopped phase) ≡ true
resetting_lives ResetPhase is = refl
resetting_lives _ is = absurd (cc)

-- what can't be true is false
refuted : (b : Bool) → (b ≡ true → ⊥) → b ≡ false
refuted true h = absurd (h refl)
refuted false h = refl

stays_quiet : (o : Owner) (e : Entry) (a : ℕ) → rule_against o e ≡ None → IsStill o a → phase_is is_stopped o a ≡ true → is_adapters o a e ≡ true → ⊥
stays_quiet o (Hand k) a h still_o st is = not_true (wants_guest o.next a) (hands_wants o.next a (packet_adapter o k.0) (and_first _ _ (case_of o (Hand k) h)) is) (still_o st).1
stays_quiet o (Late k) a h still_o st is = calls_run o a send_complete (subst (λ (m : ℕ). in_call o m send_complete ≡ true) (equal (packet_adapter o k.0) a is) (and_second _ _ (case_of o (Late k) h))) (still_o st).0
stays_quiet o (HandAsk r) a h still_o st is = not_true (wants_guest o.next a) (hands_ask_wants o.next a (request_adapter o r.0) (and_first _ _ (case_of o (HandAsk r) h)) is) (still_o st).1
stays_quiet o (Indicate b j bytes holders copied) a h still_o st is =
    let same = equal b.0 a is in
    let parts = and_second _ _ (case_of o (Indicate b j bytes holders copied) h) in
    elim (or_true (in_call o b.0 indicate_receive_packet) (copied && in_call o b.0 lookahead_indicate) (and_first (in_call o b.0 indicate_receive_packet || (copied && in_call o b.0 lookahead_indicate)) _ parts)) [
      | inl in_indicate ↦ calls_run o a indicate_receive_packet (subst (λ (m : ℕ). in_call o m indicate_receive_packet ≡ true) same in_indicate) (still_o st).0
      | inr in_lookahead ↦ calls_run o a lookahead_indicate (subst (λ (m : ℕ). in_call o m lookahead_indicate ≡ true) same (and_second copied (in_call o b.0 lookahead_indicate) in_lookahead)) (still_o st).0
    ]
stays_quiet o (Enter (Some b) c handler words writes) a h still_o st is = not_true (b.0 == a) is (other_adapter o.adapters a b.0 (enters o b c.0 handler (case_of o (Enter (Some b) c handler words writes) h)).stands st)
stays_quiet o (Leave c eax) a h still_o st is = none_open o a c.0 (still_o st).0 is
stays_quiet o (Turn c n) a h still_o st is = none_open o a c.0 (still_o st).0 is
stays_quiet o (Call c import words) a h still_o st is = none_open o a c.0 (still_o st).0 is
stays_quiet o (Reply c eax writes) a h still_o st is = none_open o a c.0 (still_o st).0 is
stays_quiet o (Spin c lock) a h still_o st is = none_open o a c.0 (still_o st).0 is
stays_quiet o (Fault c kind address) a h still_o st is = none_open o a c.0 (still_o st).0 is
stays_quiet o (Port b way width port bytes) a h still_o st is = not_true (b.0 == a) is (other_adapter o.adapters a b.0 (case_of o (Port b way width port bytes) h) st)
stays_quiet o (WireOut b bytes) a h still_o st is = not_true (b.0 == a) is (other_adapter o.adapters a b.0 (case_of o (WireOut b bytes) h) st)
stays_quiet o (Stop b cause) a h still_o st is = not_true (b.0 == a) is (other_adapter o.adapters a b.0 (case_of o (Stop b cause) h) st)
stays_quiet o (ResetBegin b) a h still_o st is = not_true (b.0 == a) is (other_adapter o.adapters a b.0 (weaker (λ row. is_running row.phase && row.owes_reset) (λ row. not (has_stopped row)) o.adapters b.0 (λ row r. running_lives row.phase (and_first _ _ r)) (and_first (at (λ row. is_running row.phase && row.owes_reset) o.adapters b.0) _ (case_of o (ResetBegin b) h))) st)
stays_quiet o (ResetEnd b status) a h still_o st is = not_true (b.0 == a) is (other_adapter o.adapters a b.0 (weaker (λ row. is_resetting row.phase) (λ row. not (has_stopped row)) o.adapters b.0 (λ row r. resetting_lives row.phase r) (and_first (phase_is is_resetting o b.0) _ (case_of o (ResetEnd b status) h))) st)
stays_quiet o _ a h still_o st is = cc

pub quiet : (o : Owner) (e : Entry) (a : ℕ) → rule_against o e ≡ None → IsStill o a → phase_is is_stopped o a ≡ true → is_adapters o a e ≡ false
quiet o e a h still_o st = refuted (is_adapters o a e) (stays_quiet o e a h still_o st)
