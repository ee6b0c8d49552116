-- A turn, as the run tells it.
use Rattle.std.proofs.Common.{◌≡◌, ◌≢◌, ℕ, zero, suc, ◌+◌, ◌-◌, ◌<◌, ◌≤◌, min, Bool, true, false, ◌&&◌, ◌||◌, ◌==◌, not, List, length, Option, None, Some, refl, sym, ap, ◌∙◌, subst, arith, inl, inr}
use Rattle.std.specs.Prelude.{nat_le, nat_lt, slice_index_or, slice_set, slice_get}
use Rattle.std.proofs.lemmas.Bool.{cases_lt}
use Rattle.std.proofs.lemmas.Bool.Decides.{nat_tests}
use Rattle.std.proofs.lemmas.List.{set-get_or}
use Rattle.nd_base.specs.declared.numbers.AdapterNo.{AdapterNo}
use Rattle.nd_base.specs.declared.numbers.CtxNo.{CtxNo}
use Rattle.nd_mem.specs.Space.{Space}
use Rattle.ia32_step.specs.Registers.{Registers}
use Rattle.ia32_step.specs.Machine.{Machine, machine, Outcome, Trapped, Moved, Faulted, outcome, answer_to}
use Rattle.ia32_step.specs.declared.Stepped.{Stepped}
use Rattle.ia32_step.specs.declared.Stepped.TheVariants.{Went}
use Rattle.dpc_timer.specs.ClockState.{ClockState, Rise, moved}
use Rattle.guest_code.specs.declared.turns.Turned.{Turned}
use Rattle.guest_world.specs.declared.world.World.{World}
use Rattle.call_log.specs.declared.entry.Entry.TheVariants as entries
use Rattle.owner_machine.specs.State.{Owner}
use Rattle.owner_machine.specs.Machine as owners
use Rattle.legal_run.specs.State.{Inputs, State, Context, Next, no_context, context_at, adapter_in, adapter_of}
use Rattle.legal_run.specs.EntryLaws.{CodeLaws}
use Rattle.legal_run.specs.After.{after, charge_to, gone_on, machine_of, reaches, reaches_for, turned, with_context, with_world}
use Rattle.legal_run.specs.Run.{Meets, all_below, goes_on, is_moved, is_turn}
use Rattle.miniport_state.specs.declared.adapters.Adapters.{Adapters}
use Rattle.miniport_state.specs.Seen.{Point, IsAt, Keeps, behind}
use Rattle.miniport.specs.Steps.{MayTurn, MakesIn, IsKnown}
use Rattle.miniport.proofs.Standing.{both, stands}

-- ---- a turn is one

all_are : (test : ℕ → Bool) (n : ℕ) → ((k : ℕ) → k < n → test k ≡ true) → all_below test n ≡ true
unfolding all_below
all_are test zero h = refl
all_are test (suc n) h = both _ _ (all_are test n (λ k less. h k (omega arith))) (h n (omega arith))

unmoved : (r : Outcome) (last : Stepped) → last ≢ Went → answer_to r ≡ last → is_moved r ≡ false
unmoved (Moved m) last other e = absurd (other (sym e))
unmoved (Trapped slot) last other e = refl
unmoved (Faulted kind address) last other e = refl

below : (a b : ℕ) → a < b → nat_lt a b ≡ true
below a b h = grind (arith, nat_tests)

pub at_most : (a b : ℕ) → a ≤ b → nat_le a b ≡ true
at_most a b h = grind (arith, nat_tests)

pub above : (a b : ℕ) → b < a → nat_le a b ≡ false
above a b h = grind (arith, nat_tests)

-- what a context has used of the budget
abbrev pub Used : Inputs → State → CtxNo → ℕ → Type 0
Used c s x used = (k : ℕ) → reaches c s x k ≡ nat_le c.budget (used + k)

is_one : (c : Inputs) (s : State) (x : CtxNo) (n most used : ℕ) (m : Machine) (last : Stepped) → 0 < n → n ≤ most → most ≡ min (c.budget - used) 64 → Used c s x used
    → ((k : ℕ) → k < n → is_moved (outcome (turned k (machine_of s x))) ≡ true) → m ≡ turned n (machine_of s x)
    → (last ≡ Went → n ≡ most) → (last ≢ Went → answer_to (outcome m) ≡ last) → is_turn c s x n ≡ true
is_one c s x n most used m last some within is_most left moves made whole ending =
    both _ _ (below 0 n some) (both _ _ (at_most n 64 (omega arith)) (both _ _ (all_are _ n each) ends))
  where
    each : (k : ℕ) → k < n → (goes_on s x k && not (reaches c s x k)) ≡ true
    each k less = let under : reaches c s x k ≡ false = left k ∙ above c.budget (used + k) (omega arith) in both _ _ (moves k less) (ap not under)

    same : (a b : ℕ) → a ≡ b → (a == b) ≡ true
    same a b h = grind (arith, nat_tests)

    one : (x y : Bool) → x ≡ true → (x || y) ≡ true
    one x y h = rw h refl

    other : (x y : Bool) → y ≡ true → (x || y) ≡ true
    other true y h = refl
    other false y h = h

    -- it was the longest one, or the budget is reached, or the next instruction has no result
    ends : ((n == 64) || (reaches c s x n || not (goes_on s x n))) ≡ true
    ends = elim (cases_lt n 64) [
      | inl short ↦ other (n == 64) _ (elim (cases_lt (used + n) c.budget) [
        | inl under ↦
            let stays : last ≢ Went = λ went. let all : n ≡ most = whole went in omega arith in
            let is : answer_to (outcome (turned n (machine_of s x))) ≡ last = subst (λ (m : Machine). answer_to (outcome m) ≡ last) made (ending stays) in
            other (reaches c s x n) _ (ap not (unmoved (outcome (turned n (machine_of s x))) last stays is))
        | inr over ↦ one _ _ (left n ∙ at_most c.budget (used + n) over)
      ])
      | inr long ↦ one _ _ (same n 64 (omega arith))
    ]

-- ---- what is kept, and the machine that it shows

pub shown_machine : (o : Point) (x : CtxNo) (m : Adapters) (book : Owner) (w : World) → IsAt o m book w
    → machine (slice_index_or m.contexts x.0 no_context).registers w.memory ≡ machine_of o.state x
shown_machine o x m book w at =
    ap (λ (cs : List Context). machine (slice_index_or cs x.0 no_context).registers w.memory) at.keeps.rows
    ∙ ap (λ (v : World). machine (context_at o.state x.0).registers v.memory) at.world

-- the adapter of the context, as the book tells it
pub shown_adapter : (o : Point) (x : CtxNo) (m : Adapters) (book : Owner) (w : World) → IsAt o m book w → adapter_in (slice_get book.contexts x.0) ≡ adapter_of o.state x.0
shown_adapter o x m book w at = ap (λ (b : Owner). adapter_in (slice_get b.contexts x.0)) at.owner

pub used_shown : (o : Point) (x : CtxNo) (m : Adapters) (book : Owner) (w : World) (adapter : Option AdapterNo) (used : ℕ) → IsAt o m book w → adapter ≡ adapter_in (slice_get book.contexts x.0)
    → ((k : ℕ) → reaches_for o.inputs o.state adapter k ≡ nat_le o.inputs.budget (used + k)) → Used o.inputs o.state x used
used_shown o x m book w adapter used at is used_is k =
    ap (λ (a : Option AdapterNo). reaches_for o.inputs o.state a k) (sym (is ∙ shown_adapter o x m book w at)) ∙ used_is k

-- the budget is not reached before it
pub left_over : (o : Point) (x : CtxNo) (used : ℕ) → Used o.inputs o.state x used → reaches o.inputs o.state x 0 ≡ false → used < o.inputs.budget
left_over o x used used_is unspent = let under : nat_le o.inputs.budget (used + 0) ≡ false = sym (used_is 0) ∙ unspent in less o.inputs.budget (used + 0) under
  where
    less : (a b : ℕ) → nat_le a (used + 0) ≡ false → used < a
    less a b h = grind (arith, nat_tests)

-- ---- what was made

-- a turn that was made may stand
pub turn_stands : (o : Point) (x : CtxNo) (m : Adapters) (book : Owner) (w : World) (m1 : Adapters) (left : Space) (most n used : ℕ) (t : Turned)
    → IsAt o m book w → MayTurn o x → MakesIn x.0 m w.memory m1 left most t → n ≡ t.count → 0 < n → Used o.inputs o.state x used → most ≡ min (o.inputs.budget - used) 64
    → Meets o.inputs o.state (entries.Turn x n)
turn_stands o x m book w m1 left most n used t at may made count some used_is is_most =
    let same = shown_machine o x m book w at in
    let moves : (k : ℕ) → k < n → is_moved (outcome (turned k (machine_of o.state x))) ≡ true =
    λ k less. subst (λ (a : Machine). is_moved (outcome (turned k a)) ≡ true) same (made.makes.moves k (omega (arith, count, less))) in
    let state : machine made.context.registers left ≡ turned n (machine_of o.state x) =
    made.makes.state ∙ ap (λ k. turned k (machine (slice_index_or m.contexts x.0 no_context).registers w.memory)) (sym count) ∙ ap (turned n) same in
    let turn = is_one o.inputs o.state x n most used (machine made.context.registers left) t.last some (omega (arith, count, made.makes.count)) is_most used_is moves state
    (λ went. count ∙ made.makes.whole went) made.makes.ending in
    stands o (entries.Turn x n) may.goes.free (both _ _ may.goes.going (both _ _ (ap not may.frames) turn)) may.goes.works refl

registers_of : (a b : Machine) → a ≡ b → a.registers ≡ b.registers
registers_of a b h = ap (λ (m : Machine). m.registers) h

-- where none was made nothing changed
pub turn_still : (o : Point) (x : CtxNo) (m : Adapters) (book : Owner) (w : World) (m1 : Adapters) (left : Space) (most : ℕ) (t : Turned)
    → IsAt o m book w → MakesIn x.0 m w.memory m1 left most t → t.count ≡ 0 → IsAt o m1 book (record w { memory = left })
unfolding turned
turn_still o x m book w m1 left most t at made none =
    let before = slice_index_or m.contexts x.0 no_context in
    let state : machine made.context.registers left ≡ machine before.registers w.memory = made.makes.state ∙ ap (λ k. turned k (machine before.registers w.memory)) none in
    let registers : made.context.registers ≡ before.registers = registers_of _ _ state in
    let memory : left ≡ w.memory = ap (λ (a : Machine). a.memory) state in
    let context : made.context ≡ before = made.makes.others ∙ ap (λ (r : Registers). record before { registers = r }) registers in
    let rows : slice_set m.contexts x.0 made.context ≡ m.contexts = ap (slice_set m.contexts x.0) context ∙ set-get_or m.contexts x.0 no_context in
    let same : m1 ≡ m = made.contexts ∙ ap (λ (cs : List Context). record m { contexts = cs }) rows in
    record {
      keeps = subst (Keeps o.inputs o.state) (sym same) at.keeps;
      owner = at.owner;
      world = ap (λ (mem : Space). record w { memory = mem }) memory ∙ at.world;
    }

pub still_known : (o : Point) (x : CtxNo) (m : Adapters) (book : Owner) (w : World) (m1 : Adapters) (left : Space) (most : ℕ) (t : Turned)
    → IsAt o m book w → MakesIn x.0 m w.memory m1 left most t → t.count ≡ 0 → IsKnown o x t.last
unfolding turned
still_known o x m book w m1 left most t at made none stays =
    let before = slice_index_or m.contexts x.0 no_context in
    let state : machine made.context.registers left ≡ machine before.registers w.memory = made.makes.state ∙ ap (λ k. turned k (machine before.registers w.memory)) none in
    subst (λ (a : Machine). answer_to (outcome a) ≡ t.last) (state ∙ shown_machine o x m book w at) (made.makes.ending stays)

pub turn_known : CodeLaws → (o : Point) (x : CtxNo) (m : Adapters) (book : Owner) (w : World) (m1 : Adapters) (left : Space) (most n : ℕ) (t : Turned)
    → IsAt o m book w → x.0 < 16 → MakesIn x.0 m w.memory m1 left most t → n ≡ t.count → IsKnown (behind o (entries.Turn x n)) x t.last
turn_known laws o x m book w m1 left most n t at number made count stays =
    let before = slice_index_or m.contexts x.0 no_context in
    let there : x.0 < length o.state.contexts = let same = ap (λ (cs : List Context). length cs) at.keeps.rows in omega (arith, number, same, at.keeps.sixteen) in
    let state : machine made.context.registers left ≡ machine_of (after o.inputs o.state (entries.Turn x n)) x =
    made.makes.state ∙ ap (λ k. turned k (machine before.registers w.memory)) (sym count) ∙ ap (turned n) (shown_machine o x m book w at) ∙ sym (laws.turn o.inputs o.state x n there) in
    subst (λ (a : Machine). answer_to (outcome a) ≡ t.last) state (made.makes.ending stays)

-- ---- what is kept behind a turn

kept_row : (m : Adapters) (s : State) (x : CtxNo) (y : Context) (r : Registers) → m.contexts ≡ s.contexts → y ≡ record (slice_index_or m.contexts x.0 no_context) { registers = y.registers }
    → y.registers ≡ r → slice_set m.contexts x.0 y ≡ slice_set s.contexts x.0 (record (context_at s x.0) { registers = r })
kept_row m s x y r rows others same =
    ap (slice_set m.contexts x.0) (others ∙ ap (λ (q : Registers). record (slice_index_or m.contexts x.0 no_context) { registers = q }) same)
    ∙ ap (λ (cs : List Context). slice_set cs x.0 (record (slice_index_or cs x.0 no_context) { registers = r })) rows

-- charges and contexts, whatever stands in the world
pub kept_charged : (c : Inputs) (s : State) (x : CtxNo) (y : Context) (w : World) (contexts : List Context) (adapter : Option AdapterNo) (n : ℕ) (m : Adapters) → contexts ≡ slice_set s.contexts x.0 y
    → Keeps c (charge_to (record s { contexts = contexts }) adapter n) m → Keeps c (charge_to (with_context (with_world s w) x.0 y) adapter n) m
kept_charged c s x y w contexts None n m same k =
    record { rows = k.rows ∙ same; sixteen = k.sixteen; entry = k.entry; come = k.come; own = k.own; each = k.each; count = k.count; few = k.few; small = k.small; levels = k.levels; most = k.most; begins = k.begins; ends = k.ends }
kept_charged c s x y w contexts (Some a) n m same k =
    record { rows = k.rows ∙ same; sixteen = k.sixteen; entry = k.entry; come = k.come; own = k.own; each = k.each; count = k.count; few = k.few; small = k.small; levels = k.levels; most = k.most; begins = k.begins; ends = k.ends }

-- the owner machine's part, what expired and what must stand next are kept elsewhere
pub repacked : (c : Inputs) (t : State) (owner : Owner) (expired : ℕ) (next : Next) (m : Adapters) (ran : List ℕ) (runs : ℕ) → Keeps c t m
    → Keeps c (record t { owner = owner; expired = expired; next = next }) (record m { ran = ran; runs = runs })
repacked c t owner expired next m ran runs k =
    record { rows = k.rows; sixteen = k.sixteen; entry = k.entry; come = k.come; own = k.own; each = k.each; count = k.count; few = k.few; small = k.small; levels = k.levels; most = k.most; begins = k.begins; ends = k.ends }

pub charged_world : (s : State) (adapter : Option AdapterNo) (n : ℕ) → (charge_to s adapter n).world ≡ record s.world { clock = moved s.world.clock (Rise n) }
charged_world s None n = refl
charged_world s (Some a) n = refl

pub turn_kept : (o : Point) (x : CtxNo) (m : Adapters) (book : Owner) (w : World) (m1 : Adapters) (left : Space) (most n : ℕ) (t : Turned) (adapter : Option AdapterNo) (m2 m3 : Adapters) (book' : Owner) (clock : ClockState)
    → IsAt o m book w → MakesIn x.0 m w.memory m1 left most t → n ≡ t.count → adapter ≡ adapter_in (slice_get book.contexts x.0)
    → Keeps o.inputs (charge_to (record o.state { contexts = m1.contexts }) adapter n) m2 → m3 ≡ record m2 { ran = m3.ran; runs = m3.runs }
    → book' ≡ owners.after o.state.owner (entries.Turn x n) → clock ≡ moved w.clock (Rise n)
    → IsAt (behind o (entries.Turn x n)) m3 book' (record w { memory = left; clock = clock })
turn_kept o x m book w m1 left most n t adapter m2 m3 book' clock at made count is charged ran admitted rises =
    let s = o.state in
    let gone = turned n (machine_of s x) in
    let y = record (context_at s x.0) { registers = gone.registers } in
    let state : machine made.context.registers left ≡ gone =
    made.makes.state ∙ ap (λ k. turned k (machine (slice_index_or m.contexts x.0 no_context).registers w.memory)) (sym count) ∙ ap (turned n) (shown_machine o x m book w at) in
    let row : m1.contexts ≡ slice_set s.contexts x.0 y =
    ap (λ (a : Adapters). a.contexts) made.contexts ∙ kept_row m s x made.context _ at.keeps.rows made.makes.others (ap (λ (a : Machine). a.registers) state) in
    let here = subst (λ (a : Option AdapterNo). Keeps o.inputs (charge_to (record s { contexts = m1.contexts }) a n) m2) (is ∙ shown_adapter o x m book w at) charged in
    let kept = kept_charged o.inputs s x y (record s.world { memory = gone.memory }) m1.contexts (adapter_of s x.0) n m2 row here in
    record {
      keeps = subst (Keeps o.inputs (behind o (entries.Turn x n)).state) (sym ran) (repacked o.inputs (gone_on s x n) _ _ _ m2 m3.ran m3.runs kept);
      owner = admitted;
      world =
          ap (λ (mem : Space). record w { memory = mem; clock = clock }) (ap (λ (a : Machine). a.memory) state)
          ∙ ap (λ (k : ClockState). record w { memory = gone.memory; clock = k }) rises
          ∙ ap (λ (v : World). record v { memory = gone.memory; clock = moved v.clock (Rise n) }) at.world
          ∙ sym (charged_world (with_context (with_world s (record s.world { memory = gone.memory })) x.0 y) (adapter_of s x.0) n);
    }
