-- Sleep, and the end, of a run of DriverEntry alone.
use Rattle.std.proofs.Common.{rules, ◌≡◌, ℕ, ◌<◌, ◌≤◌, Bool, true, false, cond, ◌&&◌, ◌||◌, ◌==◌, not, List, [], ◌∷◌, ◌++◌, map, refl, ap, ◌∙◌, inl, Some, None, nat_lt, nat_le, arith}
use Rattle.std.specs.Prelude.{filter}
use Rattle.nd_base.specs.declared.numbers.Addr.{Addr}
use Rattle.pe_image.specs.Image.{ImageParts}
use Rattle.ia32_step.specs.Registers.{general_of}
use Rattle.ia32_step.specs.Machine.{machine, outcome}
use Rattle.log_fields.specs.declared.field_values.FaultKind.{FaultKind}
use Rattle.call_log.specs.declared.entry.Entry.{Entry}
use Rattle.call_log.specs.declared.entry.Entry.TheVariants as entries
use Rattle.import_answers.specs.Outcomes.{Outcome, Sleeps, plain}
use Rattle.legal_run.specs.State.{has_handler, is_registered}
use Rattle.std.specs.FinMap as table
use Rattle.std.specs.Prelude.{is_some}
use Rattle.log_fields.specs.declared.field_values.Handler.TheVariants as handler
use Rattle.legal_run.specs.Replies.{answered, told_as}
use Rattle.entry_run.proofs.Entries.{left_by}
use Rattle.legal_run.specs.Owed.{least, next_moment, may_jump, checks, alarms, rests, is_moment}
use Rattle.legal_run.specs.Calls.{Breaking, Draws, asks, leaves, leaves_even, by_outcome}
use Rattle.legal_run.specs.Must.{must}
use Rattle.legal_run.specs.Run.{Meets, IsInTurn, freely, is_at_leave, faults_as}
use Rattle.legal_run.specs.After.{after, calling, call_next}
use Rattle.entry_run.specs.Alone.{alone, shown}
use Rattle.entry_run.specs.Laws.{first, Going, going, behind_call, behind_reply, sleeping, row_outcome, at_moment}

pub sleeps : (g : Going) (image : ImageParts) (slots : List ℕ) (budget : ℕ) (layout : List ℕ) (import : ℕ) (words : List ℕ) (wake : ℕ)
    → row_outcome g import words ≡ Sleeps wake → behind_call (alone image slots budget layout) g import words ≡ sleeping g import words wake
sleeps g image slots budget layout import words wake is =
    ap (λ (o : Outcome). let d = by_outcome (shown (going g)) None import words o in
    record (going g) { call = Some (calling import words d); next = call_next (alone image slots budget layout) (shown (going g)) first words d }) is

-- ---- the clock goes on

none_pass : {A : Type 0} (xs : List A) → filter (λ x. false) xs ≡ []
none_pass [] = refl
none_pass (x ∷ xs) = none_pass xs

cond_same : {A : Type 0} (b : Bool) (x : A) → cond b x x ≡ x
cond_same true x = refl
cond_same false x = refl

later : (now wake : ℕ) → now < wake → nat_lt now wake ≡ true
later now wake h = search (rules, arith)

not_yet : (now wake : ℕ) → now < wake → nat_le wake now ≡ false
not_yet now wake h = search (rules, arith)

come : (now wake : ℕ) → wake ≤ now → nat_le wake now ≡ true
come now wake h = search (rules, arith)

least_of : (now wake : ℕ) (rest : List ℕ) → nat_lt now wake ≡ true → rest ≡ []
    → least (cond (nat_lt now wake) (wake ∷ filter (λ m. nat_lt now m) rest) (filter (λ m. nat_lt now m) rest)) ≡ Some wake
unfolding least
least_of now wake rest on none = rw (none, on) refl

moment_is : (image : ImageParts) (slots : List ℕ) (budget : ℕ) (layout : List ℕ) (g : Going) (import : ℕ) (words : List ℕ) (wake : ℕ) → g.world.clock.clock < wake
    → next_moment (alone image slots budget layout) (shown (sleeping g import words wake)) ≡ Some wake
moment_is image slots budget layout g import words wake h =
    let c = alone image slots budget layout in
    let s = shown (sleeping g import words wake) in
    let none : checks c s ++ alarms c s ≡ [] =
    ap (λ xs. xs ++ alarms c s) (cond_same (has_handler s handler.CheckForHang) []) ∙ ap (λ xs. map (λ t. t.1.moment) xs) (none_pass (table.entries g.world.clock.timers)) in
    least_of g.world.clock.clock wake (checks c s ++ alarms c s) (later g.world.clock.clock wake h) none

rests_now : (image : ImageParts) (slots : List ℕ) (budget : ℕ) (layout : List ℕ) (g : Going) (import : ℕ) (words : List ℕ) (wake : ℕ) → g.world.clock.clock < wake
    → rests (alone image slots budget layout) (shown (sleeping g import words wake)) ≡ true
rests_now image slots budget layout g import words wake h = let off = not_yet g.world.clock.clock wake h in rw off refl

jump_freely : (image : ImageParts) (slots : List ℕ) (budget : ℕ) (layout : List ℕ) (g : Going) (import : ℕ) (words : List ℕ) (wake : ℕ) → g.world.clock.clock < wake
    → may_jump (alone image slots budget layout) (shown (sleeping g import words wake)) wake ≡ true
jump_freely image slots budget layout g import words wake h =
    both (later g.world.clock.clock wake h)
    (both (rests_now image slots budget layout g import words wake h) (ap (is_moment wake) (moment_is image slots budget layout g import words wake h) ∙ same wake))
  where
    both : {x y : Bool} → x ≡ true → y ≡ true → (x && y) ≡ true
    both one other = rw (one, other) refl

    same : (n : ℕ) → (n == n) ≡ true
    same n = search rules

jump_turn : (image : ImageParts) (slots : List ℕ) (budget : ℕ) (layout : List ℕ) (g : Going) (import : ℕ) (words : List ℕ) (wake : ℕ) (e : Entry)
    → freely (alone image slots budget layout) (shown (sleeping g import words wake)) e ≡ true → IsInTurn (alone image slots budget layout) (shown (sleeping g import words wake)) e
unfolding must
jump_turn image slots budget layout g import words wake e h = h

pub jump_meets : (image : ImageParts) (slots : List ℕ) (budget : ℕ) (layout : List ℕ) (g : Going) (import : ℕ) (words : List ℕ) (wake : ℕ) → g.world.clock.clock < wake
    → Meets (alone image slots budget layout) (shown (sleeping g import words wake)) (entries.Time wake)
jump_meets image slots budget layout g import words wake h =
    record { owner = refl; turn = inl (jump_turn image slots budget layout g import words wake (entries.Time wake) (jump_freely image slots budget layout g import words wake h)) }

pub jump_leaves : (image : ImageParts) (slots : List ℕ) (budget : ℕ) (layout : List ℕ) (g : Going) (import : ℕ) (words : List ℕ) (wake : ℕ)
    → after (alone image slots budget layout) (shown (sleeping g import words wake)) (entries.Time wake) ≡ shown (sleeping (at_moment g wake) import words wake)
jump_leaves image slots budget layout g import words wake = refl

-- ---- the call that slept is answered

slept : (g : Going) (import : ℕ) (words : List ℕ) (wake : ℕ)
    → answered (shown (sleeping g import words wake)) first (record { eax = 0; writes = [] }) ≡ Some (plain 0 [], g.world)
slept g import words wake = ap (λ (n : ℕ). told_as (record { eax = 0; writes = [] }) [] (plain n []) g.world) (cond_same (import == 15) 0)

wake_freely : (image : ImageParts) (slots : List ℕ) (budget : ℕ) (layout : List ℕ) (g : Going) (import : ℕ) (words : List ℕ) (wake : ℕ) → wake ≤ g.world.clock.clock
    → freely (alone image slots budget layout) (shown (sleeping g import words wake)) (entries.Reply first 0 []) ≡ true
wake_freely image slots budget layout g import words wake h =
    both (come g.world.clock.clock wake h) (ap (λ a. is_some a) (slept g import words wake))
  where
    both : {x y : Bool} → x ≡ true → y ≡ true → (x && y) ≡ true
    both one other = rw (one, other) refl

pub wake_meets : (image : ImageParts) (slots : List ℕ) (budget : ℕ) (layout : List ℕ) (g : Going) (import : ℕ) (words : List ℕ) (wake : ℕ) → wake ≤ g.world.clock.clock
    → Meets (alone image slots budget layout) (shown (sleeping g import words wake)) (entries.Reply first 0 [])
wake_meets image slots budget layout g import words wake h =
    record { owner = refl; turn = inl (jump_turn image slots budget layout g import words wake (entries.Reply first 0 []) (wake_freely image slots budget layout g import words wake h)) }

pub wake_leaves : (image : ImageParts) (slots : List ℕ) (budget : ℕ) (layout : List ℕ) (g : Going) (import : ℕ) (words : List ℕ) (wake : ℕ)
    → after (alone image slots budget layout) (shown (sleeping g import words wake)) (entries.Reply first 0 [])
    ≡ shown (behind_reply (alone image slots budget layout) g (sleeping g import words wake) import (plain 0 []) g.world)
wake_leaves image slots budget layout g import words wake =
    ap (left_by (alone image slots budget layout) (shown (sleeping g import words wake)) first 0 []) (slept g import words wake)

-- ---- the end

free_turn : (image : ImageParts) (slots : List ℕ) (budget : ℕ) (layout : List ℕ) (g : Going) (e : Entry)
    → freely (alone image slots budget layout) (shown (going g)) e ≡ true → IsInTurn (alone image slots budget layout) (shown (going g)) e
unfolding must
free_turn image slots budget layout g e h = h

pub leave_meets : (image : ImageParts) (slots : List ℕ) (budget : ℕ) (layout : List ℕ) (g : Going) (eax : ℕ)
    → is_at_leave (outcome (machine g.registers g.world.memory)) ≡ true → general_of g.registers 0 ≡ eax → Meets (alone image slots budget layout) (shown (going g)) (entries.Leave first eax)
leave_meets image slots budget layout g eax at is =
    record { owner = refl; turn = inl (free_turn image slots budget layout g (entries.Leave first eax) (both at (same (general_of g.registers 0) eax is))) }
  where
    both : {x y : Bool} → x ≡ true → y ≡ true → (x && y) ≡ true
    both one other = rw (one, other) refl

    same : (n m : ℕ) → n ≡ m → (n == m) ≡ true
    same n m h = search rules

or_true : (a b : Bool) → (a || (b || true)) ≡ true
or_true true b = refl
or_true false true = refl
or_true false false = refl

pub even : (image : ImageParts) (slots : List ℕ) (budget : ℕ) (layout : List ℕ) (g : Going) (eax : ℕ)
    → leaves (alone image slots budget layout) (shown (going g)) first eax ≡ cond (leaves_even (shown (going g)) first) (Draws []) (Breaking 7)
even image slots budget layout g eax = by_level (leaves_even (shown (going g)) first) (not (eax == 0)) (is_registered (shown (going g)))
  where
    by_level : (even : Bool) (a b : Bool) → asks even 7 (asks (a || (b || true)) 14 (Draws [])) ≡ cond even (Draws []) (Breaking 7)
    by_level true a b = rw (or_true a b) refl
    by_level false a b = refl

pub fault_meets : (image : ImageParts) (slots : List ℕ) (budget : ℕ) (layout : List ℕ) (g : Going) (kind : FaultKind) (address : Addr)
    → faults_as (outcome (machine g.registers g.world.memory)) kind address.0 ≡ true → Meets (alone image slots budget layout) (shown (going g)) (entries.Fault first kind address)
fault_meets image slots budget layout g kind address is =
    record { owner = refl; turn = inl (free_turn image slots budget layout g (entries.Fault first kind address) is) }
