-- The period of an adapter's hang checks is at most the longest time that a call names.
use Rattle.std.proofs.Common.{◌≡◌, ℕ, zero, suc, ◌≤◌, Bool, true, false, cond, List, [], ◌∷◌, map, Option, Some, None, refl, sym, ap, ◌∙◌, subst, slice_get, slice_set, slice_index_or, arith}
use Rattle.std.specs.Option.{option_map_or}
use Rattle.nd_base.specs.declared.numbers.CtxNo.{CtxNo}
use Rattle.call_log.specs.declared.entry.Entry.{Entry}
use Rattle.call_log.specs.declared.entry.Entry.TheVariants as entries
use Rattle.guest_world.specs.declared.adapters.Adapter.{Adapter}
use Rattle.guest_world.specs.declared.world.World.{World}
use Rattle.guest_world.specs.Worlds.{longest_time}
use Rattle.legal_run.specs.State.{Inputs, State, Given, Calling, adapter_of, call_at, given_adapter, part_of, placed_in}
use Rattle.legal_run.specs.Calls.{leaves, stays_home}
use Rattle.legal_run.specs.Replies.{Answered, Told, answered}
use Rattle.legal_run.specs.After.{after, arrived, framed, hang_period, is_breaking, replied, spun, with_arrival}
use Rattle.run_facts.specs.Facts.{IsOfRun}
use Rattle.run_facts.proofs.Runs.{of_run}
use Rattle.run_facts.proofs.StaysOpen.{IsShort, AreShort}
use Rattle.run_facts.proofs.Parts.{Places, framed_world, ended_adapters, taken_adapters, either_adapters, left_adapters, charged_adapters, replied_adapters}
use Rattle.run_facts.proofs.Given.{AnswerHas, answer_has, spinning_has}

abbrev ShortIn : Places → Type 0
ShortIn l = (k : ℕ) → IsShort (slice_index_or l k None)

as_in : (l m : Places) → m ≡ l → ShortIn l → ShortIn m
as_in l m is h = subst ShortIn (sym is) h

arrived_short : (frame : List ℕ) (l : Places) (a : ℕ) → IsShort (slice_index_or l a None) → IsShort (slice_index_or (map (with_arrival frame) l) a None)
arrived_short frame [] a h = h
arrived_short frame (None ∷ l) zero h = h
arrived_short frame (Some p ∷ l) zero h = h
arrived_short frame (p ∷ l) (suc a) h = arrived_short frame l a h

arrival_short : (c : Inputs) (s : State) → AreShort s.world → AreShort (arrived c s).world
arrival_short c s h a = by_frame (slice_get c.frames s.come)
  where
    by_frame : (f : Option Rattle.frame_wire.specs.declared.arrival.Arrival.Arrival) → IsShort (slice_index_or (option_map_or (λ f. map (with_arrival f.bytes) s.world.adapters) f s.world.adapters) a None)
    by_frame None = h a
    by_frame (Some f) = arrived_short f.bytes s.world.adapters a (h a)

replied_short : (s : State) (x : CtxNo) (told : Told) (answer : Option Answered) → AreShort s.world → AnswerHas AreShort answer → AreShort (replied s x told answer).world
replied_short s x told None h more = h
replied_short s x told (Some given) h more = as_in given.1.adapters _ (replied_adapters s x told given) more

spun_short : (s : State) (x : CtxNo) (call : Option Calling) → AreShort s.world → AreShort (spun s x call).world
spun_short s x None h = h
spun_short s x (Some call) h = spinning_has AreShort s x call (λ v keeps. keeps.periods h) h

step : (c : Inputs) (s : State) (e : Entry) → AreShort s.world → AreShort (after c s e).world
step c s (entries.Indicate a j bytes holders copied) h =
    by_test (stays_home s a.0 (map (λ b. b.0) holders) copied) (framed s holders).world _ refl (ap (λ w. w.adapters) (framed_world s holders))
  where
    by_test : (b : Bool) (w v : World) → v.adapters ≡ w.adapters → w.adapters ≡ s.world.adapters → AreShort (cond b w v)
    by_test true w v is one = as_in s.world.adapters _ one h
    by_test false w v is one = as_in s.world.adapters _ (is ∙ one) h
step c s (entries.Enter a x k words writes) h = as_in s.world.adapters _ (taken_adapters s _ k words writes) h
step c s (entries.Leave x eax) h = as_in s.world.adapters _ (either_adapters (is_breaking (leaves c s x eax)) _ _ s.world.adapters refl (left_adapters c s _ x eax _)) h
step c s (entries.Turn x n) h = as_in s.world.adapters _ (charged_adapters _ (adapter_of s x.0) n) h
step c s (entries.Reply x eax writes) h =
    let told : Told = record { eax = eax; writes = writes } in
    replied_short s x told (answered s x told) h (answer_has AreShort s x told (λ v keeps. keeps.periods h) h)
step c s (entries.Spin x lock) h = spun_short s x (call_at s x.0) h
step c s (entries.WireIn frame) h = arrival_short c s h
step c s (entries.Stop a why) h = as_in s.world.adapters _ (ended_adapters _ _) h
step c s _ h = h

set_short : (l : Places) (n k : ℕ) (g : Given) → IsShort (slice_index_or l k None) → IsShort (slice_index_or (slice_set l n (given_adapter g)) k None)
set_short [] n k g h = h
set_short (p ∷ l) zero zero g h = omega arith
set_short (p ∷ l) zero (suc k) g h = h
set_short (p ∷ l) (suc n) zero g h = h
set_short (p ∷ l) (suc n) (suc k) g h = set_short l n k g h

placed_short : (gs : List Given) (l : Places) (n : ℕ) → ShortIn l → ShortIn (placed_in l n gs)
placed_short [] l n h = h
placed_short (g ∷ gs) l n h = placed_short gs (slice_set l n (given_adapter g)) (suc n) (λ k. set_short l n k g (h k))

nowhere : (k : ℕ) → IsShort (slice_index_or (None ∷ None ∷ None ∷ None ∷ []) k None)
nowhere zero = tt
nowhere (suc zero) = tt
nowhere (suc (suc zero)) = tt
nowhere (suc (suc (suc zero))) = tt
nowhere (suc (suc (suc (suc k)))) = tt

are_short : (c : Inputs) (s : State) → IsOfRun c s → AreShort s.world
are_short c s is = of_run c (λ t. AreShort t.world) (λ t e of h meets. step c t e h) (placed_short c.adapters (None ∷ None ∷ None ∷ None ∷ []) 0 nowhere) s is

pub short : (c : Inputs) (s : State) (a : ℕ) → IsOfRun c s → hang_period s a ≤ longest_time
short c s a is = by_part (part_of s a) (are_short c s is a)
  where
    by_part : (p : Option Adapter) → IsShort p → option_map_or (λ part. option_map_or (λ given. given.hang_period) part.attributes 0) p 0 ≤ longest_time
    by_part None h = omega arith
    by_part (Some p) h = h
