-- A frame that comes is a move of the run.
use Rattle.std.proofs.Common.{◌≡◌, ℕ, ◌+◌, ◌<◌, true, false, ◌&&◌, ◌==◌, List, [], ◌∷◌, ◌++◌, length, map, Option, Some, None, refl, sym, ap, ◌∙◌, subst, arith}
use Rattle.std.specs.Prelude.{slice_get, slice_index_or}
use Rattle.std.specs.Option.{option_map_or}
use Rattle.std.proofs.lemmas.Option.{get_or_from_slice_get, slice_get_within}
use Rattle.frame_wire.specs.declared.arrival.Arrival.{Arrival}
use Rattle.call_log.specs.declared.entry.Entry.{Entry}
use Rattle.call_log.specs.declared.entry.Entry.TheVariants as entries
use Rattle.call_log.specs.Logs.{State as LogState}
use Rattle.guest_world.specs.declared.adapters.Adapter.{Adapter}
use Rattle.guest_world.specs.declared.world.World.{World}
use Rattle.owner_machine.specs.State.{Owner}
use Rattle.owner_machine.specs.Machine.{after as owners_after}
use Rattle.legal_run.specs.Laws.{RunLaws}
use Rattle.legal_run.specs.State.{Inputs, State}
use Rattle.legal_run.specs.After.{after, with_arrival}
use Rattle.legal_run.specs.Owed.{frame_due, has_come_due}
use Rattle.legal_run.specs.Run.{Meets, Reaches}
use Rattle.miniport.specs.Free.{FreeEntriesStand}
use Rattle.miniport_state.specs.Seen.{Point, IsAt, Logs, behind}
use Rattle.run_moves.specs.declared.running.Running.{Running}
use Rattle.run_moves.specs.Runs.{Grows, IsRun}
use Rattle.run_stops.specs.Standing.{IsSettled, point_of, state_of}

goes : RunLaws → (c : Inputs) (s : State) (e : Entry) (log : List Entry) → Reaches c log s → Meets c s e → Reaches c (log ++ e ∷ []) (after c s e)
goes laws c s e log reaches meets = record {
  run = (laws.more c log e).1 (reaches.run, subst (λ (t : State). Meets c t e) (sym reaches.state) meets);
  state = laws.next c log e ∙ ap (λ t. after c t e) reaches.state;
}

abbrev with_parts : World → List (Option Adapter) → World
with_parts w parts = record w { adapters = parts }

abbrev with_frame : State → Option Arrival → World
with_frame s frame = with_parts s.world (option_map_or (λ f. map (with_arrival f.bytes) s.world.adapters) frame s.world.adapters)

kept : (o : Point) (frame : Arrival) (before : Running) (book : Owner) (parts : List (Option Adapter)) → IsAt o before.adapters before.book before.world
    → slice_get o.inputs.frames o.state.come ≡ Some frame → parts ≡ map (with_arrival frame.bytes) before.world.adapters → book ≡ owners_after o.state.owner (entries.WireIn o.state.come)
    → IsAt (behind o (entries.WireIn o.state.come)) before.adapters book (with_parts before.world parts)
kept o frame before book parts h found got is = record {
  keeps = record {
    rows = h.keeps.rows;
    sixteen = h.keeps.sixteen;
    entry = h.keeps.entry;
    come = h.keeps.come;
    own = h.keeps.own;
    each = h.keeps.each;
    count = h.keeps.count;
    few = h.keeps.few;
    small = h.keeps.small;
    levels = h.keeps.levels;
    most = h.keeps.most;
    begins = h.keeps.begins;
    ends = h.keeps.ends;
  };
  owner = is;
  world =
      ap (with_parts before.world) got
      ∙ ap (λ (w : World). with_parts w (map (with_arrival frame.bytes) w.adapters)) h.world
      ∙ sym (ap (with_frame o.state) found);
}

pub came : RunLaws → (o : Point) (frame : Arrival) (before : Running) (book : Owner) (parts : List (Option Adapter)) (log : LogState) → IsRun o before
    → slice_get o.inputs.frames o.state.come ≡ Some frame → parts ≡ map (with_arrival frame.bytes) before.world.adapters → Logs o (entries.WireIn o.state.come) before.log log
    → book ≡ owners_after o.state.owner (entries.WireIn o.state.come)
    → Grows o (entries.WireIn o.state.come) before
    (record before { book = book; world = with_parts before.world parts; log = log; course = record before.course { come = before.course.come + 1; expired = 0 } })
came laws o frame before book parts log run found got logs is =
    let h = run.shown in
    record {
      run = record {
        reaches = subst (λ (es : List Entry). Reaches o.inputs es (after o.inputs o.state (entries.WireIn o.state.come))) (sym logs.written) (goes laws o.inputs o.state (entries.WireIn o.state.come) before.log.entries run.reaches logs.meets);
        kept = kept o frame before book parts run.kept found got is;
        shown = record {
          hearings = h.hearings;
          frames = h.frames;
          loans = h.loans;
          arrivals = let same = h.arrivals in omega (arith, same);
          expirations = refl;
        };
      };
      written = logs.written;
      spare = logs.spare;
    }

-- ---- the next frame

same_number : (k : ℕ) → (k == k) ≡ true
same_number k = grind arith

pub may_come : FreeEntriesStand → (c : Inputs) (r : Running) → IsSettled c r → frame_due c (state_of c r) ≡ true → Meets c (state_of c r) (entries.WireIn (state_of c r).come)
may_come free c r settled due =
    let s = state_of c r in
    free (point_of c r) (entries.WireIn s.come) settled.free (ap (λ b. b && frame_due c s) (same_number s.come) ∙ due) refl refl

-- a frame that is due is there
pub is_there : (c : Inputs) (s : State) → frame_due c s ≡ true → (f : Arrival) × (slice_get c.frames s.come ≡ Some f)
is_there c s due = by (slice_get c.frames s.come) refl due
  where
    by : (f : Option Arrival) → slice_get c.frames s.come ≡ f → option_map_or (has_come_due s) f false ≡ true → (g : Arrival) × (slice_get c.frames s.come ≡ Some g)
    by None at h = absurd (cc)
    by (Some f) at h = (f, at)

-- and it is the one that is read
pub the_frame : (c : Inputs) (s : State) (frames : List Arrival) (n : ℕ) (read : Arrival) → frames ≡ c.frames → n ≡ s.come → read ≡ slice_index_or frames n read → frame_due c s ≡ true → slice_get c.frames s.come ≡ Some read
the_frame c s frames n read given come is due =
    let (f, at) = is_there c s due in
    let same : read ≡ f = is ∙ ap (λ xs. slice_index_or xs n read) given ∙ ap (λ k. slice_index_or c.frames k read) come ∙ get_or_from_slice_get c.frames s.come f read at in
    at ∙ ap Some (sym same)

pub within : (c : Inputs) (s : State) → frame_due c s ≡ true → s.come < length c.frames
within c s due = let (f, at) = is_there c s due in slice_get_within c.frames s.come f at
