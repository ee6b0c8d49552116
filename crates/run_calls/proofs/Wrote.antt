-- An entry that a call makes was written.
use Rattle.std.proofs.Common.{◌≡◌, true, List, [], ◌∷◌, ◌++◌, refl, sym, ap, ◌∙◌, subst}
use Rattle.call_log.specs.declared.entry.Entry.{Entry}
use Rattle.call_log.specs.declared.entry.Entry.TheVariants as entries
use Rattle.call_log.specs.Logs.{State as LogState}
use Rattle.owner_machine.specs.State.{Owner}
use Rattle.owner_machine.specs.Machine as owners
use Rattle.legal_run.specs.Laws.{RunLaws}
use Rattle.legal_run.specs.State.{Inputs, State}
use Rattle.legal_run.specs.After.{after}
use Rattle.legal_run.specs.Run.{Meets, Reaches}
use Rattle.miniport_state.specs.Seen.{Keeps, Logs, Point}
use Rattle.miniport_state.specs.declared.adapters.Adapters.{Adapters}
use Rattle.run_course.specs.Shown.{Shows}
use Rattle.run_course.specs.declared.course.Course.{Course}
use Rattle.run_moves.specs.declared.running.Running.{Running}
use Rattle.run_moves.specs.Runs.{IsAnswering}
use Rattle.run_calls.specs.Answering.{Continues, is_light, told_of}

goes : RunLaws → (c : Inputs) (s : State) (e : Entry) (log : List Entry) → Reaches c log s → Meets c s e → Reaches c (log ++ e ∷ []) (after c s e)
goes laws c s e log reaches meets = record {
  run = (laws.more c log e).1 (reaches.run, subst (λ (t : State). Meets c t e) (sym reaches.state) meets);
  state = laws.next c log e ∙ ap (λ t. after c t e) reaches.state;
}

rebuilt : (c : Inputs) (s t : State) (m : Adapters) → t.contexts ≡ s.contexts → t.entrance ≡ s.entrance → t.adapters ≡ s.adapters → t.charged ≡ s.charged → t.charges ≡ s.charges → Keeps c s m → Keeps c t m
rebuilt c s t m one two three four five k = record {
  rows = k.rows ∙ sym one;
  sixteen = k.sixteen;
  entry = k.entry ∙ sym two;
  come = k.come ∙ sym three;
  own = k.own ∙ sym four;
  each = k.each ∙ sym five;
  count = k.count;
  few = k.few;
  small = k.small;
  levels = k.levels;
  most = k.most;
  begins = k.begins;
  ends = k.ends;
}

keeps_behind : (c : Inputs) (s : State) (e : Entry) (m : Adapters) → is_light e ≡ true → Keeps c s m → Keeps c (after c s e) m
keeps_behind c s (entries.Complete packet status) m light k = rebuilt c s _ m refl refl refl refl refl k
keeps_behind c s (entries.Late packet) m light k = rebuilt c s _ m refl refl refl refl refl k
keeps_behind c s (entries.Port a way size port bytes) m light k = rebuilt c s _ m refl refl refl refl refl k
keeps_behind c s (entries.WireOut a bytes) m light k = rebuilt c s _ m refl refl refl refl refl k
keeps_behind c s _ m light k = absurd (cc)

owner_behind : (c : Inputs) (s : State) (e : Entry) → is_light e ≡ true → owners.after s.owner e ≡ (after c s e).owner
owner_behind c s (entries.Complete packet status) light = refl
owner_behind c s (entries.Late packet) light = refl
owner_behind c s (entries.Port a way size port bytes) light = refl
owner_behind c s (entries.WireOut a bytes) light = refl
owner_behind c s _ light = absurd (cc)

shown_by : (s t : State) (k : Course) → t.drivers ≡ s.drivers → t.packets ≡ s.packets → t.lent ≡ s.lent → t.come ≡ s.come → t.expired ≡ s.expired → Shows s k → Shows t k
shown_by s t k one two three four five shown = record {
  hearings = shown.hearings ∙ sym one;
  frames = shown.frames ∙ sym two;
  loans = shown.loans ∙ sym three;
  arrivals = shown.arrivals ∙ sym four;
  expirations = shown.expirations ∙ sym five;
}

shown_behind : (c : Inputs) (s : State) (e : Entry) (k : Course) → is_light e ≡ true → Shows (told_of s e) k → Shows (after c s e) k
shown_behind c s (entries.Complete packet status) k light shown = shown_by (told_of s (entries.Complete packet status)) _ k refl refl refl refl refl shown
shown_behind c s (entries.Late packet) k light shown = shown_by s _ k refl refl refl refl refl shown
shown_behind c s (entries.Port a way size port bytes) k light shown = shown_by s _ k refl refl refl refl refl shown
shown_behind c s (entries.WireOut a bytes) k light shown = shown_by (told_of s (entries.WireOut a bytes)) _ k refl refl refl refl refl shown
shown_behind c s _ k light shown = absurd (cc)

pub wrote : RunLaws → (o : Point) (e : Entry) (before : Running) (book : Owner) (log : LogState) (course : Course) → IsAnswering o before → is_light e ≡ true → Logs o e before.log log → book ≡ owners.after o.state.owner e
    → Shows (told_of o.state e) course → Continues o e before (record { adapters = before.adapters; book = book; world = before.world; log = log; course = course })
wrote laws o e before book log course run light logs is shown = record {
  run = record {
    reaches = subst (λ (es : List Entry). Reaches o.inputs es (after o.inputs o.state e)) (sym logs.written) (goes laws o.inputs o.state e before.log.entries run.reaches logs.meets);
    keeps = keeps_behind o.inputs o.state e before.adapters light run.keeps;
    owner = is ∙ owner_behind o.inputs o.state e light;
    shown = shown_behind o.inputs o.state e course light shown;
  };
  world = refl;
  written = logs.written;
  spare = logs.spare;
}
