-- An entry that changes the book alone leaves all that is kept but the book, and the count of what expired.
use Rattle.std.proofs.Common.{◌≡◌, Bool, true, List, refl, sym, ap, ◌∙◌, subst}
use Rattle.call_log.specs.declared.entry.Entry.{Entry}
use Rattle.call_log.specs.declared.entry.Entry.TheVariants as entries
use Rattle.call_log.specs.Logs.{State as LogState}
use Rattle.owner_machine.specs.State.{Owner}
use Rattle.owner_machine.specs.Machine.{after as owners_after}
use Rattle.legal_run.specs.Laws.{RunLaws}
use Rattle.legal_run.specs.State.{Inputs, State}
use Rattle.legal_run.specs.After.{after, expired_after, next_after}
use Rattle.legal_run.specs.Run.{Reaches}
use Rattle.miniport_state.specs.Seen.{Point, IsAt, Keeps, Logs}
use Rattle.run_moves.specs.declared.running.Running.{Running}
use Rattle.run_moves.specs.Runs.{Grows, IsRun, changes_book_alone, makes_progress, progressed}
use Rattle.run_moves.proofs.Going.{goes}
use Rattle.run_moves.proofs.Courses as courses

abbrev booked : Inputs → State → Entry → State
booked c s e = record s { owner = owners_after s.owner e; expired = expired_after s.expired e; next = next_after c s e }

is_booked : (c : Inputs) (s : State) (e : Entry) → changes_book_alone e ≡ true → after c s e ≡ booked c s e
is_booked c s (entries.Tag _ _) alone = refl
is_booked c s (entries.Hand _) alone = refl
is_booked c s (entries.Requeue _) alone = refl
is_booked c s (entries.Late _) alone = refl
is_booked c s (entries.HandAsk _) alone = refl
is_booked c s (entries.ResetBegin _) alone = refl
is_booked c s (entries.ResetEnd _ _) alone = refl
is_booked c s (entries.Port _ _ _ _ _) alone = refl
is_booked c s (entries.WireOut _ _) alone = refl
is_booked c s _ alone = absurd (cc)

kept : (o : Point) (e : Entry) (before : Running) (book : Owner) → IsAt o before.adapters before.book before.world → book ≡ owners_after o.state.owner e
    → IsAt (record { inputs = o.inputs; state = booked o.inputs o.state e }) before.adapters book before.world
kept o e before book h is = record {
  keeps = record {
    rows = h.keeps.rows;
    sixteen = h.keeps.sixteen;
    entry = h.keeps.entry;
    come = h.keeps.come;
    own = h.keeps.own;
    each = h.keeps.each;
    count = h.keeps.count;
    few = h.keeps.few;
    small = h.keeps.small;
    levels = h.keeps.levels;
    most = h.keeps.most;
    begins = h.keeps.begins;
    ends = h.keeps.ends;
  };
  owner = is;
  world = h.world;
}

pub noted : RunLaws → (o : Point) (e : Entry) (before : Running) (book : Owner) (log : LogState) → IsRun o before → changes_book_alone e ≡ true → Logs o e before.log log
    → book ≡ owners_after o.state.owner e → Grows o e before (record before { book = book; log = log; course = record before.course { expired = progressed before.course.expired (makes_progress e) } })
noted laws o e before book log run alone logs is = record {
  run = record {
    reaches = subst (λ (es : List Entry). Reaches o.inputs es (after o.inputs o.state e)) (sym logs.written) (goes laws o.inputs o.state e before.log.entries run.reaches logs.meets);
    kept = subst (λ (s : State). IsAt (record { inputs = o.inputs; state = s }) before.adapters book before.world) (sym (is_booked o.inputs o.state e alone)) (kept o e before book run.kept is);
    shown = courses.noted o.inputs o.state e before.course alone run.shown;
  };
  written = logs.written;
  spare = logs.spare;
}
