-- The loan goes home that MiniportReturnPacket was entered for.
use Rattle.std.proofs.Common.{◌≡◌, ℕ, ◌+◌, ◌≤◌, true, false, not, List, [], ◌∷◌, ◌++◌, Some, None, refl, sym, ap, ◌∙◌, append_assoc}
use Rattle.std.specs.Prelude.{filter, is_some, slice_index_or, ◌==◌}
use Rattle.std.specs.Option.{option_map, option_or}
use Rattle.nd_base.specs.declared.numbers.AdapterNo.{AdapterNo}
use Rattle.nd_base.specs.declared.numbers.CtxNo.{CtxNo}
use Rattle.nd_base.specs.declared.numbers.LoanNo.{LoanNo}
use Rattle.packet_pool.specs.LiveSet.{is_out}
use Rattle.packet_pool.specs.declared.states.Kind.TheVariants.{Packet}
use Rattle.log_fields.specs.declared.write.Write.{Write}
use Rattle.log_fields.specs.declared.field_values.Handler.TheVariants as handler
use Rattle.call_log.specs.declared.entry.Entry.{Entry}
use Rattle.call_log.specs.declared.entry.Entry.TheVariants as entries
use Rattle.import_answers.specs.World.{word}
use Rattle.owner_book.specs.Stopping.{stop_room}
use Rattle.owner_machine.specs.declared.rows.Next.{Next as OwnerNext}
use Rattle.owner_machine.specs.declared.rows.Next.TheVariants.{GoingHome}
use Rattle.owner_machine.specs.State.{Owner, numbers_from}
use Rattle.owner_machine.specs.Loans.{behind_back, due_of}
use Rattle.owner_machine.specs.Must.{must_behind, owner_must}
use Rattle.legal_run.specs.State.{Inputs, State, Next, Takes, is_free}
use Rattle.legal_run.specs.Owed.{first, frame_due}
use Rattle.legal_run.specs.Enters.{carries, has_subject, loan_named}
use Rattle.legal_run.specs.After.{after, popped, takes}
use Rattle.legal_run.specs.Must.{Exactly, Owes, must, next_must, taken_first}
use Rattle.legal_run.specs.Run.{Meets, now}
use Rattle.run_duties.specs.Laws.{ServedLaws}
use Rattle.loan_facts.specs.Lent.{BackIsLive}
use Rattle.handler_entries.specs.declared.enters.Entering.{Entering}
use Rattle.handler_entries.specs.Entries.{entry_of}
use Rattle.handler_words.specs.Ready.{IsReady}
use Rattle.run_moves.specs.Runs.{Grows, lent_at}
use Rattle.run_moves.specs.declared.running.Running.{Running}
use Rattle.run_stops.specs.Standing.{Adds, IsSettled, MovesAdd, StatesAreFree, point_of, state_of}
use Rattle.run_stops.specs.Stopping.{owner_of}
use Rattle.stop_rooms.specs.Rooms.{RoomsStay}
use Rattle.run_enters.specs.Entered.{EntersBy}
use Rattle.run_enters.proofs.Handed.{left_behind}
use Rattle.run_enters.proofs.May.{of_run}
use Rattle.run_enters.proofs.Settling.{and_first, and_second, fed_by, none, room_behind, settles}
use Rattle.run_enters.proofs.Unasked.{added_as}

-- ---- the loan that the words name

pub has_named : (c : Inputs) (s : State) (a : AdapterNo) (x : CtxNo) (words : List ℕ) (writes : List Write) → carries c s a.0 x.0 handler.ReturnPacket words writes ≡ true
    → is_some (loan_named s a.0 (0 ∷ word words 2 ∷ [])) ≡ true
has_named c s a x words writes h = and_first (has_subject s a.0 handler.ReturnPacket words) _ (and_second (not (frame_due c s)) _ (and_second (is_free s x.0) _ h))

same_named : (s : State) (a : ℕ) (words : List ℕ) → loan_named s a words ≡ loan_named s a (0 ∷ word words 2 ∷ [])
same_named s a words = refl

-- ---- what must stand behind the `enter`, and behind the loan

must_taken : (s : State) (e : Entry) → s.next ≡ Takes e → must s ≡ Some (Exactly e)
unfolding must
must_taken s e is = ap (λ (n : Next). option_or (taken_first n) (option_or (option_map Owes (owner_must s.owner)) (next_must n))) is

next_taken : (c : Inputs) (a : AdapterNo) (x : CtxNo) (e : Entering) (loan : LoanNo) (before m : Running) → Adds c (entries.Enter (Some a) x handler.ReturnPacket e.words e.writes) before m
    → loan_named (state_of c before) a.0 (0 ∷ word e.words 2 ∷ []) ≡ Some loan.0 → (state_of c m).next ≡ Takes (entries.Back loan false)
next_taken c a x e loan before m added named = ap (λ (t : State). t.next) added.state ∙ ap takes (same_named (state_of c before) a.0 e.words ∙ named)

goes_quiet : (c : Inputs) (s : State) (a : AdapterNo) (loan : LoanNo) → s.owner.next ≡ GoingHome a → owner_must (after c s (entries.Back loan false)).owner ≡ None
goes_quiet c s a loan is = ap (λ (n : OwnerNext). must_behind (after c s (entries.Back loan false)).owner (behind_back n)) is

pub may_go : ServedLaws → MovesAdd → (c : Inputs) (a : AdapterNo) (x : CtxNo) (e : Entering) (loan : LoanNo) (before m : Running) → IsReady (point_of c before) (Some a) x handler.ReturnPacket e
    → Grows (point_of c before) (entry_of x e) before m → loan_named (state_of c before) a.0 (0 ∷ word e.words 2 ∷ []) ≡ Some loan.0 → Meets c (state_of c m) (entries.Back loan false)
may_go laws moves c a x e loan before m ready grown named =
    let added = added_as moves c (Some a) x handler.ReturnPacket e before m ready.adapter ready.handler grown in
    laws.entries c m.log.entries (entries.Back loan false) added.runs.reaches.run (must_taken (state_of c m) (entries.Back loan false) (next_taken c a x e loan before m added named))

pub lives : BackIsLive → MovesAdd → (c : Inputs) (x : CtxNo) (e : Entering) (loan : LoanNo) (before m : Running) → Grows (point_of c before) (entry_of x e) before m → Meets c (state_of c m) (entries.Back loan false)
    → is_out (state_of c m).world.pools Packet (lent_at (state_of c m) loan.0) ≡ true
lives live moves c x e loan before m grown may = (live c (state_of c m) loan false (of_run c m (moves c (entry_of x e) before m grown).runs) may).out

-- ---- whole

pub home : ServedLaws → MovesAdd → StatesAreFree → RoomsStay → (c : Inputs) (a : AdapterNo) (x : CtxNo) (e : Entering) (loan : LoanNo) (before m r : Running)
    → IsSettled c before → stop_room (owner_of c before) + 3 ≤ before.log.spare → IsReady (point_of c before) (Some a) x handler.ReturnPacket e → Meets c (state_of c before) (entry_of x e)
    → Grows (point_of c before) (entry_of x e) before m → loan_named (state_of c before) a.0 (0 ∷ word e.words 2 ∷ []) ≡ Some loan.0 → Grows (point_of c m) (entries.Back loan false) m r
    → EntersBy c (Some a) x handler.ReturnPacket before r
home laws moves free rooms c a x e loan before m r settled room ready meets grown named gone =
    let entry : Entry = entries.Enter (Some a) x handler.ReturnPacket e.words e.writes in
    let back : Entry = entries.Back loan false in
    let first = added_as moves c (Some a) x handler.ReturnPacket e before m ready.adapter ready.handler grown in
    let second = moves c back m r gone in
    let may = may_go laws moves c a x e loan before m ready grown named in
    let left = room_behind rooms c back m r 1 first.runs may refl second (left_behind rooms moves c (Some a) x handler.ReturnPacket e before m settled room ready meets grown) in
    let going : (state_of c m).owner.next ≡ GoingHome a = ap (λ (t : State). t.owner.next) first.state in
    record {
      settled = settles c back m r 1 second (free (after c (state_of c m) back) (ap popped (next_taken c a x e loan before m first named)) (goes_quiet c (state_of c m) a loan going)) (fed_by c back m r second (fed_by c entry before m first settled.fed refl) refl) left;
      words = e.words;
      writes = e.writes;
      carried = ap (λ (es : List Entry). carries c (now c es) a.0 x.0 handler.ReturnPacket e.words e.writes) (sym (none before.log.entries)) ∙ ready.carried;
      more = back ∷ [];
      forced = refl;
      written = second.written ∙ ap (λ (es : List Entry). es ++ back ∷ []) first.written ∙ append_assoc before.log.entries (entry ∷ []) (back ∷ []);
    }

-- what is kept names the same loan
pub kept_named : (s t : State) (a d e : ℕ) → s.owner ≡ t.owner → s.lent ≡ t.lent → d ≡ e → loan_named s a (0 ∷ d ∷ []) ≡ loan_named t a (0 ∷ e ∷ [])
kept_named s t a d e owner lent same =
    ap (λ (o : Owner). first (filter (λ j. slice_index_or s.lent j 0 == d) (numbers_from 0 (due_of a) o.loans))) owner
    ∙ ap (λ (xs : List ℕ). first (filter (λ j. slice_index_or xs j 0 == d) (numbers_from 0 (due_of a) t.owner.loans))) lent
    ∙ ap (λ (n : ℕ). first (filter (λ j. slice_index_or t.lent j 0 == n) (numbers_from 0 (due_of a) t.owner.loans))) same
