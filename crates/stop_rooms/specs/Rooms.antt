-- The room that it takes to stop every adapter, behind an entry. (What a stop ends: crates/owner_machine/specs/Must.antt; the room:
-- crates/owner_book/specs/Stopping.antt; the project's own, docs/LEGAL-RUN.md.)
use Rattle.std.specs.Prelude.{◌≡◌, ◌≤◌, ◌+◌, Bool, true, false, List}
use Rattle.call_log.specs.declared.entry.Entry.{Entry}
use Rattle.call_log.specs.declared.entry.Entry.TheVariants as entries
use Rattle.owner_book.specs.Stopping.{stop_room}
use Rattle.legal_run.specs.State.{Inputs}
use Rattle.legal_run.specs.After.{after}
use Rattle.legal_run.specs.Run.{Meets, Run, now}

-- the kinds by which a packet, a loan or a request becomes outstanding
abbrev pub needs_room : Entry → Bool
needs_room (entries.Send _ _ _) = true
needs_room (entries.Indicate _ _ _ _ _) = true
needs_room (entries.Ask _ _ _) = true
needs_room _ = false

pub record RoomsStay : Type 0 where
  -- every other kind takes no room
  pub stays : (c : Inputs) (log : List Entry) (e : Entry) → Run c log → Meets c (now c log) e → needs_room e ≡ false → stop_room (after c (now c log) e).owner ≤ stop_room (now c log).owner
  -- and these take the room of one ending
  pub grows : (c : Inputs) (log : List Entry) (e : Entry) → Run c log → Meets c (now c log) e → stop_room (after c (now c log) e).owner ≤ stop_room (now c log).owner + 1
