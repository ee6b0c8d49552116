-- Entries that stand by themselves.
use Rattle.std.specs.Prelude.{◌≡◌, true, None}
use Rattle.call_log.specs.declared.entry.Entry.{Entry}
use Rattle.owner_machine.specs.Machine.{has_case, last_rule}
use Rattle.legal_run.specs.Must.{must}
use Rattle.legal_run.specs.Run.{Meets, freely}
use Rattle.miniport_state.specs.Seen.{Point}

-- where nothing must stand next, and the owner machine has a case for it
abbrev pub FreeEntriesStand : Type 0
FreeEntriesStand =
    (o : Point) (e : Entry) → must o.state ≡ None → freely o.inputs o.state e ≡ true → has_case o.state.owner e ≡ true → last_rule o.state.owner e ≡ None → Meets o.inputs o.state e
