use Rattle.call_facts.proofs.Syncs.{Laws}
use Rattle.call_facts.proofs.Returning.{Grounds, due, made, replies, waiting}
use Rattle.call_facts.proofs.returns.calls_return.Goals as goal

pub returns : goal.returns
returns c =
    let laws : Laws = record { runs = c.run_laws.ensures; between = c.nothing_stands_between.ensures; entries = c.entry_laws.ensures; on = c.runs_go_on.ensures } in
    let g : Grounds = record { laws = laws; calls = c.call_laws.ensures; writes = c.write_laws.ensures; keep = c.calls_keep.ensures } in
    record { made = made g; due = due g; waiting = waiting g; replies = replies g }
