use Rattle.std.proofs.Common.{Bool, sym, ap, ◌∙◌}
use Rattle.owner_machine.specs.Loans.{is_away, lent_place}
use Rattle.owner_machine.specs.Machine.{has_room, last_rule}
use Rattle.owner_rules.specs.State.{owner_of}
use Rattle.owner_rules.proofs.ledger.Ledger.last_rule.Goals as goal

pub returns-in-Indicate : goal.returns-in-Indicate
returns-in-Indicate c = c.has_room.ensures ∙ ap (λ (out : Bool). has_room (owner_of c.args.self.now) c.in-Indicate.adapter.0 out) (c.is_away.ensures ∙ ap is_away (c.lent_place-place.ensures ∙ ap (λ hs. lent_place (owner_of c.args.self.now) c.in-Indicate.adapter.0 hs c.in-Indicate.copied) c.as_slice.ensures)) ∙ sym (ap (last_rule (owner_of c.args.self.now)) c.in-Indicate.is)
