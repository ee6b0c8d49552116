use Rattle.std.proofs.Common.{◌≡◌, sym, ap, ◌∙◌, Option, false, true, arith}
use Rattle.std.specs.Option.{option_map_or}
use Rattle.owner_machine.specs.State.{at, numbers_from}
use Rattle.owner_rows.specs.Kept.{packet_in_slot}
use Rattle.owner_machine.specs.declared.rows.Packet.{Packet}
use Rattle.owner_rows.specs.Which.{which_packets}
use Rattle.owner_rows.proofs.Rows.{first_found, first_none}
use Rattle.owner_rows.proofs.KeptRows.{first_packet}
use Rattle.owner_rows.proofs.packets.Packets.first.Goals as goal

pub returns-then-has : goal.returns-then-has
returns-then-has c =
    let found : at (which_packets c.args.which) c.args.self.now c.at-k.result ≡ true = ap (λ (o : Option Packet). option_map_or (which_packets c.args.which) o false) (sym c.in-Some.ensures) ∙ sym c.has.ensures ∙ c.if-has.true in
    sym (first_found (which_packets c.args.which) c.args.self.now c.self.inside.live c.loop-i.i c.at-k.result (omega arith) c.at-k.ensures found) ∙ sym c.loop-i.invariant ∙ first_packet c.args.which c.args.self.now c.self.inside.live (c.self.invariant.numbers ∙ ap (λ rows. numbers_from 0 packet_in_slot rows) c.self.view_is)

pub returns : goal.returns
returns c = sym (first_none (which_packets c.args.which) c.args.self.now c.self.inside.live c.loop-i.i (omega arith)) ∙ sym c.loop-i.invariant ∙ first_packet c.args.which c.args.self.now c.self.inside.live (c.self.invariant.numbers ∙ ap (λ rows. numbers_from 0 packet_in_slot rows) c.self.view_is)
