use Rattle.std.proofs.Common.{◌≡◌, Bool, true, false, ◌&&◌, ◌==◌, not, reverse, sym, ap, ◌∙◌, refl}
use Rattle.std.specs.List.{list_any}
use Rattle.packet_pool.specs.declared.states.Kind.TheVariants.{Packet}
use Rattle.packet_pool.specs.LiveSet.{is_out, is_lent}
use Rattle.guest_world.specs.declared.world.World.{World}
use Rattle.call_verdicts.proofs.Walks.{among}
use Rattle.call_verdicts.proofs.frames.may_be_lent.Goals as goal

once : (o l m : Bool) → (o && (not (o && l) && not m)) ≡ (o && (not l && not m))
once true l m = refl
once false l m = refl

pub returns : goal.returns
returns g c =
    let p = c.args.packet in
    let o = is_out c.args.world.now.pools Packet p in
    let l = is_lent c.args.world.now.pools p in
    let m = list_any (λ d. d == p) (reverse c.args.before.now) in
    c.is_free.ensures
    ∙ ap (λ (b : Bool). b && (not c.lent-lent.result && not c.is_among.result)) c.has_packet-out.ensures
    ∙ ap (λ (b : Bool). o && (not b && not c.is_among.result)) c.lent-lent.ensures
    ∙ ap (λ (b : Bool). o && (not (o && l) && not b)) (c.is_among.ensures ∙ sym (among (λ d. d == p) c.args.before.now))
    ∙ once o l m
    ∙ ap (λ (w : World). is_out w.pools Packet p && (not (is_lent w.pools p) && not m)) c.requires
