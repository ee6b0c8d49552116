-- Where memory is wanted, nothing but a card has changed.
use Rattle.std.proofs.Common.{◌≡◌, ℕ, List, Option, None, Some, slice_set, slice_index_or, refl, sym, ap}
use Rattle.std.proofs.lemmas.List.{set-get_or}
use Rattle.nd_base.specs.declared.numbers.AdapterNo.{AdapterNo}
use Rattle.guest_world.specs.declared.adapters.Adapter.{Adapter}
use Rattle.guest_world.specs.declared.world.World.{World}
use Rattle.guest_world.specs.Worlds.{adapter_of, changed}
use Rattle.import_answers.specs.Ports.{card_of, card_in}
use Rattle.calls_ports.specs.Cards.{ChangesCard}

set_same : (adapters : List (Option Adapter)) (place : ℕ) (part : Adapter) → slice_index_or adapters place None ≡ Some part → slice_set adapters place (Some part) ≡ adapters
set_same adapters place part is = rw (← is) (set-get_or adapters place None)

kept_card : (w : World) (place : ℕ) (found : Option Adapter) → slice_index_or w.adapters place None ≡ found → changed w place (λ adapter. record adapter { card = card_in found }) found ≡ w
kept_card w place None is = refl
kept_card w place (Some part) is = ap (λ adapters. record w { adapters = adapters }) (set_same w.adapters place part is)

-- a card that stays is a card that may have changed
pub card_stays : (w : World) (adapter : Option AdapterNo) → ChangesCard adapter w w
card_stays w None = (card_of w None, refl)
card_stays w (Some a) = (card_of w (Some a), sym (kept_card w a.0 (adapter_of w (Some a)) refl))
