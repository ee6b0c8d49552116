-- The width of an access to a port, and the card that accesses change.
use Rattle.std.specs.Prelude.{◌≡◌, ℕ, Option, None, Some, IsSome, ⊤}
use Rattle.nd_base.specs.declared.numbers.AdapterNo.{AdapterNo}
use Rattle.dp8390.specs.declared.board.Board.{Board}
use Rattle.guest_world.specs.declared.world.World.{World}
use Rattle.guest_world.specs.Worlds.{adapter_of}
use Rattle.import_answers.specs.Ports.{with_card}
use Rattle.calls_ports.specs.declared.width.Width.{Width}
use Rattle.calls_ports.specs.declared.width.Width.TheVariants.{Byte, Word}

abbrev pub bytes_of : Width → ℕ
bytes_of Byte = 1
bytes_of Word = 2

-- the caller's adapter is one of the world's
abbrev pub HasAdapter : World → Option AdapterNo → Type 0
HasAdapter w None = ⊤
HasAdapter w (Some a) = IsSome (adapter_of w (Some a))

-- nothing but the adapter's card has changed
abbrev pub ChangesCard : Option AdapterNo → World → World → Type 0
ChangesCard adapter before after = (card : Board) × (after ≡ with_card before adapter card)
