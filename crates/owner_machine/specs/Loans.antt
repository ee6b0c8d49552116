-- Loans: who holds each frame that a miniport indicated. (DDK: NdisMIndicateReceivePacket, ProtocolReceivePacket, NdisReturnPackets,
-- MiniportReturnPacket.)
use Rattle.std.specs.Prelude.{ℕ, ◌/◌, ◌%◌, Bool, true, false, ◌&&◌, ◌||◌, ◌==◌, not, cond, List, [], ◌∷◌, length, take, map, slice_set, replicate}
use Rattle.std.specs.List.{list_any}
use Rattle.std.specs.Str.{bytes_eq}
use Rattle.nd_base.specs.declared.numbers.AdapterNo.{AdapterNo}
use Rattle.nd_base.specs.declared.numbers.BindingNo.{BindingNo}
use Rattle.owner_machine.specs.declared.rows.Loan.{Loan}
use Rattle.owner_machine.specs.declared.rows.LoanPlace.{LoanPlace}
use Rattle.owner_machine.specs.declared.rows.LoanPlace.TheVariants.{Out, Due, Home}
use Rattle.owner_machine.specs.declared.rows.Driver.{Driver}
use Rattle.owner_machine.specs.declared.rows.Next.{Next}
use Rattle.owner_machine.specs.declared.rows.Next.TheVariants.{Free, Tail, GoingHome}
use Rattle.owner_machine.specs.State.{Owner, at, is_bound, numbers_from}
use Rattle.owner_machine.specs.Contexts.{in_call, serialized, indicate_receive_packet, lookahead_indicate}

-- ---- places

abbrev pub is_due : LoanPlace → Bool
is_due Due = true
is_due _ = false

abbrev pub is_away : LoanPlace → Bool
is_away Home = false
is_away _ = true

abbrev pub is_lent : LoanPlace → Bool
is_lent Out = true
is_lent _ = false

abbrev pub away_of : ℕ → Loan → Bool
away_of a l = is_away l.place && (l.adapter.0 == a)

abbrev pub due_of : ℕ → Loan → Bool
due_of a l = is_due l.place && (l.adapter.0 == a)

-- the driver holds it still
abbrev pub holds : ℕ → Loan → Bool
holds b l = is_lent l.place && at (λ h. h) l.holders b

abbrev pub away : Owner → ℕ → Bool
away o j = at (λ l. is_away l.place) o.loans j

-- ---- filters (DDK, OID_GEN_CURRENT_PACKET_FILTER, OID_802_3_MULTICAST_LIST)

-- whether a filter has the bit of this weight
abbrev pub has_bit : (filter weight : ℕ) → Bool
has_bit filter weight = (filter / weight) % 2 == 1

abbrev pub directed : ℕ
directed = 1

abbrev pub multicast : ℕ
multicast = 2

abbrev pub all_multicast : ℕ
all_multicast = 4

abbrev pub broadcast : ℕ
broadcast = 8

abbrev pub promiscuous : ℕ
promiscuous = 0x20

-- a frame's destination address
abbrev pub destination : List ℕ → List ℕ
destination bytes = take 6 bytes

abbrev pub is_broadcast : List ℕ → Bool
is_broadcast to = bytes_eq to (replicate 6 0xFF)

-- the group bit is that of the first byte's lowest bit
abbrev pub is_group : List ℕ → Bool
is_group [] = false
is_group (b ∷ _) = b % 2 == 1

-- an address is in a list of addresses of six bytes each
abbrev pub is_listed : List ℕ → List ℕ → Bool
is_listed to (a ∷ b ∷ c ∷ d ∷ e ∷ f ∷ rest) = bytes_eq (a ∷ b ∷ c ∷ d ∷ e ∷ f ∷ []) to || is_listed to rest
is_listed to _ = false

abbrev pub takes : (filter : ℕ) → (list to : List ℕ) → Bool
takes filter list to =
    has_bit filter promiscuous
    || ((has_bit filter broadcast && is_broadcast to)
    || ((has_bit filter all_multicast && (is_group to && not (is_broadcast to)))
    || ((has_bit filter multicast && is_listed to list)
    || (has_bit filter directed && not (is_group to)))))

-- the driver is bound to the adapter, and its filter takes the frame
abbrev pub wants : ℕ → List ℕ → Driver → Bool
wants a bytes d = is_bound d.binding && ((d.adapter.0 == a) && takes d.filter d.list (destination bytes))

-- the numbers of the drivers that want a frame
abbrev pub wanting : Owner → ℕ → List ℕ → List ℕ
wanting o a bytes = numbers_from 0 (wants a bytes) o.drivers

-- ---- what may stand

-- DDK, NdisMIndicateReceivePacket; by a lookahead (NdisMEthIndicateReceive) a frame is always copied. The holders are the drivers that want it
abbrev pub may_indicate : Owner → (a j : ℕ) → List ℕ → List BindingNo → Bool → Bool
may_indicate o a j bytes holders copied = (j == length o.loans) && ((in_call o a indicate_receive_packet || (copied && in_call o a lookahead_indicate)) && bytes_eq (map (λ h. h.0) holders) (wanting o a bytes))

-- a loan is Due, behind the enter of MiniportReturnPacket; or it is away at a stop, and goes back as failed
abbrev pub may_go_home : Next → Bool → Loan → Bool
may_go_home (GoingHome adapter) false l = due_of adapter.0 l
may_go_home (Tail adapter) true l = away_of adapter.0 l
may_go_home _ _ l = false

-- ---- what becomes of a loan

abbrev pub is_named : List BindingNo → ℕ → Bool
is_named holders b = list_any (λ h. h.0 == b) holders

-- of each driver, whether it is a holder
abbrev pub marks : List BindingNo → List Bool
marks holders = map (is_named holders) (0 ∷ 1 ∷ 2 ∷ 3 ∷ 4 ∷ 5 ∷ 6 ∷ 7 ∷ [])

abbrev pub nobody : List Bool
nobody = replicate 8 false

abbrev pub has_holder : List Bool → Bool
has_holder holders = list_any (λ h. h) holders

-- a loan without holders goes back at once to a serialized miniport, and by MiniportReturnPacket to a deserialized one
abbrev pub lent_place : Owner → ℕ → List BindingNo → Bool → LoanPlace
lent_place o a holders copied = cond copied Home (cond (has_holder (marks holders)) Out (cond (serialized o a) Home Due))

abbrev pub lent : Owner → AdapterNo → List BindingNo → Bool → Loan
lent o adapter holders copied = record {
  adapter = adapter;
  holders = cond copied nobody (marks holders);
  place = lent_place o adapter.0 holders copied;
}

abbrev pub gone_home : Loan → Loan
gone_home l = record l { holders = nobody; place = Home }

-- a holder returns its part: the last one's makes the loan Due
abbrev pub returned : ℕ → Loan → Loan
returned b l = let left = slice_set l.holders b false in record l { holders = left; place = cond (has_holder left) Out Due }

-- a tail goes on
abbrev pub behind_back : Next → Next
behind_back (Tail adapter) = Tail adapter
behind_back _ = Free
