-- Reading from left to right, with the first fault that is met.
use Rattle.std.specs.Prelude.{ℕ, zero, suc, ◌+◌, ◌-◌, not, List, [], ◌∷◌, length, take, drop, Option, Some, None, Result, Ok, Err, nat_lt, ◌==◌, if◌then◌else◌}
use Rattle.nd_base.specs.Results.{◌>>=◌}
use Rattle.frame_wire.specs.declared.entry.Entry as code
use Rattle.frame_wire.specs.declared.order.Order.{Order}
use Rattle.frame_wire.specs.declared.order.Order.TheVariants.{Little, Big}
use Rattle.frame_wire.specs.declared.arrival.Arrival.{Arrival}
use Rattle.frame_wire.specs.declared.refusal.WireRefusal.{WireRefusal}
use Rattle.frame_wire.specs.declared.refusal.WireRefusal.TheVariants.{TooLong, BadHeader, LinkType, CutShort, Length, Backwards}
use Rattle.frame_wire.specs.Entries.{value, field, magic, Entry, time, has_good_length, arrival}

-- an entry without where its frame lies
abbrev pub seen : code.Entry → Entry
seen e = record { seconds = e.seconds; microseconds = e.microseconds; included = e.included; original = e.original; frame = e.frame.now }

-- the byte order in which the magic number stands in front of 20 more bytes
abbrev pub order_of : List ℕ → Option Order
order_of bytes = if nat_lt (length bytes) 24 then None else if value Little (field 0 bytes) == magic then Some Little else if value Big (field 0 bytes) == magic then Some Big else None

-- the entry in front, where its bytes are there, and the bytes behind it
unfoldable pub whole_at : Order → List ℕ → Option (Entry × List ℕ)
whole_at order bytes =
    if nat_lt (length bytes) 16 then None
    else if nat_lt (length (drop 16 bytes)) (value order (field 8 bytes)) then None
    else Some (record { seconds = value order (field 0 bytes); microseconds = value order (field 4 bytes); included = value order (field 8 bytes); original = value order (field 12 bytes); frame = take (value order (field 8 bytes)) (drop 16 bytes) }, drop (value order (field 8 bytes)) (drop 16 bytes))

-- what is taken of the entry in front, which lies at an offset behind an entry of the time last
abbrev pub judged : ℕ → ℕ → Option (Entry × List ℕ) → Result (Entry × List ℕ) WireRefusal
judged at last None = Err (CutShort at)
judged at last (Some x) = if not (has_good_length x.0) then Err (Length at) else if nat_lt (time x.0) last then Err (Backwards at) else Ok x

abbrev pub first_time : Order → List ℕ → ℕ
first_time order bytes = if nat_lt (length bytes) 16 then 0 else time (record { seconds = value order (field 0 bytes); microseconds = value order (field 4 bytes); included = 0; original = 0; frame = [] })

-- at most n entries, of which the first lies at an offset behind an entry of the time last
unfoldable pub frames_from : Order → ℕ → ℕ → ℕ → ℕ → List ℕ → Result (List Arrival) WireRefusal
frames_from order first last at n [] = Ok []
frames_from order first last at zero (b ∷ bytes) = Err TooLong
frames_from order first last at (suc n) (b ∷ bytes) = do
  x ← judged at last (whole_at order (b ∷ bytes))
  others ← frames_from order first (time x.0) (at + (suc (length bytes) - length x.1)) n x.1
  Ok (arrival first x.0 ∷ others)

-- the entries behind the header
abbrev pub entries_of : Order → List ℕ → Result (List Arrival) WireRefusal
entries_of order bytes = frames_from order (first_time order bytes) (first_time order bytes) 24 65536 bytes

-- how many there are
abbrev pub count_of : Result (List Arrival) WireRefusal → Result ℕ WireRefusal
count_of (Ok fs) = Ok (length fs)
count_of (Err e) = Err e

-- the link type of a file in a byte order is that of Ethernet
abbrev pub with_link : Option Order → List ℕ → Result Order WireRefusal
with_link None bytes = Err BadHeader
with_link (Some order) bytes = if value order (field 20 bytes) == 1 then Ok order else Err (LinkType (value order (field 20 bytes)))

-- the byte order of a file that is not too long and has the header of an Ethernet capture
abbrev pub header_of : List ℕ → Result Order WireRefusal
header_of bytes = if nat_lt 134217728 (length bytes) then Err TooLong else with_link (order_of bytes) bytes

unfoldable pub reading : List ℕ → Result (List Arrival) WireRefusal
reading bytes = header_of bytes >>= λ order. entries_of order (drop 24 bytes)
