-- Which bytes are a file of which frames, and which are a file with which fault.
use Rattle.std.specs.Prelude.{◌≡◌, ◌≢◌, ℕ, ◌+◌, ◌-◌, ◌*◌, ◌^◌, ◌<◌, ◌≤◌, IsTrue, false, List, [], ◌∷◌, ◌++◌, length, map, ◌⊎◌}
use Rattle.std.specs.List.{flat_map, AllByRecursion}
use Rattle.frame_wire.specs.declared.order.Order.{Order}
use Rattle.frame_wire.specs.declared.order.Order.TheVariants.{Little}
use Rattle.frame_wire.specs.declared.arrival.Arrival.{Arrival}
use Rattle.frame_wire.specs.declared.refusal.WireRefusal.{WireRefusal}
use Rattle.frame_wire.specs.declared.refusal.WireRefusal.TheVariants.{OutOfMemory, TooLong, BadHeader, LinkType, CutShort, Length, Backwards}
use Rattle.frame_wire.specs.Entries.{number, magic, Entry, spelling, time, IsWhole, has_good_length, arrival, entry}

-- the magic number, sixteen bytes of version, zone, accuracy and snap length, and the link type
unfoldable pub header : Order → List ℕ → ℕ → List ℕ
header order other link = number order magic ++ (other ++ number order link)

unfoldable pub spellings : Order → List Entry → List ℕ
spellings order es = flat_map (spelling order) es

-- no time is before the one in front of it, nor the first before last
abbrev pub DoNotFall : ℕ → List Entry → Type 0
DoNotFall last [] = Unit {0}
DoNotFall last (e ∷ es) = (last ≤ time e) × DoNotFall (time e) es

-- the time of the last entry, where there is one, and else the time last
abbrev pub last_time : ℕ → List Entry → ℕ
last_time last [] = last
last_time last (e ∷ es) = last_time (time e) es

-- the time of the first entry, or 0 where there is none
abbrev pub start_time : List Entry → ℕ
start_time [] = 0
start_time (e ∷ es) = time e

abbrev pub IsGood : Entry → Type 0
IsGood e = IsWhole e × IsTrue (has_good_length e)

-- a good front of a file: a header of link type 1, and entries
pub record IsFront (order : Order) (other : List ℕ) (es : List Entry) : Type 0 where
  pub other_len : length other ≡ 16
  pub good : AllByRecursion IsGood es
  pub rising : DoNotFall 0 es
  pub count : length es ≤ 65536

abbrev pub front : Order → List ℕ → List Entry → List ℕ
front order other es = header order other 1 ++ spellings order es

-- the bytes are a file of the frames, in either byte order, with any version, zone, accuracy, snap length and first time
abbrev pub IsSpelled : List ℕ → List Arrival → Type 0
IsSpelled bytes frames = (length bytes ≤ 134217728) × ((order : Order) × (other : List ℕ) × (es : List Entry) × IsFront order other es × (bytes ≡ front order other es) × (frames ≡ map (arrival (start_time es)) es))

-- the bytes are a good front, at whose end they go on as Rest says
abbrev pub GoesOn : List ℕ → (Order → List ℕ → List Entry → List ℕ → Type 0) → Type 0
GoesOn bytes Rest = (length bytes ≤ 134217728) × ((order : Order) × (other : List ℕ) × (es : List Entry) × (rest : List ℕ) × IsFront order other es × (bytes ≡ front order other es ++ rest) × (rest ≢ []) × Rest order other es rest)

-- behind a good front of fewer than 65,536 entries, at its end, an entry is wanted and stands as Fault says
abbrev pub FaultAt : List ℕ → ℕ → (Order → List Entry → List ℕ → Type 0) → Type 0
FaultAt bytes at Fault = GoesOn bytes (λ order other es rest. (length es < 65536) × (at ≡ length (front order other es)) × Fault order es rest)

-- no entry with all its bytes is in front
abbrev pub IsCutShort : Order → List ℕ → Type 0
IsCutShort order rest = (e : Entry) (more : List ℕ) → IsWhole e → rest ≡ spelling order e ++ more → ⊥

abbrev pub HasBadLength : Order → List ℕ → Type 0
HasBadLength order rest = (e : Entry) × (more : List ℕ) × IsWhole e × (rest ≡ spelling order e ++ more) × (has_good_length e ≡ false)

abbrev pub GoesBack : Order → ℕ → List ℕ → Type 0
GoesBack order last rest = (e : Entry) × (more : List ℕ) × IsGood e × (rest ≡ spelling order e ++ more) × (time e < last)

-- the first fault of the bytes
abbrev pub IsRefused : List ℕ → WireRefusal → Type 0
IsRefused bytes OutOfMemory = ⊥
IsRefused bytes TooLong = (134217728 < length bytes) ⊎ GoesOn bytes (λ order other es rest. length es ≡ 65536)
IsRefused bytes BadHeader = (length bytes ≤ 134217728) × ((order : Order) (rest : List ℕ) → 20 ≤ length rest → bytes ≡ number order magic ++ rest → ⊥)
IsRefused bytes (LinkType n) = (length bytes ≤ 134217728) × (n < 2 ^ 32) × (n ≢ 1) × ((order : Order) × (other : List ℕ) × (rest : List ℕ) × (length other ≡ 16) × (bytes ≡ header order other n ++ rest))
IsRefused bytes (CutShort at) = FaultAt bytes at (λ order es rest. IsCutShort order rest)
IsRefused bytes (Length at) = FaultAt bytes at (λ order es rest. HasBadLength order rest)
IsRefused bytes (Backwards at) = FaultAt bytes at (λ order es rest. GoesBack order (last_time 0 es) rest)

-- version 2.4, no zone, no accuracy, a snap length of 65,535
abbrev pub usual : List ℕ
usual = 2 ∷ 0 ∷ 4 ∷ 0 ∷ 0 ∷ 0 ∷ 0 ∷ 0 ∷ 0 ∷ 0 ∷ 0 ∷ 0 ∷ 255 ∷ 255 ∷ 0 ∷ 0 ∷ []

-- the file that frames are written as
abbrev pub written : List Arrival → List ℕ
written fs = header Little usual 1 ++ flat_map (λ f. spelling Little (entry f)) fs

-- the stamp of the first frame
abbrev pub start_stamp : List Arrival → ℕ
start_stamp [] = 0
start_stamp (f ∷ fs) = f.stamp

-- all stamps moved by one number, so that the first is 1,000,000
abbrev pub rebased : List Arrival → List Arrival
rebased fs = map (λ f. record { stamp = 1000000 + (f.stamp - start_stamp fs); bytes = f.bytes }) fs

abbrev pub StampsDoNotFall : ℕ → List Arrival → Type 0
StampsDoNotFall last [] = Unit {0}
StampsDoNotFall last (f ∷ fs) = (last ≤ f.stamp) × StampsDoNotFall f.stamp fs

-- 14 to 1,514 bytes
abbrev pub IsEthernetLong : Arrival → Type 0
IsEthernetLong f = (14 ≤ length f.bytes) × (length f.bytes ≤ 1514)

-- the first frame, where there is one, has this stamp
abbrev pub StartsAt : ℕ → List Arrival → Type 0
StartsAt stamp [] = Unit {0}
StartsAt stamp (f ∷ fs) = f.stamp ≡ stamp

-- an Ethernet frame with a stamp below a bound
pub record IsFrameBelow (bound : ℕ) (f : Arrival) : Type 0 where
  pub length_fits : IsEthernetLong f
  pub stamp : f.stamp < bound

-- at most 65,536 Ethernet frames, whose stamps do not fall and are below a bound
pub record AreFramesBelow (bound : ℕ) (fs : List Arrival) : Type 0 where
  pub fits : AllByRecursion (IsFrameBelow bound) fs
  pub rising : StampsDoNotFall 0 fs
  pub count : length fs ≤ 65536

-- what a file can hold: stamps below 2^32 seconds
abbrev pub CanReturn : List Arrival → Type 0
CanReturn fs = AreFramesBelow (2 ^ 32 * 1000000) fs

-- what a wire can bring
abbrev pub CanArrive : List Arrival → Type 0
CanArrive fs = AreFramesBelow (2 ^ 52) fs
