-- Lists that are gathered while a file is judged, and given up where memory runs out, so that the file is judged to its end before want of
-- memory is answered.
use Rattle.std.specs.Prelude.{◌≡◌, false, List, ◌++◌, Result, Ok, Err}
use Rattle.pe_image.specs.declared.refusal.PeRefusal.{PeRefusal}
use Rattle.pe_image.specs.declared.gathered.Gathered.{Gathered}

-- the items are these, unless the list was given up
abbrev pub IsGathered : {A : Type 0} → Gathered A → List A → Type 0
IsGathered list items = list.is_lost ≡ false → list.items.items ≡ items

-- these items were put behind those that the list had
abbrev pub HasGained : {A : Type 0} → (old new : Gathered A) → List A → Type 0
HasGained old new items = (front : List _) → IsGathered old front → IsGathered new (front ++ items)

-- What a function answered, seen by view, is what a reading gives, and what is read was put behind the list. Its refusal is the reading's.
abbrev pub Gathers : {A X : Type 0} → (view : List A → X) → (old new : Gathered A) → Result X PeRefusal → Result (List A) PeRefusal → Type 0
Gathers view old new (Ok x) read = (items : List _) × (read ≡ Ok items) × (x ≡ view items) × HasGained old new items
Gathers view old new (Err e) read = read ≡ Err e

-- a new list has what a reading gives
abbrev pub IsReadInto : {A : Type 0} → Result (Gathered A) PeRefusal → Result (List A) PeRefusal → Type 0
IsReadInto (Ok list) read = (items : List _) × (read ≡ Ok items) × IsGathered list items
IsReadInto (Err e) read = read ≡ Err e

-- what a function answered, seen by view, is what a reading gives
abbrev pub Reads : {X Y : Type 0} → (view : X → Y) → Result X PeRefusal → Result Y PeRefusal → Type 0
Reads view (Ok x) read = read ≡ Ok (view x)
Reads view (Err e) read = read ≡ Err e
