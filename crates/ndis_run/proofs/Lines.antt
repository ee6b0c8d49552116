-- How lines are printed, from what each write leaves.
use Rattle.std.proofs.Common.{◌≡◌, ℕ, ◌≤◌, inl, inr, List, [], Option, Some, ◌++◌, take, length, codes, zero-le, sym, ap, ◌∙◌, arith, refl, subst}
use Rattle.std.proofs.lemmas.List.{append-nil}
use Rattle.ndis_run.specs.Devices.{Output}
use Rattle.ndis_run.specs.Printed.{memory_line, write_line}
use Rattle.ndis_run.specs.Prints.{Prints, whole, failed, no_memory, Tells, TellsMemory}
use Rattle.ndis_run.specs.Transfer.{Adds, AddsFront, AddsFronts}

-- a front of a line, and then a front of another
pub fronts_of : (before mid after : Option (List ℕ)) (line last : List ℕ) → AddsFront before mid line → AddsFront mid after last → AddsFronts before after line last
fronts_of before mid after line last of_line of_last = λ first is.
    let a = of_line first is in
    let b = of_last _ a.2 in
    (a.0, b.0, a.1, b.1, b.2)

-- where nothing of the line was printed
pub last_alone : (before after : Option (List ℕ)) (line last : List ℕ) → AddsFront before after last → AddsFronts before after line last
last_alone before after line last of_last = λ first is.
    let b = of_last first is in
    (0, b.0, zero-le, b.1, b.2 ∙ ap (λ xs. Some (xs ++ take b.0 last)) (sym (append-nil first)))

-- where nothing is printed behind the line
pub first_alone : (before after : Option (List ℕ)) (line : List ℕ) → AddsFront before after line → AddsFronts before after line []
first_alone before after line of_line = λ first is.
    let a = of_line first is in
    (a.0, 0, a.1, zero-le, a.2 ∙ ap Some (sym (append-nil _)))

-- memory was wanted before the line could be printed
pub forgotten : (line tried : List ℕ) (wanted status : ℕ) (old new : Output) → TellsMemory status old new → Prints line tried wanted status old new
forgotten line tried wanted status old new told = no_memory told.is_status (last_alone _ _ _ _ told.front)

-- memory was wanted while the line was printed
pub broken_by_memory : (line tried : List ℕ) (wanted status : ℕ) (old mid new : Output) → AddsFront old.printed mid.printed line → TellsMemory status mid new → Prints line tried wanted status old new
broken_by_memory line tried wanted status old mid new front told = no_memory told.is_status (fronts_of _ _ _ _ _ front told.front)

-- a text that is known by another name
pub prints_same : (text line tried : List ℕ) (wanted status : ℕ) (old new : Output) → text ≡ line → Prints text tried wanted status old new → Prints line tried wanted status old new
prints_same text line tried wanted status old new same told = subst (λ (l : List ℕ). Prints l tried wanted status old new) same told

-- a status that is known otherwise
pub prints_with : (line tried : List ℕ) (known wanted status : ℕ) (old new : Output) → known ≡ wanted → Prints line tried known status old new → Prints line tried wanted status old new
prints_with line tried known wanted status old new same told = subst (λ (s : ℕ). Prints line tried s status old new) same told
