-- What admitting an entry answers, and leaves.
use Rattle.std.specs.Prelude.{◌≡◌, ◌==◌, Bool, true, false, Some, None, Result, Ok, Err}
use Rattle.call_log.specs.declared.entry.Entry.{Entry}
use Rattle.call_log.specs.declared.entry.Entry.TheVariants as entries
use Rattle.owner_machine.specs.State.{Owner}
use Rattle.owner_machine.specs.Machine.{rule_against, after}
use Rattle.owner_book.specs.declared.book.Refusal.{Refusal}
use Rattle.owner_book.specs.declared.book.Refusal.TheVariants.{Broken, OutOfMemory}

-- the kinds for which something is kept that takes memory; of answers those with success, since the driver learns then what it set
abbrev pub takes_memory : Entry → Bool
takes_memory (entries.Send _ _ _) = true
takes_memory (entries.Cancel _ _) = true
takes_memory (entries.Event _ _ _ _) = true
takes_memory (entries.Indicate _ _ _ _ _) = true
takes_memory (entries.Ask _ _ _) = true
takes_memory (entries.Answer _ status _) = status.0 == 0
takes_memory (entries.Enter _ _ _ _ _) = true
takes_memory _ = false

-- the entry breaks no rule, and the book is what it makes; or it breaks this rule, or memory is wanted for what it breaks no rule by, and nothing
-- changes
abbrev pub Admits : Owner → Entry → Result (Unit {0}) Refusal → Owner → Type 0
Admits o e (Ok _) n = (rule_against o e ≡ None) × (n ≡ after o e)
Admits o e (Err (Broken broken)) n = (rule_against o e ≡ Some broken.0) × (n ≡ o)
Admits o e (Err OutOfMemory) n = (rule_against o e ≡ None) × (takes_memory e ≡ true) × (n ≡ o)
