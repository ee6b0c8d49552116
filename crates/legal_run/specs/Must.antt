-- What must stand directly next, and what serves it: first what the owner machine asks for (the refusal of a send or a question, the tail of a stop, what a
-- cancel or the end of a reset aborts, what a handler was entered for), then the verdicts of a leave, the entries of a call and its reply, further stops.
use Rattle.std.specs.Prelude.{◌≡◌, ℕ, Bool, true, ◌&&◌, List, [], ◌∷◌, Option, Some, None}
use Rattle.std.specs.Option.{option_map, option_or}
use Rattle.nd_base.specs.declared.numbers.CtxNo.{CtxNo}
use Rattle.nd_mem.specs.Space.{address}
use Rattle.call_log.specs.declared.entry.Entry.{Entry}
use Rattle.call_log.specs.declared.entry.Entry.TheVariants as entries
use Rattle.owner_machine.specs.Must as owners
use Rattle.owner_machine.specs.Must.{owner_must, serves}
use Rattle.legal_run.specs.State.{Inputs, State, Next, Free, Takes, Verdicts, Spinning, Makes, Stops, adapter}
use Rattle.legal_run.specs.Enters.{carries}
use Rattle.legal_run.specs.Replies.{replies}

pub data Due : Type 0 where
  -- what the owner machine asks for
  Owes : owners.Due → Due
  -- this entry
  Exactly : Entry → Due
  -- the reply of the context's call
  ReplyOf : CtxNo → Due

abbrev pub first_stop : List ℕ → (ℕ → Entry) → Option Due
first_stop [] stop = None
first_stop (a ∷ ats) stop = Some (Exactly (stop a))

abbrev pub first_of : List Entry → Option Due
first_of [] = None
first_of (e ∷ es) = Some (Exactly e)

abbrev pub made_next : CtxNo → List Entry → Option Due
made_next x [] = Some (ReplyOf x)
made_next x (e ∷ es) = Some (Exactly e)

abbrev pub next_must : Next → Option Due
next_must Free = None
next_must (Takes e) = Some (Exactly e)
next_must (Verdicts es) = first_of es
next_must (Spinning x lock) = Some (Exactly (entries.Spin x (address lock)))
next_must (Makes x es lent) = made_next x es
next_must (Stops cause ats) = first_stop ats (λ a. entries.Stop (adapter a) cause)

-- a loan that goes home is the one that the words of its handler name
abbrev pub taken_first : Next → Option Due
taken_first (Takes e) = Some (Exactly e)
taken_first _ = None

unfoldable pub must : State → Option Due
must s = option_or (taken_first s.next) (option_or (option_map Owes (owner_must s.owner)) (next_must s.next))

-- an `enter` that must stand carries what its handler is entered with
abbrev pub is_carried : Inputs → State → Entry → Bool
is_carried c s (entries.Enter (Some a) x h words writes) = carries c s a.0 x.0 h words writes
is_carried c s _ = true

-- the entry is what is due
abbrev pub Serves : Inputs → State → Due → Entry → Type 0
Serves c s (Owes due) e = (serves s.owner due e && is_carried c s e) ≡ true
Serves c s (Exactly due) e = e ≡ due
Serves c s (ReplyOf x) e = replies s x e ≡ true
