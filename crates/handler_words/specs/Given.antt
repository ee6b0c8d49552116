-- What words are taken from: the functions of timers, open calls, the first event.
use Rattle.std.specs.Prelude.{ℕ, Bool, true, false, List, [], ◌∷◌, Option, Some, None, length, map, slice_index_or}
use Rattle.std.specs.Option.{option_map_or}
use Rattle.std.specs.FinMap as table
use Rattle.nd_base.specs.declared.numbers.Addr.{Addr}
use Rattle.log_fields.specs.declared.write.Write.{Write}
use Rattle.log_fields.specs.declared.field_values.Handler.{Handler}
use Rattle.log_fields.specs.declared.field_values.Handler.TheVariants as handler
use Rattle.guest_world.specs.Timers.{Timers}
use Rattle.import_answers.specs.World.{word}
use Rattle.legal_run.specs.State.{Context, no_context}
use Rattle.legal_run.specs.Enters.{zero_at}

-- the context of a timer's function, or 0
abbrev pub timer_context : Timers → Option Addr → ℕ
timer_context timers timer = option_map_or (λ (t : Addr). option_map_or (λ f. f.context) (table.get timers t.0) 0) timer 0

-- the third word of an open call, or 0
abbrev pub third_word : Context → ℕ
third_word x = option_map_or (λ call. word call.words 3) x.call 0

-- that of the call of a context
abbrev pub called_word : List Context → Option ℕ → ℕ
called_word contexts caller = option_map_or (λ x. third_word (slice_index_or contexts x no_context)) caller 0

-- what is entered for something of the book of owners that is not told here: packets, requests, loans
abbrev pub is_plain : Handler → Bool
is_plain handler.Send = false
is_plain handler.SendPackets = false
is_plain handler.ReturnPacket = false
is_plain handler.Query = false
is_plain handler.Set = false
is_plain _ = true

-- an event as its number and its bytes: where the bytes stand, its argument words behind the adapter's context word, the bytes
abbrev pub told_place : ℕ → List ℕ → ℕ
told_place area [] = 0
told_place area (b ∷ bs) = area

abbrev pub told_words : (area context : ℕ) → Option (ℕ × List ℕ) → List ℕ
told_words area context None = []
told_words area context (Some e) = context ∷ e.0 ∷ told_place area e.1 ∷ length e.1 ∷ []

abbrev pub told_bytes : Option (ℕ × List ℕ) → List ℕ
told_bytes None = []
told_bytes (Some e) = e.1

-- the writes of zero words at these places
abbrev pub zeros_at : List ℕ → List Write
zeros_at places = map zero_at places

-- the context that called for a function of its interrupt; none for another handler
abbrev pub caller_of : Handler → Option ℕ → Option ℕ
caller_of handler.Sync caller = caller
caller_of _ caller = None
