-- Every field is read exactly.
use Rattle.std.proofs.Common.{◌≡◌, ℕ, zero, suc, ◌-◌, ◌^◌, ◌<◌, Bool, true, false, List, [], ◌∷◌, ◌++◌, None, refl, ap, ◌∙◌, arith}
use Rattle.std.specs.Prelude.{slice_index_or, ◌&&◌, ◌||◌, ◌==◌, codes, nat_le, nat_lt}
use Rattle.std.proofs.lemmas.Bool.{and_parts, ltb-true, ne_eqb}
use Rattle.log_fields.specs.Codes.{is_field_end, is_item_end, number, word, read_word, pair_value, octet, byte_string, behind, optional, listed}
use Rattle.log_fields.specs.Names.{handler_name, handlers_all, fault_name, faults_all, import_name, import_names, imports_all, cause_name, causes_all, what_name, whats_all}
use Rattle.log_fields.specs.Fields.{small, medium, large, flag, width, rule, handler, fault_kind, import, direction_name, direction, write, question_name, Asked, asked, question, Caused, caused, cause, Awaited, awaited, what}
use Rattle.log_fields.specs.declared.field_values.Handler.{Handler}
use Rattle.log_fields.specs.declared.field_values.Handler.TheVariants as handlers
use Rattle.log_fields.specs.declared.field_values.FaultKind.{FaultKind}
use Rattle.log_fields.specs.declared.field_values.FaultKind.TheVariants as faults
use Rattle.log_fields.specs.declared.field_values.Direction.{Direction}
use Rattle.log_fields.specs.declared.field_values.Direction.TheVariants as directions
use Rattle.log_fields.specs.declared.names.CauseKind.{CauseKind}
use Rattle.log_fields.specs.declared.names.CauseKind.TheVariants as cause_kinds
use Rattle.log_fields.specs.declared.names.ConditionKind.{ConditionKind}
use Rattle.log_fields.specs.declared.names.ConditionKind.TheVariants as what_kinds
use Rattle.log_fields.specs.Exact.{Ends, Exact, AreInside, ArePrinted, Prints}
use Rattle.log_fields.specs.ExactLaws.{as_field, none_exact, behind_exact, such_exact, pair_exact, chosen_exact, named_exact, listed_exact, optional_exact}
use Rattle.log_fields.specs.PrintLaws.{number_prints, octet_prints, word_prints, bytes_prints, such_prints, behind_prints, none_prints, pair_prints, chosen_prints, optional_prints, listed_prints, named_prints}
use Rattle.log_fields.specs.NumberLaws.{number_exact, octet_exact, word_exact, bytes_exact}

-- ---- fields

small_exact : Exact is_item_end small
unfolding small
small_exact = number_exact (2 ^ 8 - 1) (omega arith)

pub small_field : Exact is_field_end small
small_field = as_field small small_exact

pub medium_field : Exact is_field_end medium
unfolding medium
medium_field = as_field _ (number_exact (2 ^ 32 - 1) (omega arith))

pub large_field : Exact is_field_end large
unfolding large
large_field = as_field _ (number_exact (2 ^ 64 - 1) (omega arith))

pub flag_field : Exact is_field_end flag
unfolding flag
flag_field = as_field _ (number_exact 1 (omega arith))

pub width_field : Exact is_field_end width
unfolding width
width_field = as_field _ (such_exact is_item_end (nat_le 1) (number 2) (number_exact 2 (omega arith)))

rule_field : Exact is_field_end rule
unfolding rule
rule_field = as_field _ (such_exact is_item_end (nat_le 1) (number 14) (number_exact 14 (omega arith)))

pub word_field : Exact is_field_end word
word_field = as_field word word_exact

pub octet_field : Exact is_field_end octet
octet_field = as_field octet octet_exact

pub bytes_field : Exact is_field_end byte_string
bytes_field = as_field byte_string bytes_exact

small_dash : (bytes : List ℕ) → small.read (45 ∷ bytes) ≡ None
unfolding small
small_dash bytes = refl

small_empty : small.read [] ≡ None
unfolding small
small_empty = refl

word_dash : (bytes : List ℕ) → read_word (45 ∷ bytes) ≡ None
unfolding read_word pair_value
word_dash [] = refl
word_dash (b ∷ bytes) = refl

word_empty : read_word [] ≡ None
unfolding read_word
word_empty = refl

pub words_exact : Exact is_field_end (listed word)
words_exact = listed_exact word word_exact word_dash word_empty

pub holders_exact : Exact is_field_end (listed small)
holders_exact = listed_exact small small_exact small_dash small_empty

pub adapter_exact : Exact is_field_end (optional small)
adapter_exact = optional_exact is_field_end small small_field small_dash small_empty

write_exact : Exact is_item_end write
write_exact = chosen_exact is_item_end word (λ _. List ℕ) (λ _. behind 58 byte_string) word_exact (λ _ _ _ _. refl) (λ _. behind_exact is_item_end 58 byte_string bytes_exact)

write_dash : (bytes : List ℕ) → write.read (45 ∷ bytes) ≡ None
unfolding read_word pair_value
write_dash [] = refl
write_dash (b ∷ bytes) = refl

write_empty : write.read [] ≡ None
unfolding read_word
write_empty = refl

pub writes_exact : Exact is_field_end (listed write)
writes_exact = listed_exact write write_exact write_dash write_empty

-- ---- names

-- each byte is above a blank
abbrev pub is_name : List ℕ → Bool
is_name [] = true
is_name (b ∷ bytes) = nat_lt 32 b && is_name bytes

not_end : (b : ℕ) → nat_lt 32 b ≡ true → is_field_end b ≡ false
not_end b h =
    let above : 32 < b = ltb-true 32 b h in
    ap (λ (t : Bool). t || (b == 10)) (ne_eqb b 32 (λ e. omega arith)) ∙ ap (λ (t : Bool). false || t) (ne_eqb b 10 (λ e. omega arith))

pub inside_from : (bytes : List ℕ) → is_name bytes ≡ true → AreInside bytes
inside_from [] h = tt
inside_from (b ∷ bytes) h = let p = and_parts _ _ h in (not_end b p.0, inside_from bytes p.1)

pub printed_from : (bytes : List ℕ) → is_name bytes ≡ true → ArePrinted bytes
printed_from [] h = tt
printed_from (b ∷ bytes) h = let p = and_parts _ _ h in let above : 32 < b = ltb-true 32 b p.0 in (omega arith, printed_from bytes p.1)

abbrev are_names : List (List ℕ) → Bool
are_names [] = true
are_names (x ∷ xs) = is_name x && are_names xs

inside_at : (xs : List (List ℕ)) (i : ℕ) → are_names xs ≡ true → is_name (slice_index_or xs i []) ≡ true
inside_at [] i h = refl
inside_at (x ∷ xs) zero h = (and_parts _ _ h).0
inside_at (x ∷ xs) (suc i) h = inside_at xs i (and_parts _ _ h).1

names_inside : are_names import_names ≡ true
unfolding import_names
names_inside = refl

import_test : (n : ℕ) → is_name (import_name n) ≡ true
unfolding import_name
import_test n = inside_at import_names (n - 1) names_inside

import_inside : (n : ℕ) → AreInside (import_name n)
import_inside n = inside_from (import_name n) (import_test n)

pub import_exact : Exact is_field_end import
import_exact = named_exact import_name imports_all import_inside

handler_test : (k : Handler) → is_name (handler_name k) ≡ true
unfolding handler_name
handler_test handlers.DriverEntry = refl
handler_test handlers.Initialize = refl
handler_test handlers.Halt = refl
handler_test handlers.Reset = refl
handler_test handlers.CheckForHang = refl
handler_test handlers.Isr = refl
handler_test handlers.DisableInterrupt = refl
handler_test handlers.EnableInterrupt = refl
handler_test handlers.HandleInterrupt = refl
handler_test handlers.Timer = refl
handler_test handlers.Sync = refl
handler_test handlers.Send = refl
handler_test handlers.SendPackets = refl
handler_test handlers.ReturnPacket = refl
handler_test handlers.Query = refl
handler_test handlers.Set = refl
handler_test handlers.TransferData = refl
handler_test handlers.CancelSend = refl
handler_test handlers.PnpEvent = refl
handler_test handlers.Shutdown = refl

fault_test : (k : FaultKind) → is_name (fault_name k) ≡ true
unfolding fault_name
fault_test faults.Divide = refl
fault_test faults.Outside = refl
fault_test faults.Unmapped = refl
fault_test faults.NotReadable = refl
fault_test faults.NotWritable = refl
fault_test faults.NotExecutable = refl

cause_test : (k : CauseKind) → is_name (cause_name k) ≡ true
unfolding cause_name
cause_test cause_kinds.Breach = refl
cause_test cause_kinds.Budget = refl
cause_test cause_kinds.Memory = refl

what_test : (k : ConditionKind) → is_name (what_name k) ≡ true
unfolding what_name
what_test what_kinds.Up = refl
what_test what_kinds.Sent = refl
what_test what_kinds.Replies = refl
what_test what_kinds.Frames = refl
what_test what_kinds.Room = refl
what_test what_kinds.All = refl

pub handler_exact : Exact is_field_end handler
handler_exact = named_exact handler_name handlers_all (λ k. inside_from _ (handler_test k))

pub fault_exact : Exact is_field_end fault_kind
fault_exact = named_exact fault_name faults_all (λ k. inside_from _ (fault_test k))

direction_test : (k : Direction) → is_name (direction_name k) ≡ true
direction_test directions.In = refl
direction_test directions.Out = refl

pub direction_exact : Exact is_field_end direction
direction_exact = named_exact direction_name (directions.In ∷ directions.Out ∷ []) (λ k. inside_from _ (direction_test k))

question_test : (k : Bool) → is_name (question_name k) ≡ true
question_test true = refl
question_test false = refl

asked_opens : (q : Bool) (y : Asked q) (rest : List ℕ) → Ends is_field_end rest → Ends is_field_end ((asked q).text y ++ rest)
asked_opens true y rest h = refl
asked_opens false y rest h = refl

asked_exact : (q : Bool) → Exact is_field_end (asked q)
asked_exact true = behind_exact is_field_end 32 _ (pair_exact is_field_end _ _ refl word_field medium_field)
asked_exact false = behind_exact is_field_end 32 _ (pair_exact is_field_end _ _ refl word_field bytes_field)

pub question_exact : Exact is_field_end question
question_exact = chosen_exact is_field_end _ Asked asked (named_exact question_name (true ∷ false ∷ []) (λ k. inside_from _ (question_test k))) asked_opens asked_exact

caused_opens : (k : CauseKind) (y : Caused k) (rest : List ℕ) → Ends is_field_end rest → Ends is_field_end ((caused k).text y ++ rest)
caused_opens cause_kinds.Breach y rest h = refl
caused_opens cause_kinds.Budget y rest h = h
caused_opens cause_kinds.Memory y rest h = h

caused_exact : (k : CauseKind) → Exact is_field_end (caused k)
caused_exact cause_kinds.Breach = behind_exact is_field_end 32 rule rule_field
caused_exact cause_kinds.Budget = none_exact is_field_end
caused_exact cause_kinds.Memory = none_exact is_field_end

pub cause_exact : Exact is_field_end cause
cause_exact = chosen_exact is_field_end _ Caused caused (named_exact cause_name causes_all (λ k. inside_from _ (cause_test k))) caused_opens caused_exact

awaited_opens : (k : ConditionKind) (y : Awaited k) (rest : List ℕ) → Ends is_field_end rest → Ends is_field_end ((awaited k).text y ++ rest)
awaited_opens what_kinds.Up y rest h = h
awaited_opens what_kinds.Sent y rest h = h
awaited_opens what_kinds.Replies y rest h = h
awaited_opens what_kinds.Frames y rest h = refl
awaited_opens what_kinds.Room y rest h = h
awaited_opens what_kinds.All y rest h = h

awaited_exact : (k : ConditionKind) → Exact is_field_end (awaited k)
awaited_exact what_kinds.Up = none_exact is_field_end
awaited_exact what_kinds.Sent = none_exact is_field_end
awaited_exact what_kinds.Replies = none_exact is_field_end
awaited_exact what_kinds.Frames = behind_exact is_field_end 32 large large_field
awaited_exact what_kinds.Room = none_exact is_field_end
awaited_exact what_kinds.All = none_exact is_field_end

pub what_exact : Exact is_field_end what
what_exact = chosen_exact is_field_end _ Awaited awaited (named_exact what_name whats_all (λ k. inside_from _ (what_test k))) awaited_opens awaited_exact

-- ---- no field is written with a control code

pub small_prints : Prints small
unfolding small
small_prints = number_prints (2 ^ 8 - 1) (omega arith)

pub medium_prints : Prints medium
unfolding medium
medium_prints = number_prints (2 ^ 32 - 1) (omega arith)

pub large_prints : Prints large
unfolding large
large_prints = number_prints (2 ^ 64 - 1) (omega arith)

pub flag_prints : Prints flag
unfolding flag
flag_prints = number_prints 1 (omega arith)

pub width_prints : Prints width
unfolding width
width_prints = such_prints (nat_le 1) (number 2) (number_prints 2 (omega arith))

rule_prints : Prints rule
unfolding rule
rule_prints = such_prints (nat_le 1) (number 14) (number_prints 14 (omega arith))

pub words_prints : Prints (listed word)
words_prints = listed_prints word word_prints

pub holders_prints : Prints (listed small)
holders_prints = listed_prints small small_prints

pub adapter_prints : Prints (optional small)
adapter_prints = optional_prints small small_prints

write_prints : Prints write
write_prints = chosen_prints word (λ _. List ℕ) (λ _. behind 58 byte_string) word_prints (λ _. behind_prints 58 byte_string (omega arith) bytes_prints)

pub writes_prints : Prints (listed write)
writes_prints = listed_prints write write_prints

pub import_prints : Prints import
import_prints = named_prints import_name imports_all (λ n. printed_from (import_name n) (import_test n))

pub handler_prints : Prints handler
handler_prints = named_prints handler_name handlers_all (λ k. printed_from _ (handler_test k))

pub fault_prints : Prints fault_kind
fault_prints = named_prints fault_name faults_all (λ k. printed_from _ (fault_test k))

pub direction_prints : Prints direction
direction_prints = named_prints direction_name (directions.In ∷ directions.Out ∷ []) (λ k. printed_from _ (direction_test k))

asked_prints : (q : Bool) → Prints (asked q)
asked_prints true = behind_prints 32 _ (omega arith) (pair_prints _ _ word_prints medium_prints)
asked_prints false = behind_prints 32 _ (omega arith) (pair_prints _ _ word_prints bytes_prints)

pub question_prints : Prints question
question_prints = chosen_prints _ Asked asked (named_prints question_name (true ∷ false ∷ []) (λ k. printed_from _ (question_test k))) asked_prints

caused_prints : (k : CauseKind) → Prints (caused k)
caused_prints cause_kinds.Breach = behind_prints 32 rule (omega arith) rule_prints
caused_prints cause_kinds.Budget = none_prints
caused_prints cause_kinds.Memory = none_prints

pub cause_prints : Prints cause
cause_prints = chosen_prints _ Caused caused (named_prints cause_name causes_all (λ k. printed_from _ (cause_test k))) caused_prints

awaited_prints : (k : ConditionKind) → Prints (awaited k)
awaited_prints what_kinds.Up = none_prints
awaited_prints what_kinds.Sent = none_prints
awaited_prints what_kinds.Replies = none_prints
awaited_prints what_kinds.Frames = behind_prints 32 large (omega arith) large_prints
awaited_prints what_kinds.Room = none_prints
awaited_prints what_kinds.All = none_prints

pub what_prints : Prints what
what_prints = chosen_prints _ Awaited awaited (named_prints what_name whats_all (λ k. printed_from _ (what_test k))) awaited_prints
