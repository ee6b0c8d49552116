-- A field's value is told by what is written of it.
use Rattle.std.proofs.Common.{◌≡◌, ℕ, zero, suc, Bool, true, false, List, [], ◌∷◌, map, Option, Some, None, refl, ap}
use Rattle.std.specs.Option.{option_map}
use Rattle.nd_base.specs.declared.numbers.AdapterNo.{AdapterNo}
use Rattle.nd_base.specs.declared.numbers.BindingNo.{BindingNo}
use Rattle.log_fields.specs.declared.field_values.Question.{Question}
use Rattle.log_fields.specs.declared.field_values.Question.TheVariants as questions
use Rattle.log_fields.specs.declared.field_values.Cause.{Cause}
use Rattle.log_fields.specs.declared.field_values.Cause.TheVariants as causes
use Rattle.log_fields.specs.declared.field_values.Condition.{Condition}
use Rattle.log_fields.specs.declared.field_values.Condition.TheVariants as whats
use Rattle.log_fields.specs.declared.write.Write.{Write}
use Rattle.log_fields.specs.declared.names.CauseKind.{CauseKind}
use Rattle.log_fields.specs.declared.names.CauseKind.TheVariants as cause_kinds
use Rattle.log_fields.specs.declared.names.ConditionKind.{ConditionKind}
use Rattle.log_fields.specs.declared.names.ConditionKind.TheVariants as what_kinds
use Rattle.log_fields.specs.Fields.{flag_of, Asked, question_of, Caused, cause_of, Awaited, what_of, write_of}

abbrev pub holders_back : List ℕ → List BindingNo
holders_back [] = []
holders_back (n ∷ ns) = record { 0 = n } ∷ holders_back ns

pub holders_are : (hs : List BindingNo) → holders_back (map (λ h. h.0) hs) ≡ hs
holders_are [] = refl
holders_are (h ∷ hs) = ap (λ (xs : List BindingNo). h ∷ xs) (holders_are hs)

abbrev pub writes_back : List (ℕ × List ℕ) → List Write
writes_back [] = []
writes_back (w ∷ ws) = record { at = record { 0 = w.0 }; bytes = w.1 } ∷ writes_back ws

pub writes_are : (ws : List Write) → writes_back (map write_of ws) ≡ ws
writes_are [] = refl
writes_are (w ∷ ws) = ap (λ (xs : List Write). w ∷ xs) (writes_are ws)

abbrev pub adapter_back : Option ℕ → Option AdapterNo
adapter_back None = None
adapter_back (Some n) = Some (record { 0 = n })

pub adapter_is : (a : Option AdapterNo) → adapter_back (option_map (λ a. a.0) a) ≡ a
adapter_is None = refl
adapter_is (Some a) = refl

abbrev pub flag_back : ℕ → Bool
flag_back zero = false
flag_back (suc n) = true

pub flag_is : (b : Bool) → flag_back (flag_of b) ≡ b
flag_is false = refl
flag_is true = refl

abbrev pub question_back : (q : Bool) → Asked q → Question
question_back true x = questions.Query x.0 x.1
question_back false x = questions.Set x.0 x.1

pub question_is : (q : Question) → question_back (question_of q).0 (question_of q).1 ≡ q
question_is (questions.Query oid length) = refl
question_is (questions.Set oid bytes) = refl

abbrev pub cause_back : (k : CauseKind) → Caused k → Cause
cause_back cause_kinds.Breach x = causes.Breach (record { 0 = x })
cause_back cause_kinds.Budget x = causes.Budget
cause_back cause_kinds.Memory x = causes.Memory

pub cause_is : (c : Cause) → cause_back (cause_of c).0 (cause_of c).1 ≡ c
cause_is (causes.Breach n) = refl
cause_is causes.Budget = refl
cause_is causes.Memory = refl

abbrev pub what_back : (k : ConditionKind) → Awaited k → Condition
what_back what_kinds.Up x = whats.Up
what_back what_kinds.Sent x = whats.Sent
what_back what_kinds.Replies x = whats.Replies
what_back what_kinds.Frames x = whats.Frames x
what_back what_kinds.Room x = whats.Room
what_back what_kinds.All x = whats.All

pub what_is : (w : Condition) → what_back (what_of w).0 (what_of w).1 ≡ w
what_is whats.Up = refl
what_is whats.Sent = refl
what_is whats.Replies = refl
what_is (whats.Frames n) = refl
what_is whats.Room = refl
what_is whats.All = refl
