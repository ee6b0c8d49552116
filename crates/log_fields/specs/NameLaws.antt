-- Each name is found in its table, and what is found has its range.
use Rattle.std.proofs.Common.{◌≡◌, ℕ, zero, suc, ◌+◌, ◌<◌, ◌≤◌, Bool, true, false, cond, List, [], ◌∷◌, Option, Some, None, refl, sym, ap, ◌∙◌, subst, arith}
use Rattle.std.specs.Prelude.{◌&&◌, ◌==◌}
use Rattle.std.specs.Str.{bytes_eq}
use Rattle.std.proofs.lemmas.Bool.{and_parts, eqb-true, eqb-false, false≢true}
use Rattle.std.proofs.lemmas.Option.{none-some, same_Some}
use Rattle.log_fields.specs.Codes.{find}
use Rattle.log_fields.specs.Names.{handler_name, handlers_all, fault_name, faults_all, import_name, import_names, imports_all, counted, cause_name, causes_all, what_name, whats_all, NamesAreFound}
use Rattle.log_fields.specs.declared.field_values.Handler.{Handler}
use Rattle.log_fields.specs.declared.field_values.Handler.TheVariants as handlers
use Rattle.log_fields.specs.declared.field_values.FaultKind.{FaultKind}
use Rattle.log_fields.specs.declared.field_values.FaultKind.TheVariants as faults
use Rattle.log_fields.specs.declared.names.CauseKind.{CauseKind}
use Rattle.log_fields.specs.declared.names.CauseKind.TheVariants as causes
use Rattle.log_fields.specs.declared.names.ConditionKind.{ConditionKind}
use Rattle.log_fields.specs.declared.names.ConditionKind.TheVariants as conditions

pub handler_found : (k : Handler) → find handler_name handlers_all (handler_name k) ≡ Some k
unfolding handler_name handlers_all
handler_found handlers.DriverEntry = refl
handler_found handlers.Initialize = refl
handler_found handlers.Halt = refl
handler_found handlers.Reset = refl
handler_found handlers.CheckForHang = refl
handler_found handlers.Isr = refl
handler_found handlers.DisableInterrupt = refl
handler_found handlers.EnableInterrupt = refl
handler_found handlers.HandleInterrupt = refl
handler_found handlers.Timer = refl
handler_found handlers.Sync = refl
handler_found handlers.Send = refl
handler_found handlers.SendPackets = refl
handler_found handlers.ReturnPacket = refl
handler_found handlers.Query = refl
handler_found handlers.Set = refl
handler_found handlers.TransferData = refl
handler_found handlers.CancelSend = refl
handler_found handlers.PnpEvent = refl
handler_found handlers.Shutdown = refl

pub fault_found : (k : FaultKind) → find fault_name faults_all (fault_name k) ≡ Some k
unfolding fault_name faults_all
fault_found faults.Divide = refl
fault_found faults.Outside = refl
fault_found faults.Unmapped = refl
fault_found faults.NotReadable = refl
fault_found faults.NotWritable = refl
fault_found faults.NotExecutable = refl

pub cause_found : (k : CauseKind) → find cause_name causes_all (cause_name k) ≡ Some k
unfolding cause_name causes_all
cause_found causes.Breach = refl
cause_found causes.Budget = refl
cause_found causes.Memory = refl

pub condition_found : (k : ConditionKind) → find what_name whats_all (what_name k) ≡ Some k
unfolding what_name whats_all
condition_found conditions.Up = refl
condition_found conditions.Sent = refl
condition_found conditions.Replies = refl
condition_found conditions.Frames = refl
condition_found conditions.Room = refl
condition_found conditions.All = refl

-- the imports, by one computed test
abbrev is_found : ℕ → Option ℕ → Bool
is_found n (Some k) = k == n
is_found n None = false

found_at : (n : ℕ) (o : Option ℕ) → is_found n o ≡ true → o ≡ Some n
found_at n (Some k) h = ap (λ (i : ℕ). Some i) (eqb-true k n h)
found_at n None h = absurd (false≢true h)

abbrev all_found : ℕ → ℕ → Bool
all_found k zero = true
all_found k (suc m) = is_found k (find import_name imports_all (import_name k)) && all_found (suc k) m

imports_found : all_found 1 64 ≡ true
unfolding import_name import_names imports_all counted
imports_found = refl

found_step : (m k n : ℕ) → is_found k (find import_name imports_all (import_name k)) ≡ true → (suc k ≤ n → n < suc k + m → find import_name imports_all (import_name n) ≡ Some n) → k ≤ n → n < k + suc m → (t : Bool) → (n == k) ≡ t → find import_name imports_all (import_name n) ≡ Some n
found_step m k n h more low high true e = subst (λ (i : ℕ). find import_name imports_all (import_name i) ≡ Some i) (sym (eqb-true n k e)) (found_at k _ h)
found_step m k n h more low high false e = let d = eqb-false n k e in more (omega arith) (omega arith)

found_from : (m k n : ℕ) → all_found k m ≡ true → k ≤ n → n < k + m → find import_name imports_all (import_name n) ≡ Some n
found_from zero k n h low high = absurd (omega arith)
found_from (suc m) k n h low high = found_step m k n (and_parts _ _ h).0 (found_from m (suc k) n (and_parts _ _ h).1) low high (n == k) refl

pub import_found : (n : ℕ) → 1 ≤ n → n ≤ 64 → find import_name imports_all (import_name n) ≡ Some n
import_found n low high = found_from 64 1 n imports_found low (omega arith)

pub names_found : NamesAreFound
names_found = record { handlers = handler_found; faults = fault_found; causes = cause_found; conditions = condition_found; imports = import_found }

counted_step : (m a k : ℕ) (o : Option ℕ) (t : Bool) → cond t (Some a) o ≡ Some k → (o ≡ Some k → (a + 1 ≤ k) × (k < a + 1 + m)) → (a ≤ k) × (k < a + suc m)
counted_step m a k o true h more = let e = same_Some a k h in (omega arith, omega arith)
counted_step m a k o false h more = let p = more h in let low = p.0 in let high = p.1 in (omega arith, omega arith)

-- what is found among counted numbers is one of them
pub in_counted : (name : ℕ → List ℕ) (m a k : ℕ) (bs : List ℕ) → find name (counted a m) bs ≡ Some k → (a ≤ k) × (k < a + m)
unfolding counted
in_counted name zero a k bs h = absurd (none-some k h)
in_counted name (suc m) a k bs h = counted_step m a k (find name (counted (a + 1) m) bs) (bytes_eq (name a) bs) h (in_counted name m (a + 1) k bs)

pub import_range : (n : ℕ) (bs : List ℕ) → find import_name imports_all bs ≡ Some n → (1 ≤ n) × (n ≤ 64)
unfolding imports_all
import_range n bs h = let p = in_counted import_name 64 1 n bs h in let low = p.0 in let high = p.1 in (omega arith, omega arith)
