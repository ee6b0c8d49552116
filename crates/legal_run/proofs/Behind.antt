-- Behind a call stand what it makes and its reply; behind what breaks a rule, or reaches the budget, the stops that it brings.
use Rattle.std.proofs.Common.{◌≡◌, ℕ, List, [], ◌∷◌, refl, ap, ◌∙◌, true, Option, Some}
use Rattle.std.specs.Option.{option_or, option_map}
use Rattle.nd_base.specs.declared.numbers.Addr.{Addr}
use Rattle.nd_base.specs.declared.numbers.CtxNo.{CtxNo}
use Rattle.log_fields.specs.declared.write.Write.{Write}
use Rattle.log_fields.specs.declared.field_values.Cause.TheVariants as cause
use Rattle.log_fields.specs.declared.field_values.FaultKind.{FaultKind}
use Rattle.call_log.specs.declared.entry.Entry.{Entry}
use Rattle.call_log.specs.declared.entry.Entry.TheVariants as entries
use Rattle.owner_machine.specs.Must.{owner_must}
use Rattle.legal_run.specs.State.{Inputs, State, Next}
use Rattle.legal_run.specs.Calls.{Broken, Made, did, Breaking, leaves}
use Rattle.legal_run.specs.After.{after, call_next, leave_next, spent, breach, reaches, cost_of, owner_left, is_breaking}
use Rattle.legal_run.specs.EntryLaws.{stops_of}
use Rattle.legal_run.specs.Must.{Due, Owes, Exactly, ReplyOf, next_must, taken_first, must}

-- behind a call nothing is due but what it makes
must_behind : (c : Inputs) (s : State) (x : CtxNo) (import : ℕ) (words : List ℕ)
    → must (after c s (entries.Call x import words))
    ≡ option_or (taken_first (call_next c s x words (did s x import words))) (next_must (call_next c s x words (did s x import words)))
unfolding must
must_behind c s x import words = refl

abbrev due_in : Next → Option Due
due_in n = option_or (taken_first n) (next_must n)

pub made_behind : (c : Inputs) (s : State) (x : CtxNo) (import : ℕ) (words : List ℕ) (e : Entry) (es : List Entry) (lent : List ℕ) (writes : List Write)
    → did s x import words ≡ Made (e ∷ es) lent writes → must (after c s (entries.Call x import words)) ≡ Some (Exactly e)
made_behind c s x import words e es lent writes h = must_behind c s x import words ∙ ap (λ d. due_in (call_next c s x words d)) h

pub answered_behind : (c : Inputs) (s : State) (x : CtxNo) (import : ℕ) (words lent : List ℕ) (writes : List Write)
    → did s x import words ≡ Made [] lent writes → must (after c s (entries.Call x import words)) ≡ Some (ReplyOf x)
answered_behind c s x import words lent writes h = must_behind c s x import words ∙ ap (λ d. due_in (call_next c s x words d)) h

-- ---- behind what brings a stop

pub call_stops : (c : Inputs) (s : State) (x : CtxNo) (import : ℕ) (words : List ℕ) (rule : ℕ)
    → did s x import words ≡ Broken rule → must (after c s (entries.Call x import words)) ≡ stops_of c s x (breach rule)
call_stops c s x import words rule h = must_behind c s x import words ∙ ap (λ d. due_in (call_next c s x words d)) h

leave_behind : (c : Inputs) (s : State) (x : CtxNo) (eax : ℕ)
    → must (after c s (entries.Leave x eax))
    ≡ option_or (taken_first (leave_next c s x (leaves c s x eax)))
    (option_or (option_map Owes (owner_must (owner_left s.owner (entries.Leave x eax) (is_breaking (leaves c s x eax))))) (next_must (leave_next c s x (leaves c s x eax))))
unfolding must
leave_behind c s x eax = refl

pub leave_stops : (c : Inputs) (s : State) (x : CtxNo) (eax rule : ℕ) → leaves c s x eax ≡ Breaking rule → must (after c s (entries.Leave x eax)) ≡ stops_of c s x (breach rule)
leave_stops c s x eax rule h =
    leave_behind c s x eax
    ∙ ap (λ d. option_or (taken_first (leave_next c s x d))
    (option_or (option_map Owes (owner_must (owner_left s.owner (entries.Leave x eax) (is_breaking d)))) (next_must (leave_next c s x d)))) h

pub fault_stops : (c : Inputs) (s : State) (x : CtxNo) (kind : FaultKind) (address : Addr) → must (after c s (entries.Fault x kind address)) ≡ stops_of c s x (breach 8)
unfolding must
fault_stops c s x kind address = refl

turn_behind : (c : Inputs) (s : State) (x : CtxNo) (n : ℕ) → must (after c s (entries.Turn x n)) ≡ due_in (spent c s x (reaches c s x n))
unfolding must
turn_behind c s x n = refl

pub turn_stops : (c : Inputs) (s : State) (x : CtxNo) (n : ℕ) → reaches c s x n ≡ true → must (after c s (entries.Turn x n)) ≡ stops_of c s x cause.Budget
turn_stops c s x n h = turn_behind c s x n ∙ ap (λ b. due_in (spent c s x b)) h

reply_behind : (c : Inputs) (s : State) (x : CtxNo) (eax : ℕ) (writes : List Write)
    → must (after c s (entries.Reply x eax writes)) ≡ due_in (spent c s x (reaches c s x (cost_of s x (record { eax = eax; writes = writes }))))
unfolding must
reply_behind c s x eax writes = refl

pub reply_stops : (c : Inputs) (s : State) (x : CtxNo) (eax : ℕ) (writes : List Write)
    → reaches c s x (cost_of s x (record { eax = eax; writes = writes })) ≡ true → must (after c s (entries.Reply x eax writes)) ≡ stops_of c s x cause.Budget
reply_stops c s x eax writes h = reply_behind c s x eax writes ∙ ap (λ b. due_in (spent c s x b)) h
