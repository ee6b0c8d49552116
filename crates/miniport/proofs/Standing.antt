-- Entries of a context that goes on: they may stand.
use Rattle.std.proofs.Common.{rules, ◌≡◌, ℕ, Bool, true, false, ◌&&◌, List, Option, None, Some, refl, sym, subst, inl}
use Rattle.std.specs.Str.{bytes_eq}
use Rattle.std.specs.Option.{MatchOption, option_map, option_or}
use Rattle.std.proofs.lemmas.Slice.Eq.{bytes_eq-Decides}
use Rattle.nd_base.specs.declared.numbers.Addr.{Addr}
use Rattle.nd_base.specs.declared.numbers.CtxNo.{CtxNo}
use Rattle.ia32_step.specs.Machine.{outcome}
use Rattle.log_fields.specs.declared.field_values.FaultKind.{FaultKind}
use Rattle.call_log.specs.declared.entry.Entry.{Entry}
use Rattle.call_log.specs.declared.entry.Entry.TheVariants as entries
use Rattle.owner_machine.specs.State.{Owner}
use Rattle.owner_machine.specs.Must.{owner_must}
use Rattle.owner_machine.specs.Machine.{rule_against, has_case, last_rule}
use Rattle.legal_run.specs.State.{State}
use Rattle.legal_run.specs.Must.{Due, Owes, must, Serves}
use Rattle.legal_run.specs.After.{machine_of}
use Rattle.legal_run.specs.Run.{Meets, freely, faults_as, is_at_import, call_words}
use Rattle.miniport_state.specs.Seen.{Point}
use Rattle.miniport.specs.Steps.{Goes}

none_left : {A : Type 0} (x y : Option A) → option_or x y ≡ None → x ≡ None
none_left None y h = refl
none_left (Some x) y h = h

none_right : {A : Type 0} (x y : Option A) → option_or x y ≡ None → y ≡ None
none_right None y h = h
none_right (Some x) y h = cc

none_mapped : {A B : Type 0} (f : A → B) (x : Option A) → option_map f x ≡ None → x ≡ None
none_mapped f None h = refl
none_mapped f (Some x) h = cc

-- where nothing must stand the owner machine asks for nothing
owner_free : (s : State) → must s ≡ None → owner_must s.owner ≡ None
unfolding must
owner_free s h = none_mapped Owes (owner_must s.owner) (none_left _ _ (none_right _ _ h))

unruled : (o : Owner) (e : Entry) → owner_must o ≡ None → has_case o e ≡ true → last_rule o e ≡ None → rule_against o e ≡ None
unruled o e none case last = rw (none, case) last

-- where nothing must stand, what may stand by itself may, if the owner machine has a case for it
pub stands : (o : Point) (e : Entry) → must o.state ≡ None → freely o.inputs o.state e ≡ true → has_case o.state.owner e ≡ true → last_rule o.state.owner e ≡ None → Meets o.inputs o.state e
stands o e none free case last = record {
  owner = unruled o.state.owner e (owner_free o.state none) case last;
  turn = inl (subst (λ (due : Option Due). MatchOption due (freely o.inputs o.state e ≡ true) (λ d. Serves o.inputs o.state d e)) (sym none) free);
}

pub both : (x y : Bool) → x ≡ true → y ≡ true → (x && y) ≡ true
both true y one other = other
both false y one other = one

pub may_fault : (o : Point) (x : CtxNo) (kind : FaultKind) (at : Addr) → Goes o x → faults_as (outcome (machine_of o.state x)) kind at.0 ≡ true → Meets o.inputs o.state (entries.Fault x kind at)
may_fault o x kind at goes faults = stands o (entries.Fault x kind at) goes.free (both _ _ goes.going faults) goes.works refl

equal : (xs ys : List ℕ) → xs ≡ ys → bytes_eq xs ys ≡ true
equal xs ys h = search (rules, bytes_eq-Decides)

pub may_call : (o : Point) (x : CtxNo) (import : ℕ) (words : List ℕ) → Goes o x → is_at_import (outcome (machine_of o.state x)) import ≡ true → words ≡ call_words o.state x import
    → Meets o.inputs o.state (entries.Call x import words)
may_call o x import words goes slot said =
    let same : bytes_eq words (call_words o.state x import) ≡ true = equal words (call_words o.state x import) said in
    stands o (entries.Call x import words) goes.free (both _ _ goes.going (both _ _ slot same)) goes.works refl
