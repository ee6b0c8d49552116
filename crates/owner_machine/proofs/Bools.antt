-- Tests that hold, part by part.
use Rattle.std.proofs.Common.{◌≡◌, ℕ, Bool, true, false, cond, ◌&&◌, ◌||◌, ◌==◌, ◌<◌, Option, Some, None, refl, sym, inl, inr, ◌⊎◌, arith}
use Rattle.std.proofs.lemmas.Option.{none-some}
use Rattle.std.specs.Prelude.{nat_lt}
use Rattle.std.proofs.lemmas.Bool.Decides.{nat_tests}
use Rattle.call_log.specs.declared.entry.Entry.{Entry}
use Rattle.owner_machine.specs.State.{Owner, unless, implies}
use Rattle.owner_machine.specs.Must.{is_served}
use Rattle.owner_machine.specs.Machine.{rule_against, has_case, last_rule, rule_of}

pub unless_none : (b : Bool) (rule : ℕ) → unless b rule ≡ None → b ≡ true
unless_none true rule h = refl
unless_none false rule h = absurd (none-some rule (sym h))

pub or_true : (a b : Bool) → a || b ≡ true → (a ≡ true) ⊎ (b ≡ true)
or_true true b h = inl refl
or_true false b h = inr h

pub and_first : (a b : Bool) → a && b ≡ true → a ≡ true
and_first true b h = refl
and_first false b h = h

pub and_second : (a b : Bool) → a && b ≡ true → b ≡ true
and_second true b h = h
and_second false b h = absurd (cc)

pub given : (a b : Bool) → implies a b ≡ true → a ≡ true → b ≡ true
given true b h is = h
given false b h is = absurd (cc)

pub equal : (m n : ℕ) → m == n ≡ true → m ≡ n
equal m n h = grind arith

pub same_number : (m n : ℕ) → m ≡ n → m == n ≡ true
same_number m n h = grind arith

pub below : (m n : ℕ) → nat_lt m n ≡ true → m < n
below m n h = grind (arith, nat_tests)

pub not_true : (b : Bool) → b ≡ true → b ≡ false → ⊥
not_true b yes_b no_b = cc

cond_none : (b : Bool) (x : Option ℕ) (rule : ℕ) → cond b x (Some rule) ≡ None → (b ≡ true) × (x ≡ None)
cond_none true x rule h = (refl, h)
cond_none false x rule h = absurd (none-some rule (sym h))

-- an entry that breaks no rule has its case
pub case_of : (o : Owner) (e : Entry) → rule_against o e ≡ None → has_case o e ≡ true
case_of o e h = and_second (is_served o e) (has_case o e) (cond_none (is_served o e && has_case o e) (last_rule o e) (rule_of e) h).0

pub served_of : (o : Owner) (e : Entry) → rule_against o e ≡ None → is_served o e ≡ true
served_of o e h = and_first (is_served o e) (has_case o e) (cond_none (is_served o e && has_case o e) (last_rule o e) (rule_of e) h).0

pub last_of : (o : Owner) (e : Entry) → rule_against o e ≡ None → last_rule o e ≡ None
last_of o e h = (cond_none (is_served o e && has_case o e) (last_rule o e) (rule_of e) h).1
