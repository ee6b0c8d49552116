-- Before DriverEntry is entered every context is free.
use Rattle.std.proofs.Common.{◌≡◌, ℕ, ◌<◌, zero, suc, true, false, List, [], ◌∷◌, Option, Some, None, refl, length, slice_get, arith}
use Rattle.std.specs.Option.{option_map_or}
use Rattle.owner_machine.specs.declared.rows.Context.{Context as OwnerContext}
use Rattle.owner_machine.specs.declared.rows.Context.TheVariants.{Free, Open}
use Rattle.legal_run.specs.State.{Inputs, State, Entrance, Unentered, is_free, is_free_context}
use Rattle.legal_run.specs.Owed.{owes_entry, was_not_entered}
use Rattle.run_facts.specs.Facts.{CountsHold, IsOfRun}
use Rattle.run_facts.proofs.Starts.{VerdictsStand}
use Rattle.run_facts.proofs.Early.{Begins, EntersOwed, begins, is_adapters, is_before, is_entrys, is_inside}
use Rattle.run_enters.proofs.Settling.{and_first}

before : (e : Entrance) → was_not_entered e ≡ true → is_before e ≡ true
before Unentered is = refl
before _ is = absurd (cc)

outside : (e : Entrance) → was_not_entered e ≡ true → is_inside e ≡ true → ⊥
outside Unentered is inside = absurd (cc)
outside _ is inside = absurd (cc)

-- a row that is there, and of neither, is free
free_row : (os : Option OwnerContext) → (os ≡ None → ⊥) → (option_map_or is_adapters os false ≡ true → ⊥) → (option_map_or is_entrys os false ≡ true → ⊥) → option_map_or is_free_context os false ≡ true
free_row None there none nor = absurd (there refl)
free_row (Some Free) there none nor = refl
free_row (Some (Open (Some a) h n call)) there none nor = absurd (none refl)
free_row (Some (Open None h n call)) there none nor = absurd (nor refl)

there_row : (os : List OwnerContext) (x : ℕ) → x < length os → slice_get os x ≡ None → ⊥
there_row [] x less none = omega (arith, less)
there_row (o ∷ os) zero less none = absurd (cc)
there_row (o ∷ os) (suc x) less none = there_row os x (omega (arith, less)) none

pub all_free : EntersOwed → VerdictsStand → CountsHold → (c : Inputs) (s : State) (x : ℕ) → IsOfRun c s → owes_entry c s ≡ true → x < 16 → is_free s x ≡ true
all_free owed stand counts c s x is owes less =
    let fresh : was_not_entered s.entrance ≡ true = and_first (was_not_entered s.entrance) _ owes in
    let began : Begins s = begins owed stand c s is in
    let sixteen = (counts c s is).handlers in
    free_row (slice_get s.owner.contexts x) (there_row s.owner.contexts x (omega (arith, less, sixteen))) ((began.early (before s.entrance fresh)).none x) (λ there. outside s.entrance fresh (began.ones x there).1)
