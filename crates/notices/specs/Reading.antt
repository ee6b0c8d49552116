-- How far a driver has heard a run. (The project's own: docs/LEGAL-RUN.md.)
use Rattle.std.specs.Prelude.{◌≡◌, ◌≤◌, ℕ, ◌+◌, Bool, ◌&&◌, ◌||◌, ◌==◌, not, List, [], ◌∷◌, ◌++◌, length, take, slice_get, Option, Some, None}
use Rattle.call_log.specs.declared.entry.Entry.{Entry}
use Rattle.call_log.specs.declared.entry.Entry.TheVariants as entries
use Rattle.owner_machine.specs.State.{bound}
use Rattle.legal_run.specs.State.{Inputs}
use Rattle.legal_run.specs.Run.{now}
use Rattle.notices.specs.Notices.{notices, tells}
use Rattle.notices.specs.declared.places.Place.{Place}
use Rattle.notices.specs.declared.told.Told.{Told}

-- whether a driver is bound behind an entry
abbrev pub bound_behind : ℕ → Bool → Entry → Bool
bound_behind b is_bound (entries.Bind driver adapter) = is_bound || (driver.0 == b)
bound_behind b is_bound (entries.Unbind driver) = is_bound && not (driver.0 == b)
bound_behind b is_bound _ = is_bound

-- one entry on
abbrev pub passed : Place → Entry → Place
passed p e = record p { at = p.at + 1; bound = bound_behind p.driver.0 p.bound e }

-- it has heard a front of the log, and is bound behind it or not
pub record IsPlace (c : Inputs) (log : List Entry) (p : Place) : Type 0 where
  pub within : p.at ≤ length log
  pub bindings : p.bound ≡ bound (now c (take p.at log)).owner p.driver.0

-- what it has heard
abbrev pub heard : Inputs → List Entry → Place → List Told
heard c log p = notices c p.driver (take p.at log)

-- ---- the next notice

-- the entry there tells it this
pub record IsNext (c : Inputs) (log : List Entry) (p : Place) (told : Told) : Type 0 where
  pub entry : Entry
  pub there : slice_get log p.at ≡ Some entry
  pub says : tells (now c (take p.at log)) p.driver entry ≡ Some told

abbrev pub NextOr : Inputs → List Entry → Place → Option Told → Type 0
NextOr c log p None = p.at ≡ length log
NextOr c log p (Some told) = IsNext c log p told

-- the driver goes on to its next notice, or to the end of the log; it has heard nothing more
pub record Finds (c : Inputs) (log : List Entry) (before p : Place) (result : Option Told) : Type 0 where
  pub place : IsPlace c log p
  pub driver : p.driver ≡ before.driver
  pub same : heard c log p ≡ heard c log before
  pub next : NextOr c log p result

-- it takes the next notice; where there is none it has heard all
abbrev pub TakenOr : Inputs → List Entry → Place → Place → Option Told → Type 0
TakenOr c log before p None = heard c log before ≡ notices c before.driver log
TakenOr c log before p (Some told) = heard c log p ≡ heard c log before ++ told ∷ []

pub record Takes (c : Inputs) (log : List Entry) (before p : Place) (result : Option Told) : Type 0 where
  pub place : IsPlace c log p
  pub driver : p.driver ≡ before.driver
  pub taken : TakenOr c log before p result
