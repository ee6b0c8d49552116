-- What fits is in its range.
use Rattle.std.proofs.Common.{◌≡◌, ℕ, zero, suc, List, [], ◌∷◌, ◌++◌, Option, Some, None, sym, subst}
use Rattle.std.specs.Prelude.{slice_get, option_copied, IfSome}
use Rattle.std.proofs.lemmas.Option.{none-some, same_Some}
use denote.Ref.{Bor}
use Rattle.log_fields.specs.Names.{import_name}
use Rattle.log_fields.specs.NameLaws.{import_range}
use Rattle.log_fields.specs.RangeLaws.{width_range, cause_range}
use Rattle.call_log.specs.Lines.{line, line_of, InRange}
use Rattle.call_log.specs.Logs.{Fits, AllFit, AllInRange}
use Rattle.call_log.specs.declared.entry.Entry.{Entry}
use Rattle.call_log.specs.declared.entry.Entry.TheVariants as entries

pub fits_in_range : (e : Entry) → Fits e → InRange e
unfolding line line_of
fits_in_range (entries.Call context n words) h = import_range n (import_name n) h.1.1.0
fits_in_range (entries.Port adapter way size port bytes) h = width_range size h.1.1.1.0
fits_in_range (entries.Stop adapter why) h = cause_range why h.1.1.1
fits_in_range _ h = tt

pub range_more : (es : List Entry) (e : Entry) → AllInRange es → InRange e → AllInRange (es ++ e ∷ [])
range_more [] e h f = (f, tt)
range_more (x ∷ es) e h f = (h.0, range_more es e h.1 f)

range_at : (es : List Entry) (i : ℕ) (x : Entry) → AllInRange es → slice_get es i ≡ Some x → InRange x
range_at [] i x p h = absurd (none-some x h)
range_at (y ∷ es) zero x p h = subst InRange (same_Some y x h) p.0
range_at (y ∷ es) (suc i) x p h = range_at es i x p.1 h

pub entry_range : (es : List Entry) (i : ℕ) (r : Option (Bor Entry)) → AllInRange es → option_copied r ≡ slice_get es i → IfSome r (λ e. InRange e.now)
entry_range es i None p h = tt
entry_range es i (Some b) p h = range_at es i b.now p (sym h)
