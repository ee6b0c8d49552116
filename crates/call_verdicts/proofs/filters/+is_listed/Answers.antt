use Rattle.std.proofs.Common.{refl, sym, ap, ◌∙◌}
use Rattle.std.specs.Str.{bytes_eq}
use Rattle.call_verdicts.proofs.Addresses.{listed_rest}
use Rattle.call_verdicts.proofs.filters.+is_listed.Goals as goal

pub returns-else-eq : goal.returns-else-eq
returns-else-eq t c = c.is_listed.ensures ∙ sym (listed_rest c.args.to.now c.args.list.now _ refl c.in-len6-up.len_at_least (ap (λ xs. bytes_eq xs c.args.to.now) (sym c.as_slice.ensures) ∙ sym c.eq.ensures ∙ c.if-eq.false))
