use Rattle.std.proofs.Common.{◌≡◌, ℕ, List, Some, sym, subst, rules}
use Rattle.log_fields.specs.Codes.{Read, Gives, find, before_end}
use Rattle.log_fields.specs.Names.{cause_name, causes_all}
use Rattle.log_fields.specs.Fields.{Caused, cause_of}
use Rattle.log_fields.specs.declared.names.CauseKind.{CauseKind}
use Rattle.log_fields.specs.declared.names.CauseKind.TheVariants as kinds
use Rattle.log_fields.proofs.Behind.{cause_at}
use Rattle.log_fields.proofs.fields.cause.Goals as goal

pub returns-in-Some-Breach : goal.returns-in-Some-Breach
returns-in-Some-Breach c =
    let h : find cause_name causes_all (before_end c.args.bytes.now) ≡ Some kinds.Breach = first_of (search rules, cc) in
    subst (λ (r : Read ((k : CauseKind) × Caused k)). Gives (λ x. (cause_of x.0, x.1.now)) c.breach_cause.result r) (sym (cause_at c.args.bytes.now c.name.result.1.now kinds.Breach h c.name.ensures.1)) c.breach_cause.ensures

pub returns-in-Some-Budget : goal.returns-in-Some-Budget
returns-in-Some-Budget c =
    let h : find cause_name causes_all (before_end c.args.bytes.now) ≡ Some kinds.Budget = first_of (search rules, cc) in
    cause_at c.args.bytes.now c.name.result.1.now kinds.Budget h c.name.ensures.1

pub returns-in-Some-Memory : goal.returns-in-Some-Memory
returns-in-Some-Memory c =
    let h : find cause_name causes_all (before_end c.args.bytes.now) ≡ Some kinds.Memory = first_of (search rules, cc) in
    cause_at c.args.bytes.now c.name.result.1.now kinds.Memory h c.name.ensures.1
