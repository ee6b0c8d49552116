use Rattle.std.proofs.Common.{◌≡◌, ℕ, List, Some, sym, subst, rules}
use Rattle.log_fields.specs.Codes.{Read, Gives, find, before_end}
use Rattle.log_fields.specs.Names.{what_name, whats_all}
use Rattle.log_fields.specs.Fields.{Awaited, what_of}
use Rattle.log_fields.specs.declared.names.ConditionKind.{ConditionKind}
use Rattle.log_fields.specs.declared.names.ConditionKind.TheVariants as kinds
use Rattle.log_fields.proofs.Behind.{what_at}
use Rattle.log_fields.proofs.fields.what.Goals as goal

pub returns-in-Some-Up : goal.returns-in-Some-Up
returns-in-Some-Up c =
    let h : find what_name whats_all (before_end c.args.bytes.now) ≡ Some kinds.Up = first_of (search rules, cc) in
    what_at c.args.bytes.now c.name.result.1.now kinds.Up h c.name.ensures.1

pub returns-in-Some-Sent : goal.returns-in-Some-Sent
returns-in-Some-Sent c =
    let h : find what_name whats_all (before_end c.args.bytes.now) ≡ Some kinds.Sent = first_of (search rules, cc) in
    what_at c.args.bytes.now c.name.result.1.now kinds.Sent h c.name.ensures.1

pub returns-in-Some-Replies : goal.returns-in-Some-Replies
returns-in-Some-Replies c =
    let h : find what_name whats_all (before_end c.args.bytes.now) ≡ Some kinds.Replies = first_of (search rules, cc) in
    what_at c.args.bytes.now c.name.result.1.now kinds.Replies h c.name.ensures.1

pub returns-in-Some-Frames : goal.returns-in-Some-Frames
returns-in-Some-Frames c =
    let h : find what_name whats_all (before_end c.args.bytes.now) ≡ Some kinds.Frames = first_of (search rules, cc) in
    subst (λ (r : Read ((k : ConditionKind) × Awaited k)). Gives (λ x. (what_of x.0, x.1.now)) c.frames_what.result r) (sym (what_at c.args.bytes.now c.name.result.1.now kinds.Frames h c.name.ensures.1)) c.frames_what.ensures

pub returns-in-Some-Room : goal.returns-in-Some-Room
returns-in-Some-Room c =
    let h : find what_name whats_all (before_end c.args.bytes.now) ≡ Some kinds.Room = first_of (search rules, cc) in
    what_at c.args.bytes.now c.name.result.1.now kinds.Room h c.name.ensures.1

pub returns-in-Some-All : goal.returns-in-Some-All
returns-in-Some-All c =
    let h : find what_name whats_all (before_end c.args.bytes.now) ≡ Some kinds.All = first_of (search rules, cc) in
    what_at c.args.bytes.now c.name.result.1.now kinds.All h c.name.ensures.1
