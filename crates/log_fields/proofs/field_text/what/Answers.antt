use Rattle.std.proofs.Common.{◌≡◌, ◌++◌, ◌∷◌, sym, subst, OnOk, rules}
use Rattle.log_fields.specs.Names.{what_name}
use Rattle.log_fields.specs.Fields.{what, what_of}
use Rattle.log_fields.specs.declared.field_values.Condition.{Condition}
use Rattle.log_fields.proofs.field_text.what.Goals as goal

pub returns-in-Up : goal.returns-in-Up
unfolding what_name
returns-in-Up c = subst (λ (w : Condition). OnOk c.name.result (c.name.new.out ≡ c.args.out.now ++ 32 ∷ what.text (what_of w))) (sym c.in-Up.is) (search rules)

pub returns-in-Sent : goal.returns-in-Sent
unfolding what_name
returns-in-Sent c = subst (λ (w : Condition). OnOk c.name-in-Sent.result (c.name-in-Sent.new.out ≡ c.args.out.now ++ 32 ∷ what.text (what_of w))) (sym c.in-Sent.is) (search rules)

pub returns-in-Replies : goal.returns-in-Replies
unfolding what_name
returns-in-Replies c = subst (λ (w : Condition). OnOk c.name-in-Replies.result (c.name-in-Replies.new.out ≡ c.args.out.now ++ 32 ∷ what.text (what_of w))) (sym c.in-Replies.is) (search rules)

pub returns-in-Room : goal.returns-in-Room
unfolding what_name
returns-in-Room c = subst (λ (w : Condition). OnOk c.name-in-Room.result (c.name-in-Room.new.out ≡ c.args.out.now ++ 32 ∷ what.text (what_of w))) (sym c.in-Room.is) (search rules)

pub returns-in-All : goal.returns-in-All
unfolding what_name
returns-in-All c = subst (λ (w : Condition). OnOk c.name-in-All.result (c.name-in-All.new.out ≡ c.args.out.now ++ 32 ∷ what.text (what_of w))) (sym c.in-All.is) (search rules)

pub returns-in-Frames : goal.returns-in-Frames
returns-in-Frames c = subst (λ (w : Condition). OnOk c.frames.result (c.frames.new.out ≡ c.args.out.now ++ 32 ∷ what.text (what_of w))) (sym c.in-Frames.is) (search rules)
