-- What a call answers that may change more than nothing where memory is wanted: an access to a card can't be taken back.
use Rattle.std.specs.Prelude.{Result, Ok, Err}
use Rattle.guest_world.specs.declared.world.World.{World}
use Rattle.guest_world.specs.declared.answer.Answer.{Answer}
use Rattle.guest_world.specs.declared.answer.CallRefusal.{CallRefusal}
use Rattle.guest_world.specs.declared.answer.CallRefusal.TheVariants.{OutOfMemory, Broken}
use Rattle.import_answers.specs.Outcomes.{Outcome, Breaks, Comes}

-- the answer is one that may come of the call; where memory is wanted, no rule is broken, and what is said to stay has stayed
abbrev pub ComesOr : (World → World → Type 0) → Outcome → World → Result Answer CallRefusal → World → Type 0
ComesOr Stays outcome w (Ok answer) after = Comes outcome w (Ok answer) after
ComesOr Stays outcome w (Err (Broken broken)) after = Comes outcome w (Err (Broken broken)) after
ComesOr Stays (Breaks rule) w (Err OutOfMemory) after = ⊥
ComesOr Stays _ w (Err OutOfMemory) after = Stays w after
