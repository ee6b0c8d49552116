-- What a function answers that makes a reply: the reply, or want of memory.
use Rattle.std.specs.Prelude.{◌≡◌, ℕ, List, map, ⊤, Result, Ok, Err}
use Rattle.log_fields.specs.declared.write.Write.{Write}
use Rattle.guest_world.specs.declared.answer.Reply.{Reply}
use Rattle.guest_world.specs.declared.answer.Answer.{Answer}
use Rattle.guest_world.specs.declared.answer.Answer.TheVariants.{Now}
use Rattle.guest_world.specs.declared.answer.CallRefusal.{CallRefusal}
use Rattle.guest_world.specs.declared.answer.CallRefusal.TheVariants.{OutOfMemory}
use Rattle.import_answers.specs.Outcomes.{word_written}

abbrev pub Answers : Reply → Result Answer CallRefusal → Type 0
Answers reply (Ok (Now given)) = given ≡ reply
Answers reply (Err OutOfMemory) = ⊤
Answers reply _ = ⊥

-- words that are written, each at its address, in order
abbrev pub words_written : List (ℕ × ℕ) → List Write
words_written words = map (λ w. word_written w.0 w.1) words
