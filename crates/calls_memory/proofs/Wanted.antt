-- Want of memory where a block is allocated.
use Rattle.std.proofs.Common.{◌≡◌, ℕ, Bool, true, false, List, Err, if◌then◌else◌}
use Rattle.guest_world.specs.declared.world.World.{World}
use Rattle.guest_world.specs.declared.answer.CallRefusal.TheVariants.{OutOfMemory}
use Rattle.import_answers.specs.World.{word}
use Rattle.import_answers.specs.Outcomes.{Outcome, Comes, can_write}
use Rattle.import_answers.specs.Blocks.{allocate_memory, has_room}

either : (P : Outcome → Type 0) (b : Bool) (x y : Outcome) → P x → P y → P (if b then x else y)
either P true x y p q = p
either P false x y p q = q

-- whether there is room or not, the world stays
pub memory_wanted : (w w' : World) (words : List ℕ) → can_write w (word words 1) 4 ≡ true → w' ≡ w → Comes (allocate_memory w words) w (Err OutOfMemory) w'
memory_wanted w w' words can same = rw can (either (λ outcome. Comes outcome w (Err OutOfMemory) w') (has_room w (word words 2)) _ _ same same)
