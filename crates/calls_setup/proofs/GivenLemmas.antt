-- What is given where memory is wanted.
use Rattle.std.proofs.Common.{◌≡◌, ℕ, ◌&&◌, true, List, max, is_some, Some, Err, refl, sym, ap, ◌∙◌}
use Rattle.packet_pool.specs.LiveSet.{LiveSet, first_free}
use Rattle.guest_world.specs.declared.world.World.{World}
use Rattle.guest_world.specs.declared.answer.Reply.{Reply}
use Rattle.guest_world.specs.declared.answer.CallRefusal.{CallRefusal}
use Rattle.guest_world.specs.declared.answer.CallRefusal.TheVariants.{OutOfMemory, Broken}
use Rattle.import_answers.specs.World.{word}
use Rattle.import_answers.specs.Outcomes.{Comes, can_write}
use Rattle.import_answers.specs.Configuration.{Read, block_length, given_value, given_address}
use Rattle.call_parts.specs.Answered.{Answers}
use Rattle.calls_setup.specs.Blocks.{has_room}

wants : (reply : Reply) (refusal : CallRefusal) → Answers reply (Err refusal) → refusal ≡ OutOfMemory
wants reply OutOfMemory h = refl
wants reply (Broken broken) h = absurd h

pub address_wanting : (w : World) (words bytes : List ℕ) (s s' : LiveSet) (reply : Reply) (refusal : CallRefusal) → w.pools ≡ s → has_room s 6 ≡ true → (can_write w (word words 2) 4 && can_write w (word words 3) 4) ≡ true → s' ≡ s → Answers reply (Err refusal) → Comes (given_address w words (Some bytes)) w (Err refusal) (record w { pools = s' })
address_wanting w words bytes s s' reply refusal same room on kept h =
    let there : is_some (first_free w.pools 6) ≡ true = ap (λ (x : LiveSet). is_some (first_free x 6)) same ∙ room in
    rw (wants reply refusal h, there, on) (ap (λ (x : LiveSet). record w { pools = x }) (kept ∙ sym same))

pub value_wanting : (w : World) (words : List ℕ) (read : Read) (s s' : LiveSet) (reply : Reply) (refusal : CallRefusal) → w.pools ≡ s → has_room s (block_length read) ≡ true → can_write w (word words 2) 4 ≡ true → s' ≡ s → Answers reply (Err refusal) → Comes (given_value w words (Some read)) w (Err refusal) (record w { pools = s' })
value_wanting w words read s s' reply refusal same room on kept h =
    let there : is_some (first_free w.pools (max (block_length read) 1)) ≡ true = ap (λ (x : LiveSet). is_some (first_free x (max (block_length read) 1))) same ∙ room in
    rw (wants reply refusal h, there, on) (ap (λ (x : LiveSet). record w { pools = x }) (kept ∙ sym same))
