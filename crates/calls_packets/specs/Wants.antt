-- What a call may have changed where memory is wanted: a pool that was made and ended again had a handle, which is not given again.
use Rattle.std.specs.Prelude.{◌≡◌}
use Rattle.packet_pool.specs.LiveSet.{LiveSet}
use Rattle.guest_world.specs.declared.world.World.{World}
use Rattle.import_answers.specs.Descriptors.{with_live}

-- nothing but what lives in the guest pool has changed
abbrev pub ChangesLive : World → World → Type 0
ChangesLive before after = (live : LiveSet) × (after ≡ with_live before live)
