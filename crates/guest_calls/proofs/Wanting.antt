-- What comes of a call also comes where more may change for want of memory.
use Rattle.std.proofs.Common.{◌≡◌, Option, inl, inr, Result, Ok, Err}
use Rattle.nd_base.specs.declared.numbers.AdapterNo.{AdapterNo}
use Rattle.guest_world.specs.declared.world.World.{World}
use Rattle.guest_world.specs.declared.answer.Answer.{Answer}
use Rattle.guest_world.specs.declared.answer.CallRefusal.{CallRefusal}
use Rattle.guest_world.specs.declared.answer.CallRefusal.TheVariants.{OutOfMemory, Broken}
use Rattle.import_answers.specs.Outcomes.{Outcome, Breaks, Replies, Picks, PicksDescriptor, Spins, Sleeps, Synchronizes, Comes}
use Rattle.call_replies.specs.Wanting.{ComesOr}
use Rattle.calls_ports.specs.Cards.{ChangesCard}
use Rattle.calls_packets.specs.Wants.{ChangesLive}
use Rattle.guest_calls.specs.Rows.{Stays}

-- what may change may be more
more : (P Q : World → World → Type 0) → ((w v : World) → P w v → Q w v) → (o : Outcome) (w : World) (r : Result Answer CallRefusal) (v : World) → ComesOr P o w r v → ComesOr Q o w r v
more P Q f o w (Ok answer) v h = h
more P Q f o w (Err (Broken broken)) v h = h
more P Q f (Breaks rule) w (Err OutOfMemory) v h = h
more P Q f (Replies reply after) w (Err OutOfMemory) v h = f w v h
more P Q f (Picks n reply after) w (Err OutOfMemory) v h = f w v h
more P Q f (PicksDescriptor kind handle reply after) w (Err OutOfMemory) v h = f w v h
more P Q f (Spins holder after) w (Err OutOfMemory) v h = f w v h
more P Q f (Sleeps moment) w (Err OutOfMemory) v h = f w v h
more P Q f Synchronizes w (Err OutOfMemory) v h = f w v h

same : (o : Outcome) (w : World) (r : Result Answer CallRefusal) (v : World) → Comes o w r v → ComesOr (λ before after. after ≡ before) o w r v
same o w (Ok answer) v h = h
same o w (Err (Broken broken)) v h = h
same (Breaks rule) w (Err OutOfMemory) v h = h
same (Replies reply after) w (Err OutOfMemory) v h = h
same (Picks n reply after) w (Err OutOfMemory) v h = h
same (PicksDescriptor kind handle reply after) w (Err OutOfMemory) v h = h
same (Spins holder after) w (Err OutOfMemory) v h = h
same (Sleeps moment) w (Err OutOfMemory) v h = h
same Synchronizes w (Err OutOfMemory) v h = h

pub comes_or : (a : Option AdapterNo) (o : Outcome) (w : World) (r : Result Answer CallRefusal) (v : World) → Comes o w r v → ComesOr (Stays a) o w r v
comes_or a o w r v h = more _ _ (λ before after is. inl is) o w r v (same o w r v h)

pub card_or : (a : Option AdapterNo) (o : Outcome) (w : World) (r : Result Answer CallRefusal) (v : World) → ComesOr (ChangesCard a) o w r v → ComesOr (Stays a) o w r v
card_or a o w r v h = more _ _ (λ before after is. inr (inl is)) o w r v h

pub live_or : (a : Option AdapterNo) (o : Outcome) (w : World) (r : Result Answer CallRefusal) (v : World) → ComesOr ChangesLive o w r v → ComesOr (Stays a) o w r v
live_or a o w r v h = more _ _ (λ before after is. inr (inr is)) o w r v h

pub comes_live : (o : Outcome) (w : World) (r : Result Answer CallRefusal) (v : World) → Comes o w r v → ComesOr ChangesLive o w r v
comes_live o w r v h = more _ _ (λ before after is. (before.pools, is)) o w r v (same o w r v h)
