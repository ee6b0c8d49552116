-- Pools and descriptors: which outcome a call has, by what the guest pool answered.
use Rattle.std.proofs.Common.{◌≡◌, ◌<◌, ◌≤◌, ℕ, zero, suc, ◌+◌, ◌-◌, ◌*◌, ◌/◌, ◌%◌, Bool, true, false, ◌&&◌, not, nat_lt, eqb, leb, ltb, List, ◌∷◌, Option, None, Some, Result, Ok, Err, IfOk, IfErr, is_some, refl, sym, ap, subst, ◌∙◌, inl, inr, arith, eqb-true, ltb-true}
use Rattle.std.proofs.lemmas.Bool.{false≢true, cases_eq, leb-true}
use Rattle.log_fields.specs.declared.write.Write.{Write}
use Rattle.packet_pool.specs.declared.states.Kind.{Kind}
use Rattle.packet_pool.specs.declared.states.Kind.TheVariants.{Packet, Buffer}
use Rattle.packet_pool.specs.declared.states.Pool.{Pool}
use Rattle.packet_pool.specs.declared.states.PoolRefusal.{PoolRefusal}
use Rattle.packet_pool.specs.declared.states.PoolRefusal.TheVariants.{Count, NoRoom}
use Rattle.packet_pool.specs.LiveSet.{LiveSet, pool_of, descriptor_at, descriptor_size, place_of, are_out, is_full, is_place_in}
use Rattle.packet_pool.specs.LiveMoves.{MakePool, Allocate, Makes, may, after, pool_refusal, refused, new_handle, is_count, pool_room, most_pools, is_pool_of, is_place_of_pool, is_full_pool}
use Rattle.guest_world.specs.declared.world.World.{World}
use Rattle.guest_world.specs.declared.answer.Reply.{Reply}
use Rattle.guest_world.specs.declared.answer.Answer.{Answer}
use Rattle.guest_world.specs.declared.answer.Answer.TheVariants.{Now}
use Rattle.guest_world.specs.declared.answer.CallRefusal.{CallRefusal}
use Rattle.guest_world.specs.declared.answer.CallRefusal.TheVariants.{OutOfMemory}
use Rattle.import_answers.specs.World.{word}
use Rattle.import_answers.specs.Outcomes.{Outcome, PicksDescriptor, Comes, can_write, plain, writes, written}
use Rattle.import_answers.specs.Statuses.{success, resources}
use Rattle.import_answers.specs.Descriptors.{allocate_pool, allocate_descriptor, descriptor_bytes, with_live, status_and}
use Rattle.call_replies.specs.Wanting.{ComesOr}
use Rattle.calls_packets.specs.Wants.{ChangesLive}

-- a reply, or want of memory for it
pub replied : (Stays : World → World → Type 0) (w w' : World) (list : List Write) (r : Result Answer CallRefusal) → IfOk r (λ answer. answer ≡ Now (plain 0 list)) → IfErr r (λ e. e ≡ OutOfMemory) → Stays w w'
    → ComesOr Stays (writes w' list) w r w'
replied Stays w w' list (Ok answer) ok err stays = subst (λ (a : Answer). ComesOr Stays (writes w' list) w (Ok a) w') (sym ok) (refl, refl)
replied Stays w w' list (Err e) ok err stays = subst (λ (e : CallRefusal). ComesOr Stays (writes w' list) w (Err e) w') (sym err) stays

-- a pool that may be made is not refused
no_refusal : (count room few : Bool) (e f : PoolRefusal) → (count && (room && few)) ≡ true → refused (not count) e (refused (not room) f None) ≡ None
no_refusal true true few e f h = refl
no_refusal true false few e f h = absurd (false≢true h)
no_refusal false room few e f h = absurd (false≢true h)

pool_not_refused : (s : LiveSet) (kind : Kind) (n : ℕ) → may s (MakePool kind n) ≡ true → pool_refusal s kind n ≡ None
pool_not_refused s kind n can = no_refusal (is_count n) (is_some (pool_room s kind n)) (nat_lt s.made most_pools) Count NoRoom can

made_outcome : (w : World) (kind : Kind) (words : List ℕ) → can_write w (word words 1) 4 ≡ true → can_write w (word words 2) 4 ≡ true → pool_refusal w.pools kind (word words 3) ≡ None
    → allocate_pool w kind words ≡ writes (with_live w (after w.pools (MakePool kind (word words 3)))) (status_and words success (new_handle w.pools))
made_outcome w kind words one two none = rw one (rw two (rw none refl))

refused_outcome : (w : World) (kind : Kind) (words : List ℕ) (e : PoolRefusal) → can_write w (word words 1) 4 ≡ true → can_write w (word words 2) 4 ≡ true → pool_refusal w.pools kind (word words 3) ≡ Some e
    → allocate_pool w kind words ≡ writes w (status_and words resources 0)
refused_outcome w kind words e one two is = rw one (rw two (rw is refl))

-- a pool was made
pub pool_made : (w : World) (kind : Kind) (words : List ℕ) (handle : ℕ) (pools : LiveSet) (r : Result Answer CallRefusal) → can_write w (word words 1) 4 ≡ true → can_write w (word words 2) 4 ≡ true
    → handle ≡ new_handle w.pools → Makes w.pools (MakePool kind (word words 3)) pools
    → IfOk r (λ answer. answer ≡ Now (plain 0 (status_and words success handle))) → IfErr r (λ e. e ≡ OutOfMemory)
    → ComesOr ChangesLive (allocate_pool w kind words) w r (with_live w pools)
pool_made w kind words handle pools r one two same makes ok err =
    let is = made_outcome w kind words one two (pool_not_refused w.pools kind (word words 3) makes.may) in
    let ok' = subst (λ (h : ℕ). IfOk r (λ answer. answer ≡ Now (plain 0 (status_and words success h)))) same ok in
    subst (λ (o : Outcome). ComesOr ChangesLive o w r (with_live w pools)) (sym is)
    (subst (λ (s : LiveSet). ComesOr ChangesLive (writes (with_live w s) (status_and words success (new_handle w.pools))) w r (with_live w pools)) makes.after
    (replied ChangesLive w (with_live w pools) (status_and words success (new_handle w.pools)) r ok' err (pools, refl)))

-- memory was wanted for it
pub pool_wanted : (w : World) (kind : Kind) (words : List ℕ) (pools : LiveSet) → can_write w (word words 1) 4 ≡ true → can_write w (word words 2) 4 ≡ true → pool_refusal w.pools kind (word words 3) ≡ None
    → ComesOr ChangesLive (allocate_pool w kind words) w (Err OutOfMemory) (with_live w pools)
pool_wanted w kind words pools one two none =
    subst (λ (o : Outcome). ComesOr ChangesLive o w (Err OutOfMemory) (with_live w pools)) (sym (made_outcome w kind words one two none)) (pools, refl)

-- it was refused
pub pool_refused : (w : World) (kind : Kind) (words : List ℕ) (e : PoolRefusal) (pools : LiveSet) (r : Result Answer CallRefusal) → can_write w (word words 1) 4 ≡ true → can_write w (word words 2) 4 ≡ true
    → pool_refusal w.pools kind (word words 3) ≡ Some e → pools ≡ w.pools
    → IfOk r (λ answer. answer ≡ Now (plain 0 (status_and words resources 0))) → IfErr r (λ e. e ≡ OutOfMemory)
    → ComesOr ChangesLive (allocate_pool w kind words) w r (with_live w pools)
pool_refused w kind words e pools r one two due kept ok err =
    subst (λ (s : LiveSet). ComesOr ChangesLive (allocate_pool w kind words) w r (with_live w s)) (sym kept)
    (subst (λ (o : Outcome). ComesOr ChangesLive o w r w) (sym (refused_outcome w kind words e one two due)) (replied ChangesLive w w (status_and words resources 0) r ok err (w.pools, refl)))

-- ---- a pool of which a descriptor may be taken is not full

both : (a b : Bool) → (a && b) ≡ true → (a ≡ true) × (b ≡ true)
both true b e = (refl, e)
both false b e = absurd (false≢true e)

-- of the first n descriptors, all of which are out, each is
each_out : (s : LiveSet) (p : Pool) (n k : ℕ) → k < n → are_out s p n ≡ true → is_some (descriptor_at s (place_of p k)) ≡ true
unfolding are_out
each_out s p zero k less out = absurd (omega arith)
each_out s p (suc n) k less out =
    let parts = both (is_some (descriptor_at s (place_of p n))) (are_out s p n) out in
    elim (cases_eq k n) [ inl same ↦ ap (λ k. is_some (descriptor_at s (place_of p k))) same ∙ parts.0 | inr other ↦ each_out s p n k (omega arith) parts.1 ]

-- the number of the descriptor at a place
number_at : (kind : Kind) (first count a : ℕ) → first ≤ a → a < first + count * descriptor_size kind → (a - first) % descriptor_size kind ≡ 0
    → ((a - first) / descriptor_size kind < count) × (a ≡ first + (a - first) / descriptor_size kind * descriptor_size kind)
number_at Packet first count a from to whole = (omega arith, omega arith)
number_at Buffer first count a from to whole = (omega arith, omega arith)

not_full_of : (s : LiveSet) (p : Pool) (a : ℕ) (b : Bool) → is_full s p ≡ b → is_place_in p a ≡ true → is_some (descriptor_at s a) ≡ false → b ≡ false
not_full_of s p a false is place none = refl
not_full_of s p a true is place none =
    let first = both (leb p.first.0 a) (ltb a (p.first.0 + p.count * descriptor_size p.kind) && eqb ((a - p.first.0) % descriptor_size p.kind) 0) place in
    let rest = both (ltb a (p.first.0 + p.count * descriptor_size p.kind)) (eqb ((a - p.first.0) % descriptor_size p.kind) 0) first.1 in
    let number = number_at p.kind p.first.0 p.count a (leb-true p.first.0 a first.0) (ltb-true a (p.first.0 + p.count * descriptor_size p.kind) rest.0) (eqb-true ((a - p.first.0) % descriptor_size p.kind) 0 rest.1) in
    let out = each_out s p p.count ((a - p.first.0) / descriptor_size p.kind) number.0 is in
    absurd (false≢true (sym none ∙ (ap (λ a. is_some (descriptor_at s a)) number.1 ∙ out)))

not_true : (b : Bool) → not b ≡ true → b ≡ false
not_true true h = absurd (false≢true h)
not_true false h = refl

not_full : (s : LiveSet) (kind : Kind) (found : Option Pool) (a : ℕ) → (is_pool_of kind found && (is_place_of_pool found a && not (is_some (descriptor_at s a)))) ≡ true → is_full_pool s found ≡ false
not_full s kind None a can = refl
not_full s kind (Some p) a can =
    let of_kind = both (is_pool_of kind (Some p)) (is_place_in p a && not (is_some (descriptor_at s a))) can in
    let rest = both (is_place_in p a) (not (is_some (descriptor_at s a))) of_kind.1 in
    not_full_of s p a (is_full s p) refl rest.0 (not_true (is_some (descriptor_at s a)) rest.1)

-- ---- descriptors

abbrev reply_with : World → Kind → List ℕ → ℕ → Reply
reply_with w kind words a = plain 0 (written a (descriptor_bytes w kind words) ∷ status_and words success a)

picked : (w : World) (kind : Kind) (words : List ℕ) (a : ℕ) → can_write w (word words 1) 4 ≡ true → can_write w (word words 2) 4 ≡ true → may w.pools (Allocate kind (word words 3) a) ≡ true
    → allocate_descriptor w kind words ≡ PicksDescriptor kind (word words 3) (reply_with w kind words) (λ a. with_live w (after w.pools (Allocate kind (word words 3) a)))
picked w kind words a one two can =
    let pool = pool_of w.pools (word words 3) in
    let of_kind = both (is_pool_of kind pool) (is_place_of_pool pool a && not (is_some (descriptor_at w.pools a))) can in
    let full = not_full w.pools kind pool a can in
    rw one (rw two (rw of_kind.0 (rw full refl)))

pub descriptor_given : (w : World) (kind : Kind) (words : List ℕ) (a : ℕ) (pools : LiveSet) (answer : Answer) → can_write w (word words 1) 4 ≡ true → can_write w (word words 2) 4 ≡ true
    → Makes w.pools (Allocate kind (word words 3) a) pools → answer ≡ Now (reply_with w kind words a) → Comes (allocate_descriptor w kind words) w (Ok answer) (with_live w pools)
descriptor_given w kind words a pools answer one two makes is =
    subst (λ (o : Outcome). Comes o w (Ok answer) (with_live w pools)) (sym (picked w kind words a one two makes.may))
    (subst (λ (answer : Answer). Comes (PicksDescriptor kind (word words 3) (reply_with w kind words) (λ a. with_live w (after w.pools (Allocate kind (word words 3) a)))) w (Ok answer) (with_live w pools)) (sym is)
    (a, makes.may, refl, ap (with_live w) makes.after))

pub descriptor_wanted : (w : World) (kind : Kind) (words : List ℕ) (a : ℕ) (made pools : LiveSet) → can_write w (word words 1) 4 ≡ true → can_write w (word words 2) 4 ≡ true
    → Makes w.pools (Allocate kind (word words 3) a) made → pools ≡ w.pools → Comes (allocate_descriptor w kind words) w (Err OutOfMemory) (with_live w pools)
descriptor_wanted w kind words a made pools one two makes same =
    subst (λ (o : Outcome). Comes o w (Err OutOfMemory) (with_live w pools)) (sym (picked w kind words a one two makes.may)) (ap (with_live w) same)
