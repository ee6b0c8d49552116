-- No import's row moves the clock, writes to memory or changes the layout: replies do, and charges.
use Rattle.std.proofs.Common.{rules, ◌≡◌, ℕ, zero, suc, Bool, true, false, cond, List, [], ◌∷◌, slice_index_or, slice_set, refl, sym, ap, ◌∙◌, subst, Option, Some, None, Result, Ok, Err}
use Rattle.std.specs.Prelude.{⊤, ◌&&◌, ◌-◌, nat_le, length, take, drop, IsSome}
use Rattle.std.specs.Option.{option_map}
use Rattle.nd_base.specs.declared.numbers.AdapterNo.{AdapterNo}
use Rattle.nd_base.specs.declared.numbers.Breach.{Breach}
use Rattle.nd_base.specs.declared.numbers.CtxNo.{CtxNo}
use Rattle.nd_base.specs.declared.numbers.Addr.{Addr}
use Rattle.irql_lock.specs.declared.states.Context.{Context}
use Rattle.irql_lock.specs.declared.states.Holding.{Holding}
use Rattle.irql_lock.specs.LockState.{LockState, level_of, context_of, IsOpen, lock_at, holder_of}
use Rattle.irql_lock.specs.LockMoves.{Raise, Lower, Acquire, Release, Make, Free, with_context, at_level, allow, acquired, spinning, released, put_back, moved, lock_rule}
use Rattle.irql_lock.specs.LockMoves as locks
use Rattle.dp8390.specs.declared.board.Board.{Board}
use Rattle.dp8390.specs.RemoteDma.{after_data_reads}
use Rattle.dp8390.specs.Card.{after_read, after_write, after_take}
use Rattle.packet_pool.specs.declared.states.Kind.{Kind}
use Rattle.packet_pool.specs.declared.states.PoolRefusal.{PoolRefusal}
use Rattle.import_table.specs.Table.{Row}
use Rattle.guest_world.specs.declared.adapters.Adapter.{Adapter}
use Rattle.guest_world.specs.declared.adapters.Attributes.{Attributes}
use Rattle.guest_world.specs.declared.adapters.Interrupt.{Interrupt}
use Rattle.guest_world.specs.declared.miniport.Miniport.{Miniport}
use Rattle.guest_world.specs.declared.world.World.{World}
use Rattle.guest_world.specs.declared.answer.Caller.{Caller}
use Rattle.guest_world.specs.Worlds.{with_adapter, changed, adapter_of}
use Rattle.legal_run.specs.Laws.{CallKeeps, KeepsPart}
use Rattle.import_answers.specs.Outcomes.{Outcome, Replies, Picks, PicksDescriptor, Spins, Sleeps, Synchronizes, Comes, asks, arguments_rule}
use Rattle.guest_world.specs.declared.answer.Answer.{Answer}
use Rattle.guest_world.specs.declared.answer.Answer.TheVariants.{Now, Spin, Sleep, Sync}
use Rattle.import_answers.specs.Resources as q
use Rattle.import_answers.specs.Registration as r
use Rattle.import_answers.specs.Configuration as c
use Rattle.import_answers.specs.Timers as t
use Rattle.import_answers.specs.Descriptors as d
use Rattle.import_answers.specs.Levels as l
use Rattle.import_answers.specs.Ports as ports
use Rattle.import_answers.specs.Answers.{Answering, answering, none_such, level_rule, eight, outcome}

-- the world behind what comes of a call
abbrev pub KeepsIn : World → Outcome → Type 0
KeepsIn w (Replies reply v) = CallKeeps w v
KeepsIn w (Picks n reply v) = (a : ℕ) → CallKeeps w (v a)
KeepsIn w (PicksDescriptor kind handle reply v) = (a : ℕ) → CallKeeps w (v a)
KeepsIn w (Spins holder v) = CallKeeps w v
KeepsIn w _ = ⊤

part_kept : (part : Option Adapter) → KeepsPart part part
part_kept None = tt
part_kept (Some p) = (refl, refl, λ h. h)

kept : (w : World) → CallKeeps w w
kept w = record { moment = refl; memory = refl; layout = refl; opened = λ y h. h; parts = λ a. part_kept (slice_index_or w.adapters a None) }

-- a record that changed in another field
same : {w v : World} → v.clock.clock ≡ w.clock.clock → v.memory ≡ w.memory → v.layout ≡ w.layout → v.levels ≡ w.levels → v.adapters ≡ w.adapters → CallKeeps w v
same {w = w} {v = v} one two three four five = record {
  moment = one;
  memory = two;
  layout = three;
  opened = λ y h. subst (λ (s : LockState). IsOpen s y) (sym four) h;
  parts = λ a. subst (λ (l : List (Option Adapter)). KeepsPart (slice_index_or w.adapters a None) (slice_index_or l a None)) (sym five) (part_kept _);
}

-- ---- a list of which one place changed

set_open : (l : List (Option Context)) (i j : ℕ) (v : Option Context) → (IsSome (slice_index_or l i None) → IsSome v) → IsSome (slice_index_or l j None) → IsSome (slice_index_or (slice_set l i v) j None)
set_open [] i j v f h = absurd (cc)
set_open (x ∷ l) zero zero v f h = f h
set_open (x ∷ l) zero (suc j) v f h = h
set_open (x ∷ l) (suc i) zero v f h = h
set_open (x ∷ l) (suc i) (suc j) v f h = set_open l i j v f h

set_part : (l : List (Option Adapter)) (i j : ℕ) (p q : Adapter) → slice_index_or l i None ≡ Some p → KeepsPart (Some p) (Some q)
    → KeepsPart (slice_index_or l j None) (slice_index_or (slice_set l i (Some q)) j None)
set_part [] i j p q is keeps = tt
set_part (x ∷ l) zero zero p q is keeps = subst (λ (o : Option Adapter). KeepsPart o (Some q)) (sym is) keeps
set_part (x ∷ l) zero (suc j) p q is keeps = part_kept _
set_part (x ∷ l) (suc i) zero p q is keeps = part_kept x
set_part (x ∷ l) (suc i) (suc j) p q is keeps = set_part l i j p q is keeps

asked : (w : World) (b : Bool) (rule : ℕ) (o : Outcome) → KeepsIn w o → KeepsIn w (asks b rule o)
asked w true rule o h = h
asked w false rule o h = tt

either : (w : World) (b : Bool) (o u : Outcome) → KeepsIn w o → KeepsIn w u → KeepsIn w (cond b o u)
either w true o u one other = one
either w false o u one other = other

change_keeps : (w : World) (a : ℕ) (f : Adapter → Adapter) (part : Option Adapter) → slice_index_or w.adapters a None ≡ part
    → ((p : Adapter) → part ≡ Some p → KeepsPart (Some p) (Some (f p))) → CallKeeps w (changed w a f part)
change_keeps w a f None is keeps = kept w
change_keeps w a f (Some p) is keeps = record {
  moment = refl;
  memory = refl;
  layout = refl;
  opened = λ y h. h;
  parts = λ b. set_part w.adapters a b p (f p) is (keeps p refl);
}

adapter_keeps : (w : World) (a : Option AdapterNo) (f : Adapter → Adapter) → ((p : Adapter) → adapter_of w a ≡ Some p → KeepsPart (Some p) (Some (f p))) → CallKeeps w (with_adapter w a f)
adapter_keeps w None f keeps = kept w
adapter_keeps w (Some a) f keeps = change_keeps w a.0 f (adapter_of w (Some a)) refl keeps

-- ---- by group

registers_keeps : (w : World) (m : Result Miniport ℕ) → KeepsIn w (r.registers w m)
registers_keeps w (Ok m) = same refl refl refl refl refl
registers_keeps w (Err status) = kept w

-- what is given of an adapter is kept beside what the machine has
given_keeps : (p q : Adapter) → q.hardware ≡ p.hardware → q.params ≡ p.params → q.card ≡ p.card → KeepsPart (Some p) (Some q)
given_keeps p q one two three = (one, two, λ h. ap (λ card. card.sent) three ∙ h)

attributes_keep : (w : World) (b : Bool) (a : Option AdapterNo) (given : Attributes) → CallKeeps w (cond b (r.with_attributes w a given) w)
attributes_keep w true a given = adapter_keeps w a (λ x. record x { attributes = Some given }) (λ p is. given_keeps p (record p { attributes = Some given }) refl refl refl)
attributes_keep w false a given = kept w

opened_keeps : (w : World) (a : Option AdapterNo) → CallKeeps w (c.opened w a)
opened_keeps w a = adapter_keeps w a (λ x. record x { opened = true }) (λ p is. given_keeps p (record p { opened = true }) refl refl refl)

interrupt_keeps : (w : World) (a : Option AdapterNo) (given : Option Interrupt) → CallKeeps w (q.with_interrupt w a given)
interrupt_keeps w a given = adapter_keeps w a (λ x. record x { interrupt = given }) (λ p is. given_keeps p (record p { interrupt = given }) refl refl refl)

value_keeps : (w : World) (words : List ℕ) (read : Option c.Read) → KeepsIn w (c.given_value w words read)
value_keeps w words None = kept w
value_keeps w words (Some read) = search (rules, kept, same)

address_keeps : (w : World) (words : List ℕ) (bytes : Option (List ℕ)) → KeepsIn w (c.given_address w words bytes)
address_keeps w words None = kept w
address_keeps w words (Some bytes) = search (rules, kept, same)

timer_keeps : (w : World) (a : Option AdapterNo) (words : List ℕ) → CallKeeps w (t.with_timer w a words)
timer_keeps w None words = kept w
timer_keeps w (Some a) words = same refl refl refl refl refl

pool_keeps : (w : World) (kind : Kind) (words : List ℕ) (refusal : Option PoolRefusal) → KeepsIn w (d.given_pool w kind words refusal)
pool_keeps w kind words (Some refusal) = kept w
pool_keeps w kind words None = same refl refl refl refl refl

unchained_keeps : (w : World) (words : List ℕ) (head : ℕ) → KeepsIn w (d.unchained w words head)
unchained_keeps w words zero = search (rules, kept, same)
unchained_keeps w words (suc head) = search (rules, kept, same)

totalled_keeps : (w : World) (words : List ℕ) (head : ℕ) (total : Option ℕ) → KeepsIn w (d.totalled w words head total)
totalled_keeps w words head None = tt
totalled_keeps w words head (Some total) = search (rules, kept, same)

first_keeps : (w : World) (words : List ℕ) (head : ℕ) → KeepsIn w (d.first_buffer w words head)
first_keeps w words zero = search (rules, kept, same)
first_keeps w words (suc head) = totalled_keeps w words (suc head) _

-- ---- levels: a context that is open stays open

abbrev OpensAlike : LockState → LockState → Type 0
OpensAlike s t = (y : CtxNo) → IsOpen s y → IsOpen t y

changed_some : (o : Option Context) (f : Context → Context) → IsSome o → IsSome (option_map f o)
changed_some None f h = absurd (cc)
changed_some (Some x) f h = refl

with_context_opens : (s : LockState) (x : CtxNo) (f : Context → Context) → OpensAlike s (with_context s x f)
with_context_opens s x f y h = set_open s.contexts x.0 y.0 _ (changed_some (context_of s x) f) h

levels_keep : (w : World) (t : LockState) → OpensAlike w.levels t → CallKeeps w (l.with_levels w t)
levels_keep w t alike = record { moment = refl; memory = refl; layout = refl; opened = alike; parts = λ a. part_kept (slice_index_or w.adapters a None) }

abbrev ResultOpens : LockState → Result LockState Breach → Type 0
ResultOpens s (Ok t) = OpensAlike s t
ResultOpens s (Err broken) = ⊤

allowed : (s t : LockState) (b : Bool) (rule : Breach) → OpensAlike s t → ResultOpens s (allow b rule t)
allowed s t true rule h = h
allowed s t false rule h = tt

acquired_opens : (s : LockState) (x : CtxNo) (lock : Addr) (dpr : Bool) (found : Option (Option Holding)) → ResultOpens s (acquired s x lock dpr found)
acquired_opens s x lock dpr None = tt
acquired_opens s x lock dpr (Some None) = with_context_opens s x _
acquired_opens s x lock dpr (Some (Some h)) = allowed s (spinning s x lock) _ lock_rule (with_context_opens s x _)

released_opens : (s : LockState) (x : CtxNo) (lock : Addr) (dpr : Bool) (found : Option (Option Holding)) → ResultOpens s (released s x lock dpr found)
released_opens s x lock dpr (Some (Some h)) = allowed s (put_back s x lock dpr h.before) _ lock_rule (with_context_opens s x _)
released_opens s x lock dpr None = tt
released_opens s x lock dpr (Some None) = tt

raise_opens : (s : LockState) (x : CtxNo) (to : ℕ) → ResultOpens s (moved s (Raise x to))
raise_opens s x to = allowed s (at_level s x to) _ locks.level_rule (with_context_opens s x _)

lower_opens : (s : LockState) (x : CtxNo) (to : ℕ) → ResultOpens s (moved s (Lower x to))
lower_opens s x to = allowed s (at_level s x to) _ locks.level_rule (with_context_opens s x _)

acquire_opens : (s : LockState) (x : CtxNo) (lock : Addr) (dpr : Bool) → ResultOpens s (moved s (Acquire x lock dpr))
acquire_opens s x lock dpr = acquired_opens s x lock dpr (lock_at s lock)

release_opens : (s : LockState) (x : CtxNo) (lock : Addr) (dpr : Bool) → ResultOpens s (moved s (Release x lock dpr))
release_opens s x lock dpr = released_opens s x lock dpr (lock_at s lock)

make_opens : (s : LockState) (lock : Addr) → ResultOpens s (moved s (Make lock))
make_opens s lock = allowed s _ _ lock_rule (λ y h. h)

free_opens : (s : LockState) (lock : Addr) → ResultOpens s (moved s (Free lock))
free_opens s lock = allowed s _ _ lock_rule (λ y h. h)

move_keeps : (w : World) (eax : ℕ) (r : Result LockState Breach) → ResultOpens w.levels r → KeepsIn w (l.after_move w eax r)
move_keeps w eax (Ok t) h = levels_keep w t h
move_keeps w eax (Err broken) h = tt

spin_keeps : (w : World) (holder : Option CtxNo) (r : Result LockState Breach) → ResultOpens w.levels r → KeepsIn w (l.got_or_spins w holder r)
spin_keeps w None (Ok t) h = levels_keep w t h
spin_keeps w (Some holder) (Ok t) h = levels_keep w t h
spin_keeps w holder (Err broken) h = tt

-- ---- cards: where no frame waits, none does behind an access

data_reads_sent : (card : Board) (n : ℕ) → (after_data_reads card n).sent ≡ card.sent
unfolding after_data_reads
data_reads_sent card zero = refl
data_reads_sent card (suc n) = let rest = data_reads_sent card n in search rules

read_sent : (card : Board) (port n : ℕ) → (after_read card port n).sent ≡ card.sent
read_sent card port n = let rest = data_reads_sent card n in search rules

reads_sent : (card : Board) (port width n : ℕ) → (ports.reads card port width n).1.sent ≡ card.sent
unfolding ports.reads
reads_sent card port width zero = refl
reads_sent card port width (suc n) = reads_sent (after_read card port width) port width n ∙ read_sent card port width

puts_sent : (card : Board) (port width : ℕ) (bytes : List ℕ) (n : ℕ) → card.sent ≡ None → (ports.puts card port width bytes n).1.sent ≡ None
unfolding ports.puts
puts_sent card port width bytes zero h = h
puts_sent card port width bytes (suc n) h = puts_sent (after_take (after_write card port (take width bytes))) port width (drop width bytes) n refl

card_keeps : (w : World) (a : Option AdapterNo) (card : Board) → ((p : Adapter) → adapter_of w a ≡ Some p → p.card.sent ≡ None → card.sent ≡ None) → CallKeeps w (ports.with_card w a card)
card_keeps w a card h = adapter_keeps w a (λ x. record x { card = card }) (λ p is. (refl, refl, λ none. h p is none))

-- the card of an adapter that is there
its_card : (w : World) (a : Option AdapterNo) (part : Adapter) → adapter_of w a ≡ Some part → part.card.sent ≡ None → (ports.card_of w a).sent ≡ None
its_card w a part is none = ap (λ o. (ports.card_in o).sent) is ∙ none

read_keeps : (w : World) (x : Caller) (words : List ℕ) (width : ℕ) (port : Option ℕ) → KeepsIn w (ports.read_port w x words width port)
read_keeps w x words width None = kept w
read_keeps w x words width (Some port) = card_keeps w x.adapter _ (λ part is none. read_sent (ports.card_of w x.adapter) port width ∙ its_card w x.adapter part is none)

write_keeps : (w : World) (x : Caller) (words : List ℕ) (width : ℕ) (port : Option ℕ) → KeepsIn w (ports.write_port w x words width port)
write_keeps w x words width None = kept w
write_keeps w x words width (Some port) = card_keeps w x.adapter _ (λ part is none. puts_sent (ports.card_of w x.adapter) port width _ 1 (its_card w x.adapter part is none))

reads_keep : (w : World) (x : Caller) (words : List ℕ) (width : ℕ) (port : Option ℕ) → KeepsIn w (ports.read_buffer w x words width port)
reads_keep w x words width None = kept w
reads_keep w x words width (Some port) = card_keeps w x.adapter _ (λ part is none. reads_sent (ports.card_of w x.adapter) port width _ ∙ its_card w x.adapter part is none)

writes_keep : (w : World) (x : Caller) (words : List ℕ) (width : ℕ) (port : Option ℕ) → KeepsIn w (ports.write_buffer w x words width port)
writes_keep w x words width None = kept w
writes_keep w x words width (Some port) = card_keeps w x.adapter _ (λ part is none. puts_sent (ports.card_of w x.adapter) port width _ _ (its_card w x.adapter part is none))

-- ---- all rows

abbrev pub RowKeeps : Answering → Type 0
RowKeeps f = (w : World) (x : Caller) (words : List ℕ) → KeepsIn w (f w x words)

abbrev pub AllKeep : List Answering → Type 0
AllKeep [] = ⊤
AllKeep (f ∷ fs) = RowKeeps f × AllKeep fs

all_keep : AllKeep answering
unfolding answering
all_keep = (
  (λ w x words. search (rules, kept, same)),
  (
    (λ w x words. kept w),
    (
      (λ w x words. search (rules, kept, same, registers_keeps)),
      (
        (λ w x words. move_keeps w _ _ (raise_opens w.levels x.context _)),
        (
          (λ w x words. move_keeps w _ _ (lower_opens w.levels x.context _)),
          (
            (λ w x words. let h = attributes_keep w (r.is_initialize x.handler) x.adapter (r.attributes words) in search (rules, kept)),
            (
              (λ w x words. let h = opened_keeps w x.adapter in search (rules, kept)),
              (
                (λ w x words. search (rules, kept, same, value_keeps)),
                (
                  (λ w x words. search (rules, kept, same)),
                  (
                    (λ w x words. search (rules, kept, same, address_keeps)),
                    (
                      (λ w x words. search (rules, kept, same)),
                      (
                        (λ w x words. search (rules, kept, same)),
                        (
                          (λ w x words. let h = interrupt_keeps w x.adapter (Some (q.interrupt words)) in search (rules, kept)),
                          (
                            (λ w x words. let h = interrupt_keeps w x.adapter None in search (rules, kept)),
                            (
                              (λ w x words. search (rules, kept, same)),
                              (
                                (λ w x words. search (rules, kept, same, timer_keeps)),
                                (
                                  (λ w x words. search (rules, kept, same)),
                                  (
                                    (λ w x words. search (rules, kept, same)),
                                    (
                                      (λ w x words. search (rules, kept, same)),
                                      (
                                        (λ w x words. tt),
                                        (
                                          (λ w x words. search (rules, kept, same)),
                                          (
                                            (λ w x words. search (rules, kept, same)),
                                            (
                                              (λ w x words. search (rules, kept, same, pool_keeps)),
                                              (
                                                (λ w x words. search (rules, kept, same)),
                                                (
                                                  (λ w x words. search (rules, kept, same)),
                                                  (
                                                    (λ w x words. search (rules, kept, same)),
                                                    (
                                                      (λ w x words. search (rules, kept, same, pool_keeps)),
                                                      (
                                                        (λ w x words. search (rules, kept, same)),
                                                        (
                                                          (λ w x words. search (rules, kept, same)),
                                                          (
                                                            (λ w x words. search (rules, kept, same)),
                                                            (
                                                              (λ w x words. search (rules, kept, same, unchained_keeps)),
                                                              (
                                                                (λ w x words. search (rules, kept, same)),
                                                                (
                                                                  (λ w x words. move_keeps w _ _ (make_opens w.levels _)),
                                                                  (
                                                                    (λ w x words. move_keeps w _ _ (free_opens w.levels _)),
                                                                    (
                                                                      (λ w x words. spin_keeps w (holder_of w.levels (l.lock_in words)) _ (acquire_opens w.levels x.context (l.lock_in words) false)),
                                                                      (
                                                                        (λ w x words. move_keeps w 0 _ (release_opens w.levels x.context (l.lock_in words) false)),
                                                                        (
                                                                          (λ w x words. spin_keeps w (holder_of w.levels (l.lock_in words)) _ (acquire_opens w.levels x.context (l.lock_in words) true)),
                                                                          (
                                                                            (λ w x words. move_keeps w 0 _ (release_opens w.levels x.context (l.lock_in words) true)),
                                                                            (
                                                                              (λ w x words. search (rules, kept, same)),
                                                                              (
                                                                                (λ w x words. search (rules, kept, same)),
                                                                                (
                                                                                  (λ w x words. search (rules, kept, same)),
                                                                                  (
                                                                                    (λ w x words. search (rules, kept, same)),
                                                                                    (
                                                                                      (λ w x words. search (rules, kept, same)),
                                                                                      (
                                                                                        (λ w x words. search (rules, kept, same)),
                                                                                        (
                                                                                          (λ w x words. search (rules, kept, same)),
                                                                                          (
                                                                                            (λ w x words. search (rules, kept, same)),
                                                                                            (
                                                                                              (λ w x words. search (rules, kept, same)),
                                                                                              (
                                                                                                (λ w x words. search (rules, kept, same)),
                                                                                                (
                                                                                                  (λ w x words. search (rules, kept, same)),
                                                                                                  (
                                                                                                    (λ w x words. search (rules, kept, same)),
                                                                                                    (
                                                                                                      (λ w x words. search (rules, kept, same)),
                                                                                                      (
                                                                                                        (λ w x words. search (rules, kept, same, first_keeps)),
                                                                                                        (
                                                                                                          (λ w x words. read_keeps w x words 1 _),
                                                                                                          (
                                                                                                            (λ w x words. read_keeps w x words 2 _),
                                                                                                            (
                                                                                                              (λ w x words. write_keeps w x words 1 _),
                                                                                                              (
                                                                                                                (λ w x words. write_keeps w x words 2 _),
                                                                                                                (
                                                                                                                  (λ w x words. search (rules, kept, same, reads_keep)),
                                                                                                                  (
                                                                                                                    (λ w x words. search (rules, kept, same, reads_keep)),
                                                                                                                    (
                                                                                                                      (λ w x words. search (rules, kept, same, writes_keep)),
                                                                                                                      (
                                                                                                                        (λ w x words. search (rules, kept, same, writes_keep)),
                                                                                                                        (
                                                                                                                          (λ w x words. kept w),
                                                                                                                          (
                                                                                                                            (λ w x words. search (rules, kept, same)),
                                                                                                                            (
                                                                                                                              (λ w x words. search (rules, kept, same)),
                                                                                                                              (
                                                                                                                                (λ w x words. kept w),
                                                                                                                                tt,
                                                                                                                              ),
                                                                                                                            ),
                                                                                                                          ),
                                                                                                                        ),
                                                                                                                      ),
                                                                                                                    ),
                                                                                                                  ),
                                                                                                                ),
                                                                                                              ),
                                                                                                            ),
                                                                                                          ),
                                                                                                        ),
                                                                                                      ),
                                                                                                    ),
                                                                                                  ),
                                                                                                ),
                                                                                              ),
                                                                                            ),
                                                                                          ),
                                                                                        ),
                                                                                      ),
                                                                                    ),
                                                                                  ),
                                                                                ),
                                                                              ),
                                                                            ),
                                                                          ),
                                                                        ),
                                                                      ),
                                                                    ),
                                                                  ),
                                                                ),
                                                              ),
                                                            ),
                                                          ),
                                                        ),
                                                      ),
                                                    ),
                                                  ),
                                                ),
                                              ),
                                            ),
                                          ),
                                        ),
                                      ),
                                    ),
                                  ),
                                ),
                              ),
                            ),
                          ),
                        ),
                      ),
                    ),
                  ),
                ),
              ),
            ),
          ),
        ),
      ),
    ),
  ),
)

at_keeps : (fs : List Answering) → AllKeep fs → (n : ℕ) → RowKeeps (slice_index_or fs n none_such)
at_keeps [] all n w x words = tt
at_keeps (f ∷ fs) all zero w x words = all.0 w x words
at_keeps (f ∷ fs) all (suc n) w x words = at_keeps fs all.1 n w x words

pub outcome_keeps : (w : World) (x : Caller) (row : Row) (words : List ℕ) → KeepsIn w (outcome w x row words)
outcome_keeps w x row words =
    asked w (nat_le row.low (level_of w.levels x.context) && nat_le (level_of w.levels x.context) row.high) level_rule _
    (asked w (nat_le row.words (length words)) arguments_rule _ (at_keeps answering all_keep (row.import - 1) w x (eight words)))

-- ---- whatever a call answers where no rule is broken

came : (w v : World) (o : Outcome) (answer : Answer) → KeepsIn w o → Comes o w (Ok answer) v → CallKeeps w v
came w v (Replies reply after) (Now given) keeps h = subst (CallKeeps w) (sym h.1) keeps
came w v (Picks n reply after) (Now given) keeps h = subst (CallKeeps w) (sym h.3) (keeps h.0)
came w v (PicksDescriptor kind handle reply after) (Now given) keeps h = subst (CallKeeps w) (sym h.3) (keeps h.0)
came w v (Spins holder after) (Spin other) keeps h = subst (CallKeeps w) (sym h.1) keeps
came w v (Sleeps moment) (Sleep wake) keeps h = subst (CallKeeps w) (sym h.1) (kept w)
came w v Synchronizes Sync keeps h = subst (CallKeeps w) (sym h) (kept w)
came w v _ _ keeps h = absurd h

pub calls_keep : (w v : World) (x : Caller) (row : Row) (words : List ℕ) (answer : Answer) → Comes (outcome w x row words) w (Ok answer) v → CallKeeps w v
calls_keep w v x row words answer h = came w v (outcome w x row words) answer (outcome_keeps w x row words) h
