-- What a call does that its row answers at once, of the imports that are served.
use Rattle.std.proofs.Common.{◌≡◌, ℕ, ◌≤◌, Bool, true, false, ◌&&◌, ◌==◌, not, if◌then◌else◌, List, [], ◌∷◌, map, Option, Some, None, Ok, refl, sym, ap, ◌∙◌, subst, arith, Vec, Global, nat_le, length}
use Rattle.std.specs.List.{AllByRecursion}
use Rattle.nd_base.specs.declared.numbers.AdapterNo.{AdapterNo}
use Rattle.nd_base.specs.declared.numbers.CtxNo.{CtxNo}
use Rattle.log_fields.specs.declared.write.Write.{Write}
use Rattle.call_log.specs.declared.entry.Entry.{Entry}
use Rattle.call_log.specs.declared.entry.Entry.TheVariants as entries
use Rattle.import_table.specs.Table.{row_of, rows}
use Rattle.guest_world.specs.declared.answer.Answer.TheVariants.{Now}
use Rattle.guest_world.specs.declared.answer.Caller.{Caller}
use Rattle.guest_world.specs.declared.answer.Reply.{Reply}
use Rattle.guest_world.specs.declared.world.World.{World}
use Rattle.import_answers.specs.Outcomes.{Outcome, Breaks, Replies, Picks, PicksDescriptor, Spins, Sleeps, Synchronizes, Comes, arguments_rule, asks, done, live_rule}
use Rattle.irql_lock.specs.LockState.{level_of}
use Rattle.packet_pool.specs.declared.states.Kind.TheVariants.{Packet}
use Rattle.import_answers.specs.Descriptors.{is_live}
use Rattle.import_answers.specs.World.{is_adapter_handle}
use Rattle.import_answers.specs.Answers.{answering, eight, level_rule, outcome}
use Rattle.import_answers.specs.World.{word}
use Rattle.import_answers.specs.Ports.{offset_of_port}
use Rattle.import_answers.specs.Statuses.{pending}
use Rattle.owner_machine.specs.Contexts.{send_complete, indicate_receive_packet, reset_complete, query_complete, set_complete}
use Rattle.owner_machine.specs.Packets.{at_miniport}
use Rattle.legal_run.specs.State.{State, adapter, adapter_of, caller}
use Rattle.legal_run.specs.Calls.{Did, Broken, Waits, Made, by_outcome, completion, did, ending_of, handed_at, indication, is_port_call, makes, needs, outcome_of, port_entries, request_end, reset_end, served, width_of}
use Rattle.run_calls.specs.Answering.{IsAnswer, IsLight, is_served}
use Rattle.import_table.specs.declared.calls.Call.{Call}
use Rattle.guest_calls.specs.Rows.{words_of}
use Rattle.call_verdicts.specs.Deeds.{CanServe, did_as}
use Rattle.call_verdicts.specs.declared.deeds.Deed.{Deed}
use Rattle.call_verdicts.specs.declared.deeds.Deed.TheVariants as deeds
use Rattle.log_fields.specs.declared.write_list.Writes.{Writes}
use Rattle.run_calls.proofs.Rules.{IsRule}

-- it breaks one of the fourteen rules, or makes entries that change no world
abbrev pub IsServed : Did → Type 0
IsServed (Broken rule) = IsRule rule
IsServed (Waits wait) = ⊥
IsServed (Made es lent writes) = (lent ≡ []) × ((writes ≡ []) × AllByRecursion IsLight es)

-- ---- by import

chosen : (P : Did → Type 0) (b1 b2 b3 b4 b5 b6 : Bool) (a1 a2 a3 a4 a5 a6 z : Did) → not b2 && (not b3 && (not b4 && not b5)) ≡ true → (b1 ≡ true → P a1) → P a6 → P z
    → P (if b1 then a1 else if b2 then a2 else if b3 then a3 else if b4 then a4 else if b5 then a5 else if b6 then a6 else z)
chosen P true b2 b3 b4 b5 b6 a1 a2 a3 a4 a5 a6 z h one six last = one refl
chosen P false true b3 b4 b5 b6 a1 a2 a3 a4 a5 a6 z h one six last = absurd (cc)
chosen P false false true b4 b5 b6 a1 a2 a3 a4 a5 a6 z h one six last = absurd (cc)
chosen P false false false true b5 b6 a1 a2 a3 a4 a5 a6 z h one six last = absurd (cc)
chosen P false false false false true b6 a1 a2 a3 a4 a5 a6 z h one six last = absurd (cc)
chosen P false false false false false true a1 a2 a3 a4 a5 a6 z h one six last = six
chosen P false false false false false false a1 a2 a3 a4 a5 a6 z h one six last = last

by_import : (P : Did → Type 0) (s : State) (a : AdapterNo) (import : ℕ) (words : List ℕ) (reply : Reply) → is_served import ≡ true
    → (import == send_complete ≡ true → P (completion s (word words 3) (handed_at s a.0 (word words 2)))) → P (makes (port_entries s a.0 import words reply (offset_of_port s.world (Some a) (word words 1)))) → P (makes [])
    → P (served s (Some a) import words reply)
by_import P s a import words reply plain one six last =
    chosen P (import == send_complete) (import == indicate_receive_packet) (import == reset_complete) (import == query_complete) (import == set_complete) (is_port_call import)
    (completion s (word words 3) (handed_at s a.0 (word words 2))) (indication s a.0 (word words 2) (word words 3)) (reset_end s a.0 (word words 2)) (request_end s a.0 false (word words 2)) (request_end s a.0 true (word words 2))
    (makes (port_entries s a.0 import words reply (offset_of_port s.world (Some a) (word words 1)))) (makes []) plain one six last

-- ---- what they make

ending_light : (s : State) (k status : ℕ) → IsLight (ending_of s k status)
ending_light s k status = by (at_miniport s.owner k)
  where
    by : (b : Bool) → IsLight (if b then entries.Complete (record { 0 = k }) (record { 0 = status }) else entries.Late (record { 0 = k }))
    by true = (refl, tt)
    by false = (refl, tt)

completion_served : (s : State) (status : ℕ) (packet : Option ℕ) → IsServed (completion s status packet)
completion_served s status None = (omega arith, omega arith)
completion_served s status (Some k) = by (status == pending)
  where
    by : (b : Bool) → IsServed (needs (not b) 10 (makes (ending_of s k status ∷ [])))
    by true = (omega arith, omega arith)
    by false = (refl, (refl, (ending_light s k status, tt)))

wide : (import : ℕ) → (1 ≤ width_of import) × (width_of import ≤ 2)
wide import = (omega arith, omega arith)

frames_light : (a : ℕ) (frames : List (List ℕ)) → AllByRecursion IsLight (map (λ (frame : List ℕ). entries.WireOut (adapter a) frame) frames)
frames_light a [] = tt
frames_light a (frame ∷ frames) = ((refl, tt), frames_light a frames)

port_light : (s : State) (a import : ℕ) (words : List ℕ) (reply : Reply) (port : Option ℕ) → AllByRecursion IsLight (port_entries s a import words reply port)
port_light s a import words reply None = tt
port_light s a import words reply (Some port) = ((refl, wide import), frames_light a reply.sent)

served_is : (s : State) (a : Option AdapterNo) (import : ℕ) (words : List ℕ) (reply : Reply) → is_served import ≡ true → IsServed (served s a import words reply)
served_is s None import words reply plain = (refl, (refl, tt))
served_is s (Some a) import words reply plain =
    by_import IsServed s a import words reply plain (λ _. completion_served s (word words 3) (handed_at s a.0 (word words 2))) (refl, (refl, port_light s a.0 import words reply (offset_of_port s.world (Some a) (word words 1)))) (refl, (refl, tt))

outcome_is : (s : State) (a : Option AdapterNo) (import : ℕ) (words : List ℕ) (o : Outcome) (w v : World) (reply : Reply) → is_served import ≡ true → Comes o w (Ok (Now reply)) v → IsServed (by_outcome s a import words o)
outcome_is s a import words (Replies given after) w v reply plain h = served_is s a import words given plain
outcome_is s a import words (Picks n given after) w v reply plain h = (refl, (refl, tt))
outcome_is s a import words (PicksDescriptor kind handle given after) w v reply plain h = (refl, (refl, tt))
outcome_is s a import words (Breaks rule) w v reply plain h = absurd h
outcome_is s a import words (Sleeps moment) w v reply plain h = absurd h
outcome_is s a import words (Spins holder after) w v reply plain h = absurd h
outcome_is s a import words Synchronizes w v reply plain h = absurd h

pub did_served : (s : State) (x : CtxNo) (import : ℕ) (words : List ℕ) (reply : Reply) (v : World) → is_served import ≡ true → IsAnswer s x import words reply v → IsServed (did s x import words)
did_served s x import words reply v plain h = outcome_is s (adapter_of s x.0) import words (outcome_of s x import words) s.world v reply plain h

-- ---- a call that breaks a rule here is NdisMSendComplete, which leaves the world as it was

abbrev Same : World → World → Outcome → Type 0
Same w v o = (reply : Reply) → Comes o w (Ok (Now reply)) v → v ≡ w

asked_same : (w v : World) (b : Bool) (rule : ℕ) (o : Outcome) → Same w v o → Same w v (asks b rule o)
asked_same w v true rule o same = same
asked_same w v false rule o same = λ reply h. absurd h

done_same : (w v : World) → Same w v (done w)
done_same w v reply h = h.1

sent_same : (w v : World) (x : Caller) (words : List ℕ) → Same w v (outcome w x (row_of 39) words)
unfolding answering rows row_of
sent_same w v x words =
    let live = asks (is_live w Packet (word (eight words) 2)) live_rule (done w) in
    let handle = asks (is_adapter_handle x.adapter (word (eight words) 1)) arguments_rule live in
    let whole = asks (nat_le (row_of 39).words (length words)) arguments_rule handle in
    asked_same w v (nat_le (row_of 39).low (level_of w.levels x.context) && nat_le (level_of w.levels x.context) (row_of 39).high) level_rule whole
    (asked_same w v (nat_le (row_of 39).words (length words)) arguments_rule handle
    (asked_same w v (is_adapter_handle x.adapter (word (eight words) 1)) arguments_rule live (asked_same w v (is_live w Packet (word (eight words) 2)) live_rule (done w) (done_same w v))))

is_sent : (s : State) (a : Option AdapterNo) (import : ℕ) (words : List ℕ) (reply : Reply) (rule : ℕ) → is_served import ≡ true → served s a import words reply ≡ Broken rule → import ≡ 39
is_sent s None import words reply rule plain h = absurd (cc)
is_sent s (Some a) import words reply rule plain broken =
    by_import (λ (d : Did). d ≡ Broken rule → import ≡ 39) s a import words reply plain (λ at h. grind (arith, at)) (λ h. absurd (cc)) (λ h. absurd (cc)) broken

breaks_sent : (s : State) (a : Option AdapterNo) (import : ℕ) (words : List ℕ) (o : Outcome) (w v : World) (reply : Reply) (rule : ℕ) → is_served import ≡ true → Comes o w (Ok (Now reply)) v → by_outcome s a import words o ≡ Broken rule → import ≡ 39
breaks_sent s a import words (Replies given after) w v reply rule plain h is = is_sent s a import words given rule plain is
breaks_sent s a import words (Picks n given after) w v reply rule plain h is = absurd (cc)
breaks_sent s a import words (PicksDescriptor kind handle given after) w v reply rule plain h is = absurd (cc)
breaks_sent s a import words (Breaks broken) w v reply rule plain h is = absurd h
breaks_sent s a import words (Sleeps moment) w v reply rule plain h is = absurd h
breaks_sent s a import words (Spins holder after) w v reply rule plain h is = absurd h
breaks_sent s a import words Synchronizes w v reply rule plain h is = absurd h

pub world_stays : (s : State) (x : CtxNo) (import : ℕ) (words : List ℕ) (reply : Reply) (v : World) (rule : ℕ) → is_served import ≡ true → IsAnswer s x import words reply v → did s x import words ≡ Broken rule → v ≡ s.world
world_stays s x import words reply v rule plain h is =
    let sent = breaks_sent s (adapter_of s x.0) import words (outcome_of s x import words) s.world v reply rule plain h is in
    sent_same s.world v (caller s x) words reply (subst (λ (n : ℕ). IsAnswer s x n words reply v) sent h)

-- ---- as it is judged

pub judged_as : (s : State) (x : CtxNo) (call : Call) (import : ℕ) (words : List ℕ) (d e : Deed) → call.import ≡ import → words_of call ≡ words → d ≡ e → did_as d ≡ did s x call.import (words_of call) → did s x import words ≡ did_as e
judged_as s x call import words d e number said is h = ap (did s x import) (sym said) ∙ ap (λ (n : ℕ). did s x n (words_of call)) (sym number) ∙ sym h ∙ ap did_as is

pub made_as : (d : Did) (es : Vec Entry Global) (lent : Vec ℕ Global) (writes : Writes) → d ≡ did_as (deeds.Made es lent writes) → IsServed d → (d ≡ makes es.items) × AllByRecursion IsLight es.items
made_as d es lent writes is served =
    let has = subst IsServed is served in
    (is ∙ ap (λ (l : List ℕ). Made es.items l writes) has.0 ∙ ap (λ (w : List Write). Made es.items [] w) has.1.0, has.1.1)

-- ---- nothing has to be read for them

none_of : (import : ℕ) (b1 b2 b3 b4 : Bool) → not b1 && (not b2 && (not b3 && not b4)) ≡ true → (b1 ≡ false) × ((b3 ≡ false) × (b4 ≡ false))
none_of import true b2 b3 b4 h = absurd (cc)
none_of import false true b3 b4 h = absurd (cc)
none_of import false false true b4 h = absurd (cc)
none_of import false false false true h = absurd (cc)
none_of import false false false false h = (refl, (refl, refl))

is_itself : (m n : ℕ) → (m == n) ≡ false → m ≡ n → ⊥
is_itself m n h same = let yes_it : (m == n) ≡ true = grind (arith, same) in absurd (cc)

pub can_serve : (s : State) (a : Option AdapterNo) (import : ℕ) → is_served import ≡ true → CanServe s a import
can_serve s None import plain = tt
can_serve s (Some a) import plain =
    let none = none_of import (import == indicate_receive_packet) (import == reset_complete) (import == query_complete) (import == set_complete) plain in
    record {
      queries = λ at. absurd (is_itself import query_complete none.1.0 at);
      sets = λ at. absurd (is_itself import set_complete none.1.1 at);
      lends = λ at. absurd (is_itself import indicate_receive_packet none.0 at);
    }
