-- A spin and a reply that are due may stand.
use Rattle.std.proofs.Common.{◌≡◌, ℕ, true, List, [], ◌∷◌, ◌++◌, Option, Some, None, Ok, refl, sym, ap, ◌∙◌, subst}
use Rattle.std.specs.Prelude.{is_some}
use Rattle.std.specs.Option.{option_map, option_or}
use Rattle.std.proofs.lemmas.Bool.{eq-eqb}
use Rattle.nd_base.specs.declared.numbers.Addr.{Addr}
use Rattle.nd_base.specs.declared.numbers.CtxNo.{CtxNo}
use Rattle.log_fields.specs.declared.write.Write.{Write}
use Rattle.call_log.specs.declared.entry.Entry.{Entry}
use Rattle.call_log.specs.declared.entry.Entry.TheVariants as entries
use Rattle.import_table.specs.Table.{row_of}
use Rattle.guest_world.specs.declared.answer.Answer.TheVariants.{Now}
use Rattle.guest_world.specs.declared.answer.Reply.{Reply}
use Rattle.guest_world.specs.declared.world.World.{World}
use Rattle.import_answers.specs.Outcomes.{Outcome, Breaks, Replies, Picks, PicksDescriptor, Spins, Sleeps, Synchronizes, Comes}
use Rattle.owner_machine.specs.declared.rows.Context.{Context}
use Rattle.owner_machine.specs.declared.rows.Context.TheVariants as kept
use Rattle.owner_machine.specs.State.{at}
use Rattle.owner_machine.specs.Contexts.{is_calling, may_be_answered, has_none, has_left}
use Rattle.owner_machine.specs.Must.{Due as OwnerDue, owner_must}
use Rattle.owner_machine.specs.Machine.{rule_against}
use Rattle.legal_run.specs.State.{Inputs, State, Next, Free, Takes, Verdicts, Spinning, Makes, Stops, Calling, Nothing, caller, call_at, start}
use Rattle.legal_run.specs.Calls.{outcome_of}
use Rattle.legal_run.specs.Laws.{is_by_row, RepliesAreTaken}
use Rattle.legal_run.specs.Replies.{Answered, answered, replies}
use Rattle.legal_run.specs.Must.{Owes, Exactly, ReplyOf, next_must, taken_first, must}
use Rattle.legal_run.specs.Run.{Run, Meets, now}
use Rattle.legal_run.specs.EntryLaws.{GoesOn}
use Rattle.run_duties.proofs.Calls.{Calls, Sixteen, NextCalls, HasCall, is_fresh, is_now, at_more, begun, step}
use Rattle.run_duties.proofs.Room.{FirstFree, RoomIn, outcome_room}
use Rattle.run_duties.proofs.Rows.{kept_from, due_meets, goes_by, in_turn}
use Rattle.run_duties.proofs.Listed.{IsListed, listed_now}
use Rattle.run_duties.proofs.Ones.{served_alone}

pub calls_now : Sixteen → (c : Inputs) (log : List Entry) → Run c log → Calls c (now c log)
calls_now sixteen c log run = kept_from c (Calls c) (step sixteen c) (start c) log (begun c) run

-- ---- what is due

record IsSpinning (s : State) (x : CtxNo) : Type 0 where
  pub lock : ℕ
  pub next : s.next ≡ Spinning x lock
  pub nothing : owner_must s.owner ≡ None

spinning : (s : State) (x : CtxNo) (lock : Addr) → IsListed s.next → must s ≡ Some (Exactly (entries.Spin x lock)) → IsSpinning s x
unfolding must
spinning s x lock forced h = by_next s.next refl forced (owner_must s.owner) refl h
  where
    by_next : (n : Next) → s.next ≡ n → IsListed n → (m : Option OwnerDue) → owner_must s.owner ≡ m
        → option_or (taken_first n) (option_or (option_map Owes m) (next_must n)) ≡ Some (Exactly (entries.Spin x lock)) → IsSpinning s x
    by_next (Takes e) is forced m owes h = let same : e ≡ entries.Spin x lock = cc in absurd (cc)
    by_next Free is forced None owes h = absurd (cc)
    by_next (Verdicts []) is forced None owes h = absurd (cc)
    by_next (Verdicts (e ∷ es)) is forced None owes h = let same : e ≡ entries.Spin x lock = cc in let made = forced.0 in absurd (cc)
    by_next (Spinning y l) is forced None owes h = let same : y ≡ x = cc in record { lock = l; next = is ∙ ap (λ z. Spinning z l) same; nothing = owes }
    by_next (Makes y [] lent) is forced None owes h = absurd (cc)
    by_next (Makes y (e ∷ es) lent) is forced None owes h = let same : e ≡ entries.Spin x lock = cc in let made = forced.0 in absurd (cc)
    by_next (Stops why []) is forced None owes h = absurd (cc)
    by_next (Stops why (a ∷ ats)) is forced None owes h = absurd (cc)
    by_next Free is forced (Some d) owes h = absurd (cc)
    by_next (Verdicts es) is forced (Some d) owes h = absurd (cc)
    by_next (Spinning y l) is forced (Some d) owes h = absurd (cc)
    by_next (Makes y es lent) is forced (Some d) owes h = absurd (cc)
    by_next (Stops why ats) is forced (Some d) owes h = absurd (cc)

record IsReplying (s : State) (x : CtxNo) : Type 0 where
  pub lent : List ℕ
  pub next : s.next ≡ Makes x [] lent
  pub nothing : owner_must s.owner ≡ None

replying : (s : State) (x : CtxNo) → must s ≡ Some (ReplyOf x) → IsReplying s x
unfolding must
replying s x h = by_next s.next refl (owner_must s.owner) refl h
  where
    by_next : (n : Next) → s.next ≡ n → (m : Option OwnerDue) → owner_must s.owner ≡ m
        → option_or (taken_first n) (option_or (option_map Owes m) (next_must n)) ≡ Some (ReplyOf x) → IsReplying s x
    by_next (Takes e) is m owes h = absurd (cc)
    by_next Free is None owes h = absurd (cc)
    by_next (Verdicts []) is None owes h = absurd (cc)
    by_next (Verdicts (e ∷ es)) is None owes h = absurd (cc)
    by_next (Spinning y l) is None owes h = absurd (cc)
    by_next (Makes y [] lent) is None owes h = let same : y ≡ x = cc in record { lent = lent; next = is ∙ ap (λ z. Makes z [] lent) same; nothing = owes }
    by_next (Makes y (e ∷ es) lent) is None owes h = absurd (cc)
    by_next (Stops why []) is None owes h = absurd (cc)
    by_next (Stops why (a ∷ ats)) is None owes h = absurd (cc)
    by_next Free is (Some d) owes h = absurd (cc)
    by_next (Verdicts es) is (Some d) owes h = absurd (cc)
    by_next (Spinning y l) is (Some d) owes h = absurd (cc)
    by_next (Makes y es lent) is (Some d) owes h = absurd (cc)
    by_next (Stops why ats) is (Some d) owes h = absurd (cc)

-- ---- spins

fresh_calls : (y : Context) → is_fresh y ≡ true → is_calling y ≡ true
fresh_calls (kept.Open a h enter (Some call)) is = refl
fresh_calls (kept.Open a h enter None) is = absurd (cc)
fresh_calls kept.Free is = absurd (cc)

pub spin_stands : Sixteen → (c : Inputs) (log : List Entry) (x : CtxNo) (lock : Addr) → Run c log → must (now c log) ≡ Some (Exactly (entries.Spin x lock)) → Meets c (now c log) (entries.Spin x lock)
spin_stands sixteen c log x lock run is =
    let s : State = now c log in
    let due = spinning s x lock (listed_now c log run) is in
    let fresh : at is_fresh s.owner.contexts x.0 ≡ true = subst (NextCalls s) due.next (calls_now sixteen c log run).next in
    let calls : at is_calling s.owner.contexts x.0 ≡ true = at_more is_fresh is_calling s.owner.contexts x.0 fresh_calls fresh in
    let case : rule_against s.owner (entries.Spin x lock) ≡ None = rw (served_alone s.owner (entries.Spin x lock) due.nothing) (rw calls refl) in
    due_meets c s (Exactly (entries.Spin x lock)) (entries.Spin x lock) is refl case

pub spin_goes_on : Sixteen → (c : Inputs) (log : List Entry) (x : CtxNo) (lock : Addr) → Run c log → must (now c log) ≡ Some (Exactly (entries.Spin x lock)) → GoesOn c (now c log)
spin_goes_on sixteen c log x lock run is = goes_by c (now c log) (Exactly (entries.Spin x lock)) (entries.Spin x lock) is refl (spin_stands sixteen c log x lock run is)

-- ---- replies

fresh_answered : (contexts : List Context) (y : Context) → is_fresh y ≡ true → may_be_answered contexts y ≡ true
fresh_answered contexts (kept.Open a h enter (Some call)) is = none_left call.transfer is
  where
    none_left : (t : Option ℕ) → has_none t ≡ true → has_left contexts t ≡ true
    none_left None is = refl
    none_left (Some n) is = absurd (cc)
fresh_answered contexts (kept.Open a h enter None) is = absurd (cc)
fresh_answered contexts kept.Free is = absurd (cc)

told_stands : (s : State) (x : CtxNo) (eax : ℕ) (writes : List Write) (given : Answered) → answered s x (record { eax = eax; writes = writes }) ≡ Some given → replies s x (entries.Reply x eax writes) ≡ true
told_stands s x eax writes given is = rw (eq-eqb x.0 x.0 refl) (ap (λ (o : Option Answered). is_some o) is)

has_call : Sixteen → (c : Inputs) (log : List Entry) (x : CtxNo) → Run c log → must (now c log) ≡ Some (ReplyOf x) → HasCall (now c log) x []
has_call sixteen c log x run is = subst (NextCalls (now c log)) (replying (now c log) x is).next (calls_now sixteen c log run).next

pub reply_stands : Sixteen → RepliesAreTaken → (c : Inputs) (log : List Entry) (x : CtxNo) (call : Calling) (reply : Reply) (w : World) → Run c log → must (now c log) ≡ Some (ReplyOf x)
    → call_at (now c log) x.0 ≡ Some call → is_by_row call.wait ≡ true → Comes (outcome_of (now c log) x call.import call.words) (now c log).world (Ok (Now reply)) w
    → Meets c (now c log) (entries.Reply x reply.eax (reply.writes ++ call.writes))
reply_stands sixteen taken c log x call reply w run is called row comes =
    let s : State = now c log in
    let e : Entry = entries.Reply x reply.eax (reply.writes ++ call.writes) in
    let stands = told_stands s x reply.eax (reply.writes ++ call.writes) (reply, w) (taken s x call reply w called row comes) in
    let may : at (may_be_answered s.owner.contexts) s.owner.contexts x.0 ≡ true =
    at_more is_fresh (may_be_answered s.owner.contexts) s.owner.contexts x.0 (fresh_answered s.owner.contexts) (has_call sixteen c log x run is).fresh in
    let case : rule_against s.owner e ≡ None = rw (served_alone s.owner e (replying s x is).nothing) (rw may refl) in
    due_meets c s (ReplyOf x) e is stands case

some_call : (a b : Calling) → Some a ≡ Some b → a ≡ b
some_call a b h = cc

pub given_stands : Sixteen → RepliesAreTaken → (c : Inputs) (log : List Entry) (x : CtxNo) (call : Calling) (reply : Reply) (w : World) → Run c log → must (now c log) ≡ Some (ReplyOf x)
    → call_at (now c log) x.0 ≡ Some call → Comes (outcome_of (now c log) x call.import call.words) (now c log).world (Ok (Now reply)) w
    → Meets c (now c log) (entries.Reply x reply.eax (reply.writes ++ call.writes))
given_stands sixteen taken c log x call reply w run is called comes =
    let has = has_call sixteen c log x run is in
    let same : has.call ≡ call = some_call has.call call (sym has.called ∙ called) in
    let waits : call.wait ≡ Nothing = subst (λ (k : Calling). k.wait ≡ Nothing) same has.waits in
    reply_stands sixteen taken c log x call reply w run is called (ap is_by_row waits) comes

-- what a row answers at once
record Answer (w : World) (o : Outcome) : Type 0 where
  pub reply : Reply
  pub world : World
  pub comes : Comes o w (Ok (Now reply)) world

answer_in : (w : World) (o : Outcome) → RoomIn w o → is_now o ≡ true → Answer w o
answer_in w (Replies reply world) room is = record { reply = reply; world = world; comes = (refl, refl) }
answer_in w (Picks n reply world) room is = record { reply = reply room.at; world = world room.at; comes = (room.at, room.may, refl, refl) }
answer_in w (PicksDescriptor kind handle reply world) room is = record { reply = reply room.at; world = world room.at; comes = (room.at, room.may, refl, refl) }
answer_in w (Breaks rule) room is = absurd (cc)
answer_in w (Spins holder world) room is = absurd (cc)
answer_in w (Sleeps moment) room is = absurd (cc)
answer_in w Synchronizes room is = absurd (cc)

pub reply_goes_on : Sixteen → RepliesAreTaken → FirstFree → (c : Inputs) (log : List Entry) (x : CtxNo) → Run c log → must (now c log) ≡ Some (ReplyOf x) → GoesOn c (now c log)
reply_goes_on sixteen taken first_is_free c log x run is =
    let s : State = now c log in
    let has = has_call sixteen c log x run is in
    let room = outcome_room first_is_free s.world (caller s x) (row_of has.call.import) has.call.words in
    let answer = answer_in s.world (outcome_of s x has.call.import has.call.words) room has.answers in
    let e : Entry = entries.Reply x answer.reply.eax (answer.reply.writes ++ has.call.writes) in
    let meets : Meets c s e = given_stands sixteen taken c log x has.call answer.reply answer.world run is has.called answer.comes in
    goes_by c s (ReplyOf x) e is (in_turn c s (ReplyOf x) e is refl meets) meets
