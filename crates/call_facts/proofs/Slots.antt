-- Each packet lies in a send slot of a driver that there is.
use Rattle.std.proofs.Common.{◌≡◌, ◌<◌, ℕ, zero, suc, ◌+◌, ◌-◌, ◌*◌, ◌/◌, Bool, true, false, cond, ◌&&◌, ◌==◌, List, [], ◌∷◌, ◌++◌, Option, Some, None, refl, sym, ap, ◌∙◌, subst, slice_get, slice_set, length, arith, nat_lt}
use Rattle.std.specs.Prelude.{⊤, not}
use Rattle.std.specs.List.{list_any}
use Rattle.std.specs.Option.{option_map, option_map_or, option_and_then}
use Rattle.std.proofs.lemmas.Bool.{eqb-true}
use Rattle.nd_base.specs.declared.numbers.AdapterNo.{AdapterNo}
use Rattle.nd_base.specs.declared.numbers.BindingNo.{BindingNo}
use Rattle.nd_base.specs.declared.numbers.CtxNo.{CtxNo}
use Rattle.guest_map.specs.Regions.{send_slot, slots}
use Rattle.log_fields.specs.declared.field_values.Handler.{Handler}
use Rattle.log_fields.specs.declared.field_values.Handler.TheVariants as handler
use Rattle.log_fields.specs.declared.write.Write.{Write}
use Rattle.call_log.specs.declared.entry.Entry.{Entry}
use Rattle.call_log.specs.declared.entry.Entry.TheVariants as entries
use Rattle.import_answers.specs.Statuses.{success}
use Rattle.owner_machine.specs.declared.rows.Packet.{Packet}
use Rattle.owner_machine.specs.declared.rows.Place.TheVariants.{Queue, Done}
use Rattle.owner_machine.specs.declared.rows.Driver.{Driver}
use Rattle.owner_machine.specs.State.{Owner, at, bound, change, is_bound}
use Rattle.owner_machine.specs.Contexts.{is_entry}
use Rattle.owner_machine.specs.Handlers.{may_enter}
use Rattle.owner_machine.specs.Packets.{completed, enter_of, handed, placed as put, sent, tagged}
use Rattle.owner_machine.specs.Machine as owners
use Rattle.owner_machine.specs.Machine.{has_case}
use Rattle.legal_run.specs.Laws.{RunLaws}
use Rattle.legal_run.specs.EntryLaws.{EntryLaws}
use Rattle.legal_run.specs.State.{Inputs, State, Calling, Frame, Wait, adapter_of, call_at, has_handler}
use Rattle.legal_run.specs.Calls.{leaves, slot_address}
use Rattle.legal_run.specs.Enters.{handed_to, is_slot_of, is_taken, may_lie, may_lie_at, named_in, slot_number}
use Rattle.legal_run.specs.Replies.{Answered, Told, answered}
use Rattle.legal_run.specs.After.{after, all_spoke, charge_to, framed, is_breaking, left_row, number_in, owner_left, placed, recognized, replied, slotted, spun, taken, with_wait}
use Rattle.legal_run.specs.Run.{Meets}
use Rattle.run_facts.specs.Facts.{IsOfRun, GoesOn, CountsHold}
use Rattle.call_facts.proofs.Induction.{of_run}
use Rattle.call_facts.proofs.Moments.{case_of, less_than, run_more, true_both}

-- ---- drivers of packets

abbrev Sent : ℕ → List Packet → Type 0
Sent n [] = ⊤
Sent n (p ∷ ps) = (p.driver.0 < n) × Sent n ps

pub sent_at : (n : ℕ) (ps : List Packet) (k : ℕ) (p : Packet) → Sent n ps → slice_get ps k ≡ Some p → p.driver.0 < n
sent_at n [] k p all is = absurd (cc)
sent_at n (q ∷ ps) zero p all is = let same : q ≡ p = cc in subst (λ (r : Packet). r.driver.0 < n) same all.0
sent_at n (q ∷ ps) (suc k) p all is = sent_at n ps k p all.1 is

sent_more : (n : ℕ) (ps : List Packet) (p : Packet) → p.driver.0 < n → Sent n ps → Sent n (ps ++ p ∷ [])
sent_more n [] p less all = (less, tt)
sent_more n (q ∷ ps) p less all = (all.0, sent_more n ps p less all.1)

sent_changed : (n : ℕ) (f : Packet → Packet) (ps : List Packet) (k : ℕ) → ((p : Packet) → (f p).driver ≡ p.driver) → Sent n ps → Sent n (change f ps k)
sent_changed n f [] k keeps all = tt
sent_changed n f (q ∷ ps) zero keeps all = (subst (λ (b : BindingNo). b.0 < n) (sym (keeps q)) all.0, all.1)
sent_changed n f (q ∷ ps) (suc k) keeps all = (all.0, sent_changed n f ps k keeps all.1)

below : (test : Driver → Bool) (ds : List Driver) (b : ℕ) → at test ds b ≡ true → b < length ds
below test [] b h = absurd (cc)
below test (d ∷ ds) zero h = omega arith
below test (d ∷ ds) (suc b) h = let less = below test ds b h in omega (arith, less)

owner_sent : (n : ℕ) (o : Owner) (e : Entry) → length o.drivers ≡ n → has_case o e ≡ true → Sent n o.packets → Sent n (owners.after o e).packets
owner_sent n o (entries.Send driver packet bytes) count may all =
    let less = below (λ row. is_bound row.binding) o.drivers driver.0 (true_both (bound o driver.0) _ may).0 in
    sent_more n o.packets (sent o driver) (omega (arith, less, count)) all
owner_sent n o (entries.Tag packet id) count may all = sent_changed n (tagged id) o.packets packet.0 (λ p. refl) all
owner_sent n o (entries.Hand packet) count may all = sent_changed n (handed (enter_of o.next)) o.packets packet.0 (λ p. refl) all
owner_sent n o (entries.Requeue packet) count may all = sent_changed n (put Queue) o.packets packet.0 (λ p. refl) all
owner_sent n o (entries.Complete packet status) count may all = sent_changed n (completed o.next) o.packets packet.0 (λ p. refl) all
owner_sent n o (entries.Late packet) count may all = sent_changed n (put Done) o.packets packet.0 (λ p. refl) all
owner_sent n o _ count may all = all

sent_step : (n : ℕ) (c : Inputs) (s : State) (e : Entry) → length s.owner.drivers ≡ n → has_case s.owner e ≡ true → Sent n s.owner.packets → Sent n (after c s e).owner.packets
sent_step n c s (entries.Leave x eax) count may all = by_test (is_breaking (leaves c s x eax))
  where
    by_test : (b : Bool) → Sent n (owner_left s.owner (entries.Leave x eax) b).packets
    by_test true = all
    by_test false = all
sent_step n c s e count may all = owner_sent n s.owner e count may all

pub all_sent : GoesOn → CountsHold → (c : Inputs) (s : State) → IsOfRun c s → Sent (length c.drivers) s.owner.packets
all_sent on counts c s is =
    of_run on c (λ t. Sent (length c.drivers) t.owner.packets) (λ t e of h meets. sent_step (length c.drivers) c t e (counts c t of).bindings (case_of t.owner e meets.owner) h) tt s is

-- ---- slots of packets

abbrev SlotFits : Option ℕ → Type 0
SlotFits None = ⊤
SlotFits (Some n) = n < 256

abbrev pub Slotted : List Frame → Type 0
Slotted [] = ⊤
Slotted (f ∷ fs) = SlotFits f.slot × Slotted fs

slot_fits : (m : Option ℕ) (n : ℕ) → SlotFits m → m ≡ Some n → n < 256
slot_fits None n h is = absurd (cc)
slot_fits (Some k) n h is = let same : k ≡ n = cc in subst (λ (j : ℕ). j < 256) same h

pub slotted_at : (fs : List Frame) (k : ℕ) (f : Frame) (n : ℕ) → Slotted fs → slice_get fs k ≡ Some f → f.slot ≡ Some n → n < 256
slotted_at [] k f n all is slot = absurd (cc)
slotted_at (g ∷ fs) zero f n all is slot =
    let same : g ≡ f = cc in
    slot_fits g.slot n all.0 (ap (λ (h : Frame). h.slot) same ∙ slot)
slotted_at (g ∷ fs) (suc k) f n all is slot = slotted_at fs k f n all.1 is slot

slotted_more : (fs : List Frame) (f : Frame) → SlotFits f.slot → Slotted fs → Slotted (fs ++ f ∷ [])
slotted_more [] f fits all = (fits, tt)
slotted_more (g ∷ fs) f fits all = (all.0, slotted_more fs f fits all.1)

slotted_set : (fs : List Frame) (k : ℕ) (f : Frame) → SlotFits f.slot → Slotted fs → Slotted (slice_set fs k f)
slotted_set [] k f fits all = tt
slotted_set (g ∷ fs) zero f fits all = (fits, all.1)
slotted_set (g ∷ fs) (suc k) f fits all = (all.0, slotted_set fs k f fits all.1)

-- where a packet lies
pub record LiesAt (s : State) (k packet : ℕ) : Type 0 where
  pub row : Packet
  pub there : slice_get s.owner.packets k ≡ Some row
  pub slot : ℕ
  pub few : slot < 256
  pub at : packet ≡ (send_slot row.driver.0 slot).first.0

pub lies_at : (s : State) (k packet : ℕ) → Slotted s.packets → slot_address s k ≡ Some packet → LiesAt s k packet
lies_at s k packet all is = by_row (slice_get s.owner.packets k) refl is
  where
    by_slot : (p : Packet) (f : Frame) (m : Option ℕ) → slice_get s.owner.packets k ≡ Some p → slice_get s.packets k ≡ Some f → f.slot ≡ m
        → option_map (λ n. (send_slot p.driver.0 n).first.0) m ≡ Some packet → LiesAt s k packet
    by_slot p f None row frame slot h = absurd (cc)
    by_slot p f (Some n) row frame slot h =
        let same : (send_slot p.driver.0 n).first.0 ≡ packet = cc in
        record { row = p; there = row; slot = n; few = slotted_at s.packets k f n all frame slot; at = sym same }

    by_frame : (p : Packet) (m : Option Frame) → slice_get s.owner.packets k ≡ Some p → slice_get s.packets k ≡ m
        → option_map (λ n. (send_slot p.driver.0 n).first.0) (option_and_then (λ f. f.slot) m) ≡ Some packet → LiesAt s k packet
    by_frame p None row frame h = absurd (cc)
    by_frame p (Some f) row frame h = by_slot p f f.slot row frame refl h

    by_row : (m : Option Packet) → slice_get s.owner.packets k ≡ m → option_and_then (λ p. option_map (λ n. (send_slot p.driver.0 n).first.0) (option_and_then (λ f. f.slot) (slice_get s.packets k))) m ≡ Some packet → LiesAt s k packet
    by_row None row h = absurd (cc)
    by_row (Some p) row h = by_frame p (slice_get s.packets k) row refl h

-- ---- slots that an enter names

abbrev first_of : Option Packet → ℕ
first_of m = option_map_or (λ p. (send_slot p.driver.0 0).first.0) m 0

number_back : (d n : ℕ) → ((0x83000000 + d * 0x80000 + n * 0x800) - (0x83000000 + d * 0x80000 + 0 * 0x800)) / 0x800 ≡ n
number_back d n = omega arith

kept_slot : (s : State) (k a : ℕ) → LiesAt s k a → slot_number s k a < 256
kept_slot s k a lies =
    let first : option_map_or (λ p. (send_slot p.driver.0 0).first.0) (slice_get s.owner.packets k) 0 ≡ (send_slot lies.row.driver.0 0).first.0 = ap first_of lies.there in
    let number : slot_number s k a ≡ lies.slot =
    ap (λ (n : ℕ). (a - n) / 0x800) first ∙ ap (λ (n : ℕ). (n - (send_slot lies.row.driver.0 0).first.0) / 0x800) lies.at ∙ number_back lies.row.driver.0 lies.slot in
    subst (λ (n : ℕ). n < 256) (sym number) lies.few

new_slot : (s : State) (k a : ℕ) → may_lie_at s k a None ≡ true → slot_number s k a < 256
new_slot s k a may = by_row (slice_get s.owner.packets k) may
  where
    by_row : (m : Option Packet) → option_map_or (λ p. is_slot_of p.driver.0 (slot_number s k a) a && not (is_taken s p.driver.0 a)) m false ≡ true → slot_number s k a < 256
    by_row None h = absurd (cc)
    by_row (Some p) h = less_than (slot_number s k a) 256 (true_both (nat_lt (slot_number s k a) slots) _ (true_both (is_slot_of p.driver.0 (slot_number s k a) a) _ h).0).0

named_slot : (s : State) (k a : ℕ) → Slotted s.packets → may_lie_at s k a (slot_address s k) ≡ true → slot_number s k a < 256
named_slot s k a all may = by_slot (slot_address s k) refl may
  where
    by_slot : (m : Option ℕ) → slot_address s k ≡ m → may_lie_at s k a m ≡ true → slot_number s k a < 256
    by_slot None is h = new_slot s k a h
    by_slot (Some b) is h = kept_slot s k a (subst (λ (n : ℕ). LiesAt s k n) (eqb-true b a h) (lies_at s k b all is))

placed_fits : (s : State) (fs : List Frame) (ks ats : List ℕ) → Slotted s.packets → may_lie s ks ats ≡ true → Slotted fs → Slotted (placed s fs ks ats)
unfolding placed may_lie
placed_fits s fs [] ats all may h = h
placed_fits s fs (k ∷ ks) [] all may h = h
placed_fits s fs (k ∷ ks) (a ∷ ats) all may h =
    let parts = true_both (may_lie_at s k a (slot_address s k)) _ may in
    let rest = (true_both (not (list_any (λ b. b == a) ats)) (may_lie s ks ats) parts.1).1 in
    placed_fits s (slotted fs k (slot_number s k a)) ks ats all rest (slotted_set fs k _ (named_slot s k a all parts.0) h)

-- ---- what an entry leaves of them

framed_same : (s : State) (bs : List BindingNo) → (framed s bs).packets ≡ s.packets
unfolding framed
framed_same s [] = refl
framed_same s (b ∷ bs) = framed_same _ bs

spoke_same : (s : State) (bs : List ℕ) → (all_spoke s bs).packets ≡ s.packets
unfolding all_spoke
spoke_same s [] = refl
spoke_same s (b ∷ bs) = spoke_same _ bs

wait_same : (s : State) (x : Option ℕ) (w : Wait) → (with_wait s x w).packets ≡ s.packets
wait_same s None w = refl
wait_same s (Some x) w = refl

spun_same : (s : State) (x : CtxNo) (call : Option Calling) → (spun s x call).packets ≡ s.packets
spun_same s x None = refl
spun_same s x (Some call) = refl

either_same : (b : Bool) (t u s : State) → t.packets ≡ s.packets → u.packets ≡ s.packets → (cond b t u).packets ≡ s.packets
either_same true t u s one other = one
either_same false t u s one other = other

left_same : (c : Inputs) (s : State) (a : ℕ) (x : CtxNo) (eax : ℕ) (h : Handler) → (left_row c s a x eax h).packets ≡ s.packets
left_same c s a x eax handler.Initialize = either_same (eax == success) _ _ s refl refl
left_same c s a x eax handler.Isr = either_same (recognized s x) _ _ s refl refl
left_same c s a x eax handler.HandleInterrupt = either_same (has_handler s handler.EnableInterrupt) _ _ s refl refl
left_same c s a x eax handler.Sync = wait_same s _ _
left_same c s a x eax _ = refl

charged_same : (s : State) (who : Option AdapterNo) (n : ℕ) → (charge_to s who n).packets ≡ s.packets
charged_same s None n = refl
charged_same s (Some a) n = refl

replied_same : (s : State) (x : CtxNo) (told : Told) (answer : Option Answered) → (replied s x told answer).packets ≡ s.packets
replied_same s x told None = refl
replied_same s x told (Some given) = charged_same _ (adapter_of s x.0) given.0.cost

taken_slotted : (s : State) (a : ℕ) (h : Handler) (words : List ℕ) (writes : List Write) → (is_entry h ≡ false → may_lie s (handed_to s a h words) (named_in h words writes) ≡ true) → Slotted s.packets
    → Slotted (taken s a h words writes).packets
taken_slotted s a handler.Send words writes may all = placed_fits s s.packets _ _ all (may refl) all
taken_slotted s a handler.SendPackets words writes may all = placed_fits s s.packets _ _ all (may refl) all
taken_slotted s a handler.Sync words writes may all = subst Slotted (sym (wait_same s _ _)) all
taken_slotted s a _ words writes may all = all

no_packets : (o : Owner) (x : ℕ) (h : Handler) → may_enter o None x h ≡ true → is_entry h ≡ false → ⊥
no_packets o x h may is = let entry = (true_both _ (is_entry h) may).1 in cc

lies : RunLaws → EntryLaws → (c : Inputs) (s : State) (a : Option AdapterNo) (x : CtxNo) (h : Handler) (words : List ℕ) (writes : List Write) → IsOfRun c s → Meets c s (entries.Enter a x h words writes)
    → is_entry h ≡ false → may_lie s (handed_to s (number_in c a) h words) (named_in h words writes) ≡ true
lies runs laws c s None x h words writes is meets none = absurd (no_packets s.owner x.0 h (case_of s.owner (entries.Enter None x h words writes) meets.owner) none)
lies runs laws c s (Some a) x h words writes is meets none =
    subst (λ (t : State). may_lie t (handed_to t a.0 h words) (named_in h words writes) ≡ true) is.reaches.state
    (laws.enter c is.log a x h words writes (run_more runs c s (entries.Enter (Some a) x h words writes) is meets)).slots

step : RunLaws → EntryLaws → (c : Inputs) (s : State) (e : Entry) → IsOfRun c s → Slotted s.packets → Meets c s e → Slotted (after c s e).packets
step runs laws c s (entries.Send driver packet bytes) is all meets = slotted_more s.packets _ tt all
step runs laws c s (entries.Enter a x h words writes) is all meets = taken_slotted s (number_in c a) h words writes (lies runs laws c s a x h words writes is meets) all
step runs laws c s (entries.Indicate a j bytes holders copied) is all meets = subst Slotted (sym (framed_same s holders)) all
step runs laws c s (entries.Leave x eax) is all meets = subst Slotted (sym (either_same (is_breaking (leaves c s x eax)) _ _ s refl (left_same c s (number_in c (adapter_of s x.0)) x eax _))) all
step runs laws c s (entries.Turn x n) is all meets = subst Slotted (sym (charged_same _ (adapter_of s x.0) n)) all
step runs laws c s (entries.Reply x eax writes) is all meets =
    let told : Told = record { eax = eax; writes = writes } in subst Slotted (sym (replied_same s x told (answered s x told))) all
step runs laws c s (entries.Spin x lock) is all meets = subst Slotted (sym (spun_same s x (call_at s x.0))) all
step runs laws c s (entries.Stop a why) is all meets = subst Slotted (sym (spoke_same s _)) all
step runs laws c s _ is all meets = all

pub all_slotted : GoesOn → RunLaws → EntryLaws → (c : Inputs) (s : State) → IsOfRun c s → Slotted s.packets
all_slotted on runs laws c s is = of_run on c (λ t. Slotted t.packets) (λ t e of h meets. step runs laws c t e of h meets) tt s is
