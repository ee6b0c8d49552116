-- Where handlers answer, what answers a request, and the status of a packet in its slot may be read.
use Rattle.std.proofs.Common.{◌≡◌, ◌<◌, ◌≤◌, ℕ, ◌+◌, true, List, Option, Some, None, refl, sym, ap, subst, length, arith, slice_get}
use Rattle.std.specs.Option.{option_and_then}
use Rattle.std.specs.List.{position}
use Rattle.std.proofs.Math.Nat.{mod-eq_of_lt}
use Rattle.nd_base.specs.declared.layout_field.Field.TheVariants.{OobStatus}
use Rattle.nd_base.specs.declared.numbers.AdapterNo.{AdapterNo}
use Rattle.nd_base.specs.declared.numbers.CtxNo.{CtxNo}
use Rattle.nd_base.specs.Layout.{IsSound, offset_of, row, rows}
use Rattle.nd_mem.specs.Space.{wrapped}
use Rattle.guest_map.specs.Laws.{PlacesLieInRegions}
use Rattle.guest_map.specs.Regions.{answer_area, request_buffers, request_bytes, request_count, send_slot, send_slots}
use Rattle.packet_pool.specs.DescriptorBytes.{out_of_band}
use Rattle.log_fields.specs.declared.field_values.Handler.{Handler}
use Rattle.log_fields.specs.declared.field_values.Handler.TheVariants as handler
use Rattle.log_fields.specs.declared.field_values.Question.{Question}
use Rattle.log_fields.specs.declared.field_values.Question.TheVariants as question
use Rattle.owner_machine.specs.declared.rows.Request.{Request}
use Rattle.owner_machine.specs.Requests.{handed_of}
use Rattle.legal_run.specs.Enters.{area}
use Rattle.legal_run.specs.EntryLaws.{EntryLaws, is_ask}
use Rattle.legal_run.specs.Laws.{RunLaws}
use Rattle.legal_run.specs.Owed.{first}
use Rattle.legal_run.specs.State.{Inputs, State, adapter_of, context_at, handler_of}
use Rattle.legal_run.specs.Calls.{handed_request, status_place}
use Rattle.handler_leaves.specs.Leaves.{IsAnswered, IsRead}
use Rattle.verdict_parts.specs.Places.{CanAnswer, CanRead, HasSlotStatus}
use Rattle.leave_verdicts.specs.Judged.{CanAnswerAt, CanJudge, CanJudgeOf}
use Rattle.call_verdicts.specs.Deeds.{CanEnd}
use Rattle.run_facts.specs.Facts.{IsOfRun, AdaptersAreGiven, CountsHold}
use Rattle.call_facts.specs.Places.{FitsMap}
use Rattle.call_facts.proofs.Layouts.{layout_stays}
use Rattle.call_facts.proofs.Questions.{IsShort, handed_is_short, requests_fit}
use Rattle.call_facts.proofs.Readable.{Ground, buffers_held, readable, slots_held}
use Rattle.call_facts.proofs.Slots.{all_sent, all_slotted, lies_at, sent_at}
use Rattle.call_facts.proofs.Subjects.{subjects_fit}

-- ---- MiniportISR

in_area : Ground → PlacesLieInRegions → (c : Inputs) (s : State) (x : CtxNo) (at : ℕ) → FitsMap c → IsOfRun c s → x.0 < 16 → area x.0 ≤ at → at ≤ area x.0 + 4 → IsAnswered s at
in_area g places c s x at fits is less from to =
    readable g c s (answer_area x.0) at 1 fits.image is (places.answer_area x.0 less) (omega arith) (omega (arith, less)) from (omega (arith, to))

pub answers : Ground → PlacesLieInRegions → (c : Inputs) (s : State) (x : CtxNo) (h : Handler) → FitsMap c → IsOfRun c s → x.0 < 16 → IsRead s x h
answers g places c s x handler.Isr fits is less =
    (in_area g places c s x (area x.0) fits is less (omega arith) (omega arith), in_area g places c s x (area x.0 + 4) fits is less (omega arith) (omega arith))
answers g places c s x _ fits is less = tt

-- ---- requests

can_answer : Ground → (c : Inputs) (s : State) (a : ℕ) (asked : Question) → FitsMap c → IsOfRun c s → a < 4 → IsShort asked → CanAnswer s a asked
can_answer g c s a (question.Query oid n) fits is less short = record {
  count = readable g c s request_buffers (request_count a).first.0 4 fits.image is buffers_held (omega arith) (omega arith) (omega arith) (omega (arith, less));
  bytes = λ m few. readable g c s request_buffers (request_bytes a).first.0 m fits.image is buffers_held (omega arith) (omega arith) (omega arith) (omega (arith, less, few, short));
}
can_answer g c s a (question.Set oid bytes) fits is less short = tt

pub ends : Ground → (c : Inputs) (s : State) (a : ℕ) → FitsMap c → IsOfRun c s → a < 4 → CanEnd s a
ends g c s a fits is less row there = by_found (handed_request s a) refl there
  where
    by_found : (m : Option ℕ) → position (handed_of a) s.owner.requests ≡ m → option_and_then (λ r. slice_get s.owner.requests r) m ≡ Some row → CanAnswer s a row.question
    by_found None found h = absurd (cc)
    by_found (Some r) found h = can_answer g c s a row.question fits is less (handed_is_short a s.owner.requests r row found h (requests_fit g.on c s is))

judged_at : Ground → (c : Inputs) (s : State) (x : CtxNo) (a : ℕ) → FitsMap c → IsOfRun c s → a < 4 → is_ask (handler_of s x.0) ≡ true → CanAnswerAt s a (first (context_at s x.0).subject)
judged_at g c s x a fits is less asks row there = by_found (first (context_at s x.0).subject) refl there
  where
    by_found : (m : Option ℕ) → first (context_at s x.0).subject ≡ m → option_and_then (λ k. slice_get s.owner.requests k) m ≡ Some row → CanAnswer s a row.question
    by_found None found h = absurd (cc)
    by_found (Some k) found h =
        let short = subjects_fit g.on c s is x.0 k asks found in
        let same : short.0 ≡ row = cc in
        can_answer g c s a row.question fits is less (subst (λ (r : Request). IsShort r.question) same short.2)

pub judges : Ground → AdaptersAreGiven → (c : Inputs) (s : State) (x : CtxNo) → FitsMap c → IsOfRun c s → ((k : ℕ) → HasSlotStatus s k) → CanJudgeOf s (adapter_of s x.0) (context_at s x.0).subject (handler_of s x.0)
judges g given c s x fits is slots = by_adapter (adapter_of s x.0) refl
  where
    by_handler : (a : AdapterNo) (h : Handler) → adapter_of s x.0 ≡ Some a → handler_of s x.0 ≡ h → CanJudge s a.0 (context_at s x.0).subject h
    by_handler a handler.Query its is_h = let less = given.inside c s x.0 a is its in let few = fits.adapters in judged_at g c s x a.0 fits is (omega (arith, less, few)) (ap is_ask is_h)
    by_handler a handler.Set its is_h = let less = given.inside c s x.0 a is its in let few = fits.adapters in judged_at g c s x a.0 fits is (omega (arith, less, few)) (ap is_ask is_h)
    by_handler a handler.SendPackets its is_h = slots
    by_handler a _ its is_h = tt

    by_adapter : (m : Option AdapterNo) → adapter_of s x.0 ≡ m → CanJudgeOf s m (context_at s x.0).subject (handler_of s x.0)
    by_adapter None its = tt
    by_adapter (Some a) its = by_handler a (handler_of s x.0) its refl

-- ---- packets

status_inside : (layout : List ℕ) → IsSound layout → offset_of layout OobStatus + 4 ≤ 40
unfolding row rows
status_inside layout sound = sound.inside OobStatus

in_slot : Ground → (c : Inputs) (s : State) (d n offset : ℕ) → FitsMap c → IsOfRun c s → d < 8 → n < 256 → offset + 4 ≤ 40 → CanRead s (wrapped ((send_slot d n).first.0 + (out_of_band + offset))) 4
in_slot g c s d n offset fits is driver slot small =
    let at = (send_slot d n).first.0 + (out_of_band + offset) in
    let same : wrapped at ≡ at = mod-eq_of_lt (omega (arith, driver, slot, small)) in
    subst (λ (a : ℕ). CanRead s a 4) (sym same)
    (readable g c s send_slots at 4 fits.image is slots_held (omega arith) (omega arith) (omega arith) (omega (arith, driver, slot, small)))

pub statuses : Ground → RunLaws → EntryLaws → CountsHold → (c : Inputs) (s : State) (k : ℕ) → FitsMap c → IsOfRun c s → HasSlotStatus s k
statuses g runs laws counts c s k fits is packet lies =
    let there = lies_at s k packet (all_slotted g.on runs laws c s is) lies in
    let less = sent_at (length c.drivers) s.owner.packets k there.row (all_sent g.on counts c s is) there.there in
    let few = fits.drivers in
    let layout = layout_stays g.keep g.on c s is in
    let small : offset_of s.world.layout OobStatus + 4 ≤ 40 = subst (λ (l : List ℕ). offset_of l OobStatus + 4 ≤ 40) (sym layout) (status_inside c.layout fits.layout) in
    subst (λ (p : ℕ). CanRead s (status_place s p) 4) (sym there.at)
    (in_slot g c s there.row.driver.0 there.slot (offset_of s.world.layout OobStatus) fits is (omega (arith, less, few)) there.few small)
