-- The next moment is the earliest of the frame's, the sleepers', the hang checks' and the timers'.
use Rattle.std.proofs.Common.{◌≡◌, ℕ, false, cond, [], ◌∷◌, ◌++◌, Option, Some, None, sym, ap, ◌∙◌}
use Rattle.std.specs.Prelude.{slice_get}
use Rattle.std.specs.Option.{option_map, option_map_or}
use Rattle.frame_wire.specs.declared.arrival.Arrival.{Arrival}
use Rattle.legal_run.specs.State.{Inputs, State, clock}
use Rattle.legal_run.specs.Owed.{alarms, checks, is_barred, least, next_moment, stamps, wakes}
use Rattle.miniport.specs.Waiting.{earlier}
use Rattle.run_rests.specs.Moments.{to_come}
use Rattle.run_rests.proofs.Earliest.{above, above_both, above_one, least_none}

stamp_above : (now : ℕ) (f : Option Arrival) → to_come now (option_map (λ a. a.stamp) f) ≡ least (above now (option_map_or (λ a. a.stamp ∷ []) f []))
stamp_above now None = sym least_none
stamp_above now (Some a) = sym (above_one now a.stamp)

pub together : (c : Inputs) (s : State) (now : ℕ) (stamp frame wake check alarm late later r : Option ℕ) → is_barred c s ≡ false → now ≡ clock s → stamp ≡ option_map (λ f. f.stamp) (slice_get c.frames s.come) → frame ≡ to_come now stamp → wake ≡ least (above (clock s) (wakes s)) → check ≡ least (above (clock s) (checks c s)) → alarm ≡ least (above (clock s) (alarms c s)) → late ≡ earlier check alarm → later ≡ earlier wake late → r ≡ earlier frame later → r ≡ next_moment c s
together c s now stamp frame wake check alarm late later r free is_now is_stamp is_frame is_wake is_check is_alarm is_late is_later is =
    let k = clock s in
    let last : late ≡ least (above k (checks c s ++ alarms c s)) = is_late ∙ (λ i. earlier (is_check i) (is_alarm i)) ∙ sym (above_both k (checks c s) (alarms c s)) in
    let more : later ≡ least (above k (wakes s ++ (checks c s ++ alarms c s))) = is_later ∙ (λ i. earlier (is_wake i) (last i)) ∙ sym (above_both k (wakes s) (checks c s ++ alarms c s)) in
    let first : frame ≡ least (above k (stamps c s)) = is_frame ∙ (λ i. to_come (is_now i) (is_stamp i)) ∙ stamp_above k (slice_get c.frames s.come) in
    is
    ∙ (λ i. earlier (first i) (more i))
    ∙ sym (above_both k (stamps c s) (wakes s ++ (checks c s ++ alarms c s)))
    ∙ ap (λ b. cond b None (least (above k (stamps c s ++ (wakes s ++ (checks c s ++ alarms c s)))))) (sym free)
