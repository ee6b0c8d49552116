-- Verdicts on packets, one after the other.
use Rattle.std.proofs.Common.{◌≡◌, ℕ, ◌+◌, ◌-◌, ◌<◌, ◌≤◌, Bool, true, false, ◌&&◌, ◌==◌, not, cond, List, [], ◌∷◌, ◌++◌, length, get_or, drop, take, refl, sym, ap, ◌∙◌, append_assoc, append-nil, arith}
use Rattle.std.proofs.lemmas.Bool.Decides.{nat_tests}
use Rattle.std.proofs.lemmas.List.{at_drop_more, at_drop_all, take_all, length-drop}
use Rattle.call_log.specs.declared.entry.Entry.{Entry}
use Rattle.import_answers.specs.Statuses.{pending, resources}
use Rattle.owner_machine.specs.Packets.{at_miniport}
use Rattle.legal_run.specs.State.{State}
use Rattle.legal_run.specs.Calls.{Drawn, Breaking, Draws, complete, draws_first, given_back, requeue, verdicts}
use Rattle.leave_verdicts.specs.Judged.{in_front}

-- ---- packets that go back

pub back_more : (s : State) (ks : List ℕ) (i : ℕ) → i < length ks → at_miniport s.owner (get_or ks i 0) ≡ true → given_back s (drop i ks) ≡ requeue (get_or ks i 0) ∷ given_back s (drop (i + 1) ks)
unfolding given_back
back_more s ks i lt held = at_drop_more (given_back s) ks i 0 lt ∙ ap (λ b. cond b (requeue (get_or ks i 0) ∷ given_back s (drop (i + 1) ks)) (given_back s (drop (i + 1) ks))) held

pub back_skips : (s : State) (ks : List ℕ) (i : ℕ) → i < length ks → at_miniport s.owner (get_or ks i 0) ≡ false → given_back s (drop i ks) ≡ given_back s (drop (i + 1) ks)
unfolding given_back
back_skips s ks i lt held = at_drop_more (given_back s) ks i 0 lt ∙ ap (λ b. cond b (requeue (get_or ks i 0) ∷ given_back s (drop (i + 1) ks)) (given_back s (drop (i + 1) ks))) held

pub back_ends : (s : State) (ks : List ℕ) (i : ℕ) → length ks ≤ i → given_back s (drop i ks) ≡ []
unfolding given_back
back_ends s ks i all = at_drop_all (given_back s) ks i all

-- one more goes back, and is put behind the others
pub put_back : (s : State) (ks : List ℕ) (i : ℕ) (es fs all : List Entry) → i < length ks → at_miniport s.owner (get_or ks i 0) ≡ true → fs ≡ es ++ requeue (get_or ks i 0) ∷ [] → es ++ given_back s (drop i ks) ≡ all → fs ++ given_back s (drop (i + 1) ks) ≡ all
put_back s ks i es fs all lt held put so =
    ap (λ (gs : List Entry). gs ++ given_back s (drop (i + 1) ks)) put
    ∙ append_assoc es (requeue (get_or ks i 0) ∷ []) (given_back s (drop (i + 1) ks))
    ∙ ap (λ (gs : List Entry). es ++ gs) (sym (back_more s ks i lt held))
    ∙ so

pub all_back : (s : State) (ks : List ℕ) (i : ℕ) (es all : List Entry) → length ks ≤ i → es ++ given_back s (drop i ks) ≡ all → es ≡ all
all_back s ks i es all most so = sym (append-nil es) ∙ ap (λ (gs : List Entry). es ++ gs) (sym (back_ends s ks i most)) ∙ so

-- ---- verdicts

abbrev held : State → (ℕ → ℕ) → Bool → ℕ → List ℕ → Drawn
held s f serial k ks = cond (serial && (f k == resources)) (Draws (requeue k ∷ given_back s ks)) (draws_first (complete k (f k)) (verdicts s f serial ks))

abbrev said : State → (ℕ → ℕ) → Bool → ℕ → List ℕ → Drawn
said s f serial k ks = cond (not (at_miniport s.owner k)) (Breaking 1) (held s f serial k ks)

front : (s : State) (f : ℕ → ℕ) (serial : Bool) (ks : List ℕ) (i : ℕ) → i < length ks → verdicts s f serial (drop i ks) ≡ cond (f (get_or ks i 0) == pending) (verdicts s f serial (drop (i + 1) ks)) (said s f serial (get_or ks i 0) (drop (i + 1) ks))
unfolding verdicts
front s f serial ks i lt = at_drop_more (verdicts s f serial) ks i 0 lt

pub skips : (s : State) (f : ℕ → ℕ) (serial : Bool) (ks : List ℕ) (i : ℕ) → i < length ks → (f (get_or ks i 0) == pending) ≡ true → verdicts s f serial (drop i ks) ≡ verdicts s f serial (drop (i + 1) ks)
skips s f serial ks i lt pends = front s f serial ks i lt ∙ ap (λ b. cond b (verdicts s f serial (drop (i + 1) ks)) (said s f serial (get_or ks i 0) (drop (i + 1) ks))) pends

says : (s : State) (f : ℕ → ℕ) (serial : Bool) (ks : List ℕ) (i : ℕ) → i < length ks → (f (get_or ks i 0) == pending) ≡ false → verdicts s f serial (drop i ks) ≡ said s f serial (get_or ks i 0) (drop (i + 1) ks)
says s f serial ks i lt answers = front s f serial ks i lt ∙ ap (λ b. cond b (verdicts s f serial (drop (i + 1) ks)) (said s f serial (get_or ks i 0) (drop (i + 1) ks))) answers

pub breaks : (s : State) (f : ℕ → ℕ) (serial : Bool) (ks : List ℕ) (i : ℕ) → i < length ks → (f (get_or ks i 0) == pending) ≡ false → at_miniport s.owner (get_or ks i 0) ≡ false → verdicts s f serial (drop i ks) ≡ Breaking 1
breaks s f serial ks i lt answers gone = says s f serial ks i lt answers ∙ ap (λ b. cond (not b) (Breaking 1) (held s f serial (get_or ks i 0) (drop (i + 1) ks))) gone

holds : (s : State) (f : ℕ → ℕ) (serial : Bool) (ks : List ℕ) (i : ℕ) → i < length ks → (f (get_or ks i 0) == pending) ≡ false → at_miniport s.owner (get_or ks i 0) ≡ true → verdicts s f serial (drop i ks) ≡ held s f serial (get_or ks i 0) (drop (i + 1) ks)
holds s f serial ks i lt answers there = says s f serial ks i lt answers ∙ ap (λ b. cond (not b) (Breaking 1) (held s f serial (get_or ks i 0) (drop (i + 1) ks))) there

pub goes_back : (s : State) (f : ℕ → ℕ) (serial : Bool) (ks : List ℕ) (i : ℕ) → i < length ks → (f (get_or ks i 0) == pending) ≡ false → at_miniport s.owner (get_or ks i 0) ≡ true → (serial && (f (get_or ks i 0) == resources)) ≡ true → verdicts s f serial (drop i ks) ≡ Draws (given_back s (drop i ks))
goes_back s f serial ks i lt answers there none =
    holds s f serial ks i lt answers there
    ∙ ap (λ b. cond b (Draws (requeue (get_or ks i 0) ∷ given_back s (drop (i + 1) ks))) (draws_first (complete (get_or ks i 0) (f (get_or ks i 0))) (verdicts s f serial (drop (i + 1) ks)))) none
    ∙ ap (λ (es : List Entry). Draws es) (sym (back_more s ks i lt there))

completes : (s : State) (f : ℕ → ℕ) (serial : Bool) (ks : List ℕ) (i : ℕ) → i < length ks → (f (get_or ks i 0) == pending) ≡ false → at_miniport s.owner (get_or ks i 0) ≡ true → (serial && (f (get_or ks i 0) == resources)) ≡ false → verdicts s f serial (drop i ks) ≡ draws_first (complete (get_or ks i 0) (f (get_or ks i 0))) (verdicts s f serial (drop (i + 1) ks))
completes s f serial ks i lt answers there ends =
    holds s f serial ks i lt answers there
    ∙ ap (λ b. cond b (Draws (requeue (get_or ks i 0) ∷ given_back s (drop (i + 1) ks))) (draws_first (complete (get_or ks i 0) (f (get_or ks i 0))) (verdicts s f serial (drop (i + 1) ks)))) ends

one_more : (es : List Entry) (e : Entry) (d : Drawn) → in_front es (draws_first e d) ≡ in_front (es ++ e ∷ []) d
one_more es e (Breaking rule) = refl
one_more es e (Draws more) = ap (λ (all : List Entry). Draws all) (sym (append_assoc es (e ∷ []) more))

pub completed : (s : State) (f : ℕ → ℕ) (serial : Bool) (ks : List ℕ) (i : ℕ) (es : List Entry) → i < length ks → (f (get_or ks i 0) == pending) ≡ false → at_miniport s.owner (get_or ks i 0) ≡ true → (serial && (f (get_or ks i 0) == resources)) ≡ false → in_front es (verdicts s f serial (drop i ks)) ≡ in_front (es ++ complete (get_or ks i 0) (f (get_or ks i 0)) ∷ []) (verdicts s f serial (drop (i + 1) ks))
completed s f serial ks i es lt answers there ends =
    ap (in_front es) (completes s f serial ks i lt answers there ends)
    ∙ one_more es (complete (get_or ks i 0) (f (get_or ks i 0))) (verdicts s f serial (drop (i + 1) ks))

pub all_said : (s : State) (f : ℕ → ℕ) (serial : Bool) (ks : List ℕ) (i : ℕ) → length ks ≤ i → verdicts s f serial (drop i ks) ≡ Draws []
unfolding verdicts
all_said s f serial ks i all = at_drop_all (verdicts s f serial) ks i all

-- ---- what stands so far, in front of what is drawn from the rest

pub one_completed : (s : State) (f : ℕ → ℕ) (serial : Bool) (ks : List ℕ) (i : ℕ) (es fs : List Entry) (d : Drawn) → i < length ks → (f (get_or ks i 0) == pending) ≡ false → at_miniport s.owner (get_or ks i 0) ≡ true → (serial && (f (get_or ks i 0) == resources)) ≡ false → fs ≡ es ++ complete (get_or ks i 0) (f (get_or ks i 0)) ∷ [] → in_front es (verdicts s f serial (drop i ks)) ≡ d → in_front fs (verdicts s f serial (drop (i + 1) ks)) ≡ d
one_completed s f serial ks i es fs d lt answers there ends put so =
    ap (λ (gs : List Entry). in_front gs (verdicts s f serial (drop (i + 1) ks))) put
    ∙ sym (completed s f serial ks i es lt answers there ends)
    ∙ so

pub rest_back : (s : State) (f : ℕ → ℕ) (serial : Bool) (ks : List ℕ) (i : ℕ) (es fs : List Entry) (d : Drawn) → i < length ks → (f (get_or ks i 0) == pending) ≡ false → at_miniport s.owner (get_or ks i 0) ≡ true → (serial && (f (get_or ks i 0) == resources)) ≡ true → fs ≡ es ++ given_back s (drop i ks) → in_front es (verdicts s f serial (drop i ks)) ≡ d → Draws fs ≡ d
rest_back s f serial ks i es fs d lt answers there none put so =
    ap (λ (gs : List Entry). Draws gs) put
    ∙ ap (in_front es) (sym (goes_back s f serial ks i lt answers there none))
    ∙ so

pub all_drawn : (s : State) (f : ℕ → ℕ) (serial : Bool) (ks : List ℕ) (i : ℕ) (es : List Entry) (d : Drawn) → length ks ≤ i → in_front es (verdicts s f serial (drop i ks)) ≡ d → Draws es ≡ d
all_drawn s f serial ks i es d most so =
    ap (λ (gs : List Entry). Draws gs) (sym (append-nil es))
    ∙ ap (in_front es) (sym (all_said s f serial ks i most))
    ∙ so

-- the rest of a slice
pub rest_taken : (ks : List ℕ) (i : ℕ) → take (length ks - i) (drop i ks) ≡ drop i ks
rest_taken ks i = take_all (length ks - i) (drop i ks) (omega (arith, length-drop i ks))

pub differs : (n : ℕ) → (n ≡ pending → ⊥) → (n == pending) ≡ false
differs n unlike = grind (arith, nat_tests)
