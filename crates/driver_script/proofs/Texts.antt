-- Reading lines one after the other, as the loops do, and what is answered of a text.
use Rattle.std.proofs.Common.{◌≡◌, ℕ, zero, suc, ◌+◌, ◌<◌, ◌≤◌, ◌^◌, Bool, true, false, not, cond, eqb, ltb, List, [], ◌∷◌, length, Option, Some, None, Result, Ok, Err, refl, sym, ap, subst, ◌∙◌, inl, inr, ◌⊎◌, arith}
use Rattle.std.specs.Option.{option_map, option_map_or}
use Rattle.std.specs.Str.Lines.{lines}
use Rattle.std.proofs.lemmas.Bool.{cases_Bool, eqb-true, ltb-true, ltb-false}
use Rattle.driver_script.specs.declared.refusal.ScriptRefusal.{ScriptRefusal}
use Rattle.driver_script.specs.declared.refusal.ScriptRefusal.TheVariants as refusals
use Rattle.driver_script.specs.Scripts.{Contents, AreLinesOf, IsFirstOutside, IsScript, IsRefused}
use Rattle.driver_script.specs.Reading.{Said, said, Known, start, step, first_outside, empty, put, built, refusal_of}
use Rattle.driver_script.proofs.Walking.{Answers, answers, no_both, one_outside, script_of}

-- ---- loops

pub goes : (n : ℕ) (k next : Known) (bs line rest : List ℕ) → lines bs ≡ line ∷ lines rest → step k (said line) ≡ Some next → first_outside (n + 1) next (lines rest) ≡ first_outside n k (lines bs)
unfolding first_outside
goes n k next bs line rest h e = sym (ap (first_outside n k) h ∙ ap (λ (o : Option Known). option_map_or (λ x. first_outside (n + 1) x (lines rest)) o (Some n)) e)

pub stops : (n : ℕ) (k : Known) (bs line rest : List ℕ) → lines bs ≡ line ∷ lines rest → step k (said line) ≡ None → Some n ≡ first_outside n k (lines bs)
unfolding first_outside
stops n k bs line rest h e = sym (ap (first_outside n k) h ∙ ap (λ (o : Option Known). option_map_or (λ x. first_outside (n + 1) x (lines rest)) o (Some n)) e)

pub ends : (n : ℕ) (k : Known) (bs : List ℕ) → true ≡ eqb (length bs) 0 → first_outside n k (lines bs) ≡ cond (ltb 0 (length k.ports)) None (Some n)
unfolding first_outside
ends n k [] h = refl
ends n k (b ∷ bs) h = let e : length (b ∷ bs) ≡ 0 = eqb-true _ _ (sym h) in absurd (omega (arith, e))

pub builds_more : (c next : Contents) (bs line rest : List ℕ) → lines bs ≡ line ∷ lines rest → next ≡ put c (said line) → built next (lines rest) ≡ built c (lines bs)
unfolding built
builds_more c next bs line rest h e = ap (λ (x : Contents). built x (lines rest)) e ∙ sym (ap (built c) h)

pub builds_all : (c : Contents) (bs : List ℕ) → true ≡ eqb (length bs) 0 → built c (lines bs) ≡ c
unfolding built
builds_all c [] h = refl
builds_all c (b ∷ bs) h = let e : length (b ∷ bs) ≡ 0 = eqb-true _ _ (sym h) in absurd (omega (arith, e))

-- ---- texts

abbrev pub TextAnswers : List ℕ → Option ScriptRefusal → Type 0
TextAnswers text None = IsScript text (built empty (lines text))
TextAnswers text (Some e) = IsRefused text e

of_lines : (text : List ℕ) (o : Option ℕ) → length text ≤ 2 ^ 20 → Answers (lines text) o → TextAnswers text (option_map refusals.Line o)
of_lines text None short (c, are, made) = (short, subst (AreLinesOf (lines text)) (sym made) are)
of_lines text (Some m) short h = (short, h)

pub text_answers : (text : List ℕ) → TextAnswers text (refusal_of text)
unfolding refusal_of
text_answers text = elim (cases_Bool (ltb (2 ^ 20) (length text))) [
  | inl on ↦ subst (λ (b : Bool). TextAnswers text (cond b (Some refusals.TooLong) (option_map refusals.Line (first_outside 1 start (lines text))))) (sym on) (ltb-true (2 ^ 20) (length text) on)
  | inr off ↦ subst (λ (b : Bool). TextAnswers text (cond b (Some refusals.TooLong) (option_map refusals.Line (first_outside 1 start (lines text))))) (sym off) (of_lines text (first_outside 1 start (lines text)) (ltb-false (2 ^ 20) (length text) off) (answers (lines text)))
]

pub no_script_refused : (text : List ℕ) (c : Contents) (e : ScriptRefusal) → IsScript text c → IsRefused text e → ⊥
no_script_refused text c refusals.OutOfMemory h r = r
no_script_refused text c refusals.TooLong h r = let short = h.0 in absurd (omega (arith, short, r))
no_script_refused text c (refusals.Line m) h r = no_both (lines text) c m h.1 r.1

pub one_refusal : (text : List ℕ) (d e : ScriptRefusal) → IsRefused text d → IsRefused text e → d ≡ e
one_refusal text refusals.OutOfMemory e p q = absurd p
one_refusal text refusals.TooLong refusals.OutOfMemory p q = absurd q
one_refusal text refusals.TooLong refusals.TooLong p q = refl
one_refusal text refusals.TooLong (refusals.Line n) p q = let short = q.0 in absurd (omega (arith, short, p))
one_refusal text (refusals.Line m) refusals.OutOfMemory p q = absurd q
one_refusal text (refusals.Line m) refusals.TooLong p q = let short = p.0 in absurd (omega (arith, short, q))
one_refusal text (refusals.Line m) (refusals.Line n) p q = ap (λ (x : ℕ). refusals.Line x) (one_outside (lines text) m n p.1 q.1)

pub one_script : (text : List ℕ) (c : Contents) → IsScript text c → built empty (lines text) ≡ c
one_script text c h = (script_of (lines text) c h.1).made

pub is_refused : (text : List ℕ) (e : ScriptRefusal) → Some e ≡ refusal_of text → IsRefused text e
is_refused text e h = subst (TextAnswers text) (sym h) (text_answers text)

pub is_script : (text : List ℕ) → None ≡ refusal_of text → IsScript text (built empty (lines text))
is_script text h = subst (TextAnswers text) (sym h) (text_answers text)
