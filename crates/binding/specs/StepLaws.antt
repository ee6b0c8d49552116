-- A driver that follows a script keeps the laws of protocols.
use Rattle.std.specs.Prelude.{◌≡◌, ℕ, zero, suc, ◌⊎◌, Bool, true, false, not, ◌&&◌, List, [], ◌∷◌, cond, refl}
use Rattle.std.proofs.Common.{ap, sym, ◌∙◌, subst, inl, inr, arith, true≢false}
use Rattle.log_fields.specs.declared.field_values.Condition.{Condition}
use Rattle.log_fields.specs.declared.field_values.Condition.TheVariants.{Room}
use Rattle.binding.specs.declared.packet.Loan.{Loan}
use Rattle.binding.specs.declared.events.Command.{Command}
use Rattle.binding.specs.declared.events.Command.TheVariants as commands
use Rattle.binding.specs.declared.events.Act.{Act}
use Rattle.binding.specs.declared.events.Act.TheVariants.{Do, Finish}
use Rattle.binding.specs.declared.events.Outcome.{Outcome}
use Rattle.binding.specs.declared.events.Outcome.TheVariants as outcomes
use Rattle.binding.specs.Meaning.{Meaning, Lawful, GoesOn, StillWaits, Leads, MayAnswer, MayGive, Takes, Mode, Free, Owing, Over}
use Rattle.binding.specs.Steps.{Step, Send, Ask, Await, Hold, Release, Gives, sends, asks, awaits, Follower, has_any, rest, is_due, skip, front, act_of_steps, act_of_kept, act_at, script_act, kept_then, script_then, behind, past, steps_told, script_told, count, mode_of, script_meaning}

pub bool_cases : (v : Bool) (R : Type 0) → (v ≡ true → R) → (v ≡ false → R) → R
bool_cases true R a b = a refl
bool_cases false R a b = b refl

count_cond : (v : Bool) (l : List Step × Bool) (r : List Step × Bool) (n : ℕ) → count l.0 ≡ n → count r.0 ≡ n → count (cond v l r).0 ≡ n
count_cond true l r n e f = e
count_cond false l r n e f = f

-- holds and releases don't count
pub count_skip : (has hold : Bool) (ls : List Step) → count (skip has hold ls).0 ≡ count ls
count_skip has hold [] = refl
count_skip has hold (Hold ∷ ls) = count_cond (is_due has hold) (Hold ∷ ls, hold) (skip has true ls) (count ls) refl (count_skip has true ls)
count_skip has hold (Release ∷ ls) = count_cond (is_due has hold) (Release ∷ ls, hold) (skip has false ls) (count ls) refl (count_skip has false ls)
count_skip has hold (Send v ∷ ls) = refl
count_skip has hold (Ask q ∷ ls) = refl
count_skip has hold (Await w ∷ ls) = refl

-- what stands in front where no loan is due
data Heads : List Step → Bool → Type 0 where
  ends : Heads [] false
  stands : {l : Step} {ls : List Step} {hold : Bool} {c : Command} → Gives l c → Heads (l ∷ ls) hold

heads_cond : (v has : Bool) (l : Step) (ls : List Step) (hold : Bool) (r : List Step × Bool) → v ≡ is_due has hold → (is_due has r.1 ≡ false → Heads r.0 r.1) → is_due has (cond v (l ∷ ls, hold) r).1 ≡ false → Heads (cond v (l ∷ ls, hold) r).0 (cond v (l ∷ ls, hold) r).1
heads_cond true has l ls hold r e f h = absurd (true≢false (e ∙ h))
heads_cond false has l ls hold r e f h = f h

heads_skip : (has hold : Bool) (ls : List Step) → is_due has (skip has hold ls).1 ≡ false → Heads (skip has hold ls).0 (skip has hold ls).1
heads_skip has hold [] h = ends
heads_skip has hold (Hold ∷ ls) h = heads_cond (is_due has hold) has Hold ls hold (skip has true ls) refl (heads_skip has true ls) h
heads_skip has hold (Release ∷ ls) h = heads_cond (is_due has hold) has Release ls hold (skip has false ls) refl (heads_skip has false ls) h
heads_skip has hold (Send v ∷ ls) h = stands sends
heads_skip has hold (Ask q ∷ ls) h = stands asks
heads_skip has hold (Await w ∷ ls) h = stands awaits

act_given : (l : Step) (c : Command) (ls : List Step) → Gives l c → act_of_steps (l ∷ ls) ≡ Do c
act_given _ _ ls sends = refl
act_given _ _ ls asks = refl
act_given _ _ ls awaits = refl

count_given : (l : Step) (c : Command) (ls : List Step) → Gives l c → count (l ∷ ls) ≡ suc (count ls)
count_given _ _ ls sends = refl
count_given _ _ ls asks = refl
count_given _ _ ls awaits = refl

-- what a script does next
pub data Shape (p : Follower) : Type 0 where
  owes : p.owing ≡ true → script_act p ≡ Do (commands.Await Room) → kept_then p ≡ p.kept → Shape p
  returns : p.owing ≡ false → (j : Loan) (js : List Loan) → p.kept ≡ j ∷ js → script_act p ≡ Do (commands.Return j) → kept_then p ≡ js → (front p).1 ≡ false → Shape p
  finishes : p.owing ≡ false → script_act p ≡ Finish → p.kept ≡ [] → kept_then p ≡ p.kept → count p.steps ≡ 0 → (front p).0 ≡ [] → (front p).1 ≡ false → Shape p
  does : p.owing ≡ false → is_due (has_any p.kept) (front p).1 ≡ false → (l : Step) (c : Command) (ls : List Step) → Gives l c → (front p).0 ≡ l ∷ ls → script_act p ≡ Do c → kept_then p ≡ p.kept → Shape p

has_some : (js : List Loan) → has_any js ≡ true → (j : Loan) × (ks : List Loan) × (js ≡ j ∷ ks)
has_some [] h = absurd (true≢false (sym h))
has_some (j ∷ js) h = (j, js, refl)

has_none : (js : List Loan) → has_any js ≡ false → js ≡ []
has_none [] h = refl
has_none (j ∷ js) h = absurd (true≢false h)

not_yes : (a b : Bool) → not a && b ≡ true → a ≡ false
not_yes true b h = absurd (true≢false (sym h))
not_yes false b h = refl

and_right : (a b : Bool) → a && b ≡ true → b ≡ true
and_right true b h = h
and_right false b h = absurd (true≢false (sym h))

act_front : (p : Follower) → p.owing ≡ false → is_due (has_any p.kept) (front p).1 ≡ false → script_act p ≡ act_of_steps (front p).0
act_front p o d = ap (λ v. cond v (Do (commands.Await Room)) (act_at p.kept (front p))) o ∙ ap (λ v. cond v (act_of_kept p.kept) (act_of_steps (front p).0)) d

kept_front : (p : Follower) → p.owing ≡ false → is_due (has_any p.kept) (front p).1 ≡ false → kept_then p ≡ p.kept
kept_front p o d = ap (λ v. cond v p.kept (cond (is_due (has_any p.kept) (front p).1) (rest p.kept) p.kept)) o ∙ ap (λ v. cond v (rest p.kept) p.kept) d

shape_front : (p : Follower) → p.owing ≡ false → is_due (has_any p.kept) (front p).1 ≡ false → (ls : List Step) (hold : Bool) → (front p).0 ≡ ls → (front p).1 ≡ hold → Heads ls hold → Shape p
shape_front p o d _ _ e f ends =
    finishes o (act_front p o d ∙ ap act_of_steps e) (has_none p.kept (ap (λ v. is_due (has_any p.kept) v) (sym f) ∙ d)) (kept_front p o d) (sym (count_skip (has_any p.kept) p.hold p.steps) ∙ ap count e) e f
shape_front p o d _ hold e f (stands {l = l} {ls = ks} {c = c} g) = does o d l c ks g e (act_front p o d ∙ ap act_of_steps e ∙ act_given l c ks g) (kept_front p o d)

pub shape : (p : Follower) → Shape p
shape p =
    bool_cases p.owing _
    (λ o. owes o (ap (λ v. cond v (Do (commands.Await Room)) (act_at p.kept (front p))) o) (ap (λ v. cond v p.kept (cond (is_due (has_any p.kept) (front p).1) (rest p.kept) p.kept)) o))
    (λ o. bool_cases (is_due (has_any p.kept) (front p).1) _
    (λ d.
    let some = has_some p.kept (and_right (not (front p).1) (has_any p.kept) d) in
    returns o some.0 some.1 some.2
    (ap (λ v. cond v (Do (commands.Await Room)) (act_at p.kept (front p))) o ∙ (ap (λ v. cond v (act_of_kept p.kept) (act_of_steps (front p).0)) d ∙ ap act_of_kept some.2))
    (ap (λ v. cond v p.kept (cond (is_due (has_any p.kept) (front p).1) (rest p.kept) p.kept)) o ∙ (ap (λ v. cond v (rest p.kept) p.kept) d ∙ ap rest some.2))
    (not_yes (front p).1 (has_any p.kept) d))
    (λ d. shape_front p o d (front p).0 (front p).1 refl refl (heads_skip (has_any p.kept) p.hold p.steps d)))

pub then_same : (p : Follower) → kept_then p ≡ p.kept → script_then p ≡ p
then_same p e = ap (λ (k : List Loan). record { steps = p.steps; hold = p.hold; owing = p.owing; kept = k }) e

mode_live : (n : ℕ) → mode_of false (suc n) ≡ Over → ⊥
mode_live n e = cc

mode_known : (p : Follower) (owing : Bool) (n : ℕ) → p.owing ≡ owing → count p.steps ≡ n → mode_of p.owing (count p.steps) ≡ mode_of owing n
mode_known p owing n e f = ap (λ v. mode_of v (count p.steps)) e ∙ ap (mode_of owing) f

pub count_front : (p : Follower) (l : Step) (c : Command) (ls : List Step) → Gives l c → (front p).0 ≡ l ∷ ls → count p.steps ≡ suc (count ls)
count_front p l c ls g e = sym (count_skip (has_any p.kept) p.hold p.steps) ∙ ap count e ∙ count_given l c ls g

-- ---- the laws

never_owing : (n : ℕ) → mode_of false n ≡ Owing → ⊥
never_owing zero e = cc
never_owing (suc n) e = cc

may_do : (n : ℕ) (l : Step) (c : Command) → Gives l c → MayGive (mode_of false (suc n)) (Do c)
may_do n _ _ sends = tt
may_do n _ _ asks = tt
may_do n _ _ awaits = tt

law_gives : (p : Follower) → Shape p → MayGive (mode_of p.owing (count p.steps)) (script_act p)
law_gives p (owes o a k) = let Q : Act → Type 0 = λ x. MayGive (mode_of p.owing (count p.steps)) x in let R : Bool → Type 0 = λ v. MayGive (mode_of v (count p.steps)) (Do (commands.Await Room)) in subst Q (sym a) (subst R (sym o) refl)
law_gives p (returns o j js e a k z) = let Q : Act → Type 0 = λ x. MayGive (mode_of p.owing (count p.steps)) x in let R : Bool → Type 0 = λ v. MayGive (mode_of v (count p.steps)) (Do (commands.Return j)) in subst Q (sym a) (subst R (sym o) (never_owing (count p.steps)))
law_gives p (finishes o a e k n y z) = let Q : Act → Type 0 = λ x. MayGive (mode_of p.owing (count p.steps)) x in let R : Bool → Type 0 = λ v. MayGive (mode_of v (count p.steps)) Finish in subst Q (sym a) (subst R (sym o) (never_owing (count p.steps)))
law_gives p (does o d l c ls g e a k) = let Q : Act → Type 0 = λ x. MayGive (mode_of p.owing (count p.steps)) x in let R : Mode → Type 0 = λ x. MayGive x (Do c) in subst Q (sym a) (subst R (sym (mode_known p false (suc (count ls)) o (count_front p l c ls g e))) (may_do (count ls) l c g))

takes_given : (l : Step) (c : Command) (before after : List Loan) → Gives l c → after ≡ before → Takes (Do c) before after
takes_given _ _ before after sends e = e
takes_given _ _ before after asks e = e
takes_given _ _ before after awaits e = e

law_takes : (p : Follower) → Shape p → Takes (script_act p) p.kept (kept_then p)
law_takes p (owes o a k) = let Q : Act → Type 0 = λ x. Takes x p.kept (kept_then p) in subst Q (sym a) k
law_takes p (returns o j js e a k z) = let Q : Act → Type 0 = λ x. Takes x p.kept (kept_then p) in subst Q (sym a) ([], js, e, k)
law_takes p (finishes o a e k n y z) = let Q : Act → Type 0 = λ x. Takes x p.kept (kept_then p) in subst Q (sym a) (e, k ∙ e)
law_takes p (does o d l c ls g e a k) = let Q : Act → Type 0 = λ x. Takes x p.kept (kept_then p) in subst Q (sym a) (takes_given l c p.kept (kept_then p) g k)

abbrev m : Meaning Follower
m = script_meaning

not_over : (p : Follower) (n : ℕ) → p.owing ≡ false → count p.steps ≡ suc n → mode_of p.owing (count p.steps) ≡ Over → ⊥
not_over p n o e h = mode_live n (sym (mode_known p false (suc n) o e) ∙ h)

free_or_over : (n : ℕ) → (mode_of false n ≡ Free) ⊎ (mode_of false n ≡ Over)
free_or_over zero = inr refl
free_or_over (suc n) = inl refl

-- nothing changes but what is kept
stays : (p q : Follower) (Rule : Mode → Mode → Type 0) → count q.steps ≡ count p.steps → q.owing ≡ p.owing → ((a b : Mode) → b ≡ a → Rule a b) → GoesOn m p q Rule
stays p q Rule c o rule =
    let same : mode_of q.owing (count q.steps) ≡ mode_of p.owing (count p.steps) = ap (λ v. mode_of v (count q.steps)) o ∙ ap (mode_of p.owing) c in
    record { falls = inr (c, rule (mode_of p.owing (count p.steps)) (mode_of q.owing (count q.steps)) same); over = λ h. same ∙ h }

owing_commands : (p : Follower) (o : Outcome) → p.owing ≡ true → MayAnswer (commands.Await Room) o → GoesOn m p (script_told p o) (Leads (commands.Await Room) o)
owing_commands p outcomes.Met w may = record {
  falls = inr (ap (λ v. count (cond v p.steps (past p).0)) w, inr (ap (λ v. mode_of v (count p.steps)) w, free_or_over (count (steps_told p outcomes.Met))));
  over = λ e. absurd (let f : Owing ≡ Over = sym (ap (λ v. mode_of v (count p.steps)) w) ∙ e in cc);
}
owing_commands p outcomes.Waiting w may = stays p (script_told p outcomes.Waiting) (Leads (commands.Await Room) outcomes.Waiting) refl refl (λ a b e. e)
owing_commands p outcomes.News w may = stays p (script_told p outcomes.News) (Leads (commands.Await Room) outcomes.News) refl refl (λ a b e. e)
owing_commands p _ w may = absurd may

return_commands : (p q : Follower) (loan : Loan) (o : Outcome) → q.steps ≡ p.steps → q.owing ≡ p.owing → MayAnswer (commands.Return loan) o → GoesOn m p (script_told q o) (Leads (commands.Return loan) o)
return_commands p q loan (outcomes.Returned j) e f may = stays p (script_told q (outcomes.Returned j)) (Leads (commands.Return loan) (outcomes.Returned j)) (count_skip (has_any q.kept) q.hold q.steps ∙ ap count e) f (λ a b h. h)
return_commands p q loan (outcomes.AlreadyBack j) e f may = stays p (script_told q (outcomes.AlreadyBack j)) (Leads (commands.Return loan) (outcomes.AlreadyBack j)) (count_skip (has_any q.kept) q.hold q.steps ∙ ap count e) f (λ a b h. h)
return_commands p q loan _ e f may = absurd may

-- a command that was done: its step is behind
passes : (p : Follower) (o : Outcome) (l : Step) (c : Command) (ls : List Step) (Rule : Mode → Mode → Type 0) → Gives l c → p.owing ≡ false → (front p).0 ≡ l ∷ ls → steps_told p o ≡ (past p).0 → GoesOn m p (script_told p o) Rule
passes p o l c ls Rule g w e told =
    let a : count (steps_told p o) ≡ count ls = ap count told ∙ (count_skip (has_any p.kept) (front p).1 (behind (front p).0) ∙ ap (λ (x : List Step). count (behind x)) e) in
    let b : count p.steps ≡ suc (count ls) = count_front p l c ls g e in
    record { falls = inl (omega (arith, a, b)); over = λ h. absurd (not_over p (count ls) w b h) }

step_commands : (p : Follower) (l : Step) (c : Command) (ls : List Step) (o : Outcome) → Gives l c → p.owing ≡ false → (front p).0 ≡ l ∷ ls → MayAnswer c o → GoesOn m p (script_told p o) (Leads c o)
step_commands p _ _ ls (outcomes.Held back) (sends {v = v}) w e may = record {
  falls = inr (refl, refl);
  over = λ h. absurd (not_over p (count ls) w (count_front p (Send v) (commands.Send v) ls sends e) h);
}
step_commands p _ _ ls (outcomes.Sent k) (sends {v = v}) w e may = passes p (outcomes.Sent k) (Send v) (commands.Send v) ls (Leads (commands.Send v) (outcomes.Sent k)) sends w e refl
step_commands p _ _ ls _ sends w e may = absurd may
step_commands p _ _ ls (outcomes.Asked r) (asks {q = q}) w e may = passes p (outcomes.Asked r) (Ask q) (commands.Ask q) ls (Leads (commands.Ask q) (outcomes.Asked r)) asks w e refl
step_commands p _ _ ls _ asks w e may = absurd may
step_commands p _ _ ls outcomes.Met (awaits {w = u}) w e may = passes p outcomes.Met (Await u) (commands.Await u) ls (Leads (commands.Await u) outcomes.Met) awaits w e (ap (λ v. cond v p.steps (past p).0) w)
step_commands p _ _ ls outcomes.Waiting (awaits {w = u}) w e may = stays p (script_told p outcomes.Waiting) (Leads (commands.Await u) outcomes.Waiting) refl refl (λ a b h. h)
step_commands p _ _ ls outcomes.News (awaits {w = u}) w e may = stays p (script_told p outcomes.News) (Leads (commands.Await u) outcomes.News) refl refl (λ a b h. h)
step_commands p _ _ ls _ awaits w e may = absurd may

law_commands : (p : Follower) → Shape p → (c : Command) (o : Outcome) → script_act p ≡ Do c → MayAnswer c o → GoesOn m p (script_told (script_then p) o) (Leads c o)
law_commands p (owes w a k) c o e may =
    let is : commands.Await Room ≡ c = cc in
    let Q : Command → Type 0 = λ x. MayAnswer x o → GoesOn m p (script_told (script_then p) o) (Leads x o) in
    let R : Follower → Type 0 = λ x. GoesOn m p (script_told x o) (Leads (commands.Await Room) o) in
    subst Q is (λ y. subst R (sym (then_same p k)) (owing_commands p o w y)) may
law_commands p (returns w j js n a k y) c o e may =
    let is : commands.Return j ≡ c = cc in
    let Q : Command → Type 0 = λ x. MayAnswer x o → GoesOn m p (script_told (script_then p) o) (Leads x o) in
    subst Q is (λ y. return_commands p (script_then p) j o refl refl y) may
law_commands p (finishes w a n k z x y) c o e may = absurd (cc)
law_commands p (does w d l b ls g f a k) c o e may =
    let is : b ≡ c = cc in
    let Q : Command → Type 0 = λ x. MayAnswer x o → GoesOn m p (script_told (script_then p) o) (Leads x o) in
    let R : Follower → Type 0 = λ x. GoesOn m p (script_told x o) (Leads b o) in
    subst Q is (λ y. subst R (sym (then_same p k)) (step_commands p l b ls o g w f y)) may

still : (p q : Follower) → count q.steps ≡ count p.steps → q.owing ≡ p.owing → StillWaits m p q
still p q c o = record { left = omega (arith, c); mode = ap (λ v. mode_of v (count q.steps)) o ∙ ap (mode_of p.owing) c }

law_waits : (p : Follower) → Shape p → (what : Condition) → script_act p ≡ Do (commands.Await what) → StillWaits m p (script_told (script_then p) outcomes.Waiting)
law_waits p (owes w a k) what e =
    let R : Follower → Type 0 = λ x. StillWaits m p (script_told x outcomes.Waiting) in
    subst R (sym (then_same p k)) (still p (script_told p outcomes.Waiting) refl refl)
law_waits p (does w d l b ls g f a k) what e =
    let R : Follower → Type 0 = λ x. StillWaits m p (script_told x outcomes.Waiting) in
    subst R (sym (then_same p k)) (still p (script_told p outcomes.Waiting) refl refl)
law_waits p (returns w j js n a k y) what e = absurd (cc)
law_waits p (finishes w a n k z x y) what e = absurd (cc)

given_over : (l : Step) (c : Command) → Gives l c → Do c ≡ Finish → ⊥
given_over l c g e = cc

law_finishes : (p : Follower) → Shape p → script_act p ≡ Finish → mode_of p.owing (count p.steps) ≡ Over
law_finishes p (owes w a k) e = absurd (cc)
law_finishes p (returns w j js n a k y) e = absurd (cc)
law_finishes p (finishes w a n k z x y) e = mode_known p false 0 w z
law_finishes p (does w d l b ls g f a k) e = absurd (given_over l b g (sym a ∙ e))

pub script_lawful : Lawful script_meaning
script_lawful = record {
  gives = λ p. law_gives p (shape p);
  takes = λ p. law_takes p (shape p);
  adds = λ p o. refl;
  for_commands = λ p c o e may. law_commands p (shape p) c o e may;
  waits = λ p w e. law_waits p (shape p) w e;
  finishes = λ p e. record { left = omega arith; mode = law_finishes p (shape p) e };
  notices = λ p n. record { falls = inr (refl, inl refl); over = λ e. e };
  quiets = λ p. record { left = omega arith; mode = inl refl };
}
