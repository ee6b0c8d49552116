-- What an array makes, one packet after the other.
use Rattle.std.proofs.Common.{◌≡◌, ℕ, suc, ◌+◌, ◌-◌, ◌*◌, ◌^◌, ◌<◌, ◌≤◌, Bool, true, false, cond, ◌||◌, ◌==◌, List, [], ◌∷◌, ◌++◌, length, get_or, drop, Option, Some, None, Result, Ok, Err, refl, sym, ap, ◌∙◌, append_assoc, append-nil, subst, arith}
use Rattle.std.specs.Prelude.{is_none, reverse}
use Rattle.std.specs.List.{list_any}
use Rattle.std.proofs.lemmas.List.{at_drop_more, at_drop_all, reverse-append}
use Rattle.std.proofs.lemmas.List.Sorted.{IsPermutation-reverse, list_any-IsPermutation}
use Rattle.nd_base.specs.declared.numbers.Breach.{Breach}
use Rattle.nd_mem.specs.Space.{wrapped}
use Rattle.packet_chain.specs.Chain.{word_at}
use Rattle.log_fields.specs.declared.write.Write.{Write}
use Rattle.call_log.specs.declared.entry.Entry.{Entry}
use Rattle.legal_run.specs.State.{State, cells}
use Rattle.legal_run.specs.Calls.{Walked, Fell, Went, indicated, judged, may_be_lent, onto, words_from}
use Rattle.legal_run.specs.Frames.{frame_at}
use Rattle.call_verdicts.specs.Deeds.{judged_as, writes_of}
use Rattle.call_verdicts.specs.declared.lendings.Lending.{Lending}

-- ---- what stood before, whichever way round

pub among : (p : ℕ → Bool) (xs : List ℕ) → list_any p (reverse xs) ≡ list_any p xs
among p xs = sym (list_any-IsPermutation p xs (reverse xs) (IsPermutation-reverse xs))

-- ---- what an array makes so far, in front of what the rest of it makes

abbrev pub in_front : List Entry → List ℕ → List Write → Walked → Walked
in_front es lent writes (Fell rule) = Fell rule
in_front es lent writes (Went fs more rest) = Went (es ++ fs) (lent ++ more) (writes ++ rest)

one_more : (es : List Entry) (lent : List ℕ) (writes : List Write) (e : Entry) (packet : ℕ) (status : List Write) (w : Walked) → in_front es lent writes (onto e packet status w) ≡ in_front (es ++ e ∷ []) (lent ++ packet ∷ []) (writes ++ status) w
one_more es lent writes e packet status (Fell rule) = refl
one_more es lent writes e packet status (Went fs more rest) =
    ap (λ (gs : List Entry). Went gs (lent ++ (packet ∷ more)) (writes ++ (status ++ rest))) (sym (append_assoc es (e ∷ []) fs))
    ∙ ap (λ (ps : List ℕ). Went ((es ++ e ∷ []) ++ fs) ps (writes ++ (status ++ rest))) (sym (append_assoc lent (packet ∷ []) more))
    ∙ ap (λ (ws : List Write). Went ((es ++ e ∷ []) ++ fs) ((lent ++ packet ∷ []) ++ more) ws) (sym (append_assoc writes status rest))

-- what the packets of an array make from one on, behind those before it
abbrev pub rest_of : State → ℕ → (j away : ℕ) → (lent packets : List ℕ) → ℕ → Walked
rest_of s a j away lent packets i = indicated s a j away (reverse lent) (drop i packets)

abbrev judged_at : State → ℕ → (j away : ℕ) → (lent packets : List ℕ) → (i : ℕ) → (home gone : Walked) → Walked
judged_at s a j away lent packets i home gone =
    judged s a j away (get_or packets i 0) (may_be_lent s (reverse lent) (get_or packets i 0)) (frame_at s.world.layout (cells s) (get_or packets i 0)) home gone

-- what the judgement of a packet says, whatever those behind it make
abbrev pub Says : State → ℕ → (j away : ℕ) → (lent : List ℕ) → (packet : ℕ) → Result Lending Breach → Type 0
Says s a j away lent packet r =
    (home gone : Walked) → judged_as r packet home gone ≡ judged s a j away packet (may_be_lent s (reverse lent) packet) (frame_at s.world.layout (cells s) packet) home gone

-- the same by other names
pub said : (s : State) (a j k away : ℕ) (before lent : List ℕ) (packet : ℕ) (r q : Result Lending Breach) → j ≡ k → before ≡ lent → r ≡ q → Says s a j away before packet r → Says s a k away lent packet q
said s a j k away before lent packet r q number same is says =
    subst (λ (p : Result Lending Breach). Says s a k away lent packet p) is
    (subst (λ (xs : List ℕ). Says s a k away xs packet r) same (subst (λ (m : ℕ). Says s a m away before packet r) number says))

front : (s : State) (a j away : ℕ) (lent packets : List ℕ) (i : ℕ) → i < length packets
    → rest_of s a j away lent packets i ≡ judged_at s a j away lent packets i (indicated s a (suc j) away (get_or packets i 0 ∷ reverse lent) (drop (i + 1) packets)) (indicated s a (suc j) (suc away) (get_or packets i 0 ∷ reverse lent) (drop (i + 1) packets))
unfolding indicated
front s a j away lent packets i lt = at_drop_more (indicated s a j away (reverse lent)) packets i 0 lt

-- a packet that breaks a rule
pub falls : (s : State) (a j away : ℕ) (es : List Entry) (lent : List ℕ) (writes : List Write) (packets : List ℕ) (i : ℕ) (rule : Breach) (all : Walked) → i < length packets → Says s a j away lent (get_or packets i 0) (Err rule)
    → in_front es lent writes (rest_of s a j away lent packets i) ≡ all → Fell rule.0 ≡ all
falls s a j away es lent writes packets i rule all lt says so =
    ap (in_front es lent writes) (says _ _ ∙ sym (front s a j away lent packets i lt)) ∙ so

abbrev counted : Bool → ℕ
counted b = cond b 1 0

goes_on : (s : State) (a j away : ℕ) (before packets : List ℕ) (b : Bool) → cond b (indicated s a j (suc away) before packets) (indicated s a j away before packets) ≡ indicated s a j (away + counted b) before packets
goes_on s a j away before packets true = let next : suc away ≡ away + 1 = omega arith in ap (λ (n : ℕ). indicated s a j n before packets) next
goes_on s a j away before packets false = let next : away ≡ away + 0 = omega arith in ap (λ (n : ℕ). indicated s a j n before packets) next

-- a packet that is told
pub tells : (s : State) (a n i away after : ℕ) (es fs : List Entry) (lent more : List ℕ) (writes rest : List Write) (packets : List ℕ) (l : Lending) (all : Walked) → i < length packets → Says s a (n + i) away lent (get_or packets i 0) (Ok l)
    → after ≡ away + counted l.goes → fs ≡ es ++ l.entry ∷ [] → more ≡ lent ++ get_or packets i 0 ∷ [] → rest ≡ writes ++ writes_of l.status
    → in_front es lent writes (rest_of s a (n + i) away lent packets i) ≡ all → in_front fs more rest (rest_of s a (n + (i + 1)) after more packets (i + 1)) ≡ all
tells s a n i away after es fs lent more writes rest packets l all lt says counts put lends writes_more so =
    let packet = get_or packets i 0 in
    let behind = drop (i + 1) packets in
    let next : n + (i + 1) ≡ suc (n + i) = omega arith in
    let turned : reverse more ≡ packet ∷ reverse lent = ap reverse lends ∙ reverse-append lent (packet ∷ []) in
    let moved : rest_of s a (n + (i + 1)) after more packets (i + 1) ≡ indicated s a (suc (n + i)) (away + counted l.goes) (packet ∷ reverse lent) behind =
    ap (λ (m : ℕ). indicated s a m after (reverse more) behind) next
    ∙ ap (λ (m : ℕ). indicated s a (suc (n + i)) m (reverse more) behind) counts
    ∙ ap (λ (ps : List ℕ). indicated s a (suc (n + i)) (away + counted l.goes) ps behind) turned in
    ap (in_front fs more rest) moved
    ∙ ap (λ (gs : List Entry). in_front gs more rest (indicated s a (suc (n + i)) (away + counted l.goes) (packet ∷ reverse lent) behind)) put
    ∙ ap (λ (ps : List ℕ). in_front (es ++ l.entry ∷ []) ps rest (indicated s a (suc (n + i)) (away + counted l.goes) (packet ∷ reverse lent) behind)) lends
    ∙ ap (λ (ws : List Write). in_front (es ++ l.entry ∷ []) (lent ++ packet ∷ []) ws (indicated s a (suc (n + i)) (away + counted l.goes) (packet ∷ reverse lent) behind)) writes_more
    ∙ ap (in_front (es ++ l.entry ∷ []) (lent ++ packet ∷ []) (writes ++ writes_of l.status)) (sym (goes_on s a (suc (n + i)) away (packet ∷ reverse lent) behind l.goes))
    ∙ sym (one_more es lent writes l.entry packet (writes_of l.status) _)
    ∙ ap (in_front es lent writes) (says _ _ ∙ sym (front s a (n + i) away lent packets i lt))
    ∙ so

pub all_told : (s : State) (a j away : ℕ) (es : List Entry) (lent : List ℕ) (writes : List Write) (packets : List ℕ) (i : ℕ) (all : Walked) → length packets ≤ i → in_front es lent writes (rest_of s a j away lent packets i) ≡ all → Went es lent writes ≡ all
unfolding indicated
all_told s a j away es lent writes packets i all most so =
    ap (λ (gs : List Entry). Went gs lent writes) (sym (append-nil es))
    ∙ ap (λ (ps : List ℕ). Went (es ++ []) ps writes) (sym (append-nil lent))
    ∙ ap (λ (ws : List Write). Went (es ++ []) (lent ++ []) ws) (sym (append-nil writes))
    ∙ ap (in_front es lent writes) (sym (at_drop_all (indicated s a j away (reverse lent)) packets i most))
    ∙ so

-- ---- the words of an array

pub readable : {A : Type 0} (o : Option A) → is_none o ≡ true → o ≡ None
readable None e = refl
readable (Some x) e = absurd (cc)

pub words_more : (s : State) (a n k : ℕ) → k < n → a + 4 * k < 2 ^ 32 → words_from s (a + 4 * k) (n - k) ≡ word_at (cells s) (a + 4 * k) ∷ words_from s (a + 4 * (k + 1)) (n - (k + 1))
unfolding words_from
words_more s a n k lt low =
    let more : n - k ≡ suc (n - (k + 1)) = omega arith in
    let on : (a + 4 * k) + 4 ≡ a + 4 * (k + 1) = omega arith in
    let same : wrapped (a + 4 * k) ≡ a + 4 * k = omega arith in
    ap (words_from s (a + 4 * k)) more
    ∙ ap (λ (w : ℕ). word_at (cells s) w ∷ words_from s ((a + 4 * k) + 4) (n - (k + 1))) same
    ∙ ap (λ (b : ℕ). word_at (cells s) (a + 4 * k) ∷ words_from s b (n - (k + 1))) on

pub words_put : (s : State) (a n k w : ℕ) (ws more all : List ℕ) → k < n → a + 4 * k < 2 ^ 32 → w ≡ word_at (cells s) (a + 4 * k) → more ≡ ws ++ w ∷ [] → ws ++ words_from s (a + 4 * k) (n - k) ≡ all → more ++ words_from s (a + 4 * (k + 1)) (n - (k + 1)) ≡ all
words_put s a n k w ws more all lt low is put so =
    let rest = words_from s (a + 4 * (k + 1)) (n - (k + 1)) in
    ap (λ (xs : List ℕ). xs ++ rest) put
    ∙ append_assoc ws (w ∷ []) rest
    ∙ ap (λ (x : ℕ). ws ++ (x ∷ rest)) is
    ∙ ap (λ (xs : List ℕ). ws ++ xs) (sym (words_more s a n k lt low))
    ∙ so

pub words_all : (s : State) (a n k : ℕ) (ws all : List ℕ) → n ≤ k → ws ++ words_from s (a + 4 * k) (n - k) ≡ all → ws ≡ all
unfolding words_from
words_all s a n k ws all most so =
    let none : n - k ≡ 0 = omega arith in
    sym (append-nil ws) ∙ ap (λ (m : ℕ). ws ++ words_from s (a + 4 * k) m) (sym none) ∙ so
