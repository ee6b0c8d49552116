-- Prefixes before an instruction are read exactly.
use Rattle.std.proofs.Common.{◌≡◌, ℕ, suc, ◌⊎◌, inl, inr, Bool, true, false, not, ◌||◌, List, [], ◌∷◌, ◌++◌, length, eqb, Ok, Err, refl, sym, ap, ◌∙◌, subst, ⊎_elim}
use Rattle.std.specs.List.{list_any, AllByRecursion}
use Rattle.std.proofs.lemmas.Bool.{false≢true, cond-true, cond-false, eqb-true, or_cases, or_parts, or_from, and_parts, and_from, or_left, not-true, both_ways, false_from_ne_true}
use Rattle.codes.specs.Codes.{Code, Read}
use Rattle.codes.specs.Exact.{Exact, Tells, AreBytes}
use Rattle.codes.specs.ExactLaws.{exact_along}
use Rattle.codes.specs.declared.Stop.TheVariants.{Outside, More}
use Rattle.ia32_decode.specs.Rows.{is_absent}
use Rattle.ia32_decode.specs.Opcodes.{body}
use Rattle.ia32_decode.specs.Prefixes.{is_prefix, has, with_prefix, none, read_behind, set_of, AreOnce, IsPrefixed, instruction, is_dead, takes, clashes, merged, repeat_of}
use Rattle.ia32_decode.specs.declared.prefixes.Prefixes.{Prefixes}
use Rattle.ia32_decode.specs.declared.instruction.Instr.{Instr}
use Rattle.ia32_decode.specs.declared.instruction.Repeat.{Repeat}
use Rattle.ia32_decode.specs.declared.instruction.Repeat.TheVariants as repeats
use Rattle.ia32_decode.proofs.Parts.{body_exact, body_alive, body_apart, body_some, body_longer}

-- behind these prefixes
abbrev pub spells_behind : Prefixes → List ℕ → Instr → Type 0
spells_behind prefixes [] v = ⊥
spells_behind prefixes (b ∷ bytes) v = ((is_prefix b ≡ true) × (has prefixes b ≡ false) × spells_behind (with_prefix prefixes b) bytes v) ⊎ ((is_prefix b ≡ false) × (body prefixes).spells (b ∷ bytes) v)

abbrev pub behind : Prefixes → Code Instr
behind prefixes = record { spells = spells_behind prefixes; read = read_behind prefixes }

abbrev stop : List ℕ → Read Instr
stop bytes = Err (Outside (suc (length bytes)))

-- ---- what the reader does at each byte

read_new : (prefixes : Prefixes) (b : ℕ) (bytes : List ℕ) → is_prefix b ≡ true → takes prefixes b ≡ true → read_behind prefixes (b ∷ bytes) ≡ read_behind (with_prefix prefixes b) bytes
unfolding read_behind
read_new prefixes b bytes p h = cond-true (is_prefix b) _ _ p ∙ cond-true (takes prefixes b) _ _ h

read_again : (prefixes : Prefixes) (b : ℕ) (bytes : List ℕ) → is_prefix b ≡ true → takes prefixes b ≡ false → read_behind prefixes (b ∷ bytes) ≡ stop bytes
unfolding read_behind
read_again prefixes b bytes p h = cond-true (is_prefix b) _ _ p ∙ cond-false (takes prefixes b) _ _ h

read_body : (prefixes : Prefixes) (b : ℕ) (bytes : List ℕ) → is_prefix b ≡ false → read_behind prefixes (b ∷ bytes) ≡ (body prefixes).read (b ∷ bytes)
unfolding read_behind
read_body prefixes b bytes p = cond-false (is_prefix b) _ _ p

read_none : (prefixes : Prefixes) → read_behind prefixes [] ≡ Err More
unfolding read_behind
read_none prefixes = refl

-- ---- prefixes that no row permits together

kept_repeat : (repeat other : Repeat) → not (is_absent repeat) ≡ true → not (is_absent (merged repeat other)) ≡ true
kept_repeat repeats.Absent other h = absurd (false≢true h)
kept_repeat repeats.F2 other h = refl
kept_repeat repeats.F3 other h = refl

with_dead : (prefixes : Prefixes) (b : ℕ) → is_dead prefixes ≡ true → is_dead (with_prefix prefixes b) ≡ true
unfolding with_prefix
with_dead prefixes b h =
    let parts = and_parts prefixes.lock (not (is_absent prefixes.repeat)) h in
    and_from _ _ (or_left prefixes.lock (eqb b 0xF0) parts.0) (kept_repeat prefixes.repeat (repeat_of b) parts.1)

behind_alive : (prefixes : Prefixes) (bytes : List ℕ) (v : Instr) → spells_behind prefixes bytes v → is_dead prefixes ≡ false
behind_alive prefixes [] v h = absurd h
behind_alive prefixes (b ∷ bytes) v (inl h) = false_from_ne_true (is_dead prefixes) (λ e. both_ways _ (behind_alive (with_prefix prefixes b) bytes v h.2) (with_dead prefixes b e))
behind_alive prefixes (b ∷ bytes) v (inr h) = body_alive prefixes (b ∷ bytes) v h.1

takes_new : (prefixes : Prefixes) (b : ℕ) (bytes : List ℕ) (v : Instr) → has prefixes b ≡ false → spells_behind (with_prefix prefixes b) bytes v → takes prefixes b ≡ true
takes_new prefixes b bytes v p h = and_from _ _ (ap not p) (ap not (behind_alive (with_prefix prefixes b) bytes v h))

takes-has : (prefixes : Prefixes) (b : ℕ) → takes prefixes b ≡ true → (has prefixes b ≡ false) × (is_dead (with_prefix prefixes b) ≡ false)
takes-has prefixes b h = let parts = and_parts _ _ h in (not-true _ parts.0, not-true _ parts.1)

-- ---- what is spelled is read

body_behind : (prefixes : Prefixes) (bytes : List ℕ) (v : Instr) → (body prefixes).spells bytes v → spells_behind prefixes bytes v
body_behind prefixes [] v h = body_some prefixes v h
body_behind prefixes (b ∷ bytes) v h = inr (body_apart prefixes b bytes v h, h)

behind_whole : (prefixes : Prefixes) (bytes : List ℕ) (v : Instr) (rest : List ℕ) → spells_behind prefixes bytes v → read_behind prefixes (bytes ++ rest) ≡ Ok (v, rest)
behind_whole prefixes [] v rest h = absurd h
behind_whole prefixes (b ∷ bytes) v rest (inl h) = read_new prefixes b (bytes ++ rest) h.0 (takes_new prefixes b bytes v h.1 h.2) ∙ behind_whole (with_prefix prefixes b) bytes v rest h.2
behind_whole prefixes (b ∷ bytes) v rest (inr h) = read_body prefixes b (bytes ++ rest) h.0 ∙ (body_exact prefixes (body_alive prefixes (b ∷ bytes) v h.1)).whole (b ∷ bytes) v rest h.1

-- ---- what is read is told

new_tells : (prefixes : Prefixes) (b : ℕ) (bytes : List ℕ) → is_prefix b ≡ true → takes prefixes b ≡ true → (read : Read Instr) → Tells (behind (with_prefix prefixes b)) bytes read → Tells (behind prefixes) (b ∷ bytes) read
new_tells prefixes b bytes p q (Ok x) h = record { front = b ∷ h.front; spelled = inl (p, (takes-has prefixes b q).0, h.spelled); parts = ap (λ (bs : List ℕ). b ∷ bs) h.parts }
new_tells prefixes b bytes p q (Err More) h = record { rest = h.rest; value = h.value; some = h.some; spelled = inl (p, (takes-has prefixes b q).0, h.spelled) }
new_tells prefixes b bytes p q (Err (Outside left)) h = record {
  front = b ∷ h.front;
  stop = h.stop;
  back = h.back;
  parts = ap (λ (bs : List ℕ). b ∷ bs) h.parts;
  long = h.long;
  before = read_new prefixes b h.front p q ∙ h.before;
  after = λ others. read_new prefixes b (h.front ++ h.stop ∷ others) p q ∙ h.after others;
}

-- a front of bytes that do not begin with a prefix
read_front : (prefixes : Prefixes) (b : ℕ) (bytes front back : List ℕ) (read : Read Instr) → is_prefix b ≡ false → b ∷ bytes ≡ front ++ back → (body prefixes).read front ≡ Err More → read_behind prefixes front ≡ Err More
read_front prefixes b bytes [] back read p e h = read_none prefixes
read_front prefixes b bytes (c ∷ front) back read p e h = let same : b ≡ c = cc in read_body prefixes c front (subst (λ b. is_prefix b ≡ false) same p) ∙ h

read_at : (prefixes : Prefixes) (b : ℕ) (bytes front back : List ℕ) (stop : ℕ) (others : List ℕ) → is_prefix b ≡ false → b ∷ bytes ≡ front ++ stop ∷ back → read_behind prefixes (front ++ stop ∷ others) ≡ (body prefixes).read (front ++ stop ∷ others)
read_at prefixes b bytes [] back stop others p e = let same : b ≡ stop = cc in read_body prefixes stop others (subst (λ b. is_prefix b ≡ false) same p)
read_at prefixes b bytes (c ∷ front) back stop others p e = let same : b ≡ c = cc in read_body prefixes c (front ++ stop ∷ others) (subst (λ b. is_prefix b ≡ false) same p)

body_tells : (prefixes : Prefixes) (b : ℕ) (bytes : List ℕ) → is_prefix b ≡ false → (read : Read Instr) → Tells (body prefixes) (b ∷ bytes) read → Tells (behind prefixes) (b ∷ bytes) read
body_tells prefixes b bytes p (Ok x) h = record { front = h.front; spelled = body_behind prefixes h.front x.0 h.spelled; parts = h.parts }
body_tells prefixes b bytes p (Err More) h = record { rest = h.rest; value = h.value; some = h.some; spelled = inr (p, h.spelled) }
body_tells prefixes b bytes p (Err (Outside left)) h = record {
  front = h.front;
  stop = h.stop;
  back = h.back;
  parts = h.parts;
  long = h.long;
  before = read_front prefixes b bytes h.front (h.stop ∷ h.back) (Err More) p h.parts h.before;
  after = λ others. read_at prefixes b bytes h.front h.back h.stop others p h.parts ∙ h.after others;
}

at_byte : (prefixes : Prefixes) (b : ℕ) (bytes : List ℕ) → is_dead prefixes ≡ false → AreBytes (b ∷ bytes) → (is_dead (with_prefix prefixes b) ≡ false → Tells (behind (with_prefix prefixes b)) bytes (read_behind (with_prefix prefixes b) bytes)) → (p q : Bool) → is_prefix b ≡ p → takes prefixes b ≡ q → Tells (behind prefixes) (b ∷ bytes) (read_behind prefixes (b ∷ bytes))
at_byte prefixes b bytes e low h true false p q = subst (Tells (behind prefixes) (b ∷ bytes)) (sym (read_again prefixes b bytes p q)) (record {
  front = [];
  stop = b;
  back = bytes;
  parts = refl;
  long = refl;
  before = read_none prefixes;
  after = λ others. read_again prefixes b others p q;
})
at_byte prefixes b bytes e low h true true p q = subst (Tells (behind prefixes) (b ∷ bytes)) (sym (read_new prefixes b bytes p q)) (new_tells prefixes b bytes p q (read_behind (with_prefix prefixes b) bytes) (h (takes-has prefixes b q).1))
at_byte prefixes b bytes e low h false _ p q = subst (Tells (behind prefixes) (b ∷ bytes)) (sym (read_body prefixes b bytes p)) (body_tells prefixes b bytes p ((body prefixes).read (b ∷ bytes)) ((body_exact prefixes e).tells (b ∷ bytes) low))

behind_tells : (prefixes : Prefixes) → is_dead prefixes ≡ false → (bytes : List ℕ) → AreBytes bytes → Tells (behind prefixes) bytes (read_behind prefixes bytes)
behind_tells prefixes e [] low =
    let h = body_longer prefixes e in
    subst (Tells (behind prefixes) []) (sym (read_none prefixes)) (record { rest = h.rest; value = h.value; some = h.some; spelled = body_behind prefixes h.rest h.value h.spelled })
behind_tells prefixes e (b ∷ bytes) low = at_byte prefixes b bytes e low (λ alive. behind_tells (with_prefix prefixes b) alive bytes low.1) (is_prefix b) (takes prefixes b) refl refl

pub behind_exact : (prefixes : Prefixes) → is_dead prefixes ≡ false → Exact (behind prefixes)
behind_exact prefixes e = record { whole = behind_whole prefixes; tells = behind_tells prefixes e }

-- ---- prefixes in any order, each once

abbrev Each : List ℕ → Type 0
Each prefixes = AllByRecursion (λ b. is_prefix b ≡ true) prefixes

abbrev Apart : Prefixes → List ℕ → Type 0
Apart had prefixes = AllByRecursion (λ b. has had b ≡ false) prefixes

abbrev Fresh : Prefixes → List ℕ → Type 0
Fresh had [] = Unit {0}
Fresh had (b ∷ prefixes) = (has had b ≡ false) × Fresh (with_prefix had b) prefixes

abbrev added : Prefixes → List ℕ → Prefixes
added had [] = had
added had (b ∷ prefixes) = added (with_prefix had b) prefixes

record Splits (had : Prefixes) (bytes : List ℕ) (v : Instr) : Type 0 where
  prefixes : List ℕ
  rest : List ℕ
  parts : bytes ≡ prefixes ++ rest
  each : Each prefixes
  fresh : Fresh had prefixes
  spelled : (body (added had prefixes)).spells rest v

split : (had : Prefixes) (bytes : List ℕ) (v : Instr) → spells_behind had bytes v → Splits had bytes v
split had [] v h = absurd h
split had (b ∷ bytes) v (inl h) =
    let s = split (with_prefix had b) bytes v h.2 in
    record { prefixes = b ∷ s.prefixes; rest = s.rest; parts = ap (λ (bs : List ℕ). b ∷ bs) s.parts; each = (h.0, s.each); fresh = (h.1, s.fresh); spelled = s.spelled }
split had (b ∷ bytes) v (inr h) = record { prefixes = []; rest = b ∷ bytes; parts = refl; each = tt; fresh = tt; spelled = h.1 }

join : (had : Prefixes) (prefixes rest : List ℕ) (v : Instr) → Each prefixes → Fresh had prefixes → (body (added had prefixes)).spells rest v → spells_behind had (prefixes ++ rest) v
join had [] rest v each fresh h = body_behind had rest v h
join had (b ∷ prefixes) rest v each fresh h = inl (each.0, fresh.0, join (with_prefix had b) prefixes rest v each.1 fresh.1 h)

-- which prefix a byte is
pub data Which (b : ℕ) : Type 0 where
  is_66 : b ≡ 0x66 → Which b
  is_f0 : b ≡ 0xF0 → Which b
  is_f2 : b ≡ 0xF2 → Which b
  is_f3 : b ≡ 0xF3 → Which b

pub which : (b : ℕ) → is_prefix b ≡ true → Which b
which b h = ⊎_elim (λ p. ⊎_elim (λ e. is_66 (eqb-true b 0x66 e)) (λ e. is_f0 (eqb-true b 0xF0 e)) (or_cases _ _ p)) (λ p. ⊎_elim (λ e. is_f2 (eqb-true b 0xF2 e)) (λ e. is_f3 (eqb-true b 0xF3 e)) (or_cases _ _ p)) (or_cases _ _ h)

pub or-false : (a : Bool) → (a || false) ≡ a
or-false true = refl
or-false false = refl

pub or-true : (a : Bool) → (a || true) ≡ true
or-true true = refl
or-true false = refl

pub merged_some : (repeat : Repeat) → (not (is_absent (merged repeat repeats.F2)) ≡ true) × (not (is_absent (merged repeat repeats.F3)) ≡ true) × (merged repeat repeats.Absent ≡ repeat)
merged_some repeats.Absent = (refl, refl, refl)
merged_some repeats.F2 = (refl, refl, refl)
merged_some repeats.F3 = (refl, refl, refl)

has_with_at : (had : Prefixes) (b c : ℕ) → Which b → Which c → has (with_prefix had b) c ≡ (has had c || clashes c b)
unfolding has with_prefix
has_with_at had b c (is_66 p) (is_66 q) = rw (p, q) refl
has_with_at had b c (is_66 p) (is_f0 q) = rw (p, q) refl
has_with_at had b c (is_66 p) (is_f2 q) = let m = merged_some had.repeat in rw (p, q, m.2, or-false (not (is_absent had.repeat))) refl
has_with_at had b c (is_66 p) (is_f3 q) = let m = merged_some had.repeat in rw (p, q, m.2, or-false (not (is_absent had.repeat))) refl
has_with_at had b c (is_f0 p) (is_66 q) = rw (p, q) refl
has_with_at had b c (is_f0 p) (is_f0 q) = rw (p, q) refl
has_with_at had b c (is_f0 p) (is_f2 q) = let m = merged_some had.repeat in rw (p, q, m.2, or-false (not (is_absent had.repeat))) refl
has_with_at had b c (is_f0 p) (is_f3 q) = let m = merged_some had.repeat in rw (p, q, m.2, or-false (not (is_absent had.repeat))) refl
has_with_at had b c (is_f2 p) (is_66 q) = rw (p, q) refl
has_with_at had b c (is_f2 p) (is_f0 q) = rw (p, q) refl
has_with_at had b c (is_f2 p) (is_f2 q) = let m = merged_some had.repeat in rw (p, q, m.0, or-true (not (is_absent had.repeat))) refl
has_with_at had b c (is_f2 p) (is_f3 q) = let m = merged_some had.repeat in rw (p, q, m.0, or-true (not (is_absent had.repeat))) refl
has_with_at had b c (is_f3 p) (is_66 q) = rw (p, q) refl
has_with_at had b c (is_f3 p) (is_f0 q) = rw (p, q) refl
has_with_at had b c (is_f3 p) (is_f2 q) = let m = merged_some had.repeat in rw (p, q, m.1, or-true (not (is_absent had.repeat))) refl
has_with_at had b c (is_f3 p) (is_f3 q) = let m = merged_some had.repeat in rw (p, q, m.1, or-true (not (is_absent had.repeat))) refl

has_with : (had : Prefixes) (b c : ℕ) → is_prefix b ≡ true → is_prefix c ≡ true → has (with_prefix had b) c ≡ (has had c || clashes c b)
has_with had b c p q = has_with_at had b c (which b p) (which c q)

apart_before : (had : Prefixes) (b : ℕ) (prefixes : List ℕ) → is_prefix b ≡ true → Each prefixes → Apart (with_prefix had b) prefixes → Apart had prefixes × (list_any (λ c. clashes c b) prefixes ≡ false)
apart_before had b [] p each h = (tt, refl)
apart_before had b (c ∷ prefixes) p each h =
    let e = or_parts _ _ (sym (has_with had b c p each.0) ∙ h.0) in
    let r = apart_before had b prefixes p each.1 h.1 in
    ((e.0, r.0), or_from _ _ e.1 r.1)

apart_with : (had : Prefixes) (b : ℕ) (prefixes : List ℕ) → is_prefix b ≡ true → Each prefixes → Apart had prefixes → list_any (λ c. clashes c b) prefixes ≡ false → Apart (with_prefix had b) prefixes
apart_with had b [] p each h e = tt
apart_with had b (c ∷ prefixes) p each h e =
    let parts = or_parts (clashes c b) (list_any (λ c. clashes c b) prefixes) e in
    (has_with had b c p each.0 ∙ or_from _ _ h.0 parts.0, apart_with had b prefixes p each.1 h.1 parts.1)

fresh_once : (had : Prefixes) (prefixes : List ℕ) → Each prefixes → Fresh had prefixes → AreOnce prefixes × Apart had prefixes
fresh_once had [] each h = (tt, tt)
fresh_once had (b ∷ prefixes) each h =
    let r = fresh_once (with_prefix had b) prefixes each.1 h.1 in
    let a = apart_before had b prefixes each.0 each.1 r.1 in
    ((a.1, r.0), (h.0, a.0))

once_fresh : (had : Prefixes) (prefixes : List ℕ) → Each prefixes → AreOnce prefixes → Apart had prefixes → Fresh had prefixes
once_fresh had [] each once h = tt
once_fresh had (b ∷ prefixes) each once h = (h.0, once_fresh (with_prefix had b) prefixes each.1 once.1 (apart_with had b prefixes each.0 each.1 h.1 once.0))

none_has : (b : ℕ) → Which b → has none b ≡ false
unfolding has
none_has b (is_66 e) = rw e refl
none_has b (is_f0 e) = rw e refl
none_has b (is_f2 e) = rw e refl
none_has b (is_f3 e) = rw e refl

none_apart : (prefixes : List ℕ) → Each prefixes → Apart none prefixes
none_apart [] each = tt
none_apart (b ∷ prefixes) each = (none_has b (which b each.0), none_apart prefixes each.1)

or_assoc : (a b c : Bool) → ((a || b) || c) ≡ (a || (b || c))
or_assoc true b c = refl
or_assoc false b c = refl

merged_assoc : (a b c : Repeat) → merged (merged a b) c ≡ merged a (merged b c)
merged_assoc repeats.Absent b c = refl
merged_assoc repeats.F2 b c = refl
merged_assoc repeats.F3 b c = refl

added_is : (had : Prefixes) (prefixes : List ℕ) → added had prefixes ≡ record { operand_size = had.operand_size || (set_of prefixes).operand_size; lock = had.lock || (set_of prefixes).lock; repeat = merged had.repeat (set_of prefixes).repeat }
unfolding with_prefix
added_is had [] = rw (or-false had.operand_size, or-false had.lock, (merged_some had.repeat).2) refl
added_is had (b ∷ prefixes) = added_is (with_prefix had b) prefixes ∙ simp (or_assoc, merged_assoc)

-- ---- the theorem

pub behind_spelled : (bytes : List ℕ) (v : Instr) → IsPrefixed bytes v → spells_behind none bytes v
behind_spelled bytes v h = subst (λ (bs : List ℕ). spells_behind none bs v) (sym h.parts) (join none h.prefixes h.rest v h.each (once_fresh none h.prefixes h.each h.once (none_apart h.prefixes h.each)) (subst (λ p. (body p).spells h.rest v) (sym (added_is none h.prefixes)) h.spelled))

pub instruction_exact : Exact instruction
instruction_exact = exact_along (behind none) instruction (λ bytes. refl)
    (λ bytes v h.
    let s = split none bytes v h in
    record { prefixes = s.prefixes; rest = s.rest; parts = s.parts; each = s.each; once = (fresh_once none s.prefixes s.each s.fresh).0; spelled = subst (λ p. (body p).spells s.rest v) (added_is none s.prefixes) s.spelled })
    behind_spelled
    (behind_exact none refl)
