-- A source has one outcome, but for want of memory.
use Rattle.std.proofs.Common.{◌≡◌, ℕ, ◌+◌, ◌*◌, ◌≤◌, ◌⊎◌, inl, inr, Bool, true, false, cond, List, [], ◌∷◌, ◌++◌, length, Option, None, Some, refl, sym, ap, subst, ◌∙◌, ⊎_elim, append_assoc, length-append, replicate, arith}
use Rattle.std.specs.Prelude.{◌≢◌, ◌==◌}
use Rattle.std.specs.Str.Lines.{lines}
use Rattle.asm_lines.specs.Lines.{Content, Nothing, Label, Octets, Word, Import, Instruction, line_content}
use Rattle.line_bytes.specs.Pieces.{IsPiece, IsLine}
use Rattle.line_bytes.specs.Refusals.{IsBadContent, IsBadIn, IsRefusal}
use Rattle.line_bytes.specs.One.{MadeIsOne, ReasonIsOne}
use Rattle.line_bytes.specs.declared.made.Made.{Made}
use Rattle.line_bytes.specs.declared.piece.Tables.{Tables}
use Rattle.line_bytes.specs.declared.piece.Met.{Met}
use Rattle.line_bytes.specs.declared.refused.Refused.{Refused}
use Rattle.line_bytes.specs.declared.refused.Refused.TheVariants as refused
use Rattle.sys_forge.specs.Standing.{none_laid, laid, AreMade, IsSettled}
use Rattle.sys_forge.specs.Assembly.{PutsBy, Puts, none_met, IsEmitted, IsAssembly, IsRepeated, IsWanting, IsRefusedAt, IsRefusedText}
use Rattle.sys_forge.specs.Whole.{IsAssembled}
use Rattle.sys_forge.specs.One.{LineLaws}
use Rattle.sys_forge.specs.declared.refusal.ForgeRefusal.{ForgeRefusal}
use Rattle.sys_forge.specs.declared.refusal.ForgeRefusal.TheVariants as refusals
use Rattle.sys_forge.proofs.Excluded.{lines_exclude}

content_is : (c d : Content) → ◌≡◌ {A = Option Content} (Some c) (Some d) → c ≡ d
content_is c d e = cc

line_one : LineLaws → (t : Tables) (met : Met) (at : ℕ) (line piece other : List ℕ) (next last : Met) → IsLine t met at line piece next → IsLine t met at line other last → (piece ≡ other) × (next ≡ last)
line_one laws t met at line piece other next last p q =
    let same : p.content ≡ q.content = content_is p.content q.content (sym p.says ∙ q.says) in
    laws.piece t met at p.content piece other next last p.is (subst (λ c. IsPiece t met at c other last) (sym same) q.is)

-- ---- where labels stand

are_one : MadeIsOne → (ls : List (List ℕ)) (ms ns : List (Option Made)) → AreMade ls ms → AreMade ls ns → ms ≡ ns
unfolding AreMade
are_one law [] [] [] p q = refl
are_one law [] [] (n ∷ ns) p q = absurd q
are_one law [] (m ∷ ms) ns p q = absurd p
are_one law (line ∷ ls) [] ns p q = absurd p
are_one law (line ∷ ls) (m ∷ ms) [] p q = absurd q
are_one law (line ∷ ls) (m ∷ ms) (n ∷ ns) p q = ap (λ k. k ∷ ms) (law (line_content line) m n p.0 q.0) ∙ ap (λ ks. n ∷ ks) (are_one law ls ms ns p.1 q.1)

settled_one : MadeIsOne → (text : List ℕ) (t u : Tables) → IsSettled text t → IsSettled text u → t ≡ u
settled_one law text t u p q = p.is ∙ ap (laid none_laid (lines text)) (are_one law (lines text) p.made q.made p.are q.are) ∙ sym q.is

-- ---- bytes of lines

puts_one : LineLaws → (t : Tables) (done : ℕ) (met : Met) (ls : List (List ℕ)) (bytes other : List ℕ) (last stop : Met) → Puts t done met ls bytes last → Puts t done met ls other stop → (bytes ≡ other) × (last ≡ stop)
unfolding PutsBy
puts_one laws t done met [] bytes other last stop p q = (p.0 ∙ sym q.0, p.1 ∙ sym q.1)
puts_one laws t done met (line ∷ ls) bytes other last stop p q =
    let one = line_one laws t met (0x80101000 + done) line p.0 q.0 p.2 q.2 p.3 q.3 in
    let at : Puts t (done + length p.0) q.2 ls q.1 stop = subst (λ (piece : List ℕ). Puts t (done + length piece) q.2 ls q.1 stop) (sym one.0) q.4 in
    let here : Puts t (done + length p.0) p.2 ls q.1 stop = subst (λ next. Puts t (done + length p.0) next ls q.1 stop) (sym one.1) at in
    let rest = puts_one laws t (done + length p.0) p.2 ls p.1 q.1 last stop p.4 here in
    (p.5 ∙ ap (λ (piece : List ℕ). piece ++ p.1) one.0 ∙ ap (λ (rest : List ℕ). q.0 ++ rest) rest.0 ∙ sym q.5, rest.1)

count-grows : (b : Bool) (n : ℕ) → n ≤ cond b (n + 1) n
count-grows true n = omega arith
count-grows false n = omega arith

imports-grow : (t : Tables) (met : Met) (at : ℕ) (content : Content) (piece : List ℕ) (next : Met) → IsPiece t met at content piece next → met.imports ≤ next.imports
imports-grow t met at Nothing piece next h = omega (arith, ap (λ (m : Met). m.imports) h.1)
imports-grow t met at (Label name) piece next h = omega (arith, h.imports)
imports-grow t met at (Octets bytes) piece next h = omega (arith, ap (λ (m : Met). m.imports) h.1)
imports-grow t met at (Word value) piece next h = omega (arith, ap (λ (m : Met). m.imports) h.1)
imports-grow t met at (Import name) piece next h = subst (λ k. met.imports ≤ k) (sym h.0.count) (count-grows (h.0.place == met.imports) met.imports)
imports-grow t met at (Instruction s) piece next h = omega (arith, ap (λ (m : Met). m.imports) h.1)

all-grow : (t : Tables) (done : ℕ) (met : Met) (ls : List (List ℕ)) (bytes : List ℕ) (last : Met) → Puts t done met ls bytes last → met.imports ≤ last.imports
unfolding PutsBy
all-grow t done met [] bytes last h = omega (arith, ap (λ (m : Met). m.imports) h.1)
all-grow t done met (line ∷ ls) bytes last h =
    let here = imports-grow t met (0x80101000 + done) h.3.content h.0 h.2 h.3.is in
    let later = all-grow t (done + length h.0) h.2 ls h.1 last h.4 in
    omega (arith, here, later)

-- the bytes of lines in front, and those behind
record IsSplit (t : Tables) (done : ℕ) (met : Met) (front back : List (List ℕ)) (bytes : List ℕ) (last : Met) : Type 0 where
  first : List ℕ
  mid : Met
  second : List ℕ
  put : Puts t done met front first mid
  behind : Puts t (done + length first) mid back second last
  parts : bytes ≡ first ++ second

parted : (t : Tables) (done : ℕ) (met : Met) (front back : List (List ℕ)) (bytes : List ℕ) (last : Met) → Puts t done met (front ++ back) bytes last → IsSplit t done met front back bytes last
unfolding PutsBy
parted t done met [] back bytes last h =
    let none : done ≡ done + 0 = omega arith in
    record { first = []; mid = met; second = bytes; put = (refl, refl); behind = subst (λ n. Puts t n met back bytes last) none h; parts = refl }
parted t done met (line ∷ front) back bytes last h =
    let s = parted t (done + length h.0) h.2 front back h.1 last h.4 in
    let long : done + length h.0 + length s.first ≡ done + length (h.0 ++ s.first) = omega (arith, length-append h.0 s.first) in
    record {
      first = h.0 ++ s.first;
      mid = s.mid;
      second = s.second;
      put = (h.0, s.first, h.2, h.3, s.put, refl);
      behind = subst (λ n. Puts t n s.mid back s.second last) long s.behind;
      parts = h.5 ∙ ap (λ (rest : List ℕ). h.0 ++ rest) s.parts ∙ sym (append_assoc h.0 s.first s.second);
    }

-- ---- a line with bytes is not refused

refused-not : LineLaws → (t : Tables) (front : List (List ℕ)) (bytes : List ℕ) (met : Met) (line piece : List ℕ) (next : Met) (why : Refused) → Puts t 0 none_met front bytes met → IsLine t met (0x80101000 + length bytes) line piece next → length bytes + length piece + 4 * next.imports ≤ 0x3FF000 → IsRefusal (IsRepeated front) IsWanting t met (length bytes) line why → why ≡ refused.OutOfMemory
refused-not laws t front bytes met line piece next refused.OutOfMemory p l room h = refl
refused-not laws t front bytes met line piece next refused.Line p l room h = lines_exclude laws.excluded t front bytes met line piece next refused.Line p l h
refused-not laws t front bytes met line piece next refused.Range p l room (inl h) = lines_exclude laws.excluded t front bytes met line piece next refused.Range p l h
refused-not laws t front bytes met line piece next refused.Range p l room (inr h) =
    let one = line_one laws t met (0x80101000 + length bytes) line piece h.piece next h.next l h.is in
    absurd (omega (arith, room, h.long, ap length one.0, ap (λ (m : Met). m.imports) one.1))

put-not : LineLaws → (t : Tables) (front back : List (List ℕ)) (line bytes mine : List ℕ) (last met : Met) (why : Refused) → Puts t 0 none_met (front ++ line ∷ back) bytes last → length bytes + 4 * last.imports ≤ 0x3FF000 → Puts t 0 none_met front mine met → IsRefusal (IsRepeated front) IsWanting t met (length mine) line why → why ≡ refused.OutOfMemory
unfolding PutsBy
put-not laws t front back line bytes mine last met why all room put h =
    let s = parted t 0 none_met front (line ∷ back) bytes last all in
    let one = puts_one laws t 0 none_met front s.first mine s.mid met s.put put in
    let b = s.behind in
    let at : 0x80101000 + (0 + length s.first) ≡ 0x80101000 + length mine = omega (arith, ap length one.0) in
    let l : IsLine t met (0x80101000 + length mine) line b.0 b.2 = subst (λ n. IsLine t met n line b.0 b.2) at (subst (λ m. IsLine t m (0x80101000 + (0 + length s.first)) line b.0 b.2) one.1 b.3) in
    let grown = all-grow t (0 + length s.first + length b.0) b.2 back b.1 last b.4 in
    let fits : length mine + length b.0 + 4 * b.2.imports ≤ 0x3FF000 = omega (arith, room, grown, ap length one.0, ap length s.parts, length-append s.first s.second, ap length b.5, length-append b.0 b.1) in
    refused-not laws t front mine met line b.0 b.2 why put l fits h

-- ---- lists that are one, with a line in each

record IsInFront (xs : List (List ℕ)) (x : List ℕ) (ys : List (List ℕ)) : Type 0 where
  mid : List (List ℕ)
  is : ys ≡ xs ++ x ∷ mid

head-is : (x y : List ℕ) (us vs : List (List ℕ)) → x ∷ us ≡ y ∷ vs → x ≡ y
head-is x y us vs e = cc

tail-is : (x y : List ℕ) (us vs : List (List ℕ)) → x ∷ us ≡ y ∷ vs → us ≡ vs
tail-is x y us vs e = cc

abbrev Compared : List (List ℕ) → List ℕ → List (List ℕ) → List ℕ → Type 0
Compared xs x ys y = ((xs ≡ ys) × (x ≡ y)) ⊎ (IsInFront xs x ys ⊎ IsInFront ys y xs)

longer : (w z x y : List ℕ) (xs ys : List (List ℕ)) → w ≡ z → Compared xs x ys y → Compared (w ∷ xs) x (z ∷ ys) y
longer w z x y xs ys e (inl p) = inl (ap (λ k. k ∷ xs) e ∙ ap (λ ks. z ∷ ks) p.0, p.1)
longer w z x y xs ys e (inr (inl p)) = inr (inl (record { mid = p.mid; is = ap (λ k. k ∷ ys) (sym e) ∙ ap (λ ks. w ∷ ks) p.is }))
longer w z x y xs ys e (inr (inr p)) = inr (inr (record { mid = p.mid; is = ap (λ k. k ∷ xs) e ∙ ap (λ ks. z ∷ ks) p.is }))

compared : (xs ys : List (List ℕ)) (x y : List ℕ) (us vs : List (List ℕ)) → xs ++ x ∷ us ≡ ys ++ y ∷ vs → Compared xs x ys y
compared [] [] x y us vs e = inl (refl, head-is x y us vs e)
compared [] (z ∷ ys) x y us vs e = inr (inl (record { mid = ys; is = ap (λ k. k ∷ ys) (sym (head-is x z us (ys ++ y ∷ vs) e)) }))
compared (w ∷ xs) [] x y us vs e = inr (inr (record { mid = xs; is = ap (λ k. k ∷ xs) (head-is w y (xs ++ x ∷ us) vs e) }))
compared (w ∷ xs) (z ∷ ys) x y us vs e = longer w z x y xs ys (head-is w z (xs ++ x ∷ us) (ys ++ y ∷ vs) e) (compared xs ys x y us vs (tail-is w z (xs ++ x ∷ us) (ys ++ y ∷ vs) e))

-- ---- one refusal

content-two : ReasonIsOne → (t : Tables) (at : ℕ) (front : List (List ℕ)) (content : Content) → IsBadContent (IsRepeated front) IsWanting t at content refused.Line → IsBadContent (IsRepeated front) IsWanting t at content refused.Range → ⊥
content-two law t at front Nothing p q = p
content-two law t at front (Label name) p q = q
content-two law t at front (Octets bytes) p q = p
content-two law t at front (Word value) p q = law t at (Word value) p q
content-two law t at front (Import name) p q = p
content-two law t at front (Instruction s) p q = law t at (Instruction s) p q

in-two : ReasonIsOne → (t : Tables) (at : ℕ) (front : List (List ℕ)) (content : Option Content) → IsBadIn (IsRepeated front) IsWanting t at content refused.Line → IsBadIn (IsRepeated front) IsWanting t at content refused.Range → ⊥
in-two law t at front None p q = q
in-two law t at front (Some content) p q = content-two law t at front content p q

line-is-no-memory : refused.Line ≡ refused.OutOfMemory → ⊥
line-is-no-memory e = cc

refused-two : LineLaws → (t : Tables) (front : List (List ℕ)) (bytes : List ℕ) (met : Met) (line : List ℕ) → Puts t 0 none_met front bytes met → IsRefusal (IsRepeated front) IsWanting t met (length bytes) line refused.Line → IsRefusal (IsRepeated front) IsWanting t met (length bytes) line refused.Range → ⊥
refused-two laws t front bytes met line put p (inl q) = in-two laws.reason t (0x80101000 + length bytes) front (line_content line) p q
refused-two laws t front bytes met line put p (inr q) = line-is-no-memory (lines_exclude laws.excluded t front bytes met line q.piece q.next refused.Line put q.is p)

why_one : LineLaws → (t : Tables) (front : List (List ℕ)) (bytes : List ℕ) (met : Met) (line : List ℕ) (why other : Refused) → why ≢ refused.OutOfMemory → other ≢ refused.OutOfMemory → Puts t 0 none_met front bytes met → IsRefusal (IsRepeated front) IsWanting t met (length bytes) line why → IsRefusal (IsRepeated front) IsWanting t met (length bytes) line other → why ≡ other
why_one laws t front bytes met line refused.OutOfMemory other n m put p q = absurd (n refl)
why_one laws t front bytes met line refused.Line refused.OutOfMemory n m put p q = absurd (m refl)
why_one laws t front bytes met line refused.Line refused.Line n m put p q = refl
why_one laws t front bytes met line refused.Line refused.Range n m put p q = absurd (refused-two laws t front bytes met line put p q)
why_one laws t front bytes met line refused.Range refused.OutOfMemory n m put p q = absurd (m refl)
why_one laws t front bytes met line refused.Range refused.Line n m put p q = absurd (refused-two laws t front bytes met line put q p)
why_one laws t front bytes met line refused.Range refused.Range n m put p q = refl

-- of two refusals none is of a line in front of the other's
front-not : LineLaws → (text : List ℕ) (n m : ℕ) (why other : Refused) (p : IsRefusedAt text n why) (q : IsRefusedAt text m other) → p.tables ≡ q.tables → IsInFront p.front p.line q.front → why ≡ refused.OutOfMemory
front-not laws text n m why other p q same f =
    let all : Puts p.tables 0 none_met (p.front ++ p.line ∷ f.mid) q.bytes q.met = subst (λ (ls : List (List ℕ)). Puts p.tables 0 none_met ls q.bytes q.met) f.is (subst (λ t. Puts t 0 none_met q.front q.bytes q.met) (sym same) q.put) in
    put-not laws p.tables p.front f.mid p.line q.bytes p.bytes q.met p.met why all q.room p.put p.refused

-- two refusals of one line
same_one : LineLaws → (text : List ℕ) (n m : ℕ) (why other : Refused) → why ≢ refused.OutOfMemory → other ≢ refused.OutOfMemory → (p : IsRefusedAt text n why) (q : IsRefusedAt text m other) → p.tables ≡ q.tables → p.front ≡ q.front → p.line ≡ q.line → (n ≡ m) × (why ≡ other)
same_one laws text n m why other real real_2 p q same front line =
    let other_put : Puts p.tables 0 none_met p.front q.bytes q.met = subst (λ (ls : List (List ℕ)). Puts p.tables 0 none_met ls q.bytes q.met) (sym front) (subst (λ (t : Tables). Puts t 0 none_met q.front q.bytes q.met) (sym same) q.put) in
    let one = puts_one laws p.tables 0 none_met p.front p.bytes q.bytes p.met q.met p.put other_put in
    let with_tables : IsRefusal (IsRepeated q.front) IsWanting p.tables q.met (length q.bytes) q.line other = subst (λ (t : Tables). IsRefusal (IsRepeated q.front) IsWanting t q.met (length q.bytes) q.line other) (sym same) q.refused in
    let with_front : IsRefusal (IsRepeated p.front) IsWanting p.tables q.met (length q.bytes) q.line other = subst (λ (ls : List (List ℕ)). IsRefusal (IsRepeated ls) IsWanting p.tables q.met (length q.bytes) q.line other) (sym front) with_tables in
    let with_line : IsRefusal (IsRepeated p.front) IsWanting p.tables q.met (length q.bytes) p.line other = subst (λ (l : List ℕ). IsRefusal (IsRepeated p.front) IsWanting p.tables q.met (length q.bytes) l other) (sym line) with_front in
    let with_met : IsRefusal (IsRepeated p.front) IsWanting p.tables p.met (length q.bytes) p.line other = subst (λ (met : Met). IsRefusal (IsRepeated p.front) IsWanting p.tables met (length q.bytes) p.line other) (sym one.1) with_line in
    let with_bytes : IsRefusal (IsRepeated p.front) IsWanting p.tables p.met (length p.bytes) p.line other = subst (λ (bytes : List ℕ). IsRefusal (IsRepeated p.front) IsWanting p.tables p.met (length bytes) p.line other) (sym one.0) with_met in
    (p.place ∙ ap (λ (ls : List (List ℕ)). length ls + 1) front ∙ sym q.place, why_one laws p.tables p.front p.bytes p.met p.line why other real real_2 p.put p.refused with_bytes)

at_one : LineLaws → (text : List ℕ) (n m : ℕ) (why other : Refused) → why ≢ refused.OutOfMemory → other ≢ refused.OutOfMemory → IsRefusedAt text n why → IsRefusedAt text m other → (n ≡ m) × (why ≡ other)
at_one laws text n m why other real real_2 p q =
    let same : p.tables ≡ q.tables = settled_one laws.made text p.tables q.tables p.settled q.settled in
    ⊎_elim
    (λ e. same_one laws text n m why other real real_2 p q same e.0 e.1)
    (λ f. absurd (⊎_elim (λ g. real (front-not laws text n m why other p q same g)) (λ g. real_2 (front-not laws text m n other why q p (sym same) g)) f))
    (compared p.front q.front p.line q.line p.back q.back (sym p.parts ∙ q.parts))

range-is-no-memory : refused.Range ≡ refused.OutOfMemory → ⊥
range-is-no-memory e = cc

line-is-no-range : refused.Line ≡ refused.Range → ⊥
line-is-no-range e = cc

pub refusal_one : LineLaws → (text : List ℕ) (why other : ForgeRefusal) → why ≢ refusals.OutOfMemory → other ≢ refusals.OutOfMemory → IsRefusedText text why → IsRefusedText text other → why ≡ other
refusal_one laws text refusals.OutOfMemory other real real_2 p q = absurd (real refl)
refusal_one laws text (refusals.Line n) refusals.OutOfMemory real real_2 p q = absurd (real_2 refl)
refusal_one laws text (refusals.Line n) (refusals.Line m) real real_2 p q = ap refusals.Line (at_one laws text n m refused.Line refused.Line line-is-no-memory line-is-no-memory p q).0
refusal_one laws text (refusals.Line n) (refusals.Range m) real real_2 p q = absurd (line-is-no-range (at_one laws text n m refused.Line refused.Range line-is-no-memory range-is-no-memory p q).1)
refusal_one laws text (refusals.Range n) refusals.OutOfMemory real real_2 p q = absurd (real_2 refl)
refusal_one laws text (refusals.Range n) (refusals.Line m) real real_2 p q = absurd (line-is-no-range (sym (at_one laws text n m refused.Range refused.Line range-is-no-memory line-is-no-memory p q).1))
refusal_one laws text (refusals.Range n) (refusals.Range m) real real_2 p q = ap refusals.Range (at_one laws text n m refused.Range refused.Range range-is-no-memory range-is-no-memory p q).0

-- ---- one assembly

emitted_one : LineLaws → (t : Tables) (ls : List (List ℕ)) (bytes other : List ℕ) → IsEmitted t ls bytes → IsEmitted t ls other → bytes ≡ other
emitted_one laws t ls bytes other p q = (puts_one laws t 0 none_met ls bytes other p.met q.met p.put q.put).0

pub assembly_one : LineLaws → (text out other : List ℕ) → IsAssembly text out → IsAssembly text other → out ≡ other
assembly_one laws text out other p q =
    let same : p.tables ≡ q.tables = settled_one laws.made text p.tables q.tables p.settled q.settled in
    let bytes : p.bytes ≡ q.bytes = emitted_one laws p.tables (lines text) p.bytes q.bytes p.emitted (subst (λ t. IsEmitted t (lines text) q.bytes) (sym same) q.emitted) in
    p.words ∙ ap (λ (bs : List ℕ). bs ++ replicate (4 * length p.tables.imports) 0) bytes ∙ ap (λ (t : Tables). q.bytes ++ replicate (4 * length t.imports) 0) same ∙ sym q.words

pub assembly_of : (text : List ℕ) (t : Tables) (out places : List ℕ) → IsAssembled text t out places → IsAssembly text out
assembly_of text t out places a = record { tables = t; settled = a.settled; bytes = a.bytes; emitted = a.emitted; words = a.words }

pub assembled_one : LineLaws → (text : List ℕ) (t u : Tables) (out other places more : List ℕ) → IsAssembled text t out places → IsAssembled text u other more → (t ≡ u) × (out ≡ other)
assembled_one laws text t u out other places more a b = (settled_one laws.made text t u a.settled b.settled, assembly_one laws text out other (assembly_of text t out places a) (assembly_of text u other more b))

assembly-not : LineLaws → (text out : List ℕ) (n : ℕ) (why : Refused) → IsAssembly text out → IsRefusedAt text n why → why ≡ refused.OutOfMemory
assembly-not laws text out n why a r =
    let same : a.tables ≡ r.tables = settled_one laws.made text a.tables r.tables a.settled r.settled in
    let e : IsEmitted r.tables (lines text) a.bytes = subst (λ t. IsEmitted t (lines text) a.bytes) same a.emitted in
    let all : Puts r.tables 0 none_met (r.front ++ r.line ∷ r.back) a.bytes e.met = subst (λ (ls : List (List ℕ)). Puts r.tables 0 none_met ls a.bytes e.met) r.parts e.put in
    put-not laws r.tables r.front r.back r.line a.bytes r.bytes e.met r.met why all (omega (arith, e.room, e.whole.imports)) r.put r.refused

pub assembly_excludes : LineLaws → (text out : List ℕ) (why : ForgeRefusal) → IsAssembly text out → IsRefusedText text why → why ≡ refusals.OutOfMemory
assembly_excludes laws text out refusals.OutOfMemory a r = refl
assembly_excludes laws text out (refusals.Line n) a r = absurd (line-is-no-memory (assembly-not laws text out n refused.Line a r))
assembly_excludes laws text out (refusals.Range n) a r = absurd (range-is-no-memory (assembly-not laws text out n refused.Range a r))
