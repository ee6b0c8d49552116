-- Lines have their bytes one behind the other, and labels stand where these lines have so many bytes.
use Rattle.std.proofs.Common.{◌≡◌, ℕ, ◌+◌, ◌*◌, ◌<◌, ◌≤◌, ◌⊎◌, inl, inr, Bool, true, false, cond, ◌||◌, ◌==◌, List, [], ◌∷◌, ◌++◌, length, Option, None, Some, is_some, refl, sym, ap, ◌∙◌, subst, ⊎_elim, append_assoc, append-nil, length-append, zero-add, arith}
use Rattle.std.specs.Prelude.{nat_le}
use Rattle.std.proofs.lemmas.Bool.{cond-true, false≢true, or_cases, le-leb}
use Rattle.asm_lines.specs.Lines.{Content, Nothing, Label, Octets, Word, Import, Instruction, line_content}
use Rattle.line_bytes.specs.Tables.{Rows, place_of, row_of, with_row}
use Rattle.line_bytes.specs.Made.{IsMadeIn, size_in}
use Rattle.line_bytes.specs.Pieces.{IsPiece, IsLine}
use Rattle.line_bytes.specs.Refusals.{IsBadContent, IsBadIn, IsRefusal}
use Rattle.line_bytes.specs.Putting.{IsBadLabel, IsBadImport, IsBadRow, IsNotPut}
use Rattle.line_bytes.specs.declared.made.Made.{Made}
use Rattle.line_bytes.specs.declared.piece.Tables.{Tables}
use Rattle.line_bytes.specs.declared.piece.Met.{Met}
use Rattle.line_bytes.specs.declared.refused.Refused.{Refused}
use Rattle.line_bytes.specs.declared.refused.Refused.TheVariants as refused
use Rattle.sys_forge.specs.Standing.{is_label, has_label, labels_with, imports_with, behind, past, none_laid, laid, AreMade, IsSettled}
use Rattle.sys_forge.specs.Assembly.{PutsBy, Puts, IsWhole, none_met, IsRepeated, IsWanting, IsRefusedAt, IsRefusedText}
use Rattle.sys_forge.specs.Reasons.{refusal_at}
use Rattle.std.specs.Str.Lines.{lines}
use Rattle.sys_forge.proofs.Emission.{puts_more}
use Rattle.sys_forge.proofs.RowLaws.{IsFound, found-or-not, row-keeps, row-added, length-added, same-row, named-before}

-- ---- labels of lines

or-left : (x y : Bool) → x ≡ true → (x || y) ≡ true
or-left true y h = refl
or-left false y h = absurd (false≢true h)

or-right : (x y : Bool) → y ≡ true → (x || y) ≡ true
or-right true y h = refl
or-right false y h = h

label-front : (name : List ℕ) (front back : List (List ℕ)) → has_label name front ≡ true → has_label name (front ++ back) ≡ true
unfolding has_label
label-front name [] back h = absurd (false≢true h)
label-front name (line ∷ front) back h = ⊎_elim (λ l. or-left (is_label name (line_content line)) (has_label name (front ++ back)) l) (λ r. or-right (is_label name (line_content line)) (has_label name (front ++ back)) (label-front name front back r)) (or_cases (is_label name (line_content line)) (has_label name front) h)

label-last : (name : List ℕ) (front : List (List ℕ)) (line : List ℕ) → is_label name (line_content line) ≡ true → has_label name (front ++ line ∷ []) ≡ true
unfolding has_label
label-last name [] line h = or-left (is_label name (line_content line)) false h
label-last name (first ∷ front) line h = or-right (is_label name (line_content first)) (has_label name (front ++ line ∷ [])) (label-last name front line h)

-- ---- rows stay

past-label : (rows : Rows) (at : ℕ) (content : Option Content) (name : List ℕ) (r : ℕ × ℕ) → row_of rows name ≡ Some r → row_of (labels_with rows at content) name ≡ Some r
unfolding labels_with imports_with
past-label rows at None name r h = h
past-label rows at (Some Nothing) name r h = h
past-label rows at (Some (Label other)) name r h = row-keeps rows name other at r h
past-label rows at (Some (Octets bytes)) name r h = h
past-label rows at (Some (Word value)) name r h = h
past-label rows at (Some (Import other)) name r h = h
past-label rows at (Some (Instruction s)) name r h = h

past-import : (rows : Rows) (content : Option Content) (name : List ℕ) (r : ℕ × ℕ) → row_of rows name ≡ Some r → row_of (imports_with rows content) name ≡ Some r
unfolding labels_with imports_with
past-import rows None name r h = h
past-import rows (Some Nothing) name r h = h
past-import rows (Some (Label other)) name r h = h
past-import rows (Some (Octets bytes)) name r h = h
past-import rows (Some (Word value)) name r h = h
past-import rows (Some (Import other)) name r h = row-keeps rows name other 0 r h
past-import rows (Some (Instruction s)) name r h = h

label-stays : (t : Tables) (ls : List (List ℕ)) (ms : List (Option Made)) (name : List ℕ) (r : ℕ × ℕ) → row_of t.labels name ≡ Some r → row_of (laid t ls ms).labels name ≡ Some r
unfolding laid past
label-stays t [] ms name r h = h
label-stays t (line ∷ ls) [] name r h = h
label-stays t (line ∷ ls) (m ∷ ms) name r h = label-stays (past t (line_content line) m) ls ms name r (past-label t.labels t.words (line_content line) name r h)

import-stays : (t : Tables) (ls : List (List ℕ)) (ms : List (Option Made)) (name : List ℕ) (r : ℕ × ℕ) → row_of t.imports name ≡ Some r → row_of (laid t ls ms).imports name ≡ Some r
unfolding laid past
import-stays t [] ms name r h = h
import-stays t (line ∷ ls) [] name r h = h
import-stays t (line ∷ ls) (m ∷ ms) name r h = import-stays (past t (line_content line) m) ls ms name r (past-import t.imports (line_content line) name r h)

-- ---- so far

-- the lines in front of what is left have their bytes, and the tables are what stands behind them with the lines that are left
pub record IsStandingSoFar (t : Tables) (all left : List (List ℕ)) (made : List (Option Made)) (out : List ℕ) (met : Met) (number : ℕ) : Type 0 where
  pub front : List (List ℕ)
  pub parts : all ≡ front ++ left
  pub place : number ≡ length front + 1
  pub put : Puts t 0 none_met front out met
  pub are : AreMade left made
  pub state : Tables
  pub is : t ≡ laid state left made
  pub words : state.words ≡ 0x80101000 + length out
  pub labels : met.labels ≡ length state.labels
  pub imports : met.imports ≡ length state.imports
  pub named : (name : List ℕ) → is_some (place_of state.labels name) ≡ true → has_label name front ≡ true

-- ---- the line that is next

-- a name's row in the tables, where the lines in front have such rows and the line adds one
row_next : (rows : Rows) (name : List ℕ) (k : ℕ) (final : Option (ℕ × ℕ)) → ((r : ℕ × ℕ) → row_of (with_row rows name k) name ≡ Some r → final ≡ Some r) → ((place_of rows name ≡ None) × (final ≡ Some (length rows, k))) ⊎ ((found : IsFound rows name) × (final ≡ Some (found.place, found.value)))
row_next rows name k final stays = ⊎_elim (λ n. inl (n, stays (length rows, k) (row-added rows name k n))) (λ f. inr (f, stays (f.place, f.value) (row-keeps rows name name k (f.place, f.value) f.row))) (found-or-not rows name)

abbrev place_in : Option (ℕ × ℕ) → ℕ
place_in None = 0
place_in (Some r) = r.0

labels-count : (t : Tables) (rows : Rows) (content : Content) (at : ℕ) (met next : Met) (piece : List ℕ) → IsPiece t met at content piece next → met.labels ≡ length rows → ((name : List ℕ) (r : ℕ × ℕ) → row_of (labels_with rows at (Some content)) name ≡ Some r → row_of t.labels name ≡ Some r) → next.labels ≡ length (labels_with rows at (Some content))
unfolding labels_with imports_with
labels-count t rows Nothing at met next piece is e stays = ap (λ (x : Met). x.labels) is.1 ∙ e
labels-count t rows (Label name) at met next piece is e stays =
    ⊎_elim
    (λ n. is.labels ∙ ap (λ n. n + 1) e ∙ sym (length-added rows name at n.0))
    (λ f. let here : met.labels ≡ f.0.place = ap place_in (sym is.row ∙ f.1) in absurd (omega (arith, here, e, f.0.low)))
    (row_next rows name at (row_of t.labels name) (stays name))
labels-count t rows (Octets bytes) at met next piece is e stays = ap (λ (x : Met). x.labels) is.1 ∙ e
labels-count t rows (Word value) at met next piece is e stays = ap (λ (x : Met). x.labels) is.1 ∙ e
labels-count t rows (Import name) at met next piece is e stays = is.1 ∙ e
labels-count t rows (Instruction s) at met next piece is e stays = ap (λ (x : Met). x.labels) is.1 ∙ e

call-new : (place met next : ℕ) → next ≡ cond (place == met) (met + 1) met → place ≡ met → next ≡ met + 1
call-new place met next c e = grind (arith, c, e)

call-old : (place met next : ℕ) → next ≡ cond (place == met) (met + 1) met → place < met → next ≡ met
call-old place met next c e = grind (arith, c, e)

imports-count : (t : Tables) (rows : Rows) (content : Content) (at : ℕ) (met next : Met) (piece : List ℕ) → IsPiece t met at content piece next → met.imports ≡ length rows → ((name : List ℕ) (r : ℕ × ℕ) → row_of (imports_with rows (Some content)) name ≡ Some r → row_of t.imports name ≡ Some r) → next.imports ≡ length (imports_with rows (Some content))
unfolding labels_with imports_with
imports-count t rows Nothing at met next piece is e stays = ap (λ (x : Met). x.imports) is.1 ∙ e
imports-count t rows (Label name) at met next piece is e stays = is.imports ∙ e
imports-count t rows (Octets bytes) at met next piece is e stays = ap (λ (x : Met). x.imports) is.1 ∙ e
imports-count t rows (Word value) at met next piece is e stays = ap (λ (x : Met). x.imports) is.1 ∙ e
imports-count t rows (Import name) at met next piece is e stays =
    ⊎_elim
    (λ n. let here : is.0.place ≡ length rows = ap place_in (sym is.0.row ∙ n.1) in
    call-new is.0.place met.imports next.imports is.0.count (here ∙ sym e) ∙ ap (λ n. n + 1) e ∙ sym (length-added rows name 0 n.0))
    (λ f. let here : is.0.place ≡ f.0.place = ap place_in (sym is.0.row ∙ f.1) in
    call-old is.0.place met.imports next.imports is.0.count (omega (arith, here, e, f.0.low)) ∙ e ∙ sym (ap length (same-row rows name 0 (f.0.place, f.0.value) f.0.row)))
    (row_next rows name 0 (row_of t.imports name) (stays name))
imports-count t rows (Instruction s) at met next piece is e stays = ap (λ (x : Met). x.imports) is.1 ∙ e

named-step : (rows : Rows) (at : ℕ) (content : Option Content) (name : List ℕ) → is_some (place_of (labels_with rows at content) name) ≡ true → (is_some (place_of rows name) ≡ true) ⊎ (is_label name content ≡ true)
unfolding labels_with imports_with
named-step rows at None name h = inl h
named-step rows at (Some Nothing) name h = inl h
named-step rows at (Some (Label other)) name h = named-before rows name other at h
named-step rows at (Some (Octets bytes)) name h = inl h
named-step rows at (Some (Word value)) name h = inl h
named-step rows at (Some (Import other)) name h = inl h
named-step rows at (Some (Instruction s)) name h = inl h

-- ---- from line to line

pub begun-standing : (t : Tables) (all : List (List ℕ)) (made : List (Option Made)) (out : List ℕ) → out ≡ [] → AreMade all made → t ≡ laid none_laid all made → IsStandingSoFar t all all made out none_met 1
unfolding PutsBy
begun-standing t all made out e a l = record {
  front = [];
  parts = refl;
  place = refl;
  put = (e, refl);
  are = a;
  state = none_laid;
  is = l;
  words = omega (arith, ap length e);
  labels = refl;
  imports = refl;
  named = λ name h. absurd (false≢true h);
}

behind-is : (at size : ℕ) → at + size ≤ 0x80500000 → behind at size ≡ at + size
unfolding behind
behind-is at size h = cond-true (nat_le (at + size) 0x80500000) (at + size) at (le-leb (at + size) 0x80500000 h)

first-made : (line : List ℕ) (others : List (List ℕ)) (m : Option Made) (made : List (Option Made)) → AreMade (line ∷ others) (m ∷ made) → IsMadeIn (line_content line) m
unfolding AreMade
first-made line others m made h = h.0

others-made : (line : List ℕ) (others : List (List ℕ)) (m : Option Made) (made : List (Option Made)) → AreMade (line ∷ others) (m ∷ made) → AreMade others made
unfolding AreMade
others-made line others m made h = h.1

laid-first : (t state : Tables) (line : List ℕ) (others : List (List ℕ)) (m : Option Made) (made : List (Option Made)) → t ≡ laid state (line ∷ others) (m ∷ made) → t ≡ laid (past state (line_content line) m) others made
unfolding laid
laid-first t state line others m made h = h

-- the rows behind the line stay in the tables
label-later : (t state : Tables) (line : List ℕ) (others : List (List ℕ)) (m : Option Made) (made : List (Option Made)) → t ≡ laid state (line ∷ others) (m ∷ made) → (name : List ℕ) (r : ℕ × ℕ) → row_of (labels_with state.labels state.words (line_content line)) name ≡ Some r → row_of t.labels name ≡ Some r
unfolding past
label-later t state line others m made h name r e = ap (λ (x : Tables). row_of x.labels name) (laid-first t state line others m made h) ∙ label-stays (past state (line_content line) m) others made name r e

import-later : (t state : Tables) (line : List ℕ) (others : List (List ℕ)) (m : Option Made) (made : List (Option Made)) → t ≡ laid state (line ∷ others) (m ∷ made) → (name : List ℕ) (r : ℕ × ℕ) → row_of (imports_with state.imports (line_content line)) name ≡ Some r → row_of t.imports name ≡ Some r
unfolding past
import-later t state line others m made h name r e = ap (λ (x : Tables). row_of x.imports name) (laid-first t state line others m made h) ∙ import-stays (past state (line_content line) m) others made name r e

pub more-standing : (t : Tables) (all others : List (List ℕ)) (line : List ℕ) (m : Option Made) (made : List (Option Made)) (out new piece : List ℕ) (met next : Met) (number : ℕ) → IsStandingSoFar t all (line ∷ others) (m ∷ made) out met number → new ≡ out ++ piece → IsLine t met (0x80101000 + length out) line piece next → length new ≡ length out + size_in (line_content line) m → length new ≤ 0x3FF000 → IsStandingSoFar t all others made new next (number + 1)
unfolding past
more-standing t all others line m made out new piece met next number s parts l size room =
    let later = label-later t s.state line others m made s.is in
    let later2 = import-later t s.state line others m made s.is in
    let here = subst (λ n. IsPiece t met n l.content piece next) (sym s.words) l.is in
    record {
      front = s.front ++ line ∷ [];
      parts = s.parts ∙ sym (append_assoc s.front (line ∷ []) others);
      place = ap (λ n. n + 1) s.place ∙ ap (λ n. n + 1) (sym (length-append s.front (line ∷ [])));
      put = subst (λ (bytes : List ℕ). Puts t 0 none_met (s.front ++ line ∷ []) bytes next) (sym parts) (puts_more (IsLine t) 0 none_met met next s.front line out piece s.put (subst (λ n. IsLine t met (0x80101000 + n) line piece next) (sym (zero-add (length out))) l));
      are = others-made line others m made s.are;
      state = past s.state (line_content line) m;
      is = laid-first t s.state line others m made s.is;
      words = behind-is s.state.words (size_in (line_content line) m) (omega (arith, s.words, size, room)) ∙ omega (arith, s.words, size);
      labels = subst (λ c. ((name : List ℕ) (r : ℕ × ℕ) → row_of (labels_with s.state.labels s.state.words c) name ≡ Some r → row_of t.labels name ≡ Some r) → next.labels ≡ length (labels_with s.state.labels s.state.words c)) (sym l.says) (labels-count t s.state.labels l.content s.state.words met next piece here s.labels) later;
      imports = subst (λ c. ((name : List ℕ) (r : ℕ × ℕ) → row_of (imports_with s.state.imports c) name ≡ Some r → row_of t.imports name ≡ Some r) → next.imports ≡ length (imports_with s.state.imports c)) (sym l.says) (imports-count t s.state.imports l.content s.state.words met next piece here s.imports) later2;
      named = λ name h. ⊎_elim (λ b. label-front name s.front (line ∷ []) (s.named name b)) (λ b. label-last name s.front line b) (named-step s.state.labels s.state.words (line_content line) name h);
    }

-- ---- at the end

pub whole-standing : (t : Tables) (all : List (List ℕ)) (made : List (Option Made)) (out : List ℕ) (met : Met) (number : ℕ) → IsStandingSoFar t all [] made out met number → Puts t 0 none_met all out met × IsWhole t met (length out)
unfolding laid
whole-standing t all made out met number s = (
  subst (λ (ls : List (List ℕ)). Puts t 0 none_met ls out met) (sym (append-nil s.front) ∙ sym s.parts) s.put,
  record {
    labels = s.labels ∙ sym (ap (λ (x : Tables). length x.labels) s.is);
    imports = s.imports ∙ sym (ap (λ (x : Tables). length x.imports) s.is);
    words = ap (λ (x : Tables). x.words) s.is ∙ s.words;
  },
)

-- ---- a line that is not put

abbrev Stays : Tables → Rows → Rows → ℕ → Option Content → Type 0
Stays t labels imports at c = ((name : List ℕ) (r : ℕ × ℕ) → row_of (labels_with labels at c) name ≡ Some r → row_of t.labels name ≡ Some r) × ((name : List ℕ) (r : ℕ × ℕ) → row_of (imports_with imports c) name ≡ Some r → row_of t.imports name ≡ Some r)

repeated : (t : Tables) (rows : Rows) (met : Met) (at : ℕ) (front : List (List ℕ)) (name : List ℕ) (why : Refused) → ((n : List ℕ) → is_some (place_of rows n) ≡ true → has_label n front ≡ true) → met.labels ≡ length rows → ((r : ℕ × ℕ) → row_of (with_row rows name at) name ≡ Some r → row_of t.labels name ≡ Some r) → IsBadLabel t met at name why → IsRepeated front name why
repeated t rows met at front name refused.OutOfMemory named e stays h = tt
repeated t rows met at front name refused.Line named e stays h =
    ⊎_elim
    (λ n. absurd (h (n.1 ∙ ap (λ k. Some (k, at)) (sym e))))
    (λ f. named name f.0.there)
    (row_next rows name at (row_of t.labels name) stays)
repeated t rows met at front name refused.Range named e stays h = absurd h

known : (t : Tables) (met place value : ℕ) (why : Refused) → place ≤ met → t.words ≤ 0x80500000 → 4 * met ≤ 0x3FF000 → IsBadRow t met (Some (place, value)) why → IsWanting [] why
known t met place value refused.OutOfMemory low w m h = tt
known t met place value refused.Line low w m h = absurd (omega (arith, low, h))
known t met place value refused.Range low w m h = absurd (omega (arith, w, m, h.0, h.1))

wanting : (name : List ℕ) (why : Refused) → IsWanting [] why → IsWanting name why
wanting name refused.OutOfMemory h = tt
wanting name refused.Line h = h
wanting name refused.Range h = h

wanted : (t : Tables) (rows : Rows) (met : ℕ) (name : List ℕ) (why : Refused) → met ≡ length rows → t.words ≤ 0x80500000 → 4 * met ≤ 0x3FF000 → ((r : ℕ × ℕ) → row_of (with_row rows name 0) name ≡ Some r → row_of t.imports name ≡ Some r) → IsBadImport t met name why → IsWanting name why
wanted t rows met name why e w m stays h =
    ⊎_elim
    (λ n. wanting name why (known t met (length rows) 0 why (omega (arith, e)) w m (subst (λ o. IsBadRow t met o why) n.1 h)))
    (λ f. wanting name why (known t met f.0.place f.0.value why (omega (arith, e, f.0.low)) w m (subst (λ o. IsBadRow t met o why) f.1 h)))
    (row_next rows name 0 (row_of t.imports name) stays)

bad-content : (t : Tables) (labels imports : Rows) (met : Met) (at : ℕ) (front : List (List ℕ)) (content : Content) (why : Refused) → ((n : List ℕ) → is_some (place_of labels n) ≡ true → has_label n front ≡ true) → met.labels ≡ length labels → met.imports ≡ length imports → t.words ≤ 0x80500000 → 4 * met.imports ≤ 0x3FF000 → Stays t labels imports at (Some content) → IsBadContent (IsBadLabel t met at) (IsBadImport t met.imports) t at content why → IsBadContent (IsRepeated front) IsWanting t at content why
unfolding labels_with imports_with
bad-content t labels imports met at front Nothing refused.OutOfMemory named el ei w m stays h = h
bad-content t labels imports met at front Nothing refused.Line named el ei w m stays h = h
bad-content t labels imports met at front Nothing refused.Range named el ei w m stays h = h
bad-content t labels imports met at front (Octets bytes) refused.OutOfMemory named el ei w m stays h = h
bad-content t labels imports met at front (Octets bytes) refused.Line named el ei w m stays h = h
bad-content t labels imports met at front (Octets bytes) refused.Range named el ei w m stays h = h
bad-content t labels imports met at front (Label name) why named el ei w m stays h = repeated t labels met at front name why named el (stays.0 name) h
bad-content t labels imports met at front (Word value) why named el ei w m stays h = h
bad-content t labels imports met at front (Import name) why named el ei w m stays h = wanted t imports met.imports name why ei w m (stays.1 name) h
bad-content t labels imports met at front (Instruction s) why named el ei w m stays h = h

bad-in : (t : Tables) (labels imports : Rows) (met : Met) (at : ℕ) (front : List (List ℕ)) (c : Option Content) (why : Refused) → ((n : List ℕ) → is_some (place_of labels n) ≡ true → has_label n front ≡ true) → met.labels ≡ length labels → met.imports ≡ length imports → t.words ≤ 0x80500000 → 4 * met.imports ≤ 0x3FF000 → Stays t labels imports at c → IsBadIn (IsBadLabel t met at) (IsBadImport t met.imports) t at c why → IsBadIn (IsRepeated front) IsWanting t at c why
bad-in t labels imports met at front None refused.OutOfMemory named el ei w m stays h = h
bad-in t labels imports met at front None refused.Line named el ei w m stays h = h
bad-in t labels imports met at front None refused.Range named el ei w m stays h = h
bad-in t labels imports met at front (Some content) why named el ei w m stays h = bad-content t labels imports met at front content why named el ei w m stays h

pub refused-line : (t : Tables) (all others : List (List ℕ)) (line : List ℕ) (m : Option Made) (made : List (Option Made)) (out : List ℕ) (met : Met) (number : ℕ) (why : Refused) → (s : IsStandingSoFar t all (line ∷ others) (m ∷ made) out met number) → t.words ≤ 0x80500000 → 4 * met.imports ≤ 0x3FF000 → IsNotPut t met (length out) line why → IsRefusal (IsRepeated s.front) IsWanting t met (length out) line why
refused-line t all others line m made out met number why s w k h = by-why why h
  where
    stays : Stays t s.state.labels s.state.imports (0x80101000 + length out) (line_content line)
    stays = subst (λ n. Stays t s.state.labels s.state.imports n (line_content line)) s.words (label-later t s.state line others m made s.is, import-later t s.state line others m made s.is)

    here : (y : Refused) → IsBadIn (IsBadLabel t met (0x80101000 + length out)) (IsBadImport t met.imports) t (0x80101000 + length out) (line_content line) y → IsBadIn (IsRepeated s.front) IsWanting t (0x80101000 + length out) (line_content line) y
    here y b = bad-in t s.state.labels s.state.imports met (0x80101000 + length out) s.front (line_content line) y s.named s.labels s.imports w k stays b

    by-why : (y : Refused) → IsNotPut t met (length out) line y → IsRefusal (IsRepeated s.front) IsWanting t met (length out) line y
    by-why refused.OutOfMemory b = tt
    by-why refused.Line b = here refused.Line b
    by-why refused.Range (inl b) = inl (here refused.Range b)
    by-why refused.Range (inr b) = inr b

-- ---- what the instructions are, one behind the other

pub made_at : (all others : List (List ℕ)) (line : List ℕ) (m : Option Made) (made rest : List (Option Made)) → AreMade all made → all ≡ line ∷ others → made ≡ m ∷ rest → IsMadeIn (line_content line) m
made_at all others line m made rest h e w = first-made line others m rest (subst (λ (ls : List (List ℕ)). AreMade ls (m ∷ rest)) e (subst (λ (ms : List (Option Made)). AreMade all ms) w h))

pub made_behind : (all others : List (List ℕ)) (line : List ℕ) (m : Option Made) (made rest : List (Option Made)) → AreMade all made → all ≡ line ∷ others → made ≡ m ∷ rest → AreMade others rest
made_behind all others line m made rest h e w = others-made line others m rest (subst (λ (ls : List (List ℕ)). AreMade ls (m ∷ rest)) e (subst (λ (ms : List (Option Made)). AreMade all ms) w h))

-- ---- at a line

pub at-line : (t : Tables) (all left others : List (List ℕ)) (line : List ℕ) (m : Option Made) (made rest : List (Option Made)) (out : List ℕ) (met : Met) (number : ℕ) → IsStandingSoFar t all left made out met number → left ≡ line ∷ others → made ≡ m ∷ rest → IsStandingSoFar t all (line ∷ others) (m ∷ rest) out met number
at-line t all left others line m made rest out met number s e w = subst (λ (ls : List (List ℕ)). IsStandingSoFar t all ls (m ∷ rest) out met number) e (subst (λ (ms : List (Option Made)). IsStandingSoFar t all left ms out met number) w s)

pub made_next : (t : Tables) (all left others : List (List ℕ)) (line : List ℕ) (m : Option Made) (made rest : List (Option Made)) (out : List ℕ) (met : Met) (number : ℕ) → IsStandingSoFar t all left made out met number → left ≡ line ∷ others → made ≡ m ∷ rest → IsMadeIn (line_content line) m
made_next t all left others line m made rest out met number s e w = made_at left others line m made rest s.are e w

pub refused-here : (text : List ℕ) (t : Tables) (others : List (List ℕ)) (line : List ℕ) (m : Option Made) (made : List (Option Made)) (out : List ℕ) (met : Met) (number : ℕ) (why : Refused) → IsSettled text t → IsStandingSoFar t (lines text) (line ∷ others) (m ∷ made) out met number → t.words ≤ 0x80500000 → length out + 4 * met.imports ≤ 0x3FF000 → IsNotPut t met (length out) line why → IsRefusedAt text number why
refused-here text t others line m made out met number why settled s w k h = record {
  tables = t;
  settled = settled;
  front = s.front;
  line = line;
  back = others;
  parts = s.parts;
  place = s.place;
  bytes = out;
  met = met;
  put = s.put;
  room = k;
  refused = refused-line t (lines text) others line m made out met number why s w (omega (arith, k)) h;
}

pub refused-text : (text : List ℕ) (number : ℕ) (why : Refused) → IsRefusedAt text number why → IsRefusedText text (refusal_at why number)
refused-text text number refused.OutOfMemory h = tt
refused-text text number refused.Line h = h
refused-text text number refused.Range h = h
