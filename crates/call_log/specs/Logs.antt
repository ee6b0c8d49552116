-- Logs, and how their bytes are read. The project's own.
use Rattle.std.specs.Prelude.{ℕ, suc, ◌≡◌, ◌<◌, ◌≤◌, Some, ◌^◌, List, [], ◌∷◌, ◌++◌, length, Result, Ok, Err}
use Rattle.std.specs.List.{AllByRecursion}
use Rattle.log_fields.specs.declared.line_refusal.LineRefusal.{LineRefusal}
use Rattle.log_fields.specs.declared.line_refusal.LineRefusal.TheVariants as line_refusals
use Rattle.call_log.specs.declared.entry.Entry.{Entry}
use Rattle.call_log.specs.declared.refusal.LogRefusal.{LogRefusal}
use Rattle.call_log.specs.declared.refusal.LogRefusal.TheVariants as refusals
use Rattle.call_log.specs.declared.kinds.Kind.{Kind}
use Rattle.log_fields.specs.Codes.{find}
use Rattle.log_fields.specs.Exact.{ArePrinted}
use Rattle.call_log.specs.Kinds.{kind_name, kinds_all}
use Rattle.call_log.specs.Held.{IsHeld}
use Rattle.call_log.specs.Lines.{Line, line, line_of, text_of, log_text, InRange}

-- a log: its entries, and how many more can be appended without memory
pub record State : Type 0 where
  pub entries : List Entry
  pub spare : ℕ

-- the numbers of an entry are in their ranges
abbrev pub Fits : Entry → Type 0
Fits e = line.fits (line_of e)

abbrev pub AllFit : List Entry → Type 0
AllFit es = AllByRecursion Fits es

abbrev pub AllInRange : List Entry → Type 0
AllInRange es = AllByRecursion InRange es

-- no entry's line, with its LF, begins the bytes
abbrev pub IsBad : List ℕ → Type 0
IsBad bytes = (y : Line) (tail : List ℕ) → line.fits y → bytes ≡ line.text y ++ 10 ∷ tail → ⊥

-- one line was read: the entry whose line it is and what is behind it, or that there is none
abbrev pub LineGives : {X : Type 0} → (X → Entry × List ℕ) → List ℕ → Result X LineRefusal → Type 0
LineGives view bytes (Ok x) = Fits (view x).0 × (bytes ≡ text_of (view x).0 ++ 10 ∷ (view x).1)
LineGives view bytes (Err line_refusals.Memory) = Unit {0}
LineGives view bytes (Err line_refusals.NoEntry) = IsBad bytes

-- the first bad line: entries before it, and then something that no entry's line begins
pub record IsFirstBad (bytes : List ℕ) (n : ℕ) : Type 0 where
  pub before : List Entry
  pub fits : AllFit before
  pub rest : List ℕ
  pub parts : bytes ≡ log_text before ++ rest
  pub count : n ≡ suc (length before)
  pub some : 0 < length rest
  pub bad : IsBad rest

-- when a log is refused, and how
abbrev pub Refused : List ℕ → LogRefusal → Type 0
Refused bytes refusals.Memory = Unit {0}
Refused bytes refusals.TooLong = 2 ^ 30 < length bytes
Refused bytes (refusals.Line n) = IsFirstBad bytes n

-- what reading a log's bytes gives: the log whose text they are, or a refusal
abbrev pub LogGives : List ℕ → Result State LogRefusal → Type 0
LogGives bytes (Ok log) = (log_text log.entries ≡ bytes) × (log.spare ≡ 0) × AllFit log.entries
LogGives bytes (Err e) = Refused bytes e

-- the text of these entries was read: they come, unless memory runs out or it is too long
abbrev pub GivesLog : List Entry → Result State LogRefusal → Type 0
GivesLog es (Ok log) = log.entries ≡ es
GivesLog es (Err refusals.Memory) = Unit {0}
GivesLog es (Err refusals.TooLong) = 2 ^ 30 < length (log_text es)
GivesLog es (Err (refusals.Line n)) = ⊥

-- the log of the text of any entries is those entries
abbrev pub ReadsBack : List ℕ → Result State LogRefusal → Type 0
ReadsBack bytes r = (es : List Entry) → AllFit es → bytes ≡ log_text es → GivesLog es r

-- no line states two entries
abbrev pub OneEntryALine : Type 0
OneEntryALine = (e f : Entry) → Fits e → Fits f → text_of e ≡ text_of f → e ≡ f

-- each kind is found by its name
abbrev pub KindsAreFound : Type 0
KindsAreFound = (k : Kind) → find kind_name kinds_all (kind_name k) ≡ Some k

-- no byte of an entry's text is a control code of ASCII, so none is LF, and a line ends at its first LF
abbrev pub NoTextHoldsLf : Type 0
NoTextHoldsLf = (e : Entry) → Fits e → ArePrinted (text_of e)

-- An entry that its types hold, with its import's number, its port's width and its rule in their ranges, is one whose line is read: so the
-- log of the text of any such entries is those entries (`ReadsBack`).
abbrev pub HeldEntriesFit : Type 0
HeldEntriesFit = (e : Entry) → IsHeld e → InRange e → Fits e
