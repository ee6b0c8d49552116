-- The forms of words: what a command line may say. No list of words has two forms. (The project's own: docs/PRINTED.md.)
use Rattle.std.specs.Prelude.{◌≡◌, ◌⊎◌, ℕ, Bool, false, List, [], ◌∷◌, codes, nat_eq}
use Rattle.std.specs.List.{starts_with}
use Rattle.forged_miniports.specs.declared.kind.Kind.{Kind}
use Rattle.forged_miniports.specs.Kinds.{name_of}
use Rattle.ndis_run.specs.declared.words.Command.{Command}
use Rattle.ndis_run.specs.declared.words.Command.TheVariants as command

-- a form of words: a command, with its operands as texts
pub data Form : Type 0 where
  Help : Form
  Version : Form
  -- `run0 SYS LOG`
  RunZero : List ℕ → List ℕ → Form
  -- `show-image SYS`
  ShowImage : List ℕ → Form
  -- `show-inf INF ID`
  ShowInf : List ℕ → List ℕ → Form
  -- `forge KIND SYS INF`
  Forge : Kind → List ℕ → List ℕ → Form

-- an operand does not begin with `--`
abbrev pub is_option : List ℕ → Bool
is_option word = starts_with nat_eq word (codes "--")

abbrev pub IsOperand : List ℕ → Type 0
IsOperand word = is_option word ≡ false

-- the words have the form
abbrev pub IsForm : Form → List (List ℕ) → Type 0
IsForm Help words = words ≡ codes "--help" ∷ []
IsForm Version words = words ≡ codes "--version" ∷ []
IsForm (RunZero sys log) words = (words ≡ codes "run0" ∷ sys ∷ log ∷ []) × IsOperand sys × IsOperand log
IsForm (ShowImage sys) words = (words ≡ codes "show-image" ∷ sys ∷ []) × IsOperand sys
IsForm (ShowInf inf id) words = (words ≡ codes "show-inf" ∷ inf ∷ id ∷ []) × IsOperand inf × IsOperand id
IsForm (Forge kind sys inf) words = (words ≡ codes "forge" ∷ name_of kind ∷ sys ∷ inf ∷ []) × IsOperand sys × IsOperand inf

-- a command's form
abbrev pub form_of : Command → Form
form_of command.Help = Help
form_of command.Version = Version
form_of (command.RunZero sys log) = RunZero sys.now log.now
form_of (command.ShowImage sys) = ShowImage sys.now
form_of (command.ShowInf inf id) = ShowInf inf.now id.now
form_of (command.Forge kind sys inf) = Forge kind sys.now inf.now

-- a command of this form reads the file of this name
abbrev pub Reads : Form → List ℕ → Type 0
Reads (RunZero sys log) name = name ≡ sys
Reads (ShowImage sys) name = name ≡ sys
Reads (ShowInf inf id) name = name ≡ inf
Reads _ name = ⊥

-- a command of this form makes the file of this name
abbrev pub Makes : Form → List ℕ → Type 0
Makes (RunZero sys log) name = name ≡ log
Makes (Forge kind sys inf) name = (name ≡ sys) ⊎ (name ≡ inf)
Makes _ name = ⊥

-- the words are those of a command that reads, or that makes, the file of this name
abbrev pub IsInput : List (List ℕ) → List ℕ → Type 0
IsInput words name = (form : Form) × IsForm form words × Reads form name

abbrev pub IsOutput : List (List ℕ) → List ℕ → Type 0
IsOutput words name = (form : Form) × IsForm form words × Makes form name
