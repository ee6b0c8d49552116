-- What follows of the statuses of the commands.
use Rattle.std.proofs.Common.{◌≡◌, ◌≢◌, ℕ, ◌+◌, ◌*◌, ◌<◌, ◌⊎◌, inl, inr, List, Some, Ok, refl, sym, ap, subst, ◌∙◌, arith, length, nat_eq, slice_index, if◌then◌else◌}
use Rattle.nd_base.specs.Files.{Kept, bytes_at, Rose}
use Rattle.pe_image.specs.Image.{ImageParts}
use Rattle.entry_session.specs.declared.session.Ending.{Ending}
use Rattle.entry_session.specs.declared.session.Ending.TheVariants.{Left, Faulting, Spent}
use Rattle.ndis_run.specs.Devices.{Devices, Output}
use Rattle.ndis_run.specs.Prints.{Prints, whole, failed, no_memory}
use Rattle.ndis_run.specs.RunZero.{EndsZero, status_of}
use Rattle.ndis_run.specs.RunZero as zero
use Rattle.ndis_run.specs.Showing.{EndsShowing}
use Rattle.ndis_run.specs.Showing as showing
use Rattle.ndis_run.specs.Shown.{Answer, judged}
use Rattle.ndis_run.specs.Tool.{Ends}
use Rattle.forged_miniports.specs.declared.kind.Kind.{Kind}
use Rattle.forged_miniports.specs.declared.kind.Kind.TheVariants.{Idle, Double, Scarce, Mute, Deserial}
use Rattle.forged_miniports.specs.Kinds.{name_of}
use Rattle.ndis_run.specs.ForgeCommand.{EndsForging}
use Rattle.ndis_run.specs.ForgeCommand as forging
use Rattle.ndis_run.specs.Words.{Form, Help, Version, RunZero, ShowImage, ShowInf, Forge, IsForm, form_of}
use Rattle.ndis_run.specs.declared.words.Command.{Command}

-- a name's number of letters and its first letter, of which no two kinds have both
mark : List ℕ → ℕ
mark name = length name * 1000 + slice_index name 0

marked : ℕ → Kind
marked n = if nat_eq n 4105 then Idle else if nat_eq n 6100 then Double else if nat_eq n 6115 then Scarce else if nat_eq n 4109 then Mute else Deserial

is_marked : (kind : Kind) → marked (mark (name_of kind)) ≡ kind
unfolding marked mark
is_marked Idle = refl
is_marked Double = refl
is_marked Scarce = refl
is_marked Mute = refl
is_marked Deserial = refl

-- no word names two kinds
one_kind : (kind other : Kind) → name_of kind ≡ name_of other → kind ≡ other
one_kind kind other same = sym (is_marked kind) ∙ ap (λ name. marked (mark name)) same ∙ is_marked other

pub one_form : (words : List (List ℕ)) (one other : Form) → IsForm one words → IsForm other words → one ≡ other
one_form words Help Help a b = refl
one_form words Help Version a b = let e = sym a ∙ b in absurd (cc)
one_form words Help (RunZero sys log) a b = let e = sym a ∙ b.0 in absurd (cc)
one_form words Help (ShowImage sys) a b = let e = sym a ∙ b.0 in absurd (cc)
one_form words Help (ShowInf inf id) a b = let e = sym a ∙ b.0 in absurd (cc)
one_form words Version Help a b = let e = sym a ∙ b in absurd (cc)
one_form words Version Version a b = refl
one_form words Version (RunZero sys log) a b = let e = sym a ∙ b.0 in absurd (cc)
one_form words Version (ShowImage sys) a b = let e = sym a ∙ b.0 in absurd (cc)
one_form words Version (ShowInf inf id) a b = let e = sym a ∙ b.0 in absurd (cc)
one_form words (RunZero sys log) Help a b = let e = sym a.0 ∙ b in absurd (cc)
one_form words (RunZero sys log) Version a b = let e = sym a.0 ∙ b in absurd (cc)
one_form words (RunZero sys log) (RunZero sys' log') a b = let e = sym a.0 ∙ b.0 in cc
one_form words (RunZero sys log) (ShowImage sys') a b = let e = sym a.0 ∙ b.0 in absurd (cc)
one_form words (RunZero sys log) (ShowInf inf id) a b = let e = sym a.0 ∙ b.0 in absurd (cc)
one_form words (ShowImage sys) Help a b = let e = sym a.0 ∙ b in absurd (cc)
one_form words (ShowImage sys) Version a b = let e = sym a.0 ∙ b in absurd (cc)
one_form words (ShowImage sys) (RunZero sys' log) a b = let e = sym a.0 ∙ b.0 in absurd (cc)
one_form words (ShowImage sys) (ShowImage sys') a b = let e = sym a.0 ∙ b.0 in cc
one_form words (ShowImage sys) (ShowInf inf id) a b = let e = sym a.0 ∙ b.0 in absurd (cc)
one_form words (ShowInf inf id) Help a b = let e = sym a.0 ∙ b in absurd (cc)
one_form words (ShowInf inf id) Version a b = let e = sym a.0 ∙ b in absurd (cc)
one_form words (ShowInf inf id) (RunZero sys log) a b = let e = sym a.0 ∙ b.0 in absurd (cc)
one_form words (ShowInf inf id) (ShowImage sys) a b = let e = sym a.0 ∙ b.0 in absurd (cc)
one_form words (ShowInf inf id) (ShowInf inf' id') a b = let e = sym a.0 ∙ b.0 in cc
one_form words Help (Forge kind sys' inf') a b = let e = sym a ∙ b.0 in absurd (cc)
one_form words Version (Forge kind sys' inf') a b = let e = sym a ∙ b.0 in absurd (cc)
one_form words (RunZero sys log) (Forge kind sys' inf') a b = let e = sym a.0 ∙ b.0 in absurd (cc)
one_form words (ShowImage sys) (Forge kind sys' inf') a b = let e = sym a.0 ∙ b.0 in absurd (cc)
one_form words (ShowInf inf id) (Forge kind sys' inf') a b = let e = sym a.0 ∙ b.0 in absurd (cc)
one_form words (Forge kind sys inf) Help a b = let e = sym a.0 ∙ b in absurd (cc)
one_form words (Forge kind sys inf) Version a b = let e = sym a.0 ∙ b in absurd (cc)
one_form words (Forge kind sys inf) (RunZero sys' log) a b = let e = sym a.0 ∙ b.0 in absurd (cc)
one_form words (Forge kind sys inf) (ShowImage sys') a b = let e = sym a.0 ∙ b.0 in absurd (cc)
one_form words (Forge kind sys inf) (ShowInf inf' id) a b = let e = sym a.0 ∙ b.0 in absurd (cc)
one_form words (Forge kind sys inf) (Forge kind' sys' inf') a b =
    let e = sym a.0 ∙ b.0 in
    let names : name_of kind ≡ name_of kind' = cc in
    let same = one_kind kind kind' names in
    cc

-- the status of a line that is printed: its own, 4 where a write failed, or 10
pub status_of_line : (line tried : List ℕ) (wanted status : ℕ) (old new : Output) → Prints line tried wanted status old new
    → (status ≡ wanted) ⊎ ((status ≡ 4) × Rose old.print_faults new.print_faults) ⊎ (status ≡ 10)
status_of_line line tried wanted status old new (whole e added quiet) = inl e
status_of_line line tried wanted status old new (failed e rose fronts) = inr (inl (e, rose))
status_of_line line tried wanted status old new (no_memory e fronts) = inr (inr e)

status_small : (ending : Ending) → status_of ending < 2
status_small (Left status) = omega arith
status_small Faulting = omega arith
status_small Spent = omega arith

failed_zero : (sys log : List ℕ) (status : ℕ) (before after : Devices) → EndsZero sys log status before after → before.storage.read_faults < after.storage.read_faults
    → (status ≡ 3) ⊎ ((status ≡ 4) × Rose before.output.print_faults after.output.print_faults) ⊎ (status ≡ 10)
failed_zero sys log status before after (zero.ran ending sum logged told) less = let same = logged.same_read_faults in absurd (omega arith)
failed_zero sys log status before after (zero.unread failure told) less = status_of_line _ _ _ _ _ _ told
failed_zero sys log status before after (zero.refused line refusal told) less = let same = refusal.quiet.same_read_faults in absurd (omega arith)
failed_zero sys log status before after (zero.unwritten failure told) less = let same = failure.same_read_faults in absurd (omega arith)
failed_zero sys log status before after (zero.no_memory files told) less = inr (inr told.is_status)

failed_showing : (answered : List ℕ → Answer) (refusal : ℕ) (name : List ℕ) (status : ℕ) (before after : Devices) → EndsShowing answered refusal name status before after
    → before.storage.read_faults < after.storage.read_faults → (status ≡ 3) ⊎ ((status ≡ 4) × Rose before.output.print_faults after.output.print_faults) ⊎ (status ≡ 10)
failed_showing answered refusal name status before after (showing.shown found answer told) less = let same = answer.quiet.same_read_faults in absurd (omega arith)
failed_showing answered refusal name status before after (showing.unread failure told) less = status_of_line _ _ _ _ _ _ told
failed_showing answered refusal name status before after (showing.no_memory files writes told) less = inr (inr told.is_status)

failed_forging : (kind : Kind) (sys inf : List ℕ) (status : ℕ) (before after : Devices) → EndsForging kind sys inf status before after
    → before.storage.read_faults < after.storage.read_faults → (status ≡ 3) ⊎ ((status ≡ 4) × Rose before.output.print_faults after.output.print_faults) ⊎ (status ≡ 10)
failed_forging kind sys inf status before after (forging.forged files zero_is same_output) less = let same = files.same_read_faults in absurd (omega arith)
failed_forging kind sys inf status before after (forging.image_unwritten files failure told) less = let same = failure.same_read_faults in absurd (omega arith)
failed_forging kind sys inf status before after (forging.inf_unwritten files failure told) less = let same = failure.same_read_faults in absurd (omega arith)
failed_forging kind sys inf status before after (forging.no_memory files told) less = inr (inr told.is_status)

-- a command of which a size or read failed
pub failed_read : (form : Form) (status : ℕ) (before after : Devices) → Ends form status before after → before.storage.read_faults < after.storage.read_faults
    → (status ≡ 3) ⊎ ((status ≡ 4) × Rose before.output.print_faults after.output.print_faults) ⊎ (status ≡ 10)
failed_read Help status before after ends less = let same = ends.quiet.same_read_faults in absurd (omega arith)
failed_read Version status before after ends less = let same = ends.quiet.same_read_faults in absurd (omega arith)
failed_read (RunZero sys log) status before after ends less = failed_zero sys log status before after ends less
failed_read (ShowImage sys) status before after ends less = failed_showing _ _ _ _ _ _ ends less
failed_read (ShowInf inf id) status before after ends less = failed_showing _ _ _ _ _ _ ends less
failed_read (Forge kind sys inf) status before after ends less = failed_forging _ _ _ _ _ _ ends less

-- a line that is printed where no write failed, with a status that is neither 4 nor 10
told_calmly : (line tried : List ℕ) (wanted status : ℕ) (old new : Output) → Prints line tried wanted status old new → (Rose old.print_faults new.print_faults → ⊥)
    → (status ≡ wanted) ⊎ (status ≡ 10)
told_calmly line tried wanted status old new told calm = elim (status_of_line _ _ _ _ _ _ told) [
  | inl e ↦ inl e
  | inr (inl off) ↦ absurd (calm off.1)
  | inr (inr e) ↦ inr e
]

pub complete : (sys log : List ℕ) (status : ℕ) (m : Kept) (before after : Devices) (image : ImageParts)
    → EndsZero sys log status before after → before.storage.kept ≡ Some m → judged (bytes_at m sys) ≡ Ok image
    → (Rose before.storage.read_faults after.storage.read_faults → ⊥) → (Rose before.storage.write_faults after.storage.write_faults → ⊥)
    → (Rose before.output.print_faults after.output.print_faults → ⊥) → (status < 2) ⊎ (status ≡ 10)
complete sys log status m before after image (zero.ran ending sum logged told) is taken r w f = elim (told_calmly _ _ _ _ _ _ told f) [
  | inl e ↦ let small = status_small ending in inl (omega arith)
  | inr e ↦ inr e
]
complete sys log status m before after image (zero.unread failure told) is taken r w f = absurd (r failure.cause)
complete sys log status m before after image (zero.refused line refusal told) is taken r w f = let clash = sym taken ∙ refusal.of_bytes m is in absurd (cc)
complete sys log status m before after image (zero.unwritten failure told) is taken r w f = absurd (w failure.cause)
complete sys log status m before after image (zero.no_memory files told) is taken r w f = inr told.is_status

-- a count that stays 0 did not rise
stays : (old new : ℕ) → (old ≡ 0) × (new ≡ 0) → Rose old new → ⊥
stays old new zeros (inl less) = let e = zeros.1 in omega arith
stays old new zeros (inr last) = let e = zeros.1 in omega arith

calm_line : (line tried : List ℕ) (wanted status : ℕ) (old new : Output) → wanted ≢ 3 → wanted ≢ 4 → Prints line tried wanted status old new → (Rose old.print_faults new.print_faults → ⊥)
    → (status ≡ 3 → ⊥) × (status ≡ 4 → ⊥)
calm_line line tried wanted status old new apart apart' told calm = elim (told_calmly _ _ _ _ _ _ told calm) [
  | inl e ↦ (λ three. apart (sym e ∙ three), λ four. apart' (sym e ∙ four))
  | inr e ↦ (λ three. absurd (omega arith), λ four. absurd (omega arith))
]

pub calm : (sys log : List ℕ) (status : ℕ) (before after : Devices) → EndsZero sys log status before after
    → (before.storage.read_faults ≡ 0) × (after.storage.read_faults ≡ 0) → (before.storage.write_faults ≡ 0) × (after.storage.write_faults ≡ 0)
    → (before.output.print_faults ≡ 0) × (after.output.print_faults ≡ 0) → (status ≡ 3 → ⊥) × (status ≡ 4 → ⊥)
calm sys log status before after (zero.ran ending sum logged told) reads writes prints =
    let small = status_small ending in calm_line _ _ _ _ _ _ (λ e. omega arith) (λ e. omega arith) told (stays _ _ prints)
calm sys log status before after (zero.unread failure told) reads writes prints = absurd (stays _ _ reads failure.cause)
calm sys log status before after (zero.refused line refusal told) reads writes prints = calm_line _ _ 5 _ _ _ (λ e. omega arith) (λ e. omega arith) told (stays _ _ prints)
calm sys log status before after (zero.unwritten failure told) reads writes prints = absurd (stays _ _ writes failure.cause)
calm sys log status before after (zero.no_memory files told) reads writes prints = let e = told.is_status in (λ three. absurd (omega arith), λ four. absurd (omega arith))

-- ---- words without a form end with 2, and no others

not_two_line : (line tried : List ℕ) (wanted status : ℕ) (old new : Output) → wanted ≢ 2 → Prints line tried wanted status old new → status ≢ 2
not_two_line line tried wanted status old new apart told = elim (status_of_line _ _ _ _ _ _ told) [
  | inl e ↦ λ two. apart (sym e ∙ two)
  | inr (inl off) ↦ λ two. let four = off.0 in absurd (omega arith)
  | inr (inr e) ↦ λ two. absurd (omega arith)
]

not_two_zero : (sys log : List ℕ) (status : ℕ) (before after : Devices) → EndsZero sys log status before after → status ≢ 2
not_two_zero sys log status before after (zero.ran ending sum logged told) = let small = status_small ending in not_two_line _ _ _ _ _ _ (λ e. omega arith) told
not_two_zero sys log status before after (zero.unread failure told) = not_two_line _ _ 3 _ _ _ (λ e. omega arith) told
not_two_zero sys log status before after (zero.refused line refusal told) = not_two_line _ _ 5 _ _ _ (λ e. omega arith) told
not_two_zero sys log status before after (zero.unwritten failure told) = not_two_line _ _ 4 _ _ _ (λ e. omega arith) told
not_two_zero sys log status before after (zero.no_memory files told) = λ two. let e = told.is_status in absurd (omega arith)

not_two_showing : (answered : List ℕ → Answer) (refusal : ℕ) (name : List ℕ) (status : ℕ) (before after : Devices) → refusal ≢ 2 → EndsShowing answered refusal name status before after → status ≢ 2
not_two_showing answered refusal name status before after apart (showing.shown found answer told) =
    not_two_line _ _ _ _ _ _ (λ two. elim answer.is_status [ inl zero_is ↦ omega arith | inr same ↦ apart (sym same ∙ two) ]) told
not_two_showing answered refusal name status before after apart (showing.unread failure told) = not_two_line _ _ 3 _ _ _ (λ e. omega arith) told
not_two_showing answered refusal name status before after apart (showing.no_memory files writes told) = λ two. let e = told.is_status in absurd (omega arith)

not_two_forging : (kind : Kind) (sys inf : List ℕ) (status : ℕ) (before after : Devices) → EndsForging kind sys inf status before after → status ≢ 2
not_two_forging kind sys inf status before after (forging.forged files zero_is same_output) = λ two. absurd (omega arith)
not_two_forging kind sys inf status before after (forging.image_unwritten files failure told) = not_two_line _ _ 4 _ _ _ (λ e. omega arith) told
not_two_forging kind sys inf status before after (forging.inf_unwritten files failure told) = not_two_line _ _ 4 _ _ _ (λ e. omega arith) told
not_two_forging kind sys inf status before after (forging.no_memory files told) = λ two. let e = told.is_status in absurd (omega arith)

pub not_two : (form : Form) (status : ℕ) (before after : Devices) → Ends form status before after → status ≢ 2
not_two Help status before after ends = not_two_line _ _ 0 _ _ _ (λ e. omega arith) ends.printed
not_two Version status before after ends = not_two_line _ _ 0 _ _ _ (λ e. omega arith) ends.printed
not_two (RunZero sys log) status before after ends = not_two_zero sys log status before after ends
not_two (ShowImage sys) status before after ends = not_two_showing _ 5 _ _ _ _ (λ e. omega arith) ends
not_two (ShowInf inf id) status before after ends = not_two_showing _ 6 _ _ _ _ (λ e. omega arith) ends
not_two (Forge kind sys inf) status before after ends = not_two_forging _ _ _ _ _ _ ends

-- ---- commands

pub ends_as : (command other : Command) (status : ℕ) (before after : Devices) → command ≡ other → Ends (form_of other) status before after → Ends (form_of command) status before after
ends_as command other status before after same ends = subst (λ (k : Command). Ends (form_of k) status before after) (sym same) ends

pub ends_also : (one other : Form) (status : ℕ) (before after : Devices) → one ≡ other → Ends one status before after → Ends other status before after
ends_also one other status before after same ends = subst (λ (f : Form). Ends f status before after) same ends
