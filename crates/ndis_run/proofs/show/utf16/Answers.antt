use Rattle.std.proofs.Common.{sym, ◌∙◌, append_assoc, append-nil}
use Rattle.std.proofs.lemmas.Str.{IsUtf8-past_char}
use Rattle.ndis_run.proofs.Utf16.{units_step, units_of_empty}
use Rattle.ndis_run.proofs.show.utf16.Goals as goal

pub loop-character-preserved : goal.loop-character-preserved
loop-character-preserved c =
    let held = c.loop-character.invariant in
    let parts = c.in-Some.ensures.steps.0 in
    let step = units_step _ _ c.in-Some.character held.0 parts in (
      IsUtf8-past_char _ _ c.in-Some.character held.0 parts,
      rw (c.in_ok-extend_from_slice.ensures.ok, c.encode_utf16.ensures.value, append_assoc) (rw step at held.1),
    )

pub returns : goal.returns
returns c = sym (append-nil _) ∙ rw (units_of_empty _ c.in_default.ensures.steps.0.0) at c.loop-character.invariant.1
