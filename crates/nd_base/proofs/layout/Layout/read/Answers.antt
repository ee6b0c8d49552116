use Rattle.std.proofs.Common.{sym}
use Rattle.std.proofs.lemmas.Result.{err_from_is_err_and}
use Rattle.nd_base.proofs.LayoutFile.{found, refused, only_found, not_refused, not_found, only_refused}
use Rattle.nd_base.proofs.Sound.{layout_sound}
use Rattle.nd_base.proofs.layout.Layout.read.Goals as goal

pub invariant_of-result : goal.invariant_of-result
invariant_of-result c =
    let text = c.args.text.now in
    let o = c.in_ok-offsets.offsets in
    layout_sound text o (found text o (sym c.in_ok-offsets.ensures))

pub returns : goal.returns
returns c =
    let text = c.args.text.now in
    let o = c.in_ok-offsets.offsets in
    record {
      found = found text o (sym c.in_ok-offsets.ensures);
      only = λ others h. only_found text o others (sym c.in_ok-offsets.ensures) h;
      refused = tt;
      first = λ e h. not_refused text o e (sym c.in_ok-offsets.ensures) h;
    }

pub returns-in_err-offsets : goal.returns-in_err-offsets
returns-in_err-offsets c =
    let text = c.args.text.now in
    let d = c.in_err-offsets.field-0.0 in
    let p = err_from_is_err_and c.from_residual.result c.from_residual.ensures.1 in
    rw (p.1, p.2) (record {
      found = tt;
      only = λ o h. not_found text o d (sym c.in_err-offsets.ensures) h;
      refused = refused text d (sym c.in_err-offsets.ensures);
      first = λ e h. only_refused text d e (sym c.in_err-offsets.ensures) h;
    })
