use Rattle.std.proofs.Common.{◌≡◌, ◌∙◌, sym, ap, subst, inl, inr, Some, None, Ok, Err}
use Rattle.std.specs.Str.Lines.{lines}
use Rattle.driver_script.specs.declared.refusal.ScriptRefusal.{ScriptRefusal}
use Rattle.driver_script.specs.declared.refusal.ScriptRefusal.TheVariants.{OutOfMemory}
use Rattle.driver_script.specs.Scripts.{Contents, IsScript, IsRefused}
use Rattle.driver_script.specs.Reading.{empty, built}
use Rattle.driver_script.proofs.Texts.{is_refused, is_script, no_script_refused, one_refusal, one_script}
use Rattle.driver_script.proofs.script_file.Script.read.Goals as goal

pub returns-in-Some-clause-only : goal.returns-in-Some-clause-only
returns-in-Some-clause-only c = λ s h. absurd (no_script_refused c.args.text.now s c.in-Some.refusal h (is_refused c.args.text.now c.in-Some.refusal c.in-Some.ensures))

pub returns-in-Some-clause-refused : goal.returns-in-Some-clause-refused
returns-in-Some-clause-refused c = inr (is_refused c.args.text.now c.in-Some.refusal c.in-Some.ensures)

pub returns-in-Some-clause-first : goal.returns-in-Some-clause-first
returns-in-Some-clause-first c = λ e h. ap (λ (x : ScriptRefusal). Err x) (one_refusal c.args.text.now c.in-Some.refusal e (is_refused c.args.text.now c.in-Some.refusal c.in-Some.ensures) h)

pub returns-in-Some-clause-memory : goal.returns-in-Some-clause-memory
returns-in-Some-clause-memory c = λ h.
    let same : c.in-Some.refusal ≡ OutOfMemory = cc in
    absurd (subst (IsRefused c.args.text.now) same (is_refused c.args.text.now c.in-Some.refusal c.in-Some.ensures))

pub returns-in_err-built-in-None-clause-first : goal.returns-in_err-built-in-None-clause-first
returns-in_err-built-in-None-clause-first c = λ e h. absurd (no_script_refused c.args.text.now (built empty (lines c.args.text.now)) e (is_script c.args.text.now c.in-None.ensures) h)

pub returns-in_err-built-in-None-clause-memory : goal.returns-in_err-built-in-None-clause-memory
returns-in_err-built-in-None-clause-memory c = λ h. (built empty (lines c.args.text.now), is_script c.args.text.now c.in-None.ensures)

pub returns-in_ok-built-in-None-clause-found : goal.returns-in_ok-built-in-None-clause-found
returns-in_ok-built-in-None-clause-found c = subst (IsScript c.args.text.now) (sym c.in_ok-built-in-None.ensures) (is_script c.args.text.now c.in-None.ensures)

pub returns-in_ok-built-in-None-clause-only : goal.returns-in_ok-built-in-None-clause-only
returns-in_ok-built-in-None-clause-only c = λ s h. c.in_ok-built-in-None.ensures ∙ one_script c.args.text.now s h

pub returns-in_ok-built-in-None-clause-first : goal.returns-in_ok-built-in-None-clause-first
returns-in_ok-built-in-None-clause-first c = λ e h. absurd (no_script_refused c.args.text.now (built empty (lines c.args.text.now)) e (is_script c.args.text.now c.in-None.ensures) h)
