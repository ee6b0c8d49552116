use Rattle.std.proofs.Common.{◌≡◌, refl, ap, ◌∙◌}
use Rattle.legal_run.specs.Owed.{sync_caller}
use Rattle.legal_run.specs.Enters.{words_of, writes_of}
use Rattle.handler_words.specs.Ready.{number_of}
use Rattle.handler_words.proofs.Carried.{carried, few_are}
use Rattle.handler_words.proofs.Ready.{about_of}
use Rattle.handler_words.proofs.enterings.entering.Goals as goal

pub returns : goal.returns
returns g c =
    let s = g.o.state in
    let n = number_of c.args.a in
    let x = c.args.x.0 in
    let h = c.args.h in
    let words = c.in_ok-words.words in
    let writes = c.in_ok-writes.writes in
    let plain = c.requires.1.1.1.1.1 in
    let is_words : words ≡ words_of s n x h words = c.in_ok-words.ensures words ∙ ap (λ k. words_of s k x h words) c.number_of-n.ensures in
    let is_writes : writes ≡ writes_of s n x h words writes = c.in_ok-writes.ensures words writes ∙ ap (λ k. writes_of s k x h words writes) c.number_of-n.ensures in
    let called = c.due_of-due.ensures.due.called ∙ ap (sync_caller s) c.number_of-n.ensures in
    record {
      adapter = refl;
      handler = refl;
      carried = carried g.o.inputs s n x h words writes c.requires.1.1.1.0 c.requires.1.1.1.1.0 plain is_words is_writes;
      few = few_are s n x h words plain is_words;
      about = c.in_ok-subject.ensures ∙ about_of g.o c.args.a h words c.due_of-due.result.caller c.requires.1.0 plain called;
    }
