use Rattle.std.proofs.Common.{ap, ◌∙◌, sym}
use Rattle.call_log.specs.declared.entry.Entry.{Entry}
use Rattle.notices.specs.Notices.{tells_by}
use Rattle.notices.proofs.told.told_by.Goals as goal

pub returns-in-Indicate : goal.returns-in-Indicate
returns-in-Indicate c = c.told_of_frame.ensures ∙ ap (λ (e : Entry). tells_by c.args.book.now c.args.driver c.args.bound e) (sym c.in-Indicate.is)
