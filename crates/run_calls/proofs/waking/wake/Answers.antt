use Rattle.std.proofs.Common.{ap, sym, ◌∙◌, subst, arith}
use Rattle.call_log.specs.declared.entry.Entry.TheVariants as entries
use Rattle.import_table.specs.Table.{row_of}
use Rattle.guest_world.specs.declared.answer.Reply.{Reply}
use Rattle.miniport.specs.Replies.{MayReply}
use Rattle.run_stops.specs.Standing.{SettlesBy, point_of}
use Rattle.run_calls.proofs.Woken.{import_here, import_range, may_wake}
use Rattle.run_calls.proofs.waking.wake.Goals as goal

pub import_row-requires : goal.import_row-requires
import_row-requires g c = import_range c.nothing_stands_between.ensures c.run_laws.ensures g.c c.args.run.now c.args.x c.in-Some.import c.in-Some.al c.requires.0 (sym c.resumption_of.ensures ∙ c.in-Some.is)

pub reply_whole-requires : goal.reply_whole-requires
reply_whole-requires g c =
    let q = c.requires in
    let a = c.args in
    let is = sym c.resumption_of.ensures ∙ c.in-Some.is in
    let room = q.1.1.1.1.1.1.1 in (
      record { reaches = q.0.runs.reaches; keeps = q.0.runs.kept.keeps; owner = q.0.runs.kept.owner; shown = q.0.runs.shown },
      (
        q.0.fed,
        (
          c.import_row.ensures ∙ ap row_of (sym (import_here g.c a.run.now a.x c.in-Some.import c.in-Some.al is)),
          (
            subst (λ (r : Reply). MayReply (point_of g.c a.run.now) a.x r a.run.now.world) (sym c.resumed.ensures)
                (may_wake c.calls_agree.ensures c.calls_return.ensures c.costs_are_small.ensures c.entry_laws.ensures c.free_entries_stand.ensures c.nothing_stands_between.ensures c.run_laws.ensures c.spent_are_due.ensures g.c a.run.now a.x c.in-Some.import c.in-Some.al q.0 q.1.0 q.1.1.0 q.1.1.1.0 q.1.1.1.1.0 q.1.1.1.1.1.1.0 is),
            (q.1.0, omega (arith, room)),
          ),
        ),
      ),
    )

pub returns : goal.returns
returns g c = record {
  import = c.in-Some.import;
  al = c.in-Some.al;
  waited = sym c.resumption_of.ensures ∙ c.in-Some.is;
  settles = subst (λ (r : Reply). SettlesBy g.c (entries.Reply c.args.x r.eax r.writes) c.args.run.now c.reply_whole.new.run) c.resumed.ensures c.reply_whole.ensures;
}
