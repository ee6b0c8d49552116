use Rattle.std.proofs.Common.{◌≡◌, ℕ, Bool, true, ◌||◌, ◌&&◌, ◌==◌, ap, not, arith, Some, None, List}
use Rattle.std.specs.Prelude.{count_by}
use Rattle.nd_base.specs.declared.numbers.AdapterNo.{AdapterNo}
use Rattle.nd_base.specs.declared.numbers.CtxNo.{CtxNo}
use Rattle.log_fields.specs.declared.field_values.Handler.{Handler}
use Rattle.log_fields.specs.declared.write.Write.{Write}
use Rattle.call_log.specs.declared.entry.Entry.TheVariants.{Enter}
use Rattle.owner_machine.specs.State.{Owner, at, phase_is, is_running}
use Rattle.owner_machine.specs.Contexts.{none_runs, is_exclusive, is_halt, any_handler, how_many}
use Rattle.owner_machine.specs.Handlers.{may_halt, outstanding, stays_bound, nothing_waits}
use Rattle.owner_machine.specs.Machine.{rule_against}
use Rattle.owner_machine.specs.Legal.{start}
use Rattle.owner_machine.specs.Laws.{IsLast}
use Rattle.owner_machine.proofs.Bools.{case_of, and_first, and_second, given, equal}
use Rattle.owner_machine.proofs.Overlap.{alone_now, enters}
use Rattle.owner_machine.proofs.laws.handler_laws.Goals as goal

is_last : (o : Owner) (a : ℕ) → may_halt o a ≡ true → IsLast o a
is_last o a may =
    let rest : (count_by (stays_bound a) o.drivers == 0) && ((outstanding o a == 0) && (at nothing_waits o.adapters a && none_runs o any_handler a)) ≡ true = and_second (phase_is is_running o a) _ may in
    let more : (outstanding o a == 0) && (at nothing_waits o.adapters a && none_runs o any_handler a) ≡ true = and_second (count_by (stays_bound a) o.drivers == 0) _ rest in
    let last : at nothing_waits o.adapters a && none_runs o any_handler a ≡ true = and_second (outstanding o a == 0) _ more in
    record {
      nothing = equal (outstanding o a) 0 (and_first (outstanding o a == 0) _ more);
      unbound = equal (count_by (stays_bound a) o.drivers) 0 (and_first (count_by (stays_bound a) o.drivers == 0) _ rest);
      waiting = and_first (at nothing_waits o.adapters a) _ last;
      closed = equal (how_many o any_handler a) 0 (and_second (at nothing_waits o.adapters a) (none_runs o any_handler a) last);
    }

halts : (o : Owner) (adapter : AdapterNo) (context : CtxNo) (handler : Handler) (words : List ℕ) (writes : List Write) → rule_against o (Enter (Some adapter) context handler words writes) ≡ None → is_halt handler ≡ true → IsLast o adapter.0
halts o adapter context handler words writes h is = let needs = enters o adapter context.0 handler (case_of o (Enter (Some adapter) context handler words writes) h) in is_last o adapter.0 (given (is_halt handler) (may_halt o adapter.0) needs.halts is)

pub returns : goal.returns
returns _ = record {
  alone = λ adapters drivers log o a legal serial. alone_now (start adapters drivers) o log a legal (λ is. omega arith) (ap (λ (b : Bool). b || not (none_runs o is_exclusive a)) serial);
  halts_last = halts;
}
