use Rattle.std.proofs.Common.{ℕ, ◌+◌, ◌-◌, length, sym, ap, ◌∙◌, arith}
use Rattle.std.proofs.lemmas.Bool.{eqb-true}
use Rattle.std.proofs.lemmas.List.{nil_from_length}
use Rattle.std.proofs.lemmas.Result.{err_from_is_err_and}
use Rattle.frame_wire.specs.Reading.{seen, first_time, frames_from, entries_of, count_of}
use Rattle.frame_wire.proofs.Loop.{some_left, counted, counted_none, counts_on, count_fails, count_full, count_ends}
use Rattle.frame_wire.proofs.reading.entry_count.Goals as goal

pub loop-rest-init : goal.loop-rest-init
loop-rest-init c =
    record {
      so_far = ap (λ (n : ℕ). counted 0 (frames_from c.args.order (first_time c.args.order c.args.bytes.now) n 24 65536 c.args.bytes.now)) c.first_time-last.ensures ∙ counted_none (entries_of c.args.order c.args.bytes.now);
      count = omega arith;
      inside = omega arith;
    }

pub returns-then-count-eq-MOST_ENTRIES : goal.returns-then-count-eq-MOST_ENTRIES
returns-then-count-eq-MOST_ENTRIES c =
    sym (count_full c.args.order (first_time c.args.order c.args.bytes.now) c.loop-rest.last c.loop-rest.at c.loop-rest.count c.loop-rest.rest.now (count_of (entries_of c.args.order c.args.bytes.now))
    (omega arith) (some_left c.loop-rest.rest.now c.loop-rest-test.ensures) c.loop-rest.invariant.so_far)

pub returns-in_err-entry : goal.returns-in_err-entry
returns-in_err-entry c =
    let p = err_from_is_err_and c.from_residual.result c.from_residual.ensures.1 in
    rw (p.1, p.2) (sym (count_fails c.args.order (first_time c.args.order c.args.bytes.now) c.loop-rest.last c.loop-rest.at c.loop-rest.count c.loop-rest.rest.now c.in_err-entry.field-0.0 (count_of (entries_of c.args.order c.args.bytes.now))
    (omega arith) (some_left c.loop-rest.rest.now c.loop-rest-test.ensures) c.in_err-entry.ensures.value c.loop-rest.invariant.so_far))

pub loop-rest-preserved : goal.loop-rest-preserved
loop-rest-preserved c =
    let so_far = counts_on c.args.order (first_time c.args.order c.args.bytes.now) c.loop-rest.last c.loop-rest.at c.loop-rest.count c.loop-rest.rest.now (seen c.in_ok-entry.entry) c.in_ok-entry.behind.now (count_of (entries_of c.args.order c.args.bytes.now))
    (omega arith) (some_left c.loop-rest.rest.now c.loop-rest-test.ensures) c.in_ok-entry.ensures.value c.loop-rest.invariant.so_far in
    let shorter = c.in_ok-entry.ensures.shorter in
    record {
      so_far = ap (λ (n : ℕ). counted (c.loop-rest.count + 1) (frames_from c.args.order (first_time c.args.order c.args.bytes.now) n (c.loop-rest.at + (length c.loop-rest.rest.now - length c.in_ok-entry.behind.now)) (65536 - (c.loop-rest.count + 1)) c.in_ok-entry.behind.now)) c.time-last.ensures ∙ so_far;
      count = omega arith;
      inside = omega (arith, shorter);
    }

pub returns : goal.returns
returns c =
    sym (count_ends c.args.order (first_time c.args.order c.args.bytes.now) c.loop-rest.last c.loop-rest.at c.loop-rest.count c.loop-rest.rest.now (count_of (entries_of c.args.order c.args.bytes.now))
    (nil_from_length c.loop-rest.rest.now (eqb-true _ _ (sym c.loop-rest-test.ensures))) c.loop-rest.invariant.so_far)
