use Rattle.std.proofs.Common.{arith}
use Rattle.frame_wire.proofs.Files.{is_found, is_only, is_refused, is_first, is_memory, are_lengths, is_wire, is_start}
use Rattle.frame_wire.proofs.reading.read_frames.Goals as goal

pub returns-clause-found : goal.returns-clause-found
returns-clause-found c = is_found c.args.bytes.now c.frames_or_fault.result (λ i. omega (arith, c.type_inv.bytes i)) c.frames_or_fault.ensures

pub returns-clause-only : goal.returns-clause-only
returns-clause-only c = λ fs spelled. is_only c.args.bytes.now c.frames_or_fault.result fs spelled c.frames_or_fault.ensures

pub returns-clause-refused : goal.returns-clause-refused
returns-clause-refused c = is_refused c.args.bytes.now c.frames_or_fault.result (λ i. omega (arith, c.type_inv.bytes i)) c.frames_or_fault.ensures

pub returns-clause-first : goal.returns-clause-first
returns-clause-first c = λ e refused. is_first c.args.bytes.now c.frames_or_fault.result e (λ i. omega (arith, c.type_inv.bytes i)) refused c.frames_or_fault.ensures

pub returns-clause-memory : goal.returns-clause-memory
returns-clause-memory c = λ e. is_memory c.args.bytes.now c.frames_or_fault.result (λ i. omega (arith, c.type_inv.bytes i)) c.frames_or_fault.ensures e

pub returns-clause-lengths : goal.returns-clause-lengths
returns-clause-lengths c = are_lengths c.args.bytes.now c.frames_or_fault.result (λ i. omega (arith, c.type_inv.bytes i)) c.frames_or_fault.ensures

pub returns-clause-wire : goal.returns-clause-wire
returns-clause-wire c = is_wire c.args.bytes.now c.frames_or_fault.result (λ i. omega (arith, c.type_inv.bytes i)) c.frames_or_fault.ensures

pub returns-clause-start : goal.returns-clause-start
returns-clause-start c = is_start c.args.bytes.now c.frames_or_fault.result (λ i. omega (arith, c.type_inv.bytes i)) c.frames_or_fault.ensures
