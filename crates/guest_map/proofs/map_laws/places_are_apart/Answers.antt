use Rattle.std.proofs.Common.{arith}
use Rattle.guest_map.specs.Regions.{send_packet, send_buffer, send_bytes, request_bytes, request_count, request_needed}
use Rattle.guest_map.proofs.Rising.{apart_by_ends}
use Rattle.guest_map.proofs.Places.{stacks_are_apart, areas_are_apart, stack_apart_from_area, slots_are_apart, buffers_are_apart, blocks_are_apart}
use Rattle.guest_map.proofs.map_laws.places_are_apart.Goals as goal

pub returns : goal.returns
returns c = record {
  stacks = stacks_are_apart;
  answer_areas = areas_are_apart;
  stack_and_answer_area = stack_apart_from_area;
  send_slots = slots_are_apart;
  packet_and_buffer = λ driver slot. apart_by_ends (send_packet driver slot) (send_buffer driver slot) (omega arith);
  packet_and_bytes = λ driver slot. apart_by_ends (send_packet driver slot) (send_bytes driver slot) (omega arith);
  buffer_and_bytes = λ driver slot. apart_by_ends (send_buffer driver slot) (send_bytes driver slot) (omega arith);
  request_buffers = buffers_are_apart;
  bytes_and_count = λ adapter. apart_by_ends (request_bytes adapter) (request_count adapter) (omega arith);
  bytes_and_needed = λ adapter. apart_by_ends (request_bytes adapter) (request_needed adapter) (omega arith);
  count_and_needed = λ adapter. apart_by_ends (request_count adapter) (request_needed adapter) (omega arith);
  adapter_blocks = blocks_are_apart;
}
