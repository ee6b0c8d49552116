use Rattle.std.proofs.Common.{arith}
use Rattle.guest_map.proofs.Places.{stack_is_region, area_is_region}
use Rattle.guest_map.proofs.map_laws.places_lie_in_regions.Goals as goal

pub returns : goal.returns
returns c = record {
  stack = stack_is_region;
  answer_area = area_is_region;
  send_slot = λ driver slot d s. record { from = omega arith; to = omega arith };
  send_packet = λ driver slot. record { from = omega arith; to = omega arith };
  send_buffer = λ driver slot. record { from = omega arith; to = omega arith };
  send_bytes = λ driver slot. record { from = omega arith; to = omega arith };
  request_buffer = λ adapter a. record { from = omega arith; to = omega arith };
  request_bytes = λ adapter. record { from = omega arith; to = omega arith };
  request_count = λ adapter. record { from = omega arith; to = omega arith };
  request_needed = λ adapter. record { from = omega arith; to = omega arith };
  adapter_block = λ adapter a. record { from = omega arith; to = omega arith };
}
