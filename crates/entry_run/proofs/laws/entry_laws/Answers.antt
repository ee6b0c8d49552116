use Rattle.entry_run.proofs.Entries.{enter_meets, enter_leaves, turn_meets, turn_leaves, call_meets, call_leaves, asks, reply_meets, reply_leaves}
use Rattle.entry_run.proofs.Waiting.{sleeps, jump_meets, jump_leaves, wake_meets, wake_leaves, leave_meets, even, fault_meets}
use Rattle.entry_run.proofs.laws.entry_laws.Goals as goal

pub returns : goal.returns
returns c = record {
  enter = λ image slots budget layout. (enter_meets image slots budget layout, enter_leaves image slots budget layout);
  turn = λ image slots budget layout g n is. (turn_meets image slots budget layout g n is, turn_leaves image slots budget layout g n);
  call = λ image slots budget layout g import words at are. (call_meets image slots budget layout g import words at are, call_leaves image slots budget layout g import words);
  asks = asks;
  reply = λ image slots budget layout g import words reply w h.
      (reply_meets c.replies_are_taken.ensures image slots budget layout g import words reply w h, reply_leaves c.replies_are_taken.ensures image slots budget layout g import words reply w h);
  sleeps = sleeps;
  jump = λ image slots budget layout g import words wake h.
      (jump_meets image slots budget layout g import words wake h, jump_leaves image slots budget layout g import words wake);
  wakes = λ image slots budget layout g import words wake h.
      (wake_meets image slots budget layout g import words wake h, wake_leaves image slots budget layout g import words wake);
  leave = leave_meets;
  even = even;
  fault = fault_meets;
}
