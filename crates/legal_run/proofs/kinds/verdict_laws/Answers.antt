use Rattle.legal_run.proofs.Drawing.{about_packets, about_request, uneven_breaks, drawn_stands, first_due, pending_waits, send_completes, send_goes_back, send_twice, array_verdicts, array_none, query_learns, ask_fails, ask_answered, reset_ends}
use Rattle.legal_run.proofs.kinds.verdict_laws.Goals as goal

pub returns : goal.returns
returns c = record {
  hands = about_packets;
  asks = about_request;
  uneven = uneven_breaks;
  stand = drawn_stands;
  due = first_due;
  waits = pending_waits;
  completes = send_completes;
  goes_back = send_goes_back;
  twice = send_twice;
  array = array_verdicts;
  none = array_none;
  learns = query_learns;
  fails = ask_fails;
  answered = ask_answered;
  resets = reset_ends;
}
