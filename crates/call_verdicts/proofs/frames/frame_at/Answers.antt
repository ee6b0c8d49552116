use Rattle.call_verdicts.proofs.Chains.{frame_given, faulty, endless, unlong}
use Rattle.call_verdicts.proofs.frames.frame_at.Goals as goal

pub returns-in-Ok : goal.returns-in-Ok
returns-in-Ok c = frame_given _ _ _ c.in-Ok.bytes c.in-Ok.ensures

pub returns-in-Err-Fault : goal.returns-in-Err-Fault
returns-in-Err-Fault c = faulty _ _ _ c.in-Err-Fault.field-0 _ c.in-Err-Fault.field-0-is c.in-Err-Fault.ensures

pub returns-in-Err-Loop : goal.returns-in-Err-Loop
returns-in-Err-Loop c = endless _ _ _ c.in-Err-Loop.field-0 c.in-Err-Loop.field-0-is c.in-Err-Loop.ensures

pub returns-in-Err-Length : goal.returns-in-Err-Length
returns-in-Err-Length c = unlong _ _ _ c.in-Err-Length.field-0 c.in-Err-Length.field-0-is c.in-Err-Length.ensures
