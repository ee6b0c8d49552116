-- Each kind is found by its name.
use Rattle.std.proofs.Common.{◌≡◌, Some, refl}
use Rattle.log_fields.specs.Codes.{find}
use Rattle.call_log.specs.Kinds.{kind_name, kinds_all}
use Rattle.call_log.specs.declared.kinds.Kind.{Kind}
use Rattle.call_log.specs.declared.kinds.Kind.TheVariants as kinds

pub kind_found : (k : Kind) → find kind_name kinds_all (kind_name k) ≡ Some k
unfolding kind_name kinds_all
kind_found kinds.Bind = refl
kind_found kinds.Unbind = refl
kind_found kinds.Quiet = refl
kind_found kinds.Done = refl
kind_found kinds.Send = refl
kind_found kinds.Hand = refl
kind_found kinds.Requeue = refl
kind_found kinds.Late = refl
kind_found kinds.Complete = refl
kind_found kinds.Indicate = refl
kind_found kinds.Return = refl
kind_found kinds.Back = refl
kind_found kinds.Ask = refl
kind_found kinds.HandAsk = refl
kind_found kinds.Answer = refl
kind_found kinds.Enter = refl
kind_found kinds.Leave = refl
kind_found kinds.Turn = refl
kind_found kinds.Call = refl
kind_found kinds.Reply = refl
kind_found kinds.Spin = refl
kind_found kinds.Port = refl
kind_found kinds.WireIn = refl
kind_found kinds.WireOut = refl
kind_found kinds.Time = refl
kind_found kinds.ResetBegin = refl
kind_found kinds.ResetEnd = refl
kind_found kinds.Fault = refl
kind_found kinds.Stop = refl
kind_found kinds.Await = refl
kind_found kinds.Tag = refl
kind_found kinds.Cancel = refl
kind_found kinds.Event = refl
