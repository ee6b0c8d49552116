-- The names of the kinds of entries: the project's own.
use Rattle.std.specs.Prelude.{ℕ, List, codes}
use Rattle.call_log.specs.declared.kinds.Kind.{Kind}
use Rattle.call_log.specs.declared.kinds.Kind.TheVariants as kinds
use Rattle.call_log.specs.declared.kinds.TheConstants.{KINDS}

unfoldable pub kind_name : Kind → List ℕ
kind_name kinds.Bind = codes "bind"
kind_name kinds.Unbind = codes "unbind"
kind_name kinds.Quiet = codes "quiet"
kind_name kinds.Done = codes "done"
kind_name kinds.Send = codes "send"
kind_name kinds.Hand = codes "hand"
kind_name kinds.Requeue = codes "requeue"
kind_name kinds.Late = codes "late"
kind_name kinds.Complete = codes "complete"
kind_name kinds.Indicate = codes "indicate"
kind_name kinds.Return = codes "return"
kind_name kinds.Back = codes "back"
kind_name kinds.Ask = codes "ask"
kind_name kinds.HandAsk = codes "handask"
kind_name kinds.Answer = codes "answer"
kind_name kinds.Enter = codes "enter"
kind_name kinds.Leave = codes "leave"
kind_name kinds.Turn = codes "turn"
kind_name kinds.Call = codes "call"
kind_name kinds.Reply = codes "reply"
kind_name kinds.Spin = codes "spin"
kind_name kinds.Port = codes "port"
kind_name kinds.WireIn = codes "wirein"
kind_name kinds.WireOut = codes "wireout"
kind_name kinds.Time = codes "time"
kind_name kinds.ResetBegin = codes "resetbegin"
kind_name kinds.ResetEnd = codes "resetend"
kind_name kinds.Fault = codes "fault"
kind_name kinds.Stop = codes "stop"
kind_name kinds.Await = codes "await"
kind_name kinds.Tag = codes "tag"
kind_name kinds.Cancel = codes "cancel"
kind_name kinds.Event = codes "event"

unfoldable pub kinds_all : List Kind
kinds_all = KINDS
