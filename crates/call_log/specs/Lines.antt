-- The lines of a log: each entry is a kind and that kind's fields. The project's own (docs/LOG.md).
use Rattle.std.specs.Prelude.{ℕ, ◌≤◌, List, [], ◌∷◌, ◌++◌, map, Some}
use Rattle.std.specs.Option.{option_map}
use Rattle.log_fields.specs.Codes.{Code, Read, and_then, word, octet, byte_string, named, behind, chosen, ◌▹◌, optional, listed}
use Rattle.log_fields.specs.Fields.{small, medium, large, flag, flag_of, width, handler, fault_kind, import, direction, write, write_of, question, question_of, cause, cause_of, what, what_of, HasRule}
use Rattle.call_log.specs.Kinds.{kind_name, kinds_all}
use Rattle.call_log.specs.declared.entry.Entry.{Entry}
use Rattle.call_log.specs.declared.entry.Entry.TheVariants as entries
use Rattle.call_log.specs.declared.kinds.Kind.{Kind}
use Rattle.call_log.specs.declared.kinds.Kind.TheVariants as kinds

-- ---- the table of lines

pub record Shape : Type 1 where
  pub A : Type 0
  pub code : Code A

abbrev pub of : {A : Type 0} → Code A → Shape
of {A} c = record { A = A; code = c }

abbrev pub shape : Kind → Shape
shape kinds.Bind = of (small ▹ small)
shape kinds.Unbind = of (small)
shape kinds.Quiet = of (small)
shape kinds.Done = of (small)
shape kinds.Send = of (small ▹ large ▹ byte_string)
shape kinds.Hand = of (large)
shape kinds.Requeue = of (large)
shape kinds.Late = of (large)
shape kinds.Complete = of (large ▹ word)
shape kinds.Indicate = of (small ▹ large ▹ byte_string ▹ (listed small) ▹ flag)
shape kinds.Return = of (small ▹ large)
shape kinds.Back = of (large ▹ flag)
shape kinds.Ask = of (small ▹ large ▹ question)
shape kinds.HandAsk = of (large)
shape kinds.Answer = of (large ▹ word ▹ byte_string)
shape kinds.Enter = of ((optional small) ▹ small ▹ handler ▹ (listed word) ▹ (listed write))
shape kinds.Leave = of (small ▹ word)
shape kinds.Turn = of (small ▹ large)
shape kinds.Call = of (small ▹ import ▹ (listed word))
shape kinds.Reply = of (small ▹ word ▹ (listed write))
shape kinds.Spin = of (small ▹ word)
shape kinds.Port = of (small ▹ direction ▹ width ▹ octet ▹ byte_string)
shape kinds.WireIn = of (large)
shape kinds.WireOut = of (small ▹ byte_string)
shape kinds.Time = of (large)
shape kinds.ResetBegin = of (small)
shape kinds.ResetEnd = of (small ▹ word)
shape kinds.Fault = of (small ▹ fault_kind ▹ word)
shape kinds.Stop = of (small ▹ cause)
shape kinds.Await = of (small ▹ what)
shape kinds.Tag = of (large ▹ medium)
shape kinds.Cancel = of (small ▹ medium)
shape kinds.Event = of (small ▹ medium ▹ byte_string ▹ flag)

abbrev pub Fields : Kind → Type 0
Fields k = (shape k).A

abbrev pub fields : (k : Kind) → Code (Fields k)
fields k = behind 32 (shape k).code

-- a kind, and its fields
abbrev pub Line : Type 0
Line = (k : Kind) × Fields k

unfoldable pub line : Code Line
line = chosen (named kind_name kinds_all) Fields fields

-- an entry's kind and fields
unfoldable pub line_of : Entry → Line
line_of (entries.Bind driver adapter) = (kinds.Bind, (driver.0, adapter.0))
line_of (entries.Unbind driver) = (kinds.Unbind, driver.0)
line_of (entries.Quiet driver) = (kinds.Quiet, driver.0)
line_of (entries.Done driver) = (kinds.Done, driver.0)
line_of (entries.Send driver packet bytes) = (kinds.Send, (driver.0, (packet.0, bytes)))
line_of (entries.Hand packet) = (kinds.Hand, packet.0)
line_of (entries.Requeue packet) = (kinds.Requeue, packet.0)
line_of (entries.Late packet) = (kinds.Late, packet.0)
line_of (entries.Complete packet status) = (kinds.Complete, (packet.0, status.0))
line_of (entries.Indicate adapter loan bytes holders copied) = (kinds.Indicate, (adapter.0, (loan.0, (bytes, (map (λ h. h.0) holders, flag_of copied)))))
line_of (entries.Return driver loan) = (kinds.Return, (driver.0, loan.0))
line_of (entries.Back loan failed) = (kinds.Back, (loan.0, flag_of failed))
line_of (entries.Ask driver request asks) = (kinds.Ask, (driver.0, (request.0, question_of asks)))
line_of (entries.HandAsk request) = (kinds.HandAsk, request.0)
line_of (entries.Answer request status bytes) = (kinds.Answer, (request.0, (status.0, bytes)))
line_of (entries.Enter adapter context entered words writes) = (kinds.Enter, (option_map (λ a. a.0) adapter, (context.0, (entered, (words, map write_of writes)))))
line_of (entries.Leave context eax) = (kinds.Leave, (context.0, eax))
line_of (entries.Turn context count) = (kinds.Turn, (context.0, count))
line_of (entries.Call context n words) = (kinds.Call, (context.0, (n, words)))
line_of (entries.Reply context eax writes) = (kinds.Reply, (context.0, (eax, map write_of writes)))
line_of (entries.Spin context lock) = (kinds.Spin, (context.0, lock.0))
line_of (entries.Port adapter way size port bytes) = (kinds.Port, (adapter.0, (way, (size, (port, bytes)))))
line_of (entries.WireIn frame) = (kinds.WireIn, frame)
line_of (entries.WireOut adapter bytes) = (kinds.WireOut, (adapter.0, bytes))
line_of (entries.Time clock) = (kinds.Time, clock)
line_of (entries.ResetBegin adapter) = (kinds.ResetBegin, adapter.0)
line_of (entries.ResetEnd adapter status) = (kinds.ResetEnd, (adapter.0, status.0))
line_of (entries.Fault context kind address) = (kinds.Fault, (context.0, (kind, address.0)))
line_of (entries.Stop adapter why) = (kinds.Stop, (adapter.0, cause_of why))
line_of (entries.Await driver until) = (kinds.Await, (driver.0, what_of until))
line_of (entries.Tag packet id) = (kinds.Tag, (packet.0, id))
line_of (entries.Cancel driver id) = (kinds.Cancel, (driver.0, id))
line_of (entries.Event driver number bytes taken) = (kinds.Event, (driver.0, (number, (bytes, flag_of taken))))

-- the fields of a kind, and the kind before them
abbrev pub read_fields : Kind → List ℕ → Read Line
read_fields k bytes = and_then ((shape k).code.read bytes) (λ y rest. Some ((k, y), rest))

-- an import's number is 1 to 64, a port's width 1 or 2, a breach's rule 1 to 14
abbrev pub InRange : Entry → Type 0
InRange (entries.Call context n words) = (1 ≤ n) × (n ≤ 64)
InRange (entries.Port adapter way size port bytes) = (1 ≤ size) × (size ≤ 2)
InRange (entries.Stop adapter why) = HasRule why
InRange _ = Unit {0}

-- the text of an entry, and of a log
abbrev pub text_of : Entry → List ℕ
text_of e = line.text (line_of e)

abbrev pub log_text : List Entry → List ℕ
log_text [] = []
log_text (e ∷ es) = text_of e ++ 10 ∷ log_text es
