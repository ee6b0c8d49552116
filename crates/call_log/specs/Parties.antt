-- The driver, the adapter and the context of an entry, where its line has one. The project's own.
use Rattle.std.specs.Prelude.{Option, Some, None}
use Rattle.nd_base.specs.declared.numbers.BindingNo.{BindingNo}
use Rattle.nd_base.specs.declared.numbers.AdapterNo.{AdapterNo}
use Rattle.nd_base.specs.declared.numbers.CtxNo.{CtxNo}
use Rattle.call_log.specs.declared.entry.Entry.{Entry}
use Rattle.call_log.specs.declared.entry.Entry.TheVariants as entries

abbrev pub of_driver : Entry → Option BindingNo
of_driver (entries.Bind driver adapter) = Some driver
of_driver (entries.Unbind driver) = Some driver
of_driver (entries.Quiet driver) = Some driver
of_driver (entries.Done driver) = Some driver
of_driver (entries.Send driver packet bytes) = Some driver
of_driver (entries.Return driver loan) = Some driver
of_driver (entries.Ask driver request question) = Some driver
of_driver (entries.Await driver condition) = Some driver
of_driver (entries.Cancel driver id) = Some driver
of_driver (entries.Event driver number bytes taken) = Some driver
of_driver _ = None

abbrev pub of_adapter : Entry → Option AdapterNo
of_adapter (entries.Bind driver adapter) = Some adapter
of_adapter (entries.Indicate adapter loan bytes holders copied) = Some adapter
of_adapter (entries.Enter adapter context handler words writes) = adapter
of_adapter (entries.Port adapter direction width port bytes) = Some adapter
of_adapter (entries.WireOut adapter bytes) = Some adapter
of_adapter (entries.ResetBegin adapter) = Some adapter
of_adapter (entries.ResetEnd adapter status) = Some adapter
of_adapter (entries.Stop adapter cause) = Some adapter
of_adapter _ = None

abbrev pub of_context : Entry → Option CtxNo
of_context (entries.Enter adapter context handler words writes) = Some context
of_context (entries.Leave context eax) = Some context
of_context (entries.Turn context count) = Some context
of_context (entries.Call context import words) = Some context
of_context (entries.Reply context eax writes) = Some context
of_context (entries.Spin context lock) = Some context
of_context (entries.Fault context kind address) = Some context
of_context _ = None
