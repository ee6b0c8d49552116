-- What an entering is about where it has no adapter.
use Rattle.std.proofs.Common.{◌≡◌, ℕ, true, List, Option, Some, None, sym, ap, ◌∙◌}
use Rattle.log_fields.specs.declared.field_values.Handler.{Handler}
use Rattle.nd_base.specs.declared.numbers.AdapterNo.{AdapterNo}
use Rattle.legal_run.specs.Owed.{sync_caller}
use Rattle.legal_run.specs.After.{in_list, number_in, subject_of}
use Rattle.miniport_state.specs.Seen.{Point}
use Rattle.handler_words.specs.Given.{caller_of, is_plain}
use Rattle.handler_words.specs.Ready.{MayBeOf, number_of}
use Rattle.handler_words.proofs.Carried.{about_is}

-- DriverEntry, which has no adapter, is about nothing
pub about_of : (o : Point) (a : Option AdapterNo) (h : Handler) (words : List ℕ) (caller : Option ℕ) → MayBeOf a h → is_plain h ≡ true
    → caller ≡ sync_caller o.state (number_of a) → in_list (caller_of h caller) ≡ subject_of o.state (number_in o.inputs a) h words
about_of o None h words caller is e called =
    ap (λ k. in_list (caller_of k caller)) is ∙ sym (ap (λ k. subject_of o.state (number_in o.inputs None) k words) is)
about_of o (Some a) h words caller inside e called = about_is o.state a.0 h words caller e called
