use Rattle.std.proofs.Common.{◌≡◌, true, IfOk, sym, ap, subst, ◌∙◌}
use Rattle.log_fields.specs.declared.field_values.Handler.TheVariants as handler
use Rattle.legal_run.specs.Owed.{is_owed}
use Rattle.handler_words.specs.Ready.{IsReadyOr}
use Rattle.handler_words.proofs.Dues.{query_ready, set_ready}
use Rattle.handler_words.proofs.owed.entering_owed.Goals as goal

pub returns-in-Query : goal.returns-in-Query
returns-in-Query g c =
    let owed : is_owed g.o.inputs g.o.state c.args.a.0 handler.Query ≡ true =
    sym (ap (is_owed g.o.inputs g.o.state c.args.a.0) c.in-Query.is) ∙ c.requires.1.1.1.1.1.1.1 in
    subst (λ k. IfOk c.entering_request.result (IsReadyOr g.o c.args.a c.args.x k)) (sym c.in-Query.is)
    (query_ready g.o c.args.a c.args.x c.entering_request.result owed c.entering_request.ensures)

pub returns-in-Set : goal.returns-in-Set
returns-in-Set g c =
    let owed : is_owed g.o.inputs g.o.state c.args.a.0 handler.Set ≡ true =
    sym (ap (is_owed g.o.inputs g.o.state c.args.a.0) c.in-Set.is) ∙ c.requires.1.1.1.1.1.1.1 in
    subst (λ k. IfOk c.entering_request-in-Set.result (IsReadyOr g.o c.args.a c.args.x k)) (sym c.in-Set.is)
    (set_ready g.o c.args.a c.args.x c.entering_request-in-Set.result owed c.entering_request-in-Set.ensures)
