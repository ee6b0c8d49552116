use Rattle.std.proofs.Common.{rules, tests, sym, ◌∙◌, ◌≡◌}
use Rattle.std.specs.List.{find}
use Rattle.std.proofs.lemmas.Iterator.{YieldsList-from_slice}
use Rattle.std.proofs.lemmas.Iterator.Search.{find_from_yields_List}
use Rattle.legal_run.specs.State.{all_contexts}
use Rattle.owed_handlers.specs.Kept.{is_caller}
use Rattle.owed_handlers.proofs.Found.{first_is_find}
use Rattle.owed_handlers.proofs.syncs.sync_caller.Goals as goal

pub returns : goal.returns
returns c =
    let test = is_caller c.args.adapters.now.contexts c.args.book.now.contexts c.args.a.0 in
    let e = find_from_yields_List test _ _ c.find.result c.find.ensures.ran (YieldsList-from_slice all_contexts cc) (λ x b q k. search (rules, tests)) in
    let is : c.copied.result ≡ find test all_contexts = cc in
    λ w. is ∙ sym (first_is_find test all_contexts)
