use Rattle.std.proofs.Common.{Bool, Option, sym, ap, ◌∙◌, arith}
use Rattle.std.specs.Option.{option_map, option_and_then}
use Rattle.inf_file.specs.declared.param.Param.{Param}
use Rattle.inf_text.specs.Names.{is_same}
use Rattle.import_answers.specs.Configuration.{network_address, address_in, address_of}
use Rattle.calls_setup.proofs.FindLemmas.{find_here, find_next}
use Rattle.calls_setup.proofs.station_address.network_address.Goals as goal

abbrev is_it : Param → Bool
is_it p = is_same network_address p.name

pub returns-in-Text : goal.returns-in-Text
returns-in-Text c =
    let p = c.param-item.result in
    let here = find_here is_it c.args.params.now c.loop-param.param-index p (omega arith) c.param-item.is (ap (is_same network_address) (sym c.as_slice.ensures) ∙ sym c.is_word.ensures ∙ c.if-is_word.true) c.loop-param.invariant in
    c.address_of.ensures ∙ ap address_of c.as_slice-in-Text.ensures ∙ ap address_in (sym c.in-Text.is) ∙ ap (λ (f : Option Param). option_and_then address_in (option_map (λ q. q.value) f)) (sym here)

pub returns-in-Number : goal.returns-in-Number
returns-in-Number c =
    let p = c.param-item.result in
    let here = find_here is_it c.args.params.now c.loop-param.param-index p (omega arith) c.param-item.is (ap (is_same network_address) (sym c.as_slice.ensures) ∙ sym c.is_word.ensures ∙ c.if-is_word.true) c.loop-param.invariant in
    ap address_in (sym c.in-Number.is) ∙ ap (λ (f : Option Param). option_and_then address_in (option_map (λ q. q.value) f)) (sym here)

pub loop-param-preserved : goal.loop-param-preserved
loop-param-preserved c =
    find_next is_it c.args.params.now c.loop-param.param-index c.param-item.result (omega arith) c.param-item.is (ap (is_same network_address) (sym c.as_slice.ensures) ∙ sym c.is_word.ensures ∙ c.if-is_word.false) c.loop-param.invariant
