use Rattle.std.proofs.Common.{Bor, arith}
use Rattle.inf_text.specs.declared.line.Line.{Line}
use Rattle.inf_file.specs.Keyed.{string_in}
use Rattle.inf_file.proofs.ParamLaws.{places_more}
use Rattle.inf_file.proofs.reading.reg_places.Goals as goal

pub loop-directive-preserved : goal.loop-directive-preserved
loop-directive-preserved c =
    places_more (λ (l : Bor Line). l.now) (string_in c.args.source.now.strings.now) c.args.source.now.inf.now c.args.directives.now c.loop-directive.directive-index c.directive-item.result c.values.result.now c.loop-directive.places.items c.add_places.new.places.items
    (omega arith) c.directive-item.is c.values.ensures c.in_ok-add_places.ensures c.loop-directive.invariant
