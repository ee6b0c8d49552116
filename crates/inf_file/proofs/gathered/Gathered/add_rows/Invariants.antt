use Rattle.std.proofs.Common.{◌≡◌, ◌++◌, None, map, take}
use Rattle.std.specs.List.{fold, filter_map}
use Rattle.std.specs.Option.{option_copied}
use Rattle.inf_file.specs.Keyed.{string_in}
use Rattle.inf_file.specs.Earliest.{earlier_if}
use Rattle.inf_file.specs.Rows.{setting, given_default, is_bad}
use Rattle.inf_file.proofs.gathered.Gathered.add_rows.Given as goal

abbrev pub invariant-loop-row : goal.invariant-loop-row
invariant-loop-row l = record {
  sets : l.self.set ≡ fold (setting (string_in l.source.strings.now)) l.initial.self.set (map (λ x. x.now) (take l.row-index l.rows));
  gives : l.self.defaults.items ≡ l.initial.self.defaults.items ++ filter_map (given_default (string_in l.source.strings.now)) (map (λ x. x.now) (take l.row-index l.rows));
  first_bad : option_copied l.bad ≡ fold (earlier_if (is_bad (string_in l.source.strings.now))) None (map (λ x. x.now) (take l.row-index l.rows));
}
