use Rattle.std.proofs.Common.{◌+◌, ◌*◌, ◌/◌, slice_index_or, [], ◌∷◌, refl, sym, ap, ◌∙◌, arith}
use Rattle.std.specs.FinMap as map
use Rattle.inf_text.specs.Names as names
use Rattle.import_answers.specs.Outcomes.{half_at}
use Rattle.calls_setup.proofs.NameLemmas.{same_all, same_not, same_length_not}
use Rattle.calls_setup.proofs.Readable.{part_at, half_wrapped}
use Rattle.calls_setup.proofs.keywords.is_named.Goals as goal

pub returns-then-from-name : goal.returns-then-from-name
returns-then-from-name c =
    sym (same_length_not (λ k. half_at (map.get c.args.memory.now) (c.args.keyword.characters + 2 * k)) (c.args.keyword.length / 2) c.args.name.now (λ e. c.if-from-name.true (omega (arith, e, c.requires.even))))

pub half_at-requires : goal.half_at-requires
half_at-requires c = part_at c.fault_laws.ensures (map.get c.args.memory.now) c.args.keyword.characters c.args.keyword.length (2 * c.loop-k.k) 2 _ c.requires.readable (omega arith) refl

pub returns-then-not-is_same : goal.returns-then-not-is_same
returns-then-not-is_same c =
    let there = map.get c.args.memory.now in
    let first = c.args.keyword.characters in
    let k = c.loop-k.k in
    let name = c.args.name.now in
    let unit = c.half_at.ensures ∙ half_wrapped c.read_laws.ensures there (first + 2 * k) _ refl in
    let off = ap (λ x. names.is_same (x ∷ []) (slice_index_or name k 0 ∷ [])) (sym unit) ∙ sym c.is_same.ensures ∙ c.if-not-is_same.true in
    sym (same_not (λ j. half_at there (first + 2 * j)) (c.args.keyword.length / 2) name k (omega arith) (omega arith) off)

pub returns : goal.returns
returns c =
    sym (same_all (λ k. half_at (map.get c.args.memory.now) (c.args.keyword.characters + 2 * k)) (c.args.keyword.length / 2) c.args.name.now (omega arith) (λ j lt. c.loop-k.invariant j (omega arith)))
