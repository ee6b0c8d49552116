use Rattle.std.proofs.Common.{◌≡◌, ℕ, ◌+◌, ◌%◌, ◌∙◌, refl, arith}
use Rattle.import_answers.specs.World.{cells}
use Rattle.import_answers.specs.Outcomes.{can_read, word_of}
use Rattle.import_answers.specs.Configuration.{Counted}
use Rattle.calls_setup.proofs.Readable.{part_at, word_wrapped, found_word}
use Rattle.calls_setup.proofs.keywords.Counted.at.Goals as goal

same_counted : (l m c d : ℕ) → l ≡ m → c ≡ d → ◌≡◌ {A = Counted} (record { length = l; characters = c }) (record { length = m; characters = d })
same_counted l m c d e f = cc

pub returns : goal.returns
returns c =
    let w = c.args.world.now in
    let a = c.args.at in
    let there = (a + 4) % 4294967296 in
    let found = found_word (can_read w there 4) (word_of w there) c.unwrap_or.result c.word_at.result c.word_at.ensures (part_at c.fault_laws.ensures (cells w) a 8 4 4 there c.requires (omega arith) refl) c.unwrap_or.ensures in
    same_counted _ _ _ _ c.half_at.ensures (found ∙ word_wrapped c.read_laws.ensures (cells w) (a + 4) there refl)
