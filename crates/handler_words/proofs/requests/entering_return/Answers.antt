use Rattle.std.proofs.Common.{◌≡◌, ◌≤◌, ◌∷◌, [], length, refl, sym, ap, subst, ◌∙◌, rules}
use Rattle.legal_run.specs.Enters.{context_word}
use Rattle.handler_words.proofs.Carried.{carried_return}
use Rattle.handler_words.proofs.requests.entering_return.Goals as goal

pub returns : goal.returns
returns g c =
    let s = g.o.state in
    let n = c.args.a.0 in
    let descriptor = c.args.descriptor in
    let words = c.in_ok-words.words in
    let is_words : words ≡ context_word s n ∷ descriptor ∷ [] = c.in_ok-words.ensures ∙ ap (λ w. w ∷ descriptor ∷ []) c.context_word.ensures in
    record {
      adapter = refl;
      handler = refl;
      carried = carried_return g.o.inputs s n c.args.x.0 descriptor words c.new.result c.requires.1.0 c.requires.1.1.0 c.requires.1.1.1 is_words (search rules);
      few = subst (λ ws. length ws ≤ 16) (sym is_words) (search rules);
      about = search rules;
    }
