use Rattle.std.proofs.Common.{◌≡◌, ◌≤◌, ◌∷◌, [], length, refl, sym, ap, subst, ◌∙◌, rules}
use Rattle.guest_map.specs.Regions.{request_bytes, request_count, request_needed}
use Rattle.handler_words.proofs.Carried.{about_asked, carried_asked, words_for}
use Rattle.handler_words.proofs.requests.entering_asked.Goals as goal

pub returns : goal.returns
returns g c =
    let s = g.o.state in
    let n = c.args.a.0 in
    let asked = c.args.asked.now in
    let is = c.requires.1.1.1.1 in
    let words = c.in_ok-words.words in
    let writes = c.in_ok-writes.writes in
    let is_words : words ≡ words_for s n asked =
    c.in_ok-words.ensures
    ∙ ap (λ w. w ∷ asked.oid ∷ (request_bytes n).first.0 ∷ asked.length ∷ (request_count n).first.0 ∷ (request_needed n).first.0 ∷ []) c.context_word.ensures in
    record {
      adapter = refl;
      handler = c.asking_handler.ensures;
      carried = carried_asked g.o.inputs s n c.args.x.0 asked words writes is c.requires.1.1.0 c.requires.1.1.1.0 is_words (search rules);
      few = subst (λ ws. length ws ≤ 16) (sym is_words) (search rules);
      about = c.in_ok-subject.ensures ∙ about_asked s n asked.is_set words asked.number is.first;
    }
