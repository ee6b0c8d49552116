use Rattle.std.proofs.Common.{◌≡◌, ℕ, suc, ◌+◌, ◌≤◌, List, [], ◌∷◌, ◌++◌, length, refl, sym, ap, subst, ◌∙◌, append_assoc, length-append, arith, rules}
use Rattle.call_log.specs.declared.entry.Entry.{Entry}
use Rattle.call_log.specs.Lines.{text_of, log_text}
use Rattle.call_log.specs.Logs.{Fits, AllFit}
use Rattle.call_log.proofs.Laws.{fit_more}
use Rattle.call_log.proofs.Ranges.{fits_in_range}
use Rattle.call_log.proofs.log.read_lines.Goals as goal

log_more : (es : List Entry) (e : Entry) (rest : List ℕ) → log_text (es ++ e ∷ []) ++ rest ≡ log_text es ++ (text_of e ++ 10 ∷ rest)
log_more [] e rest = append_assoc (text_of e) (10 ∷ []) rest
log_more (x ∷ es) e rest =
    append_assoc (text_of x) (10 ∷ log_text (es ++ e ∷ [])) rest
    ∙ ap (λ (bs : List ℕ). text_of x ++ 10 ∷ bs) (log_more es e rest)
    ∙ sym (append_assoc (text_of x) (10 ∷ log_text es) (text_of e ++ 10 ∷ rest))

pub loop-rest-preserved : goal.loop-rest-preserved
loop-rest-preserved c =
    let h : c.loop-rest.rest.now ≡ text_of c.in-Ok.entry ++ 10 ∷ c.in-Ok.after.now = search rules in
    let q : c.push.new.self.entries ≡ c.loop-rest.log.entries ++ c.in-Ok.entry ∷ [] = search rules in
    let long : length c.push.new.self.entries ≡ length c.loop-rest.log.entries + 1 = ap length q ∙ length-append c.loop-rest.log.entries (c.in-Ok.entry ∷ []) in
    let left : length c.loop-rest.rest.now ≡ length (text_of c.in-Ok.entry) + suc (length c.in-Ok.after.now) = ap length h ∙ length-append (text_of c.in-Ok.entry) (10 ∷ c.in-Ok.after.now) in
    let f : Fits c.in-Ok.entry = search rules in
    let low : length c.loop-rest.log.entries + length c.loop-rest.rest.now ≤ length c.args.bytes.now = c.loop-rest.invariant.2 in (
      ap (λ (es : List Entry). log_text es ++ c.in-Ok.after.now) q ∙ log_more c.loop-rest.log.entries c.in-Ok.entry c.in-Ok.after.now ∙ ap (λ (bs : List ℕ). log_text c.loop-rest.log.entries ++ bs) (sym h) ∙ c.loop-rest.invariant.0,
      search rules,
      omega arith,
      subst AllFit (sym q) (fit_more c.loop-rest.log.entries c.in-Ok.entry c.loop-rest.invariant.3 f),
    )

pub push-requires : goal.push-requires
push-requires c = fits_in_range c.in-Ok.entry (search rules)
