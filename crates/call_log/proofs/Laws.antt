-- The text of a log tells the log.
use Rattle.std.proofs.Common.{◌≡◌, ℕ, suc, ◌<◌, ◌^◌, ◌+◌, List, [], ◌∷◌, ◌++◌, length, drop, Ok, Err, Result, refl, sym, ap, ◌∙◌, subst, append_assoc, append-nil, length-append, arith}
use Rattle.call_log.specs.declared.entry.Entry.{Entry}
use Rattle.call_log.specs.declared.refusal.LogRefusal.{LogRefusal}
use Rattle.call_log.specs.declared.refusal.LogRefusal.TheVariants as refusals
use Rattle.call_log.specs.Lines.{Line, line, line_of, text_of, log_text}
use Rattle.call_log.specs.Logs.{State, Fits, AllFit, LogGives, IsFirstBad, GivesLog, ReadsBack, OneEntryALine}
use Rattle.call_log.proofs.Whole.{one_text, one_line, same_line}
use Rattle.call_log.proofs.Inverse.{one_view}

pub one_entry : OneEntryALine
one_entry e f p q h = one_view e f (one_line (line_of e) (line_of f) p q h)

pub fit_more : (es : List Entry) (e : Entry) → AllFit es → Fits e → AllFit (es ++ e ∷ [])
fit_more [] e h f = (f, tt)
fit_more (x ∷ es) e h f = (h.0, fit_more es e h.1 f)

-- entries whose text begins the text of others begin these
pub record IsSplit (before es : List Entry) (rest : List ℕ) : Type 0 where
  pub tail : List Entry
  pub whole : es ≡ before ++ tail
  pub left : rest ≡ log_text tail
  pub fits : AllFit tail

some_text : (x : Entry) (bs : List ℕ) → text_of x ++ 10 ∷ bs ≡ [] → ⊥
some_text x bs h = let n : length (text_of x ++ 10 ∷ bs) ≡ 0 = ap length h in omega (arith, length-append (text_of x) (10 ∷ bs))

split : (before es : List Entry) (rest : List ℕ) → AllFit before → AllFit es → log_text before ++ rest ≡ log_text es → IsSplit before es rest
split [] es rest p q h = record { tail = es; whole = refl; left = h; fits = q }
split (x ∷ before) [] rest p q h = absurd (some_text x (log_text before ++ rest) (sym (append_assoc (text_of x) (10 ∷ log_text before) rest) ∙ h))
split (x ∷ before) (y ∷ es) rest p q h =
    let e : text_of x ++ 10 ∷ (log_text before ++ rest) ≡ text_of y ++ 10 ∷ log_text es = sym (append_assoc (text_of x) (10 ∷ log_text before) rest) ∙ h in
    let same = same_line (line_of x) (line_of y) (10 ∷ (log_text before ++ rest)) (10 ∷ log_text es) (one_text (line_of x) (line_of y) (log_text before ++ rest) (log_text es) p.0 q.0 e) in
    let i = split before es rest p.1 q.1 (ap (drop 1) same.1) in
    record {
      tail = i.tail;
      whole = ap (λ (z : Entry). z ∷ es) (sym (one_view x y same.0)) ∙ ap (λ (zs : List Entry). x ∷ zs) i.whole;
      left = i.left;
      fits = i.fits;
    }

no_text : (tail : List Entry) → [] ≡ log_text tail → tail ≡ []
no_text [] h = refl
no_text (x ∷ tail) h = absurd (some_text x (log_text tail) (sym h))

never : (rest : List ℕ) (tail : List Entry) → 0 < length rest → ((y : Line) (more : List ℕ) → line.fits y → rest ≡ line.text y ++ 10 ∷ more → ⊥) → AllFit tail → rest ≡ log_text tail → ⊥
never rest [] some bad f h = let n : length rest ≡ 0 = ap length h in omega arith
never rest (y ∷ tail) some bad f h = bad (line_of y) (log_text tail) f.0 h

pub reads_back : (bytes : List ℕ) (r : Result State LogRefusal) → LogGives bytes r → ReadsBack bytes r
reads_back bytes (Ok log) h es f e =
    let i = split log.entries es [] h.2 f (append-nil (log_text log.entries) ∙ h.0 ∙ e) in
    sym (i.whole ∙ ap (λ (zs : List Entry). log.entries ++ zs) (no_text i.tail i.left) ∙ append-nil log.entries)
reads_back bytes (Err refusals.Memory) h es f e = tt
reads_back bytes (Err refusals.TooLong) h es f e = subst (λ (bs : List ℕ). 2 ^ 30 < length bs) e h
reads_back bytes (Err (refusals.Line n)) h es f e =
    let i = split h.before es h.rest h.fits f (sym h.parts ∙ e) in
    never h.rest i.tail h.some h.bad i.fits i.left
