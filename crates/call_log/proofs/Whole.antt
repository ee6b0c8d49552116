-- Every line is read exactly.
use Rattle.std.proofs.Common.{◌≡◌, ℕ, true, List, [], ◌∷◌, ◌++◌, Some, None, refl, sym, ap, ◌∙◌, subst}
use Rattle.std.proofs.lemmas.Option.{none-some}
use Rattle.log_fields.specs.Codes.{Read, is_field_end, past, named}
use Rattle.log_fields.specs.Exact.{Tells, Exact}
use Rattle.log_fields.specs.ExactLaws.{IsPast, past_is, past_tells, behind_exact, pair_exact, chosen_exact, named_exact}
use Rattle.log_fields.specs.FieldLaws.{is_name, inside_from, small_field, medium_field, large_field, flag_field, width_field, word_field, octet_field, bytes_field, words_exact, holders_exact, adapter_exact, writes_exact, import_exact, handler_exact, fault_exact, direction_exact, question_exact, cause_exact, what_exact}
use Rattle.call_log.specs.Kinds.{kind_name, kinds_all}
use Rattle.call_log.specs.Lines.{shape, Fields, fields, Line, line}
use Rattle.call_log.specs.declared.kinds.Kind.{Kind}
use Rattle.call_log.specs.declared.kinds.Kind.TheVariants as kinds

pub kind_test : (k : Kind) → is_name (kind_name k) ≡ true
unfolding kind_name
kind_test kinds.Bind = refl
kind_test kinds.Unbind = refl
kind_test kinds.Quiet = refl
kind_test kinds.Done = refl
kind_test kinds.Send = refl
kind_test kinds.Hand = refl
kind_test kinds.Requeue = refl
kind_test kinds.Late = refl
kind_test kinds.Complete = refl
kind_test kinds.Indicate = refl
kind_test kinds.Return = refl
kind_test kinds.Back = refl
kind_test kinds.Ask = refl
kind_test kinds.HandAsk = refl
kind_test kinds.Answer = refl
kind_test kinds.Enter = refl
kind_test kinds.Leave = refl
kind_test kinds.Turn = refl
kind_test kinds.Call = refl
kind_test kinds.Reply = refl
kind_test kinds.Spin = refl
kind_test kinds.Port = refl
kind_test kinds.WireIn = refl
kind_test kinds.WireOut = refl
kind_test kinds.Time = refl
kind_test kinds.ResetBegin = refl
kind_test kinds.ResetEnd = refl
kind_test kinds.Fault = refl
kind_test kinds.Stop = refl
kind_test kinds.Await = refl
kind_test kinds.Tag = refl
kind_test kinds.Cancel = refl
kind_test kinds.Event = refl

-- ---- lines

shape_exact : (k : Kind) → Exact is_field_end (shape k).code
shape_exact kinds.Bind = pair_exact is_field_end _ _ refl small_field small_field
shape_exact kinds.Unbind = small_field
shape_exact kinds.Quiet = small_field
shape_exact kinds.Done = small_field
shape_exact kinds.Send = pair_exact is_field_end _ _ refl small_field (pair_exact is_field_end _ _ refl large_field bytes_field)
shape_exact kinds.Hand = large_field
shape_exact kinds.Requeue = large_field
shape_exact kinds.Late = large_field
shape_exact kinds.Complete = pair_exact is_field_end _ _ refl large_field word_field
shape_exact kinds.Indicate = pair_exact is_field_end _ _ refl small_field (pair_exact is_field_end _ _ refl large_field (pair_exact is_field_end _ _ refl bytes_field (pair_exact is_field_end _ _ refl holders_exact flag_field)))
shape_exact kinds.Return = pair_exact is_field_end _ _ refl small_field large_field
shape_exact kinds.Back = pair_exact is_field_end _ _ refl large_field flag_field
shape_exact kinds.Ask = pair_exact is_field_end _ _ refl small_field (pair_exact is_field_end _ _ refl large_field question_exact)
shape_exact kinds.HandAsk = large_field
shape_exact kinds.Answer = pair_exact is_field_end _ _ refl large_field (pair_exact is_field_end _ _ refl word_field bytes_field)
shape_exact kinds.Enter = pair_exact is_field_end _ _ refl adapter_exact (pair_exact is_field_end _ _ refl small_field (pair_exact is_field_end _ _ refl handler_exact (pair_exact is_field_end _ _ refl words_exact writes_exact)))
shape_exact kinds.Leave = pair_exact is_field_end _ _ refl small_field word_field
shape_exact kinds.Turn = pair_exact is_field_end _ _ refl small_field large_field
shape_exact kinds.Call = pair_exact is_field_end _ _ refl small_field (pair_exact is_field_end _ _ refl import_exact words_exact)
shape_exact kinds.Reply = pair_exact is_field_end _ _ refl small_field (pair_exact is_field_end _ _ refl word_field writes_exact)
shape_exact kinds.Spin = pair_exact is_field_end _ _ refl small_field word_field
shape_exact kinds.Port = pair_exact is_field_end _ _ refl small_field (pair_exact is_field_end _ _ refl direction_exact (pair_exact is_field_end _ _ refl width_field (pair_exact is_field_end _ _ refl octet_field bytes_field)))
shape_exact kinds.WireIn = large_field
shape_exact kinds.WireOut = pair_exact is_field_end _ _ refl small_field bytes_field
shape_exact kinds.Time = large_field
shape_exact kinds.ResetBegin = small_field
shape_exact kinds.ResetEnd = pair_exact is_field_end _ _ refl small_field word_field
shape_exact kinds.Fault = pair_exact is_field_end _ _ refl small_field (pair_exact is_field_end _ _ refl fault_exact word_field)
shape_exact kinds.Stop = pair_exact is_field_end _ _ refl small_field cause_exact
shape_exact kinds.Await = pair_exact is_field_end _ _ refl small_field what_exact
shape_exact kinds.Tag = pair_exact is_field_end _ _ refl large_field medium_field
shape_exact kinds.Cancel = pair_exact is_field_end _ _ refl small_field medium_field
shape_exact kinds.Event = pair_exact is_field_end _ _ refl small_field (pair_exact is_field_end _ _ refl medium_field (pair_exact is_field_end _ _ refl bytes_field flag_field))

pub line_exact : Exact is_field_end line
unfolding line
line_exact = chosen_exact is_field_end (named kind_name kinds_all) Fields fields (named_exact kind_name kinds_all (λ k. inside_from _ (kind_test k))) (λ k y rest h. refl) (λ k. behind_exact is_field_end 32 (shape k).code (shape_exact k))

-- two lines of one text are one, whatever follows them
pub one_text : (x y : Line) (s t : List ℕ) → line.fits x → line.fits y → line.text x ++ 10 ∷ s ≡ line.text y ++ 10 ∷ t → ◌≡◌ {A = Read Line} (Some (x, 10 ∷ s)) (Some (y, 10 ∷ t))
one_text x y s t p q e = sym (line_exact.whole x (10 ∷ s) p refl) ∙ ap line.read e ∙ line_exact.whole y (10 ∷ t) q refl

pub value_of : Line → Read Line → Line
value_of d (Some x) = x.0
value_of d None = d

pub one_line : (x y : Line) → line.fits x → line.fits y → line.text x ≡ line.text y → x ≡ y
unfolding value_of
one_line x y p q e = ap (value_of x) (one_text x y [] [] p q (ap (λ (bs : List ℕ). bs ++ 10 ∷ []) e))

-- what was read, with LF behind it
pub line_told : (bytes next after : List ℕ) (x : Line) → line.read bytes ≡ Some (x, next) → past 10 next ≡ Some after → line.fits x × (bytes ≡ line.text x ++ 10 ∷ after)
line_told bytes next after x h p =
    let t : Tells line bytes (Some (x, next)) = subst (Tells line bytes) h (line_exact.tells bytes) in
    let q : IsPast 10 next (Some after) = subst (IsPast 10 next) p (past_tells 10 next) in
    (t.fits, t.parts ∙ ap (λ (bs : List ℕ). line.text x ++ bs) q)

pub not_begun : (bytes : List ℕ) → line.read bytes ≡ None → (y : Line) (tail : List ℕ) → line.fits y → bytes ≡ line.text y ++ 10 ∷ tail → ⊥
not_begun bytes h y tail f e = none-some (y, 10 ∷ tail) (sym h ∙ ap line.read e ∙ line_exact.whole y (10 ∷ tail) f refl)

pub rest_of : Read Line → List ℕ
rest_of (Some x) = x.1
rest_of None = []

pub not_ended : (bytes next : List ℕ) (x : Line) → line.read bytes ≡ Some (x, next) → past 10 next ≡ None → (y : Line) (tail : List ℕ) → line.fits y → bytes ≡ line.text y ++ 10 ∷ tail → ⊥
unfolding rest_of
not_ended bytes next x h p y tail f e =
    let same : ◌≡◌ {A = Read Line} (Some (x, next)) (Some (y, 10 ∷ tail)) = sym h ∙ ap line.read e ∙ line_exact.whole y (10 ∷ tail) f refl in
    let q : next ≡ 10 ∷ tail = ap rest_of same in
    none-some tail (sym p ∙ ap (past 10) q ∙ past_is 10 tail)

pub same_line : (x y : Line) (s t : List ℕ) → ◌≡◌ {A = Read Line} (Some (x, s)) (Some (y, t)) → (x ≡ y) × (s ≡ t)
unfolding value_of rest_of
same_line x y s t h = (ap (value_of x) h, ap rest_of h)
