-- What is carried by the `enter` of a handler.
use Rattle.std.proofs.Common.{◌≡◌, ◌≤◌, ℕ, Bool, true, false, ◌==◌, ◌&&◌, not, List, [], ◌∷◌, length, Option, Some, None, rules, refl, sym, ap, subst, ◌∙◌}
use Rattle.std.specs.Prelude.{is_some}
use Rattle.std.specs.Str.{bytes_eq}
use Rattle.std.proofs.lemmas.Bool.{false≢true}
use Rattle.std.proofs.lemmas.Slice.Eq.{bytes_eq-Decides}
use Rattle.guest_map.specs.Regions.{request_bytes, request_count, request_needed}
use Rattle.log_fields.specs.declared.write.Write.{Write}
use Rattle.log_fields.specs.declared.field_values.Handler.{Handler}
use Rattle.log_fields.specs.declared.field_values.Handler.TheVariants as handler
use Rattle.log_fields.specs.declared.field_values.Question.{Question}
use Rattle.log_fields.specs.declared.field_values.Question.TheVariants as question
use Rattle.owner_machine.specs.declared.rows.Request.{Request}
use Rattle.owner_machine.specs.declared.waiting.Event.{Event}
use Rattle.owner_machine.specs.Requests.{first_asked, is_set}
use Rattle.legal_run.specs.State.{Inputs, State, is_free}
use Rattle.legal_run.specs.Owed.{frame_due, hands_set, sync_caller, to_hand}
use Rattle.legal_run.specs.Enters.{carries, context_word, has_subject, handed_bytes, handed_to, loan_named, named_in, may_lie, put_some, request_words, same_writes, set_bytes, words_of, writes_of, zero_at}
use Rattle.legal_run.specs.Enters.{event_of, event_words}
use Rattle.legal_run.specs.After.{in_list, subject_of}
use Rattle.handler_words.specs.declared.requests.Asked.{Asked}
use Rattle.handler_words.specs.Asked.{IsAsked, asked_as, asking_handler}
use Rattle.handler_words.specs.Given.{caller_of, is_plain}

eqb_same : (a : ℕ) → (a == a) ≡ true
eqb_same a = search rules

bytes_same : (xs : List ℕ) → bytes_eq xs xs ≡ true
bytes_same xs = search (rules, bytes_eq-Decides)

writes_same : (ws : List Write) → same_writes ws ws ≡ true
writes_same [] = refl
writes_same (w ∷ ws) = let rest = writes_same ws in let bytes : bytes_eq w.bytes w.bytes ≡ true = bytes_same w.bytes in search (rules, eqb_same)

both : {a b : Bool} → a ≡ true → b ≡ true → (a && b) ≡ true
both e f = search rules

subject_and : (subject lie rest : Bool) → (subject && lie) ≡ true → rest ≡ true → (subject && (lie && rest)) ≡ true
subject_and true lie rest e f = both e f
subject_and false lie rest e f = e

-- with its words and its writes, and what it was entered for
pub carried_with : (c : Inputs) (s : State) (a x : ℕ) (h : Handler) (words : List ℕ) (writes : List Write) → is_free s x ≡ true → frame_due c s ≡ false
    → (has_subject s a h words && may_lie s (handed_to s a h words) (named_in h words writes)) ≡ true
    → words ≡ words_of s a x h words → writes ≡ writes_of s a x h words writes → carries c s a x h words writes ≡ true
carried_with c s a x h words writes free due subject is_words is_writes =
    let same = both (sym (ap (bytes_eq words) is_words) ∙ bytes_same words) (sym (ap (same_writes writes) is_writes) ∙ writes_same writes) in
    both free (both (ap not due) (subject_and (has_subject s a h words) (may_lie s (handed_to s a h words) (named_in h words writes))
    (bytes_eq words (words_of s a x h words) && same_writes writes (writes_of s a x h words writes)) subject same))

-- ---- what is not entered for a packet, a loan or a request

plain : (s : State) (a : ℕ) (h : Handler) (words : List ℕ) (writes : List Write) → is_plain h ≡ true
    → (has_subject s a h words && may_lie s (handed_to s a h words) (named_in h words writes)) ≡ true
unfolding may_lie
plain s a handler.Send words writes e = absurd (false≢true e)
plain s a handler.SendPackets words writes e = absurd (false≢true e)
plain s a handler.ReturnPacket words writes e = absurd (false≢true e)
plain s a handler.Query words writes e = absurd (false≢true e)
plain s a handler.Set words writes e = absurd (false≢true e)
plain s a _ words writes e = refl

pub about_is : (s : State) (a : ℕ) (h : Handler) (words : List ℕ) (caller : Option ℕ) → is_plain h ≡ true → caller ≡ sync_caller s a
    → in_list (caller_of h caller) ≡ subject_of s a h words
about_is s a handler.Send words caller e is = absurd (false≢true e)
about_is s a handler.SendPackets words caller e is = absurd (false≢true e)
about_is s a handler.ReturnPacket words caller e is = absurd (false≢true e)
about_is s a handler.Query words caller e is = absurd (false≢true e)
about_is s a handler.Set words caller e is = absurd (false≢true e)
about_is s a handler.Sync words caller e is = ap in_list is
about_is s a _ words caller e is = refl

pub carried : (c : Inputs) (s : State) (a x : ℕ) (h : Handler) (words : List ℕ) (writes : List Write) → is_free s x ≡ true → frame_due c s ≡ false
    → is_plain h ≡ true → words ≡ words_of s a x h words → writes ≡ writes_of s a x h words writes → carries c s a x h words writes ≡ true
carried c s a x h words writes free due is_plain = carried_with c s a x h words writes free due (plain s a h words writes is_plain)

few_told : (s : State) (a x : ℕ) (e : Option Event) → length (event_words s a x e) ≤ 16
few_told s a x None = search rules
few_told s a x (Some e) = search rules

few_words : (s : State) (a x : ℕ) (h : Handler) (words : List ℕ) → is_plain h ≡ true → length (words_of s a x h words) ≤ 16
few_words s a x handler.Send words e = absurd (false≢true e)
few_words s a x handler.SendPackets words e = absurd (false≢true e)
few_words s a x handler.ReturnPacket words e = absurd (false≢true e)
few_words s a x handler.Query words e = absurd (false≢true e)
few_words s a x handler.Set words e = absurd (false≢true e)
few_words s a x handler.PnpEvent words e = few_told s a x (event_of s a)
few_words s a x _ words e = search rules

pub few_are : (s : State) (a x : ℕ) (h : Handler) (words : List ℕ) → is_plain h ≡ true → words ≡ words_of s a x h words → length words ≤ 16
few_are s a x h words e is = subst (λ ws. length ws ≤ 16) (sym is) (few_words s a x h words e)

-- ---- a request

nothing_handed : (s : State) (a : ℕ) (b : Bool) (words : List ℕ) (writes : List Write)
    → (has_subject s a (asking_handler b) words && may_lie s (handed_to s a (asking_handler b) words) (named_in (asking_handler b) words writes)) ≡ true
unfolding may_lie
nothing_handed s a true words writes = refl
nothing_handed s a false words writes = refl

-- its argument words, and its writes
abbrev pub words_for : State → ℕ → Asked → List ℕ
words_for s a asked = context_word s a ∷ asked.oid ∷ (request_bytes a).first.0 ∷ asked.length ∷ (request_count a).first.0 ∷ (request_needed a).first.0 ∷ []

abbrev pub writes_for : ℕ → Asked → List Write
writes_for a asked = zero_at (request_count a).first.0 ∷ zero_at (request_needed a).first.0 ∷ put_some (request_bytes a).first.0 asked.bytes

words_by : (s : State) (a x : ℕ) (b : Bool) (words : List ℕ) → words_of s a x (asking_handler b) words ≡ request_words s a (to_hand s a)
words_by s a x true words = refl
words_by s a x false words = refl

words_asked : (s : State) (a x n : ℕ) (r : Request) (b : Bool) (words : List ℕ) → to_hand s a ≡ Some r
    → words_for s a (asked_as s a n r) ≡ words_of s a x (asking_handler b) words
words_asked s a x n r b words handed = sym (ap (request_words s a) handed) ∙ sym (words_by s a x b words)

writes_asked : (s : State) (a x n : ℕ) (r : Request) (words : List ℕ) (writes : List Write) → to_hand s a ≡ Some r
    → writes_for a (asked_as s a n r) ≡ writes_of s a x (asking_handler (is_set r.question)) words writes
writes_asked s a x n r words writes handed = by_question r.question (ap (handed_bytes s a) (sym handed))
  where
    by_question : (q : Question) → set_bytes s a r.driver.0 q ≡ handed_bytes s a (to_hand s a)
        → zero_at (request_count a).first.0 ∷ zero_at (request_needed a).first.0 ∷ put_some (request_bytes a).first.0 (set_bytes s a r.driver.0 q)
        ≡ writes_of s a x (asking_handler (is_set q)) words writes
    by_question (question.Query oid m) same = refl
    by_question (question.Set oid bytes) same =
        ap (λ own. zero_at (request_count a).first.0 ∷ zero_at (request_needed a).first.0 ∷ put_some (request_bytes a).first.0 own) same

pub carried_asked : (c : Inputs) (s : State) (a x : ℕ) (asked : Asked) (words : List ℕ) (writes : List Write) → IsAsked s a asked → is_free s x ≡ true
    → frame_due c s ≡ false → words ≡ words_for s a asked → writes ≡ writes_for a asked → carries c s a x (asking_handler asked.is_set) words writes ≡ true
carried_asked c s a x asked words writes is free due is_words is_writes =
    let n = asked.number in
    let r = is.request in
    let set : asked.is_set ≡ is_set r.question = ap (λ (k : Asked). k.is_set) is.told in
    let w : words ≡ words_of s a x (asking_handler (is_set r.question)) words =
    is_words ∙ ap (words_for s a) is.told ∙ words_asked s a x n r (is_set r.question) words is.handed in
    let v : writes ≡ writes_of s a x (asking_handler (is_set r.question)) words writes =
    is_writes ∙ ap (writes_for a) is.told ∙ writes_asked s a x n r words writes is.handed in
    ap (λ b. carries c s a x (asking_handler b) words writes) set
    ∙ carried_with c s a x (asking_handler (is_set r.question)) words writes free due (nothing_handed s a (is_set r.question) words writes) w v

pub about_asked : (s : State) (a : ℕ) (b : Bool) (words : List ℕ) (n : ℕ) → first_asked s.owner a ≡ Some n → in_list (Some n) ≡ subject_of s a (asking_handler b) words
about_asked s a true words n first = ap in_list (sym first)
about_asked s a false words n first = ap in_list (sym first)

-- the handler that is owed is the request's
pub asks_it : (s : State) (a : ℕ) (b : Bool) (asked : Asked) → IsAsked s a asked → hands_set b (to_hand s a) ≡ true → asking_handler asked.is_set ≡ asking_handler b
asks_it s a b asked is owed = ap (λ (k : Asked). asking_handler k.is_set) is.told ∙ by_kind b is.request (sym (ap (hands_set b) is.handed) ∙ owed)
  where
    by_kind : (b : Bool) (r : Request) → hands_set b (Some r) ≡ true → asking_handler (is_set r.question) ≡ asking_handler b
    by_kind true r e = ap asking_handler e
    by_kind false r e = ap asking_handler (no (is_set r.question) e)
      where
        no : (t : Bool) → not t ≡ true → t ≡ false
        no true e = absurd (false≢true e)
        no false e = refl

-- ---- a loan

none_lies : (s : State) → may_lie s [] [] ≡ true
unfolding may_lie
none_lies s = refl

pub carried_return : (c : Inputs) (s : State) (a x : ℕ) (descriptor : ℕ) (words : List ℕ) (writes : List Write) → is_free s x ≡ true → frame_due c s ≡ false
    → is_some (loan_named s a (0 ∷ descriptor ∷ [])) ≡ true → words ≡ context_word s a ∷ descriptor ∷ [] → writes ≡ []
    → carries c s a x handler.ReturnPacket words writes ≡ true
carried_return c s a x descriptor words writes free due home is_words is_writes =
    let ws = context_word s a ∷ descriptor ∷ [] in
    ap (λ us. carries c s a x handler.ReturnPacket us writes) is_words ∙ ap (carries c s a x handler.ReturnPacket ws) is_writes
    ∙ carried_with c s a x handler.ReturnPacket ws [] free due (both home (none_lies s)) refl refl
