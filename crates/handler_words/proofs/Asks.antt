-- The request that is to be handed, as the book tells it.
use Rattle.std.proofs.Common.{◌≡◌, ◌==◌, ℕ, Bool, true, false, Some, None, refl, sym, ap, ◌∙◌}
use Rattle.std.specs.Prelude.{count_by, if◌then◌else◌, slice_get}
use Rattle.nd_base.specs.declared.numbers.AdapterNo.{AdapterNo}
use Rattle.nd_base.specs.declared.numbers.BindingNo.{BindingNo}
use Rattle.log_fields.specs.declared.field_values.Question.{Question}
use Rattle.log_fields.specs.declared.field_values.Question.TheVariants as question
use Rattle.owner_machine.specs.declared.rows.Request.{Request}
use Rattle.owner_machine.specs.declared.rows.RequestPlace.{RequestPlace}
use Rattle.owner_machine.specs.Requests.{first_asked, handed_of}
use Rattle.legal_run.specs.State.{State}
use Rattle.legal_run.specs.Owed.{request_at, to_hand}
use Rattle.legal_run.specs.Enters.{buffer_length, set_bytes}
use Rattle.handler_words.specs.declared.requests.Asked.{Asked}
use Rattle.handler_words.specs.Asked.{IsAsked, asked_as, length_by, next_number}

told_at : (s : State) (a : ℕ) → request_at s (next_number s.owner a) ≡ to_hand s a
told_at s a = by_test (count_by (handed_of a) s.owner.requests == 0)
  where
    by_test : (t : Bool) → request_at s (if t then first_asked s.owner a else None) ≡ (if t then request_at s (first_asked s.owner a) else None)
    by_test true = refl
    by_test false = refl

pub none_asked : (s : State) (a : ℕ) → next_number s.owner a ≡ None → to_hand s a ≡ None
none_asked s a is = sym (told_at s a) ∙ ap (request_at s) is

pub none_there : (s : State) (a n : ℕ) → next_number s.owner a ≡ Some n → slice_get s.owner.requests n ≡ None → to_hand s a ≡ None
none_there s a n is none = sym (told_at s a) ∙ ap (request_at s) is ∙ none

first_is : (s : State) (a n : ℕ) → next_number s.owner a ≡ Some n → first_asked s.owner a ≡ Some n
first_is s a n is = by_test (count_by (handed_of a) s.owner.requests == 0) is
  where
    by_test : (t : Bool) → (if t then first_asked s.owner a else None) ≡ Some n → first_asked s.owner a ≡ Some n
    by_test true is = is
    by_test false is = absurd (cc)

pub one_asked : (s : State) (a n : ℕ) (r : Request) (asked : Asked) → next_number s.owner a ≡ Some n → slice_get s.owner.requests n ≡ Some r
    → asked ≡ asked_as s a n r → IsAsked s a asked
one_asked s a n r asked is there told =
    let same : asked.number ≡ n = ap (λ (k : Asked). k.number) told in
    record {
      request = r;
      handed = sym (told_at s a) ∙ ap (request_at s) is ∙ there;
      first = first_is s a n is ∙ ap Some (sym same);
      told = told ∙ ap (λ m. asked_as s a m r) (sym same);
    }

pub length_told : (s : State) (a : ℕ) (r : Request) → length_by r.question (set_bytes s a r.driver.0 r.question) ≡ buffer_length s a r
length_told s a r = by_question r.driver r.adapter r.question r.place r.hand
  where
    by_question : (b : BindingNo) (n : AdapterNo) (q : Question) (place : RequestPlace) (hand : ℕ)
        → length_by q (set_bytes s a b.0 q) ≡ buffer_length s a (record { driver = b; adapter = n; question = q; place = place; hand = hand })
    by_question b n (question.Query oid m) place hand = refl
    by_question b n (question.Set oid bytes) place hand = refl
