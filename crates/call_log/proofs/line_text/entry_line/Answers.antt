use Rattle.std.proofs.Common.{◌≡◌, ℕ, List, ◌∷◌, ◌++◌, Result, OnOk, sym, ap, ◌∙◌, subst}
use Rattle.std.specs.Fmt.{decimal}
use Rattle.log_fields.specs.Codes.{word_text}
use Rattle.log_fields.specs.Fields.{small, medium, large}
use Rattle.call_log.specs.Kinds.{kind_name}
use Rattle.call_log.specs.Lines.{line, line_of, text_of}
use Rattle.call_log.specs.declared.kinds.Kind.TheVariants as kinds
use Rattle.call_log.proofs.line_text.entry_line.Goals as goal

-- what was put is the text
told : {E : Type 0} (r : Result (Unit {0}) E) (new old t u : List ℕ) → t ≡ u → OnOk r (new ≡ old ++ t) → OnOk r (new ≡ old ++ u)
told r new old t u e h = subst (λ (x : List ℕ). OnOk r (new ≡ old ++ x)) e h

pub returns-in-Bind : goal.returns-in-Bind
unfolding line line_of small medium large
returns-in-Bind c = told c.two_numbers.result c.two_numbers.new.out c.args.out.now _ _ (ap (λ (n : ℕ). kind_name kinds.Bind ++ 32 ∷ (decimal n ++ 32 ∷ decimal c.from-in-Bind.result)) c.from.ensures ∙ ap (λ (n : ℕ). kind_name kinds.Bind ++ 32 ∷ (decimal c.in-Bind.driver.0 ++ 32 ∷ decimal n)) c.from-in-Bind.ensures ∙ ap text_of (sym c.in-Bind.is)) c.two_numbers.ensures

pub returns-in-Unbind : goal.returns-in-Unbind
unfolding line line_of small medium large
returns-in-Unbind c = told c.one_number.result c.one_number.new.out c.args.out.now _ _ (ap (λ (n : ℕ). kind_name kinds.Unbind ++ 32 ∷ decimal n) c.from-in-Unbind.ensures ∙ ap text_of (sym c.in-Unbind.is)) c.one_number.ensures

pub returns-in-Quiet : goal.returns-in-Quiet
unfolding line line_of small medium large
returns-in-Quiet c = told c.one_number-in-Quiet.result c.one_number-in-Quiet.new.out c.args.out.now _ _ (ap (λ (n : ℕ). kind_name kinds.Quiet ++ 32 ∷ decimal n) c.from-in-Quiet.ensures ∙ ap text_of (sym c.in-Quiet.is)) c.one_number-in-Quiet.ensures

pub returns-in-Done : goal.returns-in-Done
unfolding line line_of small medium large
returns-in-Done c = told c.one_number-in-Done.result c.one_number-in-Done.new.out c.args.out.now _ _ (ap (λ (n : ℕ). kind_name kinds.Done ++ 32 ∷ decimal n) c.from-in-Done.ensures ∙ ap text_of (sym c.in-Done.is)) c.one_number-in-Done.ensures

pub returns-in-Hand : goal.returns-in-Hand
unfolding line line_of small medium large
returns-in-Hand c = told c.one_number-in-Hand.result c.one_number-in-Hand.new.out c.args.out.now _ _ (ap text_of (sym c.in-Hand.is)) c.one_number-in-Hand.ensures

pub returns-in-Requeue : goal.returns-in-Requeue
unfolding line line_of small medium large
returns-in-Requeue c = told c.one_number-in-Requeue.result c.one_number-in-Requeue.new.out c.args.out.now _ _ (ap text_of (sym c.in-Requeue.is)) c.one_number-in-Requeue.ensures

pub returns-in-Late : goal.returns-in-Late
unfolding line line_of small medium large
returns-in-Late c = told c.one_number-in-Late.result c.one_number-in-Late.new.out c.args.out.now _ _ (ap text_of (sym c.in-Late.is)) c.one_number-in-Late.ensures

pub returns-in-Complete : goal.returns-in-Complete
unfolding line line_of small medium large
returns-in-Complete c = told c.number_and_word.result c.number_and_word.new.out c.args.out.now _ _ (ap text_of (sym c.in-Complete.is)) c.number_and_word.ensures

pub returns-in-Return : goal.returns-in-Return
unfolding line line_of small medium large
returns-in-Return c = told c.two_numbers-in-Return.result c.two_numbers-in-Return.new.out c.args.out.now _ _ (ap (λ (n : ℕ). kind_name kinds.Return ++ 32 ∷ (decimal n ++ 32 ∷ decimal c.in-Return.loan.0)) c.from-in-Return.ensures ∙ ap text_of (sym c.in-Return.is)) c.two_numbers-in-Return.ensures

pub returns-in-HandAsk : goal.returns-in-HandAsk
unfolding line line_of small medium large
returns-in-HandAsk c = told c.one_number-in-HandAsk.result c.one_number-in-HandAsk.new.out c.args.out.now _ _ (ap text_of (sym c.in-HandAsk.is)) c.one_number-in-HandAsk.ensures

pub returns-in-Leave : goal.returns-in-Leave
unfolding line line_of small medium large
returns-in-Leave c = told c.number_and_word-in-Leave.result c.number_and_word-in-Leave.new.out c.args.out.now _ _ (ap (λ (n : ℕ). kind_name kinds.Leave ++ 32 ∷ (decimal n ++ 32 ∷ word_text c.in-Leave.eax)) c.from-in-Leave.ensures ∙ ap text_of (sym c.in-Leave.is)) c.number_and_word-in-Leave.ensures

pub returns-in-Turn : goal.returns-in-Turn
unfolding line line_of small medium large
returns-in-Turn c = told c.two_numbers-in-Turn.result c.two_numbers-in-Turn.new.out c.args.out.now _ _ (ap (λ (n : ℕ). kind_name kinds.Turn ++ 32 ∷ (decimal n ++ 32 ∷ decimal c.in-Turn.count)) c.from-in-Turn.ensures ∙ ap text_of (sym c.in-Turn.is)) c.two_numbers-in-Turn.ensures

pub returns-in-Spin : goal.returns-in-Spin
unfolding line line_of small medium large
returns-in-Spin c = told c.number_and_word-in-Spin.result c.number_and_word-in-Spin.new.out c.args.out.now _ _ (ap (λ (n : ℕ). kind_name kinds.Spin ++ 32 ∷ (decimal n ++ 32 ∷ word_text c.in-Spin.lock.0)) c.from-in-Spin.ensures ∙ ap text_of (sym c.in-Spin.is)) c.number_and_word-in-Spin.ensures

pub returns-in-WireIn : goal.returns-in-WireIn
unfolding line line_of small medium large
returns-in-WireIn c = told c.one_number-in-WireIn.result c.one_number-in-WireIn.new.out c.args.out.now _ _ (ap text_of (sym c.in-WireIn.is)) c.one_number-in-WireIn.ensures

pub returns-in-Time : goal.returns-in-Time
unfolding line line_of small medium large
returns-in-Time c = told c.one_number-in-Time.result c.one_number-in-Time.new.out c.args.out.now _ _ (ap text_of (sym c.in-Time.is)) c.one_number-in-Time.ensures

pub returns-in-ResetBegin : goal.returns-in-ResetBegin
unfolding line line_of small medium large
returns-in-ResetBegin c = told c.one_number-in-ResetBegin.result c.one_number-in-ResetBegin.new.out c.args.out.now _ _ (ap (λ (n : ℕ). kind_name kinds.ResetBegin ++ 32 ∷ decimal n) c.from-in-ResetBegin.ensures ∙ ap text_of (sym c.in-ResetBegin.is)) c.one_number-in-ResetBegin.ensures

pub returns-in-ResetEnd : goal.returns-in-ResetEnd
unfolding line line_of small medium large
returns-in-ResetEnd c = told c.number_and_word-in-ResetEnd.result c.number_and_word-in-ResetEnd.new.out c.args.out.now _ _ (ap (λ (n : ℕ). kind_name kinds.ResetEnd ++ 32 ∷ (decimal n ++ 32 ∷ word_text c.in-ResetEnd.status.0)) c.from-in-ResetEnd.ensures ∙ ap text_of (sym c.in-ResetEnd.is)) c.number_and_word-in-ResetEnd.ensures

pub returns-in-Tag : goal.returns-in-Tag
unfolding line line_of small medium large
returns-in-Tag c = told c.two_numbers-in-Tag.result c.two_numbers-in-Tag.new.out c.args.out.now _ _ (ap (λ (n : ℕ). kind_name kinds.Tag ++ 32 ∷ (decimal c.in-Tag.packet.0 ++ 32 ∷ decimal n)) c.from-in-Tag.ensures ∙ ap text_of (sym c.in-Tag.is)) c.two_numbers-in-Tag.ensures

pub returns-in-Cancel : goal.returns-in-Cancel
unfolding line line_of small medium large
returns-in-Cancel c = told c.two_numbers-in-Cancel.result c.two_numbers-in-Cancel.new.out c.args.out.now _ _ (ap (λ (n : ℕ). kind_name kinds.Cancel ++ 32 ∷ (decimal n ++ 32 ∷ decimal c.from-in-Cancel-2.result)) c.from-in-Cancel.ensures ∙ ap (λ (n : ℕ). kind_name kinds.Cancel ++ 32 ∷ (decimal c.in-Cancel.driver.0 ++ 32 ∷ decimal n)) c.from-in-Cancel-2.ensures ∙ ap text_of (sym c.in-Cancel.is)) c.two_numbers-in-Cancel.ensures
