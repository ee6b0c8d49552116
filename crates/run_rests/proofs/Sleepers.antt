-- Whether none of some numbers has a moment.
use Rattle.std.proofs.Common.{◌≡◌, ℕ, ◌+◌, ◌-◌, ◌<◌, ◌≤◌, Bool, true, false, List, Option, Some, None, is_some, sym, ap, ◌∙◌}
use Rattle.std.specs.List.{cons_option, filter_map, range_with_len}
use Rattle.std.proofs.lemmas.Bool.{false≢true}
use Rattle.owner_machine.specs.Handlers.{is_none}
use Rattle.run_rests.proofs.Counted.{range_front, range_end}

abbrev pub none_have : (ℕ → Option ℕ) → List ℕ → Bool
none_have moment ns = is_none (filter_map moment ns)

pub none_have_more : (moment : ℕ → Option ℕ) (n count : ℕ) (r : Option ℕ) → n < count → r ≡ moment n → is_some r ≡ false → none_have moment (range_with_len n (count - n)) ≡ none_have moment (range_with_len (n + 1) (count - (n + 1)))
none_have_more moment n count None lt is none = ap (none_have moment) (range_front n count lt) ∙ ap (λ r. is_none (cons_option r (filter_map moment (range_with_len (n + 1) (count - (n + 1)))))) (sym is)
none_have_more moment n count (Some m) lt is none = absurd (false≢true (sym none))

pub one_has : (moment : ℕ → Option ℕ) (n count : ℕ) (r : Option ℕ) → n < count → r ≡ moment n → is_some r ≡ true → none_have moment (range_with_len n (count - n)) ≡ false
one_has moment n count None lt is some = absurd (false≢true some)
one_has moment n count (Some m) lt is some = ap (none_have moment) (range_front n count lt) ∙ ap (λ r. is_none (cons_option r (filter_map moment (range_with_len (n + 1) (count - (n + 1)))))) (sym is)

pub none_had : (moment : ℕ → Option ℕ) (n count : ℕ) → count ≤ n → none_have moment (range_with_len n (count - n)) ≡ true
none_had moment n count le = ap (none_have moment) (range_end n count le)
