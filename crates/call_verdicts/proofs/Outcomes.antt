-- What the answer of a call says of the outcome that it comes of.
use Rattle.std.proofs.Common.{rules, ◌≡◌, ℕ, zero, suc, ◌+◌, ◌-◌, ◌*◌, ◌<◌, ◌≤◌, Bool, true, false, ◌&&◌, nat_le, length, List, [], ◌∷◌, Option, Some, None, Ok, refl, sym, ap, ◌∙◌, subst, arith}
use Rattle.std.specs.Prelude.{⊤, slice_index_or}
use Rattle.nd_base.specs.declared.numbers.CtxNo.{CtxNo}
use Rattle.irql_lock.specs.LockState.{level_of}
use Rattle.import_table.specs.Table.{Row, row_of, rows}
use Rattle.guest_world.specs.declared.world.World.{World}
use Rattle.guest_world.specs.declared.answer.Answer.TheVariants.{Now}
use Rattle.guest_world.specs.declared.answer.Caller.{Caller}
use Rattle.guest_world.specs.declared.answer.Reply.{Reply}
use Rattle.import_answers.specs.World.{word}
use Rattle.import_answers.specs.Outcomes.{Outcome, Breaks, Replies, Picks, PicksDescriptor, Spins, Sleeps, Synchronizes, Comes, arguments_rule, asks}
use Rattle.import_answers.specs.Ports as ports
use Rattle.import_answers.specs.Answers.{answering, eight, level_rule, none_such, outcome}
use Rattle.legal_run.specs.State.{State, caller}
use Rattle.legal_run.specs.Calls.{outcome_of}

-- ---- words: behind those that were read stand zeros

pub second : (words : List ℕ) → word (eight words) 2 ≡ word words 2
second [] = refl
second (a ∷ []) = refl
second (a ∷ b ∷ rest) = refl

pub third : (words : List ℕ) → word (eight words) 3 ≡ word words 3
third [] = refl
third (a ∷ []) = refl
third (a ∷ b ∷ []) = refl
third (a ∷ b ∷ c ∷ rest) = refl

-- ---- what is asked for

pub asked : (b : Bool) (rule : ℕ) (rest : Outcome) (w v : World) (reply : Reply) → Comes (asks b rule rest) w (Ok (Now reply)) v → (b ≡ true) × Comes rest w (Ok (Now reply)) v
asked true rule rest w v reply comes = (refl, comes)
asked false rule rest w v reply comes = absurd comes

pub behind_rules : (w v : World) (x : Caller) (row : Row) (words : List ℕ) (reply : Reply) → Comes (outcome w x row words) w (Ok (Now reply)) v → Comes (slice_index_or answering (row.import - 1) none_such w x (eight words)) w (Ok (Now reply)) v
behind_rules w v x row words reply comes =
    let rest = slice_index_or answering (row.import - 1) none_such w x (eight words) in
    let whole = asks (nat_le row.words (length words)) arguments_rule rest in
    (asked (nat_le row.words (length words)) arguments_rule rest w v reply
    (asked (nat_le row.low (level_of w.levels x.context) && nat_le (level_of w.levels x.context) row.high) level_rule whole w v reply comes).1).1

-- ---- no address is picked

abbrev pub IsPlain : Outcome → Type 0
IsPlain (Picks n reply world) = ⊥
IsPlain (PicksDescriptor kind handle reply world) = ⊥
IsPlain _ = ⊤

asked_plain : (b : Bool) (rule : ℕ) (rest : Outcome) → IsPlain rest → IsPlain (asks b rule rest)
asked_plain true rule rest h = h
asked_plain false rule rest h = tt

pub whole_plain : (w : World) (x : Caller) (row : Row) (words : List ℕ) → IsPlain (slice_index_or answering (row.import - 1) none_such w x (eight words)) → IsPlain (outcome w x row words)
whole_plain w x row words h =
    let rest = slice_index_or answering (row.import - 1) none_such w x (eight words) in
    let whole = asks (nat_le row.words (length words)) arguments_rule rest in
    asked_plain (nat_le row.low (level_of w.levels x.context) && nat_le (level_of w.levels x.context) row.high) level_rule whole (asked_plain (nat_le row.words (length words)) arguments_rule rest h)

pub replies_so : (o : Outcome) (w v : World) (reply : Reply) → IsPlain o → Comes o w (Ok (Now reply)) v → o ≡ Replies reply v
replies_so (Replies given after) w v reply plain h = ap (λ (q : Reply). Replies q after) (sym h.0) ∙ ap (λ (y : World). Replies reply y) (sym h.1)
replies_so (Picks n given after) w v reply plain h = absurd plain
replies_so (PicksDescriptor kind handle given after) w v reply plain h = absurd plain
replies_so (Breaks rule) w v reply plain h = absurd h
replies_so (Sleeps moment) w v reply plain h = absurd h
replies_so (Spins holder after) w v reply plain h = absurd h
replies_so Synchronizes w v reply plain h = absurd h

-- ---- ports

read_plain : (w : World) (x : Caller) (words : List ℕ) (width : ℕ) (port : Option ℕ) → IsPlain (ports.read_port w x words width port)
read_plain w x words width None = tt
read_plain w x words width (Some port) = tt

write_plain : (w : World) (x : Caller) (words : List ℕ) (width : ℕ) (port : Option ℕ) → IsPlain (ports.write_port w x words width port)
write_plain w x words width None = tt
write_plain w x words width (Some port) = tt

reads_plain : (w : World) (x : Caller) (words : List ℕ) (width : ℕ) (port : Option ℕ) → IsPlain (ports.read_buffer w x words width port)
reads_plain w x words width None = tt
reads_plain w x words width (Some port) = tt

writes_plain : (w : World) (x : Caller) (words : List ℕ) (width : ℕ) (port : Option ℕ) → IsPlain (ports.write_buffer w x words width port)
writes_plain w x words width None = tt
writes_plain w x words width (Some port) = tt

-- ---- the rows of the calls that make something

plain_39 : (w : World) (x : Caller) (words : List ℕ) → IsPlain (slice_index_or answering ((row_of 39).import - 1) none_such w x words)
unfolding answering rows row_of
plain_39 w x words = search rules

plain_41 : (w : World) (x : Caller) (words : List ℕ) → IsPlain (slice_index_or answering ((row_of 41).import - 1) none_such w x words)
unfolding answering rows row_of
plain_41 w x words = search rules

plain_42 : (w : World) (x : Caller) (words : List ℕ) → IsPlain (slice_index_or answering ((row_of 42).import - 1) none_such w x words)
unfolding answering rows row_of
plain_42 w x words = search rules

plain_43 : (w : World) (x : Caller) (words : List ℕ) → IsPlain (slice_index_or answering ((row_of 43).import - 1) none_such w x words)
unfolding answering rows row_of
plain_43 w x words = search rules

plain_44 : (w : World) (x : Caller) (words : List ℕ) → IsPlain (slice_index_or answering ((row_of 44).import - 1) none_such w x words)
unfolding answering rows row_of
plain_44 w x words = search rules

plain_port : (w : World) (x : Caller) (words : List ℕ) (k : ℕ) → k < 8 → IsPlain (slice_index_or answering ((row_of (53 + k)).import - 1) none_such w x words)
unfolding answering rows row_of
plain_port w x words zero few = read_plain w x words 1 _
plain_port w x words (suc zero) few = read_plain w x words 2 _
plain_port w x words (suc (suc zero)) few = write_plain w x words 1 _
plain_port w x words (suc (suc (suc zero))) few = write_plain w x words 2 _
plain_port w x words (suc (suc (suc (suc zero)))) few = search (rules, reads_plain)
plain_port w x words (suc (suc (suc (suc (suc zero))))) few = search (rules, reads_plain)
plain_port w x words (suc (suc (suc (suc (suc (suc zero)))))) few = search (rules, writes_plain)
plain_port w x words (suc (suc (suc (suc (suc (suc (suc zero))))))) few = search (rules, writes_plain)
plain_port w x words (suc (suc (suc (suc (suc (suc (suc (suc k)))))))) few = absurd (omega (arith, few))

abbrev pub At : State → CtxNo → List ℕ → Reply → World → ℕ → Type 0
At s x words reply v import = Comes (outcome_of s x import words) s.world (Ok (Now reply)) v

abbrev pub Is : State → CtxNo → List ℕ → Reply → World → ℕ → Type 0
Is s x words reply v import = outcome_of s x import words ≡ Replies reply v

is_so : (s : State) (x : CtxNo) (words : List ℕ) (reply : Reply) (v : World) (import : ℕ) → IsPlain (slice_index_or answering ((row_of import).import - 1) none_such s.world (caller s x) (eight words)) → At s x words reply v import → Is s x words reply v import
is_so s x words reply v import plain comes = replies_so (outcome_of s x import words) s.world v reply (whole_plain s.world (caller s x) (row_of import) words plain) comes

pub at_39 : (s : State) (x : CtxNo) (words : List ℕ) (reply : Reply) (v : World) → At s x words reply v 39 → Is s x words reply v 39
at_39 s x words reply v comes = is_so s x words reply v 39 (plain_39 s.world (caller s x) (eight words)) comes

pub at_41 : (s : State) (x : CtxNo) (words : List ℕ) (reply : Reply) (v : World) → At s x words reply v 41 → Is s x words reply v 41
at_41 s x words reply v comes = is_so s x words reply v 41 (plain_41 s.world (caller s x) (eight words)) comes

pub at_42 : (s : State) (x : CtxNo) (words : List ℕ) (reply : Reply) (v : World) → At s x words reply v 42 → Is s x words reply v 42
at_42 s x words reply v comes = is_so s x words reply v 42 (plain_42 s.world (caller s x) (eight words)) comes

pub at_43 : (s : State) (x : CtxNo) (words : List ℕ) (reply : Reply) (v : World) → At s x words reply v 43 → Is s x words reply v 43
at_43 s x words reply v comes = is_so s x words reply v 43 (plain_43 s.world (caller s x) (eight words)) comes

pub at_44 : (s : State) (x : CtxNo) (words : List ℕ) (reply : Reply) (v : World) → At s x words reply v 44 → Is s x words reply v 44
at_44 s x words reply v comes = is_so s x words reply v 44 (plain_44 s.world (caller s x) (eight words)) comes

pub at_port : (s : State) (x : CtxNo) (words : List ℕ) (reply : Reply) (v : World) (k : ℕ) → k < 8 → At s x words reply v (53 + k) → Is s x words reply v (53 + k)
at_port s x words reply v k few comes = is_so s x words reply v (53 + k) (plain_port s.world (caller s x) (eight words) k few) comes
