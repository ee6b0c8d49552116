-- Contexts behind a stop, and in front of a transfer.
use Rattle.std.proofs.Common.{◌≡◌, ℕ, zero, suc, ◌+◌, ◌<◌, Bool, true, false, ◌&&◌, ◌||◌, cond, not, List, [], ◌∷◌, length, get_or, Some, None, refl, sym, ap, ◌∙◌, arith}
use Rattle.std.specs.Prelude.{set, nat_lt}
use Rattle.std.specs.List.{position, position_or_len}
use Rattle.std.proofs.lemmas.Option.{none-some}
use Rattle.std.proofs.lemmas.List.Quantifiers.{position-Some}
use Rattle.std.proofs.lemmas.Bool.Decides.{nat_tests}
use Rattle.owner_machine.specs.declared.rows.Context.{Context}
use Rattle.owner_machine.specs.declared.rows.Context.TheVariants.{Free, Open}
use Rattle.owner_machine.specs.Contexts.{freed, entry_freed, runs, any_handler, wants_transfer, with_transfer, transfer_begun}
use Rattle.owner_machine.specs.State.{change}
use Rattle.owner_machine.specs.Adapters.{contexts_stopped}
use Rattle.owner_book.specs.StoppedContexts.{context_stopped, runs_entry}

-- the first i rows changed
abbrev pub swept : {A : Type 0} → (A → A) → ℕ → List A → List A
swept f zero rows = rows
swept f (suc i) [] = []
swept f (suc i) (row ∷ rows) = f row ∷ swept f i rows

pub swept_read : {A : Type 0} (f : A → A) (i : ℕ) (rows : List A) (d : A) → get_or (swept f i rows) i d ≡ get_or rows i d
swept_read f zero rows d = refl
swept_read f (suc i) [] d = refl
swept_read f (suc i) (row ∷ rows) d = swept_read f i rows d

pub swept_length : {A : Type 0} (f : A → A) (i : ℕ) (rows : List A) → length (swept f i rows) ≡ length rows
swept_length f zero rows = refl
swept_length f (suc i) [] = refl
swept_length f (suc i) (row ∷ rows) = ap (λ (n : ℕ). suc n) (swept_length f i rows)

pub swept_write : {A : Type 0} (f : A → A) (i : ℕ) (rows : List A) (d new : A) → i < length rows → new ≡ f (get_or rows i d) → set (swept f i rows) i new ≡ swept f (suc i) rows
swept_write f i [] d new less same = absurd (omega arith)
swept_write f zero (row ∷ rows) d new less same = ap (λ x. x ∷ rows) same
swept_write f (suc i) (row ∷ rows) d new less same = ap (λ xs. f row ∷ xs) (swept_write f i rows d new (omega arith) same)

pub swept_any : {A : Type 0} (f : A → A) (i : ℕ) (was rows : List A) (d new : A) → rows ≡ swept f i was → i < length was → new ≡ f (get_or rows i d) → set rows i new ≡ swept f (i + 1) was
swept_any f i was rows d new same less is =
    ap (λ xs. set xs i new) same
    ∙ swept_write f i was d new less (is ∙ ap (λ xs. f (get_or xs i d)) same ∙ ap f (swept_read f i was d))
    ∙ ap (λ (n : ℕ). swept f n was) (next_number i)
  where
    next_number : (i : ℕ) → suc i ≡ i + 1
    next_number i = omega arith

pub swept_put : {A : Type 0} (f : A → A) (i : ℕ) (was rows : List A) (row new : A) → rows ≡ swept f i was → i < length was → row ≡ get_or rows i row → new ≡ f row → set rows i new ≡ swept f (i + 1) was
swept_put f i was rows row new same less is made = swept_any f i was rows row new same less (made ∙ ap f is)

-- a write of a changed row is that change, whatever a read past the end gives
pub written_any : {A : Type 0} (f : A → A) (rows : List A) (k : ℕ) (d new : A) → k < length rows → new ≡ f (get_or rows k d) → set rows k new ≡ change f rows k
written_any f [] k d new less is = absurd (omega arith)
written_any f (x ∷ rows) zero d new less is = ap (λ y. y ∷ rows) is
written_any f (x ∷ rows) (suc k) d new less is = ap (λ ys. x ∷ ys) (written_any f rows k d new (omega arith) is)

-- ---- a stop

freed_one : (a : ℕ) (x : Context) (b : Bool) (xs ys : List Context) → runs any_handler a x ≡ b → xs ≡ ys → cond (runs any_handler a x) Free x ∷ xs ≡ cond (b || (false && runs_entry x)) Free x ∷ ys
freed_one a x true xs ys is same = ap (λ (t : Bool). cond t Free x ∷ xs) is ∙ ap (λ zs. Free ∷ zs) same
freed_one a x false xs ys is same = ap (λ (t : Bool). cond t Free x ∷ xs) is ∙ ap (λ zs. x ∷ zs) same

pub swept_stops : (a : ℕ) (all : Bool) (contexts : List Context) → swept (context_stopped a all) (length contexts) contexts ≡ contexts_stopped contexts a all
swept_stops a false [] = refl
swept_stops a true [] = refl
swept_stops a false (x ∷ xs) = by_test (runs any_handler a x) refl (swept_stops a false xs)
  where
    by_test : (b : Bool) → runs any_handler a x ≡ b → swept (context_stopped a false) (length xs) xs ≡ freed a xs → context_stopped a false x ∷ swept (context_stopped a false) (length xs) xs ≡ freed a (x ∷ xs)
    by_test true is more = ap (λ (t : Bool). cond (t || (false && runs_entry x)) Free x ∷ swept (context_stopped a false) (length xs) xs) is ∙ ap (λ zs. Free ∷ zs) more ∙ sym (ap (λ (t : Bool). cond t Free x ∷ freed a xs) is)
    by_test false is more = ap (λ (t : Bool). cond (t || (false && runs_entry x)) Free x ∷ swept (context_stopped a false) (length xs) xs) is ∙ ap (λ zs. x ∷ zs) more ∙ sym (ap (λ (t : Bool). cond t Free x ∷ freed a xs) is)
swept_stops a true (x ∷ xs) = by_context x (swept_stops a true xs)
  where
    by_test : (x : Context) (b : Bool) → runs any_handler a x ≡ b → runs_entry x ≡ false → entry_freed (x ∷ freed a xs) ≡ x ∷ entry_freed (freed a xs) → swept (context_stopped a true) (length xs) xs ≡ entry_freed (freed a xs) → context_stopped a true x ∷ swept (context_stopped a true) (length xs) xs ≡ entry_freed (freed a (x ∷ xs))
    by_test x true is entry kept more = ap (λ (t : Bool). cond (t || (true && runs_entry x)) Free x ∷ swept (context_stopped a true) (length xs) xs) is ∙ ap (λ zs. Free ∷ zs) more ∙ sym (ap (λ (t : Bool). entry_freed (cond t Free x ∷ freed a xs)) is)
    by_test x false is entry kept more = ap (λ (t : Bool). cond (t || (true && runs_entry x)) Free x ∷ swept (context_stopped a true) (length xs) xs) is ∙ ap (λ (t : Bool). cond (true && t) Free x ∷ swept (context_stopped a true) (length xs) xs) entry ∙ ap (λ zs. x ∷ zs) more ∙ sym kept ∙ sym (ap (λ (t : Bool). entry_freed (cond t Free x ∷ freed a xs)) is)

    by_context : (x : Context) → swept (context_stopped a true) (length xs) xs ≡ entry_freed (freed a xs) → context_stopped a true x ∷ swept (context_stopped a true) (length xs) xs ≡ entry_freed (freed a (x ∷ xs))
    by_context Free more = ap (λ zs. Free ∷ zs) more
    by_context (Open None handler enter call) more = ap (λ zs. Free ∷ zs) more
    by_context (Open (Some adapter) handler enter call) more = by_test (Open (Some adapter) handler enter call) (runs any_handler a (Open (Some adapter) handler enter call)) refl refl refl more

-- ---- a transfer

begun_from : (a n : ℕ) (xs : List Context) (i : ℕ) (d new : Context) → i < length xs → wants_transfer a (get_or xs i d) ≡ true → ((k : ℕ) → k < i → wants_transfer a (get_or xs k d) ≡ false) → new ≡ with_transfer n (get_or xs i d) → set xs i new ≡ transfer_begun a n xs
begun_from a n [] i d new less wants before same = absurd (omega arith)
begun_from a n (x ∷ xs) zero d new less wants before same = ap (λ y. y ∷ xs) same ∙ sym (ap (λ (t : Bool). cond t (with_transfer n x ∷ xs) (x ∷ transfer_begun a n xs)) wants)
begun_from a n (x ∷ xs) (suc i) d new less wants before same =
    ap (λ ys. x ∷ ys) (begun_from a n xs i d new (omega arith) wants (λ k under. before (suc k) (omega arith)) same)
    ∙ sym (ap (λ (t : Bool). cond t (with_transfer n x ∷ xs) (x ∷ transfer_begun a n xs)) (before 0 (omega arith)))

pub begun_at : (a n : ℕ) (xs : List Context) (i : ℕ) (d new : Context) → position (wants_transfer a) xs ≡ Some i → new ≡ with_transfer n (get_or xs i d) → set xs i new ≡ transfer_begun a n xs
begun_at a n xs i d new found same = let found_at = position-Some (wants_transfer a) xs i d found in begun_from a n xs i d new found_at.0 found_at.1 found_at.2 same

none_later : (q len : ℕ) → cond (nat_lt (1 + q) (suc len)) (Some (1 + q)) None ≡ None → cond (nat_lt q len) (Some q) None ≡ None
none_later q len h = by_size (nat_lt q len) refl
  where
    by_size : (t : Bool) → nat_lt q len ≡ t → cond t (Some q) None ≡ None
    by_size false is = refl
    by_size true is = let less : nat_lt (1 + q) (suc len) ≡ true = grind (arith, nat_tests) in absurd (none-some (1 + q) (sym h ∙ ap (λ (t : Bool). cond t (Some (1 + q)) None) less))

pub begun_nowhere : (a n : ℕ) (xs : List Context) → position (wants_transfer a) xs ≡ None → xs ≡ transfer_begun a n xs
begun_nowhere a n [] none = refl
begun_nowhere a n (x ∷ xs) none = by_test (wants_transfer a x) (position_or_len (wants_transfer a) xs) refl none (begun_nowhere a n xs)
  where
    by_test : (t : Bool) (q : ℕ) → wants_transfer a x ≡ t → cond (nat_lt (cond (not t) (1 + q) 0) (suc (length xs))) (Some (cond (not t) (1 + q) 0)) None ≡ None → (cond (nat_lt q (length xs)) (Some q) None ≡ None → xs ≡ transfer_begun a n xs) → x ∷ xs ≡ cond (wants_transfer a x) (with_transfer n x ∷ xs) (x ∷ transfer_begun a n xs)
    by_test true q is none more = let less : nat_lt 0 (suc (length xs)) ≡ true = grind (arith, nat_tests) in absurd (none-some 0 (sym none ∙ ap (λ (t : Bool). cond t (Some 0) None) less))
    by_test false q is none more = ap (λ ys. x ∷ ys) (more (none_later q (length xs) none)) ∙ sym (ap (λ (t : Bool). cond t (with_transfer n x ∷ xs) (x ∷ transfer_begun a n xs)) is)
