-- One more buffer of a chain, what all of them give, and that nothing else is given.
use Rattle.std.proofs.Common.{◌≡◌, ◌≢◌, ℕ, ◌+◌, ◌-◌, ◌<◌, ◌≤◌, ◌++◌, ◌⊎◌, List, [], length, Option, None, Some, Result, Ok, Err, refl, sym, ap, ◌∙◌, subst, ⊎_elim, arith, add-one}
use Rattle.std.proofs.lemmas.Bool.{cases_lt}
use Rattle.std.specs.Option.{option_or}
use Rattle.nd_base.specs.declared.layout_field.Field.TheVariants.{PacketHead}
use Rattle.nd_mem.specs.declared.MemFault.{MemFault}
use Rattle.nd_mem.specs.Space.{Cells, Reading, wrapped, first_fault, answer_of}
use Rattle.nd_mem.specs.Laws.{FaultLaws}
use Rattle.packet_chain.specs.Chain.{word_at, field_at, buffer_of, next_of, bytes_of, joined, buffer_fault, head_fault, Reaches, Ends, FaultsAt, HasFrame, Gives, GivesOne}
use Rattle.packet_chain.specs.Gathering.{Finishes}
use Rattle.packet_chain.specs.declared.ChainFault.{ChainFault}
use Rattle.packet_chain.specs.declared.ChainFault.TheVariants.{OutOfMemory, Fault, Loop, Length}

pub value_told : (o : Option MemFault) (value x : ℕ) → Ok x ≡ answer_of value o → (o ≡ None) × (x ≡ value)
value_told None value x e = (refl, (cc))
value_told (Some f) value x e = absurd (cc)

-- ---- reading in pieces
pub fault_told : (o : Option MemFault) (fault : MemFault) → Err fault ≡ answer_of (tt {0}) o → o ≡ Some fault
fault_told None fault e = absurd (cc)
fault_told (Some f) fault e = let same : fault ≡ f = cc in ap Some (sym same)

pub none_told : (o : Option MemFault) → Ok (tt {0}) ≡ answer_of (tt {0}) o → o ≡ None
none_told None e = refl
none_told (Some f) e = absurd (cc)

module _ (laws : FaultLaws) (cells : Cells) (at : ℕ) where
  pub piece_and_rest : (done next count : ℕ) → done + next ≤ count → first_fault Reading cells (at + done) (count - done) ≡ option_or (first_fault Reading cells (wrapped (at + done)) next) (first_fault Reading cells (at + (done + next)) (count - (done + next)))
  piece_and_rest done next count less =
      let n = count - (done + next) in
      let whole : count - done ≡ next + n = omega arith in
      let on : at + done + next ≡ at + (done + next) = omega arith in
      ap (first_fault Reading cells (at + done)) whole
      ∙ laws.split Reading cells (at + done) next n
      ∙ ap (λ f. option_or f (first_fault Reading cells (at + done + next) n)) (sym (laws.wraps Reading cells (at + done) next))
      ∙ ap (λ b. option_or (first_fault Reading cells (wrapped (at + done)) next) (first_fault Reading cells b n)) on

  pub refused_piece : (done next count b n : ℕ) (fault : MemFault) → done + next ≤ count → first_fault Reading cells (at + done) (count - done) ≡ first_fault Reading cells at count → Err fault ≡ answer_of (tt {0}) (first_fault Reading cells b n) → b ≡ wrapped (at + done) → n ≡ next → first_fault Reading cells at count ≡ Some fault
  refused_piece done next count b n fault less left told b_is n_is =
      let here : first_fault Reading cells (wrapped (at + done)) next ≡ Some fault = ap (λ x. first_fault Reading cells x next) (sym b_is) ∙ ap (first_fault Reading cells b) (sym n_is) ∙ fault_told _ fault told in
      sym left ∙ piece_and_rest done next count less ∙ ap (λ f. option_or f (first_fault Reading cells (at + (done + next)) (count - (done + next)))) here

  pub taken_piece : (done next count b n : ℕ) → done + next ≤ count → first_fault Reading cells (at + done) (count - done) ≡ first_fault Reading cells at count → Ok (tt {0}) ≡ answer_of (tt {0}) (first_fault Reading cells b n) → b ≡ wrapped (at + done) → n ≡ next → first_fault Reading cells (at + (done + next)) (count - (done + next)) ≡ first_fault Reading cells at count
  taken_piece done next count b n less left told b_is n_is =
      let here : first_fault Reading cells (wrapped (at + done)) next ≡ None = ap (λ x. first_fault Reading cells x next) (sym b_is) ∙ ap (first_fault Reading cells b) (sym n_is) ∙ none_told _ told in
      sym (ap (λ f. option_or f (first_fault Reading cells (at + (done + next)) (count - (done + next)))) here) ∙ sym (piece_and_rest done next count less) ∙ left

  pub none_left : (count : ℕ) → first_fault Reading cells (at + count) (count - count) ≡ None
  none_left count = laws.none Reading cells (at + count) (count - count) (λ k less. absurd (omega arith))

-- ---- one more buffer
module _ (layout : List ℕ) (cells : Cells) (packet : ℕ) where
  pub buffer_of-next : (k : ℕ) → buffer_of layout cells packet (k + 1) ≡ next_of layout cells (buffer_of layout cells packet k)
  unfolding buffer_of
  buffer_of-next k = rw add-one refl

  pub buffer_of-first : buffer_of layout cells packet 0 ≡ word_at cells (field_at layout PacketHead packet)
  unfolding buffer_of
  buffer_of-first = refl

  -- what an added buffer tells
  pub next_told : (k buffer next : ℕ) → buffer ≡ buffer_of layout cells packet k → Ok next ≡ answer_of (next_of layout cells buffer) (buffer_fault layout cells buffer)
      → (buffer_fault layout cells (buffer_of layout cells packet k) ≡ None) × (next ≡ buffer_of layout cells packet (k + 1))
  next_told k buffer next here told =
      let t = value_told _ _ _ told in
      (ap (buffer_fault layout cells) (sym here) ∙ t.0, t.1 ∙ ap (next_of layout cells) here ∙ sym (buffer_of-next k))

  pub joined-next : (k : ℕ) → joined layout cells packet (k + 1) ≡ joined layout cells packet k ++ bytes_of layout cells (buffer_of layout cells packet k)
  unfolding joined
  joined-next k = rw add-one refl

  pub joined-none : joined layout cells packet 0 ≡ []
  unfolding joined
  joined-none = refl

  pub reaches_none : head_fault layout cells packet ≡ None → Reaches layout cells packet 0
  reaches_none head = record { head = head; some = λ k less. absurd (omega arith); seen = λ k less. absurd (omega arith) }

  pub reaches_more : (k : ℕ) → Reaches layout cells packet k → buffer_of layout cells packet k ≢ 0 → buffer_fault layout cells (buffer_of layout cells packet k) ≡ None → Reaches layout cells packet (k + 1)
  reaches_more n reaches some seen = record {
    head = reaches.head;
    some = λ k less. ⊎_elim (λ lower. reaches.some k lower) (λ le. let e : n ≡ k = omega arith in subst (λ j. buffer_of layout cells packet j ≢ 0) e some) (cases_lt k n);
    seen = λ k less. ⊎_elim (λ lower. reaches.seen k lower) (λ le. let e : n ≡ k = omega arith in subst (λ j. buffer_fault layout cells (buffer_of layout cells packet j) ≡ None) e seen) (cases_lt k n);
  }

  -- what is known of all bytes says what the chain gives
  pub gives_all : (n : ℕ) (r : Result (List ℕ) ChainFault) → Ends layout cells packet n → Finishes (joined layout cells packet n) r → Gives layout cells packet r
  gives_all n (Ok bytes) ends given = record { buffers = n; ends = ends; are = given.0; long = subst (λ xs. (14 ≤ length xs) × (length xs ≤ 1514)) (sym given.0) given.1 }
  gives_all n (Err OutOfMemory) ends given = (joined layout cells packet n, record { buffers = n; ends = ends; are = refl; long = given })
  gives_all n (Err (Fault fault)) ends given = absurd given
  gives_all n (Err Loop) ends given = absurd given
  gives_all n (Err Length) ends given = (n, ends, given)

  -- ---- a chain has one end, and one fault
  one_end : (n m : ℕ) → Ends layout cells packet n → Ends layout cells packet m → n ≡ m
  one_end n m a b =
      ⊎_elim (λ less. absurd (b.reaches.some n less a.last)) (λ le. ⊎_elim (λ less. absurd (a.reaches.some m less b.last)) (λ ge. let e : n ≡ m = omega arith in e) (cases_lt m n)) (cases_lt n m)

  end_no_fault : (n m : ℕ) (fault : MemFault) → Ends layout cells packet n → FaultsAt layout cells packet m fault → ⊥
  end_no_fault n m fault a b =
      ⊎_elim (λ less. b.reaches.some n less a.last) (λ le. ⊎_elim (λ less. let e = a.reaches.seen m less in let f = b.here in absurd (cc (e, f))) (λ ge. let e : n ≡ m = omega arith in b.some (sym (ap (buffer_of layout cells packet) e) ∙ a.last)) (cases_lt m n)) (cases_lt n m)

  end_no_loop : (n : ℕ) → Ends layout cells packet n → Reaches layout cells packet 64 → buffer_of layout cells packet 64 ≢ 0 → ⊥
  end_no_loop n a reaches some = let few = a.few in
      ⊎_elim (λ less. reaches.some n less a.last) (λ le. let e : n ≡ 64 = omega arith in some (sym (ap (buffer_of layout cells packet) e) ∙ a.last)) (cases_lt n 64)

  fault_no_loop : (m : ℕ) (fault : MemFault) → FaultsAt layout cells packet m fault → Reaches layout cells packet 64 → ⊥
  fault_no_loop m fault b reaches = let e = reaches.seen m b.few in let f = b.here in absurd (cc (e, f))

  one_fault : (n m : ℕ) (f g : MemFault) → FaultsAt layout cells packet n f → FaultsAt layout cells packet m g → f ≡ g
  one_fault n m f g a b =
      ⊎_elim (λ less. let e = b.reaches.seen n less in let h = a.here in absurd (cc (e, h)))
      (λ le. ⊎_elim (λ less. let e = a.reaches.seen m less in let h = b.here in absurd (cc (e, h)))
      (λ ge. let e : n ≡ m = omega arith in let h : Some f ≡ Some g = sym a.here ∙ ap (λ k. buffer_fault layout cells (buffer_of layout cells packet k)) e ∙ b.here in cc) (cases_lt m n)) (cases_lt n m)

  abbrev Faults : MemFault → Type 0
  Faults fault = (head_fault layout cells packet ≡ Some fault) ⊎ ((n : ℕ) × FaultsAt layout cells packet n fault)

  head_no_fault : (n : ℕ) (fault : MemFault) → Reaches layout cells packet n → head_fault layout cells packet ≡ Some fault → ⊥
  head_no_fault n fault reaches e = let h = reaches.head in cc (e, h)

  end_excludes : (n : ℕ) (fault : MemFault) → Ends layout cells packet n → Faults fault → ⊥
  end_excludes n fault ends faults = ⊎_elim (λ h. head_no_fault n fault ends.reaches h) (λ h. end_no_fault n h.0 fault ends h.1) faults

  loop_excludes : (fault : MemFault) → Reaches layout cells packet 64 → Faults fault → ⊥
  loop_excludes fault reaches faults = ⊎_elim (λ h. head_no_fault 64 fault reaches h) (λ h. fault_no_loop h.0 fault h.1 reaches) faults

  same_fault : (f g : MemFault) → Faults f → Faults g → f ≡ g
  same_fault f g a b = ⊎_elim
      (λ h. ⊎_elim (λ i. let e : Some f ≡ Some g = sym h ∙ i in cc) (λ i. absurd (head_no_fault i.0 f i.1.reaches h)) b)
      (λ h. ⊎_elim (λ i. absurd (head_no_fault h.0 g h.1.reaches i)) (λ i. one_fault h.0 i.0 f g h.1 i.1) b) a

  too_long : (bytes : List ℕ) (m : ℕ) → HasFrame layout cells packet bytes → Ends layout cells packet m → (length (joined layout cells packet m) < 14) ⊎ (1514 < length (joined layout cells packet m)) → ⊥
  too_long bytes m frame ends wrong =
      let e = one_end frame.buffers m frame.ends ends in
      let same : length bytes ≡ length (joined layout cells packet m) = ap (λ (xs : List ℕ). length xs) (frame.are ∙ ap (joined layout cells packet) e) in
      let long = frame.long in
      ⊎_elim (λ short. omega (arith, same, long.0, long.1)) (λ more. omega (arith, same, long.0, long.1)) wrong

  gives_one : (r s : Result (List ℕ) ChainFault) → Gives layout cells packet r → Gives layout cells packet s → r ≢ Err OutOfMemory → s ≢ Err OutOfMemory → r ≡ s
  gives_one (Err OutOfMemory) s g h p q = absurd (p refl)
  gives_one (Ok x) (Err OutOfMemory) g h p q = absurd (q refl)
  gives_one (Ok x) (Ok y) g h p q = ap Ok (g.are ∙ ap (joined layout cells packet) (one_end g.buffers h.buffers g.ends h.ends) ∙ sym h.are)
  gives_one (Ok x) (Err (Fault f)) g h p q = absurd (end_excludes g.buffers f g.ends h)
  gives_one (Ok x) (Err Loop) g h p q = absurd (end_no_loop g.buffers g.ends h.0 h.1)
  gives_one (Ok x) (Err Length) g h p q = absurd (too_long x h.0 g h.1 h.2)
  gives_one (Err (Fault f)) (Err OutOfMemory) g h p q = absurd (q refl)
  gives_one (Err (Fault f)) (Ok y) g h p q = absurd (end_excludes h.buffers f h.ends g)
  gives_one (Err (Fault f)) (Err (Fault e)) g h p q = ap (λ (m : MemFault). Err (Fault m)) (same_fault f e g h)
  gives_one (Err (Fault f)) (Err Loop) g h p q = absurd (loop_excludes f h.0 g)
  gives_one (Err (Fault f)) (Err Length) g h p q = absurd (end_excludes h.0 f h.1 g)
  gives_one (Err Loop) (Err OutOfMemory) g h p q = absurd (q refl)
  gives_one (Err Loop) (Ok y) g h p q = absurd (end_no_loop h.buffers h.ends g.0 g.1)
  gives_one (Err Loop) (Err (Fault e)) g h p q = absurd (loop_excludes e g.0 h)
  gives_one (Err Loop) (Err Loop) g h p q = refl
  gives_one (Err Loop) (Err Length) g h p q = absurd (end_no_loop h.0 h.1 g.0 g.1)
  gives_one (Err Length) (Err OutOfMemory) g h p q = absurd (q refl)
  gives_one (Err Length) (Ok y) g h p q = absurd (too_long y g.0 h g.1 g.2)
  gives_one (Err Length) (Err (Fault e)) g h p q = absurd (end_excludes g.0 e g.1 h)
  gives_one (Err Length) (Err Loop) g h p q = absurd (end_no_loop g.0 g.1 h.0 h.1)
  gives_one (Err Length) (Err Length) g h p q = refl

pub chain_gives_one : GivesOne
chain_gives_one layout cells packet r s g h p q = gives_one layout cells packet r s g h p q
