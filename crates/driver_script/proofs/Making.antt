-- What items make that are accepted one after the other.
use Rattle.std.proofs.Common.{◌≡◌, ◌≢◌, ℕ, zero, suc, ◌+◌, ◌<◌, ◌≤◌, Bool, true, false, not, cond, eqb, ltb, List, [], ◌∷◌, ◌++◌, length, map, get_or, set, Option, Some, None, refl, sym, ap, subst, ◌∙◌, inl, inr, ◌⊎◌, arith, append_assoc, length-append}
use Rattle.std.specs.Prelude.{◌||◌, ◌&&◌}
use Rattle.std.specs.List.{list_any, range_with_len, AllByRecursion, AllPairs}
use Rattle.std.proofs.lemmas.Bool.{cases_Bool, and_parts, or_parts, not-true, eqb-true, eqb-false, eq-eqb, ne_eqb, ltb-true, lt-ltb, cases_eq}
use Rattle.std.proofs.lemmas.List.{append-nil, map-append, length-map, ext_get_or, length-set, get_or-set_same, get_or-set_other}
use Rattle.std.proofs.lemmas.List.FromFn.{length-map-range_with_len, get_or-map-range_with_len}
use Rattle.std.proofs.lemmas.List.Quantifiers.{all_pairs_push}
use Rattle.nd_base.specs.declared.numbers.AdapterNo.{AdapterNo}
use Rattle.driver_script.specs.declared.adapter_lines.AdapterLine.{AdapterLine}
use Rattle.driver_script.specs.declared.adapter_lines.ParamLine.{ParamLine}
use Rattle.driver_script.specs.declared.section_lines.Line.{Line}
use Rattle.driver_script.specs.Items.{Item, Adapter, Param, Driver, Does}
use Rattle.driver_script.specs.Scripts.{Contents, adapter_items, param_items, section_items, params_of, DoNotMeet, Make}
use Rattle.driver_script.specs.Reading.{Known, start, has, accepts, accepts_adapter, after, empty, onto_last, add}

-- what is known of items, beside what they make
pub record Linked (k : Known) (is : List Item) (c : Contents) : Type 0 where
  pub make : Make is c
  pub ports : k.ports ≡ map (λ a. a.port) c.adapters
  pub irqs : k.irqs ≡ map (λ a. a.irq) c.adapters
  pub drivers : k.drivers ≡ length c.drivers
  pub none : k.has_params ≡ false → make.params ≡ []

pub at_start : Linked start [] empty
at_start = record {
  make = record { params = []; parts = refl; few_adapters = omega arith; few_drivers = omega arith; apart = λ i j d lt small. absurd (omega arith); of_adapters = tt; on_adapters = tt; gathered = refl; each = refl };
  ports = refl;
  irqs = refl;
  drivers = refl;
  none = λ h. refl;
}

-- ---- lists

pub no_items : {A : Type 0} (xs : List A) → length xs ≡ 0 → xs ≡ []
no_items [] h = refl
no_items (x ∷ xs) h = absurd (omega (arith, h))

pub one_more : {A : Type 0} (xs : List A) (x : A) → length (xs ++ x ∷ []) ≡ suc (length xs)
one_more [] x = refl
one_more (y ∷ xs) x = ap (λ (n : ℕ). suc n) (one_more xs x)

pub all_more : (m n : ℕ) (ps : List (ℕ × ParamLine)) → m ≤ n → AllByRecursion (λ p. p.0 < m) ps → AllByRecursion (λ p. p.0 < n) ps
all_more m n [] le h = tt
all_more m n (p ∷ ps) le h = let lt = h.0 in (omega (arith, lt), all_more m n ps le h.1)

all_push : {A : Type 0} (P : A → Type 0) (xs : List A) (x : A) → AllByRecursion P xs → P x → AllByRecursion P (xs ++ x ∷ [])
all_push P [] x h p = (p, tt)
all_push P (y ∷ xs) x h p = (h.0, all_push P xs x h.1 p)

pub not_among : (f : AdapterLine → ℕ) (adapters : List AdapterLine) (n : ℕ) → has (map f adapters) n ≡ false → (k : ℕ) (d : AdapterLine) → k < length adapters → f (get_or adapters k d) ≢ n
not_among f [] n h k d lt = absurd (omega arith)
not_among f (a ∷ adapters) n h zero d lt = eqb-false (f a) n (or_parts (eqb (f a) n) (has (map f adapters) n) h).0
not_among f (a ∷ adapters) n h (suc k) d lt = not_among f adapters n (or_parts (eqb (f a) n) (has (map f adapters) n) h).1 k d (omega arith)

-- ---- items

adapters_push : (n : ℕ) (adapters : List AdapterLine) (a : AdapterLine) → adapter_items n (adapters ++ a ∷ []) ≡ adapter_items n adapters ++ Adapter (n + length adapters) a ∷ []
adapters_push n [] a = let e : n ≡ n + 0 = omega arith in ap (λ (m : ℕ). Adapter m a ∷ []) e
adapters_push n (b ∷ adapters) a =
    let e : suc n + length adapters ≡ n + suc (length adapters) = omega arith in
    ap (λ (xs : List Item). Adapter n b ∷ xs) (adapters_push (suc n) adapters a ∙ ap (λ (m : ℕ). adapter_items (suc n) adapters ++ Adapter m a ∷ []) e)

params_push : (ps : List (ℕ × ParamLine)) (a : ℕ) (p : ParamLine) → param_items (ps ++ (a, p) ∷ []) ≡ param_items ps ++ Param a p ∷ []
params_push [] a p = refl
params_push (q ∷ ps) a p = ap (λ (xs : List Item). Param q.0 q.1 ∷ xs) (params_push ps a p)

drivers_push : (n : ℕ) (drivers : List AdapterNo) (sections : List (List Line)) (a : ℕ) → length sections ≡ length drivers
    → section_items n (drivers ++ (record { 0 = a }) ∷ []) (sections ++ [] ∷ []) ≡ section_items n drivers sections ++ Driver (n + length drivers) a ∷ []
drivers_push n [] [] a h = let e : n ≡ n + 0 = omega arith in ap (λ (m : ℕ). Driver m a ∷ []) e
drivers_push n [] (ls ∷ sections) a h = absurd (omega (arith, h))
drivers_push n (d ∷ drivers) [] a h = absurd (omega (arith, h))
drivers_push n (d ∷ drivers) (ls ∷ sections) a h =
    let e : suc n + length drivers ≡ n + suc (length drivers) = omega arith in
    let same : length sections ≡ length drivers = omega (arith, h) in
    let rest = drivers_push (suc n) drivers sections a same ∙ ap (λ (m : ℕ). section_items (suc n) drivers sections ++ Driver m a ∷ []) e in
    ap (λ (xs : List Item). Driver n d.0 ∷ xs) (ap (λ (xs : List Item). map Does ls ++ xs) rest ∙ sym (append_assoc (map Does ls) (section_items (suc n) drivers sections) (Driver (n + suc (length drivers)) a ∷ [])))

lines_push : (n : ℕ) (drivers : List AdapterNo) (sections : List (List Line)) (line : Line) → length sections ≡ length drivers → 0 < length drivers
    → section_items n drivers (onto_last sections line) ≡ section_items n drivers sections ++ Does line ∷ []
lines_push n [] sections line h some = absurd (omega arith)
lines_push n (d ∷ drivers) [] line h some = absurd (omega (arith, h))
lines_push n (d ∷ []) (ls ∷ []) line h some =
    ap (λ (xs : List Item). Driver n d.0 ∷ xs) (append-nil (map Does (ls ++ line ∷ [])) ∙ map-append Does ls (line ∷ []) ∙ ap (λ (xs : List Item). xs ++ Does line ∷ []) (sym (append-nil (map Does ls))))
lines_push n (d ∷ e ∷ drivers) (ls ∷ []) line h some = absurd (omega (arith, h))
lines_push n (d ∷ []) (ls ∷ next ∷ sections) line h some = absurd (omega (arith, h))
lines_push n (d ∷ e ∷ drivers) (ls ∷ next ∷ sections) line h some =
    let same : length (next ∷ sections) ≡ length (e ∷ drivers) = omega (arith, h) in
    ap (λ (xs : List Item). Driver n d.0 ∷ xs) (ap (λ (xs : List Item). map Does ls ++ xs) (lines_push (suc n) (e ∷ drivers) (next ∷ sections) line same (omega arith)) ∙ sym (append_assoc (map Does ls) (section_items (suc n) (e ∷ drivers) (next ∷ sections)) (Does line ∷ [])))

last_len : (sections : List (List Line)) (line : Line) → length (onto_last sections line) ≡ length sections
last_len [] line = refl
last_len (ls ∷ []) line = refl
last_len (ls ∷ next ∷ sections) line = ap (λ (n : ℕ). suc n) (last_len (next ∷ sections) line)

-- ---- parameters by their adapters

of_same : (ps : List (ℕ × ParamLine)) (a : ℕ) (p : ParamLine) → params_of a (ps ++ (a, p) ∷ []) ≡ params_of a ps ++ p ∷ []
of_same [] a p = rw (eq-eqb a a refl) refl
of_same (q ∷ ps) a p = elim (cases_Bool (eqb q.0 a)) [
  | inl on ↦ rw on (ap (λ (xs : List ParamLine). q.1 ∷ xs) (of_same ps a p))
  | inr off ↦ rw off (of_same ps a p)
]

of_other : (ps : List (ℕ × ParamLine)) (a x : ℕ) (p : ParamLine) → (a ≡ x → ⊥) → params_of x (ps ++ (a, p) ∷ []) ≡ params_of x ps
of_other [] a x p h = rw (ne_eqb a x h) refl
of_other (q ∷ ps) a x p h = elim (cases_Bool (eqb q.0 x)) [
  | inl on ↦ rw on (ap (λ (xs : List ParamLine). q.1 ∷ xs) (of_other ps a x p h))
  | inr off ↦ rw off (of_other ps a x p h)
]

abbrev pub gathered : ℕ → List (ℕ × ParamLine) → List (List ParamLine)
gathered n ps = map (λ a. params_of a ps) (range_with_len 0 n)

at_adapter : (n : ℕ) (ps : List (ℕ × ParamLine)) (i : ℕ) → i < n → get_or (gathered n ps) i [] ≡ params_of i ps
at_adapter n ps i lt = get_or-map-range_with_len (λ (a : ℕ). params_of a ps) 0 n i i [] lt (omega arith)

pub gathered_push : (n a : ℕ) (ps : List (ℕ × ParamLine)) (p : ParamLine) → a < n → set (gathered n ps) a (get_or (gathered n ps) a [] ++ p ∷ []) ≡ gathered n (ps ++ (a, p) ∷ [])
gathered_push n a ps p lt =
    let long = length-map-range_with_len (λ (x : ℕ). params_of x ps) 0 n in
    let longer = length-map-range_with_len (λ (x : ℕ). params_of x (ps ++ (a, p) ∷ [])) 0 n in
    let put = get_or (gathered n ps) a [] ++ p ∷ [] in
    let inside : a < length (gathered n ps) = omega (arith, long) in
    let len : length (set (gathered n ps) a put) ≡ n = length-set (gathered n ps) a put ∙ long in
    ext_get_or [] (set (gathered n ps) a put) (gathered n (ps ++ (a, p) ∷ [])) (len ∙ sym longer) (λ i small.
    let below : i < n = omega (arith, len) in
    elim (cases_eq i a) [
      | inl same ↦
          subst (λ (j : ℕ). get_or (set (gathered n ps) a put) j [] ≡ get_or (gathered n (ps ++ (a, p) ∷ [])) j []) (sym same)
          (get_or-set_same (gathered n ps) a put [] inside ∙ ap (λ (xs : List ParamLine). xs ++ p ∷ []) (at_adapter n ps a lt) ∙ sym (of_same ps a p) ∙ sym (at_adapter n (ps ++ (a, p) ∷ []) a lt))
      | inr other ↦
          let ne : i ≢ a = other in
          get_or-set_other (gathered n ps) a i put [] ne ∙ at_adapter n ps i below ∙ sym (of_other ps a i p (λ e. other (sym e))) ∙ sym (at_adapter n (ps ++ (a, p) ∷ []) i below)
    ])

none_gathered : (a n : ℕ) → map (λ x. params_of x []) (range_with_len a n) ++ [] ∷ [] ≡ map (λ x. params_of x []) (range_with_len a (suc n))
none_gathered a zero = refl
none_gathered a (suc n) = ap (λ (xs : List (List ParamLine)). [] ∷ xs) (none_gathered (a + 1) n)

-- ---- one more item

no_tail : (c : Contents) (ps : List (ℕ × ParamLine)) → ps ≡ [] → c.drivers ≡ [] → param_items ps ++ section_items 0 c.drivers c.sections ≡ []
no_tail c ps p d = ap (λ (xs : List (ℕ × ParamLine)). param_items xs ++ section_items 0 c.drivers c.sections) p ∙ ap (λ (xs : List AdapterNo). section_items 0 xs c.sections) d

record Fits (k : Known) (number port irq : ℕ) : Type 0 where
  at : number ≡ length k.ports
  room : number < 4
  bare : k.has_params ≡ false
  alone : k.drivers ≡ 0
  other_port : has k.ports port ≡ false
  other_irq : has k.irqs irq ≡ false

fits : (k : Known) (number port irq : ℕ) → accepts_adapter k number port irq ≡ true → Fits k number port irq
fits k number port irq h =
    let a = and_parts (eqb number (length k.ports)) _ h in
    let b = and_parts (ltb number 4) _ a.1 in
    let c = and_parts (not k.has_params) _ b.1 in
    let d = and_parts (eqb k.drivers 0) _ c.1 in
    let e = and_parts (not (has k.ports port)) (not (has k.irqs irq)) d.1 in
    record { at = eqb-true number (length k.ports) a.0; room = ltb-true number 4 b.0; bare = not-true k.has_params c.0; alone = eqb-true k.drivers 0 d.0; other_port = not-true (has k.ports port) e.0; other_irq = not-true (has k.irqs irq) e.1 }

link_adapter : (k : Known) (is : List Item) (c : Contents) (number : ℕ) (a : AdapterLine) → Linked k is c → accepts k (Adapter number a) ≡ true → Linked (after k (Adapter number a)) (is ++ Adapter number a ∷ []) (add c (Adapter number a))
link_adapter k is c number a l h =
    let f = fits k number a.port a.irq h in
    let m = l.make in
    let long : length k.ports ≡ length c.adapters = ap length l.ports ∙ length-map c.adapters (λ (x : AdapterLine). x.port) in
    let same = f.at in
    let at : number ≡ 0 + length c.adapters = omega (arith, same, long) in
    let bare : m.params ≡ [] = l.none f.bare in
    let alone : c.drivers ≡ [] = no_items c.drivers (sym l.drivers ∙ f.alone) in
    let tail = no_tail c m.params bare alone in
    let more = one_more c.adapters a in
    let room = f.room in
    let ports : has (map (λ (x : AdapterLine). x.port) c.adapters) a.port ≡ false = subst (λ (xs : List ℕ). has xs a.port ≡ false) l.ports f.other_port in
    let irqs : has (map (λ (x : AdapterLine). x.irq) c.adapters) a.irq ≡ false = subst (λ (xs : List ℕ). has xs a.irq ≡ false) l.irqs f.other_irq in
    let tail_new : param_items [] ++ section_items 0 c.drivers c.sections ≡ [] = no_tail c [] refl alone in
    let items : is ++ Adapter number a ∷ [] ≡ adapter_items 0 (c.adapters ++ a ∷ []) ++ (param_items [] ++ section_items 0 c.drivers c.sections) =
    ap (λ (xs : List Item). xs ++ Adapter number a ∷ []) (m.parts ∙ ap (λ (xs : List Item). adapter_items 0 c.adapters ++ xs) tail ∙ append-nil (adapter_items 0 c.adapters))
    ∙ ap (λ (n : ℕ). adapter_items 0 c.adapters ++ Adapter n a ∷ []) at
    ∙ sym (adapters_push 0 c.adapters a)
    ∙ sym (append-nil (adapter_items 0 (c.adapters ++ a ∷ [])))
    ∙ ap (λ (xs : List Item). adapter_items 0 (c.adapters ++ a ∷ []) ++ xs) (sym tail_new) in
    let grown : c.params ++ [] ∷ [] ≡ gathered (length (c.adapters ++ a ∷ [])) [] =
    ap (λ (xs : List (List ParamLine)). xs ++ [] ∷ []) (m.gathered ∙ ap (gathered (length c.adapters)) bare)
    ∙ none_gathered 0 (length c.adapters)
    ∙ ap (λ (n : ℕ). gathered n []) (sym more) in
    record {
      make = record {
        params = [];
        parts = items;
        few_adapters = omega (arith, more, at, room);
        few_drivers = m.few_drivers;
        apart = all_pairs_push DoNotMeet c.adapters a m.apart (λ i d lt. (not_among (λ (x : AdapterLine). x.port) c.adapters a.port ports i d lt, not_among (λ (x : AdapterLine). x.irq) c.adapters a.irq irqs i d lt));
        of_adapters = tt;
        on_adapters = subst (λ (xs : List AdapterNo). AllByRecursion (λ d. d.0 < length (c.adapters ++ a ∷ [])) xs) (sym alone) tt;
        gathered = grown;
        each = m.each;
      };
      ports = ap (λ (xs : List ℕ). xs ++ a.port ∷ []) l.ports ∙ sym (map-append (λ (x : AdapterLine). x.port) c.adapters (a ∷ []));
      irqs = ap (λ (xs : List ℕ). xs ++ a.irq ∷ []) l.irqs ∙ sym (map-append (λ (x : AdapterLine). x.irq) c.adapters (a ∷ []));
      drivers = l.drivers;
      none = λ e. refl;
    }

link_param : (k : Known) (is : List Item) (c : Contents) (a : ℕ) (p : ParamLine) → Linked k is c → accepts k (Param a p) ≡ true → Linked (after k (Param a p)) (is ++ Param a p ∷ []) (add c (Param a p))
link_param k is c a p l h =
    let m = l.make in
    let t = and_parts (ltb a (length k.ports)) (eqb k.drivers 0) h in
    let lt = ltb-true a (length k.ports) t.0 in
    let long : length k.ports ≡ length c.adapters = ap length l.ports ∙ length-map c.adapters (λ (x : AdapterLine). x.port) in
    let small : a < length c.adapters = omega (arith, lt, long) in
    let alone : c.drivers ≡ [] = no_items c.drivers (sym l.drivers ∙ eqb-true k.drivers 0 t.1) in
    let none : section_items 0 c.drivers c.sections ≡ [] = ap (λ (xs : List AdapterNo). section_items 0 xs c.sections) alone in
    let A = adapter_items 0 c.adapters in
    let items : is ++ Param a p ∷ [] ≡ A ++ (param_items (m.params ++ (a, p) ∷ []) ++ section_items 0 c.drivers c.sections) =
    ap (λ (xs : List Item). xs ++ Param a p ∷ []) (m.parts ∙ ap (λ (xs : List Item). A ++ (param_items m.params ++ xs)) none ∙ ap (λ (xs : List Item). A ++ xs) (append-nil (param_items m.params)))
    ∙ append_assoc A (param_items m.params) (Param a p ∷ [])
    ∙ ap (λ (xs : List Item). A ++ xs) (sym (params_push m.params a p) ∙ sym (append-nil (param_items (m.params ++ (a, p) ∷ []))))
    ∙ ap (λ (xs : List Item). A ++ (param_items (m.params ++ (a, p) ∷ []) ++ xs)) (sym none) in
    record {
      make = record {
        params = m.params ++ (a, p) ∷ [];
        parts = items;
        few_adapters = m.few_adapters;
        few_drivers = m.few_drivers;
        apart = m.apart;
        of_adapters = all_push (λ (q : ℕ × ParamLine). q.0 < length c.adapters) m.params (a, p) m.of_adapters small;
        on_adapters = m.on_adapters;
        gathered = ap (λ (xs : List (List ParamLine)). set xs a (get_or xs a [] ++ p ∷ [])) m.gathered ∙ gathered_push (length c.adapters) a m.params p small;
        each = m.each;
      };
      ports = l.ports;
      irqs = l.irqs;
      drivers = l.drivers;
      none = λ e. absurd (cc);
    }

link_driver : (k : Known) (is : List Item) (c : Contents) (number a : ℕ) → Linked k is c → accepts k (Driver number a) ≡ true → Linked (after k (Driver number a)) (is ++ Driver number a ∷ []) (add c (Driver number a))
link_driver k is c number a l h =
    let m = l.make in
    let t = and_parts (eqb number k.drivers) _ h in
    let u = and_parts (ltb number 8) (ltb a (length k.ports)) t.1 in
    let same = eqb-true number k.drivers t.0 in
    let count = l.drivers in
    let at : number ≡ 0 + length c.drivers = omega (arith, same, count) in
    let room = ltb-true number 8 u.0 in
    let lt = ltb-true a (length k.ports) u.1 in
    let long : length k.ports ≡ length c.adapters = ap length l.ports ∙ length-map c.adapters (λ (x : AdapterLine). x.port) in
    let small : a < length c.adapters = omega (arith, lt, long) in
    let d : AdapterNo = record { 0 = a } in
    let more = one_more c.drivers d in
    let A = adapter_items 0 c.adapters in
    let P = param_items m.params in
    let S = section_items 0 c.drivers c.sections in
    let items : is ++ Driver number a ∷ [] ≡ A ++ (P ++ section_items 0 (c.drivers ++ d ∷ []) (c.sections ++ [] ∷ [])) =
    ap (λ (xs : List Item). xs ++ Driver number a ∷ []) m.parts
    ∙ append_assoc A (P ++ S) (Driver number a ∷ [])
    ∙ ap (λ (xs : List Item). A ++ xs) (append_assoc P S (Driver number a ∷ []))
    ∙ ap (λ (n : ℕ). A ++ (P ++ (S ++ Driver n a ∷ []))) at
    ∙ ap (λ (xs : List Item). A ++ (P ++ xs)) (sym (drivers_push 0 c.drivers c.sections a m.each)) in
    record {
      make = record {
        params = m.params;
        parts = items;
        few_adapters = m.few_adapters;
        few_drivers = omega (arith, more, at, room);
        apart = m.apart;
        of_adapters = m.of_adapters;
        on_adapters = all_push (λ (x : AdapterNo). x.0 < length c.adapters) c.drivers d m.on_adapters small;
        gathered = m.gathered;
        each = one_more c.sections [] ∙ ap (λ (n : ℕ). suc n) m.each ∙ sym more;
      };
      ports = l.ports;
      irqs = l.irqs;
      drivers = (let e = l.drivers in omega (arith, e, more));
      none = l.none;
    }

link_line : (k : Known) (is : List Item) (c : Contents) (line : Line) → Linked k is c → accepts k (Does line) ≡ true → Linked (after k (Does line)) (is ++ Does line ∷ []) (add c (Does line))
link_line k is c line l h =
    let m = l.make in
    let lt = ltb-true 0 k.drivers h in
    let e = l.drivers in
    let some : 0 < length c.drivers = omega (arith, lt, e) in
    let A = adapter_items 0 c.adapters in
    let P = param_items m.params in
    let S = section_items 0 c.drivers c.sections in
    let items : is ++ Does line ∷ [] ≡ A ++ (P ++ section_items 0 c.drivers (onto_last c.sections line)) =
    ap (λ (xs : List Item). xs ++ Does line ∷ []) m.parts
    ∙ append_assoc A (P ++ S) (Does line ∷ [])
    ∙ ap (λ (xs : List Item). A ++ xs) (append_assoc P S (Does line ∷ []))
    ∙ ap (λ (xs : List Item). A ++ (P ++ xs)) (sym (lines_push 0 c.drivers c.sections line m.each some)) in
    record {
      make = record {
        params = m.params;
        parts = items;
        few_adapters = m.few_adapters;
        few_drivers = m.few_drivers;
        apart = m.apart;
        of_adapters = m.of_adapters;
        on_adapters = m.on_adapters;
        gathered = m.gathered;
        each = last_len c.sections line ∙ m.each;
      };
      ports = l.ports;
      irqs = l.irqs;
      drivers = l.drivers;
      none = l.none;
    }

pub link : (k : Known) (is : List Item) (c : Contents) (i : Item) → Linked k is c → accepts k i ≡ true → Linked (after k i) (is ++ i ∷ []) (add c i)
link k is c (Adapter number a) l h = link_adapter k is c number a l h
link k is c (Param a p) l h = link_param k is c a p l h
link k is c (Driver number a) l h = link_driver k is c number a l h
link k is c (Does line) l h = link_line k is c line l h

-- ---- items in a row

abbrev pub pass : Known → List Item → Option Known
pass k [] = Some k
pass k (i ∷ is) = cond (accepts k i) (pass (after k i) is) None

abbrev pub added : Contents → List Item → Contents
added c [] = c
added c (i ∷ is) = added (add c i) is

pub linked : (k next : Known) (is more : List Item) (c : Contents) → Linked k is c → pass k more ≡ Some next → Linked next (is ++ more) (added c more)
linked k next is [] c l h =
    let e : Some k ≡ Some next = h in
    let same : k ≡ next = cc in
    subst (λ (x : Known). Linked x (is ++ []) c) same (subst (λ (xs : List Item). Linked k xs c) (sym (append-nil is)) l)
linked k next is (i ∷ more) c l h = elim (cases_Bool (accepts k i)) [
  | inl on ↦
      let rest : pass (after k i) more ≡ Some next = rw on at h in
      subst (λ (xs : List Item). Linked next xs (added (add c i) more)) (append_assoc is (i ∷ []) more) (linked (after k i) next (is ++ i ∷ []) more (add c i) (link k is c i l on) rest)
  | inr off ↦ let e : None ≡ Some next = rw off at h in absurd cc
]
