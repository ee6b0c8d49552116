-- What makes contents is accepted one after the other, and makes no others.
use Rattle.std.proofs.Common.{◌≡◌, ◌≢◌, ℕ, zero, suc, ◌+◌, ◌<◌, ◌≤◌, Bool, true, false, not, cond, eqb, ltb, List, [], ◌∷◌, ◌++◌, length, map, get_or, set, Option, Some, None, refl, sym, ap, subst, ◌∙◌, inl, inr, ◌⊎◌, arith, append_assoc, length-append}
use Rattle.std.specs.Prelude.{◌||◌, ◌&&◌}
use Rattle.std.specs.List.{list_any, range_with_len, AllByRecursion, AllPairs}
use Rattle.std.proofs.lemmas.Bool.{cases_Bool, eq-eqb, ne_eqb, lt-ltb}
use Rattle.std.proofs.lemmas.List.{append-nil, map-append, length-map}
use Rattle.std.proofs.Math.ListN.{get_or-append}
use Rattle.std.proofs.Math.Seq.{get_or-append_seam}
use Rattle.nd_base.specs.declared.numbers.AdapterNo.{AdapterNo}
use Rattle.driver_script.specs.declared.adapter_lines.AdapterLine.{AdapterLine}
use Rattle.driver_script.specs.declared.adapter_lines.ParamLine.{ParamLine}
use Rattle.driver_script.specs.declared.section_lines.Line.{Line}
use Rattle.driver_script.specs.Items.{Item, Adapter, Param, Driver, Does}
use Rattle.driver_script.specs.Scripts.{Contents, adapter_items, param_items, section_items, params_of, DoNotMeet, Make}
use Rattle.driver_script.specs.Reading.{Known, start, has, accepts, accepts_adapter, after, empty, onto_last, add}
use Rattle.driver_script.proofs.Making.{one_more, gathered, gathered_push, pass, added}

-- ---- adapters

abbrev bare : List AdapterLine → Known
bare adapters = record { ports = map (λ a. a.port) adapters; irqs = map (λ a. a.irq) adapters; has_params = false; drivers = 0 }

not_in : (f : AdapterLine → ℕ) (adapters : List AdapterLine) (n : ℕ) → ((k : ℕ) (d : AdapterLine) → k < length adapters → f (get_or adapters k d) ≢ n) → has (map f adapters) n ≡ false
not_in f [] n h = refl
not_in f (a ∷ adapters) n h =
    let first : eqb (f a) n ≡ false = ne_eqb (f a) n (h 0 a (omega arith)) in
    rw first (not_in f adapters n (λ k d lt. h (suc k) d (omega arith)))

fits_next : (before : List AdapterLine) (a : AdapterLine) (others : List AdapterLine) → AllPairs DoNotMeet (before ++ a ∷ others) → length (before ++ a ∷ others) ≤ 4 → accepts (bare before) (Adapter (length before) a) ≡ true
fits_next before a others apart few =
    let long = length-append before (a ∷ others) in
    let meets : (k : ℕ) (d : AdapterLine) → k < length before → DoNotMeet (get_or before k d) a = λ k d lt.
    subst (λ (x : AdapterLine). DoNotMeet x a) (get_or-append before (a ∷ others) d k lt)
    (subst (λ (y : AdapterLine). DoNotMeet (get_or (before ++ a ∷ others) k d) y) (get_or-append_seam before a others d) (apart k (length before) d lt (omega (arith, long)))) in
    let at : eqb (length before) (length (map (λ (x : AdapterLine). x.port) before)) ≡ true = eq-eqb (length before) (length (map (λ (x : AdapterLine). x.port) before)) (sym (length-map before (λ (x : AdapterLine). x.port))) in
    let room : ltb (length before) 4 ≡ true = lt-ltb (length before) 4 (omega (arith, long)) in
    let port : has (map (λ (x : AdapterLine). x.port) before) a.port ≡ false = not_in (λ (x : AdapterLine). x.port) before a.port (λ k d lt. (meets k d lt).0) in
    let irq : has (map (λ (x : AdapterLine). x.irq) before) a.irq ≡ false = not_in (λ (x : AdapterLine). x.irq) before a.irq (λ k d lt. (meets k d lt).1) in
    rw (at, room, port, irq) refl

bare_next : (before : List AdapterLine) (a : AdapterLine) → after (bare before) (Adapter (length before) a) ≡ bare (before ++ a ∷ [])
bare_next before a = rw (map-append (λ (x : AdapterLine). x.port) before (a ∷ []), map-append (λ (x : AdapterLine). x.irq) before (a ∷ [])) refl

pass_adapters : (before others : List AdapterLine) (more : List Item) → AllPairs DoNotMeet (before ++ others) → length (before ++ others) ≤ 4
    → pass (bare before) (adapter_items (length before) others ++ more) ≡ pass (bare (before ++ others)) more
pass_adapters before [] more apart few = ap (λ (xs : List AdapterLine). pass (bare xs) more) (sym (append-nil before))
pass_adapters before (a ∷ others) more apart few =
    let whole : (before ++ a ∷ []) ++ others ≡ before ++ a ∷ others = append_assoc before (a ∷ []) others in
    let rest = adapter_items (suc (length before)) others ++ more in
    ap (λ (b : Bool). cond b (pass (after (bare before) (Adapter (length before) a)) rest) None) (fits_next before a others apart few)
    ∙ ap (λ (k : Known). pass k rest) (bare_next before a)
    ∙ ap (λ (n : ℕ). pass (bare (before ++ a ∷ [])) (adapter_items n others ++ more)) (sym (one_more before a))
    ∙ pass_adapters (before ++ a ∷ []) others more (subst (λ (xs : List AdapterLine). AllPairs DoNotMeet xs) (sym whole) apart) (subst (λ (xs : List AdapterLine). length xs ≤ 4) (sym whole) few)
    ∙ ap (λ (xs : List AdapterLine). pass (bare xs) more) whole

abbrev blanks : List AdapterLine → List (List ParamLine)
blanks [] = []
blanks (a ∷ others) = [] ∷ blanks others

blank_gathered : (n : ℕ) (adapters : List AdapterLine) → map (λ a. params_of a []) (range_with_len n (length adapters)) ≡ blanks adapters
blank_gathered n [] = refl
blank_gathered n (a ∷ adapters) = ap (λ (xs : List (List ParamLine)). [] ∷ xs) (blank_gathered (n + 1) adapters)

add_adapters : (c : Contents) (n : ℕ) (others : List AdapterLine) (more : List Item)
    → added c (adapter_items n others ++ more) ≡ added (record c { adapters = c.adapters ++ others; params = c.params ++ blanks others }) more
add_adapters c n [] more = ap (λ (x : Contents). added x more) (rw (append-nil c.adapters, append-nil c.params) refl)
add_adapters c n (a ∷ others) more =
    add_adapters (add c (Adapter n a)) (suc n) others more
    ∙ ap (λ (x : Contents). added x more) (rw (append_assoc c.adapters (a ∷ []) others, append_assoc c.params ([] ∷ []) (blanks others)) refl)

-- ---- parameters

pass_params : (k : Known) (ps : List (ℕ × ParamLine)) (more : List Item) → k.drivers ≡ 0 → AllByRecursion (λ p. p.0 < length k.ports) ps
    → (flag : Bool) × (pass k (param_items ps ++ more) ≡ pass (record k { has_params = flag }) more)
pass_params k [] more none all = (k.has_params, refl)
pass_params k (p ∷ ps) more none all =
    let ih = pass_params (record k { has_params = true }) ps more none all.1 in
    let yes : accepts k (Param p.0 p.1) ≡ true = rw (lt-ltb p.0 (length k.ports) all.0, eq-eqb k.drivers 0 none) refl in
    (ih.0, ap (λ (b : Bool). cond b (pass (record k { has_params = true }) (param_items ps ++ more)) None) yes ∙ ih.1)

add_params : (c : Contents) (n : ℕ) (before ps : List (ℕ × ParamLine)) (more : List Item) → c.params ≡ gathered n before → AllByRecursion (λ p. p.0 < n) ps
    → added c (param_items ps ++ more) ≡ added (record c { params = gathered n (before ++ ps) }) more
add_params c n before [] more is all = ap (λ (x : List (List ParamLine)). added (record c { params = x }) more) (is ∙ ap (gathered n) (sym (append-nil before)))
add_params c n before (p ∷ ps) more is all =
    let put = set c.params p.0 (get_or c.params p.0 [] ++ p.1 ∷ []) in
    let next : put ≡ gathered n (before ++ (p.0, p.1) ∷ []) = ap (λ (x : List (List ParamLine)). set x p.0 (get_or x p.0 [] ++ p.1 ∷ [])) is ∙ gathered_push n p.0 before p.1 all.0 in
    add_params (record c { params = put }) n (before ++ (p.0, p.1) ∷ []) ps more next all.1
    ∙ ap (λ (x : List (ℕ × ParamLine)). added (record c { params = gathered n x }) more) (append_assoc before ((p.0, p.1) ∷ []) ps)

-- ---- sections

pass_lines : (k : Known) (ls : List Line) (more : List Item) → 0 < k.drivers → pass k (map Does ls ++ more) ≡ pass k more
pass_lines k [] more some = refl
pass_lines k (l ∷ ls) more some = ap (λ (b : Bool). cond b (pass k (map Does ls ++ more)) None) (lt-ltb 0 k.drivers some) ∙ pass_lines k ls more some

pass_sections : (k : Known) (n : ℕ) (drivers : List AdapterNo) (sections : List (List Line)) → n ≡ k.drivers → length sections ≡ length drivers → n + length drivers ≤ 8 → AllByRecursion (λ a. a.0 < length k.ports) drivers
    → (count : ℕ) × (pass k (section_items n drivers sections) ≡ Some (record k { drivers = count }))
pass_sections k n [] sections at each few all = (k.drivers, refl)
pass_sections k n (d ∷ drivers) [] at each few all = absurd (omega (arith, each))
pass_sections k n (d ∷ drivers) (ls ∷ sections) at each few all =
    let next : Known = record k { drivers = k.drivers + 1 } in
    let rest = section_items (suc n) drivers sections in
    let same : length sections ≡ length drivers = omega (arith, each) in
    let one : suc n ≡ k.drivers + 1 = omega (arith, at) in
    let ih = pass_sections next (suc n) drivers sections one same (omega (arith, few)) all.1 in
    let yes : accepts k (Driver n d.0) ≡ true = rw (eq-eqb n k.drivers at, lt-ltb n 8 (omega (arith, few)), lt-ltb d.0 (length k.ports) all.0) refl in
    (ih.0, ap (λ (b : Bool). cond b (pass next (map Does ls ++ rest)) None) yes ∙ pass_lines next ls rest (omega arith) ∙ ih.1)

onto_new : (sections : List (List Line)) (ls : List Line) (line : Line) → onto_last (sections ++ ls ∷ []) line ≡ sections ++ (ls ++ line ∷ []) ∷ []
onto_new [] ls line = refl
onto_new (x ∷ []) ls line = refl
onto_new (x ∷ y ∷ sections) ls line = ap (λ (z : List (List Line)). x ∷ z) (onto_new (y ∷ sections) ls line)

add_lines : (c : Contents) (sections : List (List Line)) (before ls : List Line) (more : List Item) → c.sections ≡ sections ++ before ∷ []
    → added c (map Does ls ++ more) ≡ added (record c { sections = sections ++ (before ++ ls) ∷ [] }) more
add_lines c sections before [] more is = ap (λ (x : List (List Line)). added (record c { sections = x }) more) (is ∙ ap (λ (x : List Line). sections ++ x ∷ []) (sym (append-nil before)))
add_lines c sections before (l ∷ ls) more is =
    let next : onto_last c.sections l ≡ sections ++ (before ++ l ∷ []) ∷ [] = ap (λ (x : List (List Line)). onto_last x l) is ∙ onto_new sections before l in
    add_lines (record c { sections = onto_last c.sections l }) sections (before ++ l ∷ []) ls more next
    ∙ ap (λ (x : List Line). added (record c { sections = sections ++ x ∷ [] }) more) (append_assoc before (l ∷ []) ls)

add_sections : (c : Contents) (n : ℕ) (drivers : List AdapterNo) (sections : List (List Line)) → length sections ≡ length drivers
    → added c (section_items n drivers sections) ≡ record c { drivers = c.drivers ++ drivers; sections = c.sections ++ sections }
add_sections c n [] [] each = rw (append-nil c.drivers, append-nil c.sections) refl
add_sections c n [] (ls ∷ sections) each = absurd (omega (arith, each))
add_sections c n (d ∷ drivers) [] each = absurd (omega (arith, each))
add_sections c n (d ∷ drivers) (ls ∷ sections) each =
    let next : Contents = record c { drivers = c.drivers ++ d ∷ []; sections = c.sections ++ [] ∷ [] } in
    let same : length sections ≡ length drivers = omega (arith, each) in
    add_lines next c.sections [] ls (section_items (suc n) drivers sections) refl
    ∙ add_sections (record next { sections = c.sections ++ ls ∷ [] }) (suc n) drivers sections same
    ∙ rw (append_assoc c.drivers (d ∷ []) drivers, append_assoc c.sections (ls ∷ []) sections) refl

-- ---- all of them

pub record Passed (is : List Item) (c : Contents) : Type 0 where
  pub known : Known
  pub passes : pass start is ≡ Some known
  pub ports : length known.ports ≡ length c.adapters
  pub made : added empty is ≡ c

pub passed_whole : (is : List Item) (c : Contents) → Make is c → Passed is c
passed_whole is c m =
    let ports : length (map (λ (a : AdapterLine). a.port) c.adapters) ≡ length c.adapters = length-map c.adapters (λ (a : AdapterLine). a.port) in
    let k = bare c.adapters in
    let P = param_items m.params in
    let S = section_items 0 c.drivers c.sections in
    let ofs = subst (λ (n : ℕ). AllByRecursion (λ p. p.0 < n) m.params) (sym ports) m.of_adapters in
    let ons = subst (λ (n : ℕ). AllByRecursion (λ a. a.0 < n) c.drivers) (sym ports) m.on_adapters in
    let one = pass_adapters [] c.adapters (P ++ S) m.apart m.few_adapters in
    let two = pass_params k m.params S refl ofs in
    let few = m.few_drivers in
    let three = pass_sections (record k { has_params = two.0 }) 0 c.drivers c.sections refl m.each (omega (arith, few)) ons in
    let first : Contents = record { adapters = c.adapters; params = blanks c.adapters; drivers = []; sections = [] } in
    record {
      known = record k { has_params = two.0; drivers = three.0 };
      passes = ap (pass start) m.parts ∙ one ∙ two.1 ∙ three.1;
      ports = ports;
      made =
          ap (added empty) m.parts
          ∙ add_adapters empty 0 c.adapters (P ++ S)
          ∙ add_params first (length c.adapters) [] m.params S (sym (blank_gathered 0 c.adapters)) m.of_adapters
          ∙ add_sections (record first { params = gathered (length c.adapters) m.params }) 0 c.drivers c.sections m.each
          ∙ ap (λ (x : List (List ParamLine)). record { adapters = c.adapters; params = x; drivers = c.drivers; sections = c.sections }) (sym m.gathered);
    }
