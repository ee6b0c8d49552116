-- Lines one after the other: which begin a script, and which is the first that does not go on.
use Rattle.std.proofs.Common.{◌≡◌, ◌≢◌, ℕ, zero, suc, ◌+◌, ◌<◌, ◌≤◌, ◌^◌, Bool, true, false, not, cond, eqb, ltb, List, [], ◌∷◌, ◌++◌, length, map, take, drop, get_or, Option, Some, None, Result, Ok, Err, refl, sym, ap, subst, ◌∙◌, inl, inr, ◌⊎◌, arith, append_assoc, length-append}
use Rattle.std.specs.Prelude.{codes}
use Rattle.std.specs.Option.{option_map, option_map_or}
use Rattle.std.specs.List.{AllByRecursion}
use Rattle.std.specs.Str.Lines.{lines}
use Rattle.std.proofs.lemmas.Bool.{cases_Bool, cases_lt, cases_order, lt-ltb, ltb-true, ltb-false, le-ltb}
use Rattle.std.proofs.lemmas.List.{append-nil, length-map, take-append-drop}
use Rattle.nd_base.specs.Words.{SaysNothing}
use Rattle.nd_base.specs.declared.numbers.AdapterNo.{AdapterNo}
use Rattle.driver_script.specs.declared.adapter_lines.AdapterLine.{AdapterLine}
use Rattle.driver_script.specs.declared.adapter_lines.ParamLine.{ParamLine}
use Rattle.driver_script.specs.Items.{Item, Adapter, Param, Driver, Does, States, AreStated}
use Rattle.driver_script.specs.Scripts.{Contents, Make, AreLinesOf, BeginAScript, IsFirstOutside, adapter_items, param_items, section_items}
use Rattle.driver_script.specs.Reading.{Said, Nothing, Says, Outside, said, Known, start, accepts, after, step, first_outside, empty, add, put, built}
use Rattle.driver_script.proofs.Lines.{said_states, said_nothing, Holds, holds, sample, sample_line, sample_stated}
use Rattle.driver_script.proofs.Making.{Linked, at_start, linked, pass, added, no_items}
use Rattle.driver_script.proofs.Whole.{Passed, passed_whole}

abbrev pub walk_on : Option Known → (Known → Option Known) → Option Known
walk_on None f = None
walk_on (Some k) f = f k

abbrev pub walk : Known → List (List ℕ) → Option Known
walk k [] = Some k
walk k (line ∷ ls) = walk_on (step k (said line)) (λ next. walk next ls)

-- ---- what the lines state

abbrev item_of_line : Said → List Item → List Item
item_of_line Nothing is = is
item_of_line (Says i) is = i ∷ is
item_of_line Outside is = is

abbrev stated : List (List ℕ) → List Item
stated [] = []
stated (line ∷ ls) = item_of_line (said line) (stated ls)

record Told (k : Known) (next : Known) (ls : List (List ℕ)) : Type 0 where
  are : AreStated ls (stated ls)
  passes : pass k (stated ls) ≡ Some next

told_more : (k next : Known) (line : List ℕ) (ls : List (List ℕ)) (s : Said) → said line ≡ s → Holds line s → walk_on (step k s) (λ x. walk x ls) ≡ Some next → ((x : Known) → walk x ls ≡ Some next → Told x next ls)
    → AreStated (line ∷ ls) (item_of_line s (stated ls)) × (pass k (item_of_line s (stated ls)) ≡ Some next)
told_more k next line ls Nothing is holds h ih = let t = ih k h in (inl (holds, t.are), t.passes)
told_more k next line ls (Says i) is holds h ih = elim (cases_Bool (accepts k i)) [
  | inl on ↦
      let rest : walk (after k i) ls ≡ Some next = rw on at h in
      let t = ih (after k i) rest in
      (inr (i, stated ls, refl, holds, t.are), rw on t.passes)
  | inr off ↦ let e : None ≡ Some next = rw off at h in absurd cc
]
told_more k next line ls Outside is holds h ih = absurd cc

told : (k next : Known) (ls : List (List ℕ)) → walk k ls ≡ Some next → Told k next ls
told k next [] h = record { are = refl; passes = h }
told k next (line ∷ ls) h = let p = told_more k next line ls (said line) refl (holds line) h (λ x e. told x next ls e) in record { are = p.0; passes = p.1 }

put_said : (c : Contents) (s : Said) (is : List Item) → added (put c s) is ≡ added c (item_of_line s is)
put_said c Nothing is = refl
put_said c (Says i) is = refl
put_said c Outside is = refl

builds : (c : Contents) (ls : List (List ℕ)) → built c ls ≡ added c (stated ls)
unfolding built
builds c [] = refl
builds c (line ∷ ls) = builds (put c (said line)) ls ∙ put_said c (said line) (stated ls)

-- lines that state items are walked as these are passed, and state no others
record Walked (k : Known) (ls : List (List ℕ)) (is : List Item) : Type 0 where
  walks : walk k ls ≡ pass k is
  same : stated ls ≡ is

walk_item : (k : Known) (i : Item) (ls : List (List ℕ)) → walk_on (step k (Says i)) (λ x. walk x ls) ≡ cond (accepts k i) (walk (after k i) ls) None
walk_item k i ls = elim (cases_Bool (accepts k i)) [
  | inl on ↦ rw on refl
  | inr off ↦ rw off refl
]

walked : (k : Known) (ls : List (List ℕ)) (is : List Item) → AreStated ls is → Walked k ls is
walked k [] is h = record { walks = ap (pass k) (sym h); same = sym h }
walked k (line ∷ ls) is (inl (nothing, rest)) =
    let e = said_nothing line nothing in
    let w = walked k ls is rest in
    record {
      walks = ap (λ (s : Said). walk_on (step k s) (λ x. walk x ls)) e ∙ w.walks;
      same = ap (λ (s : Said). item_of_line s (stated ls)) e ∙ w.same;
    }
walked k (line ∷ ls) is (inr (i, others, parts, states, rest)) =
    let e = said_states line i states in
    let w = walked (after k i) ls others rest in
    record {
      walks =
          ap (λ (s : Said). walk_on (step k s) (λ x. walk x ls)) e
          ∙ walk_item k i ls
          ∙ ap (λ (o : Option Known). cond (accepts k i) o None) w.walks
          ∙ ap (pass k) (sym parts);
      same = ap (λ (s : Said). item_of_line s (stated ls)) e ∙ ap (λ (xs : List Item). i ∷ xs) w.same ∙ sym parts;
    }

-- ---- which lines begin a script

walk_front_on : (o : Option Known) (next : Known) (xs ys : List (List ℕ)) → walk_on o (λ x. walk x (xs ++ ys)) ≡ Some next → ((m : Known) → walk m (xs ++ ys) ≡ Some next → (mid : Known) × (walk m xs ≡ Some mid)) → (mid : Known) × (walk_on o (λ x. walk x xs) ≡ Some mid)
walk_front_on None next xs ys h ih = absurd cc
walk_front_on (Some m) next xs ys h ih = ih m h

walk_front : (k next : Known) (xs ys : List (List ℕ)) → walk k (xs ++ ys) ≡ Some next → (mid : Known) × (walk k xs ≡ Some mid)
walk_front k next [] ys h = (k, refl)
walk_front k next (x ∷ xs) ys h = walk_front_on (step k (said x)) next xs ys h (λ m e. walk_front m next xs ys e)

no_params : (ps : List (ℕ × ParamLine)) → AllByRecursion (λ p. p.0 < 0) ps → ps ≡ []
no_params [] h = refl
no_params (p ∷ ps) h = let lt = h.0 in absurd (omega (arith, lt))

no_drivers : (ds : List AdapterNo) → AllByRecursion (λ d. d.0 < 0) ds → ds ≡ []
no_drivers [] h = refl
no_drivers (d ∷ ds) h = let lt = h.0 in absurd (omega (arith, lt))

-- what makes no items at all
nothing_made : (is : List Item) (c : Contents) → Make is c → length c.adapters ≡ 0 → is ≡ []
nothing_made is c m none =
    let bare : c.adapters ≡ [] = no_items c.adapters none in
    let ps : m.params ≡ [] = no_params m.params (subst (λ (n : ℕ). AllByRecursion (λ p. p.0 < n) m.params) none m.of_adapters) in
    let ds : c.drivers ≡ [] = no_drivers c.drivers (subst (λ (n : ℕ). AllByRecursion (λ a. a.0 < n) c.drivers) none m.on_adapters) in
    m.parts
    ∙ ap (λ (x : List AdapterLine). adapter_items 0 x ++ (param_items m.params ++ section_items 0 c.drivers c.sections)) bare
    ∙ ap (λ (x : List (ℕ × ParamLine)). param_items x ++ section_items 0 c.drivers c.sections) ps
    ∙ ap (λ (x : List AdapterNo). section_items 0 x c.sections) ds

stated_push : (ls : List (List ℕ)) (is : List Item) (line : List ℕ) (i : Item) → AreStated ls is → States line i → AreStated (ls ++ line ∷ []) (is ++ i ∷ [])
stated_push [] is line i h s = inr (i, [], ap (λ (x : List Item). x ++ i ∷ []) h, s, refl)
stated_push (l ∷ ls) is line i (inl (nothing, rest)) s = inl (nothing, stated_push ls is line i rest s)
stated_push (l ∷ ls) is line i (inr (j, others, parts, states, rest)) s = inr (j, others ++ i ∷ [], ap (λ (x : List Item). x ++ i ∷ []) parts, states, stated_push ls others line i rest s)

-- a walk from the start, and what its lines are
pub record Known_of (ls : List (List ℕ)) (next : Known) : Type 0 where
  pub are : AreStated ls (stated ls)
  pub link : Linked next (stated ls) (built empty ls)
  pub ports : length next.ports ≡ length (built empty ls).adapters

pub known_of : (ls : List (List ℕ)) (next : Known) → walk start ls ≡ Some next → Known_of ls next
known_of ls next h =
    let t = told start next ls h in
    let l = linked start next [] (stated ls) empty at_start t.passes in
    let m : Linked next (stated ls) (built empty ls) = subst (λ (c : Contents). Linked next (stated ls) c) (sym (builds empty ls)) l in
    record { are = t.are; link = m; ports = ap length m.ports ∙ length-map (built empty ls).adapters (λ (a : AdapterLine). a.port) }

pub lines_of : (ls : List (List ℕ)) (next : Known) → walk start ls ≡ Some next → 0 < length next.ports → AreLinesOf ls (built empty ls)
lines_of ls next h some = let k = known_of ls next h in let e = k.ports in (omega (arith, e, some), (stated ls, k.are, k.link.make))

pub begins : (ls : List (List ℕ)) (next : Known) → walk start ls ≡ Some next → BeginAScript ls
begins ls next h =
    let k = known_of ls next h in
    elim (cases_lt 0 (length next.ports)) [
      | inl some ↦ ([], built empty ls, subst (λ (xs : List (List ℕ)). AreLinesOf xs (built empty ls)) (sym (append-nil ls)) (lines_of ls next h some))
      | inr none ↦
          let e = k.ports in
          let no : length (built empty ls).adapters ≡ 0 = omega (arith, none, e) in
          let is = nothing_made (stated ls) (built empty ls) k.link.make no in
          let line = stated_push ls (stated ls) sample_line (Adapter 0 sample) k.are sample_stated in
          let alone : AreStated (ls ++ sample_line ∷ []) (Adapter 0 sample ∷ []) = subst (λ (xs : List Item). AreStated (ls ++ sample_line ∷ []) (xs ++ Adapter 0 sample ∷ [])) is line in
          let c : Contents = record { adapters = sample ∷ []; params = [] ∷ []; drivers = []; sections = [] } in (
            sample_line ∷ [],
            c,
            (
              omega arith,
              (
                Adapter 0 sample ∷ [],
                alone,
                record {
                  params = [];
                  parts = refl;
                  few_adapters = omega arith;
                  few_drivers = omega arith;
                  apart = λ i j d lt small. absurd (omega arith);
                  of_adapters = tt;
                  on_adapters = tt;
                  gathered = refl;
                  each = refl;
                },
              ),
            ),
          )
    ]

pub record Script_of (ls : List (List ℕ)) (c : Contents) : Type 0 where
  pub known : Known
  pub walks : walk start ls ≡ Some known
  pub some : 0 < length known.ports
  pub made : built empty ls ≡ c

pub script_of : (ls : List (List ℕ)) (c : Contents) → AreLinesOf ls c → Script_of ls c
script_of ls c (some, (is, are, make)) =
    let p = passed_whole is c make in
    let w = walked start ls is are in
    let e = p.ports in
    record { known = p.known; walks = w.walks ∙ p.passes; some = omega (arith, some, e); made = builds empty ls ∙ ap (added empty) w.same ∙ p.made }

pub begun : (ls : List (List ℕ)) → BeginAScript ls → (next : Known) × (walk start ls ≡ Some next)
begun ls (more, c, are) = let s = script_of (ls ++ more) c are in walk_front start s.known ls more s.walks

-- ---- the first line outside

pub data Found (n : ℕ) (k : Known) (ls : List (List ℕ)) : Option ℕ → Type 0 where
  AllGood : (next : Known) → walk k ls ≡ Some next → 0 < length next.ports → Found n k ls None
  Bare : (next : Known) → walk k ls ≡ Some next → length next.ports ≡ 0 → (m : ℕ) → m ≡ n + length ls → Found n k ls (Some m)
  Stops : (j : ℕ) → j < length ls → (next : Known) → walk k (take j ls) ≡ Some next → walk k (take (suc j) ls) ≡ None → (m : ℕ) → m ≡ n + j → Found n k ls (Some m)

found_more : (n : ℕ) (k next : Known) (line : List ℕ) (ls : List (List ℕ)) (o : Option ℕ) → step k (said line) ≡ Some next → Found (n + 1) next ls o → Found n k (line ∷ ls) o
found_more n k next line ls _ e (AllGood last w some) = AllGood last (ap (λ (x : Option Known). walk_on x (λ y. walk y ls)) e ∙ w) some
found_more n k next line ls _ e (Bare last w none m is) = Bare last (ap (λ (x : Option Known). walk_on x (λ y. walk y ls)) e ∙ w) none m (omega (arith, is))
found_more n k next line ls _ e (Stops j lt last w stop m is) =
    Stops (suc j) (omega (arith, lt)) last (ap (λ (x : Option Known). walk_on x (λ y. walk y (take j ls))) e ∙ w) (ap (λ (x : Option Known). walk_on x (λ y. walk y (take (suc j) ls))) e ∙ stop) m (omega (arith, is))

found_step : (n : ℕ) (k : Known) (line : List ℕ) (ls : List (List ℕ)) (o : Option Known) → step k (said line) ≡ o → ((next : Known) → Found (n + 1) next ls (first_outside (n + 1) next ls)) → Found n k (line ∷ ls) (option_map_or (λ next. first_outside (n + 1) next ls) o (Some n))
found_step n k line ls None e ih = Stops 0 (omega arith) k refl (ap (λ (x : Option Known). walk_on x (λ y. walk y [])) e) n (omega arith)
found_step n k line ls (Some next) e ih = found_more n k next line ls (first_outside (n + 1) next ls) e (ih next)

found_end : (n : ℕ) (k : Known) (b : Bool) → ltb 0 (length k.ports) ≡ b → Found n k [] (cond b None (Some n))
found_end n k true h = AllGood k refl (ltb-true 0 (length k.ports) h)
found_end n k false h = let le = ltb-false 0 (length k.ports) h in Bare k refl (omega (arith, le)) n (omega arith)

pub found : (n : ℕ) (k : Known) (ls : List (List ℕ)) → Found n k ls (first_outside n k ls)
unfolding first_outside
found n k [] = found_end n k (ltb 0 (length k.ports)) refl
found n k (line ∷ ls) = found_step n k line ls (step k (said line)) refl (λ next. found (n + 1) next ls)

-- ---- and what it is

no_walk : (ls : List (List ℕ)) → walk start ls ≡ None → BeginAScript ls → ⊥
no_walk ls h b = let w = begun ls b in let e : None ≡ Some w.0 = sym h ∙ w.1 in absurd cc

abbrev pub Answers : List (List ℕ) → Option ℕ → Type 0
Answers ls None = (c : Contents) × AreLinesOf ls c × (built empty ls ≡ c)
Answers ls (Some m) = IsFirstOutside ls m

one_known : (k : Known) (ls : List (List ℕ)) (a b : Known) → walk k ls ≡ Some a → walk k ls ≡ Some b → a ≡ b
one_known k ls a b p q = let e : Some a ≡ Some b = sym p ∙ q in cc

no_script : (ls : List (List ℕ)) (next : Known) → walk start ls ≡ Some next → length next.ports ≡ 0 → (c : Contents) → AreLinesOf ls c → ⊥
no_script ls next w none c are =
    let s = script_of ls c are in
    let same = one_known start ls next s.known w s.walks in
    let some : 0 < length next.ports = subst (λ (k : Known). 0 < length k.ports) (sym same) s.some in
    absurd (omega (arith, some, none))

answered : (ls : List (List ℕ)) (o : Option ℕ) → Found 1 start ls o → Answers ls o
answered ls _ (AllGood next w some) = (built empty ls, lines_of ls next w some, refl)
answered ls _ (Bare next w none m is) = inr (omega (arith, is), begins ls next w, no_script ls next w none)
answered ls _ (Stops j lt next w stop m is) = inl (j, omega (arith, is), lt, begins (take j ls) next w, no_walk (take (suc j) ls) stop)

pub answers : (ls : List (List ℕ)) → Answers ls (first_outside 1 start ls)
answers ls = answered ls (first_outside 1 start ls) (found 1 start ls)

-- ---- no two answers

take_front : (j k : ℕ) (ls : List (List ℕ)) → j ≤ k → (more : List (List ℕ)) × (take k ls ≡ take j ls ++ more)
take_front zero k ls le = (take k ls, refl)
take_front (suc j) zero ls le = absurd (omega arith)
take_front (suc j) (suc k) [] le = ([], refl)
take_front (suc j) (suc k) (l ∷ ls) le = let t = take_front j k ls (omega arith) in (t.0, ap (λ (xs : List (List ℕ)). l ∷ xs) t.1)

begin_front : (xs ys : List (List ℕ)) → BeginAScript (xs ++ ys) → BeginAScript xs
begin_front xs ys (more, c, are) = (ys ++ more, c, subst (λ (zs : List (List ℕ)). AreLinesOf zs c) (append_assoc xs ys more) are)

begin_less : (j k : ℕ) (ls : List (List ℕ)) → j ≤ k → BeginAScript (take k ls) → BeginAScript (take j ls)
begin_less j k ls le b = let t = take_front j k ls le in begin_front (take j ls) t.0 (subst BeginAScript t.1 b)

begin_take : (j : ℕ) (ls : List (List ℕ)) → BeginAScript ls → BeginAScript (take j ls)
begin_take j ls b =
    let t = take-append-drop j ls in
    begin_front (take j ls) (drop j ls) (subst BeginAScript (sym t) b)

pub no_both : (ls : List (List ℕ)) (c : Contents) (m : ℕ) → AreLinesOf ls c → IsFirstOutside ls m → ⊥
no_both ls c m are (inl (k, is, lt, before, stop)) = stop (begin_take (suc k) ls ([], c, subst (λ (xs : List (List ℕ)). AreLinesOf xs c) (sym (append-nil ls)) are))
no_both ls c m are (inr (is, before, none)) = none c are

pub one_outside : (ls : List (List ℕ)) (m n : ℕ) → IsFirstOutside ls m → IsFirstOutside ls n → m ≡ n
one_outside ls m n (inl (j, isj, ltj, beforej, stopj)) (inl (k, isk, ltk, beforek, stopk)) = elim (cases_order j k) [
  | inl same ↦ omega (arith, isj, isk, same)
  | inr (inl less) ↦ absurd (stopj (begin_less (suc j) k ls (omega (arith, less)) beforek))
  | inr (inr more) ↦ absurd (stopk (begin_less (suc k) j ls (omega (arith, more)) beforej))
]
one_outside ls m n (inl (j, isj, ltj, beforej, stopj)) (inr (is, before, none)) = absurd (stopj (begin_take (suc j) ls before))
one_outside ls m n (inr (is, before, none)) (inl (k, isk, ltk, beforek, stopk)) = absurd (stopk (begin_take (suc k) ls before))
one_outside ls m n (inr (is, before, none)) (inr (isn, beforen, nonen)) = is ∙ sym isn
