-- Each item that a line states is in its limits, and so is what a script's items make.
use Rattle.std.proofs.Common.{◌≡◌, ℕ, zero, suc, ◌+◌, ◌-◌, ◌^◌, ◌<◌, ◌≤◌, Bool, true, List, [], ◌∷◌, ◌++◌, length, map, refl, sym, ap, subst, ◌∙◌, inl, inr, ◌⊎◌, arith}
use Rattle.std.specs.Prelude.{codes, ◌%◌, ◌==◌, slice_index}
use Rattle.std.specs.List.{AllByRecursion, range_with_len}
use Rattle.std.specs.Str.Lines.{lines}
use Rattle.std.proofs.lemmas.Bool.{eqb-true}
use Rattle.std.proofs.lemmas.List.FromFn.{length-map-range_with_len}
use Rattle.nd_base.specs.Words.{words}
use Rattle.nd_base.specs.declared.numbers.AdapterNo.{AdapterNo}
use Rattle.log_fields.specs.declared.field_values.Condition.{Condition}
use Rattle.driver_script.specs.declared.adapter_lines.AdapterLine.{AdapterLine}
use Rattle.driver_script.specs.declared.adapter_lines.ParamLine.{ParamLine}
use Rattle.driver_script.specs.declared.section_lines.Line.{Line}
use Rattle.driver_script.specs.declared.keywords.Keyword.{Keyword}
use Rattle.driver_script.specs.declared.keywords.Keyword.TheVariants as keywords
use Rattle.driver_script.specs.declared.keywords.Until.{Until}
use Rattle.driver_script.specs.declared.keywords.Until.TheVariants as untils
use Rattle.driver_script.specs.Items.{Item, Adapter, Param, Driver, Does, item, item_form, until_form, AreStated}
use Rattle.driver_script.specs.Scripts.{Contents, Make, IsScript, adapter_items, param_items, section_items, params_of}
use Rattle.driver_script.specs.Sound.{FitsAdapter, IsWaitedFor, FitsLine, FitsItem, IsSound, ScriptsAreSound}

until_fits : (k : Until) (ws : List (List ℕ)) (v : Condition) → (until_form k).states ws v → IsWaitedFor v
until_fits untils.Up ws v h = subst IsWaitedFor (sym h.2) tt
until_fits untils.Sent ws v h = subst IsWaitedFor (sym h.2) tt
until_fits untils.Replies ws v h = subst IsWaitedFor (sym h.2) tt
until_fits untils.Frames ws v h = let most = h.1.3.3 in subst IsWaitedFor (sym h.2) (omega (arith, most))
until_fits untils.All ws v h = subst IsWaitedFor (sym h.2) tt

form_fits : (k : Keyword) (ws : List (List ℕ)) (i : Item) → (item_form k).states ws i → FitsItem i
form_fits keywords.Adapter ws i h =
    let port = h.1.4.4.2 in
    let irq = port.4.2 in
    let mac = irq.4.2 in
    subst FitsItem (sym h.2) (record { port = port.3.1; least_irq = irq.3.2; most_irq = irq.3.3; mac = eqb-true (slice_index h.0.1.1.1.1.0 0 % 2) 0 mac.3.1 })
form_fits keywords.Param ws i h = subst FitsItem (sym h.2) tt
form_fits keywords.Driver ws i h = subst FitsItem (sym h.2) tt
form_fits keywords.Send ws i h = subst FitsItem (sym h.2) (h.1.3.1, h.1.3.2)
form_fits keywords.Burst ws i h = subst FitsItem (sym h.2) (h.1.3.2, h.1.3.3, h.1.4.3.2, h.1.4.3.3)
form_fits keywords.Query ws i h = subst FitsItem (sym h.2) tt
form_fits keywords.Set ws i h = subst FitsItem (sym h.2) tt
form_fits keywords.Await ws i h = subst FitsItem (sym h.2) (until_fits h.1.0 h.1.1 h.0 h.1.3)
form_fits keywords.Hold ws i h = subst FitsItem (sym h.2) tt
form_fits keywords.Release ws i h = subst FitsItem (sym h.2) tt

item_fits : (ws : List (List ℕ)) (i : Item) → item.states ws i → FitsItem i
unfolding item
item_fits ws i h = form_fits h.0 h.1 i h.3

stated_fit : (ls : List (List ℕ)) (is : List Item) → AreStated ls is → AllByRecursion FitsItem is
stated_fit [] is h = subst (AllByRecursion FitsItem) (sym h) tt
stated_fit (line ∷ ls) is (inl (nothing, rest)) = stated_fit ls is rest
stated_fit (line ∷ ls) is (inr (i, others, parts, states, rest)) = subst (AllByRecursion FitsItem) (sym parts) (item_fits (words line) i states.stated, stated_fit ls others rest)

-- ---- what they make

all_left : (xs ys : List Item) → AllByRecursion FitsItem (xs ++ ys) → AllByRecursion FitsItem xs
all_left [] ys h = tt
all_left (x ∷ xs) ys h = (h.0, all_left xs ys h.1)

all_right : (xs ys : List Item) → AllByRecursion FitsItem (xs ++ ys) → AllByRecursion FitsItem ys
all_right [] ys h = h
all_right (x ∷ xs) ys h = all_right xs ys h.1

adapters_fit : (n : ℕ) (adapters : List AdapterLine) → AllByRecursion FitsItem (adapter_items n adapters) → AllByRecursion FitsAdapter adapters
adapters_fit n [] h = tt
adapters_fit n (a ∷ adapters) h = (h.0, adapters_fit (suc n) adapters h.1)

lines_fit : (ls : List Line) → AllByRecursion FitsItem (map Does ls) → AllByRecursion FitsLine ls
lines_fit [] h = tt
lines_fit (l ∷ ls) h = (h.0, lines_fit ls h.1)

sections_fit : (n : ℕ) (drivers : List AdapterNo) (sections : List (List Line)) → length sections ≡ length drivers → AllByRecursion FitsItem (section_items n drivers sections) → AllByRecursion (AllByRecursion FitsLine) sections
sections_fit n [] [] e h = tt
sections_fit n [] (ls ∷ sections) e h = absurd (omega (arith, e))
sections_fit n (d ∷ drivers) [] e h = tt
sections_fit n (d ∷ drivers) (ls ∷ sections) e h =
    let rest = section_items (suc n) drivers sections in
    (lines_fit ls (all_left (map Does ls) rest h.1), sections_fit (suc n) drivers sections (omega (arith, e)) (all_right (map Does ls) rest h.1))

pub scripts_sound : ScriptsAreSound
scripts_sound text c (short, (some, (is, are, m))) =
    let fit = subst (AllByRecursion FitsItem) m.parts (stated_fit (lines text) is are) in
    let A = adapter_items 0 c.adapters in
    let P = param_items m.params in
    let S = section_items 0 c.drivers c.sections in
    record {
      some = some;
      few_adapters = m.few_adapters;
      adapters = adapters_fit 0 c.adapters (all_left A (P ++ S) fit);
      apart = m.apart;
      params = ap length m.gathered ∙ length-map-range_with_len (λ (a : ℕ). params_of a m.params) 0 (length c.adapters);
      few_drivers = m.few_drivers;
      drivers = m.on_adapters;
      sections = m.each;
      lines = sections_fit 0 c.drivers c.sections m.each (all_right P S (all_right A (P ++ S) fit));
    }
