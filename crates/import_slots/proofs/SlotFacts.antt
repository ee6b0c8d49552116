-- The slots of imports whose names are all known, and the first name that is not.
use Rattle.std.proofs.Common.{[], ◌≡◌, ℕ, ◌<◌, true, false, List, length, get_or, Option, Some, None, refl, sym, ap, ◌∙◌}
use Rattle.std.specs.Prelude.{is_none, unwrap_or}
use Rattle.std.specs.List.{find}
use Rattle.std.specs.Option.{option_map}
use Rattle.std.proofs.lemmas.Bool.{false≢true}
use Rattle.std.proofs.lemmas.Option.{none-some, same_Some}
use Rattle.std.proofs.lemmas.List.{get_or-map, length-map}
use Rattle.nd_base.specs.declared.numbers.Slot.TheVariants.{Import}
use Rattle.guest_map.specs.Slots.{slot_address}
use Rattle.pe_image.specs.Image.{ImportParts}
use Rattle.import_table.specs.Table.{number_of}
use Rattle.import_table.specs.Laws.{TableLaws}
use Rattle.import_slots.specs.Slots.{is_unknown, first_unknown, slot_of, addresses_of}
use Rattle.import_slots.specs.Laws.{HasName, IsServed, IsFirstUnknown, SlotLaws}
use Rattle.import_slots.proofs.Finding.{none_passes, first_found}

-- ---- from names to imports and back

unnamed : (o : Option ImportParts) → option_map (λ (i : ImportParts). i.name) o ≡ None → o ≡ None
unnamed None h = refl
unnamed (Some i) h = absurd (none-some i.name (sym h))

pub none_found : (imports : List ImportParts) → first_unknown imports ≡ None → find is_unknown imports ≡ None
unfolding first_unknown
none_found imports h = unnamed (find is_unknown imports) h

pub record Numbered (name : List ℕ) : Type 0 where
  pub import : ℕ
  pub number : number_of name ≡ Some import

numbered : (name : List ℕ) (o : Option ℕ) → number_of name ≡ o → is_none o ≡ false → Numbered name
numbered name (Some n) e h = record { import = n; number = e }
numbered name None e h = absurd (false≢true (sym h))

pub known : (i : ImportParts) → is_unknown i ≡ false → Numbered i.name
known i h = numbered i.name (number_of i.name) refl h

unnumbered : (o : Option ℕ) → is_none o ≡ true → o ≡ None
unnumbered None h = refl
unnumbered (Some n) h = absurd (false≢true h)

-- ---- each import of known ones

-- an import that stands nowhere
abbrev nowhere : ImportParts
nowhere = record { dll = []; name = []; slot = 0 }

known_at : (imports : List ImportParts) (k : ℕ) (name : List ℕ) → find is_unknown imports ≡ None → HasName imports k name → is_unknown (get_or imports k nowhere) ≡ false
known_at imports k name h has = none_passes is_unknown imports k nowhere h has.0

address_at : (imports : List ImportParts) (k : ℕ) → k < length imports → get_or (addresses_of imports) k 0 ≡ slot_of (get_or imports k nowhere)
address_at imports k less = get_or-map slot_of imports k nowhere 0 less

pub served : TableLaws → (imports : List ImportParts) (k : ℕ) (name : List ℕ) → first_unknown imports ≡ None → HasName imports k name → IsServed imports k name
served table imports k name h has =
    let here = known (get_or imports k nowhere) (known_at imports k name (none_found imports h) has) in
    let number = ap number_of (sym (has.1 nowhere)) ∙ here.number in
    record {
      import = here.import;
      number = number;
      slot = (table.from here.import name number, table.to here.import name number);
      address = address_at imports k has.0 ∙ ap (λ (o : Option ℕ). slot_address (Import (unwrap_or o 0))) here.number;
    }

-- ---- the first unknown one

told_from : (imports : List ImportParts) (name : List ℕ) (o : Option ImportParts) → find is_unknown imports ≡ o → option_map (λ (i : ImportParts). i.name) o ≡ Some name → IsFirstUnknown imports name
told_from imports name None e h = absurd (none-some name h)
told_from imports name (Some i) e h =
    let first = first_found is_unknown imports i e in
    let same = same_Some i.name name h in
    record {
      place = first.place;
      here = (first.inside, λ d. ap (λ (x : ImportParts). x.name) (first.here d) ∙ same);
      unknown = ap number_of (sym same) ∙ unnumbered (number_of i.name) first.passes;
      before = λ j other less has.
          let there = known (get_or imports j nowhere) (first.before j nowhere less) in
          (there.import, ap number_of (sym (has.1 nowhere)) ∙ there.number);
    }

pub told : (imports : List ImportParts) (name : List ℕ) → first_unknown imports ≡ Some name → IsFirstUnknown imports name
unfolding first_unknown
told imports name h = told_from imports name (find is_unknown imports) refl h

pub slot_facts : TableLaws → SlotLaws
slot_facts table = record {
  count = λ imports. length-map imports slot_of;
  served = served table;
  told = told;
}
