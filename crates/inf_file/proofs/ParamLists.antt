-- Parameters in their table and one behind the other: their names, the value of a name, and that these tell them.
use Rattle.std.proofs.Common.{inl, inr, ◌≡◌, ℕ, true, false, List, [], ◌∷◌, is_some, refl, ap, ◌++◌, Option, None, Some, sym, ap₂, ◌∙◌, subst, true≢false}
use Rattle.std.specs.Map.{lookup}
use Rattle.std.proofs.lemmas.Bool.{cases_Bool}
use Rattle.indexmap.specs.IndexMap.{insert_entry}
use Rattle.inf_text.specs.Names.{is_same, same_laws}
use Rattle.inf_file.specs.Keyed.{param_in, params_in}
use Rattle.inf_file.specs.Rows.{with_param, with_default}
use Rattle.inf_file.specs.declared.param.Param.{Param}
use Rattle.inf_file.specs.declared.param.ParamValue.{ParamValue}
use Rattle.std.specs.Prelude.{reverse, if◌then◌else◌}
use Rattle.std.specs.List.{fold, list_any, AllByRecursion, IsDistinct}
use Rattle.std.specs.Option.{option_or}
use Rattle.std.proofs.lemmas.List.{reverse-append}
use Rattle.std.proofs.lemmas.Map.Keys.{IsDistinct-push}
use Rattle.indexmap.specs.IndexSet.{insert_key, insert_all}
use Rattle.inf_file.specs.ByName.{names, value_of}
use Rattle.inf_file.proofs.ListLemmas.{or_none, or_assoc}

-- ---- parameters put into a table

pub inserted : (es : List (List ℕ × ParamValue)) (name : List ℕ) (v : ParamValue) → params_in (insert_entry is_same es name v) ≡ with_param (params_in es) (record { name = name; value = v })
unfolding with_param
inserted [] name v = refl
inserted (e ∷ es) name v = elim (cases_Bool (is_same name e.0)) [ inl on ↦ rw on refl | inr off ↦ rw off (ap (λ (rest : List Param). param_in e ∷ rest) (inserted es name v)) ]

pub default_new : (es : List (List ℕ × ParamValue)) (name : List ℕ) (v : ParamValue) → is_some (lookup (is_same name) es) ≡ false → params_in (insert_entry is_same es name v) ≡ with_default (params_in es) (record { name = name; value = v })
unfolding with_default
default_new [] name v h = refl
default_new (e ∷ es) name v h = elim (cases_Bool (is_same name e.0)) [
  | inl on ↦ let h2 = rw on at h in absurd cc
  | inr off ↦ let h2 = rw off at h in rw off (ap (λ (rest : List Param). param_in e ∷ rest) (default_new es name v h2))
]

pub default_old : (es : List (List ℕ × ParamValue)) (name : List ℕ) (v : ParamValue) → is_some (lookup (is_same name) es) ≡ true → params_in es ≡ with_default (params_in es) (record { name = name; value = v })
unfolding with_default
default_old [] name v h = absurd cc
default_old (e ∷ es) name v h = elim (cases_Bool (is_same name e.0)) [
  | inl on ↦ rw on refl
  | inr off ↦ let h2 = rw off at h in rw off (ap (λ (rest : List Param). param_in e ∷ rest) (default_old es name v h2))
]

-- ---- parameters one behind the other: their names, the value of a name, and that these tell them

name_behind : (m n : List ℕ) (ms : List (List ℕ)) → m ∷ insert_key is_same ms n ≡ (if list_any (is_same n) ms then m ∷ ms else m ∷ (ms ++ n ∷ []))
name_behind m n ms = elim (cases_Bool (list_any (is_same n) ms)) [ inl on ↦ rw on refl | inr off ↦ rw off refl ]

names-with_param : (ps : List Param) (p : Param) → names (with_param ps p) ≡ insert_key is_same (names ps) p.name
unfolding with_param
names-with_param [] p = refl
names-with_param (q ∷ qs) p = elim (cases_Bool (is_same p.name q.name)) [
  | inl on ↦ rw on refl
  | inr off ↦ rw off (ap (λ (ns : List (List ℕ)). q.name ∷ ns) (names-with_param qs p) ∙ name_behind q.name p.name (names qs))
]

names-with_default : (ps : List Param) (p : Param) → names (with_default ps p) ≡ insert_key is_same (names ps) p.name
unfolding with_default
names-with_default [] p = refl
names-with_default (q ∷ qs) p = elim (cases_Bool (is_same p.name q.name)) [
  | inl on ↦ rw on refl
  | inr off ↦ rw off (ap (λ (ns : List (List ℕ)). q.name ∷ ns) (names-with_default qs p) ∙ name_behind q.name p.name (names qs))
]

pub names-set : (qs ps : List Param) → names (fold with_param ps qs) ≡ insert_all is_same (names ps) (names qs)
names-set [] ps = refl
names-set (q ∷ qs) ps = names-set qs (with_param ps q) ∙ ap (λ (ns : List (List ℕ)). insert_all is_same ns (names qs)) (names-with_param ps q)

pub names-defaults : (ds ps : List Param) → names (fold with_default ps ds) ≡ insert_all is_same (names ps) (names ds)
names-defaults [] ps = refl
names-defaults (d ∷ ds) ps = names-defaults ds (with_default ps d) ∙ ap (λ (ns : List (List ℕ)). insert_all is_same ns (names ds)) (names-with_default ps d)

pub names-differ : (ns ks : List (List ℕ)) → IsDistinct is_same ks → IsDistinct is_same (insert_all is_same ks ns)
names-differ [] ks h = h
names-differ (n ∷ ns) ks h = names-differ ns (insert_key is_same ks n) (elim (cases_Bool (list_any (is_same n) ks)) [ inl on ↦ rw on h | inr off ↦ rw off (IsDistinct-push same_laws ks n h off) ])

-- ---- the value of a name

-- texts that one text is the same as
same_two : (name a b : List ℕ) → is_same name a ≡ true → is_same name b ≡ true → is_same a b ≡ true
same_two name a b h k = sym (same_laws.congr name a b h) ∙ k

same_right : (name a b : List ℕ) → is_same a b ≡ true → is_same name a ≡ is_same name b
same_right name a b h = same_laws.symm name a ∙ same_laws.congr a b name h ∙ same_laws.symm b name

or_else : List ℕ → Param → Option ParamValue → Option ParamValue
or_else name p v = if is_same name p.name then Some p.value else v

value-append : (name : List ℕ) (ps qs : List Param) → value_of name (ps ++ qs) ≡ option_or (value_of name ps) (value_of name qs)
value-append name [] qs = refl
value-append name (p ∷ ps) qs = elim (cases_Bool (is_same name p.name)) [ inl on ↦ rw on refl | inr off ↦ rw off (value-append name ps qs) ]

value-set : (name : List ℕ) (ps : List Param) (p : Param) → value_of name (with_param ps p) ≡ or_else name p (value_of name ps)
unfolding with_param or_else
value-set name [] p = elim (cases_Bool (is_same name p.name)) [ inl on ↦ rw on refl | inr off ↦ rw off refl ]
value-set name (q ∷ qs) p = elim (cases_Bool (is_same p.name q.name)) [
  | inl same ↦ rw (same, same_right name p.name q.name same) (elim (cases_Bool (is_same name q.name)) [ inl on ↦ rw on refl | inr off ↦ rw off refl ])
  | inr other ↦ rw other (elim (cases_Bool (is_same name q.name)) [
    | inl on ↦ elim (cases_Bool (is_same name p.name)) [
      | inl on2 ↦ absurd (true≢false (sym (same_two name p.name q.name on2 on) ∙ other))
      | inr off ↦ rw (on, off) refl
    ]
    | inr off ↦ rw off (value-set name qs p)
  ])
]

value-default : (name : List ℕ) (ps : List Param) (p : Param) → value_of name (with_default ps p) ≡ option_or (value_of name ps) (value_of name (p ∷ []))
unfolding with_default
value-default name [] p = refl
value-default name (q ∷ qs) p = elim (cases_Bool (is_same p.name q.name)) [
  | inl same ↦ rw (same, same_right name p.name q.name same) (elim (cases_Bool (is_same name q.name)) [ inl on ↦ rw on refl | inr off ↦ rw off (sym (or_none (value_of name qs))) ])
  | inr other ↦ rw other (elim (cases_Bool (is_same name q.name)) [ inl on ↦ rw on refl | inr off ↦ rw off (value-default name qs p) ])
]

or_behind : (name : List ℕ) (p : Param) (v w : Option ParamValue) → option_or v (or_else name p w) ≡ option_or (option_or v (value_of name (p ∷ []))) w
unfolding or_else
or_behind name p None w = elim (cases_Bool (is_same name p.name)) [ inl on ↦ rw on refl | inr off ↦ rw off refl ]
or_behind name p (Some x) w = refl

value-reverse : (name : List ℕ) (p : Param) (ps : List Param) → value_of name (reverse (p ∷ ps)) ≡ option_or (value_of name (reverse ps)) (value_of name (p ∷ []))
value-reverse name p ps = ap (value_of name) (reverse-append (p ∷ []) ps) ∙ value-append name (reverse ps) (p ∷ [])

pub value-sets : (name : List ℕ) (ps held : List Param) → value_of name (fold with_param held ps) ≡ option_or (value_of name (reverse ps)) (value_of name held)
value-sets name [] held = refl
value-sets name (p ∷ ps) held =
    value-sets name ps (with_param held p) ∙ ap (option_or (value_of name (reverse ps))) (value-set name held p)
    ∙ or_behind name p (value_of name (reverse ps)) (value_of name held) ∙ ap (λ (v : Option ParamValue). option_or v (value_of name held)) (sym (value-reverse name p ps))

pub value-defaults : (name : List ℕ) (ds held : List Param) → value_of name (fold with_default held ds) ≡ option_or (value_of name held) (value_of name ds)
value-defaults name [] held = sym (or_none (value_of name held))
value-defaults name (d ∷ ds) held =
    value-defaults name ds (with_default held d) ∙ ap (λ (v : Option ParamValue). option_or v (value_of name ds)) (value-default name held d)
    ∙ or_assoc (value_of name held) (value_of name (d ∷ [])) (value_of name ds) ∙ ap (option_or (value_of name held)) (sym (value-append name (d ∷ []) ds))

-- ---- names that differ and their values tell the parameters

no_value : (name n : List ℕ) (ps : List Param) → AllByRecursion (λ m. is_same n m ≡ false) (names ps) → is_same name n ≡ true → value_of name ps ≡ None
no_value name n [] h on = refl
no_value name n (p ∷ ps) h on = rw (same_laws.congr name n p.name on ∙ h.0) (no_value name n ps h.1 on)

pub told : (ps qs : List Param) → IsDistinct is_same (names ps) → names ps ≡ names qs → ((name : List ℕ) → value_of name ps ≡ value_of name qs) → ps ≡ qs
unfolding IsDistinct
told [] [] d e v = refl
told [] (q ∷ qs) d e v = absurd cc
told (p ∷ ps) [] d e v = absurd cc
told (p ∷ ps) (q ∷ qs) d e v =
    let n : p.name ≡ q.name = cc in
    let ns : names ps ≡ names qs = cc in
    let one : Some p.value ≡ Some q.value = rw (same_laws.refl p.name, ap (is_same p.name) (sym n) ∙ same_laws.refl p.name) at (v p.name) in
    let same : p ≡ q = ap₂ (λ (m : List ℕ) (w : ParamValue). record { name = m; value = w }) n cc in
    let rest = λ (name : List ℕ). elim (cases_Bool (is_same name p.name)) as (λ _. value_of name ps ≡ value_of name qs) [
      | inl on ↦ no_value name p.name ps d.0 on ∙ sym (no_value name p.name qs (subst (λ (ms : List (List ℕ)). AllByRecursion (λ m. is_same p.name m ≡ false) ms) ns d.0) on)
      | inr off ↦ rw (off, ap (is_same name) (sym n) ∙ off) at (v name)
    ] in
    ap₂ (λ (r : Param) (rs : List Param). r ∷ rs) same (told ps qs d.1 ns rest)
