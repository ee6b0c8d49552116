-- Names and values of the parameters that rows give; sections that are named again and again need no more than two readings.
use Rattle.std.proofs.Common.{◌≡◌, ℕ, List, [], ◌∷◌, ◌++◌, Option, None, Some, Ok, refl, sym, ap, ◌∙◌, subst, ◌+◌, ◌<◌, Bool, length, map, take, get_or}
use Rattle.std.specs.Prelude.{reverse}
use Rattle.std.specs.List.{fold, filter_map, flat_map, cons_option, IsDistinct}
use Rattle.std.specs.Option.{option_or}
use Rattle.std.proofs.lemmas.List.{map-append, append-nil, reverse-append}
use Rattle.std.proofs.lemmas.List.Sums.{fold-append}
use Rattle.std.proofs.lemmas.List.Concat.{flat_map-cons}
use Rattle.std.proofs.lemmas.Grind.{flat_map-append}
use Rattle.indexmap.specs.IndexSet.{insert_key, insert_all}
use Rattle.inf_text.specs.Names.{is_same}
use Rattle.inf_text.specs.Sections.{Line, Section, place_named, lines_at}
use Rattle.inf_file.specs.Strings.{Strings, replaced, line_lacks}
use Rattle.inf_file.specs.Rows.{with_param, with_default, saying, set_by, set_some, setting, given_default, params_of, is_bad}
use Rattle.inf_file.specs.Repeats.{thinned}
use Rattle.inf_file.specs.Parameters.{strings_in, parameters_of, named_places, reg_places, lines_of_all, lines_read, unless_bad, unless_lacking, of_rows}
use Rattle.inf_file.specs.ByName.{rows_of, set_by_rows, defaults_by_rows, names, each_once, value_of}
use Rattle.inf_file.specs.declared.param.Param.{Param}
use Rattle.inf_file.specs.declared.param.ParamValue.{ParamValue}
use Rattle.inf_file.proofs.ListLemmas.{or_none, filter_map-flat, take_item, fold-all}
use Rattle.inf_file.proofs.RepeatFolds.{fold-thinned, fold-thinned_back, with_default-once, with_default-still, earlier_if-once, earlier_if-still}
use Rattle.inf_file.proofs.ParamLists.{names-set, names-defaults, names-differ, value-sets, value-defaults, told}
use Rattle.inf_file.proofs.AnswerLaws.{answered}
use Rattle.std.proofs.lemmas.List.Elements.{filter_map-append}
use Rattle.inf_file.specs.Earliest.{earlier_if, earliest}

-- ---- each name comes once, where its first row stands; its value is that of the last row that sets it, and else the first default; and

one_set : (o : Option Param) (ps rest : List Param) → fold with_param (set_some ps o) rest ≡ fold with_param ps (cons_option o rest)
one_set None ps rest = refl
one_set (Some p) ps rest = refl

setting-fold : (s : Strings) (ps : List Param) (rows : List Line) → fold (setting s) ps rows ≡ fold with_param ps (filter_map (λ row. set_by (saying s row)) rows)
setting-fold s ps [] = refl
setting-fold s ps (row ∷ rows) = setting-fold s (setting s ps row) rows ∙ one_set (set_by (saying s row)) ps (filter_map (λ r. set_by (saying s r)) rows)

-- ---- sections that are read twice at most

module _ (at : ℕ → List Param) where
  back : ℕ → List Param
  back p = reverse (at p)

  flat_back : (qs : List ℕ) → reverse (flat_map at qs) ≡ flat_map back (reverse qs)
  unfolding back
  flat_back [] = refl
  flat_back (q ∷ qs) =
      ap reverse (flat_map-cons at q qs) ∙ reverse-append (at q) (flat_map at qs) ∙ ap (λ (ps : List Param). ps ++ reverse (at q)) (flat_back qs)
      ∙ ap (λ (ps : List Param). flat_map back (reverse qs) ++ ps) (sym (flat_map-cons back q [] ∙ append-nil (reverse (at q))))
      ∙ sym (flat_map-append back (reverse qs) (q ∷ [])) ∙ ap (flat_map back) (sym (reverse-append (q ∷ []) qs))

  by_names : (qs : List ℕ) → names (fold with_param [] (flat_map at qs)) ≡ names (fold with_default [] (flat_map at qs))
  by_names qs = names-set (flat_map at qs) [] ∙ sym (names-defaults (flat_map at qs) [])

  by_values : (name : List ℕ) (qs : List ℕ) → value_of name (fold with_param [] (flat_map at qs)) ≡ value_of name (fold with_default [] (flat_map back (reverse qs)))
  by_values name qs = value-sets name (flat_map at qs) [] ∙ or_none (value_of name (reverse (flat_map at qs))) ∙ ap (value_of name) (flat_back qs) ∙ sym (value-defaults name (flat_map back (reverse qs)) [])

  set-thinned : (qs : List ℕ) → fold with_param [] (flat_map at (thinned qs)) ≡ fold with_param [] (flat_map at qs)
  unfolding IsDistinct
  set-thinned qs =
      told (fold with_param [] (flat_map at (thinned qs))) (fold with_param [] (flat_map at qs))
      (subst (λ (ns : List (List ℕ)). IsDistinct is_same ns) (sym (names-set (flat_map at (thinned qs)) [])) (names-differ (names (flat_map at (thinned qs))) [] tt))
      (by_names (thinned qs) ∙ ap names (fold-thinned with_default with_default-once with_default-still at [] qs) ∙ sym (by_names qs))
      (λ name. by_values name (thinned qs) ∙ ap (value_of name) (fold-thinned_back with_default with_default-once with_default-still back [] qs) ∙ sym (by_values name qs))

pub params_of-thinned : (s : Strings) (at : ℕ → List Line) (places : List ℕ) → params_of s (flat_map at (thinned places)) ≡ params_of s (flat_map at places)
unfolding params_of
params_of-thinned s at places =
    let set = λ (row : Line). set_by (saying s row) in
    let given = given_default s in
    let sets = λ (ps : List ℕ). setting-fold s [] (flat_map at ps) ∙ ap (fold with_param []) (sym (filter_map-flat set at ps)) in
    let first = sets (thinned places) ∙ set-thinned (λ p. filter_map set (at p)) places ∙ sym (sets places) in
    ap (λ (ps : List Param). fold with_default ps (filter_map given (flat_map at (thinned places)))) first
    ∙ ap (fold with_default (fold (setting s) [] (flat_map at places))) (sym (filter_map-flat given at (thinned places)))
    ∙ fold-thinned with_default with_default-once with_default-still (λ p. filter_map given (at p)) (fold (setting s) [] (flat_map at places)) places
    ∙ ap (fold with_default (fold (setting s) [] (flat_map at places))) (filter_map-flat given at places)

-- ---- names and values

names-params : (s : Strings) (rows : List Line) → names (params_of s rows) ≡ each_once (names (filter_map (λ row. set_by (saying s row)) rows ++ filter_map (given_default s) rows))
unfolding params_of
names-params s rows =
    let sets = filter_map (λ (row : Line). set_by (saying s row)) rows in
    let defaults = filter_map (given_default s) rows in
    names-defaults defaults (fold (setting s) [] rows)
    ∙ ap (λ (ns : List (List ℕ)). insert_all is_same ns (names defaults)) (ap names (setting-fold s [] rows) ∙ names-set sets [])
    ∙ sym (fold-append (insert_key is_same) [] (names sets) (names defaults)) ∙ ap (insert_all is_same []) (sym (map-append (λ (p : Param). p.name) sets defaults))

value-params : (s : Strings) (rows : List Line) (name : List ℕ) → value_of name (params_of s rows) ≡ option_or (value_of name (reverse (filter_map (λ row. set_by (saying s row)) rows))) (value_of name (filter_map (given_default s) rows))
unfolding params_of
value-params s rows name =
    let sets = filter_map (λ (row : Line). set_by (saying s row)) rows in
    let defaults = filter_map (given_default s) rows in
    value-defaults name defaults (fold (setting s) [] rows)
    ∙ ap (λ (v : Option ParamValue). option_or v (value_of name defaults)) (ap (value_of name) (setting-fold s [] rows) ∙ value-sets name sets [] ∙ or_none (value_of name (reverse sets)))

pub names_order : (ss : List Section) (id : List ℕ) (params : List Param) → parameters_of ss id ≡ Ok params → names params ≡ each_once (names (set_by_rows ss id ++ defaults_by_rows ss id))
names_order ss id params h = ap names (answered ss id params h) ∙ names-params (strings_in ss) (rows_of ss id)

pub names_differ : (ss : List Section) (id : List ℕ) (params : List Param) → parameters_of ss id ≡ Ok params → IsDistinct is_same (names params)
unfolding IsDistinct
names_differ ss id params h = subst (λ (ns : List (List ℕ)). IsDistinct is_same ns) (sym (names_order ss id params h)) (names-differ (names (set_by_rows ss id ++ defaults_by_rows ss id)) [] tt)

pub value_last : (ss : List Section) (id : List ℕ) (params : List Param) (name : List ℕ) → parameters_of ss id ≡ Ok params → value_of name params ≡ option_or (value_of name (reverse (set_by_rows ss id))) (value_of name (defaults_by_rows ss id))
value_last ss id params name h = ap (value_of name) (answered ss id params h) ∙ value-params (strings_in ss) (rows_of ss id) name

-- ---- sections that are read again between their first and their last reading change no part of the answer

module _ (ss : List Section) (places : List ℕ) where
  fold-once : (test : Line → Bool) (b : Option Line) → fold (earlier_if test) b (lines_of_all ss (thinned places)) ≡ fold (earlier_if test) b (lines_of_all ss places)
  fold-once test b = fold-thinned (earlier_if test) (earlier_if-once test) (earlier_if-still test) (lines_at ss) b places

  pub earliest_thinned : (test : Line → Bool) → earliest test (lines_of_all ss (thinned places)) ≡ earliest test (lines_of_all ss places)
  unfolding earliest
  earliest_thinned test = fold-once test None

  read-thinned : (test : Line → Bool) (makers : List Line) (model : Line) (ds : List Line) → earliest test (lines_read makers model ds (lines_of_all ss (thinned places))) ≡ earliest test (lines_read makers model ds (lines_of_all ss places))
  unfolding earliest
  read-thinned test makers model ds =
      let f = earlier_if test in
      fold-all f None makers model ds (lines_of_all ss (thinned places)) ∙ fold-once test (fold f (f (fold f None makers) model) ds) ∙ sym (fold-all f None makers model ds (lines_of_all ss places))

  pub rows-thinned : (s : Strings) (makers : List Line) (model : Line) (ds : List Line)
      → of_rows s (lines_read makers model ds (lines_of_all ss (thinned places))) (lines_of_all ss (thinned places)) ≡ of_rows s (lines_read makers model ds (lines_of_all ss places)) (lines_of_all ss places)
  rows-thinned s makers model ds =
      let fewer = lines_of_all ss (thinned places) in
      let all = lines_of_all ss places in
      ap (λ (o : Option Line). unless_lacking o (unless_bad (earliest (is_bad s) fewer) (params_of s fewer))) (read-thinned (line_lacks s) makers model ds)
      ∙ ap (λ (o : Option Line). unless_lacking (earliest (line_lacks s) (lines_read makers model ds all)) (unless_bad o (params_of s fewer))) (earliest_thinned (is_bad s))
      ∙ ap (λ (ps : List Param). unless_lacking (earliest (line_lacks s) (lines_read makers model ds all)) (unless_bad (earliest (is_bad s) all) ps)) (params_of-thinned s (lines_at ss) places)

-- the sections of one directive more
pub places_more : {A : Type 0} (now : A → Line) (s : Strings) (ss : List Section) (ds : List A) (i : ℕ) (d : A) (values : List (List ℕ)) (places next : List ℕ) → i < length ds → d ≡ get_or ds i d → values ≡ (now d).values
    → next ≡ places ++ named_places s ss values → places ≡ reg_places s ss (map now (take i ds)) → next ≡ reg_places s ss (map now (take (i + 1) ds))
unfolding named_places
places_more now s ss ds i d values places next lt e v n p =
    let f = λ (value : List ℕ). place_named (replaced s value) ss in
    let all = λ (ls : List Line). flat_map (λ (line : Line). line.values) ls in
    let so_far = map now (take i ds) in
    let last : all (now d ∷ []) ≡ (now d).values = flat_map-cons (λ (line : Line). line.values) (now d) [] ∙ append-nil (now d).values in
    n ∙ ap (λ (xs : List (List ℕ)). places ++ filter_map f xs) (v ∙ sym last) ∙ ap (λ (ps : List ℕ). ps ++ filter_map f (all (now d ∷ []))) p
    ∙ sym (filter_map-append f (all so_far) (all (now d ∷ []))) ∙ ap (filter_map f) (sym (flat_map-append (λ (line : Line). line.values) so_far (now d ∷ [])))
    ∙ ap (λ (ls : List Line). filter_map f (all ls)) (sym (map-append now (take i ds) (d ∷ [])) ∙ ap (map now) (sym (take_item ds i d lt e)))
