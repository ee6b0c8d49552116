-- What is stated is read, and what is read is stated: for each way to make a field or a form.
use Rattle.std.proofs.Common.{◌≡◌, ℕ, ◌+◌, ◌-◌, ◌^◌, ◌<◌, ◌≤◌, Bool, true, false, cond, leb, List, [], ◌∷◌, length, Option, Some, None, Result, Ok, Err, refl, sym, ap, subst, ◌∙◌, inl, inr, ◌⊎◌, arith}
use Rattle.std.specs.Prelude.{codes, ◌&&◌}
use Rattle.std.specs.Option.{option_map}
use Rattle.std.specs.Result.{result_ok}
use Rattle.std.specs.Str.{bytes_eq}
use Rattle.std.proofs.lemmas.Bool.{cases_Bool, and_parts, leb-true, le-leb}
use Rattle.std.proofs.lemmas.Slice.Eq.{bytes_eq-Decides}
use Rattle.hex.specs.Hex.{decode_of}
use Rattle.hex.specs.declared.error.FromHexError.{FromHexError}
use Rattle.log_fields.specs.Codes.{find}
use Rattle.nd_base.specs.Options.{◌>>=◌}
use Rattle.nd_base.specs.Words.{IsDecimal, decimal_value}
use Rattle.driver_script.specs.Forms.{Field, Form, passing, is_within, word, such, made, decimal_read, number, octet_string, from_to, dash_or, end, end_read, take, ◌▹◌, past, ◌▸◌, of, chosen, chosen_read}
use Rattle.driver_script.proofs.Decimals.{read_decimal, decimal_told}

pub record ExactField {A : Type 0} (c : Field A) : Type 0 where
  pub whole : (w : List ℕ) (v : A) → c.spells w v → c.read w ≡ Some v
  pub tells : (w : List ℕ) (v : A) → c.read w ≡ Some v → c.spells w v

pub record ExactForm {A : Type 0} (d : Form A) : Type 0 where
  pub whole : (ws : List (List ℕ)) (v : A) → d.states ws v → d.read ws ≡ Some v
  pub tells : (ws : List (List ℕ)) (v : A) → d.read ws ≡ Some v → d.states ws v

-- ---- values that may be absent

bind_some : {A B : Type 0} (o : Option A) (f : A → Option B) (b : B) → (o >>= f) ≡ Some b → (a : A) × (o ≡ Some a) × (f a ≡ Some b)
bind_some None f b h = absurd cc
bind_some (Some a) f b h = (a, refl, h)

map_some : {A B : Type 0} (f : A → B) (o : Option A) (b : B) → option_map f o ≡ Some b → (a : A) × (o ≡ Some a) × (b ≡ f a)
map_some f None b h = absurd cc
map_some f (Some a) b h = (a, refl, cc)

pub passes : {A : Type 0} (test : A → Bool) (o : Option A) (v : A) → o ≡ Some v → test v ≡ true → passing test o ≡ Some v
passes test o v h t = ap (passing test) h ∙ ap (λ (b : Bool). cond b (Some v) None) t

pub passed : {A : Type 0} (test : A → Bool) (o : Option A) (v : A) → passing test o ≡ Some v → (o ≡ Some v) × (test v ≡ true)
passed test None v h = absurd cc
passed {A} test (Some x) v h = elim (cases_Bool (test x)) [
  | inl on ↦ let e : Some x ≡ Some v = rw on at h in let same : x ≡ v = cc in (e, subst (λ (y : A). test y ≡ true) same on)
  | inr off ↦ let e : None ≡ Some v = rw off at h in absurd cc
]

within_yes : (least most n : ℕ) → least ≤ n → n ≤ most → is_within least most n ≡ true
within_yes least most n a b = rw (le-leb least n a, le-leb n most b) refl

within_told : (least most n : ℕ) → is_within least most n ≡ true → (least ≤ n) × (n ≤ most)
within_told least most n h = let p = and_parts (leb least n) (leb n most) h in (leb-true least n p.0, leb-true n most p.1)

-- ---- fields

pub word_exact : ExactField word
word_exact = record { whole = λ w v h. ap (λ (x : List ℕ). Some x) (sym h); tells = λ w v h. let e : Some w ≡ Some v = h in cc }

pub such_exact : {A : Type 0} (test : A → Bool) (c : Field A) → ExactField c → ExactField (such test c)
such_exact test c x = record {
  whole = λ w v h. passes test (c.read w) v (x.whole w v h.0) h.1;
  tells = λ w v h. let p = passed test (c.read w) v h in (x.tells w v p.0, p.1);
}

pub made_exact : {A B : Type 0} (f : A → B) (c : Field A) → ExactField c → ExactField (made f c)
made_exact {A} {B} f c x = record {
  whole = λ w v h. ap (option_map f) (x.whole w h.0 h.1) ∙ ap (λ (y : B). Some y) (sym h.2);
  tells = λ w v h. let p = map_some f (c.read w) v h in (p.0, x.tells w p.0 p.1, p.2);
}

pub number_exact : (least most : ℕ) → ExactField (number least most)
number_exact least most = record {
  whole = λ w n h. passes (is_within least most) (decimal_read w) n (read_decimal w h.0 ∙ ap (λ (y : ℕ). Some y) (sym h.1)) (within_yes least most n h.2 h.3);
  tells = λ w n h.
      let p = passed (is_within least most) (decimal_read w) n h in
      let d = decimal_told w n p.0 in
      let b = within_told least most n p.1 in
      (d.0, d.1, b.0, b.1);
}

ok_some : (r : Result (List ℕ) FromHexError) (v : List ℕ) → result_ok r ≡ Some v → r ≡ Ok v
ok_some (Ok x) v h = let e : Some x ≡ Some v = h in cc
ok_some (Err e) v h = absurd cc

pub octet_exact : ExactField octet_string
octet_exact = record { whole = λ w v h. ap result_ok h; tells = λ w v h. ok_some (decode_of w) v h }

pub from_to_exact : (least most : ℕ) (c : Field (List ℕ)) → ExactField c → ExactField (from_to least most c)
from_to_exact least most c x = record {
  whole = λ w v h. passes (λ (y : List ℕ). is_within least most (length y)) (c.read w) v (x.whole w v h.0) (within_yes least most (length v) h.1 h.2);
  tells = λ w v h.
      let p = passed (λ (y : List ℕ). is_within least most (length y)) (c.read w) v h in
      let b = within_told least most (length v) p.1 in
      (x.tells w v p.0, b.0, b.1);
}

pub dash_exact : ExactField (dash_or octet_string)
dash_exact = record {
  whole = λ w v h. elim h [
    | inl dash ↦ rw ((bytes_eq-Decides w (codes "-")).1 dash.0) (ap (λ (x : List ℕ). Some x) (sym dash.1))
    | inr digits ↦ elim (cases_Bool (bytes_eq w (codes "-"))) [
      | inl on ↦
          let same : w ≡ codes "-" = (bytes_eq-Decides w (codes "-")).0 on in
          let bad : decode_of (codes "-") ≡ Ok v = subst (λ (x : List ℕ). decode_of x ≡ Ok v) same digits in
          absurd cc
      | inr off ↦ rw off (ap result_ok digits)
    ]
  ];
  tells = λ w v h. elim (cases_Bool (bytes_eq w (codes "-"))) [
    | inl on ↦ let e : Some [] ≡ Some v = rw on at h in inl ((bytes_eq-Decides w (codes "-")).0 on, cc)
    | inr off ↦ inr (ok_some (decode_of w) v (rw off at h))
  ];
}

-- ---- forms

end_whole : (ws : List (List ℕ)) (v : Unit {0}) → ws ≡ [] → end_read ws ≡ Some v
end_whole ws v h = ap end_read h

end_tells : (ws : List (List ℕ)) (v : Unit {0}) → end_read ws ≡ Some v → ws ≡ []
end_tells [] v h = refl
end_tells (w ∷ ws) v h = absurd cc

pub end_exact : ExactForm end
end_exact = record { whole = end_whole; tells = end_tells }

took : {A : Type 0} (c : Field A) (ws : List (List ℕ)) (x : A × List (List ℕ)) → take c ws ≡ Some x → (w : List ℕ) × (ws ≡ w ∷ x.1) × (c.read w ≡ Some x.0)
took c [] x h = absurd cc
took {A} c (w ∷ ws) x h =
    let p = bind_some (c.read w) (λ (v : A). Some (v, ws)) x h in
    let e : Some (p.0, ws) ≡ Some x = p.2 in
    let same : (p.0, ws) ≡ x = cc in
    let first : p.0 ≡ x.0 = ap (λ (y : A × List (List ℕ)). y.0) same in
    let rest : ws ≡ x.1 = ap (λ (y : A × List (List ℕ)). y.1) same in
    (w, ap (λ (y : List (List ℕ)). w ∷ y) rest, p.1 ∙ ap (λ (y : A). Some y) first)

pub then_exact : {A B : Type 0} (c : Field A) (d : Form B) → ExactField c → ExactForm d → ExactForm (c ▹ d)
then_exact {A} {B} c d x y = record {
  whole = λ ws v h.
      let w = h.0 in
      let rest = h.1 in
      let one : take c (w ∷ rest) ≡ Some (v.0, rest) = ap (λ (o : Option A). o >>= λ a. Some (a, rest)) (x.whole w v.0 h.3) in
      ap (λ (s : List (List ℕ)). take c s >>= λ z. d.read z.1 >>= λ b. Some (z.0, b)) h.2
      ∙ ap (λ (o : Option (A × List (List ℕ))). o >>= λ z. d.read z.1 >>= λ b. Some (z.0, b)) one
      ∙ ap (λ (o : Option B). o >>= λ b. Some (v.0, b)) (y.whole rest v.1 h.4);
  tells = λ ws v h.
      let p = bind_some (take c ws) (λ (z : A × List (List ℕ)). d.read z.1 >>= λ b. Some (z.0, b)) v h in
      let t = took c ws p.0 p.1 in
      let q = bind_some (d.read p.0.1) (λ (b : B). Some (p.0.0, b)) v p.2 in
      let e : Some (p.0.0, q.0) ≡ Some v = q.2 in
      let same : (p.0.0, q.0) ≡ v = cc in
      let first : p.0.0 ≡ v.0 = ap (λ (z : A × B). z.0) same in
      let second : q.0 ≡ v.1 = ap (λ (z : A × B). z.1) same in
      (t.0, p.0.1, t.1, subst (λ (z : A). c.spells t.0 z) first (x.tells t.0 p.0.0 t.2), subst (λ (z : B). d.states p.0.1 z) second (y.tells p.0.1 q.0 q.1));
}

went_past : (name : List ℕ) (ws rest : List (List ℕ)) → past name ws ≡ Some rest → ws ≡ name ∷ rest
went_past name [] rest h = absurd cc
went_past name (w ∷ ws) rest h = elim (cases_Bool (bytes_eq w name)) [
  | inl on ↦
      let e : Some ws ≡ Some rest = rw on at h in
      let same : w ≡ name = (bytes_eq-Decides w name).0 on in
      let tail : ws ≡ rest = cc in
      ap (λ (x : List ℕ). x ∷ ws) same ∙ ap (λ (x : List (List ℕ)). name ∷ x) tail
  | inr off ↦ let e : None ≡ Some rest = rw off at h in absurd cc
]

pub past_exact : {A : Type 0} (name : List ℕ) (d : Form A) → ExactForm d → ExactForm (name ▸ d)
past_exact {A} name d x = record {
  whole = λ ws v h.
      let one : past name (name ∷ h.0) ≡ Some h.0 = ap (λ (b : Bool). cond b (Some h.0) None) ((bytes_eq-Decides name name).1 refl) in
      ap (λ (s : List (List ℕ)). past name s >>= d.read) h.1 ∙ ap (λ (o : Option (List (List ℕ))). o >>= d.read) one ∙ x.whole h.0 v h.2;
  tells = λ ws v h.
      let p = bind_some (past name ws) d.read v h in
      (p.0, went_past name ws p.0 p.1, x.tells p.0 v p.2);
}

pub of_exact : {A B : Type 0} (f : A → B) (d : Form A) → ExactForm d → ExactForm (of f d)
of_exact {A} {B} f d x = record {
  whole = λ ws v h. ap (option_map f) (x.whole ws h.0 h.1) ∙ ap (λ (y : B). Some y) (sym h.2);
  tells = λ ws v h. let p = map_some f (d.read ws) v h in (p.0, x.tells ws p.0 p.1, p.2);
}

-- what is found in a table has that name
found_named : {K : Type 0} (name : K → List ℕ) (ks : List K) (w : List ℕ) (k : K) → find name ks w ≡ Some k → w ≡ name k
found_named name [] w k h = absurd cc
found_named {K} name (x ∷ ks) w k h = elim (cases_Bool (bytes_eq (name x) w)) [
  | inl on ↦
      let e : Some x ≡ Some k = rw on at h in
      let same : x ≡ k = cc in
      sym ((bytes_eq-Decides (name x) w).0 on) ∙ ap name same
  | inr off ↦ found_named name ks w k (rw off at h)
]

chosen_tells : {K A : Type 0} (name : K → List ℕ) (all : List K) (form : K → Form A) → ((k : K) → ExactForm (form k)) → (ws : List (List ℕ)) (v : A) → chosen_read name all form ws ≡ Some v → (chosen name all form).states ws v
chosen_tells name all form x [] v h = absurd cc
chosen_tells {K} {A} name all form x (w ∷ ws) v h =
    let p = bind_some (find name all w) (λ (k : K). (form k).read ws) v h in
    (p.0, ws, ap (λ (s : List ℕ). s ∷ ws) (found_named name all w p.0 p.1), (x p.0).tells ws v p.2)

pub chosen_exact : {K A : Type 0} (name : K → List ℕ) (all : List K) (form : K → Form A) → ((k : K) → find name all (name k) ≡ Some k) → ((k : K) → ExactForm (form k)) → ExactForm (chosen name all form)
chosen_exact {K} {A} name all form found x = record {
  whole = λ ws v h.
      ap (chosen_read name all form) h.2 ∙ ap (λ (o : Option K). o >>= λ k. (form k).read h.1) (found h.0) ∙ (x h.0).whole h.1 v h.3;
  tells = chosen_tells name all form x;
}

-- ---- the word in front

pub take_none : {A : Type 0} (c : Field A) (ws : List (List ℕ)) (w : List ℕ) (rest : List (List ℕ)) → ws ≡ w ∷ rest → c.read w ≡ None → None ≡ take c ws
take_none {A} c ws w rest h e = sym (ap (take c) h ∙ ap (λ (o : Option A). o >>= λ v. Some (v, rest)) e)

pub take_some : {A : Type 0} (c : Field A) (ws : List (List ℕ)) (w : List ℕ) (v : A) (rest : List (List ℕ)) → ws ≡ w ∷ rest → c.read w ≡ Some v → Some (v, rest) ≡ take c ws
take_some {A} c ws w v rest h e = sym (ap (take c) h ∙ ap (λ (o : Option A). o >>= λ x. Some (x, rest)) e)
