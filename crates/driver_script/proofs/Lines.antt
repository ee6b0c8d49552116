-- Each line of a script is exact, and so is what is said of a line.
use Rattle.std.proofs.Common.{◌≡◌, ℕ, ◌+◌, ◌-◌, ◌^◌, Bool, true, false, cond, eqb, List, [], ◌∷◌, get_or, Option, Some, None, refl, sym, ap, subst, ◌∙◌, inl, inr, ◌⊎◌, arith}
use Rattle.std.specs.Prelude.{codes, ◌%◌, ◌==◌, ◌&&◌, slice_index}
use Rattle.std.specs.Int.{w16, w32, from_be_bytes}
use Rattle.std.proofs.lemmas.Bool.{cases_Bool, eqb-true}
use Rattle.log_fields.specs.Codes.{find}
use Rattle.nd_base.specs.Words.{words, IsComment, SaysNothing}
use Rattle.driver_script.specs.declared.keywords.Keyword.{Keyword}
use Rattle.driver_script.specs.declared.keywords.Keyword.TheVariants as keywords
use Rattle.driver_script.specs.declared.keywords.Until.{Until}
use Rattle.driver_script.specs.declared.keywords.Until.TheVariants as untils
use Rattle.driver_script.specs.Keywords.{keyword_name, keywords_all, until_name, untils_all}
use Rattle.driver_script.specs.Forms.{Field, Form, is_decimal, decimal_read, word, such, made, number, octet_string, from_to, dash_or, end, ◌▹◌, ◌▸◌, of, chosen}
use Rattle.hex.specs.Hex.{decode_pairs}
use Rattle.driver_script.specs.declared.adapter_lines.AdapterLine.{AdapterLine}
use Rattle.driver_script.specs.Items.{Item, Adapter, is_port, port, mac, oid, adapter_number, driver_number, medium, until_form, until, item_form, item, States}
use Rattle.driver_script.specs.Reading.{Said, Nothing, Says, Outside, said_of, said_words, said}
use Rattle.driver_script.proofs.Exact.{ExactField, ExactForm, word_exact, such_exact, made_exact, number_exact, octet_exact, from_to_exact, dash_exact, end_exact, then_exact, past_exact, of_exact, chosen_exact}

-- ---- names

keyword_found : (k : Keyword) → find keyword_name keywords_all (keyword_name k) ≡ Some k
unfolding keyword_name keywords_all
keyword_found keywords.Adapter = refl
keyword_found keywords.Param = refl
keyword_found keywords.Driver = refl
keyword_found keywords.Send = refl
keyword_found keywords.Burst = refl
keyword_found keywords.Query = refl
keyword_found keywords.Set = refl
keyword_found keywords.Await = refl
keyword_found keywords.Hold = refl
keyword_found keywords.Release = refl

until_found : (k : Until) → find until_name untils_all (until_name k) ≡ Some k
unfolding until_name untils_all
until_found untils.Up = refl
until_found untils.Sent = refl
until_found untils.Replies = refl
until_found untils.Frames = refl
until_found untils.All = refl

-- ---- lines

port_exact : ExactField port
port_exact = such_exact _ _ (made_exact _ _ (from_to_exact 2 2 octet_string octet_exact))

mac_exact : ExactField mac
mac_exact = such_exact _ _ (from_to_exact 6 6 octet_string octet_exact)

oid_exact : ExactField oid
oid_exact = made_exact _ _ (from_to_exact 4 4 octet_string octet_exact)

until_forms : (k : Until) → ExactForm (until_form k)
until_forms untils.Up = of_exact _ _ end_exact
until_forms untils.Sent = of_exact _ _ end_exact
until_forms untils.Replies = of_exact _ _ end_exact
until_forms untils.Frames = of_exact _ _ (then_exact _ _ (number_exact 0 (2 ^ 32 - 1)) end_exact)
until_forms untils.All = of_exact _ _ end_exact

until_exact : ExactForm until
until_exact = chosen_exact until_name untils_all until_form until_found until_forms

item_forms : (k : Keyword) → ExactForm (item_form k)
item_forms keywords.Adapter = of_exact _ _ (then_exact _ _ (number_exact 0 3) (then_exact _ _ word_exact (past_exact _ _ (then_exact _ _ port_exact (past_exact _ _ (then_exact _ _ (number_exact 3 15) (past_exact _ _ (then_exact _ _ mac_exact end_exact))))))))
item_forms keywords.Param = of_exact _ _ (then_exact _ _ (number_exact 0 3) (then_exact _ _ word_exact (then_exact _ _ word_exact end_exact)))
item_forms keywords.Driver = of_exact _ _ (then_exact _ _ (number_exact 0 7) (past_exact _ _ (then_exact _ _ (number_exact 0 3) end_exact)))
item_forms keywords.Send = of_exact _ _ (then_exact _ _ (from_to_exact 14 1514 octet_string octet_exact) end_exact)
item_forms keywords.Burst = of_exact _ _ (then_exact _ _ (number_exact 1 10000) (then_exact _ _ (number_exact 14 1514) end_exact))
item_forms keywords.Query = of_exact _ _ (then_exact _ _ oid_exact (then_exact _ _ (number_exact 0 (2 ^ 32 - 1)) end_exact))
item_forms keywords.Set = of_exact _ _ (then_exact _ _ oid_exact (then_exact _ _ dash_exact end_exact))
item_forms keywords.Await = of_exact _ _ until_exact
item_forms keywords.Hold = of_exact _ _ end_exact
item_forms keywords.Release = of_exact _ _ end_exact

pub item_exact : ExactForm item
unfolding item
item_exact = chosen_exact keyword_name keywords_all item_form keyword_found item_forms

-- ---- what is said of a line

comment_yes : (line : List ℕ) → eqb (get_or line 0 0) 35 ≡ true → IsComment line
comment_yes [] h = absurd cc
comment_yes (c ∷ cs) h = (cs, ap (λ (b : ℕ). b ∷ cs) (eqb-true c 35 h))

comment_no : (line : List ℕ) → eqb (get_or line 0 0) 35 ≡ false → IsComment line → ⊥
comment_no line h (text, is) = let k : true ≡ false = rw is at h in absurd cc

said_plain : (line : List ℕ) → (IsComment line → ⊥) → said line ≡ said_words (words line)
unfolding said
said_plain line plain = elim (cases_Bool (eqb (get_or line 0 0) 35)) [
  | inl on ↦ absurd (plain (comment_yes line on))
  | inr off ↦ ap (λ (b : Bool). cond b Nothing (said_words (words line))) off
]

said_comment : (line : List ℕ) → IsComment line → said line ≡ Nothing
unfolding said
said_comment line (text, is) = ap (λ (b : Bool). cond b Nothing (said_words (words line))) (ap (λ (s : List ℕ). eqb (get_or s 0 0) 35) is)

words_read : (ws : List (List ℕ)) (i : Item) → item.read ws ≡ Some i → said_words ws ≡ Says i
unfolding item
words_read [] i h = absurd cc
words_read (w ∷ ws) i h = ap said_of h

pub said_states : (line : List ℕ) (i : Item) → States line i → said line ≡ Says i
said_states line i h = said_plain line h.no_comment ∙ words_read (words line) i (item_exact.whole (words line) i h.stated)

pub said_nothing : (line : List ℕ) → SaysNothing line → said line ≡ Nothing
said_nothing line (inl comment) = said_comment line comment
said_nothing line (inr blank) = elim (cases_Bool (eqb (get_or line 0 0) 35)) [
  | inl on ↦ said_comment line (comment_yes line on)
  | inr off ↦ said_plain line (comment_no line off) ∙ ap said_words blank
]

-- what is said of a line is so
abbrev pub Holds : List ℕ → Said → Type 0
Holds line Nothing = SaysNothing line
Holds line (Says i) = States line i
Holds line Outside = Unit {0}

read_holds : (line : List ℕ) (ws : List (List ℕ)) → words line ≡ ws → (IsComment line → ⊥) → (o : Option Item) → item.read ws ≡ o → Holds line (said_of o)
read_holds line ws e plain None h = tt
read_holds line ws e plain (Some i) h = record { no_comment = plain; stated = subst (λ (s : List (List ℕ)). item.states s i) (sym e) (item_exact.tells ws i h) }

said_words_hold : (line : List ℕ) (ws : List (List ℕ)) → words line ≡ ws → (IsComment line → ⊥) → Holds line (said_words ws)
said_words_hold line [] e plain = inr e
said_words_hold line (w ∷ ws) e plain = read_holds line (w ∷ ws) e plain (item.read (w ∷ ws)) refl

pub holds : (line : List ℕ) → Holds line (said line)
holds line = elim (cases_Bool (eqb (get_or line 0 0) 35)) [
  | inl on ↦ let comment = comment_yes line on in subst (Holds line) (sym (said_comment line comment)) (inl comment)
  | inr off ↦
      let plain = comment_no line off in
      subst (Holds line) (sym (said_plain line plain)) (said_words_hold line (words line) refl plain)
]

-- ---- an adapter that any script may begin with

abbrev pub sample : AdapterLine
sample = record { id = codes "x"; port = 0x300; irq = 3; mac = 0 ∷ 0 ∷ 0 ∷ 0 ∷ 0 ∷ 0 ∷ [] }

abbrev pub sample_line : List ℕ
sample_line = codes "adapter 0 x port 0300 irq 3 mac 000000000000"

sample_read : item.read (words sample_line) ≡ Some (Adapter 0 sample)
unfolding item words keyword_name keywords_all is_decimal decimal_read decode_pairs
sample_read = refl

pub sample_stated : States sample_line (Adapter 0 sample)
sample_stated = record {
  no_comment = λ (text, is). let e : 97 ≡ 35 = ap (λ (s : List ℕ). get_or s 0 0) is in absurd (omega (arith, e));
  stated = item_exact.tells (words sample_line) (Adapter 0 sample) sample_read;
}
