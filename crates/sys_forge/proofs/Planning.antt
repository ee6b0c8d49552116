-- A plan line by line.
use Rattle.std.proofs.Common.{◌≡◌, true, ◌==◌, ℕ, ◌<◌, ◌≤◌, ◌-◌, ◌^◌, List, [], ◌∷◌, ◌++◌, length, Option, None, Some, refl, sym, ap, subst, ◌∙◌, append_assoc, append-nil, arith}
use Rattle.std.specs.Str.Lines.{lines}
use Rattle.std.proofs.lemmas.Bool.{eqb-true}
use Rattle.ia32_fields.specs.Fields.{IsWide}
use Rattle.asm_lines.specs.Lines.{Content, Nothing, Label, Octets, Word, Import, Instruction, line_content}
use Rattle.line_bytes.specs.Tables.{Rows}
use Rattle.line_bytes.specs.Made.{IsMadeIn}
use Rattle.line_bytes.specs.Putting.{AreWide}
use Rattle.line_bytes.specs.declared.made.Made.{Made}
use Rattle.line_bytes.specs.declared.piece.Tables.{Tables}
use Rattle.sys_forge.specs.Standing.{labels_with, past, none_laid, laid, AreMade}
use Rattle.sys_forge.proofs.RowLaws.{wide-with}

laid-more : (t : Tables) (ls : List (List ℕ)) (ms : List (Option Made)) (line : List ℕ) (m : Option Made) → AreMade ls ms → laid t (ls ++ line ∷ []) (ms ++ m ∷ []) ≡ past (laid t ls ms) (line_content line) m
unfolding laid AreMade
laid-more t [] [] line m h = refl
laid-more t [] (n ∷ ms) line m h = absurd h
laid-more t (l ∷ ls) [] line m h = absurd h
laid-more t (l ∷ ls) (n ∷ ms) line m h = laid-more (past t (line_content l) n) ls ms line m h.1

made-more : (ls : List (List ℕ)) (ms : List (Option Made)) (line : List ℕ) (m : Option Made) → AreMade ls ms → IsMadeIn (line_content line) m → AreMade (ls ++ line ∷ []) (ms ++ m ∷ [])
unfolding AreMade
made-more [] [] line m h i = (i, tt)
made-more [] (n ∷ ms) line m h i = absurd h
made-more (l ∷ ls) [] line m h i = absurd h
made-more (l ∷ ls) (n ∷ ms) line m h i = (h.0, made-more ls ms line m h.1 i)

-- the lines in front are planned
pub record IsPlanned (all left : List (List ℕ)) (t : Tables) (made : List (Option Made)) : Type 0 where
  pub front : List (List ℕ)
  pub parts : all ≡ front ++ left
  pub are : AreMade front made
  pub is : t ≡ laid none_laid front made

pub planned-none : (all : List (List ℕ)) (t : Tables) (made : List (Option Made)) → t ≡ none_laid → made ≡ [] → IsPlanned all all t made
unfolding laid AreMade
planned-none all t made e m = subst (λ ms. IsPlanned all all t ms) (sym m) (record { front = []; parts = refl; are = tt; is = e })

pub planned-more : (all left others : List (List ℕ)) (line : List ℕ) (m : Option Made) (t next : Tables) (made new : List (Option Made)) → IsPlanned all left t made → left ≡ line ∷ others → IsMadeIn (line_content line) m → next ≡ past t (line_content line) m → new ≡ made ++ m ∷ [] → IsPlanned all others next new
planned-more all left others line m t next made new p e i n w = subst (λ ms. IsPlanned all others next ms) (sym w) (record {
  front = p.front ++ line ∷ [];
  parts = p.parts ∙ ap (λ (ls : List (List ℕ)). p.front ++ ls) e ∙ sym (append_assoc p.front (line ∷ []) others);
  are = made-more p.front made line m p.are i;
  is = n ∙ ap (λ x. past x (line_content line) m) p.is ∙ sym (laid-more none_laid p.front made line m p.are);
})

pub planned-all : (all left : List (List ℕ)) (t : Tables) (made : List (Option Made)) → left ≡ [] → IsPlanned all left t made → AreMade all made × (t ≡ laid none_laid all made)
planned-all all left t made e p =
    let whole : all ≡ p.front = p.parts ∙ ap (λ (ls : List (List ℕ)). p.front ++ ls) e ∙ append-nil p.front in
    (subst (λ (ls : List (List ℕ)). AreMade ls made) (sym whole) p.are, p.is ∙ ap (λ (ls : List (List ℕ)). laid none_laid ls made) (sym whole))

pub wide-none : (rows : Rows) → rows ≡ [] → AreWide rows
unfolding AreWide
wide-none rows e = subst AreWide (sym e) tt

pub wide-line : (rows : Rows) (at : ℕ) (content : Option Content) → AreWide rows → IsWide at → AreWide (labels_with rows at content)
unfolding labels_with
wide-line rows at None h w = h
wide-line rows at (Some Nothing) h w = h
wide-line rows at (Some (Label name)) h w = wide-with rows name at h w
wide-line rows at (Some (Octets bytes)) h w = h
wide-line rows at (Some (Word value)) h w = h
wide-line rows at (Some (Import name)) h w = h
wide-line rows at (Some (Instruction s)) h w = h

pub wide-at : (n : ℕ) → 2 ^ 16 ≤ n → n < 2 ^ 32 - 2 ^ 7 → IsWide n
wide-at n l h = record { low = l; high = h }

pub wide-past : (t : Tables) (c : Option Content) (m : Option Made) → AreWide t.labels → 0x80101000 ≤ t.words → t.words ≤ 0x80500000 → AreWide (past t c m).labels
unfolding past
wide-past t c m h l g = wide-line t.labels t.words c h (wide-at t.words (omega (arith, l)) (omega (arith, g)))

pub empty-lines : (text : List ℕ) → true ≡ (length text == 0) → lines text ≡ []
empty-lines [] h = refl
empty-lines (b ∷ bs) h = let none : length (b ∷ bs) ≡ 0 = eqb-true (length (b ∷ bs)) 0 (sym h) in absurd (omega (arith, none))
