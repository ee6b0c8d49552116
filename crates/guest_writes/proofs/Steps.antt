-- Bytes and writes that are put one after the other.
use Rattle.std.proofs.Common.{◌≡◌, ℕ, ◌+◌, ◌<◌, ◌≤◌, ◌^◌, ◌%◌, List, [], ◌∷◌, ◌++◌, length, take, get_or, Option, None, Some, Result, Ok, Err, OnOk, OnErr, refl, sym, ap, ◌∙◌, arith}
use Rattle.std.proofs.lemmas.List.{take_more, take_all, length-take}
use Rattle.std.specs.FinMap as finite
use Rattle.nd_mem.specs.Cell.{Cell}
use Rattle.nd_mem.specs.declared.MemFault.{MemFault}
use Rattle.nd_mem.specs.Space.{Space, Any, first_fault, answer_of, wrapped, with_byte, put_from}
use Rattle.nd_mem.specs.Laws.{WriteLaws}
use Rattle.log_fields.specs.declared.write.Write.{Write}
use Rattle.legal_run.specs.Guest.{with_writes}

-- what is not mapped takes no byte
with_none : (s : Space) (a byte : ℕ) (cell : Option Cell) (b : ℕ) (fault : MemFault) → ◌≡◌ {A = Result (Unit {0}) MemFault} (Err fault) (answer_of tt (first_fault Any (finite.get s) b 1)) → b ≡ a → cell ≡ finite.get s (wrapped a) → with_byte s (wrapped a) byte cell ≡ s
unfolding first_fault
with_none s a byte None b fault h e c = refl
with_none s a byte (Some cell) b fault h e c =
    let k : finite.get s (wrapped b) ≡ Some cell = ap (λ n. finite.get s (wrapped n)) e ∙ sym c in cc

pub unmapped : (s : Space) (a byte : ℕ) (fault : MemFault) → ◌≡◌ {A = Result (Unit {0}) MemFault} (Err fault) (answer_of tt (first_fault Any (finite.get s) a 1)) → s ≡ put_from s a (byte ∷ [])
unfolding put_from
unmapped s a byte fault h = sym (with_none s a byte (finite.get s (wrapped a)) a fault h refl refl)

pub none_put : (s : Space) (at : ℕ) → s ≡ put_from s at []
unfolding put_from
none_put s at = refl

pub byte_put : WriteLaws → (s t u : Space) (at i next : ℕ) (bytes : List ℕ) → i < length bytes → t ≡ put_from s at (take i bytes) → next ≡ wrapped (at + i)
    → u ≡ put_from t next (get_or bytes i 0 ∷ []) → u ≡ put_from s at (take (i + 1) bytes)
byte_put writes s t u at i next bytes less made is put =
    let front = take i bytes in
    let byte = get_or bytes i 0 ∷ [] in
    let few : length front ≡ i = length-take i bytes ∙ omega arith in
    put ∙ ap (λ (x : Space). put_from x next byte) made ∙ ap (λ a. put_from (put_from s at front) a byte) (is ∙ ap (λ n. wrapped (at + n)) (sym few)) ∙ writes.wraps (put_from s at front) (at + length front) byte
    ∙ sym (writes.append s at front byte) ∙ sym (ap (put_from s at) (take_more bytes i 0 less))

pub writes_more : (s : Space) (writes : List Write) (w : Write) → with_writes s (writes ++ w ∷ []) ≡ put_from (with_writes s writes) w.at.0 w.bytes
writes_more s [] w = refl
writes_more s (first ∷ writes) w = writes_more (put_from s first.at.0 first.bytes) writes w

pub placed : (s t : Space) (a byte : ℕ) (r : Result (Unit {0}) MemFault) → r ≡ answer_of tt (first_fault Any (finite.get s) a 1)
    → OnOk r (t ≡ put_from s a (byte ∷ [])) → OnErr r (t ≡ s) → t ≡ put_from s a (byte ∷ [])
placed s t a byte (Ok u) h ok err = ok
placed s t a byte (Err fault) h ok err = err ∙ unmapped s a byte fault h

pub next_wrapped : (next at i : ℕ) → next ≡ wrapped (at + i) → (next + 1) % 2 ^ 32 ≡ wrapped (at + (i + 1))
next_wrapped next at i h = omega (arith, h)

pub write_put : (s t u : Space) (i : ℕ) (writes : List Write) (w d : Write) → i < length writes → t ≡ with_writes s (take i writes) → w ≡ get_or writes i d → u ≡ put_from t w.at.0 w.bytes
    → u ≡ with_writes s (take (i + 1) writes)
write_put s t u i writes w d less made is put =
    put ∙ ap (λ (x : Space). put_from x w.at.0 w.bytes) made ∙ sym (writes_more s (take i writes) w) ∙ ap (λ (x : Write). with_writes s (take i writes ++ x ∷ [])) is ∙ sym (ap (with_writes s) (take_more writes i d less))

pub first_wrapped : (at : ℕ) → at < 2 ^ 32 → at ≡ wrapped (at + 0)
first_wrapped at small = omega (arith, small)

pub all_put : (s t : Space) (at i : ℕ) (bytes : List ℕ) → i ≤ length bytes → length bytes ≤ i → t ≡ put_from s at (take i bytes) → t ≡ put_from s at bytes
all_put s t at i bytes low high made = made ∙ ap (put_from s at) (take_all i bytes high)
