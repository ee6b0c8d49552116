-- Each way to make a code keeps exact reading.
use Rattle.std.proofs.Common.{◌≡◌, ℕ, suc, ◌^◌, ◌<◌, inl, inr, Bool, true, false, cond, List, [], ◌∷◌, ◌++◌, length, Ok, Err, refl, sym, ap, ◌∙◌, subst, ⊎_elim, length-append, append_assoc, arith}
use Rattle.std.proofs.lemmas.Bool.{false≢true, cond-true, cond-false, true_from_ne_false}
use Rattle.codes.specs.declared.Stop.TheVariants.{Outside, More}
use Rattle.codes.specs.Codes.{Code, Read, and_then, done, byte, branch, branch_spells, either, ◌>>=◌}
use Rattle.codes.specs.Exact.{AreBytes, IsRead, Tells, Exact}

pub AreBytes-back : (front back : List ℕ) → AreBytes (front ++ back) → AreBytes back
AreBytes-back [] back h = h
AreBytes-back (b ∷ front) back h = AreBytes-back front back h.1

-- ---- some bytes spell a value of an exact code

pub record IsAlive {A : Type 0} (c : Code A) : Type 0 where
  pub bytes : List ℕ
  pub value : A
  pub spelled : c.spells bytes value

alive_by : {A : Type 0} (c : Code A) (read : Read A) → Tells c [] read → IsAlive c
alive_by c (Ok x) h = record { bytes = h.front; value = x.0; spelled = h.spelled }
alive_by c (Err More) h = record { bytes = h.rest; value = h.value; spelled = h.spelled }
alive_by c (Err (Outside left)) h = absurd (let l = length-append h.front (h.stop ∷ h.back) in let e : 0 ≡ length (h.front ++ h.stop ∷ h.back) = ap length h.parts in omega arith)

pub alive : {A : Type 0} (c : Code A) → Exact c → IsAlive c
alive c e = alive_by c (c.read []) (e.tells [] tt)

-- ---- no byte

pub done_exact : {A : Type 0} (a : A) → Exact (done a)
done_exact a = record {
  whole = λ bytes v rest h. rw (h.0, h.1) refl;
  tells = λ bytes low. record { front = []; spelled = (refl, refl); parts = refl };
}

-- ---- a byte

byte_tells : (ok : ℕ → Bool) (witness : ℕ) → witness < 2 ^ 8 → ok witness ≡ true → (b : ℕ) (bytes : List ℕ) → b < 2 ^ 8 → (t : Bool) → ok b ≡ t → Tells (byte ok) (b ∷ bytes) (cond t (Ok (b, bytes)) (Err (Outside (suc (length bytes)))))
byte_tells ok witness p q b bytes h true e = record { front = b ∷ []; spelled = (h, e, refl); parts = refl }
byte_tells ok witness p q b bytes h false e = record {
  front = [];
  stop = b;
  back = bytes;
  parts = refl;
  long = refl;
  before = refl;
  after = λ others. cond-false (ok b) (Ok (b, others)) (Err (Outside (suc (length others)))) e;
}

pub byte_exact : (ok : ℕ → Bool) (witness : ℕ) → witness < 2 ^ 8 → ok witness ≡ true → Exact (byte ok)
byte_exact ok witness p q = record {
  whole = λ bytes v rest h. rw h.2 (cond-true (ok v) (Ok (v, rest)) (Err (Outside (suc (length rest)))) h.1);
  tells = elim [
    | [] ↦ λ low. record { rest = witness ∷ []; value = witness; some = omega arith; spelled = (p, q, refl) }
    | b ∷ bytes ↦ λ low. byte_tells ok witness p q b bytes low.0 (ok b) refl
  ];
}

-- ---- two codes alike

tells_along : {A : Type 0} (c d : Code A) → ((bytes : List ℕ) → d.read bytes ≡ c.read bytes) → ((bytes : List ℕ) (v : A) → c.spells bytes v → d.spells bytes v) → (bytes : List ℕ) (read : Read A) → Tells c bytes read → Tells d bytes read
tells_along c d same to bytes (Ok x) h = record { front = h.front; spelled = to h.front x.0 h.spelled; parts = h.parts }
tells_along c d same to bytes (Err More) h = record { rest = h.rest; value = h.value; some = h.some; spelled = to (bytes ++ h.rest) h.value h.spelled }
tells_along c d same to bytes (Err (Outside left)) h = record {
  front = h.front;
  stop = h.stop;
  back = h.back;
  parts = h.parts;
  long = h.long;
  before = same h.front ∙ h.before;
  after = λ others. same (h.front ++ h.stop ∷ others) ∙ h.after others;
}

-- a code that reads and spells like an exact one
pub exact_along : {A : Type 0} (c d : Code A) → ((bytes : List ℕ) → d.read bytes ≡ c.read bytes) → ((bytes : List ℕ) (v : A) → c.spells bytes v → d.spells bytes v) → ((bytes : List ℕ) (v : A) → d.spells bytes v → c.spells bytes v) → Exact c → Exact d
exact_along c d same to from e = record {
  whole = λ bytes v rest h. same (bytes ++ rest) ∙ e.whole bytes v rest (from bytes v h);
  tells = λ bytes low. subst (Tells d bytes) (sym (same bytes)) (tells_along c d same to bytes (c.read bytes) (e.tells bytes low));
}

-- ---- one code where a test holds, else another

pub either_exact : {A : Type 0} (b : Bool) (c d : Code A) → (b ≡ true → Exact c) → (b ≡ false → Exact d) → Exact (either b c d)
either_exact true c d e f = exact_along c (either true c d) (λ bytes. refl) (λ bytes v h. inl (refl, h)) (λ bytes v. ⊎_elim (λ s. s.1) (λ s. absurd (false≢true (sym s.0)))) (e refl)
either_exact false c d e f = exact_along d (either false c d) (λ bytes. refl) (λ bytes v h. inr (refl, h)) (λ bytes v. ⊎_elim (λ s. absurd (false≢true s.0)) (λ s. s.1)) (f refl)

-- ---- one code, and then one that its value chooses

module _ {A B : Type 0} (c : Code A) (f : A → Code B) (first : Exact c) (second : (bytes : List ℕ) (x : A) → c.spells bytes x → Exact (f x)) where
  abbrev go : Read A → Read B
  go read = and_then read (λ x rest. (f x).read rest)

  behind : (bytes rest : List ℕ) (x : A) → IsRead c bytes x rest → (read : Read B) → Tells (f x) rest read → Tells (c >>= f) bytes read
  behind bytes rest x h (Ok y) t = record {
    front = h.front ++ t.front;
    spelled = (h.front, x, t.front, h.spelled, t.spelled, refl);
    parts = h.parts ∙ ap (λ (back : List ℕ). h.front ++ back) t.parts ∙ sym (append_assoc h.front t.front y.1);
  }
  behind bytes rest x h (Err More) t = record {
    rest = t.rest;
    value = t.value;
    some = t.some;
    spelled = (h.front, x, rest ++ t.rest, h.spelled, t.spelled, ap (λ (front : List ℕ). front ++ t.rest) h.parts ∙ append_assoc h.front rest t.rest);
  }
  behind bytes rest x h (Err (Outside left)) t = record {
    front = h.front ++ t.front;
    stop = t.stop;
    back = t.back;
    parts = h.parts ∙ ap (λ (back : List ℕ). h.front ++ back) t.parts ∙ sym (append_assoc h.front t.front (t.stop ∷ t.back));
    long = t.long;
    before = ap go (first.whole h.front x t.front h.spelled) ∙ t.before;
    after = λ others. ap (λ (bs : List ℕ). go (c.read bs)) (append_assoc h.front t.front (t.stop ∷ others)) ∙ ap go (first.whole h.front x (t.front ++ t.stop ∷ others) h.spelled) ∙ t.after others;
  }

  tells_then : (bytes : List ℕ) → AreBytes bytes → (read : Read A) → Tells c bytes read → Tells (c >>= f) bytes (go read)
  tells_then bytes low (Ok x) h = behind bytes x.1 x.0 h ((f x.0).read x.1) ((second h.front x.0 h.spelled).tells x.1 (AreBytes-back h.front x.1 (subst AreBytes h.parts low)))
  tells_then bytes low (Err More) h =
      let a = alive (f h.value) (second (bytes ++ h.rest) h.value h.spelled) in
      record {
        rest = h.rest ++ a.bytes;
        value = a.value;
        some = omega (arith, length-append h.rest a.bytes, h.some);
        spelled = (bytes ++ h.rest, h.value, a.bytes, h.spelled, a.spelled, sym (append_assoc bytes h.rest a.bytes));
      }
  tells_then bytes low (Err (Outside left)) h = record {
    front = h.front;
    stop = h.stop;
    back = h.back;
    parts = h.parts;
    long = h.long;
    before = ap go h.before;
    after = λ others. ap go (h.after others);
  }

  pub then_exact : Exact (c >>= f)
  then_exact = record {
    whole = λ bytes v rest h. ap (λ (bs : List ℕ). go (c.read (bs ++ rest))) h.5 ∙ ap (λ (bs : List ℕ). go (c.read bs)) (append_assoc h.0 h.2 rest) ∙ ap go (first.whole h.0 h.1 (h.2 ++ rest) h.3) ∙ (second h.0 h.1 h.3).whole h.2 v rest h.4;
    tells = λ bytes low. tells_then bytes low (c.read bytes) (first.tells bytes low);
  }

-- ---- a byte, and what goes on from it

module _ {A : Type 0} (live : ℕ → Bool) (next : ℕ → Code A) where
  branch_same_at : (b : ℕ) (bytes : List ℕ) (t : Bool) → cond t ((next b).read bytes) (Err (Outside (suc (length bytes)))) ≡ and_then (cond t (Ok (b, bytes)) (Err (Outside (suc (length bytes))))) (λ x rest. (next x).read rest)
  branch_same_at b bytes true = refl
  branch_same_at b bytes false = refl

  branch_same : (bytes : List ℕ) → (branch live next).read bytes ≡ (byte live >>= next).read bytes
  branch_same [] = refl
  branch_same (b ∷ bytes) = branch_same_at b bytes (live b)

  pub branch_exact : (witness : ℕ) → witness < 2 ^ 8 → live witness ≡ true → ((b : ℕ) → b < 2 ^ 8 → live b ≡ true → Exact (next b)) → ((b : ℕ) → b < 2 ^ 8 → live b ≡ false → (bytes : List ℕ) (v : A) → (next b).spells bytes v → ⊥) → Exact (branch live next)
  branch_exact witness p q each dead = exact_along (byte live >>= next) (branch live next)
      branch_same
      (λ bytes v h. subst (λ (bs : List ℕ). branch_spells next bs v) (sym (h.5 ∙ ap (λ (bs : List ℕ). bs ++ h.2) h.3.2)) (h.3.0, h.4))
      (elim [
        | [] ↦ λ v h. absurd h
        | b ∷ bytes ↦ λ v h. (b ∷ [], b, bytes, (h.0, true_from_ne_false (live b) (λ e. dead b h.0 e bytes v h.1), refl), h.1, refl)
      ])
      (then_exact (byte live) next (byte_exact live witness p q) (λ bytes x h. each x h.0 h.1))
