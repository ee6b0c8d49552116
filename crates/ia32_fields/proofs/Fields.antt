-- Codes in whose bytes a wide number has four of its own, kept by each way to make a code.
use Rattle.std.proofs.Common.{◌≡◌, ℕ, ◌^◌, ◌<◌, inl, inr, Bool, List, [], ◌∷◌, ◌++◌, sym, ap, ◌∙◌, ⊎_elim, append_assoc}
use Rattle.std.specs.Int.{w32, to_le_bytes}
use Rattle.codes.specs.Codes.{Code, nothing, branch, either, ◌>>=◌}
use Rattle.ia32_fields.specs.Fields.{IsWide}

-- A number of a value, how the value is with another, and what stands behind the number's bytes.
pub record Number (T : Type 0) : Type 1 where
  pub IsAt : T → ℕ → Type 0
  pub moved : ℕ → T → T
  pub Behind : List ℕ → T → Type 0

pub record Field {T : Type 0} (k : Number T) (c : Code T) (bytes : List ℕ) (v : T) (o : ℕ) : Type 0 where
  pub front : List ℕ
  pub back : List ℕ
  pub parts : bytes ≡ front ++ (to_le_bytes w32 o ++ back)
  pub each : (n : ℕ) → n < 2 ^ 32 → c.spells (front ++ (to_le_bytes w32 n ++ back)) (k.moved n v)
  pub behind : k.Behind back v

pub record HasField {T : Type 0} (k : Number T) (c : Code T) : Type 0 where
  pub field : (bytes : List ℕ) (v : T) (o : ℕ) → c.spells bytes v → k.IsAt v o → IsWide o → Field k c bytes v o

pub nothing_field : {T : Type 0} (k : Number T) → HasField k (nothing {A = T})
nothing_field k = record { field = λ bytes v o h at wide. absurd h }

pub either_field : {T : Type 0} (k : Number T) (b : Bool) (c d : Code T) → HasField k c → HasField k d → HasField k (either b c d)
either_field k b c d p q = record {
  field = λ bytes v o h at wide. ⊎_elim
      (λ s. let f = p.field bytes v o s.1 at wide in record { front = f.front; back = f.back; parts = f.parts; each = λ n low. inl (s.0, f.each n low); behind = f.behind })
      (λ s. let f = q.field bytes v o s.1 at wide in record { front = f.front; back = f.back; parts = f.parts; each = λ n low. inr (s.0, f.each n low); behind = f.behind })
      h;
}

-- the number is in what the second code spells
pub then_field : {A T : Type 0} (k : Number T) (c : Code A) (f : A → Code T) → ((x : A) → HasField k (f x)) → HasField k (c >>= f)
then_field k c f p = record {
  field = λ bytes v o h at wide.
      let g = (p h.1).field h.2 v o h.4 at wide in
      record {
        front = h.0 ++ g.front;
        back = g.back;
        parts = h.5 ∙ ap (λ (back : List ℕ). h.0 ++ back) g.parts ∙ sym (append_assoc h.0 g.front (to_le_bytes w32 o ++ g.back));
        each = λ n low. (h.0, h.1, g.front ++ (to_le_bytes w32 n ++ g.back), h.3, g.each n low, append_assoc h.0 g.front (to_le_bytes w32 n ++ g.back));
        behind = g.behind;
      };
}

pub branch_field : {T : Type 0} (k : Number T) (live : ℕ → Bool) (next : ℕ → Code T) → ((b : ℕ) → HasField k (next b)) → HasField k (branch live next)
branch_field k live next p = record {
  field = elim [
    | [] ↦ λ v o h at wide. absurd h
    | b ∷ bytes ↦ λ v o h at wide.
        let f = (p b).field bytes v o h.1 at wide in
        record {
          front = b ∷ f.front;
          back = f.back;
          parts = ap (λ (rest : List ℕ). b ∷ rest) f.parts;
          each = λ n low. (h.0, f.each n low);
          behind = f.behind;
        }
  ];
}
