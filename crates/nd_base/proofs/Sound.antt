-- What is true of every layout.
use Rattle.std.proofs.Common.{◌≡◌, ℕ, ◌+◌, ◌<◌, ◌≤◌, ◌⊎◌, List, get_or, lit<, refl, sym, ap, ◌∙◌, inl, inr, arith}
use Rattle.std.proofs.lemmas.Bool.{cases_lt, cases_order}
use Rattle.nd_base.specs.declared.layout_field.Field.{Field}
use Rattle.nd_base.specs.declared.layout_field.Field.TheVariants.{PacketPhysicalCount, PacketTotalLength, PacketHead, PacketTail, PacketPool, PacketCount, PacketFlags, PacketValidCounts, PacketNdisFlags, PacketOobOffset, PacketMiniportReserved, OobHeaderSize, OobStatus, BufferNext, BufferSize, BufferFlags, BufferMapped, BufferStart, BufferCount, BufferOffset, BlockPacketIndicate, BlockSendComplete, BlockSendResources, BlockResetComplete, BlockStatus, BlockStatusComplete, BlockQueryComplete, BlockSetComplete, BlockEthIndicate, BlockEthComplete, BlockEthDb}
use Rattle.nd_base.specs.declared.layout_field.Object.{Object}
use Rattle.nd_base.specs.declared.layout_field.Object.TheVariants.{Packet, OutOfBand, Buffer, Block}
use Rattle.nd_base.specs.Layout.{limit, row, rows, number, object_of, width_of, IsSound}
use Rattle.nd_base.specs.LayoutFile.{AreSound, IsLayout}

pub number_small : (field : Field) → number field < 31
number_small PacketPhysicalCount = lit< tt
number_small PacketTotalLength = lit< tt
number_small PacketHead = lit< tt
number_small PacketTail = lit< tt
number_small PacketPool = lit< tt
number_small PacketCount = lit< tt
number_small PacketFlags = lit< tt
number_small PacketValidCounts = lit< tt
number_small PacketNdisFlags = lit< tt
number_small PacketOobOffset = lit< tt
number_small PacketMiniportReserved = lit< tt
number_small OobHeaderSize = lit< tt
number_small OobStatus = lit< tt
number_small BufferNext = lit< tt
number_small BufferSize = lit< tt
number_small BufferFlags = lit< tt
number_small BufferMapped = lit< tt
number_small BufferStart = lit< tt
number_small BufferCount = lit< tt
number_small BufferOffset = lit< tt
number_small BlockPacketIndicate = lit< tt
number_small BlockSendComplete = lit< tt
number_small BlockSendResources = lit< tt
number_small BlockResetComplete = lit< tt
number_small BlockStatus = lit< tt
number_small BlockStatusComplete = lit< tt
number_small BlockQueryComplete = lit< tt
number_small BlockSetComplete = lit< tt
number_small BlockEthIndicate = lit< tt
number_small BlockEthComplete = lit< tt
number_small BlockEthDb = lit< tt

row_of : (field : Field) → (row (number field)).field ≡ field
unfolding row rows
row_of PacketPhysicalCount = refl
row_of PacketTotalLength = refl
row_of PacketHead = refl
row_of PacketTail = refl
row_of PacketPool = refl
row_of PacketCount = refl
row_of PacketFlags = refl
row_of PacketValidCounts = refl
row_of PacketNdisFlags = refl
row_of PacketOobOffset = refl
row_of PacketMiniportReserved = refl
row_of OobHeaderSize = refl
row_of OobStatus = refl
row_of BufferNext = refl
row_of BufferSize = refl
row_of BufferFlags = refl
row_of BufferMapped = refl
row_of BufferStart = refl
row_of BufferCount = refl
row_of BufferOffset = refl
row_of BlockPacketIndicate = refl
row_of BlockSendComplete = refl
row_of BlockSendResources = refl
row_of BlockResetComplete = refl
row_of BlockStatus = refl
row_of BlockStatusComplete = refl
row_of BlockQueryComplete = refl
row_of BlockSetComplete = refl
row_of BlockEthIndicate = refl
row_of BlockEthComplete = refl
row_of BlockEthDb = refl

-- a field has one number
one_field : (field other : Field) → number field ≡ number other → field ≡ other
one_field field other same = sym (row_of field) ∙ ap (λ (i : ℕ). (row i).field) same ∙ row_of other

limit_small : (o : Object) → limit o ≤ 4096
limit_small Packet = omega arith
limit_small OutOfBand = omega arith
limit_small Buffer = omega arith
limit_small Block = omega arith

-- no field is empty
width_some : (field : Field) → 0 < width_of field
unfolding row rows
width_some PacketPhysicalCount = lit< tt
width_some PacketTotalLength = lit< tt
width_some PacketHead = lit< tt
width_some PacketTail = lit< tt
width_some PacketPool = lit< tt
width_some PacketCount = lit< tt
width_some PacketFlags = lit< tt
width_some PacketValidCounts = lit< tt
width_some PacketNdisFlags = lit< tt
width_some PacketOobOffset = lit< tt
width_some PacketMiniportReserved = lit< tt
width_some OobHeaderSize = lit< tt
width_some OobStatus = lit< tt
width_some BufferNext = lit< tt
width_some BufferSize = lit< tt
width_some BufferFlags = lit< tt
width_some BufferMapped = lit< tt
width_some BufferStart = lit< tt
width_some BufferCount = lit< tt
width_some BufferOffset = lit< tt
width_some BlockPacketIndicate = lit< tt
width_some BlockSendComplete = lit< tt
width_some BlockSendResources = lit< tt
width_some BlockResetComplete = lit< tt
width_some BlockStatus = lit< tt
width_some BlockStatusComplete = lit< tt
width_some BlockQueryComplete = lit< tt
width_some BlockSetComplete = lit< tt
width_some BlockEthIndicate = lit< tt
width_some BlockEthComplete = lit< tt
width_some BlockEthDb = lit< tt

-- two ranges that share no byte
ranges : (a m b n : ℕ) → 0 < m → 0 < n → ((x : ℕ) → (a ≤ x) × (x < a + m) → (b ≤ x) × (x < b + n) → ⊥) → (a + m ≤ b) ⊎ (b + n ≤ a)
ranges a m b n some others none = elim (cases_lt b (a + m)) [
  | inr le ↦ inl le
  | inl lt ↦ elim (cases_lt a (b + n)) [
    | inr le ↦ inr le
    | inl lt2 ↦ elim (cases_lt a b) [
      | inl before ↦ absurd (none b (omega arith, lt) (omega arith, omega arith))
      | inr behind ↦ absurd (none a (omega arith, omega arith) (behind, lt2))
    ]
  ]
]

turned : {A B : Type 0} → A ⊎ B → B ⊎ A
turned (inl a) = inr a
turned (inr b) = inl b

pub is_sound : (offsets : List ℕ) → AreSound offsets → IsSound offsets
is_sound offsets sound = record {
  inside = λ field. sound.inside (number field) (number_small field);
  small = λ field. limit_small (object_of field);
  apart = λ field other differ same.
      let i = number field in
      let j = number other in
      let a = get_or offsets i 0 in
      let b = get_or offsets j 0 in
      elim (cases_order i j) [
        | inl equal ↦ absurd (differ (one_field field other equal))
        | inr (inl less) ↦ ranges a (width_of field) b (width_of other) (width_some field) (width_some other) (λ x in_a in_b. sound.apart i j less (number_small other) (same, (x, in_a, in_b)))
        | inr (inr more) ↦ turned (ranges b (width_of other) a (width_of field) (width_some other) (width_some field) (λ x in_b in_a. sound.apart j i more (number_small field) (sym same, (x, in_b, in_a))))
      ];
}

pub layout_sound : (text offsets : List ℕ) → IsLayout text offsets → AreSound offsets
layout_sound text offsets is = record {
  fields = is.1.fields;
  inside = λ i lt. let s = is.1.stated i lt in s.2.2;
  apart = is.2;
}
