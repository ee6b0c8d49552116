-- What comes of a call: it breaks a rule, it is answered at once, or it waits. Which addresses of the guest pool a call takes, where the library may
-- pick one, is left free. (What breaks a rule is the project's own: docs/IMPORTS.md.)
use Rattle.std.specs.Prelude.{◌≡◌, ℕ, Bool, true, false, ◌==◌, if◌then◌else◌, List, [], Result, Ok, Err, is_none}
use Rattle.std.specs.Int.{w16, w32, to_le_bytes, from_le_bytes}
use Rattle.nd_base.specs.declared.layout_field.Field.{Field}
use Rattle.nd_base.specs.declared.numbers.CtxNo.{CtxNo}
use Rattle.nd_mem.specs.Space.{Access, Reading, Writing, Cells, address, first_fault, bytes_from}
use Rattle.log_fields.specs.declared.write.Write.{Write}
use Rattle.packet_pool.specs.declared.states.Kind.{Kind}
use Rattle.packet_pool.specs.LiveMoves as live
use Rattle.packet_pool.specs.LiveMoves.{MakeBlock, Allocate}
use Rattle.packet_chain.specs.Chain.{word_at, field_at}
use Rattle.guest_world.specs.declared.world.World.{World}
use Rattle.guest_world.specs.declared.answer.Reply.{Reply}
use Rattle.guest_world.specs.declared.answer.Answer.{Answer}
use Rattle.guest_world.specs.declared.answer.Answer.TheVariants.{Now, Spin, Sleep, Sync}
use Rattle.guest_world.specs.declared.answer.CallRefusal.{CallRefusal}
use Rattle.guest_world.specs.declared.answer.CallRefusal.TheVariants.{OutOfMemory, Broken}
use Rattle.import_answers.specs.World.{cells}

pub data Outcome : Type 0 where
  -- the call breaks this rule, and nothing changes
  Breaks : ℕ → Outcome
  -- the reply, and the world after it, but for what it writes
  Replies : Reply → World → Outcome
  -- a block of so many bytes at an address that the library picks; by the address, the reply and the world after it
  Picks : ℕ → (ℕ → Reply) → (ℕ → World) → Outcome
  -- the same of a descriptor of a kind, at a free place of the pool with this handle
  PicksDescriptor : Kind → ℕ → (ℕ → Reply) → (ℕ → World) → Outcome
  -- it spins on a lock that another context holds
  Spins : CtxNo → World → Outcome
  -- it sleeps up to this moment
  Sleeps : ℕ → Outcome
  -- it waits for the function that it names, which runs as the adapter's interrupt handler
  Synchronizes : Outcome

-- ---- rules, judged in this order: 5 levels, 9 arguments and handles, 6 locks, 2 what is live

abbrev pub arguments_rule : ℕ
arguments_rule = 9

abbrev pub live_rule : ℕ
live_rule = 2

abbrev pub limit_rule : ℕ
limit_rule = 12

-- where it is so, the rest; elsewhere the rule is broken
abbrev pub asks : Bool → ℕ → Outcome → Outcome
asks true rule rest = rest
asks false rule rest = Breaks rule

-- ---- guest memory

abbrev pub may : Access → World → ℕ → ℕ → Bool
may access w a n = is_none (first_fault access (cells w) a n)

abbrev pub can_read : World → ℕ → ℕ → Bool
can_read w a n = may Reading w a n

abbrev pub can_write : World → ℕ → ℕ → Bool
can_write w a n = may Writing w a n

abbrev pub word_of : World → ℕ → ℕ
word_of w a = word_at (cells w) a

-- two bytes, low byte first
abbrev pub half_at : Cells → ℕ → ℕ
half_at cells a = from_le_bytes w16 (bytes_from cells a 2)

-- where a descriptor has a field
abbrev pub field_of : World → Field → ℕ → ℕ
field_of w field object = field_at w.layout field object

-- ---- writes

abbrev pub written : ℕ → List ℕ → Write
written a bytes = record { at = address a; bytes = bytes }

abbrev pub word_written : ℕ → ℕ → Write
word_written a value = written a (to_le_bytes w32 value)

-- ---- replies

abbrev pub plain : ℕ → List Write → Reply
plain eax writes = record { eax = eax; writes = writes; cost = 1; sent = [] }

-- a call that only returns
abbrev pub done : World → Outcome
done w = Replies (plain 0 []) w

-- a call that returns a number
abbrev pub returns : World → ℕ → Outcome
returns w eax = Replies (plain eax []) w

-- a call that writes and changes nothing else
abbrev pub writes : World → List Write → Outcome
writes w list = Replies (plain 0 list) w

-- the reply of a call that has waited: of NdisMSynchronizeWithInterrupt, import 15, EAX is AL of its function
abbrev pub resumed : ℕ → ℕ → Reply
resumed import al = plain (if import == 15 then al else 0) []

-- ---- what a call answers

-- The answer, and the world after it, are those of the outcome; where the library may pick an address, they are those of one that it may pick. Want of
-- memory comes where no rule is broken, and changes nothing.
abbrev pub Comes : Outcome → World → Result Answer CallRefusal → World → Type 0
Comes (Breaks rule) w (Err (Broken broken)) after = (broken.0 ≡ rule) × (after ≡ w)
Comes (Breaks rule) w _ after = ⊥
Comes _ w (Err OutOfMemory) after = after ≡ w
Comes (Replies reply world) w (Ok (Now given)) after = (given ≡ reply) × (after ≡ world)
Comes (Picks n reply world) w (Ok (Now given)) after = (a : ℕ) × (live.may w.pools (MakeBlock n a) ≡ true) × (given ≡ reply a) × (after ≡ world a)
Comes (PicksDescriptor kind handle reply world) w (Ok (Now given)) after =
    (a : ℕ) × (live.may w.pools (Allocate kind handle a) ≡ true) × (given ≡ reply a) × (after ≡ world a)
Comes (Spins holder world) w (Ok (Spin other)) after = (other ≡ holder) × (after ≡ world)
Comes (Sleeps moment) w (Ok (Sleep wake)) after = (wake ≡ moment) × (after ≡ w)
Comes Synchronizes w (Ok Sync) after = after ≡ w
Comes _ w _ after = ⊥
