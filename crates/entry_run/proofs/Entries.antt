-- The entries of a run of DriverEntry alone.
use Rattle.std.proofs.Common.{rules, ◌≡◌, ℕ, Bool, true, ◌&&◌, List, [], ◌∷◌, refl, ap, subst, inl, Option, Some, None, Ok}
use Rattle.std.specs.Prelude.{replicate, is_some}
use Rattle.std.specs.Option.{option_map_or}
use Rattle.std.proofs.lemmas.List.{append-nil}
use Rattle.nd_base.specs.declared.numbers.CtxNo.{CtxNo}
use Rattle.log_fields.specs.declared.write.Write.{Write}
use Rattle.call_log.specs.declared.entry.Entry.{Entry}
use Rattle.std.specs.Str.{bytes_eq}
use Rattle.std.proofs.lemmas.Slice.Eq.{bytes_eq-Decides}
use Rattle.ia32_step.specs.Machine.{machine, outcome}
use Rattle.log_fields.specs.declared.field_values.Handler.TheVariants.{DriverEntry}
use Rattle.owner_machine.specs.declared.rows.OpenCall.{OpenCall}
use Rattle.owner_machine.specs.declared.rows.Context.TheVariants as kept
use Rattle.owner_machine.specs.Contexts.{called}
use Rattle.guest_world.specs.declared.world.World.{World}
use Rattle.guest_world.specs.declared.answer.Reply.{Reply}
use Rattle.guest_world.specs.declared.answer.Answer.TheVariants.{Now}
use Rattle.import_answers.specs.Outcomes.{Outcome, Breaks, Replies, Picks, PicksDescriptor, Spins, Sleeps, Synchronizes, Comes}
use Rattle.pe_image.specs.Image.{ImageParts}
use Rattle.legal_run.specs.State.{Inputs, State, Nothing, no_contexts, start}
use Rattle.legal_run.specs.Enters.{may_lie}
use Rattle.legal_run.specs.Must.{must}
use Rattle.legal_run.specs.Run.{Meets, IsInTurn, freely, is_turn, is_at_import, call_words}
use Rattle.call_log.specs.declared.entry.Entry.TheVariants as entries
use Rattle.legal_run.specs.Calls.{Did, Broken, Waits, Made, makes, by_outcome, did}
use Rattle.legal_run.specs.After.{after, calling, call_next, replied, registered, spent, reaches}
use Rattle.legal_run.specs.Replies.{Answered, answered, replies}
use Rattle.legal_run.specs.Laws.{RepliesAreTaken}
use Rattle.owner_machine.specs.Machine as owners
use Rattle.owner_machine.specs.Machine.{rule_against}
use Rattle.entry_run.specs.Alone.{alone, shown, owner_of}
use Rattle.entry_run.specs.Laws.{first, entering, entered, Going, going, behind_turn, behind_call, behind_reply, asking, row_outcome}

enter_freely : (image : ImageParts) (slots : List ℕ) (budget : ℕ) (layout : List ℕ) → freely (alone image slots budget layout) (start (alone image slots budget layout)) entering ≡ true
unfolding no_contexts may_lie
enter_freely image slots budget layout = refl

enter_turn : (image : ImageParts) (slots : List ℕ) (budget : ℕ) (layout : List ℕ) → IsInTurn (alone image slots budget layout) (start (alone image slots budget layout)) entering
unfolding must
enter_turn image slots budget layout = enter_freely image slots budget layout

pub enter_meets : (image : ImageParts) (slots : List ℕ) (budget : ℕ) (layout : List ℕ) → Meets (alone image slots budget layout) (start (alone image slots budget layout)) entering
enter_meets image slots budget layout = record { owner = refl; turn = inl (enter_turn image slots budget layout) }

pub enter_leaves : (image : ImageParts) (slots : List ℕ) (budget : ℕ) (layout : List ℕ) → after (alone image slots budget layout) (start (alone image slots budget layout)) entering ≡ shown (entered (alone image slots budget layout))
unfolding no_contexts
enter_leaves image slots budget layout = refl

turn_freely : (image : ImageParts) (slots : List ℕ) (budget : ℕ) (layout : List ℕ) (g : Going) (n : ℕ) → is_turn (alone image slots budget layout) (shown (going g)) first n ≡ true
    → freely (alone image slots budget layout) (shown (going g)) (entries.Turn first n) ≡ true
turn_freely image slots budget layout g n is = is

turn_turn : (image : ImageParts) (slots : List ℕ) (budget : ℕ) (layout : List ℕ) (g : Going) (n : ℕ) → is_turn (alone image slots budget layout) (shown (going g)) first n ≡ true
    → IsInTurn (alone image slots budget layout) (shown (going g)) (entries.Turn first n)
unfolding must
turn_turn image slots budget layout g n is = turn_freely image slots budget layout g n is

pub turn_meets : (image : ImageParts) (slots : List ℕ) (budget : ℕ) (layout : List ℕ) (g : Going) (n : ℕ) → is_turn (alone image slots budget layout) (shown (going g)) first n ≡ true
    → Meets (alone image slots budget layout) (shown (going g)) (entries.Turn first n)
turn_meets image slots budget layout g n is = record { owner = refl; turn = inl (turn_turn image slots budget layout g n is) }

pub turn_leaves : (image : ImageParts) (slots : List ℕ) (budget : ℕ) (layout : List ℕ) (g : Going) (n : ℕ)
    → after (alone image slots budget layout) (shown (going g)) (entries.Turn first n) ≡ shown (behind_turn (alone image slots budget layout) g n)
turn_leaves image slots budget layout g n = refl

call_freely : (image : ImageParts) (slots : List ℕ) (budget : ℕ) (layout : List ℕ) (g : Going) (import : ℕ) (words : List ℕ)
    → is_at_import (outcome (machine g.registers g.world.memory)) import ≡ true → words ≡ call_words (shown (going g)) first import
    → freely (alone image slots budget layout) (shown (going g)) (entries.Call first import words) ≡ true
call_freely image slots budget layout g import words at are = both at (equal words _ are)
  where
    both : {x y : Bool} → x ≡ true → y ≡ true → (x && y) ≡ true
    both one other = rw (one, other) refl

    equal : (xs ys : List ℕ) → xs ≡ ys → bytes_eq xs ys ≡ true
    equal xs ys h = search (rules, bytes_eq-Decides)

call_turn : (image : ImageParts) (slots : List ℕ) (budget : ℕ) (layout : List ℕ) (g : Going) (import : ℕ) (words : List ℕ)
    → freely (alone image slots budget layout) (shown (going g)) (entries.Call first import words) ≡ true
    → IsInTurn (alone image slots budget layout) (shown (going g)) (entries.Call first import words)
unfolding must
call_turn image slots budget layout g import words free = free

pub call_meets : (image : ImageParts) (slots : List ℕ) (budget : ℕ) (layout : List ℕ) (g : Going) (import : ℕ) (words : List ℕ)
    → is_at_import (outcome (machine g.registers g.world.memory)) import ≡ true → words ≡ call_words (shown (going g)) first import
    → Meets (alone image slots budget layout) (shown (going g)) (entries.Call first import words)
call_meets image slots budget layout g import words at are =
    record { owner = refl; turn = inl (call_turn image slots budget layout g import words (call_freely image slots budget layout g import words at are)) }

-- the call that is kept is the one that was made
called_same : (import : ℕ) (words : List ℕ) (d : Did) → called import words ≡ called (calling import words d).import (calling import words d).words
called_same import words (Broken rule) = refl
called_same import words (Waits wait) = refl
called_same import words (Made es lent writes) = refl

pub call_leaves : (image : ImageParts) (slots : List ℕ) (budget : ℕ) (layout : List ℕ) (g : Going) (import : ℕ) (words : List ℕ)
    → after (alone image slots budget layout) (shown (going g)) (entries.Call first import words) ≡ shown (behind_call (alone image slots budget layout) g import words)
call_leaves image slots budget layout g import words =
    let k = behind_call (alone image slots budget layout) g import words in
    ap (λ (call : OpenCall). record (shown k) { owner = record (owner_of k) { contexts = kept.Open None DriverEntry 0 (Some call) ∷ replicate 15 kept.Free } })
    (called_same import words (did (shown (going g)) first import words))

-- ---- replies at once

made_at_once : (g : Going) (c : Inputs) (import : ℕ) (words : List ℕ) (o : Outcome) (reply : Reply) (w : World) → Comes o g.world (Ok (Now reply)) w
    → by_outcome (shown (going g)) None import words o ≡ makes []
made_at_once g c import words (Replies given after) reply w h = refl
made_at_once g c import words (Picks n given after) reply w h = refl
made_at_once g c import words (PicksDescriptor kind handle given after) reply w h = refl
made_at_once g c import words (Breaks rule) reply w h = absurd h
made_at_once g c import words (Spins holder after) reply w h = absurd h
made_at_once g c import words (Sleeps moment) reply w h = absurd h
made_at_once g c import words Synchronizes reply w h = absurd h

pub asks : (g : Going) (image : ImageParts) (slots : List ℕ) (budget : ℕ) (layout : List ℕ) (import : ℕ) (words : List ℕ) (reply : Reply) (w : World)
    → Comes (row_outcome g import words) g.world (Ok (Now reply)) w → behind_call (alone image slots budget layout) g import words ≡ asking g import words
asks g image slots budget layout import words reply w h =
    ap (λ (d : Did). record (going g) { call = Some (calling import words d); next = call_next (alone image slots budget layout) (shown (going g)) first words d })
    (made_at_once g (alone image slots budget layout) import words (row_outcome g import words) reply w h)

-- what is told by a reply without writes of its own
reply_answered : RepliesAreTaken → (g : Going) (import : ℕ) (words : List ℕ) (reply : Reply) (w : World) → Comes (row_outcome g import words) g.world (Ok (Now reply)) w
    → answered (shown (asking g import words)) first (record { eax = reply.eax; writes = reply.writes }) ≡ Some (reply, w)
reply_answered taken g import words reply w h =
    subst (λ (ws : List Write). answered (shown (asking g import words)) first (record { eax = reply.eax; writes = ws }) ≡ Some (reply, w)) (append-nil reply.writes)
    (taken (shown (asking g import words)) first (record { import = import; words = words; wait = Nothing; writes = [] }) reply w refl refl h)

reply_serves : RepliesAreTaken → (g : Going) (import : ℕ) (words : List ℕ) (reply : Reply) (w : World) → Comes (row_outcome g import words) g.world (Ok (Now reply)) w
    → replies (shown (asking g import words)) first (entries.Reply first reply.eax reply.writes) ≡ true
reply_serves taken g import words reply w h = ap (λ a. is_some a) (reply_answered taken g import words reply w h)

reply_turn : (image : ImageParts) (slots : List ℕ) (budget : ℕ) (layout : List ℕ) (g : Going) (import : ℕ) (words : List ℕ) (e : Entry)
    → replies (shown (asking g import words)) first e ≡ true → IsInTurn (alone image slots budget layout) (shown (asking g import words)) e
unfolding must
reply_turn image slots budget layout g import words e h = h

pub reply_meets : RepliesAreTaken → (image : ImageParts) (slots : List ℕ) (budget : ℕ) (layout : List ℕ) (g : Going) (import : ℕ) (words : List ℕ) (reply : Reply) (w : World)
    → Comes (row_outcome g import words) g.world (Ok (Now reply)) w → Meets (alone image slots budget layout) (shown (asking g import words)) (entries.Reply first reply.eax reply.writes)
reply_meets taken image slots budget layout g import words reply w h = record {
  owner = refl;
  turn = inl (reply_turn image slots budget layout g import words (entries.Reply first reply.eax reply.writes) (reply_serves taken g import words reply w h));
}

-- what a reply leaves, by what it answers
abbrev pub left_by : Inputs → State → CtxNo → ℕ → List Write → Option Answered → State
left_by c s x eax writes a =
    let t = replied s x (record { eax = eax; writes = writes }) a in
    record t {
      owner = registered t (owners.after s.owner (entries.Reply x eax writes));
      expired = s.expired;
      next = spent c s x (reaches c s x (option_map_or (λ given. given.0.cost) a 0));
    }

pub reply_leaves : RepliesAreTaken → (image : ImageParts) (slots : List ℕ) (budget : ℕ) (layout : List ℕ) (g : Going) (import : ℕ) (words : List ℕ) (reply : Reply) (w : World)
    → Comes (row_outcome g import words) g.world (Ok (Now reply)) w
    → after (alone image slots budget layout) (shown (asking g import words)) (entries.Reply first reply.eax reply.writes)
    ≡ shown (behind_reply (alone image slots budget layout) g (asking g import words) import reply w)
reply_leaves taken image slots budget layout g import words reply w h =
    ap (left_by (alone image slots budget layout) (shown (asking g import words)) first reply.eax reply.writes) (reply_answered taken g import words reply w h)
