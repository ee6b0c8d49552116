-- What a context does leaves the course as it is: what drivers await, packets, loans, frames.
use Rattle.std.proofs.Common.{◌≡◌, ℕ, suc, Bool, true, false, cond, ◌==◌, List, refl, sym, ap, ◌∙◌, Option, Some, None}
use Rattle.nd_base.specs.declared.numbers.AdapterNo.{AdapterNo}
use Rattle.nd_base.specs.declared.numbers.CtxNo.{CtxNo}
use Rattle.log_fields.specs.declared.write.Write.{Write}
use Rattle.log_fields.specs.declared.field_values.Handler.{Handler}
use Rattle.log_fields.specs.declared.field_values.Handler.TheVariants as handler
use Rattle.call_log.specs.declared.entry.Entry.{Entry}
use Rattle.call_log.specs.declared.entry.Entry.TheVariants as entries
use Rattle.import_answers.specs.Statuses.{success}
use Rattle.legal_run.specs.State.{Inputs, State, Wait, Calling, adapter_of, has_handler, handler_of, call_at}
use Rattle.legal_run.specs.Calls.{leaves}
use Rattle.legal_run.specs.Replies.{Answered, Told, answered}
use Rattle.legal_run.specs.After.{after, charge_to, with_wait, taken, fired, left_row, replied, spun, is_breaking, recognized, number_in, expired_after}
use Rattle.legal_run.specs.Owed.{sync_caller}
use Rattle.legal_run.specs.VerdictLaws.{is_send}
use Rattle.run_moves.specs.Runs.{expirations, changes_book_alone, makes_progress, progressed}
use Rattle.run_course.specs.Shown.{Shows}
use Rattle.run_course.specs.declared.course.Course.{Course}

record SameCourse (s t : State) : Type 0 where
  pub hearings : t.drivers ≡ s.drivers
  pub frames : t.packets ≡ s.packets
  pub loans : t.lent ≡ s.lent
  pub arrivals : t.come ≡ s.come
  pub expirations : t.expired ≡ s.expired

same : (s : State) → SameCourse s s
same s = record { hearings = refl; frames = refl; loans = refl; arrivals = refl; expirations = refl }

either : (b : Bool) (s x y : State) → SameCourse s x → SameCourse s y → SameCourse s (cond b x y)
either true s x y one other = one
either false s x y one other = other

charged : (s t : State) (who : Option AdapterNo) (n : ℕ) → SameCourse s t → SameCourse s (charge_to t who n)
charged s t None n h = record { hearings = h.hearings; frames = h.frames; loans = h.loans; arrivals = h.arrivals; expirations = h.expirations }
charged s t (Some a) n h = record { hearings = h.hearings; frames = h.frames; loans = h.loans; arrivals = h.arrivals; expirations = h.expirations }

waited : (s : State) (x : Option ℕ) (w : Wait) → SameCourse s (with_wait s x w)
waited s None w = same s
waited s (Some x) w = record { hearings = refl; frames = refl; loans = refl; arrivals = refl; expirations = refl }

left_same : (c : Inputs) (s : State) (a : ℕ) (x : CtxNo) (eax : ℕ) (h : Handler) → SameCourse s (left_row c s a x eax h)
left_same c s a x eax handler.Initialize = either (eax == success) s _ _ (record { hearings = refl; frames = refl; loans = refl; arrivals = refl; expirations = refl }) (record { hearings = refl; frames = refl; loans = refl; arrivals = refl; expirations = refl })
left_same c s a x eax handler.Isr = either (recognized s x) s _ _ (record { hearings = refl; frames = refl; loans = refl; arrivals = refl; expirations = refl }) (same s)
left_same c s a x eax handler.HandleInterrupt = either (has_handler s handler.EnableInterrupt) s _ _ (record { hearings = refl; frames = refl; loans = refl; arrivals = refl; expirations = refl }) (same s)
left_same c s a x eax handler.Sync = waited s _ _
left_same c s a x eax _ = record { hearings = refl; frames = refl; loans = refl; arrivals = refl; expirations = refl }

replied_same : (s : State) (x : CtxNo) (told : Told) (answer : Option Answered) → SameCourse s (replied s x told answer)
replied_same s x told None = same s
replied_same s x told (Some given) = charged s _ (adapter_of s x.0) given.0.cost (record { hearings = refl; frames = refl; loans = refl; arrivals = refl; expirations = refl })

spun_same : (s : State) (x : CtxNo) (call : Option Calling) → SameCourse s (spun s x call)
spun_same s x None = same s
spun_same s x (Some call) = record { hearings = refl; frames = refl; loans = refl; arrivals = refl; expirations = refl }

shows : (s t : State) (k : Course) → SameCourse s t → Shows s k → Shows t k
shows s t k h shown = record {
  hearings = shown.hearings ∙ sym h.hearings;
  frames = shown.frames ∙ sym h.frames;
  loans = shown.loans ∙ sym h.loans;
  arrivals = shown.arrivals ∙ sym h.arrivals;
  expirations = shown.expirations ∙ sym h.expirations;
}

pub turn : (c : Inputs) (s : State) (x : CtxNo) (n : ℕ) (k : Course) → Shows s k → Shows (after c s (entries.Turn x n)) k
turn c s x n k shown =
    let h = charged s _ (adapter_of s x.0) n (record { hearings = refl; frames = refl; loans = refl; arrivals = refl; expirations = refl }) in
    shows s _ k (record { hearings = h.hearings; frames = h.frames; loans = h.loans; arrivals = h.arrivals; expirations = refl }) shown

pub call : (c : Inputs) (s : State) (x : CtxNo) (import : ℕ) (words : List ℕ) (k : Course) → Shows s k → Shows (after c s (entries.Call x import words)) k
call c s x import words k shown = shows s _ k (record { hearings = refl; frames = refl; loans = refl; arrivals = refl; expirations = refl }) shown

pub leave : (c : Inputs) (s : State) (x : CtxNo) (eax : ℕ) (k : Course) → Shows s k → Shows (after c s (entries.Leave x eax)) k
leave c s x eax k shown =
    let row = left_same c s _ x eax (handler_of s x.0) in
    let h = either (is_breaking (leaves c s x eax)) s _ _ (same s) (record { hearings = row.hearings; frames = row.frames; loans = row.loans; arrivals = row.arrivals; expirations = row.expirations }) in
    shows s _ k (record { hearings = h.hearings; frames = h.frames; loans = h.loans; arrivals = h.arrivals; expirations = refl }) shown

pub reply : (c : Inputs) (s : State) (x : CtxNo) (eax : ℕ) (writes : List Write) (k : Course) → Shows s k → Shows (after c s (entries.Reply x eax writes)) k
reply c s x eax writes k shown =
    let h = replied_same s x (record { eax = eax; writes = writes }) (answered s x (record { eax = eax; writes = writes })) in
    shows s _ k (record { hearings = h.hearings; frames = h.frames; loans = h.loans; arrivals = h.arrivals; expirations = refl }) shown

pub spin : (c : Inputs) (s : State) (x : CtxNo) (lock : Rattle.nd_base.specs.declared.numbers.Addr.Addr) (k : Course) → Shows s k → Shows (after c s (entries.Spin x lock)) k
spin c s x lock k shown =
    let h = spun_same s x (call_at s x.0) in
    shows s _ k (record { hearings = h.hearings; frames = h.frames; loans = h.loans; arrivals = h.arrivals; expirations = refl }) shown

taken_same : (s : State) (a : ℕ) (h : Handler) (words : List ℕ) (writes : List Write) → is_send h ≡ false → SameCourse s (taken s a h words writes)
taken_same s a handler.Sync words writes none = waited s (sync_caller s a) _
taken_same s a handler.Send words writes none = absurd (cc)
taken_same s a handler.SendPackets words writes none = absurd (cc)
taken_same s a _ words writes none = record { hearings = refl; frames = refl; loans = refl; arrivals = refl; expirations = refl }

pub enter : (c : Inputs) (s : State) (a : Option AdapterNo) (x : CtxNo) (h : Handler) (words : List ℕ) (writes : List Write) (k : Course) → is_send h ≡ false → Shows s k
    → Shows (after c s (entries.Enter a x h words writes)) (record k { expired = expirations k.expired h })
enter c s a x h words writes k none shown =
    let t = taken_same s (number_in c a) h words writes none in
    record {
      hearings = shown.hearings ∙ sym t.hearings;
      frames = shown.frames ∙ sym t.frames;
      loans = shown.loans ∙ sym t.loans;
      arrivals = shown.arrivals ∙ sym t.arrivals;
      expirations = expired h ∙ ap (λ n. expired_after n (entries.Enter a x h words writes)) shown.expirations;
    }
  where
    expired : (h : Handler) → expirations k.expired h ≡ expired_after k.expired (entries.Enter a x h words writes)
    expired handler.Timer = refl
    expired handler.CheckForHang = refl
    expired _ = refl

pub noted : (c : Inputs) (s : State) (e : Entry) (k : Course) → changes_book_alone e ≡ true → Shows s k → Shows (after c s e) (record k { expired = progressed k.expired (makes_progress e) })
noted c s (entries.Tag _ _) k alone h = record { hearings = h.hearings; frames = h.frames; loans = h.loans; arrivals = h.arrivals; expirations = h.expirations }
noted c s (entries.Hand _) k alone h = record { hearings = h.hearings; frames = h.frames; loans = h.loans; arrivals = h.arrivals; expirations = refl }
noted c s (entries.Requeue _) k alone h = record { hearings = h.hearings; frames = h.frames; loans = h.loans; arrivals = h.arrivals; expirations = h.expirations }
noted c s (entries.Late _) k alone h = record { hearings = h.hearings; frames = h.frames; loans = h.loans; arrivals = h.arrivals; expirations = h.expirations }
noted c s (entries.HandAsk _) k alone h = record { hearings = h.hearings; frames = h.frames; loans = h.loans; arrivals = h.arrivals; expirations = h.expirations }
noted c s (entries.ResetBegin _) k alone h = record { hearings = h.hearings; frames = h.frames; loans = h.loans; arrivals = h.arrivals; expirations = h.expirations }
noted c s (entries.ResetEnd _ _) k alone h = record { hearings = h.hearings; frames = h.frames; loans = h.loans; arrivals = h.arrivals; expirations = h.expirations }
noted c s (entries.Port _ _ _ _ _) k alone h = record { hearings = h.hearings; frames = h.frames; loans = h.loans; arrivals = h.arrivals; expirations = h.expirations }
noted c s (entries.WireOut _ _) k alone h = record { hearings = h.hearings; frames = h.frames; loans = h.loans; arrivals = h.arrivals; expirations = refl }
noted c s _ k alone h = absurd (cc)
