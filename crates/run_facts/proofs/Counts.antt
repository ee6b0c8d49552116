-- How long the lists of a state are.
use Rattle.std.proofs.Common.{◌≡◌, ℕ, zero, suc, ◌+◌, Bool, true, false, cond, ◌==◌, List, [], ◌∷◌, Option, Some, None, refl, sym, ap, ◌∙◌, subst, length, arith}
use Rattle.std.proofs.lemmas.List.{length-set, length-replicate, length-append, length-map}
use Rattle.nd_base.specs.declared.numbers.AdapterNo.{AdapterNo}
use Rattle.nd_base.specs.declared.numbers.BindingNo.{BindingNo}
use Rattle.nd_base.specs.declared.numbers.CtxNo.{CtxNo}
use Rattle.log_fields.specs.declared.write.Write.{Write}
use Rattle.log_fields.specs.declared.field_values.Handler.{Handler}
use Rattle.log_fields.specs.declared.field_values.Handler.TheVariants as handler
use Rattle.call_log.specs.declared.entry.Entry.{Entry}
use Rattle.call_log.specs.declared.entry.Entry.TheVariants as entries
use Rattle.import_answers.specs.Statuses.{success}
use Rattle.owner_machine.specs.declared.rows.Context.{Context as OwnerContext}
use Rattle.owner_machine.specs.declared.rows.Context.TheVariants as kept
use Rattle.owner_machine.specs.declared.rows.Driver.{Driver}
use Rattle.owner_machine.specs.declared.rows.Request.{Request}
use Rattle.owner_machine.specs.State.{Owner, change}
use Rattle.owner_machine.specs.Contexts.{freed, entry_freed, transfer_begun, wants_transfer, with_transfer}
use Rattle.owner_machine.specs.Handlers.{contexts_entered}
use Rattle.owner_machine.specs.Adapters.{contexts_stopped, all_stopped, stopped}
use Rattle.owner_machine.specs.Legal.{new_driver}
use Rattle.owner_machine.specs.Requests.{learnt_at}
use Rattle.owner_machine.specs.Machine as owners
use Rattle.legal_run.specs.State.{Inputs, State, Wait, Calling, Frame, adapter_of, has_handler, no_context, start}
use Rattle.legal_run.specs.Calls.{leaves}
use Rattle.legal_run.specs.Replies.{Answered, Told}
use Rattle.legal_run.specs.After.{after, effect, framed, all_spoke, charge_to, with_wait, taken, left_row, replied, spun, is_breaking, recognized, placed, slotted, owner_left}
use Rattle.legal_run.specs.Run.{Run, Meets, now}
use Rattle.run_facts.specs.Facts.{IsOfRun, Counts}
use Rattle.run_facts.proofs.Runs.{of_run}

-- ---- the owner machine's lists

length_changed : {A : Type 0} (f : A → A) (rows : List A) (k : ℕ) → length (change f rows k) ≡ length rows
length_changed f [] k = refl
length_changed f (row ∷ rows) zero = refl
length_changed f (row ∷ rows) (suc k) = ap suc (length_changed f rows k)

begun_count : (a n : ℕ) (cs : List OwnerContext) → length (transfer_begun a n cs) ≡ length cs
begun_count a n [] = refl
begun_count a n (y ∷ cs) = by_test (wants_transfer a y) (begun_count a n cs)
  where
    by_test : (t : Bool) → length (transfer_begun a n cs) ≡ length cs → length (cond t (with_transfer n y ∷ cs) (y ∷ transfer_begun a n cs)) ≡ suc (length cs)
    by_test true more = refl
    by_test false more = ap suc more

pub opened_count : (b : Option AdapterNo) (h : Handler) (n : ℕ) (cs : List OwnerContext) → length (contexts_entered b h n cs) ≡ length cs
opened_count (Some b) handler.TransferData n cs = begun_count b.0 n cs
opened_count None handler.TransferData n cs = refl
opened_count (Some b) _ n cs = refl
opened_count None _ n cs = refl

freed_count : (a : ℕ) (cs : List OwnerContext) → length (freed a cs) ≡ length cs
freed_count a [] = refl
freed_count a (x ∷ cs) = ap suc (freed_count a cs)

entry_freed_count : (cs : List OwnerContext) → length (entry_freed cs) ≡ length cs
entry_freed_count [] = refl
entry_freed_count (kept.Open None h enter call ∷ cs) = ap suc (entry_freed_count cs)
entry_freed_count (kept.Open (Some a) h enter call ∷ cs) = ap suc (entry_freed_count cs)
entry_freed_count (kept.Free ∷ cs) = ap suc (entry_freed_count cs)

stopped_count : (cs : List OwnerContext) (a : ℕ) (all : Bool) → length (contexts_stopped cs a all) ≡ length cs
stopped_count cs a true = entry_freed_count (freed a cs) ∙ freed_count a cs
stopped_count cs a false = freed_count a cs

learnt_count : (status : ℕ) (r : Option Request) (ds : List Driver) → length (learnt_at status r ds) ≡ length ds
learnt_count zero (Some r) ds = length_changed _ ds r.driver.0
learnt_count zero None ds = refl
learnt_count (suc status) (Some r) ds = refl
learnt_count (suc status) None ds = refl

owner_contexts : (o : Owner) (e : Entry) → length (owners.after o e).contexts ≡ length o.contexts
owner_contexts o (entries.Enter b x h words writes) = length-set (contexts_entered b h o.enters o.contexts) x.0 _ ∙ opened_count b h o.enters o.contexts
owner_contexts o (entries.Leave x eax) = length-set o.contexts x.0 _
owner_contexts o (entries.Call x import words) = length_changed _ o.contexts x.0
owner_contexts o (entries.Reply x eax writes) = length_changed _ o.contexts x.0
owner_contexts o (entries.Stop b why) = stopped_count o.contexts b.0 (all_stopped (change stopped o.adapters b.0))
owner_contexts o _ = refl

owner_drivers : (o : Owner) (e : Entry) → length (owners.after o e).drivers ≡ length o.drivers
owner_drivers o (entries.Bind driver _) = length_changed _ o.drivers driver.0
owner_drivers o (entries.Unbind driver) = length_changed _ o.drivers driver.0
owner_drivers o (entries.Answer request status _) = learnt_count status.0 _ o.drivers
owner_drivers o _ = refl

-- the kinds that make a packet, or a loan
abbrev sends : Entry → ℕ
sends (entries.Send _ _ _) = 1
sends _ = 0

abbrev lends : Entry → ℕ
lends (entries.Indicate _ _ _ _ _) = 1
lends _ = 0

more : (n m : ℕ) → n ≡ m → n ≡ m + 0
more n m h = omega (arith, h)

owner_packets : (o : Owner) (e : Entry) → length (owners.after o e).packets ≡ length o.packets + sends e
owner_packets o (entries.Send driver packet bytes) = length-append o.packets _
owner_packets o (entries.Tag packet id) = more _ _ (length_changed _ o.packets packet.0)
owner_packets o (entries.Hand packet) = more _ _ (length_changed _ o.packets packet.0)
owner_packets o (entries.Requeue packet) = more _ _ (length_changed _ o.packets packet.0)
owner_packets o (entries.Complete packet status) = more _ _ (length_changed _ o.packets packet.0)
owner_packets o (entries.Late packet) = more _ _ (length_changed _ o.packets packet.0)
owner_packets o _ = omega arith

owner_loans : (o : Owner) (e : Entry) → length (owners.after o e).loans ≡ length o.loans + lends e
owner_loans o (entries.Indicate a j bytes holders copied) = length-append o.loans _
owner_loans o (entries.Return driver loan) = more _ _ (length_changed _ o.loans loan.0)
owner_loans o (entries.Back loan failed) = more _ _ (length_changed _ o.loans loan.0)
owner_loans o _ = omega arith

-- ---- the run's own lists

record Sizes (t s : State) : Type 0 where
  pub contexts : length t.contexts ≡ length s.contexts
  pub adapters : length t.adapters ≡ length s.adapters
  pub charges : length t.charges ≡ length s.charges
  pub drivers : length t.drivers ≡ length s.drivers
  pub packets : length t.packets ≡ length s.packets
  pub lent : length t.lent ≡ length s.lent

same : (s : State) → Sizes s s
same s = record { contexts = refl; adapters = refl; charges = refl; drivers = refl; packets = refl; lent = refl }

framed_sizes : (s : State) (bs : List BindingNo) → Sizes (framed s bs) s
unfolding framed
framed_sizes s [] = same s
framed_sizes s (b ∷ bs) =
    let rest = framed_sizes _ bs in
    record { contexts = rest.contexts; adapters = rest.adapters; charges = rest.charges; drivers = rest.drivers ∙ length-set s.drivers b.0 _; packets = rest.packets; lent = rest.lent }

spoke_sizes : (s : State) (bs : List ℕ) → Sizes (all_spoke s bs) s
unfolding all_spoke
spoke_sizes s [] = same s
spoke_sizes s (b ∷ bs) =
    let rest = spoke_sizes _ bs in
    record { contexts = rest.contexts; adapters = rest.adapters; charges = rest.charges; drivers = rest.drivers ∙ length-set s.drivers b _; packets = rest.packets; lent = rest.lent }

wait_sizes : (s : State) (x : Option ℕ) (w : Wait) → Sizes (with_wait s x w) s
wait_sizes s None w = same s
wait_sizes s (Some x) w = record { contexts = length-set s.contexts x _; adapters = refl; charges = refl; drivers = refl; packets = refl; lent = refl }

spun_sizes : (s : State) (x : CtxNo) (call : Option Calling) → Sizes (spun s x call) s
spun_sizes s x None = same s
spun_sizes s x (Some call) = record { contexts = refl; adapters = refl; charges = refl; drivers = refl; packets = refl; lent = refl }

placed_size : (s : State) (frames : List Frame) (ks ats : List ℕ) → length (placed s frames ks ats) ≡ length frames
unfolding placed
placed_size s frames [] ats = refl
placed_size s frames (k ∷ ks) [] = refl
placed_size s frames (k ∷ ks) (a ∷ ats) = placed_size s (slotted frames k _) ks ats ∙ length-set frames k _

either_sizes : (b : Bool) (x y s : State) → Sizes x s → Sizes y s → Sizes (cond b x y) s
either_sizes true x y s one other = one
either_sizes false x y s one other = other

progress_sizes : (s t : State) (a : ℕ) → t.contexts ≡ s.contexts → length t.adapters ≡ length s.adapters → t.charges ≡ s.charges → t.drivers ≡ s.drivers → t.packets ≡ s.packets → t.lent ≡ s.lent → Sizes t s
progress_sizes s t a one two three four five six = record {
  contexts = ap (λ l. length l) one;
  adapters = two;
  charges = ap (λ l. length l) three;
  drivers = ap (λ l. length l) four;
  packets = ap (λ l. length l) five;
  lent = ap (λ l. length l) six;
}

taken_sizes : (s : State) (a : ℕ) (h : Handler) (words : List ℕ) (writes : List Write) → Sizes (taken s a h words writes) s
taken_sizes s a handler.Sync words writes = wait_sizes s _ _
taken_sizes s a handler.Initialize words writes = progress_sizes s _ a refl (length-set s.adapters a _) refl refl refl refl
taken_sizes s a handler.EnableInterrupt words writes = progress_sizes s _ a refl (length-set s.adapters a _) refl refl refl refl
taken_sizes s a handler.CheckForHang words writes = progress_sizes s _ a refl (length-set s.adapters a _) refl refl refl refl
taken_sizes s a handler.Send words writes = record { contexts = refl; adapters = refl; charges = refl; drivers = refl; packets = placed_size s s.packets _ _; lent = refl }
taken_sizes s a handler.SendPackets words writes = record { contexts = refl; adapters = refl; charges = refl; drivers = refl; packets = placed_size s s.packets _ _; lent = refl }
taken_sizes s a _ words writes = record { contexts = refl; adapters = refl; charges = refl; drivers = refl; packets = refl; lent = refl }

left_sizes : (c : Inputs) (s : State) (a : ℕ) (x : CtxNo) (eax : ℕ) (h : Handler) → Sizes (left_row c s a x eax h) s
left_sizes c s a x eax handler.Initialize =
    either_sizes (eax == success) _ _ _ (progress_sizes s _ a refl (length-set s.adapters a _) refl refl refl refl) (progress_sizes s _ a refl refl refl refl refl refl)
left_sizes c s a x eax handler.Isr = either_sizes (recognized s x) _ _ _ (progress_sizes s _ a refl refl refl refl refl refl) (same s)
left_sizes c s a x eax handler.HandleInterrupt = either_sizes (has_handler s handler.EnableInterrupt) _ _ _ (progress_sizes s _ a refl (length-set s.adapters a _) refl refl refl refl) (same s)
left_sizes c s a x eax handler.Sync = wait_sizes s _ _
left_sizes c s a x eax _ = record { contexts = refl; adapters = refl; charges = refl; drivers = refl; packets = refl; lent = refl }

charged_sizes : (s : State) (who : Option AdapterNo) (n : ℕ) → Sizes (charge_to s who n) s
charged_sizes s None n = record { contexts = refl; adapters = refl; charges = refl; drivers = refl; packets = refl; lent = refl }
charged_sizes s (Some b) n = record { contexts = refl; adapters = refl; charges = length-set s.charges b.0 _; drivers = refl; packets = refl; lent = refl }

replied_sizes : (s : State) (x : CtxNo) (told : Told) (answer : Option Answered) → Sizes (replied s x told answer) s
replied_sizes s x told None = same s
replied_sizes s x told (Some given) =
    let h = charged_sizes _ (adapter_of s x.0) given.0.cost in
    record { contexts = h.contexts ∙ length-set s.contexts x.0 _; adapters = h.adapters; charges = h.charges; drivers = h.drivers; packets = h.packets; lent = h.lent }

-- ---- what an entry does

record Grows (t s : State) (e : Entry) : Type 0 where
  pub contexts : length t.contexts ≡ length s.contexts
  pub adapters : length t.adapters ≡ length s.adapters
  pub charges : length t.charges ≡ length s.charges
  pub drivers : length t.drivers ≡ length s.drivers
  pub packets : length t.packets ≡ length s.packets + sends e
  pub lent : length t.lent ≡ length s.lent + lends e

still : (t s : State) (e : Entry) → sends e ≡ 0 → lends e ≡ 0 → Sizes t s → Grows t s e
still t s e one two h = record {
  contexts = h.contexts;
  adapters = h.adapters;
  charges = h.charges;
  drivers = h.drivers;
  packets = omega (arith, h.packets, one);
  lent = omega (arith, h.lent, two);
}

spoken : (s t : State) (b : ℕ) → t.contexts ≡ s.contexts → t.adapters ≡ s.adapters → t.charges ≡ s.charges → length t.drivers ≡ length s.drivers → t.packets ≡ s.packets → t.lent ≡ s.lent → Sizes t s
spoken s t b one two three four five six = record {
  contexts = ap (λ l. length l) one;
  adapters = ap (λ l. length l) two;
  charges = ap (λ l. length l) three;
  drivers = four;
  packets = ap (λ l. length l) five;
  lent = ap (λ l. length l) six;
}

effect_grows : (c : Inputs) (s : State) (e : Entry) → Grows (effect c s e) s e
effect_grows c s (entries.Bind driver a) = still _ _ _ refl refl (spoken s _ driver.0 refl refl refl (length-set s.drivers driver.0 _) refl refl)
effect_grows c s (entries.Unbind driver) = still _ _ _ refl refl (spoken s _ driver.0 refl refl refl (length-set s.drivers driver.0 _) refl refl)
effect_grows c s (entries.Done driver) = still _ _ _ refl refl (spoken s _ driver.0 refl refl refl (length-set s.drivers driver.0 _) refl refl)
effect_grows c s (entries.Quiet driver) = still _ _ _ refl refl (spoken s _ driver.0 refl refl refl (length-set s.drivers driver.0 _) refl refl)
effect_grows c s (entries.Await driver condition) = still _ _ _ refl refl (spoken s _ driver.0 refl refl refl (length-set s.drivers driver.0 _) refl refl)
effect_grows c s (entries.Cancel driver id) = still _ _ _ refl refl (spoken s _ driver.0 refl refl refl (length-set s.drivers driver.0 _) refl refl)
effect_grows c s (entries.Event driver number bytes taken) = still _ _ _ refl refl (spoken s _ driver.0 refl refl refl (length-set s.drivers driver.0 _) refl refl)
effect_grows c s (entries.Ask driver request question) = still _ _ _ refl refl (spoken s _ driver.0 refl refl refl (length-set s.drivers driver.0 _) refl refl)
effect_grows c s (entries.Return driver loan) = still _ _ _ refl refl (spoken s _ driver.0 refl refl refl (length-set s.drivers driver.0 _) refl refl)
effect_grows c s (entries.Complete packet status) = still _ _ _ refl refl (spoken s _ 0 refl refl refl (length-set s.drivers _ _) refl refl)
effect_grows c s (entries.Answer request status bytes) = still _ _ _ refl refl (spoken s _ 0 refl refl refl (length-set s.drivers _ _) refl refl)
effect_grows c s (entries.Send driver packet bytes) =
    record { contexts = refl; adapters = refl; charges = refl; drivers = length-set s.drivers driver.0 _; packets = length-append s.packets _; lent = omega arith }
effect_grows c s (entries.Indicate b j bytes holders copied) =
    let h = framed_sizes s holders in
    record { contexts = h.contexts; adapters = h.adapters; charges = h.charges; drivers = h.drivers; packets = omega (arith, h.packets); lent = length-append s.lent _ }
effect_grows c s (entries.Enter b x h words writes) =
    let t = taken_sizes s _ h words writes in
    still _ _ _ refl refl (record { contexts = length-set _ x.0 _ ∙ t.contexts; adapters = t.adapters; charges = t.charges; drivers = t.drivers; packets = t.packets; lent = t.lent })
effect_grows c s (entries.Leave x eax) =
    let t = left_sizes c s _ x eax _ in
    still _ _ _ refl refl
    (either_sizes (is_breaking (leaves c s x eax)) _ _ _ (same s)
    (record { contexts = t.contexts; adapters = t.adapters; charges = t.charges; drivers = t.drivers; packets = t.packets; lent = t.lent }))
effect_grows c s (entries.Turn x n) =
    let h = charged_sizes _ (adapter_of s x.0) n in
    still _ _ _ refl refl (record { contexts = h.contexts ∙ length-set s.contexts x.0 _; adapters = h.adapters; charges = h.charges; drivers = h.drivers; packets = h.packets; lent = h.lent })
effect_grows c s (entries.Call x import words) =
    still _ _ _ refl refl (record { contexts = length-set s.contexts x.0 _; adapters = refl; charges = refl; drivers = refl; packets = refl; lent = refl })
effect_grows c s (entries.Reply x eax writes) = still _ _ _ refl refl (replied_sizes s x (record { eax = eax; writes = writes }) _)
effect_grows c s (entries.Spin x lock) = still _ _ _ refl refl (spun_sizes s x _)
effect_grows c s (entries.Stop b why) =
    let t = spoke_sizes s _ in
    still _ _ _ refl refl (record { contexts = t.contexts; adapters = t.adapters; charges = t.charges; drivers = t.drivers; packets = t.packets; lent = t.lent })
effect_grows c s _ = record { contexts = refl; adapters = refl; charges = refl; drivers = refl; packets = omega arith; lent = omega arith }

record OwnerGrows (t s : Owner) (e : Entry) : Type 0 where
  pub contexts : length t.contexts ≡ length s.contexts
  pub drivers : length t.drivers ≡ length s.drivers
  pub packets : length t.packets ≡ length s.packets + sends e
  pub loans : length t.loans ≡ length s.loans + lends e

grown : (o : Owner) (e : Entry) → OwnerGrows (owners.after o e) o e
grown o e = record { contexts = owner_contexts o e; drivers = owner_drivers o e; packets = owner_packets o e; loans = owner_loans o e }

left_grown : (o : Owner) (x : CtxNo) (eax : ℕ) (breaks : Bool) → OwnerGrows (owner_left o (entries.Leave x eax) breaks) o (entries.Leave x eax)
left_grown o x eax true = record { contexts = refl; drivers = refl; packets = omega arith; loans = omega arith }
left_grown o x eax false = grown o (entries.Leave x eax)

owner_grows : (c : Inputs) (s : State) (e : Entry) → OwnerGrows (after c s e).owner s.owner e
owner_grows c s (entries.Leave x eax) = left_grown s.owner x eax (is_breaking (leaves c s x eax))
owner_grows c s (entries.Reply x eax writes) =
    let h = grown s.owner (entries.Reply x eax writes) in
    record { contexts = h.contexts; drivers = h.drivers; packets = h.packets; loans = h.loans }
owner_grows c s e = grown s.owner e

-- ---- over a run

-- but for the adapters of the owner machine, of which crates/run_duties says it
pub record Sized (c : Inputs) (s : State) : Type 0 where
  pub contexts : length s.contexts ≡ 16
  pub handlers : length s.owner.contexts ≡ 16
  pub progress : length s.adapters ≡ length c.adapters
  pub charges : length s.charges ≡ length c.adapters
  pub bindings : length s.owner.drivers ≡ length c.drivers
  pub hearings : length s.drivers ≡ length c.drivers
  pub frames : length s.packets ≡ length s.owner.packets
  pub lent : length s.lent ≡ length s.owner.loans

step : (c : Inputs) (s : State) (e : Entry) → IsOfRun c s → Sized c s → Meets c s e → Sized c (after c s e)
step c s e is h meets =
    let own = owner_grows c s e in
    let run = effect_grows c s e in
    record {
      contexts = run.contexts ∙ h.contexts;
      handlers = own.contexts ∙ h.handlers;
      progress = run.adapters ∙ h.progress;
      charges = run.charges ∙ h.charges;
      bindings = own.drivers ∙ h.bindings;
      hearings = run.drivers ∙ h.hearings;
      frames = run.packets ∙ ap (λ n. n + sends e) h.frames ∙ sym own.packets;
      lent = run.lent ∙ ap (λ n. n + lends e) h.lent ∙ sym own.loans;
    }

begun : (c : Inputs) → Sized c (start c)
unfolding Rattle.legal_run.specs.State.no_contexts
begun c = record {
  contexts = length-replicate 16 no_context;
  handlers = length-replicate 16 kept.Free;
  progress = length-replicate _ _;
  charges = length-replicate _ _;
  bindings = length-map c.drivers new_driver;
  hearings = length-replicate _ _;
  frames = refl;
  lent = refl;
}

pub sized : (c : Inputs) (s : State) → IsOfRun c s → Sized c s
sized c s is = of_run c (Sized c) (step c) (begun c) s is

-- the owner machine's adapters are those that were given (a law of crates/run_duties)
abbrev pub AdaptersGiven : Type 0
AdaptersGiven = (c : Inputs) (log : List Entry) → Run c log → length (now c log).owner.adapters ≡ length c.adapters

pub counts : AdaptersGiven → (c : Inputs) (s : State) → IsOfRun c s → Counts c s
counts given c s is =
    let h = sized c s is in
    record {
      contexts = h.contexts;
      handlers = h.handlers;
      rows = subst (λ (t : State). length t.owner.adapters ≡ length c.adapters) is.reaches.state (given c is.log is.reaches.run);
      progress = h.progress;
      charges = h.charges;
      bindings = h.bindings;
      hearings = h.hearings;
      frames = h.frames;
      lent = h.lent;
    }
