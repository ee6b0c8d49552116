-- Adapters that stand, and contexts whose adapters do: what each entry leaves of them.
use Rattle.std.proofs.Common.{◌≡◌, ℕ, zero, suc, Bool, true, false, cond, not, ◌==◌, List, [], ◌∷◌, Option, Some, None, refl, ap, ◌∙◌, subst, length, slice_get, slice_set, arith}
use Rattle.std.specs.Prelude.{⊤}
use Rattle.nd_base.specs.declared.numbers.AdapterNo.{AdapterNo}
use Rattle.nd_base.specs.declared.numbers.Phase.{Phase}
use Rattle.nd_base.specs.declared.numbers.Phase.TheVariants as phases
use Rattle.log_fields.specs.declared.field_values.Handler.{Handler}
use Rattle.log_fields.specs.declared.field_values.Handler.TheVariants as handlers
use Rattle.call_log.specs.declared.entry.Entry.{Entry}
use Rattle.call_log.specs.declared.entry.Entry.TheVariants as entries
use Rattle.owner_machine.specs.declared.rows.Adapter.{Adapter}
use Rattle.owner_machine.specs.declared.rows.Context.{Context}
use Rattle.owner_machine.specs.declared.rows.Context.TheVariants.{Free, Open}
use Rattle.owner_machine.specs.State.{Owner, at, change, is_stopped, adapter_of}
use Rattle.owner_machine.specs.Contexts.{any_handler, runs, freed, entry_freed, calling, answered_call, wants_transfer, with_transfer, transfer_begun}
use Rattle.owner_machine.specs.Packets.{packet_adapter}
use Rattle.owner_machine.specs.Handlers.{may_enter, adapter_entered, adapters_entered, contexts_entered, adapter_left, adapters_left, entry_left, off_unless_stopped, adapters_called, adapters_answered}
use Rattle.owner_machine.specs.Adapters.{stopped, contexts_stopped, all_stopped}
use Rattle.owner_machine.specs.Machine.{rule_against, after}
use Rattle.run_duties.proofs.Rows.{case_of, other_row, true_both}
use Rattle.legal_run.specs.State.{adapter_in}

-- ---- rows

abbrev pub standing : Adapter → Bool
standing row = not (is_stopped row.phase)

-- a change of a row that leaves what passes
pub at_changed : {A : Type 0} (test : A → Bool) (f : A → A) (rows : List A) (b a : ℕ) → ((row : A) → test row ≡ true → test (f row) ≡ true) → at test rows a ≡ true → at test (change f rows b) a ≡ true
at_changed test f [] b a w h = h
at_changed test f (row ∷ rows) zero zero w h = w row h
at_changed test f (row ∷ rows) zero (suc a) w h = h
at_changed test f (row ∷ rows) (suc b) zero w h = h
at_changed test f (row ∷ rows) (suc b) (suc a) w h = at_changed test f rows b a w h

pub length_changed : {A : Type 0} (f : A → A) (rows : List A) (b : ℕ) → length (change f rows b) ≡ length rows
length_changed f [] b = refl
length_changed f (row ∷ rows) zero = refl
length_changed f (row ∷ rows) (suc b) = ap suc (length_changed f rows b)

-- ---- an adapter that stands goes on to stand, but behind its stop

entered_stands : (h : Handler) (row : Adapter) → standing row ≡ true → standing (adapter_entered h row) ≡ true
entered_stands handlers.Halt row is = refl
entered_stands handlers.Shutdown row is = refl
entered_stands handlers.CancelSend row is = is
entered_stands handlers.PnpEvent row is = is
entered_stands _ row is = is

initialized_stands : (b d : Bool) (phase : Phase) → not (is_stopped phase) ≡ true → not (is_stopped (cond b phases.Running (cond d phase phases.Off))) ≡ true
initialized_stands true d phase is = refl
initialized_stands false true phase is = is
initialized_stands false false phase is = refl

left_stands : (h : Handler) (eax : ℕ) (row : Adapter) → standing row ≡ true → standing (adapter_left h eax row) ≡ true
left_stands handlers.Initialize eax row is = initialized_stands (eax == 0) (eax == 0x103) row.phase is
left_stands handlers.Halt eax row is = refl
left_stands handlers.Shutdown eax row is = refl
left_stands handlers.CheckForHang eax row is = is
left_stands _ eax row is = is

off_stands : (phase : Phase) → not (is_stopped phase) ≡ true → not (is_stopped (off_unless_stopped phase)) ≡ true
off_stands phases.Stopped is = absurd (cc)
off_stands _ is = refl

entry_left_stands : (eax : ℕ) (rows : List Adapter) (a : ℕ) → at standing rows a ≡ true → at standing (entry_left eax rows) a ≡ true
entry_left_stands zero rows a is = is
entry_left_stands (suc eax) [] a is = is
entry_left_stands (suc eax) (row ∷ rows) zero is = off_stands row.phase is
entry_left_stands (suc eax) (row ∷ rows) (suc a) is = entry_left_stands (suc eax) rows a is

entered_at : (rows : List Adapter) (b : Option AdapterNo) (h : Handler) (a : ℕ) → at standing rows a ≡ true → at standing (adapters_entered rows b h) a ≡ true
entered_at rows (Some b) h a is = at_changed standing (adapter_entered h) rows b.0 a (entered_stands h) is
entered_at rows None h a is = is

left_at : (rows : List Adapter) (x : Option Context) (eax a : ℕ) → at standing rows a ≡ true → at standing (adapters_left rows x eax) a ≡ true
left_at rows (Some (Open (Some b) h enter call)) eax a is = at_changed standing (adapter_left h eax) rows b.0 a (left_stands h eax) is
left_at rows (Some (Open None h enter call)) eax a is = entry_left_stands eax rows a is
left_at rows (Some Free) eax a is = is
left_at rows None eax a is = is

called_at : (rows : List Adapter) (x : Option Context) (import a : ℕ) → at standing rows a ≡ true → at standing (adapters_called rows x import) a ≡ true
called_at rows (Some (Open (Some b) h enter call)) import a is = at_changed standing _ rows b.0 a (λ row s. s) is
called_at rows (Some (Open None h enter call)) import a is = is
called_at rows (Some Free) import a is = is
called_at rows None import a is = is

answered_at : (rows : List Adapter) (x : Option Context) (a : ℕ) → at standing rows a ≡ true → at standing (adapters_answered rows x) a ≡ true
answered_at rows (Some (Open (Some b) h enter (Some call))) a is = at_changed standing _ rows b.0 a (λ row s. s) is
answered_at rows (Some (Open (Some b) h enter None)) a is = is
answered_at rows (Some (Open None h enter (Some call))) a is = is
answered_at rows (Some (Open None h enter None)) a is = is
answered_at rows (Some Free) a is = is
answered_at rows None a is = is

abbrev pub is_stop : Entry → Bool
is_stop (entries.Stop _ _) = true
is_stop _ = false

pub stays : (o : Owner) (e : Entry) (a : ℕ) → is_stop e ≡ false → at standing o.adapters a ≡ true → at standing (after o e).adapters a ≡ true
stays o (entries.Cancel driver id) a lives is = at_changed standing _ o.adapters (adapter_of o driver.0) a (λ row s. s) is
stays o (entries.Event driver number bytes taken) a lives is = at_changed standing _ o.adapters (adapter_of o driver.0) a (λ row s. s) is
stays o (entries.Requeue packet) a lives is = at_changed standing _ o.adapters (packet_adapter o packet.0) a (λ row s. s) is
stays o (entries.ResetBegin b) a lives is = at_changed standing _ o.adapters b.0 a (λ row s. refl) is
stays o (entries.ResetEnd b status) a lives is = at_changed standing _ o.adapters b.0 a (λ row s. refl) is
stays o (entries.Enter b x h words writes) a lives is = entered_at o.adapters b h a is
stays o (entries.Leave x eax) a lives is = left_at o.adapters (slice_get o.contexts x.0) eax a is
stays o (entries.Call x import words) a lives is = called_at o.adapters (slice_get o.contexts x.0) import a is
stays o (entries.Reply x eax writes) a lives is = answered_at o.adapters (slice_get o.contexts x.0) a is
stays o (entries.Stop b why) a lives is = absurd (cc)
stays o _ a lives is = is

-- ---- how many adapters there are

entry_left_count : (eax : ℕ) (rows : List Adapter) → length (entry_left eax rows) ≡ length rows
entry_left_count zero rows = refl
entry_left_count (suc eax) [] = refl
entry_left_count (suc eax) (row ∷ rows) = ap suc (entry_left_count (suc eax) rows)

entered_count : (rows : List Adapter) (b : Option AdapterNo) (h : Handler) → length (adapters_entered rows b h) ≡ length rows
entered_count rows (Some b) h = length_changed _ rows b.0
entered_count rows None h = refl

left_count : (rows : List Adapter) (x : Option Context) (eax : ℕ) → length (adapters_left rows x eax) ≡ length rows
left_count rows (Some (Open (Some b) h enter call)) eax = length_changed _ rows b.0
left_count rows (Some (Open None h enter call)) eax = entry_left_count eax rows
left_count rows (Some Free) eax = refl
left_count rows None eax = refl

called_count : (rows : List Adapter) (x : Option Context) (import : ℕ) → length (adapters_called rows x import) ≡ length rows
called_count rows (Some (Open (Some b) h enter call)) import = length_changed _ rows b.0
called_count rows (Some (Open None h enter call)) import = refl
called_count rows (Some Free) import = refl
called_count rows None import = refl

answered_count : (rows : List Adapter) (x : Option Context) → length (adapters_answered rows x) ≡ length rows
answered_count rows (Some (Open (Some b) h enter (Some call))) = length_changed _ rows b.0
answered_count rows (Some (Open (Some b) h enter None)) = refl
answered_count rows (Some (Open None h enter (Some call))) = refl
answered_count rows (Some (Open None h enter None)) = refl
answered_count rows (Some Free) = refl
answered_count rows None = refl

pub count : (o : Owner) (e : Entry) → length (after o e).adapters ≡ length o.adapters
count o (entries.Cancel driver id) = length_changed _ o.adapters (adapter_of o driver.0)
count o (entries.Event driver number bytes taken) = length_changed _ o.adapters (adapter_of o driver.0)
count o (entries.Requeue packet) = length_changed _ o.adapters (packet_adapter o packet.0)
count o (entries.ResetBegin b) = length_changed _ o.adapters b.0
count o (entries.ResetEnd b status) = length_changed _ o.adapters b.0
count o (entries.Enter b x h words writes) = entered_count o.adapters b h
count o (entries.Leave x eax) = left_count o.adapters (slice_get o.contexts x.0) eax
count o (entries.Call x import words) = called_count o.adapters (slice_get o.contexts x.0) import
count o (entries.Reply x eax writes) = answered_count o.adapters (slice_get o.contexts x.0)
count o (entries.Stop b why) = length_changed _ o.adapters b.0
count o _ = refl

-- ---- contexts whose adapters stand

abbrev pub fits : List Adapter → Context → Bool
fits rows (Open (Some a) h enter call) = at standing rows a.0
fits rows _ = true

abbrev pub AllFit : List Adapter → List Context → Type 0
AllFit rows [] = ⊤
AllFit rows (x ∷ xs) = (fits rows x ≡ true) × AllFit rows xs

fit_more : (rows new : List Adapter) (x : Context) → ((a : ℕ) → at standing rows a ≡ true → at standing new a ≡ true) → fits rows x ≡ true → fits new x ≡ true
fit_more rows new (Open (Some a) h enter call) w is = w a.0 is
fit_more rows new (Open None h enter call) w is = refl
fit_more rows new Free w is = refl

pub all_more : (rows new : List Adapter) (cs : List Context) → ((a : ℕ) → at standing rows a ≡ true → at standing new a ≡ true) → AllFit rows cs → AllFit new cs
all_more rows new [] w all = tt
all_more rows new (x ∷ cs) w all = (fit_more rows new x w all.0, all_more rows new cs w all.1)

all_changed : (rows : List Adapter) (f : Context → Context) (cs : List Context) (k : ℕ) → ((x : Context) → fits rows x ≡ true → fits rows (f x) ≡ true) → AllFit rows cs → AllFit rows (change f cs k)
all_changed rows f [] k w all = tt
all_changed rows f (x ∷ cs) zero w all = (w x all.0, all.1)
all_changed rows f (x ∷ cs) (suc k) w all = (all.0, all_changed rows f cs k w all.1)

all_set : (rows : List Adapter) (cs : List Context) (k : ℕ) (x : Context) → fits rows x ≡ true → AllFit rows cs → AllFit rows (slice_set cs k x)
all_set rows [] k x is all = tt
all_set rows (y ∷ cs) zero x is all = (is, all.1)
all_set rows (y ∷ cs) (suc k) x is all = (all.0, all_set rows cs k x is all.1)

transfer_fits : (rows : List Adapter) (n : ℕ) (x : Context) → fits rows x ≡ true → fits rows (with_transfer n x) ≡ true
transfer_fits rows n (Open (Some b) h enter (Some call)) is = is
transfer_fits rows n (Open None h enter (Some call)) is = is
transfer_fits rows n (Open b h enter None) is = is
transfer_fits rows n Free is = is

all_begun : (rows : List Adapter) (a n : ℕ) (cs : List Context) → AllFit rows cs → AllFit rows (transfer_begun a n cs)
all_begun rows a n [] all = tt
all_begun rows a n (y ∷ cs) all = by_test (wants_transfer a y) (all_begun rows a n cs all.1)
  where
    by_test : (t : Bool) → AllFit rows (transfer_begun a n cs) → AllFit rows (cond t (with_transfer n y ∷ cs) (y ∷ transfer_begun a n cs))
    by_test true more = (transfer_fits rows n y all.0, all.1)
    by_test false more = (all.0, more)

all_opened : (rows : List Adapter) (b : Option AdapterNo) (h : Handler) (n : ℕ) (cs : List Context) → AllFit rows cs → AllFit rows (contexts_entered b h n cs)
all_opened rows (Some b) handlers.TransferData n cs all = all_begun rows b.0 n cs all
all_opened rows None handlers.TransferData n cs all = all
all_opened rows (Some b) _ n cs all = all
all_opened rows None _ n cs all = all

calling_fits : (rows : List Adapter) (import : ℕ) (words : List ℕ) (x : Context) → fits rows x ≡ true → fits rows (calling import words x) ≡ true
calling_fits rows import words (Open (Some a) h enter call) is = is
calling_fits rows import words (Open None h enter call) is = is
calling_fits rows import words Free is = is

answered_fits : (rows : List Adapter) (x : Context) → fits rows x ≡ true → fits rows (answered_call x) ≡ true
answered_fits rows (Open (Some a) h enter call) is = is
answered_fits rows (Open None h enter call) is = is
answered_fits rows Free is = is

-- behind a stop the contexts of its adapter are gone
freed_fits : (rows : List Adapter) (b : ℕ) (x : Context) → fits rows x ≡ true → fits (change stopped rows b) (cond (runs any_handler b x) Free x) ≡ true
freed_fits rows b Free is = refl
freed_fits rows b (Open None h enter call) is = refl
freed_fits rows b (Open (Some a) h enter call) is = by_number (a.0 == b) refl
  where
    other : (a.0 == b) ≡ false → (b == a.0) ≡ false
    other h = grind arith

    by_number : (t : Bool) → (a.0 == b) ≡ t → fits (change stopped rows b) (cond t Free (Open (Some a) h enter call)) ≡ true
    by_number true same = refl
    by_number false same = other_row standing stopped rows b a.0 (other same) ∙ is

all_freed : (rows : List Adapter) (b : ℕ) (cs : List Context) → AllFit rows cs → AllFit (change stopped rows b) (freed b cs)
all_freed rows b [] all = tt
all_freed rows b (x ∷ cs) all = (freed_fits rows b x all.0, all_freed rows b cs all.1)

all_entry_freed : (rows : List Adapter) (cs : List Context) → AllFit rows cs → AllFit rows (entry_freed cs)
all_entry_freed rows [] all = tt
all_entry_freed rows (Open None h enter call ∷ cs) all = (refl, all_entry_freed rows cs all.1)
all_entry_freed rows (Open (Some a) h enter call ∷ cs) all = (all.0, all_entry_freed rows cs all.1)
all_entry_freed rows (Free ∷ cs) all = (refl, all_entry_freed rows cs all.1)

all_stopped_fit : (rows : List Adapter) (b : ℕ) (cs : List Context) (last : Bool) → AllFit rows cs → AllFit (change stopped rows b) (contexts_stopped cs b last)
all_stopped_fit rows b cs true all = all_entry_freed (change stopped rows b) (freed b cs) (all_freed rows b cs all)
all_stopped_fit rows b cs false all = all_freed rows b cs all

enters_standing : (o : Owner) (b : AdapterNo) (c : ℕ) (h : Handler) → may_enter o (Some b) c h ≡ true → at standing o.adapters b.0 ≡ true
enters_standing o b c h may = (true_both (at standing o.adapters b.0) _ (true_both _ _ (true_both _ _ may).1).1).0

entered_fit : (o : Owner) (b : Option AdapterNo) (c : ℕ) (h : Handler) → may_enter o b c h ≡ true → AllFit o.adapters o.contexts
    → AllFit (adapters_entered o.adapters b h) (slice_set (contexts_entered b h o.enters o.contexts) c (Open b h o.enters None))
entered_fit o (Some b) c h may all =
    let rows : List Adapter = adapters_entered o.adapters (Some b) h in
    let more = all_more o.adapters rows o.contexts (λ a is. entered_at o.adapters (Some b) h a is) all in
    all_set rows (contexts_entered (Some b) h o.enters o.contexts) c _ (entered_at o.adapters (Some b) h b.0 (enters_standing o b c h may))
    (all_opened rows (Some b) h o.enters o.contexts more)
entered_fit o None c h may all = all_set o.adapters (contexts_entered None h o.enters o.contexts) c _ refl (all_opened o.adapters None h o.enters o.contexts all)

pub fit_after : (o : Owner) (e : Entry) → rule_against o e ≡ None → AllFit o.adapters o.contexts → AllFit (after o e).adapters (after o e).contexts
fit_after o (entries.Enter b x h words writes) none all = entered_fit o b x.0 h (case_of o (entries.Enter b x h words writes) none) all
fit_after o (entries.Leave x eax) none all =
    let rows : List Adapter = adapters_left o.adapters (slice_get o.contexts x.0) eax in
    all_set rows o.contexts x.0 Free refl (all_more o.adapters rows o.contexts (λ a is. left_at o.adapters (slice_get o.contexts x.0) eax a is) all)
fit_after o (entries.Call x import words) none all =
    let rows : List Adapter = adapters_called o.adapters (slice_get o.contexts x.0) import in
    all_changed rows (calling import words) o.contexts x.0 (calling_fits rows import words)
    (all_more o.adapters rows o.contexts (λ a is. called_at o.adapters (slice_get o.contexts x.0) import a is) all)
fit_after o (entries.Reply x eax writes) none all =
    let rows : List Adapter = adapters_answered o.adapters (slice_get o.contexts x.0) in
    all_changed rows answered_call o.contexts x.0 (answered_fits rows) (all_more o.adapters rows o.contexts (λ a is. answered_at o.adapters (slice_get o.contexts x.0) a is) all)
fit_after o (entries.Stop b why) none all = all_stopped_fit o.adapters b.0 o.contexts (all_stopped (change stopped o.adapters b.0)) all
fit_after o (entries.Cancel driver id) none all = all_more o.adapters _ o.contexts (λ a is. stays o (entries.Cancel driver id) a refl is) all
fit_after o (entries.Event driver number bytes taken) none all = all_more o.adapters _ o.contexts (λ a is. stays o (entries.Event driver number bytes taken) a refl is) all
fit_after o (entries.Requeue packet) none all = all_more o.adapters _ o.contexts (λ a is. stays o (entries.Requeue packet) a refl is) all
fit_after o (entries.ResetBegin b) none all = all_more o.adapters _ o.contexts (λ a is. stays o (entries.ResetBegin b) a refl is) all
fit_after o (entries.ResetEnd b status) none all = all_more o.adapters _ o.contexts (λ a is. stays o (entries.ResetEnd b status) a refl is) all
fit_after o _ none all = all

-- the adapter of an open context
pub fit_at : (rows : List Adapter) (cs : List Context) (x : ℕ) (a : AdapterNo) → AllFit rows cs → adapter_in (slice_get cs x) ≡ Some a → at standing rows a.0 ≡ true
fit_at rows [] x a all is = absurd (cc)
fit_at rows (y ∷ cs) zero a all is = here y all.0 is
  where
    here : (y : Context) → fits rows y ≡ true → adapter_in (Some y) ≡ Some a → at standing rows a.0 ≡ true
    here (Open (Some b) h enter call) fit is = let same : b ≡ a = cc in subst (λ (n : AdapterNo). at standing rows n.0 ≡ true) same fit
    here (Open None h enter call) fit is = absurd (cc)
    here Free fit is = absurd (cc)
fit_at rows (y ∷ cs) (suc x) a all is = fit_at rows cs x a all.1 is
