-- DriverEntry's enter, as the log tells it.
use Rattle.std.proofs.Common.{◌≡◌, ℕ, zero, suc, List, [], ◌∷◌, refl, sym, ap, ◌∙◌, subst, Option, None, Some, Result, Ok}
use Rattle.std.specs.Prelude.{slice_index_or}
use Rattle.std.specs.FinMap as table
use Rattle.std.specs.Ordering.{nat_cmp}
use Rattle.nd_mem.specs.Space.{Space}
use Rattle.ia32_step.specs.Registers.{Registers}
use Rattle.irql_lock.specs.LockState.{LockState, nothing, holder_of, holder_in}
use Rattle.irql_lock.specs.LockMoves.{Begin, moved, opened}
use Rattle.nd_base.specs.declared.numbers.Addr.{Addr}
use Rattle.nd_base.specs.declared.numbers.Breach.{Breach}
use Rattle.nd_base.specs.declared.numbers.CtxNo.{CtxNo}
use Rattle.log_fields.specs.declared.field_values.Handler.TheVariants.{CancelSend, PnpEvent}
use Rattle.call_log.specs.declared.entry.Entry.{Entry}
use Rattle.guest_world.specs.declared.adapters.Adapter.{Adapter}
use Rattle.guest_world.specs.declared.world.World.{World}
use Rattle.guest_world.specs.Worlds.{new_world}
use Rattle.legal_run.specs.Guest.{driver_entry_words, entry_point, start_space, stack_pointer, entered_memory, entered_registers}
use Rattle.legal_run.specs.State.{no_contexts}
use Rattle.legal_run.specs.Laws.{RunLaws}
use Rattle.legal_run.specs.Run.{Reaches}
use Rattle.entry_run.specs.Alone.{Kept, shown}
use Rattle.entry_run.specs.Laws.{EntryLaws, Going, going, first, entering, entered, has_handler_in}
use Rattle.entry_calls.specs.Laws.{HoldsAlone}
use Rattle.entry_session.specs.Session.{Setting, inputs}
use Rattle.entry_session.proofs.Reaching.{begins}

-- what is kept of a world with these levels, before anything is charged
abbrev pub leveled : World → LockState → Registers → Going
leveled w levels registers =
    let after = record w { levels = levels } in
    record { world = after; registers = registers; charged = 0; cancelsend = has_handler_in after CancelSend; pnpevent = has_handler_in after PnpEvent }

entered_is : (c : Setting) → entered (inputs c) ≡ going (leveled
    (new_world c.layout (entered_memory (start_space c.image c.slots c.layout []) 0 driver_entry_words []))
    (opened nothing first 0)
    (entered_registers (stack_pointer 0 driver_entry_words) (entry_point c.image)))
entered_is c = refl

opened_is : (w : World) (layout : List ℕ) (memory : Space) (levels : LockState) → w ≡ new_world layout memory → moved w.levels (Begin first 0) ≡ Ok levels → levels ≡ opened nothing first 0
opened_is w layout memory levels is moves =
    let same : ◌≡◌ {A = Result LockState Breach} (Ok (opened nothing first 0)) (Ok levels) = ap (λ (x : World). moved x.levels (Begin first 0)) (sym is) ∙ moves in
    cc

pub entered_reaches : RunLaws → EntryLaws → (c : Setting) (w : World) (memory : Space) (registers : Registers) (levels : LockState) (log : List Entry)
    → w ≡ new_world c.layout memory → ((layout : List ℕ) → memory ≡ entered_memory (start_space c.image c.slots layout []) 0 driver_entry_words [])
    → registers ≡ entered_registers (stack_pointer 0 driver_entry_words) (entry_point c.image) → moved w.levels (Begin first 0) ≡ Ok levels → log ≡ entering ∷ []
    → Reaches (inputs c) log (shown (going (leveled w levels registers)))
entered_reaches runs laws c w memory registers levels log is stands begun moves logged =
    let law = laws.enter c.image c.slots c.budget c.layout in
    let there = begins runs (inputs c) log entering _ law.0 law.1 logged in
    let same : entered (inputs c) ≡ going (leveled w levels registers) =
    entered_is c
    ∙ ap (λ (x : Space). going (leveled (new_world c.layout x) (opened nothing first 0) (entered_registers (stack_pointer 0 driver_entry_words) (entry_point c.image)))) (sym (stands c.layout))
    ∙ ap (λ (x : World). going (leveled x (opened nothing first 0) (entered_registers (stack_pointer 0 driver_entry_words) (entry_point c.image)))) (sym is)
    ∙ ap (λ (x : LockState). going (leveled w x (entered_registers (stack_pointer 0 driver_entry_words) (entry_point c.image)))) (sym (opened_is w c.layout memory levels is moves))
    ∙ ap (λ (x : Registers). going (leveled w levels x)) (sym begun) in
    subst (λ (k : Kept). Reaches (inputs c) log (shown k)) same there

no_adapter : (a : ℕ) → slice_index_or {A = Option Adapter} (None ∷ None ∷ None ∷ None ∷ []) a None ≡ None
no_adapter zero = refl
no_adapter (suc zero) = refl
no_adapter (suc (suc zero)) = refl
no_adapter (suc (suc (suc zero))) = refl
no_adapter (suc (suc (suc (suc a)))) = refl

pub none_there : (w : World) (layout : List ℕ) (memory : Space) → w ≡ new_world layout memory → (a : ℕ) → slice_index_or w.adapters a None ≡ None
none_there w layout memory is a = ap (λ (x : World). slice_index_or x.adapters a None) is ∙ no_adapter a

pub none_held : (w : World) (layout : List ℕ) (memory : Space) (levels : LockState) → w ≡ new_world layout memory → moved w.levels (Begin first 0) ≡ Ok levels → HoldsAlone levels
none_held w layout memory levels is moves lock holder held =
    let free : holder_of levels lock ≡ None = ap (λ (l : LockState). holder_of l lock) (opened_is w layout memory levels is moves) ∙ ap holder_in (table.get-empty nat_cmp lock.0) in
    cc

pub first_moment : (w : World) (layout : List ℕ) (memory : Space) → w ≡ new_world layout memory → w.clock.clock ≡ 0
first_moment w layout memory is = ap (λ (x : World). x.clock.clock) is
