-- What an adapter's timer or call is due, as the run tells it.
use Rattle.std.proofs.Common.{◌≡◌, ℕ, List, Option, Some, None, refl, ap, ◌∙◌}
use Rattle.std.specs.Option.{option_map}
use Rattle.nd_base.specs.declared.numbers.Addr.{Addr}
use Rattle.nd_mem.specs.Space.{address}
use Rattle.guest_world.specs.declared.world.World.{World}
use Rattle.owner_machine.specs.State.{Owner}
use Rattle.legal_run.specs.State.{State, Context}
use Rattle.legal_run.specs.Owed.{due_timer, sync_caller}
use Rattle.legal_run.specs.Enters.{call_word}
use Rattle.legal_run.specs.After.{with_world}
use Rattle.miniport_state.specs.Seen.{Point, IsAt}
use Rattle.miniport_state.specs.Views.{entrance_of}
use Rattle.miniport_state.specs.declared.adapters.Adapters.{Adapters}
use Rattle.owed_handlers.specs.Kept.{state_by, state_of}
use Rattle.handler_entries.specs.Entries.{synchronized}

pub timed_is : (o : Point) (a : ℕ) (m : Adapters) (book : Owner) (w : World) (timer : Option Addr) → IsAt o m book w
    → ((s : State) → timer ≡ option_map (λ t. address t.0) (due_timer (with_world s w) a)) → timer ≡ option_map (λ t. address t.0) (due_timer o.state a)
timed_is o a m book w timer at is = is o.state ∙ ap (λ (v : World). option_map (λ t. address t.0) (due_timer (with_world o.state v) a)) at.world

pub called_is : (o : Point) (a : ℕ) (m : Adapters) (book : Owner) (w : World) (caller : Option ℕ) → IsAt o m book w
    → ((v : World) → caller ≡ sync_caller (state_of m book v) a) → caller ≡ sync_caller o.state a
called_is o a m book w caller at is =
    is w
    ∙ ap (λ (b : Owner). sync_caller (state_by b w m.contexts (entrance_of m.entrance) m.progress.items) a) at.owner
    ∙ ap (λ (cs : List Context). sync_caller (state_by o.state.owner w cs (entrance_of m.entrance) m.progress.items) a) at.keeps.rows

pub synchronized_is : (s : State) (contexts : List Context) (caller called : Option ℕ) → contexts ≡ s.contexts → caller ≡ called → synchronized contexts caller ≡ call_word s called 2
synchronized_is s contexts caller called rows is =
    ap (synchronized contexts) is ∙ ap (λ (cs : List Context). synchronized cs called) rows ∙ of called
  where
    of : (x : Option ℕ) → synchronized s.contexts x ≡ call_word s x 2
    of None = refl
    of (Some x) = refl
