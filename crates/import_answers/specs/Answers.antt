-- What each import answers: a row each, in the order of their numbers, and what a call may answer by its row.
use Rattle.std.specs.Prelude.{ℕ, ◌-◌, true, false, ◌&&◌, nat_le, List, [], ◌∷◌, length, slice_index_or, ◌++◌, take, replicate}
use Rattle.irql_lock.specs.LockState.{level_of}
use Rattle.packet_pool.specs.declared.states.Kind.TheVariants.{Packet, Buffer}
use Rattle.import_table.specs.Table.{Row}
use Rattle.guest_world.specs.declared.world.World.{World}
use Rattle.guest_world.specs.declared.answer.Caller.{Caller}
use Rattle.import_answers.specs.Outcomes.{Outcome, Breaks, arguments_rule, asks}
use Rattle.import_answers.specs.Registration.{initialize_wrapper, terminate_wrapper, register_miniport, set_attributes}
use Rattle.import_answers.specs.Configuration.{open_configuration, read_configuration, close_configuration, read_network_address, query_resources}
use Rattle.import_answers.specs.Resources.{register_ports, deregister_ports, register_interrupt, deregister_interrupt, synchronize}
use Rattle.import_answers.specs.Timers.{initialize_timer, set_timer, set_periodic_timer, cancel_timer, sleep}
use Rattle.import_answers.specs.Blocks.{allocate_memory, free_memory, copy_memory, set_memory}
use Rattle.import_answers.specs.Descriptors.{allocate_pool, free_pool, allocate_descriptor, free_descriptor, unchain_buffer, query_buffer, get_first_buffer}
use Rattle.import_answers.specs.Levels.{raise, lower, allocate_lock, free_lock, acquire, release}
use Rattle.import_answers.specs.Completions.{send_complete, indicate_receive, of_adapter, not_served}
use Rattle.import_answers.specs.Ports.{in_port, out_port, in_buffer, out_buffer}
use Rattle.import_answers.specs.Runtime.{stall, debug_print}

abbrev pub Answering : Type 0
Answering = World → Caller → List ℕ → Outcome

unfoldable pub answering : List Answering
answering =
    (λ w x words. initialize_wrapper w words)
    ∷ (λ w x words. terminate_wrapper w words)
    ∷ register_miniport
    ∷ raise
    ∷ lower
    ∷ set_attributes
    ∷ open_configuration
    ∷ read_configuration
    ∷ close_configuration
    ∷ read_network_address
    ∷ register_ports
    ∷ deregister_ports
    ∷ register_interrupt
    ∷ deregister_interrupt
    ∷ synchronize
    ∷ initialize_timer
    ∷ set_timer
    ∷ set_periodic_timer
    ∷ cancel_timer
    ∷ (λ w x words. sleep w words)
    ∷ (λ w x words. allocate_memory w words)
    ∷ (λ w x words. free_memory w words)
    ∷ (λ w x words. allocate_pool w Packet words)
    ∷ (λ w x words. free_pool w words)
    ∷ (λ w x words. allocate_descriptor w Packet words)
    ∷ (λ w x words. free_descriptor w Packet words)
    ∷ (λ w x words. allocate_pool w Buffer words)
    ∷ (λ w x words. free_pool w words)
    ∷ (λ w x words. allocate_descriptor w Buffer words)
    ∷ (λ w x words. free_descriptor w Buffer words)
    ∷ (λ w x words. unchain_buffer w words)
    ∷ (λ w x words. query_buffer w words)
    ∷ (λ w x words. allocate_lock w words)
    ∷ (λ w x words. free_lock w words)
    ∷ (λ w x words. acquire w x words false)
    ∷ (λ w x words. release w x words false)
    ∷ (λ w x words. acquire w x words true)
    ∷ (λ w x words. release w x words true)
    ∷ send_complete
    ∷ of_adapter
    ∷ indicate_receive
    ∷ of_adapter
    ∷ of_adapter
    ∷ of_adapter
    ∷ of_adapter
    ∷ of_adapter
    ∷ not_served
    ∷ not_served
    ∷ of_adapter
    ∷ of_adapter
    ∷ query_resources
    ∷ (λ w x words. get_first_buffer w words)
    ∷ (λ w x words. in_port w x words 1)
    ∷ (λ w x words. in_port w x words 2)
    ∷ (λ w x words. out_port w x words 1)
    ∷ (λ w x words. out_port w x words 2)
    ∷ (λ w x words. in_buffer w x words 1)
    ∷ (λ w x words. in_buffer w x words 2)
    ∷ (λ w x words. out_buffer w x words 1)
    ∷ (λ w x words. out_buffer w x words 2)
    ∷ (λ w x words. stall w words)
    ∷ (λ w x words. copy_memory w words)
    ∷ (λ w x words. set_memory w words)
    ∷ (λ w x words. debug_print w)
    ∷ []

abbrev pub none_such : Answering
none_such w x words = Breaks arguments_rule

-- a call at a level outside its range
abbrev pub level_rule : ℕ
level_rule = 5

-- a call has room for eight words: behind those that were read stand zeros
abbrev pub eight : List ℕ → List ℕ
eight words = take 8 (words ++ replicate 8 0)

-- what comes of a call of the import in this row, with the words that could be read of it: one that lacks a word breaks the rule on arguments
abbrev pub outcome : World → Caller → Row → List ℕ → Outcome
outcome w x row words =
    asks (nat_le row.low (level_of w.levels x.context) && nat_le (level_of w.levels x.context) row.high) level_rule
    (asks (nat_le row.words (length words)) arguments_rule (slice_index_or answering (row.import - 1) none_such w x (eight words)))
