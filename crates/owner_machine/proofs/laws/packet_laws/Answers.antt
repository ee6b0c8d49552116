use Rattle.std.proofs.Common.{◌≡◌, ℕ, ◌+◌, true, false, List, length, refl, ap, arith}
use Rattle.std.specs.Prelude.{nat_lt}
use Rattle.nd_base.specs.declared.numbers.AdapterNo.{AdapterNo}
use Rattle.call_log.specs.declared.entry.Entry.{Entry}
use Rattle.call_log.specs.declared.entry.Entry.TheVariants.{Late}
use Rattle.owner_machine.specs.State.{Owner}
use Rattle.owner_machine.specs.Packets.{out}
use Rattle.owner_machine.specs.Legal.{Legal, start}
use Rattle.owner_machine.specs.Laws.{number, times, completes, comes_late, tells}
use Rattle.owner_machine.proofs.PacketLaw.{packets_kept, late_kept}
use Rattle.owner_machine.proofs.NumberLaw.{sent_kept, none_below, is_below, one_at_most}
use Rattle.owner_machine.proofs.laws.packet_laws.Goals as goal

whole : (adapters : ℕ) (drivers : List AdapterNo) (log : List Entry) (o : Owner) (k : ℕ) → Legal (start adapters drivers) log o → times (completes k) log + number (out o k) ≡ number (nat_lt k (length o.packets))
whole adapters drivers log o k legal =
    let kept = packets_kept (start adapters drivers) o log k legal in
    let drawn = sent_kept (start adapters drivers) o log k legal in
    let none = none_below k in
    omega (arith, kept, drawn, none)

silent : (o : Owner) (k b : ℕ) (e : Entry) → comes_late k e ≡ true → tells o b e ≡ false
silent o k b (Late packet) h = refl
silent o k b _ h = absurd (cc)

pub returns : goal.returns
returns _ = record {
  at_most_once = λ adapters drivers log o k legal. let all = whole adapters drivers log o k legal in let one = one_at_most (nat_lt k (length o.packets)) in omega (arith, all, one);
  exactly_once = λ adapters drivers log o k legal less is. let all = whole adapters drivers log o k legal in let one = is_below k (length o.packets) less in let none = ap number is in omega (arith, all, one, none);
  not_before = λ adapters drivers log o k legal is. let all = whole adapters drivers log o k legal in let one = one_at_most (nat_lt k (length o.packets)) in let out_one = ap number is in omega (arith, all, one, out_one);
  drawn = λ adapters drivers log o k legal less. let drawn = sent_kept (start adapters drivers) o log k legal in let none = none_below k in let one = is_below k (length o.packets) less in omega (arith, drawn, none, one);
  late_after = λ adapters drivers log o k legal. let all = late_kept (start adapters drivers) o log k legal in omega (arith, all);
  late_silent = silent;
}
