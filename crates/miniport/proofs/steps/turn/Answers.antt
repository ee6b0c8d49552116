use Rattle.std.proofs.Common.{◌≡◌, ◌+◌, ◌-◌, min, refl, ap, ◌∙◌, arith, inl, inr}
use Rattle.miniport_state.specs.declared.adapters.Adapters.{Adapters}
use Rattle.miniport.proofs.Instructions.{used_shown, left_over, turn_stands, turn_still, still_known, turn_known, turn_kept, above, at_most}
use Rattle.miniport.proofs.steps.turn.Goals as goal

pub returns-then-turned-eq0 : goal.returns-then-turned-eq0
returns-then-turned-eq0 g c =
    let at = c.requires.0 in
    let may = c.requires.1.0 in
    let made = c.go-turned.ensures in
    let m = c.args.adapters.now in
    let used = used_shown g.o c.args.x m c.args.book.now c.args.world.now c.adapter_of-adapter.result c.used-before.result at c.adapter_of-adapter.ensures c.used-before.ensures in
    let under = left_over g.o c.args.x c.used-before.result used may.unspent in
    inl (record {
      shown = turn_still g.o c.args.x m c.args.book.now c.args.world.now c.go-turned.new.adapters c.go-turned.new.memory c.min-most.result c.go-turned.result at made c.if-turned-eq0.true;
      silent = refl;
      ends = λ is. let all = made.makes.whole is in omega (arith, all, c.if-turned-eq0.true, under, c.min-most.ensures, c.from.ensures, at.keeps.most);
      next = still_known g.o c.args.x m c.args.book.now c.args.world.now c.go-turned.new.adapters c.go-turned.new.memory c.min-most.result c.go-turned.result at made c.if-turned-eq0.true;
    })

pub write-requires : goal.write-requires
write-requires g c =
    let at = c.requires.0 in
    let may = c.requires.1.0 in
    let m = c.args.adapters.now in
    let used = used_shown g.o c.args.x m c.args.book.now c.args.world.now c.adapter_of-adapter.result c.used-before.result at c.adapter_of-adapter.ensures c.used-before.ensures in
    let most : c.min-most.result ≡ min (g.o.inputs.budget - c.used-before.result) 64 = omega (arith, c.min-most.ensures, c.from.ensures, at.keeps.most) in (
      turn_stands g.o c.args.x m c.args.book.now c.args.world.now c.go-turned.new.adapters c.go-turned.new.memory c.min-most.result c.from-count.result c.used-before.result c.go-turned.result
          at may c.go-turned.ensures c.from-count.ensures (omega (arith, c.if-turned-eq0.false, c.from-count.ensures)) used most,
      (at.owner, (refl, (tt, c.requires.1.1.1))),
    )

pub returns : goal.returns
returns g c =
    let at = c.requires.0 in
    let made = c.go-turned.ensures in
    let m = c.args.adapters.now in
    let n = c.from-count.result in
    let used = used_shown g.o c.args.x m c.args.book.now c.args.world.now c.adapter_of-adapter.result c.used-before.result at c.adapter_of-adapter.ensures c.used-before.ensures in
    let budget : c.from-2.result ≡ g.o.inputs.budget = c.from-2.ensures ∙ ap (λ (a : Adapters). a.budget) c.ran.ensures ∙ c.charge.ensures.most in
    inr (
      n,
      record {
        step = record {
          logs = c.write.ensures.logs;
          shown = turn_kept g.o c.args.x m c.args.book.now c.args.world.now c.go-turned.new.adapters c.go-turned.new.memory c.min-most.result n c.go-turned.result c.adapter_of-adapter.result
              c.charge.new.adapters c.ran.new.adapters c.write.new.book c.rise.new.self at made c.from-count.ensures c.adapter_of-adapter.ensures c.charge.ensures c.ran.ensures c.write.ensures.book c.rise.ensures;
        };
        unspent = used n ∙ above g.o.inputs.budget (c.used-before.result + n) (omega (arith, budget, c.if-from-before.false));
        next = turn_known c.code_laws.ensures g.o c.args.x m c.args.book.now c.args.world.now c.go-turned.new.adapters c.go-turned.new.memory c.min-most.result n c.go-turned.result at c.requires.1.0.goes.number made c.from-count.ensures;
      },
    )

pub returns-then-from-before : goal.returns-then-from-before
returns-then-from-before g c =
    let at = c.requires.0 in
    let made = c.go-turned.ensures in
    let m = c.args.adapters.now in
    let n = c.from-count.result in
    let used = used_shown g.o c.args.x m c.args.book.now c.args.world.now c.adapter_of-adapter.result c.used-before.result at c.adapter_of-adapter.ensures c.used-before.ensures in
    let budget : c.from-2.result ≡ g.o.inputs.budget = c.from-2.ensures ∙ ap (λ (a : Adapters). a.budget) c.ran.ensures ∙ c.charge.ensures.most in (
      n,
      record {
        step = record {
          logs = c.write.ensures.logs;
          shown = turn_kept g.o c.args.x m c.args.book.now c.args.world.now c.go-turned.new.adapters c.go-turned.new.memory c.min-most.result n c.go-turned.result c.adapter_of-adapter.result
              c.charge.new.adapters c.ran.new.adapters c.write.new.book c.rise.new.self at made c.from-count.ensures c.adapter_of-adapter.ensures c.charge.ensures c.ran.ensures c.write.ensures.book c.rise.ensures;
        };
        spent = used n ∙ at_most g.o.inputs.budget (c.used-before.result + n) (omega (arith, budget, c.if-from-before.true));
      },
    )
