use Rattle.std.proofs.Common.{◌-◌, sym, arith}
use Rattle.std.proofs.lemmas.Bool.Decides.{nat_tests}
use Rattle.dp8390.proofs.FreePages.{free_in_front, free_over_the_end}
use Rattle.dp8390.proofs.registers.Registers.free_pages.Goals as goal

pub returns-then-self : goal.returns-then-self
returns-then-self c = sym (free_in_front (c.args.self.now.page_stop - c.args.self.now.page_start) c.args.self.now.boundary c.args.self.now.current c.if-self.true (grind (arith, nat_tests)))

pub returns-else-self : goal.returns-else-self
returns-else-self c = sym (free_over_the_end (c.args.self.now.page_stop - c.args.self.now.page_start) c.args.self.now.boundary c.args.self.now.current c.if-self.false (grind (arith, nat_tests)))
