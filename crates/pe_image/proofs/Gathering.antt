-- Lists that are gathered, step by step.
use Rattle.std.proofs.Common.{List, ◌++◌, subst, append_assoc}
use Rattle.pe_image.specs.declared.gathered.Gathered.{Gathered}
use Rattle.pe_image.specs.Gathering.{IsGathered, HasGained}

-- some items, and others behind them
pub gained_more : {A : Type 0} (old mid new : Gathered A) (here more : List A) → HasGained old mid here → HasGained mid new more → HasGained old new (here ++ more)
gained_more old mid new here more first second = λ front is. subst (IsGathered new) (append_assoc front here more) (second (front ++ here) (first front is))
