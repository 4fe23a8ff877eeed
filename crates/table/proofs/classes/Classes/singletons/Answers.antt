use Rattle.std.proofs.Common.{arith}
use Rattle.std.proofs.lemmas.List.FromFn.{fill_by_all}
use Rattle.table.proofs.classes.Classes.singletons.Goals as goal

pub returns : goal.returns
returns c =
    let made = c.from_fn.ensures.items in
    fill_by_all (λ i. i) c.from_fn.result 32 0 made.long (λ i l. grind arith)
