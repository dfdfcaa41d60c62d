use Rattle.std.proofs.Common.{◌≡◌, ◌∙◌, ap, ℕ, ◌+◌, ltb, get_or, List, rules, arith}
use Rattle.bounded.specs.Bool.{if}
use Rattle.bounded.specs.Table.{tabulate}
use Rattle.bounded.proofs.Bool.{if-true}
use Rattle.bounded.proofs.Table.{get_d_tabulate}
use Rattle.year_entries.proofs.value_bytes.Goals as goal
use borrow.Author.Tests.{lt-ltb}

pub returns : goal.returns
unfolding if
returns c =
    let value : ℕ → ℕ = λ o. if (ltb o c.args.n) (get_or c.args.cells (o + 1) 0) 0 in
    let is : c.table.result ≡ tabulate 16 value = c.table.ensures value (λ i x l m. search rules) in
    λ o l. ap (λ (xs : List ℕ). get_or xs o 0) is ∙ get_d_tabulate 16 value o 0 (omega arith) ∙ if-true _ _ _ (lt-ltb _ _ l)
