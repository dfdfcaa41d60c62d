use Rattle.std.proofs.Common.{rules}
use mathlib.Core.Path.{ap, ◌∙◌}
use Prim.Native.Nat.{ℕ, min}
use Rattle.head.proofs.Held.{HeadShaped, shape}
use Rattle.survey_product.proofs.Ties.{product-held}
use Rattle.survey_product.proofs.tied_product.Goals as goal

pub returns : goal.returns
returns c = λ rows t.
    let h : HeadShaped c.args.head = search shape in
    c.capped_product.ensures _ (λ i x l m. search rules)
    ∙ ap (λ (p : ℕ). min p 1000001) (product-held _ rows h t c.free_variables-free.ensures c.tied_variables-tied.ensures)
