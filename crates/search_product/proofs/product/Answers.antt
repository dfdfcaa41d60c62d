use Rattle.std.proofs.Common.{rules}
use mathlib.Core.Path.{ap, ◌∙◌}
use Prim.Native.Nat.{ℕ, min}
use Rattle.head.proofs.Held.{HeadShaped, shape}
use Rattle.search_product.proofs.Factors.{product-held}
use Rattle.search_product.proofs.product.Goals as goal

pub returns : goal.returns
returns c = λ rows t.
    let h : HeadShaped c.args.head = search shape in
    c.capped_product.ensures _ (λ i x l m. search rules) ∙ ap (λ (p : ℕ). min p 1000001) (product-held _ rows h t)
