use Rattle.std.proofs.Common.{rules}
use mathlib.Core.Path.{◌∙◌}
use native.Mathlib.Omega.{arith}
use Rattle.head.proofs.Held.{HeadShaped, shape, held-n}
use Rattle.search_product.proofs.Factors.{product-zero}
use Rattle.search.proofs.Settling.{start-below, product-settled, chosen_none, chosen-led, chosen-found}
use Rattle.search.proofs.search_sound.Goals as goal

pub product-requires : goal.product-requires
product-requires c = held-n _ _ c.requires

pub returns-then-product-eq0 : goal.returns-then-product-eq0
returns-then-product-eq0 c =
    let h : HeadShaped c.args.head = search shape in
    product-settled _ h c.requires (product-zero _ _ (c.product.ensures _ c.requires) c.if-product-eq0.true)

pub free_variables-left-requires : goal.free_variables-left-requires
free_variables-left-requires c = held-n _ _ c.requires

pub choose-requires : goal.choose-requires
choose-requires c =
    let most = held-n _ _ c.requires in
    (λ j h. omega (arith, start-below _ _ _ c.free_variables-left.ensures j h), search rules, search rules)

pub returns-then-not-choose : goal.returns-then-not-choose
returns-then-not-choose c =
    let h : HeadShaped c.args.head = search shape in
    chosen_none _ h c.requires c.free_variables-left.ensures c.choose.ensures.chooses c.if-not-choose.true

pub complete_values-requires : goal.complete_values-requires
complete_values-requires c =
    let h : HeadShaped c.args.head = search shape in
    chosen-led _ h c.requires c.free_variables-left.ensures c.choose.ensures.chooses c.if-not-choose.false c.choose.ensures.whole

pub returns : goal.returns
returns c =
    let h : HeadShaped c.args.head = search shape in
    let done = c.complete_values.ensures in
    chosen-found _ h c.requires c.free_variables-left.ensures c.choose.ensures.chooses c.if-not-choose.false
    (done.same_length ∙ c.choose.ensures.whole) done
