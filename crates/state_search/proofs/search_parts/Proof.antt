-- 9 of a state that is not sound, then 23 by the product, and else what is found.
use mathlib.Core.Path.{sym, ◌∙◌}
use native.Mathlib.Omega.{arith}
use borrow.Author.Rules.{rules}
use Rattle.head.proofs.Held.{held-n}
use Rattle.answers.specs.Answers.{verdict_told}
use Rattle.search_product.proofs.Factors.{product-refused, product-accepted}
use Rattle.state.proofs.Solutions.{search-unsound, search-own, search-refuses}
use Rattle.state_search.proofs.Searches.{told_none, told-found}
use Rattle.state_search.proofs.search_parts.Statement.{statement}
use Rattle.state_search.proofs.search_parts.Tie as tie

returns : tie.Need-returns-then-not-sound_parts
unfolding verdict_told
returns c = sym (search-refuses _ 9 (search-unsound _ (sym c.sound_parts.ensures ∙ c.if-not-sound_parts.true)) (omega arith))

-- Past the first test the state is sound,
product-requires : tie.Need-product-requires
product-requires c κs = held-n _ _ (sym c.sound_parts.ensures ∙ c.if-not-sound_parts.false)

-- and past the second nothing refuses.
returns-3 : tie.Need-returns-in_default
unfolding verdict_told
returns-3 c =
    let t = sym c.sound_parts.ensures ∙ c.if-not-sound_parts.false in
    told_none _ (search-own _ t ∙ product-accepted _ _ (c.product.ensures _ t) (omega arith)) c.in_default.ensures

returns-4 : tie.Need-returns
unfolding verdict_told
returns-4 c =
    let t = sym c.sound_parts.ensures ∙ c.if-not-sound_parts.false in
    told-found _ (search-own _ t ∙ product-accepted _ _ (c.product.ensures _ t) (omega arith)) c.in-Some.ensures.0 c.in-Some.ensures.1

-- The goal at the second refusal is answered by its place: its name is the condition's, which an edit changes.
pub search_parts_spec : {M : Type 1} → statement M
unfolding verdict_told
search_parts_spec =
    tie.close
    (tie.spec
    (λ c κs. search rules)
    returns
    product-requires
    (λ c.
    let t = sym c.sound_parts.ensures ∙ c.if-not-sound_parts.false in
    sym (search-refuses _ 23 (search-own _ t ∙ product-refused _ _ (c.product.ensures _ t) (omega arith)) (omega arith)))
    (λ c κs. sym c.sound_parts.ensures ∙ c.if-not-sound_parts.false)
    (λ c. search rules)
    (λ c. search rules)
    returns-3
    returns-4)
