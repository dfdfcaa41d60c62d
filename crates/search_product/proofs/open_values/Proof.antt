-- A follower counts once, and a free variable as often as its domain has values.
use mathlib.Core.Path.{◌≡◌}
use native.Mathlib.Omega.{arith}
use borrow.Author.Rules.{rules}
use Rattle.search_product.proofs.Factors.{open-led, open_free}
use Rattle.search_product.proofs.open_values.Statement.{statement}
use Rattle.search_product.proofs.open_values.Tie as tie

pub open_values_spec : {M : Type 1} → statement M
open_values_spec =
    tie.close
    (tie.spec
    (λ c. open-led c.args.leader c.args.domain (λ z. let x : ⊥ = omega arith in x))
    (λ c κs. search rules)
    (λ c. let free : c.args.leader ≡ 0 = omega arith in rw (← open_free c.args.leader c.args.domain free) (search rules)))
