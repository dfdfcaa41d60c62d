use Rattle.std.proofs.Common.{rules, arith, refl, Bool, true, false, ◌≡◌, ℕ, ◌+◌, eqb, get_or}
use Rattle.std.proofs.lemmas.Iterator.{cases_from_any, YieldsList-from_range}
use Rattle.plan_ifs.proofs.Laws.{some_told}
use Rattle.plan_ifs.proofs.is_leader.Goals as goal

pub returns : goal.returns
returns c =
    let p : ℕ → Bool = λ j. eqb (get_or c.args.leaders.now j 0) (c.args.i + 1) in
    some_told _ p _
    (cases_from_any _ _ _ (λ j. p j ≡ true) (λ j. p j ≡ false) c.any.ensures.ran (YieldsList-from_range 0 _ c.args.n refl (omega arith))
    (λ x q k. search rules) (λ x q k. search rules))
