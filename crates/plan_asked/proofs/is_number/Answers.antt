use Rattle.std.proofs.Common.{rules, tests, true, false, ◌≡◌, ◌∙◌, ap, length}
use Rattle.std.specs.Char.{is_ascii_digit}
use Rattle.std.specs.Prelude.{not}
use Rattle.std.proofs.lemmas.Iterator.{cases_from_all, YieldsList-from_slice}
use Rattle.plan_asked.proofs.Laws.{digits-told, no_number}
use Rattle.plan_asked.proofs.is_number.Goals as goal

pub returns-then-not-is_empty : goal.returns-then-not-is_empty
returns-then-not-is_empty c =
    digits-told _ _
    (cases_from_all _ _ _ (λ x. is_ascii_digit x ≡ true) (λ x. is_ascii_digit x ≡ false) c.all.ensures.ran (YieldsList-from_slice c.args.word.now c.iter.ensures.rest)
    (λ x q k. search rules) (λ x q k. search rules))
    (search (rules, tests))

pub returns-else-not-is_empty : goal.returns-else-not-is_empty
returns-else-not-is_empty c =
    let e : length c.args.word.now ≡ 0 = search (rules, tests) in
    ap not c.if-not-is_empty.false ∙ no_number _ e
