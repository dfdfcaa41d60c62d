-- Each answer is a case of the definition; a leader is a variable that the arrays have: `led-in`.
use borrow.Author.Rules.{rules}
use Rattle.step_trim.proofs.Trimmed.{own-list, led-list, led-in}
use Rattle.step_trim.proofs.trim_variable.Statement.{statement}
use Rattle.step_trim.proofs.trim_variable.Tie as tie

returns : tie.Need-returns-then-leader-eq0
returns c = own-list _ c.args.x c.wide-leader.ensures 32 _ _ c.if-leader-eq0.true

returns-2 : tie.Need-returns
returns-2 c =
    let e = c in
    led-list _ e.args.x e.wide-leader.ensures 32 _ _ e.if-leader-eq0.false c.supported.ensures

pub trim_variable_spec : {M : Type 1} → statement M
trim_variable_spec =
    tie.close
    (tie.spec
    (λ c. search rules)
    (λ c κs. search rules)
    (λ c. search rules)
    (λ c. search rules)
    returns
    (λ c. search rules)
    (λ c. search rules)
    (λ c. search rules)
    (λ c. let l = led-in _ c.args.x c.wide-leader.ensures c.requires.1 c.if-leader-eq0.false in search rules)
    (λ c. let l = led-in _ c.args.x c.wide-leader.ensures c.requires.1 c.if-leader-eq0.false in search rules)
    (λ c κs. let l = led-in _ c.args.x c.wide-leader.ensures c.requires.1 c.if-leader-eq0.false in search rules)
    returns-2)
