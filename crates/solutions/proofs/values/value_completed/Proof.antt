-- A free variable keeps its value; a follower gets the partner of its leader's.
use native.Mathlib.Omega.{arith}
use mathlib.Core.Path.{◌∙◌}
use Prim.Native.Nat.{◌-◌}
use Rattle.solutions.specs.Choices.{LeaderReady}
use Rattle.solutions.proofs.Choices.{completed-live, completed-follower}
use borrow.Author.Rules.{rules}
use Rattle.solutions.proofs.values.value_completed.Statement.{statement}
use Rattle.solutions.proofs.values.value_completed.Tie as tie

-- The leader, counted from 0, is a variable that has a value.
led : (c : tie.After-wide-l)
    → LeaderReady 32 c.args.i (c.wide-l.result - 1) c.args.values.now
led c = c.requires.2 (c.wide-l.result - 1) (omega (arith, c.wide-l.ensures, c.if-leader-eq0.false))

returns : tie.Need-returns-then-leader-eq0
returns c =
    let s = c.args in
    completed-live 32 s.domains.now s.leaders.now s.rows.now s.values.now s.i c.if-leader-eq0.true

shared-slice-read-wide : tie.Need-bounds-values-l
shared-slice-read-wide c = (led c.before.before.before).leader_read

partner-of-requires : tie.Need-partner_of-requires
partner-of-requires c κs =
    let l = led c.before.before.before.before in
    (l.leader_in, c.requires.0, l.leader_other, omega (arith, c.wide.ensures, l.leader_fits))

returns-2 : tie.Need-returns
returns-2 c =
    let s = c.args in
    c.partner_of.ensures
    ∙ completed-follower 32 s.domains.now s.leaders.now s.rows.now s.values.now s.i _ _
    c.if-leader-eq0.false (omega (arith, c.wide-l.ensures)) c.wide.ensures

pub value_completed_spec : {M : Type 1} → statement M
value_completed_spec =
    tie.close
    (tie.spec
    (λ c. search rules)
    (λ c. search rules)
    returns
    (λ c κs. search rules)
    (λ c. search rules)
    (λ c. search rules)
    (λ c. search rules)
    shared-slice-read-wide
    (λ c κs. search rules)
    partner-of-requires
    returns-2)
