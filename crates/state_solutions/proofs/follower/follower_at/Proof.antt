-- The leader's list decides: 15, or the lowest partner.
use mathlib.Core.Path.{◌≡◌, sym, ap, ◌∙◌}
use Prim.Native.Nat.{suc, ◌-◌}
use native.Mathlib.Omega.{arith}
use borrow.Author.Rules.{rules}
use borrow.Author.Tests.{not-true, not-false}
use lib.ListN.{get_or}
use mathlib.Core.Bool.{true}
use Rattle.words.specs.Word.{has}
use Rattle.words.proofs.Laws.{has-below}
use Rattle.head.proofs.Held.{HeadShaped, shape}
use Rattle.answers.specs.Answers.{value_told}
use Rattle.state_solutions.proofs.FollowerValue.{told, listed-15, listed-taken, leader_other}
use Rattle.state_solutions.proofs.follower.follower_at.Statement.{statement}
use Rattle.state_solutions.proofs.follower.follower_at.Tie as tie

shaped : (c : tie.Start) → HeadShaped c.args.head
shaped c = search shape

abbrev start : tie.After-wide-l → tie.Start
start c = c.before.before.before

-- The leader, counted from 0.
leader-is : (c : tie.After-wide-l) → get_or (start c).args.head.leaders (start c).args.i 0 ≡ suc (c.wide-l.result - 1)
leader-is c = let p = (start c).requires in omega (arith, c.wide-l.ensures, p.3)

returns : tie.Need-returns-then-not-has_number
unfolding value_told
returns c =
    let w = c in
    let p = (start c.before.before).requires in
    listed-15 _ p.0 _ _ _ p.1 (leader-is c.before.before) (sym c.has_number.ensures ∙ c.if-not-has_number.true)

-- Past the test the value is in the leader's domain.
listed : (c : tie.Else-not-has_number) → has (get_or (start c.before.before).args.head.domains (c.wide-l.result - 1) 0) (start c.before.before).args.value ≡ true
listed c = sym c.has_number.ensures ∙ c.if-not-has_number.false

partner-of-requires : tie.Need-partner_of-requires
partner-of-requires c κs =
    let w = c in
    let p = (start c.before.before).requires in (
      omega (arith, w.wide-l.ensures, p.2, p.4),
      omega (arith, p.1, p.2),
      leader_other _ (shaped (start c.before.before)) p.0 _ _ (leader-is c.before.before),
      has-below 32 _ _ (listed c) ((shaped (start c.before.before)).domains_array.element_lt _),
    )

returns-2 : tie.Need-returns
unfolding value_told
returns-2 c =
    let w = c in
    let p = (start c.before.before.before).requires in
    ap (told 0) c.partner_of.ensures ∙ listed-taken _ p.0 _ _ _ p.1 (leader-is c.before.before.before) (shaped (start c.before.before.before)) (listed c.before)

pub follower_at_spec : {M : Type 1} → statement M
follower_at_spec =
    tie.close
    (tie.spec
    (λ c. search rules)
    (λ c κs. search rules)
    (λ c. search rules)
    (λ c. search rules)
    (λ c. search rules)
    (λ c κs. search rules)
    returns
    (λ c. search rules)
    (λ c. search rules)
    partner-of-requires
    returns-2)
