-- A free variable has its own values, and a follower the partners of its leader's.
use mathlib.Core.Path.{◌≡◌, ◌∙◌}
use Prim.Native.Nat.{◌-◌, ◌<◌}
use native.Mathlib.Omega.{arith}
use borrow.Author.Rules.{rules}
use Rattle.words.specs.Word.{width}
use Rattle.words.proofs.Laws.{word_lt}
use Rattle.pairs.specs.Pairs.{variables}
use Rattle.survey.proofs.Spreading.{word-free, word-led}
use Rattle.survey.proofs.spread.any_word.Statement.{statement}
use Rattle.survey.proofs.spread.any_word.Tie as tie

returns : tie.Need-returns-then-leader-eq0
returns c =
    let s = c in
    (c.used_word.ensures.0 ∙ word-free _ _ _ _ _ s.args.used.now _ c.if-leader-eq0.true, c.used_word.ensures.1)

-- The leader, counted from 0, is another variable.
led : (c : tie.After-wide-l) → (c.wide-l.result - 1 < variables) × (c.wide-l.result - 1 ≡ c.args.i → ⊥)
led c = c.requires.1 (c.wide-l.result - 1) (omega (arith, c.wide-l.ensures, c.if-leader-eq0.false))

mul-used-word-3 : tie.Need-offset_bounds-used-l
mul-used-word-3 c = let l = (led c).0 in search rules

mul-used-word-4 : tie.Need-offset_bounds-lists-l
mul-used-word-4 c = let l = (led c.before.before).0 in search rules

used-word-requires-2 : tie.Need-used_word-whole-requires
used-word-requires-2 c κs = let l = (led c.before.before.before.before).0 in omega arith

partners-requires : tie.Need-partners-requires
partners-requires c κs =
    let w = c in
    ((led c.before.before.before.before.before.before.before).0, w.requires.0, (led c.before.before.before.before.before.before.before).1)

returns-2 : tie.Need-returns
returns-2 c =
    let u = c in
    let w = u in
    let s = w in (
      word-led s.args.leaders.now s.args.domains.now s.args.lists.now s.args.rows.now s.args.left s.args.used.now s.args.i _
          (omega (arith, w.wide-l.ensures, w.if-leader-eq0.false)) u.used_word-whole.ensures.0 c.partners.ensures c.both.ensures,
      rw c.both.ensures (word_lt width _),
    )

pub any_word_spec : {M : Type 1} → statement M
any_word_spec =
    tie.close
    (tie.spec
    (λ c. search rules)
    (λ c. search rules)
    (λ c. search rules)
    (λ c. search rules)
    (λ c. search rules)
    (λ c κs. search rules)
    returns
    (λ c κs. search rules)
    (λ c. search rules)
    mul-used-word-3
    (λ c. (led c.before).0)
    mul-used-word-4
    (λ c. (led c.before.before.before).0)
    used-word-requires-2
    (λ c. search rules)
    (λ c. search rules)
    partners-requires
    (λ c κs. search rules)
    returns-2)
