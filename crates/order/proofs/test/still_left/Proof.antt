-- 0 is no number of a variable, and what is past a word's bits is not left.
use mathlib.Core.Path.{sym, ap, ◌∙◌}
use native.Mathlib.Numerals.{sub-one}
use native.Mathlib.Omega.{arith}
use borrow.Author.Rules.{rules}
use borrow.Author.Tests.{le-leb, lt-leb}
use Rattle.bounded.proofs.Bool.{and_comm, and-fails, and-holds}
use Rattle.words.specs.Word.{has}
use Rattle.words.proofs.Laws.{has-past}
use Rattle.order.proofs.test.still_left.Statement.{statement}
use Rattle.order.proofs.test.still_left.Tie as tie

returns : tie.Need-returns-then-v-eq0
returns c = sym (and-fails _ _ (lt-leb 1 c.args.v (omega arith)))

returns-2 : tie.Need-returns-then-v-gt-WIDTH
returns-2 c = sym (and_comm _ _ ∙ and-fails _ _ (has-past 32 _ _ c.ranges.left.fits (omega arith)))

returns-3 : tie.Need-returns
returns-3 c =
    let a = c.args in
    c.member.ensures ∙ ap (has a.left) (sub-one a.v) ∙ sym (and-holds _ _ (le-leb 1 a.v (omega arith)))

pub still_left_spec : {M : Type 1} → statement M
still_left_spec = tie.close (tie.spec returns returns-2 (λ c. search rules) (λ c κs. search rules) returns-3)
