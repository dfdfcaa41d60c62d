-- All but those that are still to come are cut.
use Rattle.std.proofs.Common.{true, List, ◌≡◌, ℕ}
use Rattle.words.specs.Word.{width, has, word}
use Rattle.pairs.specs.Pairs.{allows_of}
use Rattle.search_narrow.proofs.Narrowing.{Rest, Narrowing}
use Rattle.search_narrow.proofs.narrow_to.Given as goal

abbrev pub invariant-loop-j : goal.invariant-loop-j
invariant-loop-j g l =
    Rest width l.among l.j-iterator.left
    × ((rows : List ℕ) (k v : ℕ) → ((j : ℕ) (x : ℕ) → has l.among j ≡ true → goal.F-post g l.allowed j x → x ≡ word width (allows_of width rows k j v))
    → Narrowing width rows l.initial.domains l.among k v l.domains l.changed l.j-iterator.left)
