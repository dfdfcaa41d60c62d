use Rattle.std.proofs.Common.{Bool, true, List, ℕ, ◌≡◌, ◌<◌, ◌≤◌, Bor}
use Rattle.words.specs.Word.{width, has, word}
use Rattle.pairs.specs.Pairs.{allows_of}
use Rattle.pairs.specs.Frames.{Stored}
use Rattle.step_add.specs.Cut.{cut_by}
use Rattle.step_add.proofs.table.cut_with.Given as goal

-- The values before `a` are done, by whatever `reach` tells; what it reads is as it was.
abbrev pub invariant-loop-a : goal.invariant-loop-a
invariant-loop-a g l =
    (l.a ≤ 32)
    × Stored 32 l.fn.rows l.rows l.first.leader l.q (allows_of 32 l.rows l.first.leader l.q) l.a
    × ((told : ℕ → ℕ → Bool)
    → ((now : Bor (List ℕ)) (f : ℕ → ℕ → Bool) (n a r : ℕ) → Stored width l.fn.rows now.now l.first.leader l.q f n → a < width → has l.first.values a ≡ true
    → goal.F-post g l.fn.reach now a r → r ≡ word width (told a))
    → Stored 32 l.fn.rows l.rows l.first.leader l.q (cut_by 32 l.fn.rows l.first l.q l.was told) l.a)
