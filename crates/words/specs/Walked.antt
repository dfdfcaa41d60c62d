-- The members of a word one by one, the lowest first.
use Rattle.std.specs.Prelude.{Option, MatchOption, ◌≡◌, ℕ, eqb}
use Rattle.bounded.specs.Bool.{and, not}
use Rattle.bounded.specs.Fold.{first}
use Rattle.words.specs.Word.{width, has, word}
use Rattle.words.specs.declared.Walk.{Walk}

-- The lowest member comes and leaves the others; nothing comes where there is none.
abbrev pub Takes : Walk → Option ℕ → Walk → Type 0
Takes s r t = MatchOption r ((s.left ≡ 0) × (t ≡ s))
    (λ v. (s.left ≡ 0 → ⊥) × (v ≡ first width (has s.left)) × (t.left ≡ word width (λ (u : ℕ). and (has s.left u) (not (eqb u (first width (has s.left)))))))
