-- What soundness comes to on a head and rows: what the two say by themselves, and the followers, in the words of the arrays.
use Rattle.std.specs.Prelude.{Bool, List, ℕ, pred, eqb, ltb, get_or}
use Rattle.bounded.specs.Bool.{and, implies, not}
use Rattle.bounded.specs.Fold.{every}
use Rattle.words.specs.Word.{width, has, word}
use Rattle.pairs.specs.Pairs.{variables, partners_of, partners_within}
use Rattle.head.specs.declared.Head.{Head}
use Rattle.soundness_head.specs.Fits.{head_fits}
use Rattle.soundness_rows.specs.Fits.{rows_fit}

-- ---- the followers

-- "A value stays in a follower's list exactly when it is the partner of a value in the leader's list" (document 02): each value in the list di of the
-- follower i is one of a value in the list dl of its leader l.
unfoldable pub trimmed_to : List ℕ → ℕ → ℕ → ℕ → ℕ → Bool
trimmed_to rows i l di dl = every width (λ (b : ℕ). implies (has di b) (has (partners_of width rows l i dl) b))

module _ (n : ℕ) (domains leaders rows : List ℕ) where
  -- i, whose word is given, follows l: "a leader is a live option other than the follower", "a follower is stated with its leader and with no other
  -- option", "each value in a leader's list has exactly one allowed partner in each of its followers' lists", and the follower's list is trimmed to the
  -- leader's. It is another because the word of i, which has l alone, has not i.
  unfoldable pub follower_fits : ℕ → ℕ → ℕ → Bool
  follower_fits i stated l =
      and (ltb l n)
      (and (eqb (get_or leaders l 0) 0)
      (and (eqb stated (word width (λ (u : ℕ). eqb u l)))
      (and (partners_within width rows l i (get_or domains l 0) (get_or domains i 0) 1 1)
      (trimmed_to rows i l (get_or domains i 0) (get_or domains l 0)))))

  unfoldable pub free_or_fits : ℕ → ℕ → Bool
  free_or_fits i stated = implies (not (eqb (get_or leaders i 0) 0)) (follower_fits i stated (pred (get_or leaders i 0)))

unfoldable pub followers_fit : Head → List ℕ → Bool
followers_fit h rows =
    every variables (λ (i : ℕ). free_or_fits h.n h.domains h.leaders rows i (get_or h.stated i 0))

-- All of it, in the order of the code.
unfoldable pub parts_fit : Head → List ℕ → Bool
parts_fit h rows = and (head_fits h) (and (rows_fit width h.n h.sizes h.stated rows) (followers_fit h rows))
