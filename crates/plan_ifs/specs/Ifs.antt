-- `IF i a THEN j b j b ..`: "each live i with followers, each a in its list". Options count from 0 here and from 1 in the text.
use Rattle.std.specs.Prelude.{Bool, List, [], ◌++◌, ℕ, ◌+◌, eqb}
use Rattle.bounded.specs.Bool.{if}
use Rattle.bounded.specs.Fold.{some}
use Rattle.words.specs.Word.{width}
use Rattle.buffers.specs.Digits.{decimal}
use Rattle.network.specs.Network.{Network}
use Rattle.network.specs.Completion.{follow}
use Rattle.text_lines.specs.Text.{ascii}
use Rattle.text_put.specs.Put.{each}
use Rattle.plan_lines.specs.Lines.{spaced}

-- j follows i. A leader is live.
unfoldable pub leads : Network → ℕ → ℕ → Bool
leads N i j = eqb (N.leader j) (i + 1)

-- ` j b`: the follower, and the value that the completer writes for it where its leader has a.
unfoldable pub then_text : Network → ℕ → ℕ → ℕ → List ℕ
then_text N i a j = if (leads N i j) (spaced (j + 1) ++ spaced (follow N j a)) []

unfoldable pub if_text : Network → ℕ → ℕ → List ℕ
if_text N i a = (ascii "IF " ++ decimal (i + 1)) ++ (spaced a ++ (ascii " THEN" ++ (each (then_text N i a) N.n ++ ascii "\n")))

-- A value that is not in the list has no line,
unfoldable pub if_line : Network → ℕ → ℕ → List ℕ
if_line N i a = if (N.domain i a) (if_text N i a) []

-- nor has an option without followers.
unfoldable pub if_lines_of : Network → ℕ → List ℕ
if_lines_of N i = if (some N.n (leads N i)) (each (if_line N i) width) []

unfoldable pub if_lines : Network → List ℕ
if_lines N = each (if_lines_of N) N.n
