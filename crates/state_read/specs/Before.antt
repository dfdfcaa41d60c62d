-- "A version 1 sheet gives the state it gave before, number for number." Before there was version 1 alone, no sheet was longer than 4,101 bytes, and a
-- domain, a word of stated pairs and a row had 16 bits.
use Rattle.std.specs.Prelude.{List, [], ◌∷◌, ◌≡◌, ℕ, ◌≤◌, ◌<◌, length, get_or}
use Rattle.words.specs.Word.{width, word}
use Rattle.network.specs.Network.{Network}
use Rattle.network.specs.Sheet.{Sheet, network_of}
use Rattle.pairs.specs.Pairs.{variables, allows_of}
use Rattle.format.specs.Layout.{longest, version1, version2}
use Rattle.format.specs.Parse.{Octets, Parse, got, parse_under}
use Rattle.state.specs.declared.state.State.{State}
use Rattle.state.specs.Read.{read_as, read_sheet}

-- The parser of before.
unfoldable pub parse_before : List ℕ → Parse Sheet
parse_before bytes = parse_under 4101 (version1 ∷ []) bytes

-- The numbers of a state are those of a network in words of w bits: each size, domain, leader and word of stated pairs, and each row, by variable,
-- variable and value. Values at or above w have no row.
pub record InWordsOf (w : ℕ) (N : Network) (s : State) : Type 0 where
  pub n_is : s.n ≡ N.n
  pub sizes_are : (i : ℕ) → i < variables → get_or s.sizes i 0 ≡ N.size i
  pub lists_are : (i : ℕ) → i < variables → get_or s.domains i 0 ≡ word w (N.domain i)
  pub leaders_are : (i : ℕ) → i < variables → get_or s.leaders i 0 ≡ N.leader i
  pub stated_are : (i : ℕ) → i < variables → get_or s.stated i 0 ≡ word w (N.stated i)
  pub rows_are : (i j a : ℕ) → word width (allows_of width s.rows i j a) ≡ word w (N.allows i j a)
  pub no_row_above : (i j a : ℕ) → w ≤ a → word width (allows_of width s.rows i j a) ≡ 0

-- A sheet that was accepted is accepted, and its state has the numbers that it had. No other sheet of version 1 is accepted. Up to the limit of before every
-- answer is the one of before, but where the version is 2 or 3.
pub record AsBefore (bytes : List ℕ) : Type 0 where
  pub accepted_still : (s : Sheet) (next : ℕ) → parse_before bytes ≡ got s next
      → ((read_sheet bytes).number ≡ 0) × InWordsOf 16 (network_of s) (read_sheet bytes).state
  pub no_more : (read_sheet bytes).number ≡ 0 → get_or bytes 0 0 ≡ 1 → (s : Sheet) × (parse_before bytes ≡ got s (length bytes))
  pub answered : length bytes ≤ 4101 → (get_or bytes 0 0 ≡ 2 → ⊥) → (get_or bytes 0 0 ≡ 3 → ⊥) → read_sheet bytes ≡ read_as (parse_before bytes)

unfoldable pub Version1AsBefore : Type 0
Version1AsBefore = (bytes : List ℕ) → Octets bytes → AsBefore bytes

-- "Versions 1 and 2 go on allowing it": where the version is not 3 every answer, its state included, is the one of before, when there were versions 1 and 2.
unfoldable pub OthersAsBefore : Type 0
OthersAsBefore =
    (bytes : List ℕ) → (get_or bytes 0 0 ≡ 3 → ⊥) → read_sheet bytes ≡ read_as (parse_under longest (version1 ∷ version2 ∷ []) bytes)
