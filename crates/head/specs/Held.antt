-- The network that a head and rows hold, and the head and rows of a network.
use Rattle.std.specs.Prelude.{Bool, List, ◌≡◌, ℕ, ◌<◌, ◌*◌, ◌^◌, get_or, replicate}
use Rattle.bounded.specs.Array.{Array}
use Rattle.bounded.specs.Table.{tabulate}
use Rattle.words.specs.Word.{width, has, word}
use Rattle.network.specs.Network.{Network}
use Rattle.network.specs.Sound.{sound}
use Rattle.pairs.specs.Pairs.{variables, pair_count, allows_of, rows_of}
use Rattle.head.specs.declared.Head.{Head}

-- How large a size may be: "Sizes may go to 32, in a sound state too". The other two numbers of a state are `variables` and `width`.
abbrev pub values_at_most : ℕ
values_at_most = 32

-- What the types of its fields say of every head,
pub record HeadShaped (h : Head) : Type 0 where
  pub n_lt : h.n < 2 ^ 64
  pub sizes_array : Array variables (2 ^ 8) h.sizes
  pub domains_array : Array variables (2 ^ width) h.domains
  pub leaders_array : Array variables (2 ^ 8) h.leaders
  pub stated_array : Array variables (2 ^ width) h.stated

-- and that of rows of every array of them.
abbrev pub RowsShaped : List ℕ → Type 0
RowsShaped rows = Array (pair_count * width) (2 ^ width) rows

-- The network that they hold.
unfoldable pub held : Head → List ℕ → Network
held h rows =
    record {
      n = h.n;
      size = λ (i : ℕ). get_or h.sizes i 0;
      domain = λ (i a : ℕ). has (get_or h.domains i 0) a;
      leader = λ (i : ℕ). get_or h.leaders i 0;
      stated = λ (i j : ℕ). has (get_or h.stated i 0) j;
      allows = allows_of width rows;
    }

-- The head of a network; its rows are `rows_of width` of what it allows.
unfoldable pub head_of : Network → Head
head_of N =
    record {
      n = N.n;
      sizes = tabulate variables N.size;
      domains = tabulate variables (λ (i : ℕ). word width (N.domain i));
      leaders = tabulate variables N.leader;
      stated = tabulate variables (λ (i : ℕ). word width (N.stated i));
    }

-- A head and rows are those of a network.
pub record Represents (N : Network) (h : Head) (rows : List ℕ) : Type 0 where
  pub head_is : h ≡ head_of N
  pub rows_are : rows ≡ rows_of width N.allows

-- "The zero state is zero throughout, n included."
unfoldable pub zero_head : Head
zero_head =
    record {
      n = 0;
      sizes = replicate variables 0;
      domains = replicate variables 0;
      leaders = replicate variables 0;
      stated = replicate variables 0;
    }

abbrev pub zero_rows : List ℕ
zero_rows = replicate (pair_count * width) 0

-- "A state is sound when" its network is, by these three numbers.
unfoldable pub sound_in : Head → List ℕ → Bool
sound_in h rows = sound variables width values_at_most (held h rows)
