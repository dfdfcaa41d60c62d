-- Reading and writing together, of what the calls answer: which bytes are accepted, what state they give, and both round trips.
use Rattle.std.specs.Prelude.{true, List, ◌↔◌, ◌≡◌, ℕ, suc, ◌≤◌, ◌<◌, ltb, length, get_or, take, drop}
use Rattle.bounded.specs.Bool.{or}
use Rattle.words.specs.Word.{has}
use Rattle.network.specs.Network.{Network}
use Rattle.network.specs.Sheet.{Sheet}
use Rattle.format.specs.Layout.{Layout, found, layout_of}
use Rattle.format.specs.Parse.{Octets}
use Rattle.format.specs.Print.{print}
use Rattle.format.specs.WellFormed.{WellFormed}
use Rattle.format.specs.Writable.{fits_version, rows_pass}
use Rattle.format.specs.Builds.{options, option_size, table_row, table_place, has_table}
use Rattle.state.specs.declared.state.State.{State}
use Rattle.state.specs.View.{Shaped, view}
use Rattle.state.specs.Read.{read_sheet}
use Rattle.state.specs.Write.{Wrote, sheet_bytes, write_sheet}

-- A sheet is accepted exactly when its bytes are those of a well-formed sheet in a layout that there is.
unfoldable pub AcceptedExactly : Type 0
AcceptedExactly =
    (bytes : List ℕ) → Octets bytes
    → ((read_sheet bytes).number ≡ 0)
    ↔ ((L : Layout) × (s : Sheet) × (layout_of L.version ≡ found L) × WellFormed L s × (print L s ≡ bytes))

-- The network of a sheet just read, beside what a walk over the bytes finds.
pub record JustRead (bytes : List ℕ) (N : Network) : Type 0 where
  pub n_read : N.n ≡ options bytes
  pub sizes_read : (i : ℕ) → i < N.n → N.size i ≡ option_size bytes (suc i)
  -- "A sheet just read has full lists, no leader, and exactly the tables of the file are stated."
  pub full_lists : (i a : ℕ) → N.domain i a ≡ ltb a (N.size i)
  pub no_leader : (i : ℕ) → N.leader i ≡ 0
  pub tables_stated : (i j : ℕ) → N.stated i j ≡ or (has_table bytes (suc i) (suc j)) (has_table bytes (suc j) (suc i))
  -- "Bit v of a row (weight 2 to the v) says that value v of b is allowed."
  pub rows_read : (i j a b : ℕ) → has_table bytes (suc i) (suc j) ≡ true → a < N.size i
      → N.allows i j a b ≡ has (table_row bytes (table_place bytes (suc i) (suc j)) a) b
  -- "read alike from both sides"
  pub both_sides : (i j a b : ℕ) → N.allows i j a b ≡ N.allows j i b a

unfoldable pub ReadTables : Type 0
ReadTables = (bytes : List ℕ) → Octets bytes → (read_sheet bytes).number ≡ 0 → JustRead bytes (view (read_sheet bytes).state)

-- "Reading a written sheet returns the same state", and "both round trips hold for each version": of the first bytes of the buffer, as many as the writer
-- says that it wrote.
unfoldable pub ReadOfWrite : Type 0
ReadOfWrite =
    (version : ℕ) (s : State) → Shaped s → (buffer : List ℕ) → (write_sheet version s buffer).answer.number ≡ 0
    → read_sheet (take (write_sheet version s buffer).answer.length (write_sheet version s buffer).buffer) ≡ record { number = 0; place = 0; state = s }

-- What is written back over a buffer.
pub record WrittenBack (bytes buffer : List ℕ) (w : Wrote) : Type 0 where
  pub not_refused : w.answer.number ≡ 0
  pub same_length : w.answer.length ≡ length bytes
  pub same_bytes : take (length bytes) w.buffer ≡ bytes
  pub rest_untouched : drop (length bytes) w.buffer ≡ drop (length bytes) buffer

-- "writing a sheet just read, into enough space, returns the same bytes": in its own version, byte 0.
unfoldable pub WriteOfRead : Type 0
WriteOfRead =
    (bytes : List ℕ) → Octets bytes → (read_sheet bytes).number ≡ 0 → (buffer : List ℕ) → length bytes ≤ length buffer
    → WrittenBack bytes buffer (write_sheet (get_or bytes 0 0) (read_sheet bytes).state buffer)

-- What is written in a version: not refused, byte 0 is the version, and the bytes read back as the state.
pub record WrittenIn (version : ℕ) (s : State) (w : Wrote) : Type 0 where
  pub not_refused : w.answer.number ≡ 0
  pub its_version : get_or w.buffer 0 0 ≡ version
  pub reads_back : read_sheet (take w.answer.length w.buffer) ≡ record { number = 0; place = 0; state = s }

-- A sheet just read may be written in every version that has its sizes and allows its rows, into enough space.
unfoldable pub ReadInVersion : Type 0
ReadInVersion =
    (version : ℕ) (bytes : List ℕ) → Octets bytes → (read_sheet bytes).number ≡ 0
    → fits_version (layout_of version) (view (read_sheet bytes).state) ≡ true → rows_pass (layout_of version) (view (read_sheet bytes).state) ≡ true
    → (buffer : List ℕ) → length (sheet_bytes version (read_sheet bytes).state) ≤ length buffer
    → WrittenIn version (read_sheet bytes).state (write_sheet version (read_sheet bytes).state buffer)

-- In version 2 every one, one of version 1 or 3 too.
unfoldable pub ReadInVersion2 : Type 0
ReadInVersion2 =
    (bytes : List ℕ) → Octets bytes → (read_sheet bytes).number ≡ 0 → (buffer : List ℕ)
    → length (sheet_bytes 2 (read_sheet bytes).state) ≤ length buffer
    → WrittenIn 2 (read_sheet bytes).state (write_sheet 2 (read_sheet bytes).state buffer)
