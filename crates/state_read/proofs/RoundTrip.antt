-- Reading and writing: which sheets are accepted and what state they give, and both round trips.
use mathlib.Core.Bool.{true, false}
use mathlib.Core.List.{List, ◌++◌}
use mathlib.Core.Logic.{◌↔◌}
use mathlib.Core.Path.{◌≡◌, refl, sym, ap, ap₂, ◌∙◌}
use Prim.Native.Nat.{ℕ, ◌≤◌, ◌<◌}
use native.Mathlib.Numerals.{add-one}
use native.Mathlib.Omega.{arith}
use lib.Dec.{ltb}
use lib.ListN.{length, get_or, take, drop}
use lib.Seq.{take-append_seam, drop-append_seam}
use borrow.Author.Tests.{lt-ltb, le-ltb, ltb-true, ltb-false}
use Rattle.bounded.specs.Bool.{or, if}
use Rattle.bounded.proofs.Bool.{by_cases, and-holds, not-i, not-false-i, if-true, if-false}
use Rattle.words.specs.Word.{has}
use Rattle.cause.specs.declared.Cause.{Cause}
use Rattle.cause.specs.Number.{number_of}
use Rattle.cause.proofs.Laws.{number-positive}
use Rattle.network.specs.Network.{Network, solves}
use Rattle.network.specs.Sound.{Sound}
use Rattle.network.specs.Sheet.{Sheet, tabled, network_of, sheet_of, fresh}
use Rattle.network.proofs.SheetOf.{fresh-leader, fresh-domain, network_of-fresh, network_of-stated, network_of-sheet_of, row-network_of}
use Rattle.pairs.specs.Pairs.{variables}
use Rattle.head.specs.Held.{held}
use Rattle.head.proofs.Held.{Packed, pack-sound, held-n}
use Rattle.format.specs.Layout.{version2, found, layout_of}
use Rattle.format.specs.Parse.{Octets, Parse, got, bad, parse}
use Rattle.format.specs.Print.{print, print_in}
use Rattle.format.specs.Writable.{fits_version, filled_in, rows_pass}
use Rattle.format.specs.Builds.{is_a_build}
use Rattle.format.proofs.Layouts.{found-version, version2-found}
use Rattle.format.proofs.RoundTrip.{SheetRead, parsed, parse-of-print}
use Rattle.format.proofs.SheetOf.{wellformed-fits, wellformed-sound, wellformed-n, wellformed-size}
use Rattle.format.proofs.Writable.{fits-takes, parse-of-written, read_fits, written-of-parse, read-fits-version2, plain-pass}
use Rattle.format.proofs.Builds.{builds-solve, options-are, option-sizes-are, tables-are, rows-are-read}
use Rattle.state.specs.declared.state.State.{State}
use Rattle.state.specs.View.{view, pack, state_of_zeros, sound_state}
use Rattle.state.specs.Answers.{ReadTold}
use Rattle.state.specs.Read.{read_as, read_sheet}
use Rattle.state.specs.Write.{Wrote, sheet_bytes, write_refusal, write_as, write_sheet}
use Rattle.state_read.specs.RoundTrip.{AcceptedExactly, ReadTables, ReadOfWrite, WriteOfRead, ReadInVersion, ReadInVersion2}
use Rattle.state.proofs.View.{Shaped, pack-view, state-sound, packed-view, packed-state, packed-shaped}

-- Reading, case by case.
module _ (bytes : List ℕ) where
  pub read-got : (s : Sheet) (next : ℕ) → parse bytes ≡ got s next
      → read_sheet bytes ≡ record { number = 0; place = 0; state = pack (network_of s) }
  unfolding read_sheet read_as
  read-got s next e = rw e

  -- A refused read has its cause's number, its place and the zero state.
  pub read-refused : (c : Cause) (at : ℕ) → parse bytes ≡ bad c at
      → read_sheet bytes ≡ record { number = number_of c; place = at; state = state_of_zeros }
  unfolding read_sheet read_as
  read-refused c at e = rw e

  pub got-or-bad : {A : Type 0} (p : Parse Sheet) → parse bytes ≡ p
      → ((s : Sheet) (next : ℕ) → parse bytes ≡ got s next → A)
      → ((c : Cause) (at : ℕ) → parse bytes ≡ bad c at → A)
      → A
  got-or-bad (got s next) e f g = f s next e
  got-or-bad (bad c at) e f g = g c at e

  -- A sheet is accepted exactly when the parser gets it.
  accepted-parses : ((read_sheet bytes).number ≡ 0) ↔ ((s : Sheet) × (next : ℕ) × (parse bytes ≡ got s next))
  accepted-parses = (
    λ h. got-or-bad (parse bytes) refl
        (λ s next e. (s, next, e))
        (λ c at e. absurd (let z : (read_sheet bytes).number ≡ number_of c = ap (λ (r : ReadTold). r.number) (read-refused c at e) in
        let x : ⊥ = omega (arith, number-positive c) in x)),
    λ g. ap (λ (r : ReadTold). r.number) (read-got g.0 g.1 g.2),
  )

-- What an accepted sheet was parsed as: its network is sound, is held by the state that was read, and prints as the bytes.
pub record Accepted (bytes : List ℕ) (s : Sheet) : Type 0 where
  pub got_sheet : parse bytes ≡ got s (length bytes)
  pub read : SheetRead bytes s (length bytes)
  pub sheet_sound : Sound (network_of s)
  pub at_most : (network_of s).n ≤ variables
  pub packed : Packed (network_of s)
  pub state_is : (read_sheet bytes).state ≡ pack (network_of s)
  pub view_is : view (read_sheet bytes).state ≡ network_of s

-- A state as read is sound, and the writer takes it.
pub record AsRead (t : State) : Type 0 where
  pub read_shaped : Shaped t
  pub is_sound : sound_state t ≡ true
  pub is_fresh : fresh (view t) ≡ true

module _ (bytes : List ℕ) (octets : Octets bytes) where
  pub got-accepted : (s : Sheet) (next : ℕ) → parse bytes ≡ got s next → Accepted bytes s
  got-accepted s next e =
      let whole : parse bytes ≡ got s (length bytes) = e ∙ ap (got s) (parsed bytes octets s next e).body.all_read in
      let R = parsed bytes octets s (length bytes) whole in
      let W = R.body.well_formed in
      let S = wellformed-sound R.layout R.usable s W in
      let n = wellformed-n R.layout R.usable s W in
      let K = pack-sound (network_of s) S n (wellformed-size R.layout R.usable s W) in
      let is = ap (λ (r : ReadTold). r.state) (read-got bytes s next e) in
      record {
        got_sheet = whole;
        read = R;
        sheet_sound = S;
        at_most = n;
        packed = K;
        state_is = is;
        view_is = ap view is ∙ packed-view K;
      }

  pub accepted : (read_sheet bytes).number ≡ 0 → (s : Sheet) × Accepted bytes s
  accepted h = let g = (accepted-parses bytes).0 h in (g.0, got-accepted g.0 g.1 g.2)

  module _ (h : (read_sheet bytes).number ≡ 0) where
    pub read-sound : AsRead (read_sheet bytes).state
    read-sound =
        let (s, A) = accepted h in
        record {
          read_shaped = rw A.state_is (packed-shaped A.packed);
          is_sound = rw A.state_is (packed-state A.packed);
          is_fresh = rw A.view_is (network_of-fresh s);
        }

    -- Its solutions are the builds read off the bytes.
    pub read-solutions : (f : ℕ → ℕ) → solves (view (read_sheet bytes).state) f ≡ is_a_build bytes f
    read-solutions f =
        let (s, A) = accepted h in
        ap (λ (N : Network). solves N f) A.view_is ∙ sym (builds-solve bytes octets s (length bytes) A.got_sheet f)

-- The writer's refusal, case by case: "the writer tests 9, 18, 17", 24 "after 18 and before 17", and 26 "after 24 and before 17".
module _ (version : ℕ) (s : State) (space : ℕ) where
  pub write-unsound : sound_state s ≡ false → write_refusal version s space ≡ 9
  unfolding write_refusal
  write-unsound h = if-true _ _ _ (not-i _ h)

  module _ (h : sound_state s ≡ true) where
    pub write-not-fresh : fresh (view s) ≡ false → write_refusal version s space ≡ 18
    unfolding write_refusal
    write-not-fresh f = if-false _ _ _ (not-false-i _ h) ∙ if-true _ _ _ (not-i _ f)

    module _ (f : fresh (view s) ≡ true) where
      pub write-not-in-version : fits_version (layout_of version) (view s) ≡ false → write_refusal version s space ≡ 24
      unfolding write_refusal
      write-not-in-version v = if-false _ _ _ (not-false-i _ h) ∙ if-false _ _ _ (not-false-i _ f) ∙ if-true _ _ _ (not-i _ v)

      module _ (v : fits_version (layout_of version) (view s) ≡ true) where
        pub write-blank-row : rows_pass (layout_of version) (view s) ≡ false → write_refusal version s space ≡ 26
        unfolding write_refusal
        write-blank-row p =
            if-false _ _ _ (not-false-i _ h) ∙ if-false _ _ _ (not-false-i _ f) ∙ if-false _ _ _ (not-false-i _ v) ∙ if-true _ _ _ (not-i _ p)

        module _ (p : rows_pass (layout_of version) (view s) ≡ true) where
          -- What is left to test is the room.
          write-tested : write_refusal version s space ≡ if (ltb space (length (sheet_bytes version s))) 17 0
          unfolding write_refusal
          write-tested =
              if-false _ _ _ (not-false-i _ h) ∙ if-false _ _ _ (not-false-i _ f) ∙ if-false _ _ _ (not-false-i _ v) ∙ if-false _ _ _ (not-false-i _ p)

          pub write-no-room : space < length (sheet_bytes version s) → write_refusal version s space ≡ 17
          write-no-room l = write-tested ∙ if-true _ _ _ (lt-ltb _ _ l)

          pub write-accepted : length (sheet_bytes version s) ≤ space → write_refusal version s space ≡ 0
          write-accepted l = write-tested ∙ if-false _ _ _ (le-ltb _ _ l)

  -- Only a sound and fresh state that fits the version is written.
  pub written-fresh : write_refusal version s space ≡ 0
      → (sound_state s ≡ true) × (fresh (view s) ≡ true) × (fits_version (layout_of version) (view s) ≡ true) × (rows_pass (layout_of version) (view s) ≡ true)
  written-fresh e =
      by_cases (sound_state s)
      (λ h. by_cases (fresh (view s))
      (λ f. by_cases (fits_version (layout_of version) (view s))
      (λ v. by_cases (rows_pass (layout_of version) (view s))
      (λ p. (h, f, v, p))
      (λ p. absurd (let x : ⊥ = omega (arith, write-blank-row h f v p) in x)))
      (λ v. absurd (let x : ⊥ = omega (arith, write-not-in-version h f v) in x)))
      (λ f. absurd (let x : ⊥ = omega (arith, write-not-fresh h f) in x)))
      (λ h. absurd (let x : ⊥ = omega (arith, write-unsound h) in x))

-- What is written, and what is answered.
module _ (version : ℕ) (s : State) (buffer : List ℕ) where
  pub wrote : write_refusal version s (length buffer) ≡ 0
      → write_sheet version s buffer
      ≡ record {
        answer = record { number = 0; length = length (sheet_bytes version s) };
        buffer = sheet_bytes version s ++ drop (length (sheet_bytes version s)) buffer;
      }
  unfolding write_sheet write_as
  wrote e = rw e (if-false _ _ _ (le-ltb 0 0 (omega arith)))

  pub wrote_nothing : (number : ℕ) → write_refusal version s (length buffer) ≡ number → 1 ≤ number
      → write_sheet version s buffer ≡ record { answer = record { number = number; length = 0 }; buffer = buffer }
  unfolding write_sheet write_as
  wrote_nothing number e h = rw e (if-true _ _ _ (lt-ltb 0 number h))

  -- The number answered is the one that refuses.
  not_refused : (write_sheet version s buffer).answer.number ≡ 0 → write_refusal version s (length buffer) ≡ 0
  not_refused e =
      by_cases (ltb 0 (write_refusal version s (length buffer)))
      (λ t. let p : 0 < write_refusal version s (length buffer) = ltb-true _ _ t in
      absurd (let x : ⊥ = omega (arith, ap (λ (w : Wrote). w.answer.number) (wrote_nothing _ refl p)) in x))
      (λ t. omega (arith, ltb-false 0 (write_refusal version s (length buffer)) t))

-- Byte 0 of what is written is the version.
sheet-version : (version : ℕ) (s : State) → Shaped s → sound_state s ≡ true → fits_version (layout_of version) (view s) ≡ true
    → rows_pass (layout_of version) (view s) ≡ true → (rest : List ℕ) → get_or (sheet_bytes version s ++ rest) 0 0 ≡ version
unfolding sheet_bytes print_in print
sheet-version version s h t v p rest = let (L, e, _) = fits-takes (view s) (state-sound s h t) version v p in rw e (sym (found-version version L e))

-- The bytes of what is written read back as the state.
read-sheet_bytes : (version : ℕ) (s : State) → Shaped s → (space : ℕ) → write_refusal version s space ≡ 0
    → read_sheet (sheet_bytes version s) ≡ record { number = 0; place = 0; state = s }
unfolding sheet_bytes held
read-sheet_bytes version s h space e =
    let (t, F, v, p) = written-fresh version s space e in
    let S = state-sound s h t in
    read-got (sheet_bytes version s) (sheet_of (view s)) _ (parse-of-written (view s) S version v p (held-n _ s.rows t))
    ∙ ap (λ (u : State). record { number = 0; place = 0; state = u }) (ap pack (network_of-sheet_of (view s) S F) ∙ pack-view s h)

pub read-of-write : ReadOfWrite
unfolding ReadOfWrite
read-of-write version s h buffer e =
    let z = not_refused version s buffer e in
    let bytes = sheet_bytes version s in
    let written : take (write_sheet version s buffer).answer.length (write_sheet version s buffer).buffer ≡ bytes =
    rw (wrote version s buffer z) (take-append_seam bytes (drop (length bytes) buffer)) in
    ap read_sheet written ∙ read-sheet_bytes version s h (length buffer) z

module _ (bytes : List ℕ) (octets : Octets bytes) (h : (read_sheet bytes).number ≡ 0) where
  -- The bytes of a state just read, in their own version, are those that it was read from.
  sheet_bytes-of-read : sheet_bytes (get_or bytes 0 0) (read_sheet bytes).state ≡ bytes
  unfolding sheet_bytes
  sheet_bytes-of-read =
      let (s, A) = accepted bytes octets h in
      ap (λ (N : Network). print_in (layout_of (get_or bytes 0 0)) (sheet_of N)) A.view_is ∙ written-of-parse bytes octets s _ A.got_sheet

  -- It is written in every version whose tests it passes, given the room.
  read-accepted : (version space : ℕ) → fits_version (layout_of version) (view (read_sheet bytes).state) ≡ true
      → rows_pass (layout_of version) (view (read_sheet bytes).state) ≡ true
      → length (sheet_bytes version (read_sheet bytes).state) ≤ space
      → write_refusal version (read_sheet bytes).state space ≡ 0
  read-accepted version space v p l =
      let r = read-sound bytes octets h in
      write-accepted version (read_sheet bytes).state space r.is_sound r.is_fresh v p l

pub write-of-read : WriteOfRead
unfolding WriteOfRead
write-of-read bytes octets h buffer l =
    let (s, A) = accepted bytes octets h in
    let v = get_or bytes 0 0 in
    let same = sheet_bytes-of-read bytes octets h in
    let fits : fits_version (layout_of v) (view (read_sheet bytes).state) ≡ true = rw A.view_is (read_fits bytes octets s _ A.got_sheet).0 in
    let rows : rows_pass (layout_of v) (view (read_sheet bytes).state) ≡ true = rw A.view_is (read_fits bytes octets s _ A.got_sheet).1 in
    let e = rw same at (wrote v (read_sheet bytes).state buffer (read-accepted bytes octets h v (length buffer) fits rows (rw same l))) in
    rw e
    (record {
      not_refused = refl;
      same_length = refl;
      same_bytes = take-append_seam bytes (drop (length bytes) buffer);
      rest_untouched = drop-append_seam bytes (drop (length bytes) buffer);
    })

pub read-in-version : ReadInVersion
unfolding ReadInVersion ReadOfWrite
read-in-version version bytes octets h fits rows buffer l =
    let t = (read_sheet bytes).state in
    let r = read-sound bytes octets h in
    let e = wrote version t buffer (read-accepted bytes octets h version (length buffer) fits rows l) in
    let n : (write_sheet version t buffer).answer.number ≡ 0 = ap (λ (w : Wrote). w.answer.number) e in
    record {
      not_refused = n;
      its_version =
          ap (λ (w : Wrote). get_or w.buffer 0 0) e
          ∙ sheet-version version t r.read_shaped r.is_sound fits rows (drop (length (sheet_bytes version t)) buffer);
      reads_back = read-of-write version t r.read_shaped buffer n;
    }

pub read-in-version2 : ReadInVersion2
unfolding ReadInVersion2 ReadInVersion filled_in version2
read-in-version2 bytes octets h buffer l =
    let (s, A) = accepted bytes octets h in
    let two = version2-found 2 refl in
    read-in-version 2 bytes octets h
    (rw (two, A.view_is) (read-fits-version2 bytes octets s _ A.got_sheet))
    (rw two (plain-pass (found version2) refl (view (read_sheet bytes).state)))
    buffer l

pub accepted-exactly : AcceptedExactly
unfolding AcceptedExactly
accepted-exactly bytes octets = (
  λ h. let (s, A) = accepted bytes octets h in
      let R = A.read in
      (R.layout, s, rw (← found-version _ R.layout R.layout_found) R.layout_found, R.body.well_formed, R.printed),
  λ (L, s, v, W, e). (accepted-parses bytes).1 (s, length bytes, rw e at (parse-of-print L v s W)),
)

-- What the walk over the bytes finds is what was read.
pub read-tables : ReadTables
unfolding ReadTables
read-tables bytes octets h =
    let (s, A) = accepted bytes octets h in
    let g = A.got_sheet in
    let F = wellformed-fits A.read.layout A.read.usable s A.read.body.well_formed in
    rw A.view_is
    (record {
      n_read = sym (options-are bytes octets s _ g);
      sizes_read = λ i l. sym (rw add-one at (option-sizes-are bytes octets s _ g i l));
      full_lists = fresh-domain (network_of s) A.sheet_sound (network_of-fresh s);
      no_leader = fresh-leader (network_of s) A.sheet_sound (network_of-fresh s);
      tables_stated = λ i j. network_of-stated s i j ∙ ap₂ or (sym (tables-are bytes octets s _ g i j)) (sym (tables-are bytes octets s _ g j i));
      rows_read = λ i j a b t l.
          let x : tabled s.tables i j ≡ true = sym (tables-are bytes octets s _ g i j) ∙ t in
          sym (and-holds _ _ (lt-ltb i j (F.pair_in i j x).0)) ∙ row-network_of s F i j a b ∙ ap (λ (r : ℕ). has r b) (sym (rows-are-read bytes octets s _ g i j a t l));
      both_sides = A.sheet_sound.allows_sym;
    })
