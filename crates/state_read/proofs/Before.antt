-- "A version 1 sheet gives the state it gave before, number for number": a word of more bits whose members are all below 16 is the same number.
use mathlib.Core.Bool.{Bool, true, false}
use mathlib.Core.List.{List}
use mathlib.Core.Path.{◌≡◌, sym, ◌∙◌, ap}
use Prim.Native.Nat.{ℕ, ◌≤◌, ◌<◌}
use native.Mathlib.Omega.{arith}
use lib.Dec.{eqb, ltb}
use lib.ListN.{length, get_or}
use borrow.Author.Tests.{eqb-true, ltb-true, ltb-false}
use Rattle.bounded.proofs.Bool.{by_cases, not-true→false, if-true, if-false}
use Rattle.bounded.proofs.Table.{get_d_tabulate}
use Rattle.words.specs.Word.{width, word}
use Rattle.words.proofs.Laws.{word-widen, word_lt, has_word, empty}
use Rattle.cause.specs.declared.Cause.{Cause}
use Rattle.cause.specs.declared.Cause.TheVariants.{Length, Version}
use Rattle.network.specs.Network.{Network}
use Rattle.network.specs.Sound.{Sound}
use Rattle.network.specs.Sheet.{Sheet, network_of}
use Rattle.pairs.specs.Pairs.{variables, allows_of}
use Rattle.head.specs.Held.{held, head_of}
use Rattle.format.specs.Layout.{version1, largest_in, found, layout_among}
use Rattle.format.specs.Parse.{Octets, Parse, got, bad, wrong_under, parse_in, parse_under, parse}
use Rattle.format.proofs.Layouts.{version1-found}
use Rattle.format.proofs.Lengths.{size_most}
use Rattle.format.proofs.Versions.{as-before-version2, as-before-version3, long-before, too-long-for-version}
use Rattle.state.specs.declared.state.State.{State}
use Rattle.state.specs.View.{view, pack}
use Rattle.state.specs.Answers.{ReadTold}
use Rattle.state.specs.Read.{read_as, read_sheet}
use Rattle.state_read.specs.Before.{parse_before, InWordsOf, Version1AsBefore, OthersAsBefore}
use Rattle.state_read.proofs.RoundTrip.{accepted, got-accepted, read-got}

-- A word whose members are all below w is the same number in w bits.
narrow : (w : ℕ) (p : ℕ → Bool) → w ≤ width → ((v : ℕ) → p v ≡ true → v < w) → word width p ≡ word w p
narrow w p l h = word-widen w width p l (λ v m _. not-true→false (p v) (λ t. let x : ⊥ = omega (arith, h v t) in x))

-- The numbers of the state of a sound network whose sizes, like the number of its variables, are at most w.
module _ (w : ℕ) (few : variables ≤ w) (narrower : w ≤ width) (N : Network) (S : Sound N) (n : N.n ≤ variables) (small : (i : ℕ) → N.size i ≤ w)
    (s : State) (packed : s ≡ pack N) (holds : view s ≡ N) where
  row_is : (i j a : ℕ) → word width (allows_of width s.rows i j a) ≡ word width (N.allows i j a)
  unfolding held
  row_is i j a = ap (λ (M : Network). word width (M.allows i j a)) holds

  in_words : InWordsOf w N s
  unfolding held pack head_of
  in_words =
      record {
        n_is = ap (λ (M : Network). M.n) holds;
        sizes_are = λ i l. ap (λ (M : Network). M.size i) holds;
        lists_are = λ i l. rw packed
            (get_d_tabulate variables _ i 0 l ∙ narrow w (N.domain i) narrower (λ a t. omega (arith, S.domain_in i a t, small i)));
        leaders_are = λ i l. ap (λ (M : Network). M.leader i) holds;
        stated_are = λ i l. rw packed
            (get_d_tabulate variables _ i 0 l ∙ narrow w (N.stated i) narrower (λ j t. omega (arith, S.stated_in i j t)));
        rows_are = λ i j a. row_is i j a ∙ narrow w (N.allows i j a) narrower (λ b t. omega (arith, S.allows_in i j a b t, small j));
        no_row_above = λ i j a l.
            row_is i j a
            ∙ empty width _ (word_lt width _)
            (λ b m. has_word width _ b m
            ∙ not-true→false _ (λ t. let x : ⊥ = omega (arith, S.allows_in i j a b t, small i) in x));
      }

-- No sheet is both accepted and refused.
not-bad : {A : Type 0} {p : Parse Sheet} {s : Sheet} {next : ℕ} {c : Cause} {at : ℕ} → p ≡ got s next → p ≡ bad c at → A
not-bad e b = absurd (let z : ◌≡◌ {A = ℕ} 0 1 = cc in let x : ⊥ = omega arith in x)

module _ (bytes : List ℕ) where
  -- Before, no bytes but those of version 1 were accepted, and none longer than the limit.
  other-version : eqb (get_or bytes 0 0) 1 ≡ false → (c : Cause) × (parse_before bytes ≡ bad c 0)
  unfolding parse_before parse_under layout_among version1 parse_in
  other-version t =
      by_cases (wrong_under 4101 bytes)
      (λ h. (Length, if-true _ _ _ h))
      (λ h. (Version, if-false _ _ _ h ∙ ap (λ k. parse_in k bytes) (if-false _ _ _ t)))

  module _ (s : Sheet) (next : ℕ) (e : parse_before bytes ≡ got s next) where
    was-version1 : get_or bytes 0 0 ≡ 1
    was-version1 = by_cases (eqb (get_or bytes 0 0) 1) (eqb-true _ _) (λ t. not-bad e (other-version t).1)

    was-short : length bytes ≤ 4101
    unfolding parse_before
    was-short = by_cases (ltb 4101 (length bytes)) (λ t. not-bad e (long-before bytes (ltb-true _ _ t))) (ltb-false _ _)

    got-now : parse bytes ≡ got s next
    unfolding parse_before
    got-now =
        as-before-version2 bytes was-short (λ t. let x : ⊥ = omega (arith, was-version1) in x) (λ t. let x : ⊥ = omega (arith, was-version1) in x) ∙ e

  module _ (octets : Octets bytes) where
    still : (s : Sheet) (next : ℕ) → parse_before bytes ≡ got s next
        → ((read_sheet bytes).number ≡ 0) × InWordsOf 16 (network_of s) (read_sheet bytes).state
    unfolding version1 network_of
    still s next e =
        let g = got-now s next e in
        let A = got-accepted bytes octets s next g in
        let R = A.read in
        let same : found R.layout ≡ found version1 = sym R.layout_found ∙ version1-found _ (was-version1 s next e) in
        let L : R.layout ≡ version1 = cc in (
          ap (λ (r : ReadTold). r.number) (read-got bytes s next g),
          in_words 16 (omega arith) (omega arith) (network_of s) A.sheet_sound A.at_most
              (λ i. rw L at (size_most R.layout s R.body.well_formed i)) (read_sheet bytes).state A.state_is A.view_is,
        )

    none_more : (read_sheet bytes).number ≡ 0 → get_or bytes 0 0 ≡ 1 → (s : Sheet) × (parse_before bytes ≡ got s (length bytes))
    unfolding parse_before version1 largest_in
    none_more h v =
        let (s, A) = accepted bytes octets h in
        let short : length bytes ≤ 4101 = by_cases (ltb 4101 (length bytes))
        (λ t. absurd (too-long-for-version bytes octets version1 (version1-found _ v) (ltb-true _ _ t) s _ A.got_sheet))
        (ltb-false _ _) in
        (s, sym (as-before-version2 bytes short (λ t. let x : ⊥ = omega arith in x) (λ t. let x : ⊥ = omega arith in x)) ∙ A.got_sheet)

pub version1-as-before : Version1AsBefore
unfolding Version1AsBefore read_sheet parse_before
version1-as-before bytes octets =
    record {
      accepted_still = still bytes octets;
      no_more = none_more bytes octets;
      answered = λ h two three. ap read_as (as-before-version2 bytes h two three);
    }

pub others-as-before : OthersAsBefore
unfolding OthersAsBefore read_sheet
others-as-before bytes three = ap read_as (as-before-version3 bytes three)
