-- What the machine makes of the bins' text is what the text says.
use mathlib.Core.Bool.{Bool, true, false}
use mathlib.Core.List.{List, [], ◌∷◌, map}
use mathlib.Core.Path.{◌≡◌, refl, sym, ◌∙◌, ap}
use Prim.Native.Nat.{ℕ, suc, ◌+◌, ◌≤◌, ◌<◌}
use native.Mathlib.Numerals.{add-one}
use native.Mathlib.Omega.{arith}
use lib.Dec.{eqb, ltb}
use lib.ListN.{length, get_or, set, drop, length-drop}
use lib.Seq.{drop-cons}
use borrow.Author.Tests.{eqb-false, eq-eqb, ne_eqb, ltb-false, lt-ltb, le-ltb}
use Rattle.bounded.specs.Bool.{if, and}
use Rattle.bounded.specs.Fold.{sum}
use Rattle.bounded.proofs.Bool.{by_cases, if-true, if-false}
use Rattle.bins.specs.Bins.{Place, places}
use Rattle.bins_counts.specs.Counts.{spot}
use Rattle.bins_counts.proofs.Spots.{no_place, places-length}
use Rattle.scan.specs.declared.Scan.{Scan}
use Rattle.scan.specs.declared.Line.{Line}
use Rattle.scan.specs.Scan.{up, scan}
use Rattle.scan.specs.Line.{finish, line_of}
use Rattle.stream.specs.Lines.{lines_of}
use Rattle.stream.specs.Program.{seen_from, seen_of, state_after}
use Rattle.bins_text.specs.Text.{Sizes, Read, stopped, counted, is_at, read_lines, read_bins, ReadsAs}
use Rattle.bins_text.specs.Machine.{Reads, in_order, bins_count, start_reading, refused_at, passed, taken, read_on, read_case, judged_end, at_end}
use Rattle.bins_text.specs.Fed.{read, program}
use Rattle.bins_text.proofs.Lines.{lines-fault, lines-blank, lines-past, lines_at, lines-off}
use Rattle.bins_text.proofs.Order.{is-next, none-next}

-- One line after the other.
unfoldable pub read_all : (n : ℕ) → (sizes : List ℕ) → Reads → List Line → Reads
read_all n sizes q [] = q
read_all n sizes q (l ∷ ls) = read_all n sizes (read_case n sizes q l) ls

module _ (n : ℕ) (sizes : List ℕ) where
  seen-scan : (s : Scan) (bytes : List ℕ) → seen_from (program n sizes) s bytes ≡ scan s bytes
  unfolding seen_from scan program
  seen-scan s [] = refl
  seen-scan s (b ∷ bs) = seen-scan ((program n sizes).step s b) bs

  -- The program's lines are those of the scan.
  pub state-reads : (lines : List (List ℕ)) (q : Reads) → state_after (program n sizes) q lines ≡ read_all n sizes q (map (line_of true) lines)
  unfolding state_after read_all line_of seen_of program
  state-reads [] q = refl
  state-reads (l ∷ ls) q =
      state-reads ls (read_case n sizes q (finish (seen_of (program n sizes) l)))
      ∙ ap (λ (s : Scan). read_all n sizes (read_case n sizes q (finish s)) (map (line_of true) ls)) (seen-scan (program n sizes).opening l)

  -- What is refused stays so.
  stays : (q : Reads) (ls : List Line) → (q.reading.number ≡ 0 → ⊥) → read_all n sizes q ls ≡ q
  unfolding read_all read_case
  stays q [] h = refl
  stays q (l ∷ ls) h = rw (if-false (eqb q.reading.number 0) (read_on n sizes q l) q (ne_eqb _ 0 h)) (stays q ls h)

  going : (q : Reads) (l : Line) → q.reading.number ≡ 0 → read_case n sizes q l ≡ read_on n sizes q l
  unfolding read_case
  going q l h = if-true _ _ _ (eq-eqb _ 0 h)

  abbrev ps : List Place
  ps = places n (λ (i : ℕ). get_or sizes i 0)

  -- So many bins were read, up to a line.
  abbrev up_to : (k line : ℕ) → List ℕ → Reads
  up_to k line counts = read (record { number = 0; line = line; place = 0; count = k }) counts

  abbrev Agrees : Reads → Read → ℕ → List ℕ → Type 0
  Agrees q r k before = ReadsAs r k q.reading.number q.reading.line q.reading.place before q.counts

  -- A refusal.
  refuses : (number place k line : ℕ) (counts : List ℕ) (ls : List Line) → (number ≡ 0 → ⊥)
      → Agrees (at_end n sizes (read_all n sizes (record { reading = refused_at number place (up_to k line counts).reading; counts = counts }) ls)) (stopped number line place) k counts
  unfolding at_end judged_end refused_at
  refuses number place k line counts ls h =
      rw (stays (record { reading = refused_at number place (up_to k line counts).reading; counts = counts }) ls h, if-false (eqb number 0) (if (ltb k (bins_count n sizes)) (refused_at 27 0 (record { number = number; line = line; place = place; count = k })) (record { number = number; line = line; place = place; count = k })) (record { number = number; line = line; place = place; count = k }) (ne_eqb number 0 h))
      (record { number_is = refl; line_is = refl; place_is = refl; counts_are = refl })

  none_left : (k : ℕ) → [] ≡ drop k ps → length ps ≤ k
  none_left k e = omega (arith, length-drop k ps, ap length e)

  some_left : (k : ℕ) (p : Place) (rest : List Place) → (p ∷ rest) ≡ drop k ps → k < length ps
  some_left k p rest e = let h : suc (length rest) ≡ length (drop k ps) = ap length e in omega (arith, length-drop k ps, h)

  split-left : (k : ℕ) (p : Place) (rest : List Place) → (p ∷ rest) ≡ drop k ps → (p ∷ rest) ≡ (get_or ps k no_place ∷ drop (suc k) ps)
  split-left k p rest e = e ∙ drop-cons ps k no_place (some_left k p rest e)

  first-left : (k : ℕ) (p : Place) (rest : List Place) → (p ∷ rest) ≡ drop k ps → p ≡ get_or ps k no_place
  first-left k p rest e = let s = split-left k p rest e in cc

  rest-left : (k : ℕ) (p : Place) (rest : List Place) → (p ∷ rest) ≡ drop k ps → rest ≡ drop (k + 1) ps
  rest-left k p rest e = rw add-one (let s = split-left k p rest e in cc)

  module _ (fit : Sizes n sizes) where
    all-bins : bins_count n sizes ≡ length ps
    unfolding bins_count spot
    all-bins =
        by_cases (ltb n 16)
        (λ t. if-true _ _ _ t ∙ omega (arith, places-length (λ (i : ℕ). get_or sizes i 0) n))
        (λ t. let e : n ≡ 16 = omega (arith, ltb-false n 16 t, fit.n_most) in
        if-false _ _ _ t ∙ omega (arith, places-length (λ (i : ℕ). get_or sizes i 0) n, ap (λ (m : ℕ). sum m (λ (i : ℕ). get_or sizes i 0)) e))

    -- The end, with lines missing and without.
    missing : (k line : ℕ) (counts : List ℕ) → k < length ps → Agrees (at_end n sizes (up_to k line counts)) (stopped 27 line 0) k counts
    unfolding at_end judged_end refused_at if
    missing k line counts h =
        rw (lt-ltb k (bins_count n sizes) (omega (arith, all-bins))) (record { number_is = refl; line_is = refl; place_is = refl; counts_are = refl })

    complete : (k line : ℕ) (counts : List ℕ) → length ps ≤ k → Agrees (at_end n sizes (up_to k line counts)) (stopped 0 line 0) k counts
    unfolding at_end judged_end refused_at if
    complete k line counts h =
        rw (le-ltb k (bins_count n sizes) (omega (arith, all-bins))) (record { number_is = refl; line_is = refl; place_is = refl; counts_are = refl })

    -- A line that stands at its place.
    further : (c k line : ℕ) (q : Reads) (r : Read) (counts : List ℕ) → Agrees q r (k + 1) (set counts k c) → Agrees q (counted c r) k counts
    further c k line q r counts h =
        record { number_is = h.number_is; line_is = h.line_is; place_is = h.place_is; counts_are = rw add-one at h.counts_are }

    -- What a line does to so many bins read, by its cases.
    module _ (k line : ℕ) (counts : List ℕ) (l : Line) where
      abbrev off : (number place : ℕ) → Reads
      off number place = record { reading = refused_at number place (up_to k line counts).reading; counts = counts }

      abbrev next : Bool
      next = in_order n sizes k (get_or l.cells 0 0) (get_or l.cells 1 0)

      case-fault : eqb l.fault 0 ≡ false → read_case n sizes (up_to k line counts) l ≡ off l.fault l.place
      unfolding read_on
      case-fault f = going (up_to k line counts) l refl ∙ if-false _ _ _ f

      module _ (f : eqb l.fault 0 ≡ true) where
        case-blank : eqb l.count 0 ≡ true → read_case n sizes (up_to k line counts) l ≡ up_to k (up line) counts
        unfolding read_on passed
        case-blank b = going (up_to k line counts) l refl ∙ if-true _ _ _ f ∙ if-true _ _ _ b

        module _ (b : eqb l.count 0 ≡ false) where
          case-next : next ≡ true → read_case n sizes (up_to k line counts) l ≡ up_to (k + 1) (up line) (set counts k (get_or l.cells 2 0))
          unfolding read_on taken
          case-next t = going (up_to k line counts) l refl ∙ if-true _ _ _ f ∙ if-false _ _ _ b ∙ if-true _ _ _ t

          case-off : next ≡ false → read_case n sizes (up_to k line counts) l ≡ off 27 0
          unfolding read_on
          case-off t = going (up_to k line counts) l refl ∙ if-true _ _ _ f ∙ if-false _ _ _ b ∙ if-false _ _ _ t

    at_place : (k : ℕ) (p : Place) (rest : List Place) (l : Line) → (p ∷ rest) ≡ drop k ps → in_order n sizes k (get_or l.cells 0 0) (get_or l.cells 1 0) ≡ is_at p l
    unfolding is_at
    at_place k p rest l e =
        is-next n sizes fit k (get_or l.cells 0 0) (get_or l.cells 1 0) (some_left k p rest e)
        ∙ ap (λ (q : Place). and (eqb (get_or l.cells 0 0) q.0) (eqb (get_or l.cells 1 0) q.1)) (sym (first-left k p rest e))

    abbrev Says : (k line : ℕ) → List ℕ → List Place → List Line → Type 0
    Says k line counts left ls = Agrees (at_end n sizes (read_all n sizes (up_to k line counts) ls)) (read_lines left line ls) k counts

    off-says : (number place k line : ℕ) (counts : List ℕ) (left : List Place) (l : Line) (ls : List Line) → (number ≡ 0 → ⊥)
        → read_case n sizes (up_to k line counts) l ≡ off k line counts l number place → read_lines left line (l ∷ ls) ≡ stopped number line place
        → Says k line counts left (l ∷ ls)
    unfolding read_all
    off-says number place k line counts left l ls h c e = rw (c, e) (refuses number place k line counts ls h)

    blank-says : (k line : ℕ) (counts : List ℕ) (left : List Place) (l : Line) (ls : List Line) → eqb l.fault 0 ≡ true → eqb l.count 0 ≡ true
        → Says k (up line) counts left ls → Says k line counts left (l ∷ ls)
    unfolding read_all
    blank-says k line counts left l ls f b h = rw (case-blank k line counts l f b, lines-blank line l ls f left b) h

    next-says : (k line : ℕ) (counts : List ℕ) (p : Place) (left : List Place) (l : Line) (ls : List Line) → eqb l.fault 0 ≡ true → eqb l.count 0 ≡ false
        → in_order n sizes k (get_or l.cells 0 0) (get_or l.cells 1 0) ≡ true → is_at p l ≡ true
        → Says (k + 1) (up line) (set counts k (get_or l.cells 2 0)) left ls → Says k line counts (p ∷ left) (l ∷ ls)
    unfolding read_all
    next-says k line counts p left l ls f b t a h =
        rw (case-next k line counts l f b t, lines_at line l ls f b p left a)
        (further (get_or l.cells 2 0) k line
        (at_end n sizes (read_all n sizes (up_to (k + 1) (up line) (set counts k (get_or l.cells 2 0))) ls))
        (read_lines left (up line) ls) counts h)

    says : (ls : List Line) (k line : ℕ) (counts : List ℕ) (left : List Place) → left ≡ drop k ps → Says k line counts left ls
    unfolding read_all read_lines
    says [] k line counts [] e = complete k line counts (none_left k e)
    says [] k line counts (p ∷ left) e = missing k line counts (some_left k p left e)
    says (l ∷ ls) k line counts [] e =
        by_cases (eqb l.fault 0)
        (λ f. by_cases (eqb l.count 0)
        (λ b. blank-says k line counts [] l ls f b (says ls k (up line) counts [] e))
        (λ b. off-says 27 0 k line counts [] l ls (λ z. omega arith)
        (case-off k line counts l f b (none-next n sizes fit k (get_or l.cells 0 0) (get_or l.cells 1 0) (none_left k e)))
        (lines-past line l ls f b)))
        (λ f. off-says l.fault l.place k line counts [] l ls (eqb-false _ 0 f) (case-fault k line counts l f) (lines-fault line l ls [] f))
    says (l ∷ ls) k line counts (p ∷ left) e =
        by_cases (eqb l.fault 0)
        (λ f. by_cases (eqb l.count 0)
        (λ b. blank-says k line counts (p ∷ left) l ls f b (says ls k (up line) counts (p ∷ left) e))
        (λ b. by_cases (is_at p l)
        (λ a. next-says k line counts p left l ls f b (at_place k p left l e ∙ a) a
        (says ls (k + 1) (up line) (set counts k (get_or l.cells 2 0)) left (rest-left k p left e)))
        (λ a. off-says 27 0 k line counts (p ∷ left) l ls (λ z. omega arith)
        (case-off k line counts l f b (at_place k p left l e ∙ a))
        (lines-off line l ls f b p left a))))
        (λ f. off-says l.fault l.place k line counts (p ∷ left) l ls (eqb-false _ 0 f) (case-fault k line counts l f) (lines-fault line l ls (p ∷ left) f))

    -- THEOREM. What the code answers to the bytes of BINS, and the counts that it leaves, are what the text says for the places of these variables.
    pub text_says : (bytes counts : List ℕ)
        → Agrees (at_end n sizes (state_after (program n sizes) (start_reading counts) (lines_of bytes))) (read_bins ps bytes) 0 counts
    unfolding read_bins start_reading
    text_says bytes counts =
        rw (state-reads (lines_of bytes) (start_reading counts)) (says (map (line_of true) (lines_of bytes)) 0 1 counts ps refl)
