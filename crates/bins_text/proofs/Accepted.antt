-- The text is accepted exactly where its records stand at the places.
use mathlib.Core.Bool.{true, false}
use mathlib.Core.List.{List, [], ◌∷◌, map}
use mathlib.Core.Path.{◌≡◌, refl, sym, ◌∙◌, ap}
use Prim.Native.Nat.{ℕ, suc, ◌+◌, ◌≤◌, ◌<◌}
use native.Mathlib.Omega.{arith}
use lib.Dec.{eqb}
use lib.ListN.{length, get_or, drop, length-map, get_or-append}
use lib.Seq.{sets, sets-eq}
use borrow.Author.Tests.{eqb-false}
use Rattle.bounded.specs.Bool.{and}
use Rattle.bounded.proofs.Bool.{by_cases, clash, and_l, and_r, and_i, and-holds, if-true, if-false}
use Rattle.bins.specs.declared.Bin.{Bin}
use Rattle.bins.specs.Bins.{Place, place, places, stand_at}
use Rattle.bins.proofs.Places.{stand-e}
use Rattle.bins_counts.specs.Counts.{bin_of_place, bins_at, bins_by}
use Rattle.scan.specs.declared.Line.{Line}
use Rattle.scan.specs.Scan.{up}
use Rattle.scan.specs.Line.{line_of}
use Rattle.stream.specs.Lines.{lines_of}
use Rattle.bins_text.specs.Text.{Read, stopped, is_at, read_lines, read_bins, bin_of, bins_on, all_right, Accepted}
use Rattle.bins_text.proofs.Lines.{lines-fault, lines-blank, lines-past, lines_at, lines-off}

-- The records and faults by the next line.
on-blank : (l : Line) (ls : List Line) → eqb l.count 0 ≡ true → bins_on (l ∷ ls) ≡ bins_on ls
unfolding bins_on
on-blank l ls b = if-true _ _ _ b

on-bin : (l : Line) (ls : List Line) → eqb l.count 0 ≡ false → bins_on (l ∷ ls) ≡ bin_of l ∷ bins_on ls
unfolding bins_on
on-bin l ls b = if-false _ _ _ b

right-more : (l : Line) (ls : List Line) → eqb l.fault 0 ≡ true → all_right (l ∷ ls) ≡ all_right ls
unfolding all_right
right-more l ls f = and-holds _ _ f

right-here : (l : Line) (ls : List Line) → all_right (l ∷ ls) ≡ true → eqb l.fault 0 ≡ true
unfolding all_right
right-here l ls h = and_l _ _ h

stand-more : (p : Place) (ps : List Place) (l : Line) (bs : List Bin) → stand_at (bin_of l ∷ bs) (p ∷ ps) ≡ and (is_at p l) (stand_at bs ps)
unfolding is_at bin_of
stand-more p ps l bs = refl

-- What was refused was not accepted.
refused : {A : Type 0} (number line place : ℕ) (r : Read) → r ≡ stopped number line place → (number ≡ 0 → ⊥) → r.number ≡ 0 → A
refused number line place r e h z = absurd (h (sym (ap (λ (x : Read). x.number) e) ∙ z))

passes : (line : ℕ) (l : Line) (ls : List Line) (ps : List Place) → eqb l.fault 0 ≡ true → eqb l.count 0 ≡ true
    → Accepted ps ls (read_lines ps (up line) ls).counts → Accepted ps (l ∷ ls) (read_lines ps line (l ∷ ls)).counts
passes line l ls ps f b h =
    record {
      no_fault = right-more l ls f ∙ h.no_fault;
      in_place = rw (on-blank l ls b) h.in_place;
      theirs = rw (on-blank l ls b, lines-blank line l ls f ps b) h.theirs;
    }

takes : (line : ℕ) (l : Line) (ls : List Line) (p : Place) (ps : List Place) → eqb l.fault 0 ≡ true → eqb l.count 0 ≡ false → is_at p l ≡ true
    → Accepted ps ls (read_lines ps (up line) ls).counts → Accepted (p ∷ ps) (l ∷ ls) (read_lines (p ∷ ps) line (l ∷ ls)).counts
unfolding bin_of
takes line l ls p ps f b a h =
    record {
      no_fault = right-more l ls f ∙ h.no_fault;
      in_place = rw (on-bin l ls b) (stand-more p ps l (bins_on ls) ∙ and_i _ _ a h.in_place);
      theirs = rw (on-bin l ls b, lines_at line l ls f b p ps a) (ap (λ (cs : List ℕ). get_or l.cells 2 0 ∷ cs) h.theirs);
    }

accepted-lines : (ls : List Line) (line : ℕ) (ps : List Place) → (read_lines ps line ls).number ≡ 0 → Accepted ps ls (read_lines ps line ls).counts
unfolding read_lines bins_on all_right
accepted-lines [] line [] z = record { no_fault = refl; in_place = refl; theirs = refl }
accepted-lines [] line (p ∷ ps) z = absurd (let no : ⊥ = omega (arith, z) in no)
accepted-lines (l ∷ ls) line [] z =
    by_cases (eqb l.fault 0)
    (λ f. by_cases (eqb l.count 0)
    (λ b. passes line l ls [] f b (accepted-lines ls (up line) [] (ap (λ (x : Read). x.number) (sym (lines-blank line l ls f [] b)) ∙ z)))
    (λ b. refused 27 line 0 _ (lines-past line l ls f b) (λ e. omega arith) z))
    (λ f. refused l.fault line l.place _ (lines-fault line l ls [] f) (eqb-false _ 0 f) z)
accepted-lines (l ∷ ls) line (p ∷ ps) z =
    by_cases (eqb l.fault 0)
    (λ f. by_cases (eqb l.count 0)
    (λ b. passes line l ls (p ∷ ps) f b (accepted-lines ls (up line) (p ∷ ps) (ap (λ (x : Read). x.number) (sym (lines-blank line l ls f (p ∷ ps) b)) ∙ z)))
    (λ b. by_cases (is_at p l)
    (λ a. takes line l ls p ps f b a (accepted-lines ls (up line) ps (ap (λ (x : Read). x.number) (sym (lines_at line l ls f b p ps a)) ∙ z)))
    (λ a. refused 27 line 0 _ (lines-off line l ls f b p ps a) (λ e. omega arith) z)))
    (λ f. refused l.fault line l.place _ (lines-fault line l ls (p ∷ ps) f) (eqb-false _ 0 f) z)

-- And what stands at the places is accepted.
stands-lines : (ls : List Line) (line : ℕ) (ps : List Place) → all_right ls ≡ true → stand_at (bins_on ls) ps ≡ true → (read_lines ps line ls).number ≡ 0
unfolding read_lines bins_on
stands-lines [] line [] r s = refl
stands-lines [] line (p ∷ ps) r s = clash {b = false} s refl
stands-lines (l ∷ ls) line [] r s =
    let f = right-here l ls r in
    let r' : all_right ls ≡ true = sym (right-more l ls f) ∙ r in
    by_cases (eqb l.count 0)
    (λ b. ap (λ (x : Read). x.number) (lines-blank line l ls f [] b) ∙ stands-lines ls (up line) [] r' (rw (on-blank l ls b) at s))
    (λ b. clash {b = false} (rw (on-bin l ls b) at s) refl)
stands-lines (l ∷ ls) line (p ∷ ps) r s =
    let f = right-here l ls r in
    let r' : all_right ls ≡ true = sym (right-more l ls f) ∙ r in
    by_cases (eqb l.count 0)
    (λ b. ap (λ (x : Read). x.number) (lines-blank line l ls f (p ∷ ps) b) ∙ stands-lines ls (up line) (p ∷ ps) r' (rw (on-blank l ls b) at s))
    (λ b. let t : and (is_at p l) (stand_at (bins_on ls) ps) ≡ true = sym (stand-more p ps l (bins_on ls)) ∙ (rw (on-bin l ls b) at s) in
    ap (λ (x : Read). x.number) (lines_at line l ls f b p ps (and_l _ _ t)) ∙ stands-lines ls (up line) ps r' (and_r _ _ t))

-- THEOREM. The bytes of BINS are accepted exactly where no line has a fault and the records are those of the places, in order.
pub accepted : (ps : List Place) (bytes : List ℕ) → (read_bins ps bytes).number ≡ 0
    → Accepted ps (map (line_of true) (lines_of bytes)) (read_bins ps bytes).counts
unfolding read_bins
accepted ps bytes z = accepted-lines (map (line_of true) (lines_of bytes)) 1 ps z

pub stands-accepted : (ps : List Place) (bytes : List ℕ) → all_right (map (line_of true) (lines_of bytes)) ≡ true
    → stand_at (bins_on (map (line_of true) (lines_of bytes))) ps ≡ true → (read_bins ps bytes).number ≡ 0
unfolding read_bins
stands-accepted ps bytes r s = stands-lines (map (line_of true) (lines_of bytes)) 1 ps r s

-- ---- the counts in an array are those of the records
rebuilt : (bs : List Bin) (f : ℕ → ℕ) → ((k : ℕ) → k < length bs → f k ≡ get_or (map (λ (b : Bin). b.count) bs) k 0) → bins_at (map place bs) f ≡ bs
unfolding bins_at
rebuilt [] f h = refl
rebuilt (b ∷ bs) f h =
    (λ i. bin_of_place (place b) (h 0 (omega arith) i) ∷ bins_at (map place bs) (λ (k : ℕ). f (suc k)))
    ∙ ap (λ (r : List Bin). b ∷ r) (rebuilt bs (λ (k : ℕ). f (suc k)) (λ k l. h (suc k) (omega (arith, l))))

-- THEOREM. Where the text is accepted, the bins with the counts that are read are its records.
pub opening-bins : (n : ℕ) (sizes bytes counts : List ℕ) → (read_bins (places n (λ (i : ℕ). get_or sizes i 0)) bytes).number ≡ 0
    → length (bins_on (map (line_of true) (lines_of bytes))) ≤ length counts
    → bins_by n sizes (sets counts 0 (read_bins (places n (λ (i : ℕ). get_or sizes i 0)) bytes).counts) ≡ bins_on (map (line_of true) (lines_of bytes))
unfolding bins_by
opening-bins n sizes bytes counts z m =
    let ps = places n (λ (i : ℕ). get_or sizes i 0) in
    let bs = bins_on (map (line_of true) (lines_of bytes)) in
    let cs = map (λ (b : Bin). b.count) bs in
    let a = accepted ps bytes z in
    let e : 0 + length cs ≤ length counts = omega (arith, length-map bs (λ (b : Bin). b.count), m) in
    rw (a.theirs, ← stand-e bs ps a.in_place)
    (rebuilt bs (λ (k : ℕ). get_or (sets counts 0 cs) k 0)
    (λ k l. ap (λ (xs : List ℕ). get_or xs k 0) (sets-eq cs counts 0 e) ∙ get_or-append cs (drop (0 + length cs) counts) 0 k (omega (arith, length-map bs (λ (b : Bin). b.count), l))))
