-- What ends a line: a carriage return before its line feed, a comment; and lines of blanks.
use mathlib.Core.Bool.{Bool, true, false}
use mathlib.Core.List.{List, [], ◌∷◌, ◌++◌}
use mathlib.Core.Path.{◌≡◌, refl, sym, ◌∙◌, ap}
use Prim.Native.Nat.{ℕ}
use native.Mathlib.Omega.{arith}
use lib.Dec.{eqb, ltb}
use lib.ListN.{replicate}
use borrow.Author.Tests.{eq-eqb, ne_eqb, eqb-true, eqb-false}
use Rattle.bounded.specs.Bool.{if, and, or, not}
use Rattle.bounded.proofs.Bool.{by_cases, if-true, if-false, and_l, and_r, or_elim}
use Rattle.scan.specs.declared.Scan.{Scan}
use Rattle.scan.specs.Bytes.{within, one_of, is_digit, is_letter, is_separator, is_blank}
use Rattle.scan.specs.Scan.{first_kind, opening, up, faulted, phased, kept, stored, close, end_place, ended_after, ended, taken, begin_after, ticked, returned, step, scan}
use Rattle.scan.specs.Line.{miscounted, line_kind, told, judged, finish, line_of, blank_line}
use Rattle.scan.specs.Strict.{all_blank}
use Rattle.scan.proofs.Laws.{scan-append, rest-idle, end-idle, step-taken}

-- ---- a carriage return at the end
step-return : (s : Scan) → (s.phase ≡ 4 → ⊥) → s.cr ≡ 0 → step s 13 ≡ returned s
unfolding step if
step-return s p r = if-false _ _ _ (ne_eqb _ 4 p) ∙ if-true _ _ _ (eq-eqb _ 0 r)

close-return : (s : Scan) → close (returned s) ≡ returned (close s)
unfolding close returned stored kept faulted phased if
close-return s =
    by_cases (eqb s.phase 1)
    (λ t. by_cases (ltb s.count 17) (λ u. simp (t, u)) (λ u. simp (t, u)))
    (λ t. by_cases (eqb s.phase 5) (λ u. simp (t, u)) (λ u. simp (t, u)))

close-cr : (s : Scan) → (close s).cr ≡ s.cr
unfolding close stored kept faulted phased if
close-cr s =
    by_cases (eqb s.phase 1)
    (λ t. by_cases (ltb s.count 17) (λ u. simp (t, u)) (λ u. simp (t, u)))
    (λ t. by_cases (eqb s.phase 5) (λ u. simp (t, u)) (λ u. simp (t, u)))

-- The line ends before it.
end-return : (s : Scan) → s.cr ≡ 0 → end_place (returned s) ≡ end_place s
unfolding end_place returned if
end-return s h = by_cases (eqb s.column 0) (λ t. rw (h, t)) (λ t. rw (h, t))

judged-return : (s : Scan) → judged (returned s) ≡ judged s
unfolding judged told returned
judged-return s = refl

fault-return : (f p : ℕ) (s : Scan) → faulted f p (returned s) ≡ returned (faulted f p s)
unfolding faulted returned
fault-return f p s = refl

same-phase : (s : Scan) → (returned s).phase ≡ s.phase
unfolding returned
same-phase s = refl

after-return : (t : Scan) → t.cr ≡ 0 → ended_after (returned t) ≡ returned (ended_after t)
unfolding ended_after
after-return t h =
    by_cases (eqb t.phase 2)
    (λ e. if-true (eqb (returned t).phase 2) _ _ (rw (same-phase t) e)
    ∙ rw (end-return t h) (fault-return 104 (end_place t) t)
    ∙ ap returned (sym (if-true _ _ _ e)))
    (λ e. if-false (eqb (returned t).phase 2) _ _ (rw (same-phase t) e) ∙ ap returned (sym (if-false _ _ _ e)))

end-with-return : (s : Scan) → s.cr ≡ 0 → finish (returned s) ≡ finish s
unfolding finish ended
end-with-return s h =
    rw (close-return s, after-return (close s) (close-cr s ∙ h)) (judged-return (ended_after (close s)))

stays : (s : Scan) (b : ℕ) → eqb s.phase 4 ≡ true → step s b ≡ s
unfolding step
stays s b t = if-true _ _ _ t

return-at-end : (s : Scan) → s.cr ≡ 0 → finish (step s 13) ≡ finish s
return-at-end s h =
    by_cases (eqb s.phase 4)
    (λ t. ap finish (stays s 13 t))
    (λ t. ap finish (step-return s (eqb-false _ 4 t) h) ∙ end-with-return s h)

-- THEOREM. "CR LF taken": a carriage return at the end of a line changes nothing, unless one stands before it.
pub return-taken : (numbers : Bool) (line : List ℕ) → (scan (opening numbers) line).cr ≡ 0 → line_of numbers (line ++ (13 ∷ [])) ≡ line_of numbers line
unfolding line_of scan
return-taken numbers line h = rw (scan-append (opening numbers) line (13 ∷ [])) (return-at-end (scan (opening numbers) line) h)

-- ---- a comment
taken-comment : (s : Scan) → taken s 35 ≡ phased 4 (ended s)
unfolding taken is_digit is_separator is_blank is_letter within one_of and or if
taken-comment s = refl

judged-comment : (s : Scan) → judged (ticked (phased 4 s)) ≡ judged s
unfolding judged told ticked phased begin_after if
judged-comment s = refl

behind-comment : (s : Scan) → (ticked (phased 4 s)).phase ≡ 4
unfolding ticked phased
behind-comment s = refl

comment-at : (s : Scan) (rest : List ℕ) → s.cr ≡ 0 → finish (scan s (35 ∷ rest)) ≡ finish s
unfolding scan finish
comment-at s rest h =
    by_cases (eqb s.phase 4)
    (λ t. ap finish (rest-idle s (35 ∷ rest) (eqb-true _ 4 t)))
    (λ t. let c = ticked (phased 4 (ended s)) in
    let e : step s 35 ≡ c = step-taken s 35 (eqb-false _ 4 t) h (λ x. omega arith) ∙ ap ticked (taken-comment s) in
    rw (e, rest-idle c rest (behind-comment (ended s)), end-idle c (behind-comment (ended s))) (judged-comment (ended s)))

-- THEOREM. "what follows `#` do[es] not count".
pub comment-dropped : (numbers : Bool) (line rest : List ℕ) → (scan (opening numbers) line).cr ≡ 0
    → line_of numbers (line ++ (35 ∷ rest)) ≡ line_of numbers line
unfolding line_of
comment-dropped numbers line rest h =
    rw (scan-append (opening numbers) line (35 ∷ rest)) (comment-at (scan (opening numbers) line) rest h)

-- ---- blanks
-- Only blanks were seen, up to a column.
unfoldable pub blank_seen : Bool → ℕ → Scan
blank_seen numbers column =
    record {
      cells = replicate 17 0;
      value = 0;
      count = 0;
      place = 0;
      column = column;
      begin = column;
      cr = 0;
      phase = 0;
      fault = 0;
      kind = first_kind numbers;
    }

blank-32 : (numbers : Bool) (column : ℕ) → step (blank_seen numbers column) 32 ≡ blank_seen numbers (up column)
unfolding blank_seen step taken close ticked begin_after is_digit is_separator is_blank within one_of and or if
blank-32 numbers column = refl

blank-9 : (numbers : Bool) (column : ℕ) → step (blank_seen numbers column) 9 ≡ blank_seen numbers (up column)
unfolding blank_seen step taken close ticked begin_after is_digit is_separator is_blank within one_of and or if
blank-9 numbers column = refl

blank-one : (numbers : Bool) (column b : ℕ) → is_blank b ≡ true → step (blank_seen numbers column) b ≡ blank_seen numbers (up column)
unfolding is_blank one_of
blank-one numbers column b h =
    or_elim _ _ h (λ e. rw (eqb-true b 32 e) (blank-32 numbers column)) (λ e. rw (eqb-true b 9 e) (blank-9 numbers column))

unfoldable column_after : ℕ → List ℕ → ℕ
column_after column [] = column
column_after column (b ∷ bs) = column_after (up column) bs

blank-all : (numbers : Bool) (column : ℕ) (line : List ℕ) → all_blank line ≡ true
    → scan (blank_seen numbers column) line ≡ blank_seen numbers (column_after column line)
unfolding scan all_blank column_after
blank-all numbers column [] h = refl
blank-all numbers column (b ∷ bs) h =
    rw (blank-one numbers column b (and_l _ _ h)) (blank-all numbers (up column) bs (and_r _ _ h))

blank-end : (numbers : Bool) (column : ℕ) → finish (blank_seen numbers column) ≡ blank_line
unfolding blank_seen first_kind finish ended ended_after close judged told miscounted line_kind blank_line if not or
blank-end true column = refl
blank-end false column = refl

blank-opening : (numbers : Bool) → opening numbers ≡ blank_seen numbers 1
unfolding opening blank_seen
blank-opening numbers = refl

-- THEOREM. "blank lines and what follows `#` do not count".
pub blank-line : (numbers : Bool) (line : List ℕ) → all_blank line ≡ true → line_of numbers line ≡ blank_line
unfolding line_of
blank-line numbers line h = rw (blank-opening numbers, blank-all numbers 1 line h) (blank-end numbers (column_after 1 line))

no_return : (numbers : Bool) (line : List ℕ) → all_blank line ≡ true → (scan (opening numbers) line).cr ≡ 0
unfolding blank_seen
no_return numbers line h = rw (blank-opening numbers, blank-all numbers 1 line h)

pub comment-line : (numbers : Bool) (line rest : List ℕ) → all_blank line ≡ true → line_of numbers (line ++ (35 ∷ rest)) ≡ blank_line
comment-line numbers line rest h = comment-dropped numbers line rest (no_return numbers line h) ∙ blank-line numbers line h
