-- A line's bytes, and what they say.
use Rattle.std.specs.Prelude.{Bool, false, List, ℕ, eqb, replicate}
use Rattle.bounded.specs.Bool.{if, or, not}
use Rattle.scan.specs.declared.Scan.{Scan}
use Rattle.scan.specs.declared.Line.{Line}
use Rattle.scan.specs.Scan.{opening, ended, scan}

-- "106 a wrong number of fields of D, or C without a count"; a line of numbers alone has three, or none: "another count of numbers 106".
unfoldable pub miscounted : (kind count : ℕ) → Bool
miscounted kind count =
    if (eqb kind 1) (not (eqb count 3))
    (if (eqb kind 2) (eqb count 0)
    (if (eqb kind 3) (not (or (eqb count 0) (eqb count 3)))
    false))

unfoldable pub line_kind : ℕ → ℕ
line_kind kind = if (eqb kind 3) 0 kind

unfoldable pub told : (fault place : ℕ) → Scan → Line
told fault place t = record { fault = fault; place = place; kind = line_kind t.kind; count = t.count; cells = t.cells }

-- "105 and 106 where the first field begins"
unfoldable pub judged : Scan → Line
judged t =
    if (eqb t.fault 0) (if (miscounted t.kind t.count) (told 106 t.begin t) (told 0 0 t))
    (told t.fault t.place t)

-- The end of a line.
unfoldable pub finish : Scan → Line
finish s = judged (ended s)

-- THE MEANING of a line's bytes, without its line feed: of a line of BINS (`numbers`), or of LIST.
unfoldable pub line_of : (numbers : Bool) → List ℕ → Line
line_of numbers bytes = finish (scan (opening numbers) bytes)

-- "kind 0, count 0, fault 0 is a blank line (no entry)"
unfoldable pub blank_line : Line
blank_line = record { fault = 0; place = 0; kind = 0; count = 0; cells = replicate 17 0 }
