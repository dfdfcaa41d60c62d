-- What was seen of a line, byte by byte. Columns count from 1.
use Rattle.std.specs.Prelude.{Bool, List, [], ◌∷◌, ℕ, ◌+◌, ◌-◌, ◌*◌, eqb, ltb, set, replicate}
use Rattle.bounded.specs.Bool.{if}
use Rattle.scan.specs.declared.Scan.{Scan}
use Rattle.scan.specs.Bytes.{is_digit, is_letter, is_separator, is_blank, kind_of}

-- 3 for numbers alone, 0 for an entry whose letter is to come; then 1 for D and 2 for C.
unfoldable pub first_kind : Bool → ℕ
first_kind numbers = if numbers 3 0

-- Nothing yet: of a line of numbers alone, or of an entry, whose letter is to come.
unfoldable pub opening : Bool → Scan
opening numbers =
    record {
      cells = replicate 17 0;
      value = 0;
      count = 0;
      place = 0;
      column = 1;
      begin = 1;
      cr = 0;
      phase = 0;
      fault = 0;
      kind = first_kind numbers;
    }

-- "columns stay at 4294967295"
unfoldable pub up : ℕ → ℕ
up x = if (ltb x 4294967295) (x + 1) x

-- "the first of a line told": in phase 4 neither a byte nor the end of the line changes anything.
unfoldable pub faulted : (fault place : ℕ) → Scan → Scan
faulted fault place s =
    record {
      cells = s.cells;
      value = s.value;
      count = s.count;
      place = place;
      column = s.column;
      begin = s.begin;
      cr = s.cr;
      phase = 4;
      fault = fault;
      kind = s.kind;
    }

unfoldable pub phased : ℕ → Scan → Scan
phased phase s =
    record {
      cells = s.cells;
      value = s.value;
      count = s.count;
      place = s.place;
      column = s.column;
      begin = s.begin;
      cr = s.cr;
      phase = phase;
      fault = s.fault;
      kind = s.kind;
    }

-- In a number: so much of it, and where it began.
unfoldable pub going : (value place : ℕ) → Scan → Scan
going value place s =
    record {
      cells = s.cells;
      value = value;
      count = s.count;
      place = place;
      column = s.column;
      begin = s.begin;
      cr = s.cr;
      phase = 1;
      fault = s.fault;
      kind = s.kind;
    }

-- "102 a number above 4294967295", "where the number begins"
unfoldable pub digit_on : Scan → ℕ → Scan
digit_on s d =
    if (ltb 4294967295 (s.value * 10 + d)) (faulted 102 s.place s)
    (going (s.value * 10 + d) s.place s)

-- "A digit right behind the letters of a kind is 101 at that digit", "A line of LIST that begins with a number is 105", "103: an eighteenth number".
unfoldable pub first_digit : Scan → ℕ → Scan
first_digit s d =
    if (eqb s.phase 5) (faulted 101 s.column s)
    (if (eqb s.kind 0) (faulted 105 s.column s)
    (if (ltb s.count 17) (going d s.column s)
    (faulted 103 s.column s)))

unfoldable pub digit : Scan → ℕ → Scan
digit s d = if (eqb s.phase 1) (digit_on s d) (first_digit s d)

-- The number that goes on is kept behind those that ended.
unfoldable pub kept : Scan → Scan
kept s =
    record {
      cells = set s.cells s.count s.value;
      value = s.value;
      count = s.count + 1;
      place = s.place;
      column = s.column;
      begin = s.begin;
      cr = s.cr;
      phase = 3;
      fault = s.fault;
      kind = s.kind;
    }

unfoldable pub stored : Scan → Scan
stored s = if (ltb s.count 17) (kept s) (faulted 103 s.place s)

-- The field that goes on, if one does, ends.
unfoldable pub close : Scan → Scan
close s = if (eqb s.phase 1) (stored s) (if (eqb s.phase 5) (phased 3 s) s)

-- A separator stands after a field, with or without blanks. "two with nothing between are an empty field": 104 at "the second separator".
unfoldable pub separated : Scan → Scan
separated t = if (eqb t.phase 3) (phased 2 t) (if (eqb t.phase 4) t (faulted 104 t.column t))

unfoldable pub separator : Scan → Scan
separator s = separated (close s)

-- "the end of the line (before '#', CR or LF)"
unfoldable pub end_place : Scan → ℕ
end_place s = if (eqb s.cr 0) s.column s.cr

-- The fields end; not behind a separator.
unfoldable pub ended_after : Scan → Scan
ended_after t = if (eqb t.phase 2) (faulted 104 (end_place t) t) t

unfoldable pub ended : Scan → Scan
ended s = ended_after (close s)

-- "letters that are neither D nor C alone (`X`, `DD`, `delivery`) are 105", "where the first field begins".
unfoldable pub kinded : ℕ → Scan → Scan
kinded kind s =
    record {
      cells = s.cells;
      value = s.value;
      count = s.count;
      place = s.place;
      column = s.column;
      begin = s.begin;
      cr = s.cr;
      phase = 5;
      fault = s.fault;
      kind = kind;
    }

unfoldable pub lettered : Scan → ℕ → Scan
lettered s kind = if (eqb kind 0) (faulted 105 s.begin s) (kinded kind s)

unfoldable pub letter : Scan → ℕ → Scan
letter s byte =
    if (eqb s.phase 5) (faulted 105 s.begin s)
    (if (eqb s.kind 0) (lettered s (kind_of byte))
    (faulted 101 s.column s))

-- What a byte does where nothing is wrong yet and no comment has begun. "101 a character that does not belong there".
unfoldable pub taken : Scan → ℕ → Scan
taken s b =
    if (is_digit b) (digit s (b - 48))
    (if (is_separator b) (separator s)
    (if (is_blank b) (close s)
    (if (is_letter b) (letter s b)
    (if (eqb b 35) (phased 4 (ended s))
    (faulted 101 s.column s)))))

-- As long as there is no field, the first one may begin at the next byte.
unfoldable pub begin_after : (phase begin column : ℕ) → ℕ
begin_after phase begin column = if (eqb phase 0) column begin

unfoldable pub ticked : Scan → Scan
ticked s =
    record {
      cells = s.cells;
      value = s.value;
      count = s.count;
      place = s.place;
      column = up s.column;
      begin = begin_after s.phase s.begin (up s.column);
      cr = s.cr;
      phase = s.phase;
      fault = s.fault;
      kind = s.kind;
    }

-- "A CR counts only before LF or at the end of the input; elsewhere it is 101."
unfoldable pub returned : Scan → Scan
returned s =
    record {
      cells = s.cells;
      value = s.value;
      count = s.count;
      place = s.place;
      column = s.column;
      begin = s.begin;
      cr = s.column;
      phase = s.phase;
      fault = s.fault;
      kind = s.kind;
    }

-- A byte of a line. After a fault, and in a comment, nothing counts.
unfoldable pub step : Scan → ℕ → Scan
step s b =
    if (eqb s.phase 4) s
    (if (eqb s.cr 0) (if (eqb b 13) (returned s) (ticked (taken s b)))
    (faulted 101 s.cr s))

-- The bytes of a line, one after the other.
unfoldable pub scan : Scan → List ℕ → Scan
scan s [] = s
scan s (b ∷ bs) = scan (step s b) bs
