-- `sheetplan [--page9] [--lead N] [FILE]`: what the words of the arguments ask for, "whatever the order of the arguments".
use Rattle.std.specs.Prelude.{Bool, true, false, None, Some, List, [], ◌∷◌, ℕ, zero, suc, ◌+◌, ◌-◌, ◌*◌, min, eqb, ltb, leb, length, get_or}
use Rattle.std.specs.Option.{is_some}
use Rattle.bounded.specs.Bool.{and, if}
use Rattle.bounded.specs.Fold.{every}
use Rattle.text_lines.specs.Text.{ascii}
use Rattle.plan_asked.specs.declared.Phase.{Phase}
use Rattle.plan_asked.specs.declared.Phase.TheVariants as phase
use Rattle.plan_asked.specs.declared.Asked.{Asked}

-- Two words are the same.
unfoldable pub same : List ℕ → List ℕ → Bool
same [] [] = true
same [] (y ∷ b) = false
same (x ∷ a) [] = false
same (x ∷ a) (y ∷ b) = and (eqb x y) (same a b)

-- "--lead without a decimal number": a number is one digit or more.
unfoldable pub is_digit : ℕ → Bool
is_digit byte = and (leb 48 byte) (leb byte 57)

unfoldable pub is_number : List ℕ → Bool
is_number word = and (ltb 0 (length word)) (every (length word) (λ (k : ℕ). is_digit (get_or word k 0)))

-- The number of the first k digits. No sheet has a millionth option: a larger number stays at 1,000,000, and is refused with 10 all the same ("a number too
-- large for 64 bits too").
unfoldable pub grown : ℕ → ℕ → ℕ
grown value byte = min (value * 10 + (byte - 48)) 1000000

unfoldable pub number_of : List ℕ → ℕ → ℕ
number_of word zero = 0
number_of word (suc k) = grown (number_of word k) (get_or word k 0)

-- Nothing is asked for.
unfoldable pub nothing : Asked
nothing = record { phase = phase.Words; page9 = false; lead = None; file = None }

-- "an argument that is not known, more than one FILE", or a second leader: what comes after it does not count.
unfoldable pub faulty : Asked → Asked
faulty a = record { phase = phase.Fault; page9 = a.page9; lead = a.lead; file = a.file }

-- "--help prints the help on standard output and nothing else".
unfoldable pub helped : Asked → Asked
helped a = record { phase = phase.Help; page9 = a.page9; lead = a.lead; file = a.file }

unfoldable pub with_page : Asked → Asked
with_page a = record { phase = phase.Words; page9 = true; lead = a.lead; file = a.file }

-- `--lead`: its number comes next, and 0 stands for it until then.
unfoldable pub with_lead : Asked → Asked
with_lead a = if (is_some a.lead) (faulty a) (record { phase = phase.Leader; page9 = a.page9; lead = Some 0; file = a.file })

unfoldable pub with_number : Asked → List ℕ → Asked
with_number a word =
    if (is_number word)
    (record { phase = phase.Words; page9 = a.page9; lead = Some (number_of word (length word)); file = a.file })
    (faulty a)

-- FILE is told by the number of its word, from 1 on: without one the sheet is on standard input.
unfoldable pub with_file : Asked → ℕ → Asked
with_file a k = if (is_some a.file) (faulty a) (record { phase = phase.Words; page9 = a.page9; lead = a.lead; file = Some k })

-- A word where none is awaited: one that begins with a dash (45) and is not known is no FILE.
unfoldable pub with_word : Asked → ℕ → List ℕ → Asked
with_word a k word =
    if (same word (ascii "--page9")) (with_page a)
    (if (same word (ascii "--lead")) (with_lead a)
    (if (same word (ascii "--help")) (helped a)
    (if (eqb (get_or word 0 0) 45) (faulty a) (with_file a k))))

-- One word more, the k-th.
unfoldable pub takes_at : Phase → Asked → ℕ → List ℕ → Asked
takes_at phase.Words a k word = with_word a k word
takes_at phase.Leader a k word = with_number a word
takes_at phase.Help a k word = a
takes_at phase.Fault a k word = a

unfoldable pub takes : Asked → ℕ → List ℕ → Asked
takes a k word = takes_at a.phase a k word

-- After the last word: a number that is still awaited is a fault.
unfoldable pub ends_at : Phase → Asked → Asked
ends_at phase.Words a = a
ends_at phase.Leader a = faulty a
ends_at phase.Help a = a
ends_at phase.Fault a = a

-- All the words, the first of them the k-th.
unfoldable pub asked_from : Asked → ℕ → List (List ℕ) → Asked
asked_from a k [] = ends_at a.phase a
asked_from a k (word ∷ words) = asked_from (takes a k word) (suc k) words

unfoldable pub asked : List (List ℕ) → Asked
asked words = asked_from nothing 1 words
