-- The text that sheetplan prints, as ASCII codes, of what was asked and the bytes of a sheet: it "reads one sheet .., lets option N lead first if asked ..,
-- then adds page nine if asked .., whatever the order of the arguments, reduces fully, runs L9 .., and prints".
use Rattle.std.specs.Prelude.{Bool, Option, None, Some, List, ◌++◌, ℕ, eqb}
use Rattle.bounded.specs.Bool.{if}
use Rattle.state.specs.declared.state.State.{State}
use Rattle.state.specs.Answers.{ReadTold}
use Rattle.state.specs.Read.{read_sheet}
use Rattle.state.specs.Steps.{reduced, trimmed, led}
use Rattle.meter.specs.Fitted.{fitted}
use Rattle.text_lines.specs.Text.{ascii}
use Rattle.text_phrase.specs.Phrase.{refusal_line, refusal_at_line}
use Rattle.plan_state.specs.Plan.{state_text}
use Rattle.plan_text.specs.declared.Ask.{Ask}

-- "A refusal prints `REFUSED number: phrase`" "and the END line": "n is 0 or 1".
unfoldable pub refused_text : ℕ → List ℕ
refused_text number = refusal_line number ++ ascii "END 1 REFUSED\n"

unfoldable pub unless_refused : ℕ → List ℕ → List ℕ
unless_refused number text = if (eqb number 0) text (refused_text number)

-- "reduces fully, runs L9"
unfoldable pub last_of : State → State
last_of s = (trimmed (reduced s).state).state

-- "then adds page nine if asked (L7's table and its 25)"
unfoldable pub fitted_text : Bool → State → List ℕ
fitted_text page9 s = if page9 (unless_refused (fitted s).number (state_text (last_of (fitted s).state))) (state_text (last_of s))

-- "lets option N lead first if asked (L12)": "--lead 0 or above n is REFUSED 10".
unfoldable pub lead_text : Option ℕ → Bool → State → List ℕ
lead_text None page9 s = fitted_text page9 s
lead_text (Some leader) page9 s = unless_refused (led s leader).number (fitted_text page9 (led s leader).state)

unfoldable pub led_text : Ask → State → List ℕ
led_text ask s = lead_text ask.lead ask.page9 s

-- "A refusal prints `REFUSED number AT place: phrase`" of a sheet that is refused.
unfoldable pub read_text : Ask → ReadTold → List ℕ
read_text ask read =
    if (eqb read.number 0)
    (led_text ask read.state)
    (refusal_at_line read.number read.place ++ ascii "END 1 REFUSED\n")

unfoldable pub plan_text : Ask → List ℕ → List ℕ
plan_text ask bytes = read_text ask (read_sheet bytes)
