-- The planning table of a state, from what the calls answer of it.
use Rattle.std.specs.Prelude.{Bool, List, [], ◌++◌, ℕ, eqb}
use Rattle.bounded.specs.Bool.{and, if}
use Rattle.buffers.specs.Digits.{decimal}
use Rattle.network.specs.Network.{Network}
use Rattle.network.specs.Completion.{NONE, BUILT, OPEN}
use Rattle.answers.specs.Answers.{VerdictTold, rules, no_verdict}
use Rattle.state.specs.declared.state.State.{State}
use Rattle.state.specs.View.{view}
use Rattle.state.specs.Solutions.{verdict_of, search_of}
use Rattle.state_survey.specs.Survey.{SurveyTold, survey_of}
use Rattle.text_lines.specs.Text.{ascii}
use Rattle.plan_lines.specs.Lines.{option_lines, steps_of, ruling_text, stock_lines, idle_lines, builds_line}
use Rattle.plan_ifs.specs.Ifs.{if_lines}

-- "OPTIONS n", the options, and "STEPS k".
unfoldable pub options_text : ℕ → List ℕ → List ℕ → List ℕ
options_text n leaders lists =
    (ascii "OPTIONS " ++ decimal n)
    ++ (ascii "\n" ++ (option_lines leaders lists n ++ ((ascii "STEPS " ++ decimal (steps_of leaders n)) ++ ascii "\n")))

-- "VERDICT NONE | BUILT v .. v | OPEN"
unfoldable pub verdict_line : VerdictTold → ℕ → List ℕ
verdict_line v n = ascii "VERDICT" ++ ruling_text v n

-- "SEARCH NONE | BUILT v .. v | REFUSED 23: phrase",
unfoldable pub found_line : VerdictTold → ℕ → List ℕ
found_line found n = ascii "SEARCH" ++ ruling_text found n

-- "after OPEN alone".
unfoldable pub search_line : VerdictTold → VerdictTold → ℕ → List ℕ
search_line (rules NONE build) found n = []
search_line (rules BUILT build) found n = []
search_line (rules OPEN build) found n = found_line found n
search_line (no_verdict number build) found n = []

unfoldable pub ruling_lines : State → List ℕ
ruling_lines s = verdict_line (verdict_of s) s.n ++ search_line (verdict_of s) (search_of s) s.n

-- The survey says that there is no build.
unfoldable pub builds_none : SurveyTold → Bool
builds_none t = and (eqb t.number 0) (eqb t.count 0)

-- "with NONE: no IF line": nor wherever else there is no build.
unfoldable pub condition_lines : Network → SurveyTold → List ℕ
condition_lines N t = if (builds_none t) [] (if_lines N)

-- "USED j VALUES .. exactly the values that some build has (survey)", "IDLE j VALUES .. the others below the size", and "BUILDS k".
unfoldable pub used_lines : ℕ → List ℕ → SurveyTold → List ℕ
used_lines n sizes t = stock_lines (ascii "USED ") t.words n ++ (idle_lines sizes t.words n ++ builds_line t.more t.count)

-- "MAYBE j VALUES .. in the place of USED where the survey is refused": what the lists leave open. "IDLE holds what USED or MAYBE leaves out".
unfoldable pub maybe_lines : ℕ → List ℕ → List ℕ → List ℕ
maybe_lines n sizes lists = stock_lines (ascii "MAYBE ") lists n ++ idle_lines sizes lists n

unfoldable pub survey_lines : ℕ → List ℕ → List ℕ → SurveyTold → List ℕ
survey_lines n sizes lists t = if (eqb t.number 0) (used_lines n sizes t) (maybe_lines n sizes lists)

-- The whole table, and "END n REFUSED .. the last line".
unfoldable pub plan_as : State → SurveyTold → List ℕ
plan_as s t =
    options_text s.n s.leaders s.domains
    ++ (ruling_lines s
    ++ (condition_lines (view s) t
    ++ (survey_lines s.n s.sizes s.domains t
    ++ ascii "END 0 REFUSED\n")))

unfoldable pub state_text : State → List ℕ
state_text s = plan_as s (survey_of s)
