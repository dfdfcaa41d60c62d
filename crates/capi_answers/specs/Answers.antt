-- The answers of the library's definitions as the structs that C and Rust are handed. Number 0 stands for "not refused".
use Rattle.answers.specs.Answers.{WriteTold, TestTold, test_number, test_agrees, ValueTold, VerdictTold, verdict_number, verdict_kind, verdict_solution}
use Rattle.state.specs.Answers.{ReadTold}
use Rattle.state.specs.Cut.{CutTold}
use Rattle.state_survey.specs.Survey.{SurveyTold}
use Rattle.capi_answers.specs.declared.told.SheetRead.{SheetRead}
use Rattle.capi_answers.specs.declared.told.SheetWritten.{SheetWritten}
use Rattle.capi_answers.specs.declared.told.SheetTested.{SheetTested}
use Rattle.capi_answers.specs.declared.told.SheetValue.{SheetValue}
use Rattle.capi_answers.specs.declared.told.SheetVerdict.{SheetVerdict}
use Rattle.capi_answers.specs.declared.told.SheetCut.{SheetCut}
use Rattle.capi_answers.specs.declared.told.SheetSurvey.{SheetSurvey}

unfoldable pub read_out : ReadTold → SheetRead
read_out t = record { number = t.number; place = t.place }

unfoldable pub written_out : WriteTold → SheetWritten
written_out t = record { number = t.number; length = t.length }

unfoldable pub tested_out : TestTold → SheetTested
tested_out t = record { number = test_number t; agrees = test_agrees t }

unfoldable pub value_out : ValueTold → SheetValue
value_out t = record { number = t.number; value = t.value }

unfoldable pub verdict_out : VerdictTold → SheetVerdict
verdict_out t = record { number = verdict_number t; kind = verdict_kind t; solution = verdict_solution t }

unfoldable pub cut_out : CutTold → SheetCut
cut_out t =
    record {
      number = t.number;
      place = t.place;
      steps = t.steps;
      kind = verdict_kind t.verdict;
      solution = verdict_solution t.verdict;
    }

unfoldable pub survey_out : SurveyTold → SheetSurvey
survey_out t = record { number = t.number; more = t.more; words = t.words; count = t.count }
