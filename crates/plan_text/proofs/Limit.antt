-- What an input has past the limit does not change its text.
use mathlib.Core.List.{List}
use mathlib.Core.Path.{◌≡◌, sym, ap, ◌∙◌}
use Prim.Native.Nat.{ℕ, ◌<◌}
use native.Mathlib.Omega.{arith}
use lib.Dec.{ltb}
use lib.ListN.{length, take}
use lib.Seq.{take_all, length-take-le}
use borrow.Author.Tests.{ltb-true, ltb-false}
use Rattle.bounded.proofs.Bool.{by_cases}
use Rattle.network.specs.Sheet.{Sheet}
use Rattle.format.specs.Layout.{longest}
use Rattle.format.specs.Parse.{Parse, parse}
use Rattle.format.proofs.Parse.{parse-too-long}
use Rattle.state.specs.Read.{read_as, read_sheet}
use Rattle.text_report.specs.Text.{limit}
use Rattle.plan_text.specs.declared.Ask.{Ask}
use Rattle.plan_text.specs.Text.{read_text, plan_text}

same_text : (ask : Ask) (a b : List ℕ) → parse a ≡ parse b → plan_text ask a ≡ plan_text ask b
unfolding plan_text read_sheet
same_text ask a b = ap (λ (p : Parse Sheet). read_text ask (read_as p))

-- The text of an input is that of its first bytes, up to the limit.
pub text-of-first : (ask : Ask) (bytes : List ℕ) → plan_text ask (take limit bytes) ≡ plan_text ask bytes
unfolding limit
text-of-first ask bytes =
    by_cases (ltb longest (length bytes))
    (λ t. let long : longest < length bytes = ltb-true _ _ t in
    let shown = length-take-le limit bytes (omega arith) in
    same_text ask (take limit bytes) bytes (parse-too-long (take limit bytes) (omega arith) ∙ sym (parse-too-long bytes long)))
    (λ t. ap (plan_text ask) (take_all limit bytes (let short = ltb-false longest (length bytes) t in omega arith)))
