-- What an input has past the limit does not change its text.
use mathlib.Core.List.{List}
use mathlib.Core.Path.{◌≡◌, refl, sym, ap, ◌∙◌}
use Prim.Native.Nat.{ℕ, ◌<◌}
use native.Mathlib.Omega.{arith}
use lib.Dec.{ltb}
use lib.ListN.{length, take}
use lib.Seq.{take_all, length-take-le}
use borrow.Author.Tests.{ltb-true, ltb-false}
use Rattle.bounded.proofs.Bool.{by_cases}
use Rattle.network.specs.Sheet.{Sheet}
use Rattle.format.specs.Layout.{longest}
use Rattle.format.specs.Parse.{Parse, parse}
use Rattle.format.proofs.Parse.{parse-too-long}
use Rattle.state.specs.Read.{read_as, read_sheet}
use Rattle.state.specs.Cut.{cut_as, cut_sheet}
use Rattle.text_report.specs.Text.{limit, text_as, text_of}

pub limit_is : limit ≡ 15622
unfolding limit longest
limit_is = refl

same_text : (a b : List ℕ) → parse a ≡ parse b → text_of a ≡ text_of b
unfolding text_of cut_sheet read_sheet
same_text a b = ap (λ (p : Parse Sheet). text_as (cut_as (read_as p)))

-- The text of an input is that of its first bytes, up to the limit.
pub text-of-first : (bytes : List ℕ) → text_of (take limit bytes) ≡ text_of bytes
unfolding limit
text-of-first bytes =
    by_cases (ltb longest (length bytes))
    (λ t. let long : longest < length bytes = ltb-true _ _ t in
    let shown = length-take-le limit bytes (omega arith) in
    same_text (take limit bytes) bytes (parse-too-long (take limit bytes) (omega arith) ∙ sym (parse-too-long bytes long)))
    (λ t. ap text_of (take_all limit bytes (let short = ltb-false longest (length bytes) t in omega arith)))
