-- The text fits (`text-fits`, `refused-le`), and is written at the start of zeros (`printed`).
use Rattle.std.proofs.Common.{rules, ◌≡◌, ℕ, [], length, ◌≤◌, List, ◌<◌}
use mathlib.Core.Path.{sym}
use native.Mathlib.Omega.{arith}
use lib.ListN.{get_or}
use mir.Syntax.{w8}
use mir.Val.{Fits}
use Rattle.state_cut.specs.Parts.{cut_parts_told}
use Rattle.text_lines.specs.Text.{refused_text}
use Rattle.text_report.specs.Printed.{Printable}
use Rattle.text_report.proofs.Fits.{text-fits, refused-le, printed}
use Rattle.text_report.proofs.Answer.{accepted-text, refused-text, printable-answer}
use Rattle.text_report.proofs.text.written.Goals as goal

refused-fits : (c : goal.After-read_place) → length (refused_text c.read_number.result c.read_place.result) < 512
unfolding cut_parts_told
refused-fits c =
    let small = c.requires.1 [] in
    refused-le _ _ (omega (arith, small.number_lt, c.read_number.ensures)) (omega (arith, small.place_le, c.read_place.ensures))

pub put_refusal-requires : goal.put_refusal-requires
put_refusal-requires c = rw c.requires.0 (omega (arith, refused-fits c))

pub returns-in_default : goal.returns-in_default
returns-in_default c = λ rows.
    rw (refused-text c.args.cut rows c.in_default.is c.read_number.ensures c.read_place.ensures)
    (printed 512 (refused-fits c.before) (rw c.requires.0 at c.put_refusal.ensures))

leaders-fit : (c : goal.After-put_cut-arg-3-1) (k : ℕ) → Fits w8 (get_or c.args.cut.head.leaders k 0)
leaders-fit c k = search rules

values-fit : (c : goal.After-put_cut-arg-3-1) (k : ℕ) → Fits w8 (get_or c.verdict_solution.result k 0)
values-fit c k = search rules

-- The leaders and the values are bytes by their types.
fit : (c : goal.After-put_cut-arg-3-1) (rows : List ℕ) → Printable (cut_parts_told c.args.cut rows)
fit c rows =
    printable-answer _ _ (c.requires.1 rows) (λ k. (leaders-fit c k).fits) (λ k. rw (sym c.verdict_solution.ensures) (values-fit c k).fits)

pub put_cut-requires : goal.put_cut-requires
unfolding cut_parts_told
put_cut-requires c =
    let fits = fit c [] in
    (fits.options_le, rw c.requires.0 (omega (arith, rw (accepted-text c.args.cut [] c.in-Ok.is) at (text-fits _ fits))))

pub returns : goal.returns
returns c = λ rows.
    let e = accepted-text c.args.cut rows c.in-Ok.is in
    rw e (printed 512 (rw e at (text-fits _ (fit c.before rows))) (rw c.requires.0 at c.put_cut.ensures))
