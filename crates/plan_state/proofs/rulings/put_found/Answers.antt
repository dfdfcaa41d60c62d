use Rattle.std.proofs.Common.{rules, ℕ, get_or, Fits, w8}
use mathlib.Core.Path.{sym}
use Rattle.text_lines.specs.Text.{ascii}
use Rattle.plan_state.proofs.Laws.{found-put, found-le}
use Rattle.plan_state.proofs.rulings.put_found.Goals as goal

pub returns : goal.returns
unfolding ascii
returns c =
    let found = c.search_parts-found.ensures in
    let values_fit : (k : ℕ) → Fits w8 (get_or c.verdict_solution.result k 0) = λ k. search rules in (
      found-put _ found c.put_text-titled.ensures c.put_ruling.ensures,
      found-le _ c.search_parts-found.result found c.requires (λ k. rw (sym c.verdict_solution.ensures) (values_fit k).fits),
    )
