use Rattle.std.proofs.Common.{rules, ℕ, get_or, Fits, w8}
use mathlib.Core.Path.{sym}
use Rattle.text_lines.specs.Text.{ascii}
use Rattle.head.proofs.Held.{held-n}
use Rattle.plan_state.proofs.Laws.{rulings-put, rulings-le}
use Rattle.plan_state.proofs.rulings.put_rulings.Goals as goal

pub put_ruling-ruled-requires : goal.put_ruling-ruled-requires
put_ruling-ruled-requires c = held-n _ _ c.requires

pub put_search-requires : goal.put_search-requires
put_search-requires c = held-n _ _ c.requires

pub returns : goal.returns
unfolding ascii
returns c =
    let verdict = c.verdict_of-verdict.ensures in
    let values_fit : (k : ℕ) → Fits w8 (get_or c.verdict_solution.result k 0) = λ k. search rules in
    let s = c.put_search.ensures in (
      rulings-put _ _ verdict c.put_text-titled.ensures c.put_ruling-ruled.ensures s.0,
      rulings-le _ _ verdict (held-n _ _ c.requires) (λ k. rw (sym c.verdict_solution.ensures) (values_fit k).fits) s.1,
    )
