use Rattle.std.proofs.Common.{rules, Fits, w64}
use Rattle.text_lines.specs.Text.{ascii}
use Rattle.plan_state.proofs.Laws.{used-put, used_le}
use Rattle.plan_state.proofs.surveys.put_used.Goals as goal

pub returns : goal.returns
unfolding ascii
returns c =
    let s = c.args.survey in
    let count_fits : Fits w64 s.count = search rules in (
      used-put s _ _ c.put_stock-used.ensures c.put_idle-idle.ensures c.put_builds.ensures,
      used_le s _ _ c.requires.0 count_fits.fits,
    )
