use Rattle.std.proofs.Common.{rules}
use Rattle.search_narrow.proofs.narrow.Goals as goal

pub returns : goal.returns
returns c = c.narrow_to.ensures _ _ _ (λ j x m e. search rules)
