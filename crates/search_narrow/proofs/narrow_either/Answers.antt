use Rattle.std.proofs.Common.{rules}
use Rattle.search_narrow.proofs.Narrowing.{narrowed_any}
use Rattle.search_narrow.proofs.narrow_either.Goals as goal

pub returns : goal.returns
returns c = narrowed_any (c.narrow_to.ensures _ _ _ (λ j x m e. search rules))
