use Rattle.std.proofs.Common.{rules}
use borrow.Author.Rules.{of_calls}
use Rattle.folds.proofs.Tables.{callable, made}
use Rattle.folds.proofs.table.Goals as goal

pub from_fn-requires : goal.from_fn-requires
from_fn-requires g c = (search of_calls parts 8, callable g.F.Fn g.met.F.Fn.1.step_stays _ _ _ c.requires)

pub returns : goal.returns
returns g c = λ h m. made g.F.Fn g.met.F.Fn.1.step_stays _ _ h _ (λ k y q l t. m k y l (search (rules, g.met.F.FnMut.1.post_iff))) c.from_fn.ensures.items
