use Rattle.std.proofs.Common.{rules}
use Rattle.words.proofs.Laws.{dropped-less}
use Rattle.words.proofs.WalkIterator.next.Goals as goal

-- Each item leaves a member fewer.
pub returns-clause-goes : goal.returns-clause-goes
returns-clause-goes c = record { on = λ f. (tt, tt, dropped-less 32 _ (search rules) c.if-self-eq0.false c.dropped-self.ensures); keeps = tt; rests = λ f. tt }
