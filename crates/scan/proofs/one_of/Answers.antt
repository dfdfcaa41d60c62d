-- The first, or else the second.
use Rattle.std.proofs.Common.{sym, ◌∙◌}
use Rattle.bounded.proofs.Bool.{or_l}
use Rattle.scan.specs.Bytes.{one_of}
use Rattle.scan.proofs.Laws.{or-second}
use Rattle.scan.proofs.one_of.Goals as goal
use borrow.Author.Tests.{eq-eqb, ne_eqb}

pub returns-then-byte-a : goal.returns-then-byte-a
unfolding one_of
returns-then-byte-a c = let e = eq-eqb _ _ c.if-byte-a.true in e ∙ sym (or_l _ _ e)

pub returns-else-byte-a : goal.returns-else-byte-a
unfolding one_of
returns-else-byte-a c = sym (or-second _ _ (ne_eqb _ _ c.if-byte-a.false))
