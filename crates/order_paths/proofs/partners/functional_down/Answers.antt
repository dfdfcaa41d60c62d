use Rattle.std.proofs.Common.{rules}
use mathlib.Core.Path.{sym}
use Rattle.words.specs.Word.{width}
use Rattle.pairs.proofs.Runs.{lowest-in}
use Rattle.order_paths.proofs.Alone.{alone-none, alone-not, alone-more, alone-all}
use Rattle.order_paths.proofs.partners.functional_down.Goals as goal

pub stored_row-requires : goal.stored_row-requires
stored_row-requires c =
    let t = c.in-Some.ensures.steps in
    (c.requires.0, c.requires.1, (lowest-in width _ _ c.loop-b.invariant.rest_fits t.0 t.1).0)

pub returns-then-both-ne0 : goal.returns-then-both-ne0
returns-then-both-ne0 c =
    let t = c.in-Some.ensures.steps in
    sym (alone-not width c.loop-b.invariant t.0 t.1 c.stored_row.ensures c.both-row.ensures c.both.ensures c.if-both-ne0.true)

pub loop-b-init : goal.loop-b-init
loop-b-init c = alone-none width (search rules) (search rules)

pub loop-b-preserved : goal.loop-b-preserved
loop-b-preserved c =
    let t = c.in-Some.ensures.steps in
    alone-more width c.loop-b.invariant t.0 t.1 c.stored_row.ensures c.both-row.ensures c.both.ensures c.if-both-ne0.false c.either-seen.ensures t.2

pub returns : goal.returns
returns c = sym (alone-all width c.in-None.ensures.steps.0 c.loop-b.invariant)
