use Rattle.std.proofs.Common.{rules}
use Rattle.words.specs.Word.{width}
use Rattle.order_paths.proofs.Members.{kept-none, kept_next, kept_more, kept-all}
use Rattle.order_paths.proofs.reach.leads_to.Goals as goal

pub loop-j-init : goal.loop-j-init
loop-j-init c = search (rules, kept-none)

-- The variable taken is stated, and so another one below 16.
pub bounds-domains-j : goal.bounds-domains-j
bounds-domains-j c = let t = c.in-Some.ensures.steps in (c.requires.1 _ (kept_next width c.loop-j.invariant t.0 t.1)).0

pub offset_bounds-domains-j : goal.offset_bounds-domains-j
offset_bounds-domains-j c = let t = c.in-Some.ensures.steps in let l = (c.requires.1 _ (kept_next width c.loop-j.invariant t.0 t.1)).0 in search rules

pub functional-requires : goal.functional-requires
functional-requires c =
    let t = c.in-Some.ensures.steps in
    let o = c.requires.1 _ (kept_next width c.loop-j.invariant t.0 t.1) in
    (c.requires.0, o.0, o.1)

pub joined_if-found-requires : goal.joined_if-found-requires
joined_if-found-requires c = let t = c.in-Some.ensures.steps in let l = (c.requires.1 _ (kept_next width c.loop-j.invariant t.0 t.1)).0 in search rules

pub loop-j-preserved : goal.loop-j-preserved
loop-j-preserved c =
    let t = c.in-Some.ensures.steps in
    kept_more width c.loop-j.invariant t.0 t.1 c.functional.ensures c.joined_if-found.ensures t.2

pub returns : goal.returns
returns c = kept-all width c.in-None.ensures.steps.0 c.loop-j.invariant
