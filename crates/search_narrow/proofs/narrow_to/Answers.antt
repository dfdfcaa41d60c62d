use Rattle.std.proofs.Common.{rules}
use native.Mathlib.Omega.{arith}
use Rattle.words.specs.Word.{width}
use Rattle.search_narrow.proofs.Narrowing.{rest_all, rest_next, rest_fewer, row-cut, narrowing_none, narrowing-more, narrowing-end}
use Rattle.search_narrow.proofs.narrow_to.Goals as goal

pub loop-j-init : goal.loop-j-init
loop-j-init g c = (rest_all width _ _ (search rules) (search rules), λ rows k v h. narrowing_none (search rules))

-- The next variable is one of them.
pub offset_bounds-domains-j : goal.offset_bounds-domains-j
offset_bounds-domains-j g c = let t = c.in-Some.ensures.steps in let l = c.requires.0 _ (rest_next width c.loop-j.invariant.0 t.0 t.1) in search rules

pub bounds-domains-j : goal.bounds-domains-j
bounds-domains-j g c = let t = c.in-Some.ensures.steps in c.requires.0 _ (rest_next width c.loop-j.invariant.0 t.0 t.1)

pub allowed-requires : goal.allowed-requires
allowed-requires g c = let t = c.in-Some.ensures.steps in c.requires.1 _ (rest_next width c.loop-j.invariant.0 t.0 t.1)

pub offset_bounds-domains-j-in-loop-j : goal.offset_bounds-domains-j-in-loop-j
offset_bounds-domains-j-in-loop-j g c =
    let t = c.in-Some.ensures.steps in
    let l = c.requires.0 _ (rest_next width c.loop-j.invariant.0 t.0 t.1) in
    search rules

pub bounds-domains-j-in-loop-j : goal.bounds-domains-j-in-loop-j
bounds-domains-j-in-loop-j g c = let t = c.in-Some.ensures.steps in c.requires.0 _ (rest_next width c.loop-j.invariant.0 t.0 t.1)

pub loop-j-preserved : goal.loop-j-preserved
loop-j-preserved g c =
    let t = c.in-Some.ensures.steps in
    let i = c.loop-j.invariant in
    let n = rest_next width i.0 t.0 t.1 in (
      rest_fewer width i.0 t.0 t.1 t.2,
      λ rows k v h.
          let long = c.requires.2 in
          let inside = c.requires.0 _ n in
          narrowing-more i.0 (i.1 rows k v h) t.0 t.1 (omega arith)
          (row-cut width rows k v _ _ (h _ _ n c.allowed.ensures) c.both-after.ensures) t.2,
    )

pub returns : goal.returns
returns g c = λ rows k v h. narrowing-end (c.loop-j.invariant.1 rows k v h) c.in-None.ensures.steps.0
