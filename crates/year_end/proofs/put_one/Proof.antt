-- The numbers at the bin's index.
use Prim.Native.Nat.{◌<◌}
use native.Mathlib.Omega.{arith}
use borrow.Author.Rules.{rules}
use Rattle.stock.proofs.Sizes.{spot_in}
use Rattle.year_end.proofs.Laws.{bin-put}
use Rattle.year_end.proofs.put_one.Statement.{statement}
use Rattle.year_end.proofs.put_one.Tie as tie

-- The index lies in the arrays.
inside : (c : tie.After-spot-i) → c.spot-i.result < 512
inside c =
    let s = c in
    let l = spot_in s.args.head s.requires.0 s.args.o s.args.v s.requires.1 s.requires.2 in
    omega (arith, c.spot-i.ensures, l)

spot-requires : tie.Need-spot-i-requires
spot-requires c κs =
    let s = c in
    (omega (arith, s.requires.1, s.requires.0.n_most), omega (arith, s.requires.2, s.requires.0.size_most s.args.o))

returns : tie.Need-returns
returns c =
    let p = c in
    let d = p in
    let u = d in
    let t = u in
    let l = t in
    let i = l in
    let s = i in
    bin-put s.args.head.sizes _ _ _ _ s.args.o s.args.v i.spot-i.result _ _ _ _ i.spot-i.ensures l.long.ensures t.size.ensures u.size-2.ensures d.long-2.ensures p.put_bin.ensures

pub put_one_spec : {M : Type 1} → statement M
put_one_spec =
    tie.close
    (tie.spec
    spot-requires
    (λ c. let l = inside c in omega (arith, l))
    (λ c. let l = inside c.before in omega (arith, l))
    (λ c κs. search rules)
    (λ c. let l = inside c.before.before.before in omega (arith, l))
    (λ c. let l = inside c.before.before.before.before in omega (arith, l))
    (λ c κs. search rules)
    (λ c. let l = inside c.before.before.before.before.before.before in omega (arith, l))
    (λ c. let l = inside c.before.before.before.before.before.before.before in omega (arith, l))
    (λ c κs. search rules)
    (λ c. let l = inside c.before.before.before.before.before.before.before.before.before in omega (arith, l))
    (λ c. let l = inside c.before.before.before.before.before.before.before.before.before.before in omega (arith, l))
    (λ c κs. search rules)
    (λ c. let s = c in omega (arith, s.requires.1, s.requires.0.n_most))
    (λ c κs. search rules)
    (λ c. search rules)
    returns)
