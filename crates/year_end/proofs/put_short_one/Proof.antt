-- The number at the bin's index.
use mathlib.Core.Path.{sym}
use Prim.Native.Nat.{◌<◌}
use native.Mathlib.Omega.{arith}
use borrow.Author.Rules.{rules}
use Rattle.stock.proofs.Sizes.{spot_in}
use Rattle.text_put.proofs.Laws.{put-text, put-none}
use Rattle.year_end.proofs.Laws.{short_none, short-some}
use Rattle.year_end.proofs.put_short_one.Statement.{statement}
use Rattle.year_end.proofs.put_short_one.Tie as tie

-- The index lies in the array.
inside : (c : tie.After-spot-i) → c.spot-i.result < 512
inside c =
    let s = c in
    let l = spot_in s.args.head s.requires.0 s.args.o s.args.v s.requires.1 s.requires.2 in
    omega (arith, c.spot-i.ensures, l)

spot-requires : tie.Need-spot-i-requires
spot-requires c κs =
    let s = c in
    (omega (arith, s.requires.1, s.requires.0.n_most), omega (arith, s.requires.2, s.requires.0.size_most s.args.o))

returns : tie.Need-returns-then-entries-eq0
returns c =
    let z = c in
    let i = z in
    let s = i in
    put-text (sym (short_none s.args.head.sizes _ s.args.o s.args.v i.spot-i.result z.size-entries.result i.spot-i.ensures z.size-entries.ensures c.if-entries-eq0.true)) (put-none _ _)

returns-2 : tie.Need-returns
returns-2 c =
    let p = c in
    let e = p in
    let z = e in
    let i = z in
    let s = i in
    short-some s.args.head.sizes _ s.args.o s.args.v i.spot-i.result z.size-entries.result i.spot-i.ensures z.size-entries.ensures e.if-entries-eq0.false p.put_short.ensures

pub put_short_one_spec : {M : Type 1} → statement M
put_short_one_spec =
    tie.close
    (tie.spec
    spot-requires
    (λ c. let l = inside c in omega (arith, l))
    (λ c. let l = inside c.before in omega (arith, l))
    (λ c κs. search rules)
    returns
    (λ c. let s = c in omega (arith, s.requires.1, s.requires.0.n_most))
    (λ c κs. search rules)
    (λ c. search rules)
    returns-2)
