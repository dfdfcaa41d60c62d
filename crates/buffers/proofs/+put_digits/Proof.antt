-- `put_digits` calls itself on a tenth of the number, which falls: `decimal-one` and `decimal-more` are its two ways.
use Prim.Native.Nat.{ℕ, ◌<◌}
use native.Mathlib.Omega.{arith}
use borrow.Author.Rules.{rules}
use borrow.Fn.Kinds.{In}
use borrow.Fn.PlainCycle.{Measures, is, falls, and}
use Rattle.buffers.proofs.Laws.{wrote_then}
use Rattle.buffers.proofs.Digits.{decimal-one, decimal-more, length-decimal-one, length-decimal-more}
use Rattle.buffers.proofs.put_digits.Reads as reads
use Rattle.buffers.proofs.put_digits.Kinds as kinds
use Rattle.buffers.proofs.+put_digits.Lts-put_digits as lts
use Rattle.buffers.proofs.put_byte.Reads as put-byte-reads
use Rattle.buffers.proofs.+put_digits.{statement}
use Rattle.buffers.proofs.+put_digits.Tie.{close}

-- The number itself.
abbrev μ-put-digits : Measures 1 kinds.ps ℕ
μ-put-digits κs a = a.1.1.0

-- What is given at the measure t, and what a call asks below t.
abbrev given-at : ℕ → In 1 kinds.ps
given-at t = and 1 kinds.ps (is 1 kinds.ps μ-put-digits t) reads.Pre

abbrev claims-below : ℕ → lts.Claims
claims-below t = (put-byte-reads.Asked, put-byte-reads.Learnt, and 1 kinds.ps (falls 1 kinds.ps ◌<◌ μ-put-digits t) reads.Pre, reads.Post)

put-byte-requires : (t : ℕ) → lts.Need-put_byte-requires (claims-below t) (given-at t) reads.Post
put-byte-requires t c κs = omega (arith, length-decimal-one c.args.n (omega arith))

returns : (t : ℕ) → lts.Need-returns-then-n-lt10 (claims-below t) (given-at t) reads.Post
returns t c = rw (decimal-one _ c.if-n-lt10.true) c.put_byte.ensures

put-digits-requires : (t : ℕ) → lts.Need-put_digits-next-requires (claims-below t) (given-at t) reads.Post
put-digits-requires t c κs = omega (arith, length-decimal-more c.args.n (omega arith))

put-byte-requires-2 : (t : ℕ) → lts.Need-put_byte-requires-2 (claims-below t) (given-at t) reads.Post
put-byte-requires-2 t c κs = omega (arith, length-decimal-more c.args.n (omega arith))

returns-2 : (t : ℕ) → lts.Need-returns (claims-below t) (given-at t) reads.Post
returns-2 t c =
    let p = c in
    let d = p in
    rw (decimal-more _ d.if-n-lt10.false) (wrote_then d.put_digits-next.ensures p.put_byte-2.ensures)

pub +put_digits_spec : {M : Type 1} → statement M
+put_digits_spec =
    close μ-put-digits λ t.
    lts.spec
    (claims-below t)
    (given-at t)
    reads.Post
    (λ c. search rules)
    (λ c. search rules)
    (put-byte-requires t)
    (λ c. search rules)
    (returns t)
    (put-digits-requires t)
    (λ c. search rules)
    (λ c. search rules)
    (put-byte-requires-2 t)
    (λ c. search rules)
    (returns-2 t)
