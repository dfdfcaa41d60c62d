-- A line feed, or another byte.
use borrow.Author.Tests.{eq-eqb, ne_eqb}
use borrow.Author.Rules.{rules}
use Rattle.stream.specs.Bytes.{ended, moved}
use Rattle.stream.proofs.Parts.{next-ended, next-moved}
use Rattle.bins_text.specs.Fed.{program, at}
use Rattle.bins_text.proofs.take_byte.Statement.{statement}
use Rattle.bins_text.proofs.take_byte.Tie as tie

returns : tie.Need-returns-then-byte-ne10
unfolding moved program
returns c = let t = c in let s = t in let a = s.args in rw (next-moved (program a.n a.sizes) (at a.run a.counts.now) a.byte (ne_eqb _ _ t.if-byte-ne10.true), ← c.step-scan.ensures)

returns-2 : tie.Need-returns
unfolding ended program
returns-2 c = let g = c in let f = g in let t = f in let s = t in let a = s.args in rw (next-ended (program a.n a.sizes) (at a.run a.counts.now) a.byte (eq-eqb _ _ t.if-byte-ne10.false), ← c.opening-scan.ensures, ← f.finish.ensures, ← g.act-reading.ensures)

pub take_byte_spec : {M : Type 1} → statement M
take_byte_spec = tie.close (tie.spec (λ c κs. search rules) returns (λ c κs. search rules) (λ c κs. search rules) (λ c κs. search rules) returns-2)
