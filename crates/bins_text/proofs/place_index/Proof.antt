-- Its cases; past sixteen sizes there is none.
use mathlib.Core.Path.{sym, ◌∙◌}
use borrow.Author.Tests.{le-leb, lt-leb, eq-eqb, ne_eqb}
use borrow.Author.Rules.{rules}
use Rattle.bounded.proofs.Bool.{if-true, if-false}
use Prim.Native.Nat.{◌-◌, ◌^◌}
use Rattle.bounded.specs.Array.{Array}
use Rattle.bins.proofs.Shape.{shape}
use Rattle.bins_text.specs.Machine.{place_index}
use Rattle.bins_text.proofs.Laws.{no_size}
use Rattle.bins_text.proofs.place_index.Statement.{statement}
use Rattle.bins_text.proofs.place_index.Tie as tie

returns : tie.Need-returns-then-variable-eq0
unfolding place_index
returns c = sym (if-true _ _ _ (eq-eqb _ _ c.if-variable-eq0.true))

returns-2 : tie.Need-returns-then-n-o
unfolding place_index
returns-2 c = sym (if-false _ _ _ (ne_eqb _ _ c.if-variable-eq0.false) ∙ if-true _ _ _ (le-leb _ _ c.if-n-o.true))

returns-3 : tie.Need-returns-then-o-ge16
unfolding place_index
returns-3 c = let e = c in let a = e.args in let A : Array 16 (2 ^ 8) a.sizes = search shape in sym (if-false _ _ _ (ne_eqb _ _ e.if-variable-eq0.false) ∙ if-false _ _ _ (lt-leb _ _ e.if-n-o.false) ∙ if-true _ _ _ (no_size a.sizes (a.variable - 1) a.value A c.if-o-ge16.true))

returns-4 : tie.Need-returns-then-from-value
unfolding place_index
returns-4 c = let e = c in sym (if-false _ _ _ (ne_eqb _ _ e.if-variable-eq0.false) ∙ if-false _ _ _ (lt-leb _ _ e.if-n-o.false) ∙ if-true _ _ _ (le-leb _ _ (rw c.from.ensures at c.if-from-value.true)))

returns-5 : tie.Need-returns
unfolding place_index
returns-5 c = let f = c in let e = f in c.spot.ensures ∙ sym (if-false _ _ _ (ne_eqb _ _ e.if-variable-eq0.false) ∙ if-false _ _ _ (lt-leb _ _ e.if-n-o.false) ∙ if-false _ _ _ (lt-leb _ _ (rw f.from.ensures at f.if-from-value.false)))

pub place_index_spec : {M : Type 1} → statement M
place_index_spec = tie.close (tie.spec returns (λ c. search rules) returns-2 returns-3 (λ c. search rules) (λ c κs. search rules) returns-4 (λ c κs. search rules) returns-5)
