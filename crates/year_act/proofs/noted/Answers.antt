-- Field by field.
use Rattle.std.proofs.Common.{Bool, true, false, ◌≡◌, refl, ap, ◌∙◌, ◌+◌}
use mathlib.Core.Bool as machine
use lib.Dec.{eqb}
use Rattle.bounded.specs.Bool.{not}
use Rattle.year_act.specs.Kept.{counted_if, noted_of}
use Rattle.year_act.proofs.noted.Goals as goal

not_is : (b : Bool) → machine.not b ≡ not b
unfolding not
not_is true = refl
not_is false = refl

pub returns : goal.returns
unfolding noted_of
returns c =
    let e = c.args.e in
    λ i. record {
      line = e.line + 1;
      ok = (c.counted.ensures ∙ ap (λ (b : Bool). counted_if b e.ok) c.answered.ensures) i;
      r28 = (c.counted-2.ensures ∙ ap (λ (b : Bool). counted_if b e.r28) c.answered-2.ensures) i;
      r29 = (c.counted-3.ensures ∙ ap (λ (b : Bool). counted_if b e.r29) c.answered-3.ensures) i;
      text = (c.counted-4.ensures ∙ ap (λ (b : Bool). counted_if b e.text) (not_is (eqb c.args.a.fault 0))) i;
      first = c.first.ensures i;
    }
