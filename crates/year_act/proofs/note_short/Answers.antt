-- At the index of the bin that is named.
use Rattle.std.proofs.Common.{◌≡◌, sym, ap, ◌∙◌, ◌-◌, rules}
use Prim.Native.Nat.{ℕ}
use Rattle.bounded.proofs.Bool.{if-true, if-false}
use Rattle.bins_counts.specs.Counts.{spot, plus, changed_at}
use Rattle.year_act.proofs.note_short.Goals as goal

pub returns-then-answered : goal.returns-then-answered
returns-then-answered c =
    let a = c.args in
    let q = sym c.answered.ensures ∙ c.if-answered.true in
    let o : c.from.result ≡ a.a.low.variable = search rules in
    let v : c.from-then-answered.result ≡ a.a.low.value = search rules in
    let at = c.spot-at.ensures ∙ ap (λ (x : ℕ). spot a.sizes (x - 1) c.from-then-answered.result) o ∙ ap (spot a.sizes (a.a.low.variable - 1)) v in
    c.add_at.ensures ∙ ap (changed_at (plus 1) a.shorts.now) at ∙ sym (if-true _ _ _ q)

pub returns-else-answered : goal.returns-else-answered
returns-else-answered c = sym (if-false _ _ _ (sym c.answered.ensures ∙ c.if-answered.false))
