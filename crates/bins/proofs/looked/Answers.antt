-- A record in its place takes the cursor on; any other is never made good.
use Rattle.std.proofs.Common.{◌≡◌, ◌∙◌, sym, ap, Bool, true, false, ◌||◌, refl}
use Rattle.bounded.specs.Bool.{or}
use Rattle.bounded.proofs.Bool.{if-true, if-false, and_l}
use Rattle.bins.specs.Plans.{is_next, looked_of}
use Rattle.bins.proofs.looked.Goals as goal
use borrow.Author.Tests.{ltb-true}

or-machine : (a b : Bool) → a || b ≡ or a b
unfolding or
or-machine true b = refl
or-machine false b = refl

pub next_variable-requires : goal.next_variable-requires
unfolding is_next
next_variable-requires c = ltb-true _ _ (and_l _ _ (sym c.is_next.ensures ∙ c.if-is_next.true))

pub next_value-requires : goal.next_value-requires
unfolding is_next
next_value-requires c = ltb-true _ _ (and_l _ _ (sym c.is_next.ensures ∙ c.if-is_next.true))

pub returns-then-is_next : goal.returns-then-is_next
unfolding looked_of
returns-then-is_next c =
    let s = c.args.s in
    (λ i. record {
      variable = c.next_variable.ensures i;
      value = c.next_value.ensures i;
      exact = s.exact;
      high = (or-machine _ _ ∙ ap (or s.high) c.too_high-high.ensures) i;
      low = (or-machine _ _ ∙ ap (or s.low) c.too_low-low.ensures) i;
    })
    ∙ sym (if-true _ _ _ (sym c.is_next.ensures ∙ c.if-is_next.true))

pub returns-else-is_next : goal.returns-else-is_next
unfolding looked_of
returns-else-is_next c = sym (if-false _ _ _ (sym c.is_next.ensures ∙ c.if-is_next.false))
