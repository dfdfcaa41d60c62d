-- What the first loop has seen settles the number; the second has then moved every bin, or there was none.
use Rattle.std.proofs.Common.{◌≡◌, ℕ, ◌+◌, ◌<◌, ◌≤◌, ◌∙◌, sym, ap, subst, arith, List, length, drop, slice_index_or, slice_set}
use Rattle.std.proofs.Math.ListN.{drop_of_length-le}
use Rattle.bins.specs.declared.Bin.{Bin}
use Rattle.bins.specs.declared.Plan.{Plan}
use Rattle.bins.specs.declared.Seen.{Seen}
use Rattle.bins.specs.Bins.{no_bin}
use Rattle.bins.specs.Plans.{plan_number, run, start_of, settled_of}
use Rattle.bins.proofs.Laws.{settles, accepted, refused}
use Rattle.bins_post.proofs.Lists.{upto, upto-at, upto_next, upto_all}
use Rattle.bins_post.proofs.post.Goals as goal
use lib.Dec.{T, eqb, not_T, eqb→eq}

-- Every bin has been looked at.
seen : (p : Plan) (s : Seen) (bins : List Bin) (i r : ℕ) → run p s (drop i bins) ≡ run p start_of bins → length bins ≤ i → r ≡ settled_of p s → r ≡ plan_number p bins
seen p s bins i r h l e =
    e ∙ ap (settled_of p) (ap (run p s) (sym (drop_of_length-le bins l)) ∙ h) ∙ settles p bins

-- One bin more is moved.
moved_next : (f : Bin → Bin) (start bins : List Bin) (i : ℕ) (b : Bin) → bins ≡ upto f i start → i < length bins → length bins ≡ length start → b ≡ f (slice_index_or bins i no_bin) → slice_set bins i b ≡ upto f (i + 1) start
moved_next f start bins i b h l len e =
    let k : i < length start = omega arith in
    let at = upto-at f i start no_bin in
    let next = upto_next f i start no_bin k in
    cc

pub loop-bin-then-code-eq0-preserved : goal.loop-bin-then-code-eq0-preserved
loop-bin-then-code-eq0-preserved c = moved_next _ _ _ _ _ c.loop-bin-then-code-eq0.invariant (omega arith) c.loop-bin-then-code-eq0.auto.bins c.moved.ensures

pub returns-after-loop-bin-then-code-eq0 : goal.returns-after-loop-bin-then-code-eq0
returns-after-loop-bin-then-code-eq0 c =
    let e = seen _ _ _ _ _ c.loop-bin.invariant c.loop-bin-test.false c.settled-code.ensures in
    (e, c.loop-bin-then-code-eq0.invariant ∙ upto_all _ _ _ c.loop-bin-then-code-eq0-test.false ∙ accepted _ _ _ e (subst (λ r. T (eqb r 0)) (sym c.if-code-eq0.true) tt))

pub returns-else-code-eq0 : goal.returns-else-code-eq0
returns-else-code-eq0 c =
    let e = seen _ _ _ _ _ c.loop-bin.invariant c.loop-bin-test.false c.settled-code.ensures in
    (e, refused _ _ _ e (not_T _ (λ t. c.if-code-eq0.false (eqb→eq _ _ t))))
