-- The full reduction of a head and rows, step by step.
use mathlib.Core.Bool.{true, false}
use mathlib.Core.List.{List}
use mathlib.Core.Path.{◌≡◌, refl, sym, ap, ap₂, subst, subst₂, ◌∙◌}
use Prim.Native.Nat.{ℕ, suc, pred, ◌+◌, ◌≤◌, ◌<◌}
use native.Mathlib.Omega.{arith}
use Rattle.bounded.proofs.Bool.{by_cases, not-true→false, if-true, if-false}
use Rattle.bounded.proofs.Fold.{count-le}
use Rattle.words.specs.Word.{width}
use Rattle.network.specs.Network.{Network}
use Rattle.network.specs.Step.{legal, followed}
use Rattle.network.specs.Reduction.{Reduced, free_count, leading, lowest_follower, one_more, run_within, reduce_within, reduce, lead}
use Rattle.network.proofs.Reduction.{step_keeps, step_count, follower-legal, run_within-step, run_within-stop}
use Rattle.pairs.specs.Pairs.{variables, rows_of}
use Rattle.head.specs.declared.Head.{Head}
use Rattle.head.specs.Held.{RowsShaped, Represents, held, head_of, sound_in}
use Rattle.head.proofs.Held.{HeadShaped, Packed, held-n, held-sound, head-of-held, rows-of-held, kept-packed}
use Rattle.std.specs.Prelude.{Some, None}
use Rattle.step_choice.specs.declared.Leader.TheVariants as leader
use Rattle.step_choice.specs.Judging.{follower_pair, who_leads}
use Rattle.step_reduce.specs.declared.Reduction.{Reduction}
use Rattle.step_reduce.specs.Reduced.{RanTo}

-- A head and rows hold what a legal step makes of a sound network.
pub followed-packed : (h : Head) (rows : List ℕ) → HeadShaped h → sound_in h rows ≡ true → (i j : ℕ) → legal (held h rows) i j ≡ true
    → Packed (followed (held h rows) i j)
followed-packed h rows S t i j l = kept-packed rows S t _ (step_keeps (held h rows) (held-sound h rows S t) i j l)

-- What a search that finds a follower of the leader who is to take one, or none, says.
module _ (who : Network → ℕ) (N : Network) where
  found-next : (i j : ℕ) → follower_pair N (who N) ≡ Some (i, j) → (leading N (who N) ≡ true) × (who N ≡ i) × (lowest_follower N (who N) ≡ j)
  unfolding follower_pair
  found-next i j e =
      by_cases (leading N (who N))
      (λ t. let p : Some (who N, lowest_follower N (who N)) ≡ Some (i, j) = sym (if-true _ _ _ t) ∙ e in
      let q : ◌≡◌ {A = ℕ × ℕ} (who N, lowest_follower N (who N)) (i, j) = cc in
      (t, ap (λ (k : ℕ × ℕ). k.0) q, ap (λ (k : ℕ × ℕ). k.1) q))
      (λ t. let p : None ≡ Some (i, j) = sym (if-false _ _ _ t) ∙ e in absurd (let z : ◌≡◌ {A = ℕ} 0 1 = cc in omega arith))

  none-next : follower_pair N (who N) ≡ None → leading N (who N) ≡ false
  unfolding follower_pair
  none-next e =
      not-true→false _ (λ t. let p : Some (who N, lowest_follower N (who N)) ≡ None = sym (if-true _ _ _ t) ∙ e in
      let z : ◌≡◌ {A = ℕ} 0 1 = cc in omega arith)

  -- The pair found is legal, and the step with it is the next one.
  found-legal : (i j : ℕ) → follower_pair N (who N) ≡ Some (i, j) → legal N i j ≡ true
  found-legal i j e =
      let p = found-next i j e in
      subst₂ (λ (x y : ℕ). legal N x y ≡ true) p.1 p.2 (follower-legal N (who N) p.0)

  found-step : (i j most : ℕ) → follower_pair N (who N) ≡ Some (i, j) → run_within who (suc most) N ≡ one_more (run_within who most (followed N i j))
  found-step i j most e =
      let p = found-next i j e in
      run_within-step who most N p.0 ∙ ap₂ (λ (x y : ℕ). one_more (run_within who most (followed N x y))) p.1 p.2

-- The steps of a head h and rows, of the leader that `who` names each time, have been `steps` and have come to r and `rows`: what is left are the steps of
-- those, at most `most`.
pub record Running (who : Network → ℕ) (h : Head) (before : List ℕ) (r : Head) (rows : List ℕ) (steps : ℕ) : Type 0 where
  pub still_head : HeadShaped r
  pub still_rows : RowsShaped rows
  pub still_sound : sound_in r rows ≡ true
  pub n_small : h.n ≤ variables
  pub most : ℕ
  pub most_left : most + steps ≡ h.n
  pub free_left : free_count (held r rows) ≤ most
  pub network_left : (run_within who h.n (held h before)).network ≡ (run_within who most (held r rows)).network
  pub steps_left : (run_within who h.n (held h before)).steps ≡ steps + (run_within who most (held r rows)).steps

pub running_none : (who : Network → ℕ) (h : Head) (rows : List ℕ) → HeadShaped h → RowsShaped rows → sound_in h rows ≡ true → Running who h rows h rows 0
unfolding free_count held
running_none who h rows S R t =
    record {
      still_head = S;
      still_rows = R;
      still_sound = t;
      n_small = held-n h rows t;
      most = h.n;
      most_left = omega arith;
      free_left = count-le h.n _;
      network_left = refl;
      steps_left = omega arith;
    }

module _ {who : Network → ℕ} {h r : Head} {before rows : List ℕ} {steps : ℕ} (R : Running who h before r rows steps) where
  -- One step more.
  module _ {i j : ℕ} (e : follower_pair (held r rows) (who (held r rows)) ≡ Some (i, j)) where
    pub running-legal : legal (held r rows) i j ≡ true
    running-legal = found-legal who (held r rows) i j e

    one_less : suc (free_count (followed (held r rows) i j)) ≡ free_count (held r rows)
    one_less = step_count (held r rows) (held-sound r rows R.still_head R.still_sound) i j running-legal

    -- Fewer steps than there are variables have been taken.
    pub running-steps : steps < variables
    running-steps = omega (arith, one_less, R.free_left, R.most_left, R.n_small)

    module _ {q : Head} {after : List ℕ} (S : Represents (followed (held r rows) i j) q after) where
      packed : Packed (followed (held r rows) i j)
      packed = followed-packed r rows R.still_head R.still_sound i j running-legal

      held-q : held q after ≡ followed (held r rows) i j
      held-q = ap₂ held S.head_is S.rows_are ∙ packed.packed_held

      pub running-less : free_count (held q after) < free_count (held r rows)
      running-less = rw held-q (omega (arith, one_less))

      -- One of the steps that are left is taken.
      left : run_within who R.most (held r rows) ≡ one_more (run_within who (pred R.most) (held q after))
      left =
          rw held-q
          (ap (λ (k : ℕ). run_within who k (held r rows)) (let k : R.most ≡ suc (pred R.most) = omega (arith, one_less, R.free_left) in k)
          ∙ found-step who (held r rows) i j (pred R.most) e)

      pub running_more : Running who h before q after (steps + 1)
      unfolding one_more
      running_more =
          record {
            still_head = subst HeadShaped (sym S.head_is) packed.packed_head;
            still_rows = subst (λ (l : List ℕ). RowsShaped l) (sym S.rows_are) packed.packed_rows;
            still_sound = ap₂ sound_in S.head_is S.rows_are ∙ packed.packed_sound;
            n_small = R.n_small;
            most = pred R.most;
            most_left = omega (arith, one_less, R.free_left, R.most_left);
            free_left = omega (arith, one_less, R.free_left, ap free_count held-q);
            network_left = R.network_left ∙ ap (λ (a : Reduced). a.network) left;
            steps_left = omega (arith, R.steps_left, ap (λ (a : Reduced). a.steps) left);
          }

  -- No step is left.
  pub running-done : follower_pair (held r rows) (who (held r rows)) ≡ None
      → RanTo (run_within who h.n (held h before)) (record { head = r; steps = steps }) rows
  running-done e =
      let told = run_within who h.n (held h before) in
      let stop = run_within-stop who R.most (held r rows) (none-next who (held r rows) e) in
      let N : told.network ≡ held r rows = R.network_left ∙ ap (λ (a : Reduced). a.network) stop in
      record {
        becomes = record {
          head_is = sym (ap head_of N ∙ head-of-held r rows R.still_head);
          rows_are = sym (ap (λ (M : Network). rows_of width M.allows) N ∙ rows-of-held r rows R.still_rows);
        };
        steps_are = let k : steps ≡ told.steps = omega (arith, R.steps_left, ap (λ (a : Reduced). a.steps) stop) in k;
      }

-- Of the full reduction: the leader is the lowest that has a legal follower. Of a leader that is named it is that one.
module _ (h : Head) (before : List ℕ) (r : Reduction) (rows : List ℕ) where
  pub lowest-reduces : RanTo (run_within (who_leads leader.Lowest) h.n (held h before)) r rows → RanTo (reduce (held h before)) r rows
  unfolding reduce reduce_within held who_leads
  lowest-reduces t = t

  pub named-leads : (l : ℕ) → RanTo (run_within (who_leads (leader.Named l)) h.n (held h before)) r rows → RanTo (lead (held h before) l) r rows
  unfolding lead held who_leads
  named-leads l t = t
