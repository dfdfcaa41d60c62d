-- Trimming and reduction in turn on a head and rows, round by round.
use mathlib.Core.Bool.{true, false}
use mathlib.Core.List.{List}
use mathlib.Core.Path.{◌≡◌, refl, sym, ap, ap₂, subst, ◌∙◌}
use Prim.Native.Nat.{ℕ, suc, pred, ◌+◌, ◌≤◌, ◌<◌}
use native.Mathlib.Omega.{arith}
use Rattle.bounded.proofs.Fold.{count-le}
use Rattle.words.specs.Word.{width}
use Rattle.network.specs.Network.{Network, free}
use Rattle.network.specs.Sound.{Sound}
use Rattle.network.specs.Step.{relisted, followers_trimmed}
use Rattle.network.specs.Reduction.{Reduced, free_count, reducible, reduce}
use Rattle.network.specs.Trimming.{live_trimmed, more_steps, alternate_within, alternate}
use Rattle.network.proofs.Completion.{some-free}
use Rattle.network.proofs.Reduction.{run-keeps, reduce-run, reduce-count, reduce-stops, reduce_within-stop}
use Rattle.network.proofs.Trimming.{live-keeps, live-count, reduce-still, alternate-rests, alternate-goes}
use Rattle.pairs.specs.Pairs.{variables, rows_of}
use Rattle.head.specs.declared.Head.{Head}
use Rattle.head.specs.Held.{RowsShaped, held, head_of, sound_in}
use Rattle.head.proofs.Held.{HeadShaped, Packed, held-n, held-sound, rows-of-held, kept-packed}
use Rattle.step_live.specs.Live.{lists_of}
use Rattle.step_reduce.specs.declared.Reduction.{Reduction}
use Rattle.step_reduce.specs.Reduced.{RanTo}

-- The rounds of a head h and rows have taken `steps` steps and have come to r and `rows`: what is left are the rounds of those, at most `most`.
pub record Alternating (h : Head) (before : List ℕ) (r : Head) (rows : List ℕ) (steps : ℕ) : Type 0 where
  pub still_head : HeadShaped r
  pub still_rows : RowsShaped rows
  pub still_sound : sound_in r rows ≡ true
  pub most : ℕ
  pub free_left : free_count (held r rows) ≤ most
  pub few : free_count (held r rows) + steps ≤ variables
  pub network_left : (alternate (held h before)).network ≡ (alternate_within most (held r rows)).network
  pub steps_left : (alternate (held h before)).steps ≡ steps + (alternate_within most (held r rows)).steps
  -- After a reduction no step is legal.
  pub none_legal : (steps ≡ 0 → ⊥) → reducible (held r rows) ≡ false

pub alternating-none : (h : Head) (rows : List ℕ) → HeadShaped h → RowsShaped rows → sound_in h rows ≡ true → Alternating h rows h rows 0
unfolding alternate free_count held
alternating-none h rows S R t =
    record {
      still_head = S;
      still_rows = R;
      still_sound = t;
      most = h.n;
      free_left = count-le h.n _;
      few = omega (arith, count-le h.n (free (held h rows)), held-n h rows t);
      network_left = refl;
      steps_left = omega arith;
      none_legal = λ d. absurd (d refl);
    }

module _ {h r : Head} {before rows : List ℕ} {steps : ℕ} (A : Alternating h before r rows steps) where
  abbrev N : Network
  N = held r rows

  abbrev told : Reduced
  told = alternate (held h before)

  sound : Sound N
  sound = held-sound r rows A.still_head A.still_sound

  one_left : A.most ≡ suc (pred A.most)
  one_left = omega (arith, A.free_left, some-free N sound)

  -- A round begins with the trimming,
  module _ {t : Head} (te : t ≡ head_of (live_trimmed N)) where
    packed : Packed (live_trimmed N)
    packed = kept-packed rows A.still_head A.still_sound _ (live-keeps N sound)

    -- which leaves the rows as they are.
    same_rows : rows ≡ rows_of width (live_trimmed N).allows
    unfolding live_trimmed followers_trimmed relisted
    same_rows = sym (rows-of-held r rows A.still_rows)

    held-t : held t rows ≡ live_trimmed N
    held-t = ap₂ held te same_rows ∙ packed.packed_held

    shaped-t : HeadShaped t
    shaped-t = subst HeadShaped (sym te) packed.packed_head

    pub round-sound : sound_in t rows ≡ true
    round-sound = ap₂ sound_in te same_rows ∙ packed.packed_sound

    -- Where it changes no list after a reduction there is nothing to reduce.
    module _ (same : r.domains ≡ t.domains) (d : steps ≡ 0 → ⊥) where
      unchanged : live_trimmed N ≡ N
      unfolding live_trimmed followers_trimmed relisted held lists_of
      unchanged =
          ap (relisted N) (ap (λ (M : Network). M.domain) (sym held-t)
          ∙ ap lists_of (sym same))

      no_steps : (reduce (live_trimmed N)).steps ≡ 0
      unfolding reduce
      no_steps = ap (λ (a : Reduced). a.steps) (ap reduce unchanged ∙ reduce_within-stop N.n N (A.none_legal d))

      pub round-none : RanTo told (record { head = t; steps = steps }) rows
      round-none =
          let rests : alternate_within A.most N ≡ record { network = live_trimmed N; steps = 0 } =
          ap (λ (k : ℕ). alternate_within k N) one_left ∙ alternate-rests (pred A.most) N no_steps in
          let is : told.network ≡ live_trimmed N = A.network_left ∙ ap (λ (a : Reduced). a.network) rests in
          record {
            becomes = record { head_is = te ∙ ap head_of (sym is); rows_are = same_rows ∙ ap (λ (M : Network). rows_of width M.allows) (sym is) };
            steps_are = let k : steps ≡ told.steps = omega (arith, A.steps_left, ap (λ (a : Reduced). a.steps) rests) in k;
          }

    -- Then comes the reduction.
    module _ {q : Reduction} {after : List ℕ} (D : RanTo (reduce (held t rows)) q after) where
      abbrev round : Reduced
      round = reduce (live_trimmed N)

      is-round : reduce (held t rows) ≡ round
      is-round = ap reduce held-t

      steps-q : q.steps ≡ round.steps
      steps-q = D.steps_are ∙ ap (λ (a : Reduced). a.steps) is-round

      head-q : q.head ≡ head_of round.network
      head-q = D.becomes.head_is ∙ ap (λ (a : Reduced). head_of a.network) is-round

      rows-q : after ≡ rows_of width round.network.allows
      rows-q = D.becomes.rows_are ∙ ap (λ (a : Reduced). rows_of width a.network.allows) is-round

      reduced : Packed round.network
      reduced =
          subst (λ (a : Reduced). Packed a.network) is-round
          (kept-packed rows shaped-t round-sound _ (run-keeps (held-sound t rows shaped-t round-sound) (reduce-run (held t rows))))

      held-q : held q.head after ≡ round.network
      held-q = ap₂ held head-q rows-q ∙ reduced.packed_held

      -- Each step takes a free variable.
      counted : free_count (held q.head after) + q.steps ≡ free_count N
      counted =
          omega (arith, ap free_count held-q, steps-q, live-count N sound, reduce-count (live_trimmed N) (live-keeps N sound).still_sound)

      pub round-steps : steps + q.steps ≤ variables
      round-steps = omega (arith, counted, A.few)

      -- Where it took no step the round was the last.
      pub round-last : q.steps ≡ 0 → RanTo told (record { head = q.head; steps = steps }) after
      round-last z =
          let still = reduce-still (live_trimmed N) (sym steps-q ∙ z) in
          let rests : alternate_within A.most N ≡ record { network = live_trimmed N; steps = 0 } =
          ap (λ (k : ℕ). alternate_within k N) one_left ∙ alternate-rests (pred A.most) N (sym steps-q ∙ z) in
          let same : told.network ≡ round.network =
          A.network_left ∙ ap (λ (a : Reduced). a.network) rests ∙ sym (ap (λ (a : Reduced). a.network) still) in
          record {
            becomes = record { head_is = head-q ∙ ap head_of (sym same); rows_are = rows-q ∙ ap (λ (M : Network). rows_of width M.allows) (sym same) };
            steps_are = let k : steps ≡ told.steps = omega (arith, A.steps_left, ap (λ (a : Reduced). a.steps) rests) in k;
          }

      module _ (d : q.steps ≡ 0 → ⊥) where
        pub round-less : free_count (held q.head after) < free_count N
        round-less = omega (arith, counted)

        left : alternate_within A.most N ≡ more_steps q.steps (alternate_within (pred A.most) (held q.head after))
        left =
            ap (λ (k : ℕ). alternate_within k N) one_left
            ∙ alternate-goes (pred A.most) N (λ z. d (steps-q ∙ z))
            ∙ ap₂ (λ (k : ℕ) (M : Network). more_steps k (alternate_within (pred A.most) M)) (sym steps-q) (sym held-q)

        -- One of the rounds that are left is done.
        pub round-more : Alternating h before q.head after (steps + q.steps)
        unfolding more_steps
        round-more =
            record {
              still_head = subst HeadShaped (sym head-q) reduced.packed_head;
              still_rows = subst (λ (l : List ℕ). RowsShaped l) (sym rows-q) reduced.packed_rows;
              still_sound = ap₂ sound_in head-q rows-q ∙ reduced.packed_sound;
              most = pred A.most;
              free_left = omega (arith, counted, A.free_left);
              few = omega (arith, counted, A.few);
              network_left = A.network_left ∙ ap (λ (a : Reduced). a.network) left;
              steps_left = omega (arith, A.steps_left, ap (λ (a : Reduced). a.steps) left);
              none_legal = λ _. ap reducible held-q ∙ reduce-stops (live_trimmed N) (live-keeps N sound).still_sound;
            }
