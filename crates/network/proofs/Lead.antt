-- A leader that is named: what its steps keep, that they end, and what they reach (document 02, L12).
use mathlib.Core.Bool.{true, false}
use mathlib.Core.Logic.Iff
use mathlib.Core.Logic.{◌↔◌, ◌⊎◌, inl, inr, ⊎_elim}
use mathlib.Core.Path.{◌≡◌, refl, sym, ◌∙◌, ap, subst}
use Prim.Native.Nat.{ℕ, suc, pred, ◌≤◌, ◌<◌}
use native.Mathlib.Omega.{arith}
use lib.Dec.{eqb}
use lib.ListN.{length}
use borrow.Author.Tests.{eq-eqb, ne_eqb, eqb-true, eqb-false}
use Rattle.bounded.specs.Bool.{and, or, not}
use Rattle.bounded.specs.Fold.{count}
use Rattle.bounded.proofs.Bool.{by_cases, clash, not-true→false, and_i, and_l, and_r, or_l, or_r, or_elim, not-i, not-e, not-false-i, not-false-e}
use Rattle.bounded.proofs.Fold.{count-one}
use Rattle.network.specs.Network.{Network, free}
use Rattle.network.specs.Sound.{Sound}
use Rattle.network.specs.Step.{outside, legal, third, eliminate, relisted, followers_trimmed, followed}
use Rattle.network.specs.Pairs.{Stays}
use Rattle.network.specs.Reduction.{free_count, lowest_follower, lead, lead_refusal, Run}
use Rattle.network.specs.Leader.{LeadRefuses}
use Rattle.network.specs.Completion.{OPEN, verdict}
use Rattle.network.specs.Promise.{Keeps}
use Rattle.network.specs.Sheet.{Sheet, network_of}
use Rattle.network.specs.Reach.{Way, here, along, leads_to, reach}
use Rattle.network.proofs.Sound.{free-i}
use Rattle.network.proofs.Step.{here as ladder-here, past as ladder-past, never as ladder-never, Legal, legal-e, legal-i, leader-j, leader-of-j, leader_other, third-i}
use Rattle.network.proofs.Added.{denied, number-inside}
use Rattle.network.proofs.Keep.{followed-sound, free-after}
use Rattle.network.proofs.Completion.{one-live-decided, verdict-open}
use Rattle.network.proofs.Reduction.{run-keeps, run-taken, run-most, follower-legal, not-leading, run_within-run, run_within-keeps, run_within-stops}
use Rattle.network.proofs.Through.{followed-fewer, followed-moves, functional-fewer, functional-stays, functional-cut, functional-through}
use Rattle.network.proofs.Reach.{reach-path}

-- It is a run of legal steps: so it keeps solutions and soundness, and its number of steps is that of the variables which were free before and are not now.
pub lead-run : (N : Network) (l : ℕ) → Run N (lead N l).network (lead N l).steps
unfolding lead
lead-run N l = run_within-run (λ (M : Network). l) _ N

pub lead-keeps : (N : Network) → Sound N → (l : ℕ) → Keeps N (lead N l).network (λ (f : ℕ → ℕ). true)
lead-keeps N s l = run-keeps s (lead-run N l)

pub lead-taken : (N : Network) → Sound N → (l : ℕ) → count N.n (λ (x : ℕ). and (free N x) (not (free (lead N l).network x))) ≡ (lead N l).steps
lead-taken N s l = run-taken s (lead-run N l)

pub lead-most : (N : Network) → Sound N → (l : ℕ) → suc (lead N l).steps ≤ N.n
lead-most N s l = run-most s (lead-run N l)

-- "until none can follow"
pub lead-stops : (N : Network) → Sound N → (l j : ℕ) → legal (lead N l).network l j ≡ false
unfolding lead
lead-stops N s l j = not-leading _ l (run_within-stops (λ (M : Network). l) N s) j

-- A step of i leaves every other free variable's freedom but j's.
free-still : (N : Network) (i j x : ℕ) → free (followed N i j) x ≡ true → (free N x ≡ true) × (x ≡ j → ⊥)
free-still N i j x h =
    let t = sym (free-after N i j x) ∙ h in
    (and_l _ _ t, eqb-false x j (not-e _ (and_r _ _ t)))

-- "Only it takes followers": who has another leader than before follows l, and l stays free.
pub lead-only : (N : Network) (l x : ℕ) → ((lead N l).network.leader x ≡ N.leader x) ⊎ ((lead N l).network.leader x ≡ suc l)
unfolding lead followed followers_trimmed relisted
lead-only N l x =
    run_within-keeps (λ (M : Network). l) (λ (M : Network). (M.leader x ≡ N.leader x) ⊎ (M.leader x ≡ suc l))
    (λ M h t. let j = lowest_follower M l in
    by_cases (or (eqb x j) (eqb (M.leader x) (suc j)))
    (λ b. inr (or_elim _ _ b
    (λ e. ap (λ (y : ℕ). (eliminate M l j).leader y) (eqb-true x j e) ∙ leader-j M l j)
    (λ e. leader-of-j M l j x (eqb-true _ _ e))))
    (λ b. let stays = leader_other M l j x
    (λ e. clash (or_l _ _ (eq-eqb x j e)) b) (λ e. clash (or_r _ _ (eq-eqb _ _ e)) b) in
    ⊎_elim (λ e. inl (stays ∙ e)) (λ e. inr (stays ∙ e)) h))
    N.n N (inl refl)

pub lead-free : (N : Network) (l : ℕ) → free N l ≡ true → free (lead N l).network l ≡ true
unfolding lead
lead-free N l h =
    run_within-keeps (λ (M : Network). l) (λ (M : Network). free M l ≡ true)
    (λ M f t. free-after M l _ l ∙ and_i _ _ f (not-i _ (ne_eqb l _ (legal-e M l _ (follower-legal M l t)).distinct)))
    N.n N h

-- While l takes followers: among the other free variables everything is as in N, and a variable to which l or one that is free no more led in N can be
-- taken by l.
record Led (N : Network) (l : ℕ) (M : Network) : Type 0 where
  pub is_sound : Sound M
  pub l_free : free M l ≡ true
  pub domains : (x a : ℕ) → M.domain x a ≡ true → N.domain x a ≡ true
  pub stated_apart : (x y : ℕ) → (x ≡ l → ⊥) → (y ≡ l → ⊥) → free M x ≡ true → free M y ≡ true → M.stated x y ≡ N.stated x y
  pub allows_apart : (x y a b : ℕ) → (x ≡ l → ⊥) → (y ≡ l → ⊥) → free M x ≡ true → free M y ≡ true → M.allows x y a b ≡ N.allows x y a b
  pub led_on : (v w : ℕ) → (v ≡ l) ⊎ (free M v ≡ false) → free M w ≡ true → (w ≡ l → ⊥) → leads_to N v w ≡ true → leads_to M l w ≡ true

module _ (N : Network) (S : Sound N) (l : ℕ) where
  led-start : free N l ≡ true → ((x : ℕ) → x < N.n → free N x ≡ true) → Led N l N
  unfolding leads_to
  led-start f all =
      record {
        is_sound = S;
        l_free = f;
        domains = λ x a h. h;
        stated_apart = λ x y dx dy fx fy. refl;
        allows_apart = λ x y a b dx dy fx fy. refl;
        led_on = λ v w o fw d e. ⊎_elim
            (λ q. subst (λ (z : ℕ). leads_to N z w ≡ true) q e)
            (λ q. clash (all v (S.stated_in v w (and_l _ _ e)).0) q) o;
      }

  module _ (M : Network) (h : Led N l M) (j : ℕ) (step : legal M l j ≡ true) where
    L : Legal M l j
    L = legal-e M l j step

    -- Another free variable's pairs stay.
    apart-stays : (x y : ℕ) → (x ≡ l → ⊥) → (y ≡ l → ⊥) → (x ≡ j → ⊥) → (y ≡ j → ⊥) → Stays l j (third M l j) x y
    apart-stays x y xl yl xj yj =
        record {
          left_i = λ e. absurd (xl e);
          right_i = λ e. absurd (yl e);
          left_j = λ e. absurd (xj e);
          right_j = λ e. absurd (yj e);
        }

    -- l leads on to a variable that it led to,
    still-leads : (w : ℕ) → (w ≡ l → ⊥) → (w ≡ j → ⊥) → leads_to M l w ≡ true → leads_to (followed M l j) l w ≡ true
    unfolding leads_to
    still-leads w wl wj e =
        let moves = followed-moves M l j L.distinct in
        by_cases (third M l j w)
        (λ t. and_i _ _ (moves.stated_moved.at_ik w t) (functional-cut M h.is_sound l j L.distinct w t (and_l _ _ e) (and_r _ _ e)))
        (λ t. let r : Stays l j (third M l j) l w =
        record {
          left_i = λ q. t;
          right_i = λ q. absurd (wl q);
          left_j = λ q. absurd (L.distinct q);
          right_j = λ q. absurd (wj q);
        } in
        and_i _ _ (moves.stated_moved.elsewhere l w r ∙ and_l _ _ e)
        (functional-stays M h.is_sound l j L.distinct l w r (and_r _ _ e)))

    -- and to one that j led to.
    leads-through : (w : ℕ) → free M w ≡ true → (w ≡ l → ⊥) → (w ≡ j → ⊥) → leads_to N j w ≡ true → leads_to (followed M l j) l w ≡ true
    unfolding leads_to
    leads-through w fw wl wj e =
        let jl : j ≡ l → ⊥ = λ q. L.distinct (sym q) in
        let s = h.stated_apart j w jl wl L.j_free fw ∙ and_l _ _ e in
        let F = functional-fewer N M S j w h.domains (λ a b p. sym (h.allows_apart j w a b jl wl L.j_free fw) ∙ p) (and_r _ _ e) in
        let t = third-i M l j w s wl wj in
        and_i _ _ ((followed-moves M l j L.distinct).stated_moved.at_ik w t)
        (functional-through M h.is_sound l j L.distinct w t L.is_functional F)

    led-step : Led N l (followed M l j)
    led-step =
        let moves = followed-moves M l j L.distinct in
        let was = free-still M l j in
        record {
          is_sound = followed-sound M h.is_sound l j step;
          l_free = free-after M l j l ∙ and_i _ _ h.l_free (not-i _ (ne_eqb l j L.distinct));
          domains = λ x a p. h.domains x a (followed-fewer M l j x a p);
          stated_apart = λ x y xl yl fx fy.
              moves.stated_moved.elsewhere x y (apart-stays x y xl yl (was x fx).1 (was y fy).1)
              ∙ h.stated_apart x y xl yl (was x fx).0 (was y fy).0;
          allows_apart = λ x y a b xl yl fx fy.
              (moves.allows_moved a b).elsewhere x y (apart-stays x y xl yl (was x fx).1 (was y fy).1)
              ∙ h.allows_apart x y a b xl yl (was x fx).0 (was y fy).0;
          led_on = λ v w o fw wl e.
              by_cases (eqb v j)
              (λ q. leads-through w (was w fw).0 wl (was w fw).1 (subst (λ (z : ℕ). leads_to N z w ≡ true) (eqb-true v j q) e))
              (λ q. still-leads w wl (was w fw).1 (h.led_on v w
              (⊎_elim inl (λ g. inr (not-true→false _ λ f.
              clash (free-after M l j v ∙ and_i _ _ f (not-i _ q)) g)) o)
              (was w fw).0 wl e));
        }

  -- At the end l leads to no free variable.
  module _ (f : free N l ≡ true) (all : (x : ℕ) → x < N.n → free N x ≡ true) where
    led-end : Led N l (lead N l).network
    unfolding lead
    led-end = run_within-keeps (λ (M : Network). l) (Led N l) (λ M h t. led-step M h _ (follower-legal M l t)) N.n N (led-start f all)

    -- So who is reached from l, or from one that is free no more, is free no more.
    reached-taken : {v w : ℕ} → Way (leads_to N) v w → (v ≡ l) ⊎ (free (lead N l).network v ≡ false) → (w ≡ l) ⊎ (free (lead N l).network w ≡ false)
    unfolding leads_to
    reached-taken here o = o
    reached-taken (along {i = v} {j = x} e p) o =
        let M = (lead N l).network in
        reached-taken p
        (by_cases (eqb x l) (λ q. inl (eqb-true x l q))
        (λ q. let d : x ≡ l → ⊥ = eqb-false x l q in
        inr (not-true→false (free M x) λ fx.
        let e' = led-end.led_on v x o fx d e in
        let s = led-end.is_sound.stated_in l x (and_l _ _ e') in
        clash (legal-i M l x (record {
          i_in = s.0;
          j_in = s.1;
          distinct = λ z. d (sym z);
          i_free = led-end.l_free;
          j_free = fx;
          pair_stated = and_l _ _ e';
          is_functional = and_r _ _ e';
        })) (lead-stops N S l x))))

    -- "On a sheet just accepted, if every other option can be reached from it through tables functional along the way, it ends as the only live option
    module _ (inside : l < N.n) (every : (x : ℕ) → x < N.n → reach N l x ≡ true) where
      pub lead-alone : (x : ℕ) → x < N.n → free (lead N l).network x ≡ true → x ≡ l
      lead-alone x m fx =
          ⊎_elim (λ e. e) (λ g. clash fx g) (reached-taken ((reach-path N S l x).0 (every x m)) (inl refl))

      pub lead-one : free_count (lead N l).network ≡ 1
      unfolding free_count
      lead-one =
          let e = (lead-keeps N S l).same_n in
          count-one _ (free (lead N l).network) l (subst (λ (m : ℕ). l < m) (sym e) inside) (lead-free N l f)
          (λ x m fx. lead-alone x (subst (λ (k : ℕ). x < k) e m) fx)

      -- and the verdict is never OPEN."
      pub lead-not-open : verdict (lead N l).network ≡ OPEN → ⊥
      lead-not-open v = clash (one-live-decided _ (lead-keeps N S l).still_sound lead-one) (verdict-open _ v).1

-- A sheet just accepted.
pub lead-sheet : (s : Sheet) → Sound (network_of s) → (l : ℕ) → l < length s.sizes
    → ((x : ℕ) → x < length s.sizes → reach (network_of s) l x ≡ true)
    → let M = (lead (network_of s) l).network in
    ((x : ℕ) → x < length s.sizes → (free M x ≡ true) ↔ (x ≡ l)) × (free_count M ≡ 1) × (verdict M ≡ OPEN → ⊥)
unfolding network_of free
lead-sheet s S l inside every =
    let N = network_of s in
    let all : (x : ℕ) → x < N.n → free N x ≡ true = λ x m. free-i N x refl in
    let f = all l inside in (
      λ x m. (lead-alone N S l f all inside every x m, λ e. subst (λ (z : ℕ). free (lead N l).network z ≡ true) (sym e) (lead-free N l f)),
      lead-one N S l f all inside every,
      lead-not-open N S l f all inside every,
    )

-- The refusals.
pub lead-refuses : (N : Network) (l : ℕ) → LeadRefuses N l
unfolding lead_refusal
lead-refuses N l =
    record {
      number_10 = Iff.trans (ladder-here _ 10 _ (ladder-never _ 11 _ 10 (omega arith) (omega arith))) (denied _ (number-inside N l));
      number_11 =
          Iff.trans (ladder-past _ 10 _ 11 (omega arith) (ladder-here _ 11 _ (omega arith)))
          (Iff.and (number-inside N l) (not-e _, not-i _));
      number_0 =
          Iff.trans (ladder-past _ 10 _ 0 (omega arith) (ladder-past _ 11 _ 0 (omega arith) Iff.rfl))
          (Iff.and (number-inside N l) (λ h. not-false-e _ h.0, λ t. (not-false-i _ t, refl)));
    }
