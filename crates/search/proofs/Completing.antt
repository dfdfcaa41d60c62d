-- From a choice whose values are in their domains, what is completed on the arrays of a sound state is what its network completes.
use mathlib.Core.Bool.{true}
use mathlib.Core.List.{List}
use mathlib.Core.Path.{◌≡◌, refl, sym, ◌∙◌}
use Prim.Native.Nat.{ℕ, suc, ◌≤◌, ◌<◌}
use native.Mathlib.Omega.{arith}
use lib.ListN.{length, get_or}
use Rattle.bounded.specs.Fold.{first}
use Rattle.bounded.proofs.Fold.{first-widen}
use Rattle.words.specs.Word.{width, has}
use Rattle.words.proofs.Laws.{has-below}
use Rattle.network.specs.Network.{free, partner}
use Rattle.network.specs.Completion.{completed}
use Rattle.network.proofs.Sound.{free-e, free-or-led, leader-n, leader-is-free, partner-some}
use Rattle.network.proofs.Completion.{completed-keeps, completed-led}
use Rattle.head.specs.declared.Head.{Head}
use Rattle.head.specs.Held.{HeadShaped, held, sound_in}
use Rattle.head.proofs.Held.{held-sound, held-n, held-size}
use Rattle.solutions.specs.Choices.{partner_of, completed_value, Led}
use Rattle.solutions.proofs.Choices.{completed-live, completed-follower}

module _ (h : Head) (rows : List ℕ) (S : HeadShaped h) (t : sound_in h rows ≡ true) (values : List ℕ)
    (choice : (i : ℕ) → i < h.n → free (held h rows) i ≡ true → has (get_or h.domains i 0) (get_or values i 0) ≡ true) where
  leader-choice : (i l : ℕ) → get_or h.leaders i 0 ≡ suc l → has (get_or h.domains l 0) (get_or values l 0) ≡ true
  unfolding held
  leader-choice i l e =
      let N = held-sound h rows S t in
      choice l (leader-n (held h rows) N i l e) (leader-is-free (held h rows) N i l e)

  pub choice-led : h.n ≤ length values → Led width h.n h.leaders values
  unfolding held
  choice-led m =
      let N = held-sound h rows S t in
      record {
        led_n = held-n h rows t;
        led_length = m;
        leader_below = λ i l _ e. (N.leader_free i l e).0;
        leader_live = λ i l _ e. (N.leader_free i l e).1;
        leader_value = λ i l _ e. has-below width _ _ (leader-choice i l e) (S.domains_array.element_lt l);
      }

  -- The lowest partner in a word is the lowest below the size, since there is one.
  partner-first : (i l : ℕ) → get_or h.leaders i 0 ≡ suc l
      → partner_of width rows l i (get_or h.domains i 0) (get_or values l 0) ≡ first (get_or h.sizes i 0) (partner (held h rows) l i (get_or values l 0))
  unfolding held partner partner_of
  partner-first i l e =
      let most = held-size h rows S t i in
      first-widen (get_or h.sizes i 0) width _ (omega arith)
      (partner-some (held h rows) (held-sound h rows S t) i l (get_or values l 0) e (leader-choice i l e))

  pub value-is-completed : (i : ℕ) → completed_value width h.domains h.leaders rows values i ≡ completed (held h rows) (λ (j : ℕ). get_or values j 0) i
  unfolding held
  value-is-completed i =
      let N = held h rows in
      free-or-led N i
      (λ f. sym (completed-live width h.domains h.leaders rows values i (free-e N i f)) ∙ sym (completed-keeps N _ i f))
      (λ l e. sym (completed-follower width h.domains h.leaders rows values i l (get_or values l 0) (λ q. let x : ⊥ = omega arith in x) (omega arith) refl)
      ∙ partner-first i l e
      ∙ sym (completed-led N _ i l e))
