-- The search for the next step: what has been passed over, and what is found.
use mathlib.Core.Bool.{Bool, true, false}
use mathlib.Core.List.{List}
use mathlib.Core.Path.{◌≡◌, sym, ap, ◌∙◌}
use Prim.Native.Nat.{ℕ, ◌≤◌, ◌<◌}
use native.Mathlib.Omega.{arith}
use lib.Dec.{eqb}
use Rattle.std.specs.Prelude.{Option, Some, None, Ok, Err}
use borrow.Author.Tests.{eq-eqb, ne_eqb}
use Rattle.bounded.proofs.Bool.{if-true, if-false, not-true→false}
use Rattle.bounded.proofs.Fold.{some-none, first_is}
use Rattle.cause.proofs.Laws.{number-positive}
use Rattle.cause.specs.declared.Cause.{Cause}
use Rattle.network.specs.Network.{Network}
use Rattle.network.specs.Step.{legal}
use Rattle.network.specs.Reduction.{leading, reducible, next_leader, lowest_follower}
use Rattle.network.proofs.Step.{legal-e}
use Rattle.network.proofs.Reduction.{leading-i, reducible-leads}
use Rattle.head.specs.declared.Head.{Head}
use Rattle.head.specs.Held.{HeadShaped, held, sound_in}
use Rattle.answers.specs.Answers.{outcome_number}
use Rattle.step_judge.specs.Judging.{pair_number}
use Rattle.step_judge.proofs.Judging.{leader_led}
use Rattle.step_choice.specs.Judging.{follower_pair, next_pair, who_leads}
use Rattle.step_choice.specs.declared.Leader.{Leader}
use Rattle.step_choice.specs.declared.Leader.TheVariants as leader
use Rattle.step_choice.proofs.Judging.{legal_at, not-zero, legal-counted}

-- What a judgement says of its number.
pub judged-legal : (k : ℕ) → outcome_number (Ok tt) ≡ k → eqb k 0 ≡ true
unfolding outcome_number
judged-legal k h = eq-eqb k 0 (sym h)

pub judged-refused : (c : Cause) (k : ℕ) → outcome_number (Err c) ≡ k → eqb k 0 ≡ false
unfolding outcome_number
judged-refused c k h = not-zero k _ (sym h) (number-positive c)

-- A variable that is not free leads nobody.
pub led-leads-none : {leader : ℕ} (follows stated single : Bool) → (leader ≡ 0 → ⊥) → eqb (pair_number (eqb leader 0) follows stated single) 0 ≡ false
led-leads-none follows stated single d = not-zero _ 11 (leader_led _ _ _ (ne_eqb _ 0 d)) (omega arith)

-- i with the lowest variable that can follow it, and "the lowest i that has a legal j, with the lowest such j".
module _ (N : Network) where
  lowest-found : (i j : ℕ) → legal N i j ≡ true → ((y : ℕ) → y < j → legal N i y ≡ false) → Some (i, j) ≡ follower_pair N i
  unfolding follower_pair lowest_follower
  lowest-found i j l before =
      sym (if-true _ _ _ (leading-i N i j l) ∙ ap (λ (k : ℕ). Some (i, k)) (first_is N.n (legal N i) j (legal-e N i j l).j_in l before))

  found_first : (i j : ℕ) → legal N i j ≡ true
      → ((x : ℕ) → x < i → leading N x ≡ false) → ((y : ℕ) → y < j → legal N i y ≡ false)
      → Some (i, j) ≡ next_pair N
  unfolding next_leader
  found_first i j l above before =
      let p : next_leader N ≡ i = first_is N.n (leading N) i (legal-e N i j l).i_in (leading-i N i j l) above in
      lowest-found i j l before ∙ sym (ap (follower_pair N) p)

  follower-none : (i : ℕ) → leading N i ≡ false → None ≡ follower_pair N i
  unfolding follower_pair
  follower-none i h = sym (if-false _ _ _ h)

  none_found : ((x : ℕ) → x < N.n → leading N x ≡ false) → None ≡ next_pair N
  unfolding reducible
  none_found h = follower-none (next_leader N) (sym (reducible-leads N) ∙ some-none N.n (leading N) h)

  outside-none : (i : ℕ) → N.n ≤ i → None ≡ follower_pair N i
  unfolding leading
  outside-none i m =
      follower-none i (some-none N.n _ (λ y k. not-true→false _ (λ t. let z : ⊥ = omega (arith, (legal-e N i y t).i_in) in z)))

-- A number that names no variable leads nobody.
pub none-outside : (h : Head) (rows : List ℕ) (i : ℕ) → h.n ≤ i → None ≡ follower_pair (held h rows) i
unfolding held
none-outside h rows i m = outside-none (held h rows) i m

-- Who leads a run, by the kind of leader.
module _ {who : Leader} (N : Network) where
  pub leads-lowest : leader.Lowest ≡ who → next_pair N ≡ follower_pair N (who_leads who N)
  unfolding who_leads
  leads-lowest e = ap (λ (l : Leader). follower_pair N (who_leads l N)) e

  pub leads-named : {i : ℕ} → leader.Named i ≡ who → follower_pair N i ≡ follower_pair N (who_leads who N)
  unfolding who_leads
  leads-named e = ap (λ (l : Leader). follower_pair N (who_leads l N)) e

-- The next pair on the words of a sound head and rows.
module _ {h : Head} (rows : List ℕ) (S : HeadShaped h) (t : sound_in h rows ≡ true) where
  leads-none : (x : ℕ) → x < h.n → ((y : ℕ) → y < h.n → legal_at h.leaders h.domains h.stated rows x y ≡ false)
      → leading (held h rows) x ≡ false
  unfolding held leading
  leads-none x l none = some-none h.n _ (λ y m. legal-counted rows S t x y l m ∙ none y m)

  pub follower-found : {i j : ℕ} → i < h.n → j < h.n → legal_at h.leaders h.domains h.stated rows i j ≡ true
      → ((y : ℕ) → y < j → legal_at h.leaders h.domains h.stated rows i y ≡ false)
      → Some (i, j) ≡ follower_pair (held h rows) i
  follower-found {i} {j} l m is before =
      lowest-found (held h rows) i j (legal-counted rows S t i j l m ∙ is) (λ y k. legal-counted rows S t i y l (omega arith) ∙ before y k)

  pub none-follows : (i : ℕ) → i < h.n → ((y : ℕ) → y < h.n → legal_at h.leaders h.domains h.stated rows i y ≡ false)
      → None ≡ follower_pair (held h rows) i
  none-follows i l none = follower-none (held h rows) i (leads-none i l none)

  pub next-found : {i j : ℕ} → i < h.n → j < h.n → legal_at h.leaders h.domains h.stated rows i j ≡ true
      → ((x : ℕ) → x < i → (y : ℕ) → y < h.n → legal_at h.leaders h.domains h.stated rows x y ≡ false)
      → ((y : ℕ) → y < j → legal_at h.leaders h.domains h.stated rows i y ≡ false)
      → Some (i, j) ≡ next_pair (held h rows)
  next-found {i} {j} l m is above before =
      found_first (held h rows) i j (legal-counted rows S t i j l m ∙ is)
      (λ x k. leads-none x (omega arith) (above x k))
      (λ y k. legal-counted rows S t i y l (omega arith) ∙ before y k)

  pub next-none : ((x : ℕ) → x < h.n → (y : ℕ) → y < h.n → legal_at h.leaders h.domains h.stated rows x y ≡ false)
      → None ≡ next_pair (held h rows)
  unfolding held
  next-none none = none_found (held h rows) (λ x l. leads-none x l (none x l))
