-- Demand 3 over the definitions ("What demand 3 counts"): of the network M that a list of calls hands back for N.
use Rattle.std.specs.Prelude.{Bool, true, false, ◌↔◌, ◌≡◌, ℕ, ◌<◌}
use Rattle.bounded.specs.Bool.{and}
use Rattle.network.specs.Network.{Network, free, solves}
use Rattle.network.specs.Sound.{Sound}
use Rattle.network.specs.Reduction.{free_count}
use Rattle.network.specs.Completion.{completed, allowed_choice, complete_refusal, NONE, BUILT, verdict, decided, shown}
use Rattle.network.specs.Count.{solution_count, choice_count}

-- M stands for N with the added constraint p: what a list of calls keeps. p says that a solution keeps to the tables that the calls added.
pub record Keeps (N M : Network) (p : (ℕ → ℕ) → Bool) : Type 0 where
  pub same_n : M.n ≡ N.n
  pub same_size : (i : ℕ) → M.size i ≡ N.size i
  pub still_sound : Sound M
  pub same_solutions : (f : ℕ → ℕ) → solves M f ≡ and (solves N f) (p f)

pub record Promised (N M : Network) (p : (ℕ → ℕ) → Bool) : Type 0 where
  -- "the tester says yes to a buffer exactly when its bytes are a build of the sheet"
  pub tester : (f : ℕ → ℕ) → solves M f ≡ and (solves N f) (p f)
  -- "From every allowed choice the completer gives a build of the sheet": it does not refuse,
  pub accepts : (f : ℕ → ℕ) → allowed_choice M f ≡ true → complete_refusal M f ≡ 0
  -- keeps the values of the free variables,
  pub keeps : (f : ℕ → ℕ) (i : ℕ) → free M i ≡ true → completed M f i ≡ f i
  -- and gives a solution,
  pub completes : (f : ℕ → ℕ) → allowed_choice M f ≡ true → and (solves N (completed M f)) (p (completed M f)) ≡ true
  -- "and no other build of the sheet has these values at the live options"
  pub only : (f g : ℕ → ℕ) → allowed_choice M f ≡ true → and (solves N g) (p g) ≡ true
      → ((i : ℕ) → i < N.n → free M i ≡ true → g i ≡ f i)
      → (i : ℕ) → i < N.n → g i ≡ completed M f i
  -- "the number of allowed choices equals the number of builds of the sheet"
  pub counted : choice_count M ≡ solution_count N p
  -- "the verdict is NONE only when the sheet has no build"
  pub none_only : verdict M ≡ NONE → (f : ℕ → ℕ) → and (solves N f) (p f) ≡ false
  -- "what demand 3 says of the verdict with one live option, NONE and the build shown alike, now holds wherever no two live options are stated
  -- together" (document 02): "it is NONE exactly when the sheet has no build,
  pub none_when : decided M ≡ true → ((f : ℕ → ℕ) → and (solves N f) (p f) ≡ false) → verdict M ≡ NONE
  -- and otherwise BUILT, and the first n bytes shown are a build of the sheet"
  pub built : decided M ≡ true → (verdict M ≡ NONE → ⊥) → (verdict M ≡ BUILT) × (and (solves N (shown M)) (p (shown M)) ≡ true)

-- One free variable is such a case, and so document 01's own sentence still holds: "With exactly one live option it is NONE exactly when the sheet has no
-- build, and otherwise BUILT, and the first n bytes shown are a build of the sheet".
pub record OneLive (N M : Network) (p : (ℕ → ℕ) → Bool) : Type 0 where
  pub none_exactly : free_count M ≡ 1 → (verdict M ≡ NONE) ↔ ((f : ℕ → ℕ) → and (solves N f) (p f) ≡ false)
  pub built_otherwise : free_count M ≡ 1 → (verdict M ≡ NONE → ⊥) → (verdict M ≡ BUILT) × (and (solves N (shown M)) (p (shown M)) ≡ true)
