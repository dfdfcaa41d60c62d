-- What the search answers of a state, in the sentences of document 02. Together with the contract of the call, which cites the same `search_of`, it speaks of
-- the code.
use Rattle.std.specs.Prelude.{true, false, List, ◌↔◌, ◌≡◌, ℕ, ◌≤◌, ◌<◌, length, get_or, take, replicate}
use Rattle.network.specs.Completion.{NONE, BUILT}
use Rattle.network.specs.Search.{precedes, choice_product}
use Rattle.answers.specs.Answers.{says, rules, no_verdict}
use Rattle.state.specs.declared.state.State.{State}
use Rattle.state.specs.View.{Shaped, view, sound_state}
use Rattle.state.specs.Solutions.{values_of, tested, verdict_of, search_of}

-- "A build of a state is n bytes to which the tester says yes."
abbrev pub Build : State → List ℕ → Type 0
Build s b = tested s b ≡ says true

-- "the first build, live options compared in ascending number and lower values first": no build comes before it.
pub record FirstBuild (s : State) (b : List ℕ) : Type 0 where
  pub is_build : Build s b
  pub none_before : (c : List ℕ) → Build s c → precedes (view s) (values_of c) (values_of b) ≡ false

-- The answer that shows a build: "as the verdict's is, zero past n".
pub record Shows (s : State) (build : List ℕ) : Type 0 where
  pub says_built : search_of s ≡ rules BUILT build
  pub sixteen : length build ≡ 16
  pub past_n : (i : ℕ) → s.n ≤ i → get_or build i 0 ≡ 0
  pub first_build : FirstBuild s (take s.n build)

pub record Searches (s : State) : Type 0 where
  -- "It refuses with 9, and then with 23 when the product of the live list sizes exceeds 1,000,000". A refusal shows no kind, and zeros.
  pub nine : sound_state s ≡ false → search_of s ≡ no_verdict 9 (replicate 16 0)
  pub twenty_three : sound_state s ≡ true → 1000000 < choice_product (view s) → search_of s ≡ no_verdict 23 (replicate 16 0)
  -- Else: "It says none exactly when the state has no build", "and all zero with none";
  pub none_exactly : sound_state s ≡ true → choice_product (view s) ≤ 1000000
      → (search_of s ≡ rules NONE (replicate 16 0)) ↔ ((b : List ℕ) → Build s b → ⊥)
  -- otherwise it "finds the first build",
  pub found_first : sound_state s ≡ true → choice_product (view s) ≤ 1000000 → (search_of s ≡ rules NONE (replicate 16 0) → ⊥)
      → (build : List ℕ) × Shows s build
  -- of which there is one.
  pub one_first : sound_state s ≡ true → (b c : List ℕ) → FirstBuild s b → FirstBuild s c → b ≡ c
  -- "an empty list makes that product 0": where the verdict is NONE the search says none, and never refuses with 23;
  pub none_alike : (build : List ℕ) → verdict_of s ≡ rules NONE build → search_of s ≡ rules NONE build
  -- where it is BUILT both show the same build, unless there are too many choices.
  pub built_alike : (build : List ℕ) → verdict_of s ≡ rules BUILT build → choice_product (view s) ≤ 1000000 → search_of s ≡ rules BUILT build

-- Of every state, sound or not.
unfoldable pub SearchesEvery : Type 0
SearchesEvery = (s : State) → Shaped s → Searches s
