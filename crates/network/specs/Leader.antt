-- What refuses a leader that is named (document 02, L12), counted from 1.
use Rattle.std.specs.Prelude.{true, false, ◌↔◌, ◌≡◌, ℕ, pred}
use Rattle.network.specs.Network.{Network, free}
use Rattle.network.specs.Reduction.{lead_refusal}
use Rattle.network.specs.Added.{Numbered}

-- "then 10, then 11 when the named option is not live", each exactly when its own cause holds and none before it, and 0 where none does.
pub record LeadRefuses (N : Network) (l : ℕ) : Type 0 where
  pub number_10 : (lead_refusal N l ≡ 10) ↔ (Numbered N l → ⊥)
  pub number_11 : (lead_refusal N l ≡ 11) ↔ (Numbered N l × (free N (pred l) ≡ false))
  pub number_0 : (lead_refusal N l ≡ 0) ↔ (Numbered N l × (free N (pred l) ≡ true))
