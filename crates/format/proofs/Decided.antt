-- Of bytes that are accepted: where a call leaves no two live options stated together, the verdict decides (document 02, L12 and L14).
use mathlib.Core.Bool.{true, false}
use mathlib.Core.List.{List}
use mathlib.Core.Logic.{◌↔◌}
use mathlib.Core.Path.{◌≡◌, sym, ◌∙◌}
use Prim.Native.Nat.{ℕ}
use Rattle.bounded.proofs.Bool.{clash, and-true}
use Rattle.network.specs.Network.{Network}
use Rattle.network.specs.Completion.{NONE, BUILT, OPEN, decided, verdict, shown}
use Rattle.network.specs.Promise.{Keeps}
use Rattle.network.specs.Sheet.{Sheet, network_of}
use Rattle.network.proofs.Completion.{verdict-open}
use Rattle.network.proofs.Promise.{keeps-promise}
use Rattle.format.specs.Parse.{Octets, got, parse}
use Rattle.format.specs.Builds.{is_a_build}
use Rattle.format.proofs.Builds.{builds-solve}

-- The verdict "is never OPEN", "and NONE is said exactly when no build exists": of the builds read off the bytes alone.
pub record Decides (bytes : List ℕ) (M : Network) : Type 0 where
  pub never_open : verdict M ≡ OPEN → ⊥
  pub none_exactly : (verdict M ≡ NONE) ↔ ((f : ℕ → ℕ) → is_a_build bytes f ≡ false)
  pub built_otherwise : (verdict M ≡ NONE → ⊥) → (verdict M ≡ BUILT) × (is_a_build bytes (shown M) ≡ true)

module _ (bytes : List ℕ) (octets : Octets bytes) (s : Sheet) (end : ℕ) (e : parse bytes ≡ got s end) where
  -- Wherever no two free variables are stated together, the verdict decides.
  pub decided-decides : (M : Network) → Keeps (network_of s) M (λ (f : ℕ → ℕ). true) → decided M ≡ true → Decides bytes M
  decided-decides M k d =
      let P = keeps-promise (network_of s) M _ k in
      let b = builds-solve bytes octets s end e in
      record {
        never_open = λ v. clash d (verdict-open M v).1;
        none_exactly = (λ v f. b f ∙ (sym (and-true _) ∙ P.none_only v f), λ no. P.none_when d (λ f. and-true _ ∙ (sym (b f) ∙ no f)));
        built_otherwise = λ v. let r = P.built d v in (r.0, b _ ∙ (sym (and-true _) ∙ r.1));
      }
