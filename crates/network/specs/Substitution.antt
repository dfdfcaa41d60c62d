-- Composition and substitution as source document 000 publishes them (section 2; section 3, Definition 1).
use Rattle.std.specs.Prelude.{Bool, true, false, ℕ, eqb}
use Rattle.bounded.specs.Bool.{and, or, implies, not, if}
use Rattle.bounded.specs.Fold.{some}
use Rattle.network.specs.Network.{Network}

-- The constraint c_ij between values of the domains: "If there is no constraint on i and j, c_ij denotes a universal relation".
-- (In a state an unstated pair allows nothing: that is how it is held, and not what it means.)
unfoldable pub relation : Network → ℕ → ℕ → ℕ → ℕ → Bool
relation N i j a b = and (and (N.domain i a) (N.domain j b)) (implies (N.stated i j) (N.allows i j a b))

-- c_jk ∘ c_ij = { (a, c) | there is b in D_j such that (a, b) in c_ij and (b, c) in c_jk }
unfoldable pub compose : Network → ℕ → ℕ → ℕ → ℕ → ℕ → Bool
compose N i j k a c = some (N.size j) (λ (b : ℕ). and (N.domain j b) (and (relation N i j a b) (relation N j k b c)))

-- c'_ik = c_ik ∩ (c_jk ∘ c_ij)
unfoldable pub substituted : Network → ℕ → ℕ → ℕ → ℕ → ℕ → Bool
substituted N i j k a c = and (relation N i k a c) (compose N i j k a c)

-- x, y are the pair p, q, in this order.
unfoldable pub is_pair : ℕ → ℕ → ℕ → ℕ → Bool
is_pair p q x y = and (eqb x p) (eqb y q)

-- "To substitute i for j in c_jk, using c_ij, is to get a new CSP where c_jk is replaced by c'_ik." Both sides of each pair are held.
unfoldable pub substitute : Network → ℕ → ℕ → ℕ → Network
substitute N i j k =
    record {
      n = N.n;
      size = N.size;
      domain = N.domain;
      leader = N.leader;
      stated = λ (x y : ℕ). if (or (is_pair i k x y) (is_pair k i x y)) true (if (or (is_pair j k x y) (is_pair k j x y)) false (N.stated x y));
      allows =
          λ (x y a b : ℕ).
          if (is_pair i k x y) (substituted N i j k a b)
          (if (is_pair k i x y) (substituted N i j k b a)
          (if (or (is_pair j k x y) (is_pair k j x y)) false (N.allows x y a b)));
    }
