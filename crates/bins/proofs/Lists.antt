-- Lists of bins: what some bin passes, and the bin at a place after all are changed.
use mathlib.Core.Bool.{Bool, true, false}
use mathlib.Core.List.{List, [], ◌∷◌, map}
use mathlib.Core.Path.{◌≡◌, refl}
use Prim.Native.Nat.{ℕ, zero, suc, ◌<◌}
use native.Mathlib.Nat.{not-suc-le-zero, le_of_suc-le-suc, suc-le-suc_iff}
use native.Mathlib.Omega.{arith}
use lib.ListN.{length, get_or}
use Rattle.bounded.proofs.Bool.{clash, or_l, or_r, or_elim, or-false-l, or-false-r, or-false-i}
use Rattle.bins.specs.declared.Bin.{Bin}
use Rattle.bins.specs.Bins.{place, any, no_bin}

pub get_d_map : (f : Bin → Bin) (bs : List Bin) (i : ℕ) → i < length bs → get_or (map f bs) i no_bin ≡ f (get_or bs i no_bin)
get_d_map f [] i l = absurd (not-suc-le-zero l)
get_d_map f (b ∷ bs) zero l = refl
get_d_map f (b ∷ bs) (suc i) l = get_d_map f bs i (le_of_suc-le-suc l)

pub map-place : (f : Bin → Bin) → ((b : Bin) → place (f b) ≡ place b) → (bs : List Bin) → map place (map f bs) ≡ map place bs
map-place f h [] = refl
map-place f h (b ∷ bs) = λ i. h b i ∷ map-place f h bs i

module _ (f : Bin → Bool) where
  pub any_none : ((b : Bin) → f b ≡ false) → (bs : List Bin) → any f bs ≡ false
  any_none h [] = refl
  any_none h (b ∷ bs) = or-false-i _ _ (h b) (any_none h bs)

  -- No bin passes,
  pub any_at : (bs : List Bin) → any f bs ≡ false → (i : ℕ) → i < length bs → f (get_or bs i no_bin) ≡ false
  any_at [] n i l = absurd (not-suc-le-zero l)
  any_at (b ∷ bs) n zero l = or-false-l _ _ n
  any_at (b ∷ bs) n (suc i) l = any_at bs (or-false-r _ _ n) i (le_of_suc-le-suc l)

  -- or the one at some place does.
  pub any-e : (bs : List Bin) → any f bs ≡ true → (i : ℕ) × (i < length bs) × (f (get_or bs i no_bin) ≡ true)
  any-e [] t = clash {b = false} t refl
  any-e (b ∷ bs) t = or_elim _ _ t (λ h. (0, omega arith, h)) (λ h. let r = any-e bs h in (suc r.0, suc-le-suc_iff.1 r.1, r.2))

  pub any-i : (bs : List Bin) (i : ℕ) → i < length bs → f (get_or bs i no_bin) ≡ true → any f bs ≡ true
  any-i [] i l h = absurd (not-suc-le-zero l)
  any-i (b ∷ bs) zero l h = or_l _ _ h
  any-i (b ∷ bs) (suc i) l h = or_r _ _ (any-i bs i (le_of_suc-le-suc l) h)
