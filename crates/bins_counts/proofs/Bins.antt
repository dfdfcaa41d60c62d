-- The bins of counts: each by its variable and value.
use mathlib.Core.Bool.{Bool, true, false}
use mathlib.Core.List.{List, [], ◌∷◌, map}
use mathlib.Core.Path.{◌≡◌, refl, sym, ap, subst, ◌∙◌}
use Prim.Native.Nat.{ℕ, zero, suc, ◌+◌, ◌<◌}
use native.Mathlib.Nat.{not-suc-le-zero, le_of_suc-le-suc, suc-le-suc_iff}
use native.Mathlib.Omega.{arith}
use lib.ListN.{length, get_or, length-map}
use lib.Seq.{ext_get_or}
use Rattle.bounded.specs.Fold.{sum}
use Rattle.bounded.proofs.Bool.{by_cases, clash, or_elim, if-true, if-false}
use Rattle.bins.specs.declared.Bin.{Bin}
use Rattle.bins.specs.Bins.{Place, place, no_bin, places, any, stand_at}
use Rattle.bins.proofs.Lists.{get_d_map, any-e, any-i}
use Rattle.bins.proofs.Places.{stand-i}
use Rattle.bins_counts.specs.Counts.{bin_of_place, bins_at, bins_by, first_of, spot}
use Rattle.bins_counts.proofs.Spots.{no_place, spot-at, places-length, place_at, ahead}

length_at : (ps : List Place) (count : ℕ → ℕ) → length (bins_at ps count) ≡ length ps
unfolding bins_at
length_at [] count = refl
length_at (p ∷ ps) count = ap suc (length_at ps (λ (k : ℕ). count (suc k)))

get_d_at : (ps : List Place) (count : ℕ → ℕ) (i : ℕ) → i < length ps → get_or (bins_at ps count) i no_bin ≡ bin_of_place (get_or ps i no_place) (count i)
unfolding bins_at
get_d_at [] count i l = absurd (not-suc-le-zero l)
get_d_at (p ∷ ps) count zero l = refl
get_d_at (p ∷ ps) count (suc i) l = get_d_at ps (λ (k : ℕ). count (suc k)) i (le_of_suc-le-suc l)

places_of : (ps : List Place) (count : ℕ → ℕ) → map place (bins_at ps count) ≡ ps
unfolding bins_at
places_of [] count = refl
places_of (p ∷ ps) count = λ i. p ∷ places_of ps (λ (k : ℕ). count (suc k)) i

-- The first that passes is the one at i.
pub first-of : (f : Bin → Bool) (bs : List Bin) (i : ℕ) → i < length bs → f (get_or bs i no_bin) ≡ true → ((j : ℕ) → j < i → f (get_or bs j no_bin) ≡ false)
    → first_of f bs ≡ get_or bs i no_bin
first-of f [] i l h n = absurd (not-suc-le-zero l)
first-of f (b ∷ bs) zero l h n = if-true (f b) b (first_of f bs) h
first-of f (b ∷ bs) (suc i) l h n =
    if-false (f b) b (first_of f bs) (n 0 (omega arith)) ∙ first-of f bs i (le_of_suc-le-suc l) h (λ j m. n (suc j) (suc-le-suc_iff.1 m))

-- Where one passes, the first that does is one of them.
pub first_in : (f : Bin → Bool) (bs : List Bin) → any f bs ≡ true → (i : ℕ) × (i < length bs) × (first_of f bs ≡ get_or bs i no_bin)
first_in f [] t = clash {b = false} t refl
first_in f (b ∷ bs) t =
    by_cases (f b)
    (λ h. (0, omega arith, if-true (f b) b (first_of f bs) h))
    (λ h. let r = first_in f bs (or_elim _ _ t (λ k. clash k h) (λ k. k)) in
    (suc r.0, suc-le-suc_iff.1 r.1, if-false (f b) b (first_of f bs) h ∙ r.2))

module _ (n : ℕ) (sizes : List ℕ) where
  abbrev size : ℕ → ℕ
  size i = get_or sizes i 0

  pub bins-length : (counts : List ℕ) → length (bins_by n sizes counts) ≡ sum n (λ (i : ℕ). get_or sizes i 0)
  unfolding bins_by
  bins-length counts = length_at _ _ ∙ places-length (λ (i : ℕ). get_or sizes i 0) n

  pub bins-places : (counts : List ℕ) → map place (bins_by n sizes counts) ≡ places n (λ (i : ℕ). get_or sizes i 0)
  unfolding bins_by
  bins-places counts = places_of _ _

  -- They stand where they must.
  pub bins-stand : (counts : List ℕ) → stand_at (bins_by n sizes counts) (places n (λ (i : ℕ). get_or sizes i 0)) ≡ true
  bins-stand counts = subst (λ (ps : List Place). stand_at (bins_by n sizes counts) ps ≡ true) (bins-places counts) (stand-i (bins_by n sizes counts))

  module _ (o v : ℕ) (l : o < n) (b : v < get_or sizes o 0) where
    pub spot-inside : (counts : List ℕ) → spot sizes o v < length (bins_by n sizes counts)
    unfolding spot
    spot-inside counts = omega (arith, bins-length counts, ahead size o n v l b)

    pub bin_at : (counts : List ℕ) → get_or (bins_by n sizes counts) (spot sizes o v) no_bin ≡ bin_of_place (suc o, v) (get_or counts (spot sizes o v) 0)
    unfolding spot bins_by
    bin_at counts =
        get_d_at _ _ (sum o size + v) (omega (arith, places-length size n, ahead size o n v l b))
        ∙ ap (λ (p : Place). bin_of_place p (get_or counts (sum o size + v) 0)) (place_at size n o v l b)

  -- What is known of the bin of each value is known of the bin at each index.
  module _ (counts : List ℕ) where
    pub at-index : (P : ℕ → Bin → Type 0) → ((o v : ℕ) → o < n → v < get_or sizes o 0 → P (spot sizes o v) (bin_of_place (suc o, v) (get_or counts (spot sizes o v) 0)))
        → (i : ℕ) → i < length (bins_by n sizes counts) → P i (get_or (bins_by n sizes counts) i no_bin)
    unfolding spot
    at-index P h i l =
        let s = spot-at size n i (omega (arith, bins-length counts, l)) in
        let e : i ≡ spot sizes s.variable s.value = s.at in
        subst (λ (k : ℕ). P k (get_or (bins_by n sizes counts) k no_bin)) (sym e)
        (subst (P (spot sizes s.variable s.value)) (sym (bin_at s.variable s.value s.inside s.below counts))
        (h s.variable s.value s.inside s.below))

    -- All bins changed,
    pub bins-map : (g : Bin → Bin) (after : List ℕ)
        → ((o v : ℕ) → o < n → v < get_or sizes o 0 → g (bin_of_place (suc o, v) (get_or counts (spot sizes o v) 0)) ≡ bin_of_place (suc o, v) (get_or after (spot sizes o v) 0))
        → map g (bins_by n sizes counts) ≡ bins_by n sizes after
    bins-map g after h =
        ext_get_or no_bin (map g (bins_by n sizes counts)) (bins_by n sizes after) (length-map (bins_by n sizes counts) g ∙ bins-length counts ∙ sym (bins-length after))
        (λ i l. let m : i < length (bins_by n sizes counts) = omega (arith, length-map (bins_by n sizes counts) g, l) in
        get_d_map g (bins_by n sizes counts) i m
        ∙ at-index (λ (k : ℕ) (b : Bin). g b ≡ get_or (bins_by n sizes after) k no_bin) (λ o v lo bv. h o v lo bv ∙ sym (bin_at o v lo bv after)) i m)

    -- and a bin that passes.
    pub any-spot : {A : Type 0} (f : Bin → Bool) → any f (bins_by n sizes counts) ≡ true
        → ((o v : ℕ) → o < n → v < get_or sizes o 0 → f (bin_of_place (suc o, v) (get_or counts (spot sizes o v) 0)) ≡ true → A) → A
    any-spot {A} f t k =
        let r = any-e f (bins_by n sizes counts) t in
        at-index (λ (i : ℕ) (b : Bin). f b ≡ true → A) (λ o v lo bv. k o v lo bv) r.0 r.1 r.2

    pub spot-any : (f : Bin → Bool) (o v : ℕ) → o < n → v < get_or sizes o 0 → f (bin_of_place (suc o, v) (get_or counts (spot sizes o v) 0)) ≡ true → any f (bins_by n sizes counts) ≡ true
    spot-any f o v l b t =
        any-i f (bins_by n sizes counts) (spot sizes o v) (spot-inside o v l b counts) (subst (λ (x : Bin). f x ≡ true) (sym (bin_at o v l b counts)) t)

    -- The first that passes, by its variable and value.
    pub first-spot : (f : Bin → Bool) (o v : ℕ) → o < n → v < get_or sizes o 0 → f (bin_of_place (suc o, v) (get_or counts (spot sizes o v) 0)) ≡ true
        → ((x w : ℕ) → x < n → w < get_or sizes x 0 → spot sizes x w < spot sizes o v → f (bin_of_place (suc x, w) (get_or counts (spot sizes x w) 0)) ≡ false)
        → first_of f (bins_by n sizes counts) ≡ bin_of_place (suc o, v) (get_or counts (spot sizes o v) 0)
    first-spot f o v l b t none =
        first-of f (bins_by n sizes counts) (spot sizes o v) (spot-inside o v l b counts) (subst (λ (x : Bin). f x ≡ true) (sym (bin_at o v l b counts)) t)
        (λ j m. at-index (λ (k : ℕ) (x : Bin). k < spot sizes o v → f x ≡ false) none j (omega (arith, spot-inside o v l b counts, m)) m)
        ∙ bin_at o v l b counts
