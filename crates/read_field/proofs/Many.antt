-- Items parsed one by one: what is left to parse after some of them, and what the whole comes to.
use mathlib.Core.List.{List, [], ◌∷◌, ◌++◌, append-nil}
use mathlib.Core.Path.{◌≡◌, refl, ◌∙◌}
use Prim.Native.Nat.{ℕ, zero, suc}
use lib.Seq.{append_snoc}
use Rattle.cause.specs.declared.Cause.{Cause}
use Rattle.format.specs.Layout.{Test}
use Rattle.format.specs.Parse.{Parse, got, bad, bind, field, many, fields}

-- A parse with what was parsed before it in front.
unfoldable pub prepend : {A : Type 0} → List A → Parse (List A) → Parse (List A)
prepend done p = bind p (λ xs end. got (done ++ xs) end)

module _ {A : Type 0} where
  pub prepend-none : (p : Parse (List A)) → p ≡ prepend [] p
  unfolding prepend bind
  prepend-none (got xs end) = refl
  prepend-none (bad c at) = refl

  prepend-item : (done : List A) (x : A) (p : Parse (List A)) → prepend done (bind p (λ xs end. got (x ∷ xs) end)) ≡ prepend (done ++ (x ∷ [])) p
  unfolding prepend bind
  prepend-item done x (got xs end) = rw append_snoc
  prepend-item done x (bad c at) = refl

-- `whole` is a run of items, of which `done` are parsed and so many are left, from a place on.
module _ {S A : Type 0} (whole : Parse (List A)) (step : S → A → S) (item : S → List ℕ → ℕ → Parse A) (bytes : List ℕ) where
  pub many-begins : (count : ℕ) (s : S) (at : ℕ) → whole ≡ many step item count s bytes at → whole ≡ prepend [] (many step item count s bytes at)
  many-begins count s at e = e ∙ prepend-none _

  module _ (done : List A) (left : ℕ) (s : S) (at : ℕ) (so_far : whole ≡ prepend done (many step item left s bytes at)) where
    pub many-ends : left ≡ zero → whole ≡ got done at
    unfolding prepend bind many
    many-ends z = so_far ∙ rw z (rw append-nil)

    module _ (fewer : ℕ) (one : left ≡ suc fewer) where
      pub many-goes-on : (x : A) (next : ℕ) → item s bytes at ≡ got x next
          → whole ≡ prepend (done ++ (x ∷ [])) (many step item fewer (step s x) bytes next)
      unfolding bind many
      many-goes-on x next e = so_far ∙ rw (one, e) (prepend-item done x _)

      pub many-stops : (c : Cause) (place : ℕ) → item s bytes at ≡ bad c place → whole ≡ bad c place
      unfolding prepend bind many
      many-stops c place e = so_far ∙ rw (one, e)

-- Many fields, each of which knows nothing of the ones before.
module _ (k : ℕ) (test : ℕ → Test) (bytes : List ℕ) where
  module _ (whole : Parse (List ℕ)) (done : List ℕ) (left at : ℕ) (so_far : whole ≡ prepend done (fields k test left bytes at)) where
    pub fields-end : left ≡ zero → whole ≡ got done at
    unfolding fields
    fields-end = many-ends whole _ _ bytes done left 0 at so_far

    pub fields-go-on : (fewer : ℕ) → left ≡ suc fewer → (x next : ℕ) → field k test bytes at ≡ got x next
        → whole ≡ prepend (done ++ (x ∷ [])) (fields k test fewer bytes next)
    unfolding fields
    fields-go-on fewer one x next e = many-goes-on whole _ _ bytes done left 0 at so_far fewer one x next e

    pub fields-stop : (fewer : ℕ) → left ≡ suc fewer → (c : Cause) (place : ℕ) → field k test bytes at ≡ bad c place → whole ≡ bad c place
    unfolding fields
    fields-stop fewer one c place e = many-stops whole _ _ bytes done left 0 at so_far fewer one c place e
