-- The loop that reads the sizes.
use mathlib.Core.List.{List}
use mathlib.Core.Path.{◌≡◌, ◌∙◌}
use Prim.Native.Nat.{ℕ, suc, ◌+◌, ◌-◌, ◌≤◌, ◌<◌}
use native.Mathlib.Numerals.{add-one}
use native.Mathlib.Omega.{arith}
use mir.Syntax.{w8}
use mir.Val.{Fits}
use lib.Dec.{eqb}
use lib.ListN.{length, get_or, set, take, replicate, length-set}
use lib.Seq.{take-suc-set}
use borrow.Author.Tests.{eqb-true, eqb-false}
use Rattle.bounded.proofs.Bool.{by_cases, if-true, if-false}
use Rattle.bounded.proofs.Fill.{zeros-at, zeros-length}
use Rattle.bounded.proofs.Table.{get_d_set}
use Rattle.words.specs.Word.{width}
use Rattle.pairs.specs.Pairs.{variables}
use Rattle.cause.specs.declared.Cause.{Cause}
use Rattle.cause.specs.declared.Cause.TheVariants.{Size}
use Rattle.std.specs.Prelude.{Ok, Err}
use Rattle.format.specs.Layout.{size_test}
use Rattle.format.specs.Parse.{got, bad, field, fields}
use Rattle.read_field.specs.Fields.{read_as, range_test}
use Rattle.read_tables.specs.Tables.{Sized}
use Rattle.read_body.specs.Reading.{SizesRead}
use Rattle.read_field.proofs.Fields.{field-got, size-range, range-passed}
use Rattle.read_field.proofs.Many.{prepend, prepend-none, fields-end, fields-go-on, fields-stop}

-- The first i sizes stand in the array, and the next one at a place.
pub record SizesSoFar (bytes : List ℕ) (n most : ℕ) (sizes : List ℕ) (at i : ℕ) : Type 0 where
  pub within : i ≤ n
  pub parsed : fields 1 (size_test most) n bytes 4 ≡ prepend (take i sizes) (fields 1 (size_test most) (n - i) bytes at)
  pub sized : Sized i sizes

pub sizes-none : (bytes : List ℕ) (n most : ℕ) (sizes : List ℕ) → sizes ≡ replicate variables 0 → SizesSoFar bytes n most sizes 4 0
sizes-none bytes n most sizes e =
    record {
      within = omega arith;
      parsed = rw (let z : n - 0 ≡ n = omega arith in z) (prepend-none _);
      sized =
          record {
            length_is = zeros-length variables sizes e;
            small = λ k. rw (zeros-at variables sizes e k) (omega arith);
            past = λ k h. zeros-at variables sizes e k;
          };
    }

-- A size fits a byte.
pub size_fits : (bytes : List ℕ) (at : ℕ) {most v next : ℕ} → most ≤ width → field 1 (range_test 1 most Size) bytes at ≡ got v next → Fits w8 v
size_fits bytes at {most} {v} h e = omega (arith, range-passed 1 most v Size (field-got e).passed)

-- What stands at k after a store at i.
stored : (P : ℕ → Type 0) (l : List ℕ) (i k v : ℕ) → i < length l → (k ≡ i → P v) → ((k ≡ i → ⊥) → P (get_or l k 0)) → P (get_or (set l i v) k 0)
stored P l i k v h f g =
    rw (get_d_set l i k v 0 h)
    (by_cases (eqb k i)
    (λ t. rw (if-true (eqb k i) v (get_or l k 0) t) (f (eqb-true k i t)))
    (λ t. rw (if-false (eqb k i) v (get_or l k 0) t) (g (eqb-false k i t))))

module _ {bytes : List ℕ} {n most : ℕ} {sizes : List ℕ} {at i : ℕ} (before : SizesSoFar bytes n most sizes at i) where
  pub sizes-more : i < n → n ≤ variables → most ≤ width → {v next : ℕ} → field 1 (range_test 1 most Size) bytes at ≡ got v next
      → SizesSoFar bytes n most (set sizes i v) next (i + 1)
  sizes-more l m h {v} {next} e =
      let room : i < length sizes = omega (arith, before.sized.length_is) in
      let passed : (1 ≤ v) × (v ≤ most) = range-passed 1 most v Size (field-got e).passed in
      record {
        within = omega arith;
        parsed =
            rw (add-one i, take-suc-set sizes i v room)
            (fields-go-on 1 (size_test most) bytes _ _ (n - i) at before.parsed (n - suc i) (omega arith) v next (rw (size-range most) e));
        sized =
            record {
              length_is = length-set sizes i v ∙ before.sized.length_is;
              small = λ k. stored (λ x. x ≤ width) sizes i k v room (λ _. omega arith) (λ _. before.sized.small k);
              past = λ k h. stored (λ x. x ≡ 0) sizes i k v room (λ q. absurd (let x : ⊥ = omega arith in x))
                  (λ _. before.sized.past k (omega arith));
            };
      }

  pub sizes-end : n ≤ i → SizesRead bytes n most sizes (Ok (record { value = n; next = at }))
  unfolding read_as
  sizes-end h =
      let e : i ≡ n = omega (arith, before.within) in
      record {
        parsed = rw e at (fields-end 1 (size_test most) bytes _ (take i sizes) (n - i) at before.parsed (omega arith));
        sized = rw e at before.sized;
      }

  pub sizes-refused : i < n → {c : Cause} {place : ℕ} → field 1 (range_test 1 most Size) bytes at ≡ bad c place
      → SizesRead bytes n most sizes (Err (record { cause = c; place = place }))
  unfolding read_as
  sizes-refused l {c} {place} e =
      record {
        parsed = fields-stop 1 (size_test most) bytes _ _ (n - i) at before.parsed (n - suc i) (omega arith) c place (rw (size-range most) e);
        sized =
            record {
              length_is = before.sized.length_is;
              small = before.sized.small;
              past = λ k h. before.sized.past k (omega arith);
            };
      }
