-- An array that is made by calls, each of which leaves the closure as it was.
use mathlib.Core.Path.{◌≡◌, refl, sym, subst, ◌∙◌}
use mathlib.Core.List.{List, [], ◌∷◌}
use Prim.Native.Nat.{ℕ, zero, suc, ◌+◌, ◌≤◌, ◌<◌}
use native.Mathlib.Omega.{arith}
use lib.ListN.{get_or}
use denote.Param.Members.{Mut, Called}
use Rattle.std.specs.List.{FoldsTo}
use Rattle.std.specs.Iterator.{CallableAtEachTurn}
use Rattle.std.specs.Array.{index_steps, IsFromFnResultFrom, IsFromFnResult}
use lib.Dec.{eqb}
use borrow.Author.Tests.{eqb-true, eqb-false}
use Rattle.bounded.proofs.Bool.{by_cases}
use Rattle.bounded.specs.Table.{tabulate}
use Rattle.bounded.proofs.Table.{is-table}

module _ {F T : Type 0} (g : Mut F (ℕ × Unit {0}) T) (stays : (f : F) (a : ℕ × Unit {0}) (r : T) (k : F) → Called g f a r k → k ≡ f) where
  -- After any calls it is what it was.
  unmoved : (xs : List ℕ) (p q : F) → FoldsTo (λ p x q. (y : T) × Called g p (x, tt) y q) p xs q → q ≡ p
  unmoved [] p q e = sym e
  unmoved (x ∷ xs) p q e = unmoved xs e.0 q e.2 ∙ stays p (x, tt) e.1.0 e.0 e.1.1

  pub callable : (n : ℕ) (f : F) (Q : F → ℕ → Type 0) → ((i : ℕ) → i < n → Q f i) → CallableAtEachTurn (index_steps n) (λ p x q. (y : T) × Called g p (x, tt) y q) Q 0 f
  callable n f Q h = record {
    at = λ xs t q x u y c e. subst (λ k. Q k x) (sym (unmoved xs f q c)) (h x (let a = e.0 in let b = e.1 in omega arith));
  }

  entries : (f : F) (h : ℕ → T) (ys : List T) (n i : ℕ) → ((k : ℕ) (y : T) (q : F) → k < i + n → Called g f (k, tt) y q → y ≡ h k)
      → IsFromFnResultFrom g f ys i n → (k : ℕ) (d : T) → i ≤ k → k < i + n → get_or ys k d ≡ h k
  entries f h ys zero i m r k d l u = absurd (let x : ⊥ = omega arith in x)
  entries f h ys (suc n) i m r k d l u =
      by_cases (eqb k i)
      (λ t. rw (eqb-true k i t) (r.2.1 d ∙ m i r.1 r.0 (omega arith) r.3))
      (λ t. let o = eqb-false k i t in entries f h ys n (i + 1) (λ j y q b t. m j y q (omega arith) t) (subst (λ z. IsFromFnResultFrom g z ys (i + 1) n) (stays _ _ _ _ r.3) r.4) k d (omega arith) (omega arith))

  pub made : (n : ℕ) (f : F) (h : ℕ → T) (ys : List T) → ((k : ℕ) (y : T) (q : F) → k < n → Called g f (k, tt) y q → y ≡ h k) → IsFromFnResult g f ys n → ys ≡ tabulate n h
  unfolding tabulate
  made zero f h [] m r = refl
  made zero f h (y ∷ ys) m r = absurd (let e = r.long in let x : ⊥ = omega arith in x)
  made (suc n) f h ys m r = is-table (suc n) h ys r.each.1 r.long (λ k l. entries f h ys (suc n) 0 (λ j y q b t. m j y q (omega arith) t) r.each k r.each.1 (omega arith) (omega arith))
