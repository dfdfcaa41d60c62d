-- Every call of a list, refused or not, keeps the solutions that keep to the tables added.
use mathlib.Core.Bool.{true, false}
use mathlib.Core.List.{List, [], ◌∷◌, ◌++◌}
use mathlib.Core.Path.{◌≡◌, refl, sym, ap, ap₂, ◌∙◌}
use native.Mathlib.Omega.{arith}
use lib.ListN.{length}
use Prim.Native.Nat.{ℕ, zero, suc, pred}
use lib.Dec.{eqb}
use borrow.Author.Tests.{eqb-true}
use Rattle.bounded.specs.Bool.{and, or}
use Rattle.bounded.proofs.Bool.{by_cases, clash, and_l, and_r, and_assoc, and-true, true-and, or_l, or_r, if-true, if-false}
use Rattle.network.specs.Network.{Network}
use Rattle.network.specs.Sound.{Sound}
use Rattle.network.specs.Step.{outside, refusal, legal}
use Rattle.network.specs.Reduction.{reduce, lead, lead_refusal}
use Rattle.network.specs.Trimming.{alternate}
use Rattle.network.specs.Sheet.{Table}
use Rattle.network.specs.Added.{meets_table, add_refusal, added}
use Rattle.network.specs.Calls.{Call, follow_step, full_reduction, trimmed_reduction, led_reduction, add_table, refuses, made, answer, after, tables_of, adds, added_by, keeps_to, tableless}
use Rattle.network.specs.Promise.{Keeps}
use Rattle.network.proofs.Reduction.{keeps-refl, keeps_then, keeps-cong, step_keeps, run-keeps, reduce-run}
use Rattle.network.proofs.Trimming.{alternate-keeps}
use Rattle.network.proofs.Lead.{lead-keeps}
use Rattle.network.proofs.Added.{not_refused, table-keeps}

zero-outside : (N : Network) → outside N 0 ≡ true
unfolding outside
zero-outside N = or_l _ _ refl

outside-refused : (N : Network) (l f : ℕ) → or (outside N l) (outside N f) ≡ true → refusal N l f ≡ 10
unfolding refusal
outside-refused N l f h = if-true _ _ _ h

-- A step that is not refused is legal, variables counted from 0: a variable number 0 is refused.
pub not-refused-legal : (N : Network) (l f : ℕ) → eqb (refusal N l f) 0 ≡ true → legal N (pred l) (pred f) ≡ true
unfolding legal
not-refused-legal N zero f h = clash h (rw (outside-refused N zero f (or_l _ _ (zero-outside N))))
not-refused-legal N (suc l) zero h = clash h (rw (outside-refused N (suc l) zero (or_r _ _ (zero-outside N))))
not-refused-legal N (suc l) (suc f) h = h

-- A call, whichever it is.
module _ (N : Network) (c : Call) where
  pub answer-taken : eqb (refuses N c) 0 ≡ true → answer N c ≡ (made N c).network
  unfolding answer
  answer-taken h = if-true _ _ _ h

  -- "A refused call hands back what it was given."
  pub answer-refused : eqb (refuses N c) 0 ≡ false → answer N c ≡ N
  unfolding answer
  answer-refused h = if-false _ _ _ h

  pub adds-taken : eqb (refuses N c) 0 ≡ true → adds N c ≡ tables_of c
  unfolding adds
  adds-taken h = if-true _ _ _ h

  pub adds-refused : eqb (refuses N c) 0 ≡ false → adds N c ≡ []
  unfolding adds
  adds-refused h = if-false _ _ _ h

pub keeps-to-none : (f : ℕ → ℕ) → keeps_to [] f ≡ true
unfolding keeps_to
keeps-to-none f = refl

pub keeps-to-one : (x y : ℕ) (rows : List ℕ) (f : ℕ → ℕ) → keeps_to (record { first = x; second = y; rows = rows } ∷ []) f ≡ meets_table (pred x) (pred y) rows f
unfolding keeps_to
keeps-to-one x y rows f = and-true _

keeps-to-both : (ts us : List Table) (f : ℕ → ℕ) → keeps_to (ts ++ us) f ≡ and (keeps_to ts f) (keeps_to us f)
unfolding keeps_to
keeps-to-both [] us f = sym (true-and _)
keeps-to-both (t ∷ ts) us f = ap (and _) (keeps-to-both ts us f) ∙ sym (and_assoc _ (keeps_to ts f) (keeps_to us f))

-- A call that adds nothing keeps the solutions as they are.
keeps-none : (N M : Network) → Keeps N M (λ (f : ℕ → ℕ). true) → Keeps N M (keeps_to [])
keeps-none N M k = keeps-cong N M _ _ (λ f. sym (keeps-to-none f)) k

-- What a call makes where it is not refused keeps the solutions, but for those that break the table it adds: a clause for each call.
made-keeps : (N : Network) → Sound N → (c : Call) → eqb (refuses N c) 0 ≡ true → Keeps N (made N c).network (keeps_to (tables_of c))
unfolding refuses made tables_of
made-keeps N s (follow_step l f) t = keeps-none N _ (step_keeps N s (pred l) (pred f) (not-refused-legal N l f t))
made-keeps N s full_reduction t = keeps-none N _ (run-keeps s (reduce-run N))
made-keeps N s trimmed_reduction t = keeps-none N _ (alternate-keeps N s)
made-keeps N s (led_reduction l) t = keeps-none N _ (lead-keeps N s (pred l))
made-keeps N s (add_table x y rows) t =
    let inside = not_refused N x y rows (eqb-true _ 0 t) in
    keeps-cong N _ _ _ (λ f. sym (keeps-to-one x y rows f)) (table-keeps N (pred x) (pred y) rows s inside.0 inside.1)

-- So does every call, refused or not.
pub answer_keeps : (N : Network) → Sound N → (c : Call) → Keeps N (answer N c) (keeps_to (adds N c))
answer_keeps N s c =
    by_cases (eqb (refuses N c) 0)
    (λ t. rw (answer-taken N c t, adds-taken N c t) (made-keeps N s c t))
    (λ t. rw (answer-refused N c t, adds-refused N c t) (keeps-none N N (keeps-refl N s)))

pub after-keeps : (N : Network) → Sound N → (cs : List Call) → Keeps N (after N cs) (keeps_to (added_by N cs))
unfolding after added_by
after-keeps N s [] = keeps-none N N (keeps-refl N s)
after-keeps N s (c ∷ cs) =
    let k : Keeps N (answer N c) (keeps_to (adds N c)) = answer_keeps N s c in
    keeps-cong N (after (answer N c) cs) _ _ (λ f. sym (keeps-to-both (adds N c) (added_by (answer N c) cs) f))
    (keeps_then N (answer N c) (after (answer N c) cs) _ _ k (after-keeps (answer N c) k.still_sound cs))

-- Two lists of calls, one after the other.
pub after_both : (N : Network) (cs ds : List Call) → after N (cs ++ ds) ≡ after (after N cs) ds
unfolding after
after_both N [] ds = refl
after_both N (c ∷ cs) ds = after_both (answer N c) cs ds

-- A call that is to add nothing adds nothing, refused or not.
pub adds_none : (N : Network) (c : Call) → tables_of c ≡ [] → adds N c ≡ []
adds_none N c e = by_cases (eqb (refuses N c) 0) (λ t. adds-taken N c t ∙ e) (λ t. adds-refused N c t)

-- Follow steps and reductions add nothing.
pub tableless-adds : (N : Network) (cs : List Call) → tableless cs ≡ true → added_by N cs ≡ []
unfolding tableless added_by
tableless-adds N [] h = refl
tableless-adds N (c ∷ cs) h = ap₂ (λ (ts us : List Table). ts ++ us) (adds_none N c (empty (tables_of c) (eqb-true _ 0 (and_l _ _ h)))) (tableless-adds (answer N c) cs (and_r _ _ h))
  where
    empty : (ts : List Table) → length ts ≡ 0 → ts ≡ []
    empty [] z = refl
    empty (t ∷ ts) z = absurd (let b : ⊥ = omega arith in b)

-- Which refusal and which count each call has: `made-keeps` holds of any.
pub step_call : (N : Network) (l f : ℕ) → (refuses N (follow_step l f) ≡ refusal N l f) × ((made N (follow_step l f)).steps ≡ 1)
unfolding refuses made
step_call N l f = (refl, refl)

pub full-call : (N : Network) → (refuses N full_reduction ≡ 0) × (made N full_reduction ≡ reduce N)
unfolding refuses made
full-call N = (refl, refl)

pub trimmed-call : (N : Network) → (refuses N trimmed_reduction ≡ 0) × (made N trimmed_reduction ≡ alternate N)
unfolding refuses made
trimmed-call N = (refl, refl)

pub led-call : (N : Network) (l : ℕ) → (refuses N (led_reduction l) ≡ lead_refusal N l) × (made N (led_reduction l) ≡ lead N (pred l))
unfolding refuses made
led-call N l = (refl, refl)
