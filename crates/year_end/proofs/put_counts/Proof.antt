-- One after the other.
use mathlib.Core.Path.{◌∙◌, ap}
use Prim.Native.Nat.{ℕ}
use borrow.Author.Rules.{rules}
use Rattle.bins_counts.specs.Counts.{plus}
use Rattle.year_end.proofs.Laws.{counts-put}
use Rattle.year_end.proofs.put_counts.Statement.{statement}
use Rattle.year_end.proofs.put_counts.Tie as tie

returns : tie.Need-returns
returns c =
    let e = c in
    let z6 = e in
    let pe = z6 in
    let z5 = pe in
    let z4 = z5 in
    let z3 = z4 in
    let z2 = z3 in
    let z1 = z2 in
    let s3 = z1 in
    let s2 = s3 in
    let s1 = s2 in
    let a = s1.args in
    let n = s2.sum-refused.ensures ∙ ap (λ (k : ℕ). plus k a.r28) s1.sum.ensures in
    counts-put a.ok a.r28 a.r29 a.text _ _ _ _ _ _ z1.size.ensures z2.size-2.ensures z3.size-3.ensures z4.size-4.ensures
    (z5.size-5.ensures ∙ s3.sum-all.ensures ∙ ap (λ (k : ℕ). plus k a.ok) n)
    (z6.size-6.ensures ∙ n)
    pe.put_entries-next.ensures
    e.put_end.ensures

pub put_counts_spec : {M : Type 1} → statement M
put_counts_spec =
    tie.close
    (tie.spec
    (λ c κs. search rules)
    (λ c κs. search rules)
    (λ c κs. search rules)
    (λ c κs. search rules)
    (λ c κs. search rules)
    (λ c κs. search rules)
    (λ c κs. search rules)
    (λ c κs. search rules)
    (λ c κs. search rules)
    (λ c κs. search rules)
    (λ c κs. search rules)
    (λ c. search rules)
    returns)
