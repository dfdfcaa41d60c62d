-- Choosing and trying call each other. The measure: each variable that is left weighs 34, and the one whose values are tried weighs one more than its values
-- that are not tried yet, 33 at most. So `choose` calls `attempt` for one of the variables left, `attempt` calls `choose` without it and itself with a value less.
use mathlib.Core.Bool.{true}
use mathlib.Core.Path.{◌≡◌, ◌∙◌}
use Prim.Native.Nat.{ℕ, ◌+◌, ◌*◌, ◌<◌}
use native.Mathlib.Omega.{arith}
use lib.ListN.{get_or, length-set}
use borrow.Author.Rules.{rules}
use borrow.Fn.Kinds.{In}
use borrow.Fn.PlainCycle.{Measures, is, falls, and}
use Rattle.bounded.specs.Fold.{count}
use Rattle.bounded.proofs.Fold.{count-le}
use Rattle.words.specs.Word.{width, has}
use Rattle.words.proofs.both.Reads as both-reads
use Rattle.words.proofs.dropped.Reads as dropped-reads
use Rattle.words.proofs.lowest.Reads as lowest-reads
use Rattle.pairs.specs.Pairs.{variables}
use Rattle.pairs.proofs.Runs.{lowest-in, rest-less}
use Rattle.network.specs.Network.{Network, free}
use Rattle.search.specs.Turns.{Left}
use Rattle.search_narrow.proofs.Members.{in-second, above-lowest}
use Rattle.search_narrow.proofs.narrow.Reads as narrow-reads
use Rattle.search.proofs.Choosing.{chosen-end, chosen-next, Taken, tried-none, taken-hit, taken-stuck, taken-miss}
use Rattle.search.proofs.turns.attempt.Reads as attempt
use Rattle.search.proofs.turns.attempt.Kinds as attempt-kinds
use Rattle.search.proofs.turns.+attempt_choose.Lts-attempt as attempt-lts
use Rattle.search.proofs.turns.choose.Reads as choose
use Rattle.search.proofs.turns.choose.Kinds as choose-kinds
use Rattle.search.proofs.turns.+attempt_choose.Lts-choose as choose-lts
use Rattle.search.proofs.turns.next_value.Reads as next-value-reads
use Rattle.search.proofs.turns.+attempt_choose.{statement}
use Rattle.search.proofs.turns.+attempt_choose.Tie.{close}

abbrev μ-attempt : Measures 4 attempt-kinds.ps ℕ
μ-attempt κs a = count width (has a.1.1.1.1.1.0) * 34 + count width (has a.1.1.1.1.0) + 1

abbrev μ-choose : Measures 4 choose-kinds.ps ℕ
μ-choose κs a = count width (has a.1.1.1.0) * 34

abbrev attempt-at : ℕ → In 4 attempt-kinds.ps
attempt-at t = and 4 attempt-kinds.ps (is 4 attempt-kinds.ps μ-attempt t) attempt.Pre

abbrev attempt-below : ℕ → In 4 attempt-kinds.ps
attempt-below t = and 4 attempt-kinds.ps (falls 4 attempt-kinds.ps ◌<◌ μ-attempt t) attempt.Pre

abbrev choose-at : ℕ → In 4 choose-kinds.ps
choose-at t = and 4 choose-kinds.ps (is 4 choose-kinds.ps μ-choose t) choose.Pre

abbrev choose-below : ℕ → In 4 choose-kinds.ps
choose-below t = and 4 choose-kinds.ps (falls 4 choose-kinds.ps ◌<◌ μ-choose t) choose.Pre

abbrev attempt-calls : ℕ → attempt-lts.Claims
attempt-calls t = (
  next-value-reads.Asked,
  next-value-reads.Learnt,
  both-reads.Asked,
  both-reads.Learnt,
  narrow-reads.Asked,
  narrow-reads.Learnt,
  choose-below t,
  choose.Post,
  dropped-reads.Asked,
  dropped-reads.Learnt,
  attempt-below t,
  attempt.Post,
)

abbrev choose-calls : ℕ → choose-lts.Claims
choose-calls t = (
  lowest-reads.Asked,
  lowest-reads.Learnt,
  dropped-reads.Asked,
  dropped-reads.Learnt,
  attempt-below t,
  attempt.Post,
)

module _ (t : ℕ) where
  -- ---- attempt

  returns : attempt-lts.Need-returns-then-rest-eq0 (attempt-calls t) (attempt-at t) attempt.Post
  returns c = record { whole = c.requires.1.3; chooses = λ N L f. tried-none _ L f c.if-rest-eq0.true }

  -- The value that is tried is one of the rest.
  tried : (c : attempt-lts.After-next_value-v (attempt-calls t) (attempt-at t) attempt.Post)
      → (c.next_value-v.result < width) × (has c.args.rest c.next_value-v.result ≡ true)
  tried c = lowest-in width _ _ c.ranges.rest.fits c.if-rest-eq0.false c.next_value-v.ensures

  narrow-requires : attempt-lts.Need-narrow-changed-requires (attempt-calls t) (attempt-at t) attempt.Post
  narrow-requires c κs =
      let l = c in
      let s = l in
      ((tried c.before.before.before.before.before).0, λ j h. s.requires.1.1 j (in-second width _ _ _ j c.both.ensures h), s.requires.1.2)

  choose-requires : attempt-lts.Need-choose-requires (attempt-calls t) (attempt-at t) attempt.Post
  choose-requires c κs =
      let n = c in
      let s = n in
      (omega (arith, s.requires.0), (λ j h. (s.requires.1.1 j h).1, omega (arith, n.narrow-changed.ensures.whole, s.requires.1.2), s.requires.1.3))

  cast-values : attempt-lts.Need-overflow_cast-values (attempt-calls t) (attempt-at t) attempt.Post
  cast-values c = let l = (tried c.before.before.before.before.before.before.before.before.before.before).0 in search rules

  -- What is known once the other variables are chosen, or cannot be.
  taken : (c : attempt-lts.After-choose (attempt-calls t) (attempt-at t) attempt.Post) (N : Network)
      → let n = c in
      let l = n in
      let s = l in
      Left 32 N s.args.stated.now s.args.rows.now (s.args.k + 1) s.args.left → free N s.args.k ≡ true
      → Taken 32 N s.args.stated.now s.args.rows.now s.args.k s.args.left s.args.domains.now s.args.rest
      l.next_value-v.result n.narrow-changed.result n.narrow-changed.new.domains c.choose.result s.args.values.now c.choose.new.values
  taken c N L f =
      let n = c in
      let l = n in
      let s = l in
      record {
        left_after = L;
        k_free = f;
        rest_fits = s.ranges.rest.fits;
        left_fits = s.ranges.left.fits;
        some = l.if-rest-eq0.false;
        lowest = l.next_value-v.ensures;
        narrowed = rw n.both.ensures at n.narrow-changed.ensures;
        chosen = c.choose.ensures.chooses N _ L;
      }

  returns-2 : attempt-lts.Need-returns-then-choose (attempt-calls t) (attempt-at t) attempt.Post
  returns-2 c =
      let a = c in
      let long = a.choose.ensures.whole in
      let k_in = a.requires.1.0 in
      record {
        whole = length-set a.choose.new.values _ _ ∙ long;
        chooses = λ N L f. taken-hit (taken c.before.before N L f) c.if-choose.true (omega (arith, long, k_in));
      }

  returns-3 : attempt-lts.Need-returns-then-not-changed (attempt-calls t) (attempt-at t) attempt.Post
  returns-3 c =
      let a = c in
      record {
        whole = a.choose.ensures.whole;
        chooses = λ N L f. taken-stuck (taken c.before.before N L f) c.if-choose.false (c.if-not-changed.true);
      }

  attempt-requires : attempt-lts.Need-attempt-requires (attempt-calls t) (attempt-at t) attempt.Post
  attempt-requires c κs =
      let a = c in
      let l = a in
      let s = l in
      let less = rest-less width s.ranges.rest.fits l.if-rest-eq0.false l.next_value-v.ensures c.dropped.ensures in
      (omega (arith, less, s.requires.0), (s.requires.1.0, s.requires.1.1, s.requires.1.2, a.choose.ensures.whole))

  returns-4 : attempt-lts.Need-returns (attempt-calls t) (attempt-at t) attempt.Post
  returns-4 c =
      let e = c in
      record {
        whole = c.attempt.ensures.whole;
        chooses = λ N L f.
            taken-miss (taken c.before.before.before.before.before N L f) _ c.dropped.ensures _ _ e.if-choose.false (c.attempt.ensures.chooses N L f);
      }

  -- ---- choose

  choose-returns : choose-lts.Need-returns-then-left-eq0 (choose-calls t) (choose-at t) choose.Post
  choose-returns c = record { whole = c.requires.1.2; chooses = λ N k L. chosen-end L c.if-left-eq0.true }

  -- The variable that is chosen is one of those that are left.
  chosen : (c : choose-lts.After-lowest-k (choose-calls t) (choose-at t) choose.Post) → c.lowest-k.result < variables
  chosen c =
      c.requires.1.0 _
      (lowest-in width _ _ c.ranges.left.fits c.if-left-eq0.false c.lowest-k.ensures).1

  mul-attempt : choose-lts.Need-offset_bounds-domains-k (choose-calls t) (choose-at t) choose.Post
  mul-attempt c = let l = chosen c in search rules

  choose-attempt-requires : choose-lts.Need-attempt-requires (choose-calls t) (choose-at t) choose.Post
  choose-attempt-requires c κs =
      let l = c in
      let s = l in
      let fits = s.ranges.left.fits in
      let some = l.if-left-eq0.false in
      let e = c.dropped.ensures in
      let less = rest-less width fits some l.lowest-k.ensures e in
      let most = count-le width (has (get_or s.args.domains.now l.lowest-k.result 0)) in (
        omega (arith, less, most, s.requires.0),
        (chosen c.before.before.before.before, λ j h. let q = above-lowest width _ _ _ fits some l.lowest-k.ensures e j h in (q.1, s.requires.1.0 j q.0), s.requires.1.1, s.requires.1.2),
      )

  choose-returns-2 : choose-lts.Need-returns (choose-calls t) (choose-at t) choose.Post
  choose-returns-2 c =
      let l = c.before.before.before.before in
      let s = l in
      record {
        whole = c.attempt.ensures.whole;
        chooses = λ N k L.
            chosen-next L s.ranges.left.fits l.if-left-eq0.false l.lowest-k.ensures c.dropped.ensures
            _ (c.attempt.ensures.chooses N);
      }

pub +attempt_choose_spec : {M : Type 1} → statement M
+attempt_choose_spec =
    close μ-attempt μ-choose
    (λ t. attempt-lts.spec (attempt-calls t) (attempt-at t) attempt.Post
    (returns t)
    (λ c κs. search rules)
    (λ c. search rules)
    (λ c. search rules)
    (λ c κs. search rules)
    (narrow-requires t)
    (choose-requires t)
    (cast-values t)
    (λ c. search rules)
    (returns-2 t)
    (returns-3 t)
    (λ c κs. search rules)
    (attempt-requires t)
    (returns-4 t))
    (λ t. choose-lts.spec (choose-calls t) (choose-at t) choose.Post
    (choose-returns t)
    (λ c κs. search rules)
    (mul-attempt t)
    (λ c. chosen t c.before)
    (λ c κs. search rules)
    (choose-attempt-requires t)
    (choose-returns-2 t))
