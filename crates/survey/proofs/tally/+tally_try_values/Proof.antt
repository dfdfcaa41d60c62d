-- Tallying and trying call each other. The measure is that of the search: each variable that is left weighs 34, and the one whose values are tried weighs one
-- more than its values that are not tried yet, 33 at most.
use mathlib.Core.Bool.{Bool, true}
use mathlib.Core.Path.{◌≡◌, ◌∙◌}
use Prim.Native.Nat.{ℕ, suc, ◌+◌, ◌*◌, ◌≤◌, ◌<◌}
use native.Mathlib.Omega.{arith}
use lib.ListN.{get_or, length-set}
use borrow.Author.Rules.{rules}
use borrow.Fn.Kinds.{In}
use borrow.Fn.PlainCycle.{Measures, is, falls, and}
use Rattle.bounded.specs.Fold.{count}
use Rattle.bounded.proofs.Fold.{count-le}
use Rattle.words.specs.Word.{width, has}
use Rattle.words.proofs.both.Reads as both-reads
use Rattle.words.proofs.dropped.Reads as dropped-reads
use Rattle.words.proofs.lowest.Reads as lowest-reads
use Rattle.pairs.specs.Pairs.{variables}
use Rattle.pairs.proofs.Runs.{lowest-in, rest-less}
use Rattle.network.specs.Network.{Network}
use Rattle.search_narrow.specs.Narrow.{untried}
use Rattle.survey.specs.Tally.{LeftOf, InSizes}
use Rattle.search_narrow.proofs.Members.{in-second, above-lowest}
use Rattle.survey.proofs.Tallying.{tallied-end, tallied-last, tallied-next, TakenOf, tried-none, rest-sizes, tried-more}
use Rattle.survey.proofs.tally.tally.Reads as tally
use Rattle.survey.proofs.tally.tally.Kinds as tally-kinds
use Rattle.survey.proofs.tally.+tally_try_values.Lts-tally as tally-lts
use Rattle.survey.proofs.tally.try_values.Reads as try-values
use Rattle.survey.proofs.tally.try_values.Kinds as try-values-kinds
use Rattle.survey.proofs.tally.+tally_try_values.Lts-try_values as try-values-lts
use Rattle.survey.proofs.tally.capped.Reads as capped-reads
use Rattle.survey.proofs.tally.joined.Reads as joined-reads
use Rattle.survey.proofs.tally.marked.Reads as marked-reads
use Rattle.survey.proofs.tally.members.Reads as members-reads
use Rattle.search_narrow.proofs.narrow.Reads as narrow-reads
use Rattle.survey.proofs.tally.+tally_try_values.{statement}
use Rattle.survey.proofs.tally.+tally_try_values.Tie.{close}

abbrev μ-tally : Measures 4 tally-kinds.ps ℕ
μ-tally κs a = count width (has a.1.1.1.0) * 34

abbrev μ-try-values : Measures 4 try-values-kinds.ps ℕ
μ-try-values κs a = count width (has a.1.1.1.1.1.0) * 34 + count width (has a.1.1.1.1.0) + 1

abbrev tally-at : ℕ → In 4 tally-kinds.ps
tally-at t = and 4 tally-kinds.ps (is 4 tally-kinds.ps μ-tally t) tally.Pre

abbrev tally-below : ℕ → In 4 tally-kinds.ps
tally-below t = and 4 tally-kinds.ps (falls 4 tally-kinds.ps ◌<◌ μ-tally t) tally.Pre

abbrev try-values-at : ℕ → In 4 try-values-kinds.ps
try-values-at t = and 4 try-values-kinds.ps (is 4 try-values-kinds.ps μ-try-values t) try-values.Pre

abbrev try-values-below : ℕ → In 4 try-values-kinds.ps
try-values-below t = and 4 try-values-kinds.ps (falls 4 try-values-kinds.ps ◌<◌ μ-try-values t) try-values.Pre

abbrev tally-calls : ℕ → tally-lts.Claims
tally-calls t = (
  lowest-reads.Asked,
  lowest-reads.Learnt,
  dropped-reads.Asked,
  dropped-reads.Learnt,
  joined-reads.Asked,
  joined-reads.Learnt,
  members-reads.Asked,
  members-reads.Learnt,
  try-values-below t,
  try-values.Post,
)

abbrev try-values-calls : ℕ → try-values-lts.Claims
try-values-calls t = (
  lowest-reads.Asked,
  lowest-reads.Learnt,
  both-reads.Asked,
  both-reads.Learnt,
  narrow-reads.Asked,
  narrow-reads.Learnt,
  tally-below t,
  tally.Post,
  marked-reads.Asked,
  marked-reads.Learnt,
  dropped-reads.Asked,
  dropped-reads.Learnt,
  capped-reads.Asked,
  capped-reads.Learnt,
  try-values-below t,
  try-values.Post,
)

module _ (t : ℕ) where
  -- ---- tally

  tally-returns : tally-lts.Need-returns-then-left-eq0 (tally-calls t) (tally-at t) tally.Post
  tally-returns c = record { whole = c.requires.1.2; tallies = λ N T k L B. tallied-end L c.if-left-eq0.true }

  -- The variable that is chosen is one of those that are left.
  chosen : (c : tally-lts.After-lowest-k (tally-calls t) (tally-at t) tally.Post) → c.lowest-k.result < variables
  chosen c =
      c.requires.1.0 _
      (lowest-in width _ _ c.ranges.left.fits c.if-left-eq0.false c.lowest-k.ensures).1

  mul-domain : tally-lts.Need-offset_bounds-domains-k (tally-calls t) (tally-at t) tally.Post
  mul-domain c = let l = chosen c in search rules

  mul-joined : tally-lts.Need-offset_bounds-used-k (tally-calls t) (tally-at t) tally.Post
  mul-joined c = let l = chosen c.before.before.before.before in search rules

  element-joined : tally-lts.Need-bounds-used-k (tally-calls t) (tally-at t) tally.Post
  element-joined c = chosen c.before.before.before.before.before

  mul-used-last : tally-lts.Need-offset_bounds-used-k-then-after-eq0 (tally-calls t) (tally-at t) tally.Post
  mul-used-last c = let l = chosen c.before.before.before.before.before.before.before in search rules

  element-used-last : tally-lts.Need-bounds-used-k-then-after-eq0 (tally-calls t) (tally-at t) tally.Post
  element-used-last c = chosen c.before.before.before.before.before.before.before

  tally-returns-2 : tally-lts.Need-returns-then-after-eq0 (tally-calls t) (tally-at t) tally.Post
  tally-returns-2 c =
      let a = c in
      let d = a in
      let l = a in
      let s = l in
      let long = s.requires.1.2 in
      let inside = chosen c.before.before.before.before.before.before.before.before in
      record {
        whole = length-set s.args.used.now _ _ ∙ long;
        tallies = λ N T k L B.
            tallied-last L s.ranges.left.fits l.if-left-eq0.false l.lowest-k.ensures d.dropped-after.ensures
            _ _ _ B a.if-after-eq0.true (omega arith) c.joined-word.ensures c.members.ensures.0 c.members.ensures.1;
      }

  tally-try-values-requires : tally-lts.Need-try_values-requires (tally-calls t) (tally-at t) tally.Post
  tally-try-values-requires c κs =
      let l = c in
      let s = l in
      let fits = s.ranges.left.fits in
      let some = l.if-left-eq0.false in
      let e = c.dropped-after.ensures in
      let less = rest-less width fits some l.lowest-k.ensures e in
      let most = count-le width (has (get_or s.args.domains.now l.lowest-k.result 0)) in (
        omega (arith, less, most, s.requires.0),
        (chosen c.before.before.before.before.before, λ j h. let q = above-lowest width _ _ _ fits some l.lowest-k.ensures e j h in (q.1, s.requires.1.0 j q.0), s.requires.1.1, s.requires.1.2),
      )

  tally-returns-3 : tally-lts.Need-returns (tally-calls t) (tally-at t) tally.Post
  tally-returns-3 c =
      let l = c in
      let s = l in
      record {
        whole = c.try_values.ensures.whole;
        tallies = λ N T k L B.
            tallied-next L s.ranges.left.fits l.if-left-eq0.false l.lowest-k.ensures c.dropped-after.ensures
            _ B (c.try_values.ensures.tallies N T);
      }

  -- ---- try_values

  most : (c : try-values-lts.Start (try-values-calls t) (try-values-at t) try-values.Post) → c.args.counted ≤ 18446744073709551615
  most c = let l = c.ranges.counted.fits in omega arith

  returns : try-values-lts.Need-returns-then-rest-eq0 (try-values-calls t) (try-values-at t) try-values.Post
  returns c = record { whole = c.requires.1.3; tallies = λ N T L f B. tried-none _ L f c.if-rest-eq0.true (most c.before) }

  -- The value that is tried is one of the rest.
  tried : (c : try-values-lts.After-lowest-v (try-values-calls t) (try-values-at t) try-values.Post)
      → (c.lowest-v.result < width) × (has c.args.rest c.lowest-v.result ≡ true)
  tried c = lowest-in width _ _ c.ranges.rest.fits c.if-rest-eq0.false c.lowest-v.ensures

  narrow-requires : try-values-lts.Need-narrow-requires (try-values-calls t) (try-values-at t) try-values.Post
  narrow-requires c κs =
      let l = c in
      let s = l in
      ((tried c.before.before.before.before.before).0, λ j h. s.requires.1.1 j (in-second width _ _ _ j c.both.ensures h), s.requires.1.2)

  tally-requires : try-values-lts.Need-tally-here-requires (try-values-calls t) (try-values-at t) try-values.Post
  tally-requires c κs =
      let n = c in
      let s = n in
      (omega (arith, s.requires.0), (λ j h. (s.requires.1.1 j h).1, n.narrow.ensures.whole ∙ s.requires.1.2, s.requires.1.3))

  -- k is a variable.
  k_in : (c : try-values-lts.After-tally-here (try-values-calls t) (try-values-at t) try-values.Post)
      → c.args.k < variables
  k_in c = c.requires.1.0

  mul-marked : try-values-lts.Need-offset_bounds-used-k (try-values-calls t) (try-values-at t) try-values.Post
  mul-marked c = let l = k_in c in search rules

  marked-requires : try-values-lts.Need-marked-word-requires (try-values-calls t) (try-values-at t) try-values.Post
  marked-requires c κs = (tried c.before.before.before.before.before.before.before.before.before.before.before).0

  mul-used : try-values-lts.Need-offset_bounds-used-k-2 (try-values-calls t) (try-values-at t) try-values.Post
  mul-used c = let l = k_in c.before.before.before in search rules

  dropped-requires : try-values-lts.Need-dropped-requires (try-values-calls t) (try-values-at t) try-values.Post
  dropped-requires c κs =
      let d = c.if-rest-eq0.false in
      search rules

  -- What is known once the other variables are tallied.
  taken : (c : try-values-lts.After-tally-here (try-values-calls t) (try-values-at t) try-values.Post) (N : Network) (T : ℕ → Bool)
      → let n = c in
      let l = n in
      let s = l in
      LeftOf N T s.args.stated.now s.args.rows.now (suc s.args.k) s.args.left → T s.args.k ≡ true
      → InSizes N T (untried s.args.domains.now s.args.k s.args.rest) s.args.k
      → TakenOf N T s.args.stated.now s.args.rows.now s.args.k s.args.left s.args.domains.now s.args.rest
      l.lowest-v.result n.narrow.result n.narrow.new.domains c.tally-here.result s.args.used.now c.tally-here.new.used
  taken c N T L f B =
      let n = c in
      let l = n in
      let s = l in
      record {
        left_after = L;
        of_t = f;
        in_sizes = B;
        rest_fits = s.ranges.rest.fits;
        left_fits = s.ranges.left.fits;
        some = l.if-rest-eq0.false;
        lowest = l.lowest-v.ensures;
        narrowed = rw n.both.ensures at n.narrow.ensures;
        tallied_here = c.tally-here.ensures.tallies N T _ L;
      }

  try-values-requires : try-values-lts.Need-try_values-requires (try-values-calls t) (try-values-at t) try-values.Post
  try-values-requires c κs =
      let a = c in
      let l = a in
      let s = l in
      let less = rest-less width s.ranges.rest.fits l.if-rest-eq0.false l.lowest-v.ensures c.dropped.ensures in
      (omega (arith, less, s.requires.0), (s.requires.1.0, s.requires.1.1, s.requires.1.2, length-set a.tally-here.new.used _ _ ∙ a.tally-here.ensures.whole))

  returns-2 : try-values-lts.Need-returns (try-values-calls t) (try-values-at t) try-values.Post
  returns-2 c =
      let a = c in
      let long = a.tally-here.ensures.whole in
      let inside = k_in c.before.before.before.before.before.before.before in
      let re = c.dropped.ensures in
      record {
        whole = c.try_values.ensures.whole;
        tallies = λ N T L f B.
            let W = taken c.before.before.before.before.before.before.before N T L f B in
            tried-more W _ re _ _ _ _ _ (omega arith) c.marked-word.ensures c.capped.ensures
            (c.try_values.ensures.tallies N T L f (rest-sizes W _ re));
      }

pub +tally_try_values_spec : {M : Type 1} → statement M
+tally_try_values_spec =
    close μ-tally μ-try-values
    (λ t. tally-lts.spec (tally-calls t) (tally-at t) tally.Post
    (tally-returns t)
    (λ c κs. search rules)
    (mul-domain t)
    (λ c. chosen t c.before)
    (λ c κs. search rules)
    (mul-joined t)
    (element-joined t)
    (λ c κs. search rules)
    (mul-used-last t)
    (element-used-last t)
    (λ c κs. search rules)
    (tally-returns-2 t)
    (tally-try-values-requires t)
    (tally-returns-3 t))
    (λ t. try-values-lts.spec (try-values-calls t) (try-values-at t) try-values.Post
    (returns t)
    (λ c κs. search rules)
    (λ c. search rules)
    (λ c. search rules)
    (λ c κs. search rules)
    (narrow-requires t)
    (tally-requires t)
    (mul-marked t)
    (λ c. k_in t c.before)
    (marked-requires t)
    (mul-used t)
    (λ c. k_in t c.before.before.before)
    (dropped-requires t)
    (λ c κs. search rules)
    (try-values-requires t)
    (returns-2 t))
