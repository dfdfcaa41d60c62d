-- The loop's invariant: so many tables have been passed, and the place that is named is that of the first of another kind among the rest.
use mathlib.Core.Path.{◌≡◌, sym, ◌∙◌}
use Prim.Native.Nat.{◌+◌, ◌-◌, ◌≤◌, ◌<◌}
use native.Mathlib.Omega.{arith}
use lib.ListN.{length, get_or}
use borrow.Author.Rules.{rules}
use Rattle.format.specs.Builds as sheet
use Rattle.format.specs.Parse.{Octets}
use Rattle.format.specs.Profile.{table_paired}
use Rattle.read_number.specs.Bytes.{RowBytes}
use Rattle.read_paired.proofs.Walk.{TableAt, begins, Walking, walking-none, table_here, walking_here, walking-more, walking-end, Here, size_room, rows-here, rows_few, header-room, count-read, first_read}
use Rattle.read_paired.proofs.Named.{named_there, named_nowhere}
use Rattle.read_paired.proofs.unpaired_place.Statement.{statement}
use Rattle.read_paired.proofs.unpaired_place.Tie as tie

abbrev invariant-loop : tie.invariant-loop
invariant-loop bytes k n p at₀ counter₀ at counter = (p ≡ sheet.tables bytes) × RowBytes k × Walking bytes k counter at × (1 ≤ at)

abbrev decreases-loop : tie.decreases-loop
decreases-loop bytes k n p at₀ counter₀ at counter = p - counter

octets : (c : tie.After-shared_slice_known-1 invariant-loop decreases-loop) → Octets c.args.bytes.now
octets c = λ k. omega (arith, c.shared_slice_known-1.given k)

room : (c : tie.After-shared_slice_known-1 invariant-loop decreases-loop) → 5 + get_or c.args.bytes.now 3 0 ≤ length c.args.bytes.now
room c = header-room _ (octets c) c.requires

loop-holds : tie.Need-loop-init invariant-loop decreases-loop
loop-holds c =
    let n = c in
    let k = n in
    let s = k.before.before in
    let B = begins _ (octets c.before.before.before.before.before.before) s.requires k.row_bytes-k.ensures in
    (count-read _ n.wide-n.ensures c.wide-p.ensures, B.row_bytes, walking-none _ _ B (first_read _ n.wide-n.ensures), omega arith)

-- The table that is looked at.
here : (c : tie.In-loop invariant-loop decreases-loop) → TableAt c.args.bytes.now
    c.row_bytes-k.result c.loop.at
here c = let i = c.loop.invariant in table_here _ _ i.2 (omega (arith, i.0))

rows : (c : tie.After-wide-rows invariant-loop decreases-loop) → let t = c in let k = t in
    Here k.args.bytes.now k.row_bytes-k.result t.loop.at c.wide-rows.result
rows c = let a = c in rows-here _ (here c.before.before.before.before) a.wide-a.ensures c.wide-rows.ensures

few : (c : tie.After-wide-rows invariant-loop decreases-loop) → c.wide-rows.result < 256
few c =
    let s = c in
    rows_few s.args.bytes.now c.wide-a.result (octets c.before.before.before.before.before.before.before.before.before.before.before.before) c.wide-rows.ensures

-- Whether it is of the profile.
told : (c : tie.After-rows_paired invariant-loop decreases-loop) → let t = c in
    c.rows_paired.result ≡ table_paired t.args.bytes.now t.loop.at
told c = c.rows_paired.ensures ∙ sym (rows c.before).told

returns : tie.Need-returns-then-not-rows_paired invariant-loop decreases-loop
returns c =
    let i = c.loop.invariant in
    named_there (walking_here _ _ i.2 (omega (arith, i.0)) (sym (told c.before) ∙ c.if-not-rows_paired.true)) i.3

loop-again : tie.Need-loop-preserved invariant-loop decreases-loop
loop-again c =
    let i = c.loop.invariant in
    (i.0, i.1, walking-more _ _ i.2 (omega (arith, i.0)) (sym (told c.before) ∙ c.if-not-rows_paired.false) (sym (rows c.before.before).next), omega arith)

returns-2 : tie.Need-returns invariant-loop decreases-loop
returns-2 c = let i = c.loop.invariant in named_nowhere (walking-end _ _ i.2 (omega (arith, i.0)))

pub unpaired_place_spec : {M : Type 1} → statement M
unpaired_place_spec =
    tie.close
    (tie.spec
    invariant-loop
    decreases-loop
    (λ c. let l = room c.before in search rules)
    (λ c κs. search rules)
    (λ c. let l = room c.before.before.before in search rules)
    (λ c κs. search rules)
    (λ c. let l = room c.before.before.before.before in search rules)
    (λ c. let l = room c.before.before.before.before.before in search rules)
    (λ c κs. search rules)
    (λ c. let l = room c.before.before.before.before.before.before in search rules)
    loop-holds
    (λ c. let l = (here c.before).rows_in in search rules)
    (λ c κs. search rules)
    (λ c. let l = size_room _ (here c.before.before) c.wide-a.ensures in search rules)
    (λ c. let l = size_room _ (here c.before.before.before) c.wide-a.ensures in search rules)
    (λ c κs. search rules)
    (λ c. let l = (rows c).room in search rules)
    (λ c κs. let l = (rows c).room in (c.loop.invariant.1, omega arith, few c))
    returns
    (λ c. let l = (rows c.before.before).room in omega arith)
    (λ c. let l = (rows c.before.before).room in omega arith)
    (λ c. search rules)
    (λ c. search rules)
    loop-again
    returns-2)
