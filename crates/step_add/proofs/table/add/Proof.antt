-- The variables and their leaders are within the arrays, and each way leaves the network with the table added: `added-same`, `added-apart`.
use borrow.Author.Rules.{rules}
use Rattle.head.proofs.Held.{shape}
use Rattle.step_add.proofs.Added.{Given, first_in, second_in, rows_in, leaders-in, told_in, sides_apart, sides-turn, added-same, added-apart}
use Rattle.step_add.proofs.table.add.Statement.{statement}
use Rattle.step_add.proofs.table.add.Tie as tie

given : (c : tie.After-shared_slice_known-1) → let a = c.args in Given a.head a.rows.now a.x a.y a.table.now
given c =
    let p = c.requires in
    record { shaped = search shape; is_sound = p.0; rows_shaped = p.1; accepted = p.2 }

side-of-requires : tie.Need-side_of-first-requires
side-of-requires c κs = first_in (given c)

side-of-requires-2 : tie.Need-side_of-second-requires
side-of-requires-2 c κs = second_in (given c.before)

kept-requires : tie.Need-kept-requires
kept-requires c κs =
    let one = c in
    let second = one in
    let first = second in
    let g = given c.before.before.before.before.before in (
      first.side_of-first.ensures.1,
      second.side_of-second.ensures.1,
      rows_in g first.side_of-first.ensures.0,
      told_in g first.side_of-first.ensures.0 second.side_of-second.ensures.0 one.if-p-q.true,
    )

trim-followers-requires : tie.Need-trim_followers-short-requires
trim-followers-requires c κs =
    let one = c in
    leaders-in (given c.before.before.before.before.before.before)

returns : tie.Need-returns-then-p-q
returns c =
    let kept = c in
    let one = kept in
    let second = one in
    let first = second in
    added-same (given c.before.before.before.before.before.before.before) first.side_of-first.ensures.0 second.side_of-second.ensures.0 _ _ one.if-p-q.true kept.kept.ensures
    c.trim_followers-short.ensures

cut-requires : tie.Need-cut-requires
cut-requires c κs =
    let two = c in
    let second = two in
    let first = second in
    let g = given c.before.before.before.before.before.before in (
      first.side_of-first.ensures.1,
      second.side_of-second.ensures.1,
      sides_apart g first.side_of-first.ensures.0 second.side_of-second.ensures.0 two.if-p-q.false,
      rows_in g first.side_of-first.ensures.0,
      sides-turn g first.side_of-first.ensures.0 second.side_of-second.ensures.0,
      g.rows_shaped.array_length,
    )

returns-2 : tie.Need-returns
returns-2 c =
    let one = c in
    let cut = one in
    let was = cut in
    let two = was in
    let second = two in
    let first = second in
    added-apart (given c.before.before.before.before.before.before.before.before.before.before.before) first.side_of-first.ensures.0 second.side_of-second.ensures.0 two.if-p-q.false
    was.member.ensures cut.cut.ensures one.single.ensures one.either.ensures c.single-2.ensures c.either-2.ensures

pub add_spec : {M : Type 1} → statement M
add_spec =
    tie.close
    (tie.spec
    side-of-requires
    side-of-requires-2
    kept-requires
    (λ c. search rules)
    (λ c. search rules)
    trim-followers-requires
    returns
    (λ c. search rules)
    (λ c. search rules)
    (λ c κs. search rules)
    cut-requires
    (λ c. search rules)
    (λ c. search rules)
    (λ c κs. search rules)
    (λ c κs. search rules)
    (λ c. search rules)
    (λ c. search rules)
    (λ c. search rules)
    (λ c. search rules)
    (λ c κs. search rules)
    (λ c κs. search rules)
    (λ c. search rules)
    (λ c. search rules)
    returns-2)
