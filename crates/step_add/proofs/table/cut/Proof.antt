-- From the lower leader the rows are stored as they stand; the turned table says the same: `cut-turned`.
use borrow.Author.Rules.{rules}
use Rattle.pairs.proofs.Laws.{higher}
use Rattle.step_sides.proofs.Turning.{apart-turned, cut-turned}
use Rattle.step_add.proofs.table.cut.Statement.{statement}
use Rattle.step_add.proofs.table.cut.Tie as tie

cut-pair-requires-2 : tie.Need-cut_pair-requires-2
cut-pair-requires-2 c κs =
    let t = c in
    let e = t in
    let p = e.requires in (
      p.1,
      p.0,
      apart-turned 32 p.2,
      higher e.if-first-second.false p.2.leaders_apart,
      rw t.turned-columns.ensures p.4.columns_in,
      p.5,
    )

returns-2 : tie.Need-returns
returns-2 c =
    let t = c in
    cut-turned 32 _ t.requires.4 t.turned-columns.ensures c.cut_pair-2.ensures

pub cut_spec : {M : Type 1} → statement M
cut_spec =
    tie.close
    (tie.spec
    (λ c κs. search rules)
    (λ c. search rules)
    (λ c κs. search rules)
    (λ c. search rules)
    cut-pair-requires-2
    returns-2)
