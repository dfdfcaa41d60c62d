-- Each way is a case of the layout: `banned-pass`, `allowed-pass`.
use mathlib.Core.Path.{sym, ◌∙◌}
use native.Mathlib.Omega.{arith}
use borrow.Author.Rules.{rules}
use borrow.Author.Tests.{not-true, not-false}
use Rattle.head.proofs.Held.{HeadShaped, shape, held-n, held-size}
use Rattle.write_version.proofs.Filled.{banned-pass, allowed-pass}
use Rattle.write_version.proofs.blank.rows_pass.Statement.{statement}
use Rattle.write_version.proofs.blank.rows_pass.Tie as tie

shaped : (c : tie.Start) → HeadShaped c.args.head
shaped c = search shape

returns : tie.Need-returns-then-not-fixed_by
returns c =
    let f = c in
    let s = f in
    allowed-pass _ (shaped c.before.before.before) s.requires _ (sym f.fixed_by.ensures.filled_is ∙ not-true _ c.if-not-fixed_by.true)

all-filled-requires : tie.Need-all_filled-requires
all-filled-requires c κs =
    let s = c in
    (held-n _ _ s.requires, λ i. omega (arith, held-size _ _ (shaped c.before.before.before.before.before) s.requires i))

returns-2 : tie.Need-returns
returns-2 c =
    let e = c in
    let f = e in
    let s = f in
    banned-pass _ (shaped c.before.before.before.before.before.before) s.requires _ (sym f.fixed_by.ensures.filled_is ∙ not-false _ e.if-not-fixed_by.false) c.all_filled.ensures

pub rows_pass_spec : {M : Type 1} → statement M
rows_pass_spec =
    tie.close
    (tie.spec
    (λ c κs. search rules)
    returns
    all-filled-requires
    returns-2)
