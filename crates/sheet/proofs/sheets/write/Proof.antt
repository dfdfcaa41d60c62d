-- The head and the rows are those of the state.
use borrow.Author.Rules.{rules}
use Rattle.state.proofs.View.{state-whole}
use Rattle.sheet.proofs.sheets.write.Statement.{statement}
use Rattle.sheet.proofs.sheets.write.Tie as tie

returns : tie.Need-returns
returns c =
    let p = c in
    let d = p in
    rw (state-whole d.args.state _ d.head_in.ensures) at p.write_parts.ensures

pub write_spec : {M : Type 1} → statement M
write_spec = tie.close (tie.spec (λ c κs. search rules) (λ c κs. search rules) (λ c. search rules) returns)
