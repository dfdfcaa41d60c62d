-- Cut off, then a bit at or above the size, then all-zero where that is banned, then fine.
use mathlib.Core.Path.{refl, sym, ◌∙◌}
use borrow.Author.Rules.{rules}
use native.Mathlib.Omega.{arith}
use Rattle.read_field.proofs.Fields.{field_cut, field-fault, field-fine, within-fault, blank-fault, within-fine}
use Rattle.read_field.proofs.field.row_field.Statement.{statement}
use Rattle.read_field.proofs.field.row_field.Tie as tie

returns : tie.Need-returns-then-bytes-next
returns c = field_cut c.args.k _ _ _ (omega arith)

returns-2 : tie.Need-returns-then-not-within
returns-2 c =
    field-fault c.args.k _ _ _ c.number-row.ensures (omega arith)
    (within-fault 32 _ _ _ (omega arith) (sym c.within.ensures ∙ c.if-not-within.true))

returns-4 : tie.Need-returns
returns-4 c =
    let test = c in
    field-fine test.args.k _ _ _ test.number-row.ensures refl (omega arith)
    (within-fine 32 _ _ _ (omega arith) (sym test.within.ensures ∙ test.if-not-within.false) (search rules))

pub row_field_spec : {M : Type 1} → statement M
row_field_spec =
    tie.close
    (tie.spec
    (λ c. search rules)
    returns
    (λ c κs. search rules)
    (λ c κs. search rules)
    returns-2
    (λ c. field-fault c.args.k _ _ _ c.number-row.ensures (omega arith) (blank-fault 32 _ _ _ (omega arith) (search rules)))
    (λ c. search rules)
    returns-4)
