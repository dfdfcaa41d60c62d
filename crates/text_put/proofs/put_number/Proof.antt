-- The digits, written into an array that has room for them, are put as a text.
use native.Mathlib.Omega.{arith}
use borrow.Author.Rules.{rules}
use Rattle.text_put.proofs.Laws.{put-text, wrote-first, wrote-end, digits-64}
use Rattle.text_put.proofs.put_number.Statement.{statement}
use Rattle.text_put.proofs.put_number.Tie as tie

put-decimal-requires : tie.Need-put_decimal-end-requires
put-decimal-requires c κs = omega (arith, digits-64 c.args.n (omega arith))

slice-aggregate-put-text : tie.Need-slice_bounds-put_text-end
slice-aggregate-put-text c = wrote-end c.put_decimal-end.ensures

returns : tie.Need-returns
returns c =
    let p = c in
    put-text (wrote-first p.put_decimal-end.ensures) p.put_text.ensures

pub put_number_spec : {M : Type 1} → statement M
put_number_spec =
    tie.close
    (tie.spec
    (λ c. search rules)
    put-decimal-requires
    (λ c. search rules)
    slice-aggregate-put-text
    (λ c κs. search rules)
    (λ c. search rules)
    returns)
