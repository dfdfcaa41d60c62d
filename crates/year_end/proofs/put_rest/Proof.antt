-- One after the other.
use borrow.Author.Rules.{rules}
use Rattle.text_put.proofs.Laws.{put_then}
use Rattle.year_end.specs.Arrays.{rest_by}
use Rattle.year_end.proofs.put_rest.Statement.{statement}
use Rattle.year_end.proofs.put_rest.Tie as tie

returns : tie.Need-returns
unfolding rest_by
returns c =
    let e = c in
    let q = e in
    let p = q in
    put_then p.put_first_text-firsts.ensures (put_then q.put_shorts-short.ensures e.put_counts.ensures)

pub put_rest_spec : {M : Type 1} → statement M
put_rest_spec = tie.close (tie.spec (λ c κs. search rules) (λ c κs. search rules) (λ c κs. search rules) (λ c. search rules) returns)
