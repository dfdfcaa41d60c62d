-- The title and then the number.
use borrow.Author.Rules.{rules}
use Rattle.text_put.proofs.Laws.{put_then}
use Rattle.text_put.proofs.put_titled.Statement.{statement}
use Rattle.text_put.proofs.put_titled.Tie as tie

returns : tie.Need-returns
returns c = put_then c.put_text-next.ensures c.put_number.ensures

pub put_titled_spec : {M : Type 1} → statement M
put_titled_spec = tie.close (tie.spec (λ c κs. search rules) (λ c κs. search rules) (λ c. search rules) returns)
