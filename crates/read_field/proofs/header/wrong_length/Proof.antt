-- Too short, too long, and else the count decides.
use borrow.Author.Rules.{rules}
use Rattle.read_field.proofs.Fields.{short-wrong, long-wrong, count-wrong}
use Rattle.read_field.proofs.header.wrong_length.Statement.{statement}
use Rattle.read_field.proofs.header.wrong_length.Tie as tie

returns : tie.Need-returns-then-bytes-lt3
returns c = search (short-wrong, rules)

returns-2 : tie.Need-returns-then-bytes-gt15621
returns-2 c = search (long-wrong, rules)

returns-3 : tie.Need-returns
returns-3 c = search (count-wrong, rules)

pub wrong_length_spec : {M : Type 1} → statement M
wrong_length_spec = tie.close (tie.spec returns returns-2 (λ c κs. search rules) (λ c. search rules) (λ c. search rules) returns-3)
