-- Three texts, one after the other.
use borrow.Author.Rules.{rules}
use Rattle.format.specs.Print.{bytes_of}
use Rattle.buffers.proofs.Laws.{wrote_then}
use Rattle.write_sheet.proofs.writing.write_header.Statement.{statement}
use Rattle.write_sheet.proofs.writing.write_header.Tie as tie

put-byte-requires-2 : tie.Need-put_byte-requires
unfolding bytes_of
put-byte-requires-2 c κs = search rules

returns : tie.Need-returns
returns c =
    wrote_then c.put_byte-count.ensures
    (wrote_then c.put_number-variables.ensures c.put_byte.ensures)

pub write_header_spec : {M : Type 1} → statement M
write_header_spec =
    tie.close
    (tie.spec
    (λ c κs. search rules)
    (λ c κs. search rules)
    put-byte-requires-2
    (λ c. search rules)
    returns)
