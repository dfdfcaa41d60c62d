use Rattle.std.proofs.Common.{rules}
use mathlib.Core.Path.{◌∙◌}
use native.Mathlib.Omega.{arith}
use Rattle.state_read.specs.Parts.{read_parts_told}
use Rattle.state_read.proofs.Reading.{full_domains, head_read, read-accepted, read-refused, read-sizes}
use Rattle.state_read.proofs.read_parts.Goals as goal

pub full_domains-domains-requires : goal.full_domains-domains-requires
full_domains-domains-requires c = λ i. omega (arith, read-sizes _ c.read_into.ensures (search rules) c.in-Ok.is i)

pub returns-in-Ok : goal.returns-in-Ok
unfolding read_parts_told head_read full_domains
returns-in-Ok c = rw c.full_domains-domains.ensures (read-accepted _ c.read_into.ensures c.in-Ok.is)

pub returns-in-Err : goal.returns-in-Err
returns-in-Err c = c.refused.ensures ∙ read-refused _ c.read_into.ensures c.in-Err.is
