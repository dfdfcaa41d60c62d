-- Each arm is a case of the look-up; the last is reached from below and from above 2 and 3.
use native.Mathlib.Omega.{arith}
use Rattle.write_version.proofs.Version.{fixed-first, fixed_later, fixed-other}
use Rattle.write_version.proofs.layout.fixed_by.Statement.{statement}
use Rattle.write_version.proofs.layout.fixed_by.Tie as tie

returns : tie.Need-returns-in-1
returns c = fixed-first _ (omega arith)

returns-2 : tie.Need-returns-in-2
returns-2 c = fixed_later _ (omega arith) (omega arith)

returns-3 : tie.Need-returns-in_default
returns-3 c = fixed-other _ (λ e. omega arith) (λ e. omega arith) (λ e. omega arith)

returns-4 : tie.Need-returns-in_default-2
returns-4 c = fixed-other _ (λ e. omega arith) (λ e. omega arith) (λ e. omega arith)

pub fixed_by_spec : {M : Type 1} → statement M
fixed_by_spec = tie.close (tie.spec returns returns-2 returns-3 returns-4)
