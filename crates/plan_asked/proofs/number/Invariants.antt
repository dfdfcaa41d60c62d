use Rattle.std.proofs.Common.{◌≡◌, ◌≤◌}
use Rattle.plan_asked.specs.Asked.{number_of}
use Rattle.plan_asked.proofs.number.Given as goal

-- The number of the digits before the index.
abbrev pub invariant-loop-byte : goal.invariant-loop-byte
invariant-loop-byte l = (l.value ≤ 1000000) × (l.value ≡ number_of l.fn.word l.byte-index)
