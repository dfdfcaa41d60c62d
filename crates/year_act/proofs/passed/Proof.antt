-- Past the lines that are counted nothing is.
use mathlib.Core.Path.{◌≡◌, sym}
use Prim.Native.Nat.{◌+◌, ◌≤◌, ◌<◌}
use lib.Dec.{leb}
use borrow.Author.Tests.{le-leb, lt-leb}
use Rattle.bounded.proofs.Bool.{if-true, if-false}
use Rattle.year_act.specs.declared.Entries.{Entries}
use Rattle.year_act.specs.Kept.{passed_of}
use borrow.Author.Rules.{rules}
use Rattle.year_act.proofs.passed.Statement.{statement}
use Rattle.year_act.proofs.passed.Tie as tie

on : (e : Entries) → e.line ≤ 4294967295
    → ◌≡◌ {A = Entries} (record { line = e.line + 1; ok = e.ok; r28 = e.r28; r29 = e.r29; text = e.text; first = e.first }) (passed_of e)
unfolding passed_of
on e l = λ i.
    record { line = sym (if-true (leb e.line 4294967295) (e.line + 1) e.line (le-leb e.line 4294967295 l)) i; ok = e.ok; r28 = e.r28; r29 = e.r29; text = e.text; first = e.first }

past : (e : Entries) → 4294967295 < e.line → e ≡ passed_of e
unfolding passed_of
past e l = λ i.
    record { line = sym (if-false (leb e.line 4294967295) (e.line + 1) e.line (lt-leb e.line 4294967295 l)) i; ok = e.ok; r28 = e.r28; r29 = e.r29; text = e.text; first = e.first }

returns : tie.Need-returns-then-e-le4294967295
returns c = on c.args.e c.if-e-le4294967295.true

returns-2 : tie.Need-returns
returns-2 c = past c.args.e c.if-e-le4294967295.false

pub passed_spec : {M : Type 1} → statement M
passed_spec =
    tie.close
    (tie.spec
    (λ c. search rules)
    returns
    returns-2)
