-- A fault, or a kind.
use mathlib.Core.Bool.{Bool, true, false}
use mathlib.Core.Bool as machine
use mathlib.Core.Path.{◌≡◌, refl, sym}
use lib.Dec.{eqb}
use borrow.Author.Tests.{eq-eqb, ne_eqb}
use Rattle.bounded.specs.Bool.{or, not}
use Rattle.bounded.proofs.Bool.{clash, or_l, not-i}
use Rattle.year_entries.specs.Year.{is_entry}
use Rattle.year_act.proofs.is_entry.Statement.{statement}
use Rattle.year_act.proofs.is_entry.Tie as tie

second : (f k : Bool) → f ≡ true → machine.not k ≡ or (not f) (not k)
unfolding or not
second true true e = refl
second true false e = refl
second false k e = clash {b = false} e refl

returns : tie.Need-returns-then-l-ne0
unfolding is_entry
returns c = sym (or_l _ _ (not-i _ (ne_eqb _ 0 c.if-l-ne0.true)))

returns-2 : tie.Need-returns
unfolding is_entry
returns-2 c = let l = c.args.l in second (eqb l.fault 0) (eqb l.kind 0) (eq-eqb _ 0 c.if-l-ne0.false)

pub is_entry_spec : {M : Type 1} → statement M
is_entry_spec =
    tie.close
    (tie.spec
    returns
    returns-2)
