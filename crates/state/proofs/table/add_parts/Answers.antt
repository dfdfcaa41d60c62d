use Rattle.std.proofs.Common.{rules, ◌≡◌, Err}
use mathlib.Core.Path.{refl, sym, ap, ◌∙◌}
use Rattle.state.specs.Calls.{called}
use Rattle.state.specs.Worked.{worked_told}
use Rattle.state.proofs.Steps.{refusal-told}
use Rattle.state.proofs.Tables.{not-refused-table, table-made}
use Rattle.state.proofs.WorkedOut.{taken-told}
use Rattle.state.proofs.table.add_parts.Goals as goal

pub returns-in_err-refuse_table : goal.returns-in_err-refuse_table
unfolding called
returns-in_err-refuse_table c =
    let e : c.from_residual.result ≡ Err c.in_err-refuse_table.field-0.0 = search rules in
    ap (λ r. worked_told c.args.head r c.args.rows.now) e ∙ refusal-told _ _ (c.in_err-refuse_table.ensures)

pub overflow_sub-first : goal.overflow_sub-first
overflow_sub-first c = (not-refused-table _ (c.in_ok-refuse_table.ensures)).first_some

pub overflow_sub-second : goal.overflow_sub-second
overflow_sub-second c = (not-refused-table _ (c.in_ok-refuse_table.ensures)).second_some

pub add-after-requires : goal.add-after-requires
add-after-requires c = let T = not-refused-table _ (c.in_ok-refuse_table.ensures) in (T.for_sound, c.whole.ensures, T.fits)

pub returns : goal.returns
returns c = taken-told _ _ (not-refused-table _ (c.in_ok-refuse_table.ensures)).number_0 (table-made _ _ _ _) c.add-after.ensures refl
