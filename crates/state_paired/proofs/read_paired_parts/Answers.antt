-- A refusal is handed on; of an accepted sheet the walk says whether it is of the profile.
use Rattle.std.proofs.Common.{rules, ◌≡◌, Err}
use mathlib.Core.Path.{sym, ap, ◌∙◌}
use Rattle.state_read.specs.Parts.{read_parts_told}
use Rattle.read_paired.proofs.Named.{some_named, none_named}
use Rattle.state_paired.proofs.Beside.{handed-on, walked, kept, turned-away}
use Rattle.state_paired.proofs.read_paired_parts.Goals as goal

pub returns-in_err-head : goal.returns-in_err-head
returns-in_err-head c =
    let e : c.from_residual.result ≡ Err c.in_err-head.field-0.0 = search rules in
    ap (λ r. read_parts_told r c.read_parts.new.rows) e ∙ handed-on _ _ _ c.in_err-head.ensures

pub unpaired_place-requires : goal.unpaired_place-requires
unpaired_place-requires c = walked _ _ _ c.in_ok-head.ensures

pub returns-in_default : goal.returns-in_default
returns-in_default c =
    let told = c.in_ok-head.ensures in
    kept _ _ _ told (walked _ _ _ told) (none_named (search rules))

pub returns : goal.returns
returns c =
    let found = some_named (search rules) in
    c.refused.ensures ∙ turned-away _ (walked _ _ _ c.in_ok-head.ensures) (sym found.0) (λ z. let l = found.1 in let x : ⊥ = search rules in x)
