use Rattle.std.proofs.Common.{rules}
use native.Mathlib.Omega.{arith}
use Rattle.words.specs.Word.{width}
use Rattle.write_tables.specs.Texts.{later_text}
use Rattle.write_tables.proofs.Texts.{wrote-room, table-unstated}
use Rattle.write_tables.proofs.Later.{later-none, later-next, later_more, later-end}
use Rattle.write_tables.proofs.write_later.Goals as goal

pub loop-j-init : goal.loop-j-init
unfolding later_text
loop-j-init c = later-none width _ (search rules) (omega (arith, c.requires.i_in_bounds)) c.full.ensures c.without.ensures (search rules)

pub write_table-next-requires : goal.write_table-next-requires
unfolding later_text
write_table-next-requires c =
    let t = c.in-Some.ensures.steps in
    let b = c.requires.bytes_bound in
    let m = later-next width _ (omega arith) (table-unstated _ _ _ c.args.stated c.args.i) c.loop-j.invariant b.4 t.0 t.1 in
    let r = wrote-room _ c.args.n (omega arith) m.1 c.requires.i_in_bounds m.2 in
    search rules

pub loop-j-preserved : goal.loop-j-preserved
loop-j-preserved c =
    let t = c.in-Some.ensures.steps in
    let b = c.requires.bytes_bound in
    later_more width _ (omega arith) (table-unstated _ _ _ c.args.stated c.args.i) c.loop-j.invariant b.4 t.0 t.1 c.write_table-next.ensures t.2

pub returns : goal.returns
unfolding later_text
returns c =
    let b = c.requires.bytes_bound in
    later-end width _ (omega arith) (table-unstated _ _ _ c.args.stated c.args.i) c.loop-j.invariant c.in-None.ensures.steps.0
