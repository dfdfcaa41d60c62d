-- Nothing where the pair is not stated; else the pair and the rows: `wrote-table`.
use mathlib.Core.List.{◌∷◌}
use mathlib.Core.Path.{◌≡◌, sym, ◌∙◌}
use Prim.Native.Nat.{suc, ◌+◌, ◌≤◌}
use native.Mathlib.Omega.{arith}
use lib.ListN.{length}
use borrow.Author.Rules.{rules}
use Rattle.bounded.proofs.Bool.{if-true, if-false}
use Rattle.write_tables.specs.Texts.{row_of, rows_text, table_text}
use Rattle.buffers.proofs.Laws.{wrote_none, wrote-text}
use Rattle.write_tables.proofs.Texts.{wrote-table, same_length, wrote-same}
use Rattle.write_tables.proofs.write_table.Statement.{statement}
use Rattle.write_tables.proofs.write_table.Tie as tie

-- Past the test the pair is stated: its text is the two numbers and the rows,
stated-text : (c : tie.Else-not-member)
    → let s = c.args in
    let row = row_of 32 s.rows.now in
    table_text s.bytes row s.size s.stated s.i s.j ≡ suc s.i ∷ suc s.j ∷ rows_text s.bytes row s.size s.i s.j
unfolding table_text
stated-text c = if-true _ _ _ (sym c.member.ensures ∙ c.if-not-member.false)

-- and there is room for it and the rows.
room-here : (c : tie.Else-not-member)
    → let s = c.args in
    s.at + (2 + length (rows_text s.bytes (row_of 32 s.rows.now) s.size s.i s.j)) ≤ length s.buffer.now
room-here c = let r = rw (stated-text c) at c.requires.1 in omega arith

returns : tie.Need-returns-then-not-member
unfolding table_text
returns c = wrote-text (sym (if-false _ _ _ (sym c.member.ensures ∙ c.if-not-member.true))) (wrote_none _ _ (omega arith))

put-byte-requires : tie.Need-put_byte-second-requires
put-byte-requires c κs = omega (arith, room-here c.before)

put-byte-requires-2 : tie.Need-put_byte-first_row-requires
put-byte-requires-2 c κs = omega (arith, room-here c.before.before.before.before.before)

-- In each branch the bytes of a row are as many as the test says.
abbrev else1 : tie.After-put_byte-first_row → tie.Else-not-member
else1 p = p.before.before.before.before.before.before

put-rows-requires : tie.Need-put_rows-requires
put-rows-requires c κs =
    let t = c in
    let e = else1 c.before.before.before.before in
    let a = e.args in
    let r = room-here e in
    let l = same_length t.if-bytes-eq2.true (row_of 32 a.rows.now) a.size a.i a.j in
    search rules

returns-2 : tie.Need-returns-then-bytes-eq2
returns-2 c =
    let w = c in
    let t = w in
    let p = t in
    let a = (else1 c.before.before.before.before.before.before.before).args in
    wrote-table (stated-text (else1 c.before.before.before.before.before.before.before)) (omega arith) (omega arith)
    p.put_byte-second.ensures p.put_byte-first_row.ensures (wrote-same t.if-bytes-eq2.true _ a.size a.i a.j w.put_rows.ensures)

put-rows-requires-2 : tie.Need-put_rows-requires-then-bytes-eq4
put-rows-requires-2 c κs =
    let t = c in
    let e = else1 c.before.before.before.before.before in
    let a = e.args in
    let r = room-here e in
    let l = same_length t.if-bytes-eq4.true (row_of 32 a.rows.now) a.size a.i a.j in
    search rules

returns-3 : tie.Need-returns-then-bytes-eq4
returns-3 c =
    let w = c in
    let t = w in
    let p = t in
    let a = (else1 c.before.before.before.before.before.before.before.before).args in
    wrote-table (stated-text (else1 c.before.before.before.before.before.before.before.before)) (omega arith) (omega arith)
    p.put_byte-second.ensures p.put_byte-first_row.ensures (wrote-same t.if-bytes-eq4.true _ a.size a.i a.j w.put_rows-then-bytes-eq4.ensures)

put-rows-requires-3 : tie.Need-put_rows-requires-2
put-rows-requires-3 c κs = let r = room-here (else1 c.before.before.before.before.before) in search rules

returns-4 : tie.Need-returns
returns-4 c =
    let w = c in
    let p = w in
    wrote-table (stated-text (else1 c.before.before.before.before.before.before.before.before)) (omega arith) (omega arith)
    p.put_byte-second.ensures p.put_byte-first_row.ensures w.put_rows-2.ensures

pub write_table_spec : {M : Type 1} → statement M
write_table_spec =
    tie.close
    (tie.spec
    (λ c κs. search rules)
    returns
    (λ c. search rules)
    (λ c. search rules)
    put-byte-requires
    (λ c. search rules)
    (λ c. search rules)
    put-byte-requires-2
    put-rows-requires
    (λ c. search rules)
    returns-2
    put-rows-requires-2
    (λ c. search rules)
    returns-3
    put-rows-requires-3
    (λ c. search rules)
    returns-4)
