-- A line feed, or another byte.
use Rattle.std.proofs.Common.{◌≡◌, refl, sym, ◌∙◌, ap}
use borrow.Author.Tests.{eq-eqb, ne_eqb}
use Rattle.scan.specs.declared.Scan.{Scan}
use Rattle.scan.specs.Scan.{step}
use Rattle.scan.specs.Line.{finish}
use Rattle.state.specs.View.{state_of}
use Rattle.text_put.proofs.Laws.{put-text, put-none}
use Rattle.year_feed.proofs.Held.{moved-is, quiet_is, ended_is, answer-is}
use Rattle.year_feed.proofs.take_byte.Goals as goal

pub returns-then-byte-ne10 : goal.returns-then-byte-ne10
returns-then-byte-ne10 c =
    let s = state_of c.args.head c.args.rows.now in
    let n = ne_eqb c.args.byte 10 c.if-byte-ne10.true in
    record {
      whole = c.requires.1;
      year_is = λ z H. rw (moved-is s c.args.quiet z c.args.byte n)
          (record { seen_is = c.step.ensures ∙ ap (λ (x : Scan). step x c.args.byte) H.seen_is; begun_is = refl; kept = H.kept });
      text_is = λ z H. put-text (sym (quiet_is s c.args.quiet z c.args.byte n)) (put-none _ _);
    }

pub returns : goal.returns
returns c =
    let s = state_of c.args.head c.args.rows.now in
    let n = eq-eqb c.args.byte 10 c.if-byte-ne10.false in
    let L = c.act-acted.ensures in
    record {
      whole = L.whole;
      year_is = λ z H.
          let q : c.finish-line.result ≡ finish z.seen = c.finish-line.ensures ∙ ap finish H.seen_is in
          rw (ended_is s c.args.quiet z c.args.byte n) (record { seen_is = c.opening.ensures; begun_is = refl; kept = rw q at (L.year_is z.state H.kept) });
      text_is = λ z H.
          let q : c.finish-line.result ≡ finish z.seen = c.finish-line.ensures ∙ ap finish H.seen_is in
          put-text (sym (answer-is s c.args.quiet z c.args.byte n)) (rw q at (L.text_is z.state H.kept));
    }
