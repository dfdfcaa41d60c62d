-- With a line that goes on, or without.
use Rattle.std.proofs.Common.{◌≡◌, sym, ◌∙◌, ap}
use Rattle.scan.specs.Line.{finish}
use Rattle.state.specs.View.{state_of}
use Rattle.text_put.proofs.Laws.{put-text, put-none}
use Rattle.year_feed.proofs.Held.{last-state-on, last-text-on, last-state-off, last-text-off}
use Rattle.year_feed.proofs.last.Goals as goal

pub returns-then-run : goal.returns-then-run
returns-then-run c =
    let s = state_of c.args.head c.args.rows.now in
    let L = c.act.ensures in
    record {
      whole = L.whole;
      year_is = λ z H.
          let q : c.finish-line.result ≡ finish z.seen = c.finish-line.ensures ∙ ap finish H.seen_is in
          rw (last-state-on s c.args.quiet z (sym H.begun_is ∙ c.if-run.true)) (rw q at (L.year_is z.state H.kept));
      text_is = λ z H.
          let q : c.finish-line.result ≡ finish z.seen = c.finish-line.ensures ∙ ap finish H.seen_is in
          put-text (sym (last-text-on s c.args.quiet z (sym H.begun_is ∙ c.if-run.true))) (rw q at (L.text_is z.state H.kept));
    }

pub returns : goal.returns
returns c =
    let s = state_of c.args.head c.args.rows.now in
    record {
      whole = c.requires.1;
      year_is = λ z H. rw (last-state-off s c.args.quiet z (sym H.begun_is ∙ c.if-run.false)) H.kept;
      text_is = λ z H. put-text (sym (last-text-off s c.args.quiet z (sym H.begun_is ∙ c.if-run.false))) (put-none _ _);
    }
