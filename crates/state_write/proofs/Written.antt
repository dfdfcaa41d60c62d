-- The writer's tests and bytes, on the arrays of a sound state.
use mathlib.Core.Bool.{true}
use mathlib.Core.List.{List, ◌++◌}
use mathlib.Core.Path.{◌≡◌, sym, ◌∙◌, ap}
use Prim.Native.Nat.{ℕ, ◌^◌, ◌≤◌, ◌<◌}
use native.Mathlib.Omega.{arith}
use lib.Dec.{eqb, ltb}
use lib.ListN.{length, get_or, drop}
use borrow.Author.Tests.{eq-eqb, eqb-true, lt-ltb, ltb-true}
use Rattle.bounded.specs.Bool.{and}
use Rattle.bounded.specs.Fold.{every}
use Rattle.bounded.proofs.Bool.{bool-ext}
use Rattle.bounded.proofs.Fold.{every-i, every-e, every-cong}
use Rattle.words.specs.Word.{width, has, word}
use Rattle.words.proofs.Laws.{is_word, has_word}
use Rattle.cause.specs.declared.Cause.{Cause}
use Rattle.cause.specs.Number.{number_of}
use Rattle.cause.proofs.Laws.{number-positive}
use Rattle.network.specs.Network.{free}
use Rattle.network.specs.Sheet.{fresh}
use Rattle.head.specs.Held.{HeadShaped, held}
use Rattle.head.proofs.Held.{held-sound, held-size}
use Rattle.format.specs.Layout.{layout_of}
use Rattle.format.specs.Writable.{fits_version, rows_pass}
use Rattle.write_sheet.specs.Writing.{bytes_held}
use Rattle.solutions.specs.Choices.{fresh_value, fresh_parts}
use Rattle.std.specs.Prelude.{Ok, Err}
use Rattle.answers.specs.Answers.{write_told}
use Rattle.state.specs.declared.state.State.{State}
use Rattle.state.specs.View.{head_in, view, sound_state}
use Rattle.state.specs.Write.{Wrote, sheet_bytes, write_refusal, write_sheet}
use Rattle.state_read.proofs.RoundTrip.{write-accepted, wrote, wrote_nothing}

-- A domain within a size has all values below it exactly when it is their word.
full-domain : (domain size : ℕ) → domain < 2 ^ width → size ≤ width → ((a : ℕ) → has domain a ≡ true → a < size)
    → every size (has domain) ≡ eqb domain (word width (λ (v : ℕ). ltb v size))
full-domain domain size d w within =
    bool-ext _ _
    (λ t. eq-eqb _ _ (is_word width domain _ d (λ v _. bool-ext _ _ (λ m. lt-ltb v size (within v m)) (λ l. every-e size _ t v (ltb-true v size l)))))
    (λ t. every-i size _ (λ v l. ap (λ (x : ℕ). has x v) (eqb-true domain _ t) ∙ has_word width _ v (omega arith) ∙ lt-ltb v size l))

module _ (s : State) (h : HeadShaped (head_in s)) (t : sound_state s ≡ true) where
  -- A sound state is fresh exactly when its arrays are.
  pub fresh-told : fresh (view s) ≡ fresh_parts width s.n s.sizes s.domains s.leaders
  unfolding fresh held free fresh_parts fresh_value
  fresh-told =
      every-cong s.n _ _ (λ i _. ap (and (eqb (get_or s.leaders i 0) 0))
      (full-domain _ _ (h.domains_array.element_lt i) (let m = held-size _ s.rows h t i in omega arith) ((held-sound _ _ h t).domain_in i)))

-- What a way through the call answers and leaves in the buffer. A refusal answers its number and leaves the buffer.
pub refused-told : (version : ℕ) (s : State) {buffer : List ℕ} (c : Cause) → write_refusal version s (length buffer) ≡ number_of c
    → (write_told (Err c) ≡ (write_sheet version s buffer).answer) × (buffer ≡ (write_sheet version s buffer).buffer)
unfolding write_told
refused-told version s {buffer} c e =
    let w = wrote_nothing version s buffer (number_of c) e (number-positive c) in
    (sym (ap (λ (r : Wrote). r.answer) w), sym (ap (λ (r : Wrote). r.buffer) w))

-- Otherwise the bytes are written, and their length is answered.
pub written-told : (version : ℕ) (s : State) (buffer : List ℕ) {k : ℕ} {after : List ℕ} → sound_state s ≡ true → fresh (view s) ≡ true
    → fits_version (layout_of version) (view s) ≡ true
    → rows_pass (layout_of version) (view s) ≡ true
    → length (bytes_held version (head_in s) s.rows) ≤ length buffer
    → k ≡ length (bytes_held version (head_in s) s.rows)
    → after ≡ bytes_held version (head_in s) s.rows ++ drop (length (bytes_held version (head_in s) s.rows)) buffer
    → (write_told (Ok k) ≡ (write_sheet version s buffer).answer) × (after ≡ (write_sheet version s buffer).buffer)
unfolding write_told bytes_held sheet_bytes
written-told version s buffer t f v p l e a =
    let w = wrote version s buffer (write-accepted version s (length buffer) t f v p l) in
    (rw e (sym (ap (λ (r : Wrote). r.answer) w)), a ∙ sym (ap (λ (r : Wrote). r.buffer) w))
