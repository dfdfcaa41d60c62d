-- The arrays of a state as they are left.
use mathlib.Core.List.{List}
use mathlib.Core.Path.{◌≡◌, sym, ap, ◌∙◌}
use Prim.Native.Nat.{ℕ}
use Rattle.std.specs.Prelude.{Result, Ok, Err}
use Rattle.cause.specs.declared.Cause.{Cause}
use Rattle.head.specs.declared.Head.{Head}
use Rattle.step_reduce.specs.declared.Reduction.{Reduction}
use Rattle.state.specs.declared.state.State.{State}
use Rattle.state.specs.View.{state_of}
use Rattle.state.specs.Answers.{Told}
use Rattle.state.specs.Worked.{worked_told}
use Rattle.capi_lent.specs.declared.SheetStepped.{SheetStepped}
use Rattle.capi_lent.specs.Lent.{head_with, state_with, state_left, Stored, Left}

-- A head whose arrays are stored.
pub head_stored : (h : Head) {lists leaders stated : List ℕ} → Stored h lists leaders stated → head_with h.n h.sizes lists leaders stated ≡ h
head_stored h e = λ i. head_with h.n h.sizes (e.0 i) (e.1 i) (e.2 i)

-- What is stored of a head, with what a call leaves as it was, is the state told.
pub made-state : {n : ℕ} {sizes lists leaders stated rows : List ℕ} {h : Head} {s : State} → state_of h rows ≡ s → Stored h lists leaders stated
    → (s.n ≡ n) × (s.sizes ≡ sizes) → state_with n sizes lists leaders stated rows ≡ s
made-state {n} {sizes} {lists} {leaders} {stated} {rows} {h} {s} told p kept =
    let hn : n ≡ h.n = sym (ap (λ (u : State). u.n) told ∙ kept.0) in
    let hs : sizes ≡ h.sizes = sym (ap (λ (u : State). u.sizes) told ∙ kept.1) in
    (λ i. state_with (hn i) (hs i) (p.0 i) (p.1 i) (p.2 i) rows) ∙ told

-- Where nothing is stored, what a call hands back is the state told.
pub left-state : {n : ℕ} {sizes lists leaders stated lists' leaders' stated' rows : List ℕ} {s : State} → state_with n sizes lists leaders stated rows ≡ s
    → (lists' ≡ lists) × (leaders' ≡ leaders) × (stated' ≡ stated) → state_with n sizes lists' leaders' stated' rows ≡ s
left-state {n} {sizes} {lists} {leaders} {stated} {lists'} {leaders'} {stated'} {rows} told e =
    (λ i. state_with n sizes (e.0 i) (e.1 i) (e.2 i) rows) ∙ told

-- What is left, with the number and the count of a step, a run of steps or a table added.
pub left_as : {n : ℕ} {sizes : List ℕ} (lists leaders stated lists' leaders' stated' rows' : List ℕ) (w : Result Reduction Cause) (r : SheetStepped) {t : Told}
    → worked_told (head_with n sizes lists leaders stated) w rows' ≡ t → Left w r lists leaders stated lists' leaders' stated'
    → (t.state.n ≡ n) × (t.state.sizes ≡ sizes) → state_left (state_with n sizes lists' leaders' stated' rows') r ≡ t
unfolding Left state_left
left_as lists leaders stated lists' leaders' stated' rows' (Ok run) r told L kept =
    let state = made-state (ap (λ (u : Told). u.state) told) L.1 kept in
    let numbers = ap (λ (u : SheetStepped). u.number) L.0 ∙ ap (λ (u : Told). u.number) told in
    let steps = ap (λ (u : SheetStepped). u.steps) L.0 ∙ ap (λ (u : Told). u.steps) told in
    λ i. record { number = numbers i; state = state i; steps = steps i }
left_as {n} {sizes} lists leaders stated lists' leaders' stated' rows' (Err c) r told L kept =
    (λ i. state_left (state_with n sizes (L.1 i) (L.2 i) (L.3 i) rows') (L.0 i)) ∙ told
