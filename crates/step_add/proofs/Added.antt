-- The table added on a head and rows is the table added on the network that they hold.
use mathlib.Core.Bool.{Bool, true}
use mathlib.Core.List.{List}
use mathlib.Core.Path.{◌≡◌, refl, sym, ap, ◌∙◌}
use Prim.Native.Nat.{ℕ, suc, ◌≤◌, ◌<◌}
use native.Mathlib.Omega.{arith}
use lib.Dec.{eqb}
use lib.ListN.{length, get_or, set}
use Rattle.bounded.specs.Bool.{or}
use Rattle.bounded.specs.Table.{tabulate}
use Rattle.words.specs.Word.{width, has, word}
use Rattle.words.proofs.Laws.{word-cong}
use Rattle.network.specs.Network.{Network, free}
use Rattle.network.specs.Sound.{Sound, Bounded}
use Rattle.network.specs.Step.{relisted, followers_trimmed, Trimmable}
use Rattle.network.specs.Lists.{narrowed}
use Rattle.network.specs.Added.{traced, add_refusal, constrained, allows_partners, added}
use Rattle.network.proofs.Trim.{relisted-trimmable, relisted-bounded}
use Rattle.network.proofs.Lists.{narrowed-fewer, narrowed-led, lists-free}
use Rattle.network.proofs.Added.{traced-free, traced-in, traced-is-free}
use Rattle.network.proofs.Added.{added-one, added-two, add-refuses, not_refused}
use Rattle.pairs.specs.Pairs.{variables, rows_of}
use Rattle.pairs.specs.Frames.{Stored}
use Rattle.head.specs.declared.Head.{Head}
use Rattle.head.specs.Held.{values_at_most, HeadShaped, RowsShaped, Represents, held, head_of, sound_in}
use Rattle.head.proofs.Held.{rows-of-held, held-sound, held-n, held-size}
use Rattle.step_trim.specs.Trimmed.{Led, trimmed_at}
use Rattle.step_trim.proofs.Trimmed.{leaders-led, network-trimmed}
use Rattle.step_sides.specs.declared.sides.Side.{Side}
use Rattle.step_sides.specs.Sides.{leader_of, side_of, Apart, PartnersIn, PartnersTold, cut_at, kept_at}
use Rattle.step_sides.specs.Turned.{Turns}
use Rattle.step_add.proofs.Meaning.{cut-is, kept_is, partners-in, partners-told, turns}
use Rattle.step_add.proofs.Stored.{narrowed-head, constrained-head, constrained-rows}

-- What is known of a table that is not refused.
pub record Given (h : Head) (rows : List ℕ) (x y : ℕ) (table : List ℕ) : Type 0 where
  pub shaped : HeadShaped h
  pub is_sound : sound_in h rows ≡ true
  pub rows_shaped : RowsShaped rows
  pub accepted : add_refusal (held h rows) (suc x) (suc y) table ≡ 0

module _ {h : Head} {rows : List ℕ} {x y : ℕ} {table : List ℕ} (G : Given h rows x y table) where
  S : Sound (held h rows)
  S = held-sound h rows G.shaped G.is_sound

  x-in : x < (held h rows).n
  x-in = (not_refused (held h rows) (suc x) (suc y) table G.accepted).0

  y-in : y < (held h rows).n
  y-in = (not_refused (held h rows) (suc x) (suc y) table G.accepted).1

  in_head : (z : ℕ) → z < (held h rows).n → (z < variables) × (leader_of h z < variables)
  unfolding leader_of traced free held
  in_head z l =
      let n = held-n h rows G.is_sound in
      (omega arith, let k : traced (held h rows) z < h.n = traced-in (held h rows) S z l in omega arith)

  -- The two variables named, and their leaders, are variables that an array tells of.
  pub first_in : (x < variables) × (leader_of h x < variables)
  first_in = in_head x x-in

  pub second_in : (y < variables) × (leader_of h y < variables)
  second_in = in_head y y-in

  row-for-each : length table ≡ (held h rows).size x
  row-for-each = ((add-refuses (held h rows) (suc x) (suc y) table).number_0.0 G.accepted).1.1.row_count

  -- Each value of the first leader has a row.
  pub rows_in : {s : Side} → s ≡ side_of h x → PartnersIn width rows table s
  rows_in e = rw e (partners-in h rows G.shaped G.is_sound x y table (omega (arith, row-for-each)))

  -- Of one leader, each value has its one partner in the second.
  pub told_in : {s t : Side} → s ≡ side_of h x → t ≡ side_of h y → s.leader ≡ t.leader → PartnersTold width rows s t
  unfolding side_of
  told_in se te e = rw (se, te) (partners-told h rows G.shaped G.is_sound x y (rw (se, te) at e))

  -- A leader is free, so that it is led by no other.
  not-led : (u v : ℕ) → (leader_of h u ≡ leader_of h v → ⊥) → u ≡ leader_of h v → ⊥
  unfolding leader_of traced free held
  not-led u v d e = d (traced-free (held h rows) u (rw e (traced-is-free (held h rows) S v)) ∙ e)

  -- The head and rows of the network with the table added.
  made : (M : Network) {r : Head} {after : List ℕ} → added (held h rows) x y table ≡ M → r ≡ head_of M → after ≡ rows_of width M.allows
      → Represents (added (held h rows) x y table) r after
  made M e he re = record { head_is = he ∙ ap head_of (sym e); rows_are = re ∙ ap (λ (K : Network). rows_of width K.allows) (sym e) }

  -- One leader: its domain keeps what the table allows. With its followers' untrimmed the network is not sound; it fits the arrays and can be trimmed.
  abbrev cut_list : Network
  cut_list = narrowed (held h rows) (traced (held h rows) x) (λ (a : ℕ). allows_partners (held h rows) x y table a a)

  leads-free : free (held h rows) (traced (held h rows) x) ≡ true
  leads-free = traced-is-free (held h rows) S x

  few : (held h rows).n ≤ variables
  unfolding held
  few = held-n h rows G.is_sound

  small : (z : ℕ) → (held h rows).size z ≤ values_at_most
  unfolding held
  small = held-size h rows G.shaped G.is_sound

  fits : Bounded variables width cut_list
  unfolding narrowed relisted
  fits =
      relisted-bounded (held h rows) S cut_list.domain (narrowed-fewer (held h rows) _ _) (narrowed-led (held h rows) _ _ leads-free)
      variables width few (omega (arith, few)) small

  can : Trimmable cut_list
  unfolding narrowed relisted
  can = relisted-trimmable (held h rows) S cut_list.domain (narrowed-fewer (held h rows) _ _) (narrowed-led (held h rows) _ _ leads-free)

  sound-trimmed : Sound (followers_trimmed cut_list)
  sound-trimmed = lists-free.any_part (held h rows) S (traced (held h rows) x) leads-free _

  cut-rows : rows ≡ rows_of width cut_list.allows
  unfolding narrowed relisted
  cut-rows = sym (rows-of-held h rows G.rows_shaped)

  list-trimmed : {r : Head} {short : List ℕ} → r ≡ head_of cut_list → short ≡ tabulate variables (trimmed_at width rows r.domains r.leaders)
      → record { n = r.n; sizes = r.sizes; domains = short; leaders = r.leaders; stated = r.stated } ≡ head_of (followers_trimmed cut_list)
  unfolding narrowed relisted
  list-trimmed e = network-trimmed cut_list fits can sound-trimmed few small e cut-rows

  -- Each leader is a variable that the arrays have.
  pub leaders-in : Led h.leaders
  unfolding held
  leaders-in = leaders-led h rows G.shaped (record { values_in = S.domain_in; pairs_alike = S.allows_sym; leaders_free = S.leader_free }) few

  abbrev Trims : Side → Side → Type 0
  Trims s r =
      (k : ℕ) (short : List ℕ) → s.leader ≡ r.leader → k ≡ word width (kept_at width rows table s r)
      → short ≡ tabulate variables (trimmed_at width rows (set h.domains s.leader k) h.leaders)
      → Represents (added (held h rows) x y table) (record { n = h.n; sizes = h.sizes; domains = short; leaders = h.leaders; stated = h.stated }) rows

  trims : Trims (side_of h x) (side_of h y)
  unfolding side_of leader_of traced free held
  trims k short e ke q =
      made (followers_trimmed cut_list) (added-one (held h rows) x y table e)
      (list-trimmed (narrowed-head h rows G.shaped _ _ _ first_in.1
      (ke ∙ word-cong width _ _ (λ a _. kept_is h rows G.shaped G.is_sound x y table a e))) q)
      (cut-rows ∙ unfold followers_trimmed relisted in refl)

  -- Two: their pair is stated, and cut.
  abbrev Cuts : Side → Side → Bool → (one two u v : ℕ) → List ℕ → Type 0
  Cuts s r was one two u v after =
      (s.leader ≡ r.leader → ⊥)
      → was ≡ has (get_or h.stated s.leader 0) r.leader
      → Stored width rows after s.leader r.leader (cut_at width rows table s r was) width
      → one ≡ word width (λ (w : ℕ). eqb w r.leader) → u ≡ word width (λ (w : ℕ). or (has (get_or h.stated s.leader 0) w) (has one w))
      → two ≡ word width (λ (w : ℕ). eqb w s.leader) → v ≡ word width (λ (w : ℕ). or (has (get_or (set h.stated s.leader u) r.leader 0) w) (has two w))
      → Represents (added (held h rows) x y table)
      (record { n = h.n; sizes = h.sizes; domains = h.domains; leaders = h.leaders; stated = set (set h.stated s.leader u) r.leader v }) after

  cuts : {was : Bool} {one two u v : ℕ} {after : List ℕ} → Cuts (side_of h x) (side_of h y) was one two u v after
  unfolding side_of leader_of traced free held
  cuts d we st oe ue te ve =
      made (constrained (held h rows) (traced (held h rows) x) (traced (held h rows) y) (allows_partners (held h rows) x y table)) (added-two (held h rows) x y table d)
      (constrained-head h rows G.shaped _ _ _ first_in.1 second_in.1 d oe ue te ve)
      (constrained-rows h rows G.shaped G.is_sound G.rows_shaped d _ st (λ a b. cut-is h rows G.shaped G.is_sound x y table _ a b we))

  module _ {s r : Side} (se : s ≡ side_of h x) (re : r ≡ side_of h y) where
    pub sides_apart : (s.leader ≡ r.leader → ⊥) → Apart s r
    unfolding side_of
    sides_apart d =
        rw (se, re)
        (let n : leader_of h x ≡ leader_of h y → ⊥ = rw (se, re) at d in
        record { leaders_apart = n; first_apart = not-led x y n; second_apart = not-led y x (λ e. n (sym e)) })

    -- The table may be turned.
    pub sides-turn : Turns width rows table s r
    sides-turn = rw (se, re) (turns h rows G.shaped G.is_sound x y table row-for-each)

    pub added-same : Trims s r
    added-same = rw (se, re) trims

    pub added-apart : {was : Bool} {one two u v : ℕ} {after : List ℕ} → Cuts s r was one two u v after
    added-apart = rw (se, re) cuts
