-- Lists from which values were removed until none was left to remove, on 16 domains: with the followers' trimmed they are those of the trimmed network.
use mathlib.Core.Bool.{true}
use mathlib.Core.List.{List}
use mathlib.Core.Path.{◌≡◌, refl, sym, ap, ◌∙◌}
use Prim.Native.Nat.{ℕ, suc, ◌^◌, ◌≤◌}
use Rattle.bounded.specs.Array.{Array}
use Rattle.bounded.specs.Table.{tabulate}
use Rattle.words.specs.Word.{width}
use Rattle.network.specs.Sound.{Sound}
use Rattle.network.specs.Step.{relisted, followers_trimmed}
use Rattle.network.specs.Trimming.{Partnered, Cut, live_trimmed}
use Rattle.network.proofs.Sound.{free-or-led}
use Rattle.network.proofs.Trim.{relisted-trimmable}
use Rattle.network.proofs.Trimming.{live-only}
use Rattle.pairs.specs.Pairs.{variables}
use Rattle.head.specs.declared.Head.{Head}
use Rattle.head.specs.Held.{held, head_of}
use Rattle.head.proofs.Held.{HeadShaped}
use Rattle.step_trim.specs.Trimmed.{trimmed_at, Led}
use Rattle.step_trim.proofs.Trimmed.{head-trimmed, leaders-led}
use Rattle.step_live.specs.Live.{lists_of}

module _ (h : Head) (rows : List ℕ) (H : HeadShaped h) (S : Sound (held h rows)) where
  pub sound-led : h.n ≤ variables → Led h.leaders
  sound-led = leaders-led h rows H (record { values_in = S.domain_in; pairs_alike = S.allows_sym; leaders_free = S.leader_free })

  module _ (domains : List ℕ) (A : Array variables (2 ^ width) domains) (c : Cut (held h rows) (lists_of domains))
      (p : Partnered (held h rows) (lists_of domains))
      (led : (x l a : ℕ) → (held h rows).leader x ≡ suc l → lists_of domains x a ≡ (held h rows).domain x a) where
    abbrev now : Head
    now = record { n = h.n; sizes = h.sizes; domains = domains; leaders = h.leaders; stated = h.stated }

    now-shaped : HeadShaped now
    now-shaped = record { n_lt = H.n_lt; sizes_array = H.sizes_array; domains_array = A; leaders_array = H.leaders_array; stated_array = H.stated_array }

    now-held : held now rows ≡ relisted (held h rows) (lists_of domains)
    unfolding held relisted lists_of
    now-held = refl

    fewer : (x a : ℕ) → lists_of domains x a ≡ true → (held h rows).domain x a ≡ true
    fewer x a d = free-or-led (held h rows) x (λ t. c.within x a t d) (λ l e. sym (led x l a e) ∙ d)

    pub live-head :
        record { n = h.n; sizes = h.sizes; domains = tabulate variables (trimmed_at width rows domains h.leaders); leaders = h.leaders; stated = h.stated }
        ≡ head_of (live_trimmed (held h rows))
    live-head =
        head-trimmed now rows now-shaped (rw now-held (relisted-trimmable (held h rows) S (lists_of domains) fewer led))
        ∙ ap head_of (ap followers_trimmed now-held ∙ live-only (held h rows) S (lists_of domains) c p led)
