-- What a table says of the values of two leaders, read off the rows, is what the network that they hold says.
use mathlib.Core.Bool.{Bool, true}
use mathlib.Core.List.{List}
use mathlib.Core.Path.{◌≡◌, refl, sym, ap, ap₂, ◌∙◌}
use Prim.Native.Nat.{ℕ, suc, ◌≤◌, ◌<◌}
use native.Mathlib.Omega.{arith}
use lib.ListN.{length, get_or}
use borrow.Author.Tests.{eq-eqb, ne_eqb}
use Rattle.bounded.specs.Bool.{and, implies}
use Rattle.bounded.specs.Fold.{some}
use Rattle.bounded.proofs.Bool.{bool-ext, and_comm, and_assoc, and-cong, and_l, and_r, if-true, if-false}
use Rattle.bounded.proofs.Fold.{some-i, some-e, some-cong, first-widen}
use Rattle.words.specs.Word.{width, has}
use Rattle.network.specs.Network.{Network, free, partner}
use Rattle.network.specs.Sound.{Sound}
use Rattle.network.specs.Added.{traced, partner_in, table_allows, cut_pair, allows_partners}
use Rattle.network.proofs.Sound.{free-or-led, leader-not-self, partner-some}
use Rattle.network.proofs.Added.{traced-free, traced-led, partner_in-free, partner_in-led, partner_in-is, partner_in-some}
use Rattle.pairs.proofs.Laws.{allows-alike}
use Rattle.head.specs.declared.Head.{Head}
use Rattle.head.specs.Held.{HeadShaped, held, sound_in}
use Rattle.head.proofs.Held.{held-sound, held-size}
use Rattle.step_sides.specs.Sides.{leader_of, side_of, partner_at, PartnersIn, PartnersTold, told_at, reach_at, cut_at, kept_at}
use Rattle.step_sides.specs.Turned.{turned_of, Turns}
use Rattle.step_sides.proofs.Turning.{columns-length, turned-allows}

and-swap : (a b c : Bool) → and (and a b) c ≡ and (and a c) b
and-swap a b c = and_assoc a b c ∙ ap (and a) (and_comm b c) ∙ sym (and_assoc a c b)

-- Past the last number that passes there is none.
some-widen : (n m : ℕ) (p : ℕ → Bool) → n ≤ m → ((k : ℕ) → p k ≡ true → k < n) → some m p ≡ some n p
some-widen n m p l h =
    bool-ext _ _ (λ t. some-e m p t (λ k _ u. some-i n p k (h k u) u)) (λ t. some-e n p t (λ k u v. some-i m p k (omega arith) v))

module _ (h : Head) (rows : List ℕ) (S : HeadShaped h) (t : sound_in h rows ≡ true) where
  abbrev N : Network
  N = held h rows

  sound : Sound N
  sound = held-sound h rows S t

  -- A side is what the network says of its variable.
  leader-is : (x : ℕ) → leader_of h x ≡ traced N x
  unfolding leader_of traced free held
  leader-is x = refl

  leader_led : (x l : ℕ) → N.leader x ≡ suc l → leader_of h x ≡ l
  leader_led x l e = leader-is x ∙ traced-led N x l e

  size_fits : (x : ℕ) → N.size x ≤ width
  unfolding held
  size_fits x = omega (arith, held-size h rows S t x)

  -- The partner of a value of the leader is in the domain of the variable named,
  partner-in : (x a : ℕ) → N.domain (traced N x) a ≡ true → N.domain x (partner_in N x a) ≡ true
  unfolding partner
  partner-in x a d =
      free-or-led N x
      (λ f. rw (partner_in-free N x a f) (rw (traced-free N x f) at d))
      (λ l e. and_l _ _ ((partner_in-is N sound x a d).led l e))

  -- and is what is read off the rows.
  partner-is : (x a : ℕ) → N.domain (traced N x) a ≡ true → partner_at width rows (side_of h x) a ≡ partner_in N x a
  unfolding partner_at side_of partner held
  partner-is x a d =
      free-or-led N x
      (λ f. if-true _ _ _ (eq-eqb _ _ (leader-is x ∙ traced-free N x f)) ∙ sym (partner_in-free N x a f))
      (λ l e. rw (leader_led x l e)
      (if-false _ _ _ (ne_eqb l x (leader-not-self N sound x l e))
      ∙ first-widen (N.size x) width (partner N l x a) (size_fits x) (partner-some N sound x l a e (rw (traced-led N x l e) at d))
      ∙ sym (partner_in-led N x l a e)))

  -- What the second leader is told of a row is what the row says of partners.
  told_is : (y row b : ℕ) → N.domain (traced N y) b ≡ true → told_at width rows (side_of h y) row b ≡ has row (partner_in N y b)
  unfolding told_at side_of partner held
  told_is y row b d =
      free-or-led N y
      (λ f. if-true _ _ _ (eq-eqb _ _ (leader-is y ∙ traced-free N y f)) ∙ ap (has row) (sym (partner_in-free N y b f)))
      (λ l e. rw (leader_led y l e)
      (if-false _ _ _ (ne_eqb l y (leader-not-self N sound y l e))
      ∙ some-cong width _ _ (λ c _. ap (and _) (allows-alike width rows y l c b) ∙ and-swap _ _ _)
      ∙ some-widen (N.size y) width (λ (c : ℕ). and (partner N l y b c) (has row c)) (size_fits y)
      (λ c k. sound.domain_in y c (and_l _ _ (and_l _ _ k)))
      ∙ partner_in-some N sound y l b (has row) e (rw (traced-led N y l e) at d)))

  module _ (x y : ℕ) (table : List ℕ) where
    -- "the new table allows their partners", of values in the leaders' domains
    reach-is : (a b : ℕ) → N.domain (traced N x) a ≡ true → N.domain (traced N y) b ≡ true
        → reach_at width rows table (side_of h x) (side_of h y) a b ≡ allows_partners N x y table a b
    unfolding reach_at allows_partners table_allows
    reach-is a b da db = told_is y _ b db ∙ ap (λ (c : ℕ). has (get_or table c 0) (partner_in N y b)) (partner-is x a da)

    -- What the leaders' pair is to allow,
    pub cut-is : (was : Bool) (a b : ℕ) → was ≡ N.stated (traced N x) (traced N y)
        → cut_at width rows table (side_of h x) (side_of h y) was a b
        ≡ cut_pair N (traced N x) (traced N y) (allows_partners N x y table) a b
        (implies (N.stated (traced N x) (traced N y)) (N.allows (traced N x) (traced N y) a b))
    unfolding cut_at cut_pair side_of leader_of traced free held
    cut-is was a b e =
        and-cong _ _ _ (λ d. ap₂ and (reach-is a b (and_l _ _ d) (and_r _ _ d)) (ap (λ (s : Bool). implies s (N.allows (traced N x) (traced N y) a b)) e))

    -- and what their one domain is to keep.
    pub kept_is : (a : ℕ) → traced N x ≡ traced N y
        → kept_at width rows table (side_of h x) (side_of h y) a ≡ and (N.domain (traced N x) a) (allows_partners N x y table a a)
    unfolding kept_at side_of leader_of traced free held
    kept_is a e = and-cong _ _ _ (λ d. reach-is a a d (rw e at d))

    -- Each value of the first leader has a row of a table with a row for each value of x.
    pub partners-in : N.size x ≤ length table → PartnersIn width rows table (side_of h x)
    unfolding side_of leader_of traced free held
    partners-in e a d = rw (partner-is x a d) (omega (arith, sound.domain_in x _ (partner-in x a d)))

  partner-fits : (z a : ℕ) → N.domain (traced N z) a ≡ true → partner_in N z a < width
  partner-fits z a d = omega (arith, sound.domain_in z _ (partner-in z a d), size_fits z)

  -- Of one leader, each value has its one partner in the second.
  pub partners-told : (x y : ℕ) → leader_of h x ≡ leader_of h y → PartnersTold width rows (side_of h x) (side_of h y)
  unfolding side_of leader_of traced free held
  partners-told x y e a d =
      let d' : N.domain (traced N y) a ≡ true = rw e at d in
      (rw (partner-is y a d') (partner-fits y a d'), λ row. told_is y row a d' ∙ ap (has row) (sym (partner-is y a d')))

  -- From its other side the table says the same of the leaders' values.
  module _ (x y : ℕ) (table : List ℕ) where
    reach-turns : (a b : ℕ) → N.domain (traced N x) a ≡ true → N.domain (traced N y) b ≡ true
        → reach_at width rows (turned_of width (side_of h y).domain table) (side_of h y) (side_of h x) b a ≡ reach_at width rows table (side_of h x) (side_of h y) a b
    unfolding allows_partners side_of held
    reach-turns a b da db =
        reach-is y x (turned_of width (side_of h y).domain table) b a db da
        ∙ turned-allows width _ table _ _ (partner-fits x a da) (partner-fits y b db) (partner-in y b db)
        ∙ sym (reach-is x y table a b da db)

    cut-turns : (was : Bool) (a b : ℕ)
        → cut_at width rows (turned_of width (side_of h y).domain table) (side_of h y) (side_of h x) was b a ≡ cut_at width rows table (side_of h x) (side_of h y) was a b
    unfolding cut_at side_of leader_of traced free held
    cut-turns was a b =
        and-cong _ _ _ (λ d. ap₂ and (reach-turns a b (and_r _ _ d) (and_l _ _ d)) (ap (implies was) (allows-alike width rows _ _ b a)))
        ∙ ap₂ and (and_comm _ _) refl

    pub turns : length table ≡ N.size x → Turns width rows table (side_of h x) (side_of h y)
    turns e =
        record {
          rows_few = omega (arith, size_fits x);
          columns_in = partners-in y x (turned_of width (side_of h y).domain table) (omega (arith, size_fits y, columns-length width (side_of h y).domain table));
          cut_same = cut-turns;
        }
