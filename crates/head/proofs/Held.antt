-- A head with its rows and a network are the same, within the bounds of the arrays; and so are their tests of soundness.
use mathlib.Core.Bool.{Bool, true, false}
use mathlib.Core.List.{List}
use mathlib.Core.Path.{◌≡◌, refl, sym, ap, fun_ext, ◌∙◌}
use Prim.Native.Nat.{ℕ, suc, ◌^◌, ◌≤◌, ◌<◌}
use native.Mathlib.Omega.{arith}
use lib.ListN.{get_or}
use lib.Pow.{pow_pos}
use lib.Dec.{ltb}
use borrow.Author.Rules.{rules}
use borrow.Author.Tests.{ltb-true, ltb-false, leb-true}
use Rattle.bounded.specs.Array.{Array}
use Rattle.bounded.specs.Table.{tabulate}
use Rattle.bounded.proofs.Array.{u8-array, u32-array, array-past, get_d-table, table-array}
use Rattle.bounded.proofs.Bool.{by_cases, not-true→false, clash, and_l}
use Rattle.bounded.proofs.Table.{is-table}
use Rattle.words.specs.Word.{width, has, word}
use Rattle.words.proofs.Laws.{word_lt, word-has, has_all, has-zero, has-below, is_word}
use Rattle.network.specs.Network.{Network}
use Rattle.network.specs.Promise.{Keeps}
use Rattle.network.specs.Sound.{Sound, Bounded, sound, count_sound}
use Rattle.network.proofs.Sound.{free-e, free-or-led, leader-n, sound→Sound, sound-n, sound-size, Sound→Bounded, Sound→sound}
use Rattle.pairs.specs.Pairs.{variables, allows_of, rows_of}
use Rattle.pairs.proofs.Laws.{Inside, Pairwise, allows-inside, allows-rule, rows-allows, rows-array}
use Rattle.head.specs.declared.Head.{Head}
use Rattle.head.specs.Held.{values_at_most, RowsShaped, held, head_of, sound_in}
pub use Rattle.head.specs.Held.{HeadShaped}

-- What finds the shape of a parameter or of a call's result: `let h : HeadShaped c.args.head = search shape in ..`.
pub ruleset shape = (u8-array, u32-array, rules)

-- 16 sets, as words: domains, and stated pairs.
sets : (ℕ → ℕ → Bool) → List ℕ
sets p = tabulate variables (λ (i : ℕ). word width (p i))

module _ (p : ℕ → ℕ → Bool) where
  sets-array : Array variables (2 ^ width) (sets p)
  unfolding sets
  sets-array = table-array variables (2 ^ width) _ (pow_pos width) (λ i l. word_lt width (p i))

  pub has-sets : ((i a : ℕ) → p i a ≡ true → (i < variables) × (a < width))
      → (i a : ℕ) → has (get_or (tabulate variables (λ (k : ℕ). word width (p k))) i 0) a ≡ p i a
  has-sets within i a =
      ap (λ (x : ℕ). has x a)
      (get_d-table variables _ i λ m. sym (is_word width 0 (p i) (pow_pos width) λ v l. has-zero v ∙ sym (outside v λ b. omega arith)))
      ∙ has_all width (p i) a (λ m. outside a λ b. omega arith)
    where
      outside : (v : ℕ) → ((i < variables) × (v < width) → ⊥) → p i v ≡ false
      outside v h = not-true→false (p i v) (λ t. h (within i v t))

sets-has : (l : List ℕ) → Array variables (2 ^ width) l → sets (λ (i a : ℕ). has (get_or l i 0) a) ≡ l
unfolding sets
sets-has l A = sym (is-table variables _ l 0 A.array_length λ i m. sym (word-has width (get_or l i 0) (A.element_lt i)))

in_array : (l : List ℕ) → Array variables (2 ^ width) l → (i a : ℕ) → has (get_or l i 0) a ≡ true → (i < variables) × (a < width)
in_array l A i a t = (
  by_cases (ltb i variables)
      (λ u. ltb-true i variables u)
      (λ u. clash t (rw (array-past variables (2 ^ width) l A i (ltb-false i variables u)) (has-zero a))),
  has-below width (get_or l i 0) a t (A.element_lt i),
)

-- The network lies within the bounds, whatever the rows are.
pub held-bounded : (h : Head) (rows : List ℕ) → HeadShaped h → Bounded variables width (held h rows)
unfolding held
held-bounded h rows S =
    record {
      size_bound = array-past variables (2 ^ 8) h.sizes S.sizes_array;
      leader_bound = array-past variables (2 ^ 8) h.leaders S.leaders_array;
      domain_bound = in_array h.domains S.domains_array;
      stated_bound = in_array h.stated S.stated_array;
      allows_bound = λ i j a b t. let n = allows-inside width rows i j a b t in (n.first_in, n.second_in, n.value_in, n.other_in);
    }

-- What a sound network allows can be held once for each pair.
pub sound-pairwise : (N : Network) → Sound N → Bounded variables width N → Pairwise width N.allows
sound-pairwise N S B =
    record {
      within = λ i j a b t. let l = B.allows_bound i j a b t in record { first_in = l.0; second_in = l.1; value_in = l.2; other_in = l.3 };
      no_self = λ i a b. not-true→false _ (λ t. clash (S.allows_stated i i a b t) (S.no_self i));
      sides = S.allows_sym;
    }

-- A network within the bounds is that of its head and rows, where what it allows can be held once for each pair.
pub held_of : (N : Network) → Bounded variables width N → Pairwise width N.allows → held (head_of N) (rows_of width N.allows) ≡ N
unfolding held head_of sets
held_of N B P = λ i.
    record {
      n = N.n;
      size = fun_ext (λ (k : ℕ). get_d-table variables N.size k (B.size_bound k)) i;
      domain = fun_ext (λ (k : ℕ). fun_ext (has-sets N.domain B.domain_bound k)) i;
      leader = fun_ext (λ (k : ℕ). get_d-table variables N.leader k (B.leader_bound k)) i;
      stated = fun_ext (λ (k : ℕ). fun_ext (has-sets N.stated B.stated_bound k)) i;
      allows = fun_ext (λ (x : ℕ). fun_ext λ (y : ℕ). fun_ext λ (a : ℕ). fun_ext (allows-rule width N.allows P x y a)) i;
    }

pub held-of-sound : (N : Network) → Sound N → Bounded variables width N → held (head_of N) (rows_of width N.allows) ≡ N
held-of-sound N S B = held_of N B (sound-pairwise N S B)

-- And a head and rows are those of their network, sound or not.
pub head-of-held : (h : Head) (rows : List ℕ) → HeadShaped h → head_of (held h rows) ≡ h
unfolding held head_of sets
head-of-held h rows S = λ i.
    record {
      n = h.n;
      sizes = sym (is-table variables _ h.sizes 0 S.sizes_array.array_length (λ k l. refl)) i;
      domains = sets-has h.domains S.domains_array i;
      leaders = sym (is-table variables _ h.leaders 0 S.leaders_array.array_length (λ k l. refl)) i;
      stated = sets-has h.stated S.stated_array i;
    }

pub rows-of-held : (h : Head) (rows : List ℕ) → RowsShaped rows → rows_of width (held h rows).allows ≡ rows
unfolding held
rows-of-held h rows R = rows-allows width rows R.array_length R.element_lt

-- The head of a network, where its numbers fit the fields.
pub head_shaped : (N : Network) → N.n < 2 ^ 64 → ((i : ℕ) → N.size i < 2 ^ 8) → ((i : ℕ) → N.leader i < 2 ^ 8) → HeadShaped (head_of N)
unfolding head_of sets
head_shaped N n sizes leaders =
    record {
      n_lt = n;
      sizes_array = table-array variables (2 ^ 8) N.size (omega arith) (λ i l. sizes i);
      domains_array = sets-array N.domain;
      leaders_array = table-array variables (2 ^ 8) N.leader (omega arith) (λ i l. leaders i);
      stated_array = sets-array N.stated;
    }

pub rows_shaped : (N : Network) → RowsShaped (rows_of width N.allows)
rows_shaped N = rows-array width N.allows

-- ---- soundness

pub held-sound : (h : Head) (rows : List ℕ) → HeadShaped h → sound_in h rows ≡ true → Sound (held h rows)
unfolding sound_in
held-sound h rows S t = sound→Sound variables width values_at_most (held h rows) (held-bounded h rows S) t

pub held-n : (h : Head) (rows : List ℕ) → sound_in h rows ≡ true → h.n ≤ variables
unfolding sound_in held
held-n h rows t = sound-n variables width values_at_most (held h rows) t

pub held-size : (h : Head) (rows : List ℕ) → HeadShaped h → sound_in h rows ≡ true → (i : ℕ) → get_or h.sizes i 0 ≤ values_at_most
unfolding sound_in held
held-size h rows S t i = sound-size variables width values_at_most (held h rows) (held-bounded h rows S) t i

pub sound-held : (h : Head) (rows : List ℕ) → Sound (held h rows) → h.n ≤ variables → ((i : ℕ) → get_or h.sizes i 0 ≤ values_at_most) → sound_in h rows ≡ true
unfolding sound_in held
sound-held h rows S below within = Sound→sound variables width values_at_most (held h rows) S below within

-- The head and rows of a network, sound, and holding that network.
pub record Packed (N : Network) : Type 0 where
  pub packed_held : held (head_of N) (rows_of width N.allows) ≡ N
  pub packed_sound : sound_in (head_of N) (rows_of width N.allows) ≡ true
  pub packed_head : HeadShaped (head_of N)
  pub packed_rows : RowsShaped (rows_of width N.allows)

-- A sound network of at most `variables` variables of at most `values_at_most` values has them: a leader's number, counted from 1, is at most n.
pub pack-sound : (N : Network) → Sound N → N.n ≤ variables → ((i : ℕ) → N.size i ≤ values_at_most) → Packed N
unfolding sound_in
pack-sound N S below within =
    let same : held (head_of N) (rows_of width N.allows) ≡ N =
    held-of-sound N S (Sound→Bounded variables width N S below (omega arith) (λ i. omega (arith, within i))) in
    let leader-le : (i : ℕ) → N.leader i ≤ variables =
    λ i. free-or-led N i (λ t. omega (arith, free-e N i t)) (λ l e. omega (arith, leader-n N S i l e)) in
    record {
      packed_held = same;
      packed_sound = ap (sound variables width values_at_most) same ∙ Sound→sound variables width values_at_most N S below within;
      packed_head = head_shaped N (omega arith) (λ i. omega (arith, within i)) (λ i. omega (arith, leader-le i));
      packed_rows = rows_shaped N;
    }

-- And so has what calls make of a sound network that is held.
pub kept-packed : {h : Head} (rows : List ℕ) → HeadShaped h → sound_in h rows ≡ true → (M : Network) {p : (ℕ → ℕ) → Bool} → Keeps (held h rows) M p → Packed M
unfolding held
kept-packed {h} rows S t M K =
    pack-sound M K.still_sound
    (omega (arith, K.same_n, held-n h rows t))
    (λ i. omega (arith, K.same_size i, held-size h rows S t i))

-- A head of no variable is not sound.
pub empty-unsound : (h : Head) (rows : List ℕ) → h.n ≡ 0 → sound_in h rows ≡ false
unfolding sound_in sound count_sound held
empty-unsound h rows e = not-true→false _ (λ t. let x : 1 ≤ h.n = leb-true _ _ (and_l _ _ (and_l _ _ t)) in omega arith)
