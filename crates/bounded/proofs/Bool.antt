-- Laws of the connectives. A fact is an equation `b ≡ true`.
use mathlib.Core.Bool.{Bool, true, false, true≢false, false≢true, ◌&&◌}
use mathlib.Core.Logic.{◌⊎◌, inl, inr, ⊎_elim}
use mathlib.Core.Path.{◌≡◌, refl, sym, ◌∙◌}
use Prim.Native.Nat.{◌+◌, ◌≤◌, ◌*◌}
use native.Mathlib.Omega.{arith}
use Rattle.bounded.specs.Bool.{and, or, implies, not, bit, if}

-- A test holds or fails.
pub true-or-false : (b : Bool) → (b ≡ true) ⊎ (b ≡ false)
true-or-false true = inl refl
true-or-false false = inr refl

-- Proof by cases on a test.
pub by_cases : {A : Type 0} (b : Bool) → (b ≡ true → A) → (b ≡ false → A) → A
by_cases b f g = ⊎_elim f g (true-or-false b)

-- No test both holds and fails.
pub clash : {A : Type 0} {b : Bool} → b ≡ true → b ≡ false → A
clash h k = absurd (true≢false (sym h ∙ k))

-- Two tests that hold together are equal.
pub bool-ext : (a b : Bool) → (a ≡ true → b ≡ true) → (b ≡ true → a ≡ true) → a ≡ b
bool-ext true b f g = sym (f refl)
bool-ext false true f g = g refl
bool-ext false false f g = refl

-- A test that cannot hold fails.
pub not-true→false : (b : Bool) → (b ≡ true → ⊥) → b ≡ false
not-true→false true h = absurd (h refl)
not-true→false false h = refl

pub and_i : (a b : Bool) → a ≡ true → b ≡ true → and a b ≡ true
unfolding and
and_i true b h k = k
and_i false b h k = h

pub and_l : (a b : Bool) → and a b ≡ true → a ≡ true
unfolding and
and_l true b h = refl
and_l false b h = h

pub and_r : (a b : Bool) → and a b ≡ true → b ≡ true
unfolding and
and_r true b h = h
and_r false b h = absurd (false≢true h)

-- The machine's `&` of two truth values.
pub machine-and : (a b : Bool) → a && b ≡ and a b
unfolding and
machine-and true b = refl
machine-and false b = refl

pub and_comm : (a b : Bool) → and a b ≡ and b a
unfolding and
and_comm true true = refl
and_comm true false = refl
and_comm false true = refl
and_comm false false = refl

pub and_assoc : (a b c : Bool) → and (and a b) c ≡ and a (and b c)
unfolding and
and_assoc true b c = refl
and_assoc false b c = refl

pub and-true : (a : Bool) → and a true ≡ a
unfolding and
and-true true = refl
and-true false = refl

pub true-and : (a : Bool) → and true a ≡ a
unfolding and
true-and a = refl

pub false-and : (a : Bool) → and false a ≡ false
unfolding and
false-and a = refl

pub and-false : (a : Bool) → and a false ≡ false
unfolding and
and-false true = refl
and-false false = refl

-- A test joined to one that failed fails, and one joined to a test that held counts alone.
pub and-fails : (a b : Bool) → a ≡ false → and a b ≡ false
and-fails a b h = rw h (false-and b)

pub and-holds : (a b : Bool) → a ≡ true → and a b ≡ b
and-holds a b h = rw h (true-and b)

-- What stands behind a test counts only where the test holds.
pub and-cong : (a b c : Bool) → (a ≡ true → b ≡ c) → and a b ≡ and a c
unfolding and
and-cong true b c h = h refl
and-cong false b c h = refl

pub or_l : (a b : Bool) → a ≡ true → or a b ≡ true
unfolding or
or_l true b h = refl
or_l false b h = absurd (false≢true h)

pub or_r : (a b : Bool) → b ≡ true → or a b ≡ true
unfolding or
or_r true b h = refl
or_r false b h = h

pub or_comm : (a b : Bool) → or a b ≡ or b a
unfolding or
or_comm true true = refl
or_comm true false = refl
or_comm false true = refl
or_comm false false = refl

pub or_elim : {A : Type 0} (a b : Bool) → or a b ≡ true → (a ≡ true → A) → (b ≡ true → A) → A
unfolding or
or_elim true b h f g = f refl
or_elim false b h f g = g h

-- A disjunction fails exactly when both sides fail.
pub or-false-l : (a b : Bool) → or a b ≡ false → a ≡ false
unfolding or
or-false-l true b h = h
or-false-l false b h = refl

pub or-false-r : (a b : Bool) → or a b ≡ false → b ≡ false
unfolding or
or-false-r true b h = absurd (true≢false h)
or-false-r false b h = h

pub or-false-i : (a b : Bool) → a ≡ false → b ≡ false → or a b ≡ false
unfolding or
or-false-i true b h k = absurd (true≢false h)
or-false-i false b h k = k

pub implies-i : (a b : Bool) → (a ≡ true → b ≡ true) → implies a b ≡ true
unfolding implies
implies-i true b f = f refl
implies-i false b f = refl

pub implies-e : (a b : Bool) → implies a b ≡ true → a ≡ true → b ≡ true
unfolding implies
implies-e true b h k = h
implies-e false b h k = absurd (false≢true k)

pub implies_true : (a b : Bool) → a ≡ true → implies a b ≡ b
unfolding implies
implies_true true b h = refl
implies_true false b h = absurd (false≢true h)

pub implies-false : (a b : Bool) → a ≡ false → implies a b ≡ true
unfolding implies
implies-false true b h = absurd (true≢false h)
implies-false false b h = refl

pub not-i : (a : Bool) → a ≡ false → not a ≡ true
unfolding not
not-i true h = absurd (true≢false h)
not-i false h = refl

pub not-e : (a : Bool) → not a ≡ true → a ≡ false
unfolding not
not-e true h = absurd (false≢true h)
not-e false h = refl

pub not-false-e : (a : Bool) → not a ≡ false → a ≡ true
unfolding not
not-false-e true h = refl
not-false-e false h = sym h

pub not-false-i : (a : Bool) → a ≡ true → not a ≡ false
unfolding not
not-false-i true h = refl
not-false-i false h = sym h

pub if-true : {A : Type 0} (b : Bool) (x y : A) → b ≡ true → if b x y ≡ x
unfolding if
if-true true x y h = refl
if-true false x y h = absurd (false≢true h)

pub if-false : {A : Type 0} (b : Bool) (x y : A) → b ≡ false → if b x y ≡ y
unfolding if
if-false true x y h = absurd (true≢false h)
if-false false x y h = refl

pub if-or : {A : Type 0} (a b : Bool) (x y : A) → if (or a b) x y ≡ if a x (if b x y)
unfolding if or
if-or true b x y = refl
if-or false b x y = refl

pub bit-true : (b : Bool) → b ≡ true → bit b ≡ 1
unfolding bit
bit-true true h = refl
bit-true false h = absurd (false≢true h)

pub bit-false : (b : Bool) → b ≡ false → bit b ≡ 0
unfolding bit
bit-false true h = absurd (true≢false h)
bit-false false h = refl

pub bit_le : (b : Bool) → bit b ≤ 1
unfolding bit
bit_le true = omega arith
bit_le false = omega arith

pub bit-fewer : (a b : Bool) → (a ≡ true → b ≡ true) → bit a ≤ bit b
unfolding bit
bit-fewer true b h = rw (h refl) (omega arith)
bit-fewer false b h = omega arith

pub bit_and : (a b : Bool) → bit (and a b) ≡ bit a * bit b
unfolding bit and
bit_and true true = refl
bit_and true false = refl
bit_and false true = refl
bit_and false false = refl

-- What passes a passes b too or does not.
pub bit-split : (a b : Bool) → bit (and a b) + bit (and a (not b)) ≡ bit a
unfolding bit and not
bit-split true true = refl
bit-split true false = refl
bit-split false b = refl
