-- One sheet, and an order to plan its options in (document 02, L13): "Every order that source document 000 builds from strongly connected parts is good; a good
-- one need not keep such a part together."
use Rattle.std.specs.Prelude.{true, List, [], ◌∷◌, ◌≡◌, ℕ, replicate}
use Rattle.network.specs.Reach.{leads_to}
use Rattle.network.specs.Order.{order_of, Assembled}
use Rattle.answers.specs.Answers.{says}
use Rattle.state.specs.View.{view}
use Rattle.state.specs.Read.{read_sheet}
use Rattle.state_order.specs.Orders.{order_told, order_buffer}

-- `01 00 0b 03 02 02 02 01 01 03 00 01 00 02`: three options of two values, and the table (1,3) 0001 0002, functional both ways: 1 and 3 are one part.
unfoldable pub bytes_apart : List ℕ
bytes_apart = 1 ∷ 0 ∷ 11 ∷ 3 ∷ 2 ∷ 2 ∷ 2 ∷ 1 ∷ 1 ∷ 3 ∷ 0 ∷ 1 ∷ 0 ∷ 2 ∷ []

pub record PartApart : Type 0 where
  pub accepted : (read_sheet bytes_apart).number ≡ 0
  -- The order that is found has 2 between 1 and 3. Tested, it is good,
  pub found : order_buffer (read_sheet bytes_apart).state (replicate 3 0) ≡ 1 ∷ 2 ∷ 3 ∷ []
  pub good : order_told (read_sheet bytes_apart).state (1 ∷ 2 ∷ 3 ∷ []) ≡ says true
  -- and source document 000 builds no such order.
  pub not_built : (part : ℕ → ℕ)
      → Assembled (read_sheet bytes_apart).state.n (leads_to (view (read_sheet bytes_apart).state)) (order_of (1 ∷ 2 ∷ 3 ∷ [])) part
      → ⊥
