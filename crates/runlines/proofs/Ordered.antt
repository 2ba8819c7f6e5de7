-- The serial order, filled into a buffer with room for all.
use Rattle.std.proofs.Common.{◌≡◌, ℕ, ◌≤◌, List, ◌++◌, length, take, drop, replicate, Some, None, Ok, Option, Result, sym, ap, ◌∙◌, arith, length-append}
use Rattle.std.proofs.lemmas.List.{take_at}
use Rattle.basics.specs.declared.refusal.Refusal.{Refusal}
use Rattle.basics.specs.Refusals.{answer_unless, leave_unless}
use Rattle.model.specs.Order.{serial_order}
use Rattle.model.specs.State.{State, begun_count}
use Rattle.session.specs.Reports.{short, filled}
use Rattle.session.proofs.Orders.{long_enough}

filled_there : (o : Option Refusal) (n : ℕ) (L old out : List ℕ) → o ≡ None → answer_unless o (length L) ≡ Ok n
    → out ≡ leave_unless o old (filled L old) → (n ≡ length L) × (out ≡ L ++ drop (length L) old)
filled_there None n L old out e a l = (cc, l)
filled_there (Some r) n L old out e a l = (cc, cc)

-- what `order` answers and leaves
module _ (s : State) (r : Result ℕ Refusal) (n : ℕ) (out : List ℕ) (ok : r ≡ Ok n)
    (answers : r ≡ answer_unless (short 32 (begun_count s)) (length (serial_order s)))
    (leaves : out ≡ leave_unless (short 32 (begun_count s)) (replicate 32 0) (filled (serial_order s) (replicate 32 0))) where
  parts : (n ≡ length (serial_order s)) × (out ≡ serial_order s ++ drop (length (serial_order s)) (replicate 32 0))
  parts = filled_there (short 32 (begun_count s)) n (serial_order s) (replicate 32 0) out (long_enough 32 (begun_count s) (omega arith)) (sym answers ∙ ok) leaves

  -- its n bytes are there
  pub order_within : n ≤ length out
  order_within = omega (arith, parts.0, ap length parts.1, length-append (serial_order s) (drop (length (serial_order s)) (replicate 32 0)))

  -- and they are the order
  pub order_is : take n out ≡ serial_order s
  order_is = ap (take n) parts.1 ∙ take_at (serial_order s) (drop (length (serial_order s)) (replicate 32 0)) n (sym parts.0)
