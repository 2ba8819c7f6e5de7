-- Holders and phases told apart.
use Rattle.std.proofs.Common.{◌≡◌, ℕ, true, false, Some, None, Option, sym, ap, ◌∙◌}
use Rattle.std.proofs.lemmas.Bool.{false≢true}
use Rattle.basics.specs.declared.node.NodeNumber.{NodeNumber}
use Rattle.basics.specs.declared.transaction.TransactionNumber.{TransactionNumber}
use Rattle.model.specs.declared.table.Phase.{Phase}
use Rattle.model.specs.declared.table.Phase.TheVariants.{Waiting, Ended}
use Rattle.model.specs.State.{node, transaction}
use Rattle.model.specs.Checks.{is_ended, is_waiting}

pub none_some : (o : Option TransactionNumber) (u : TransactionNumber) → o ≡ None → o ≡ Some u → ⊥
none_some o u p q = cc

pub same_holder : (o : Option TransactionNumber) (u v : ℕ) → o ≡ Some (transaction u) → o ≡ Some (transaction v) → u ≡ v
same_holder o u v p q = let z : transaction u ≡ transaction v = cc in ap (λ x. x.0) z

pub same_node : (p : Phase) (n m : ℕ) → p ≡ Waiting (node n) → p ≡ Waiting (node m) → n ≡ m
same_node p n m a b = let z : node n ≡ node m = cc in ap (λ x. x.0) z

-- who waits, waits for a node
pub waits_for : (p : Phase) (n : NodeNumber) → p ≡ Waiting n → is_waiting p ≡ true
waits_for p n e = ap is_waiting e

pub not_waiting : (p : Phase) (n : NodeNumber) → is_waiting p ≡ false → p ≡ Waiting n → ⊥
not_waiting p n e w = false≢true (sym e ∙ waits_for p n w)

pub not_ended : (p : Phase) → is_ended p ≡ false → p ≡ Ended → ⊥
not_ended p e w = false≢true (sym e ∙ ap is_ended w)
