-- What a session holds: the arrays of a program, with its rule and its store.
use Rattle.std.specs.Prelude.{◌≡◌, ℕ, min, List, replicate, Some, None, Option, slice_index_or}
use Rattle.basics.specs.declared.node.NodeNumber.{NodeNumber}
use Rattle.basics.specs.declared.node.NodeSet.{NodeSet}
use Rattle.basics.specs.declared.transaction.TransactionNumber.{TransactionNumber}
use Rattle.basics.specs.declared.transaction.TransactionSet.{TransactionSet}
use Rattle.rules.specs.Rule.{Rule}
use Rattle.stores.specs.Store.{Store}
use Rattle.model.specs.declared.table.Phase.{Phase}
use Rattle.model.specs.declared.table.Phase.TheVariants.{Open, Waiting}
use Rattle.model.specs.declared.table.Record.{Record}

-- a session as its arrays hold it
pub record State : Type 0 where
  -- how many transactions are begun: those below this number
  pub begun : ℕ
  -- of each of 32 transactions, how it stands, what it has ever locked and what it still holds
  pub records : List Record
  -- of each of 64 nodes, its holder
  pub holders : List (Option TransactionNumber)
  -- of each of 64 nodes, those that have ever locked it
  pub lockers : List TransactionSet
  -- of each of 32 transactions, those that locked one of its nodes before it did
  pub earlier : List TransactionSet
  -- the rule that it asks, and the store that it reads and writes
  pub rule : Rule
  pub store : Store

-- the node of a number
abbrev pub node : ℕ → NodeNumber
node n = record { 0 = n }

-- the transaction of a number
abbrev pub transaction : ℕ → TransactionNumber
transaction t = record { 0 = t }

-- the nodes of a mask
abbrev pub nodes : ℕ → NodeSet
nodes m = record { mask = m }

-- the transactions of a mask
abbrev pub transactions : ℕ → TransactionSet
transactions m = record { mask = m }

-- a transaction that has done nothing
abbrev pub blank : Record
blank = record { phase = Open; locked = nodes 0; held = nodes 0 }

-- what the session keeps of t
abbrev pub record_of : State → ℕ → Record
record_of s t = slice_index_or s.records t blank

-- how t stands
abbrev pub phase : State → ℕ → Phase
phase s t = (record_of s t).phase

-- all nodes that t has ever locked, as a mask
abbrev pub locked : State → ℕ → ℕ
locked s t = (record_of s t).locked.mask

-- the nodes that t still holds, as a mask
abbrev pub held : State → ℕ → ℕ
held s t = (record_of s t).held.mask

-- who holds node n
abbrev pub holder : State → ℕ → Option TransactionNumber
holder s n = slice_index_or s.holders n None

-- those that have ever locked node n, as a mask
abbrev pub lockers_at : State → ℕ → ℕ
lockers_at s n = (slice_index_or s.lockers n (transactions 0)).mask

-- those that locked a node of t before t did, as a mask
abbrev pub earlier_than : State → ℕ → ℕ
earlier_than s t = (slice_index_or s.earlier t (transactions 0)).mask

-- how many nodes the session has
abbrev pub count : State → ℕ
count s = min s.rule.count s.store.count

-- how many transactions are begun, of the 32 that there is room for
abbrev pub begun_count : State → ℕ
begun_count s = min s.begun 32

-- t waits for node n
abbrev pub Waits : State → ℕ → ℕ → Type 0
Waits s t n = phase s t ≡ Waiting (node n)

-- u holds node n
abbrev pub Holds : State → ℕ → ℕ → Type 0
Holds s u n = holder s n ≡ Some (transaction u)

-- a new session
abbrev pub start : Rule → Store → State
start rule store = record {
  begun = 0;
  records = replicate 32 blank;
  holders = replicate 64 None;
  lockers = replicate 64 (transactions 0);
  earlier = replicate 32 (transactions 0);
  rule = rule;
  store = store;
}
