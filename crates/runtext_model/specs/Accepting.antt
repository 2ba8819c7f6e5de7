-- Which lines a text may go on with, and what each adds.
use Rattle.std.specs.Prelude.{ℕ, ◌+◌, Bool, true, false, cond, not, ◌&&◌, ◌||◌, List, [], ◌∷◌, ◌++◌, map, length, ℤ, pos, negsuc, Some, None, Err, Option, Result, int_le, nat_le, nat_lt}
use Rattle.basics.specs.declared.node.NodeNumber.{NodeNumber}
use Rattle.basics.specs.declared.refusal.Refusal.{Refusal}
use Rattle.basics.specs.declared.refusal.Refusal.TheVariants.{MalformedLine, MisplacedLine, LimitExceeded, BadParents}
use Rattle.basics.specs.declared.transaction.TransactionNumber.{TransactionNumber}
use Rattle.basics.specs.Refusals.{answer_unless}
use Rattle.image_model.specs.Fields.{fits}
use Rattle.model.specs.Calls.{in_bounds}
use Rattle.plans.specs.Building.{good_width, good_parents, with_node}
use Rattle.rules.specs.Adding.{guard_refusal, with_guard}
use Rattle.scripts_model.specs.declared.step.Step.{Step}
use Rattle.scripts_model.specs.declared.step.Step.TheVariants.{End, Lock, Release, Read, Write, Adjust}
use Rattle.runtext_model.specs.declared.kind.RuleKind.{RuleKind}
use Rattle.runtext_model.specs.declared.kind.RuleKind.TheVariants.{Tree, Majority, Guards}
use Rattle.runtext_model.specs.Description.{Description}
use Rattle.runtext_model.specs.Lines.{Line, rule, node, guard, script, step, turns}

abbrev pub is_some : {A : Type 0} → Option A → Bool
is_some None = false
is_some (Some x) = true

abbrev pub is_empty : {A : Type 0} → List A → Bool
is_empty [] = true
is_empty (x ∷ xs) = false

abbrev pub is_guards : Option RuleKind → Bool
is_guards None = false
is_guards (Some Tree) = false
is_guards (Some Majority) = false
is_guards (Some Guards) = true

-- the node of a number, and a transaction's
abbrev pub node_number : ℕ → NodeNumber
node_number n = record { 0 = n }

abbrev pub transaction : ℕ → TransactionNumber
transaction t = record { 0 = t }

-- the sections: the rule stands first; nodes follow it, guards the nodes (under the guard rule only), scripts these, a step
-- its script, and the turn list stands last
abbrev pub before_scripts : Description → Bool
before_scripts d = is_empty d.steps && not (is_some d.turns)

abbrev pub before_turns : Description → Bool
before_turns d = not (is_empty d.nodes) && not (is_some d.turns)

abbrev pub in_section : Description → Line → Bool
in_section d (rule k) = not (is_some d.kind)
in_section d (node w v ps) = is_some d.kind && (is_empty d.guards && before_scripts d)
in_section d (guard n a b) = is_guards d.kind && (not (is_empty d.nodes) && before_scripts d)
in_section d script = before_turns d
in_section d (step s) = not (is_empty d.steps) && before_turns d
in_section d (turns ts) = before_turns d

-- a value of 16 bits
abbrev pub in_word : ℤ → Bool
in_word v = int_le (negsuc 32767) v && int_le v (pos 32767)

-- a step of a plan with this many nodes, with its value or its amount in bounds
abbrev pub good_step : ℕ → Step → Bool
good_step count End = false
good_step count (Lock n) = nat_lt n.0 count
good_step count (Release n) = nat_lt n.0 count
good_step count (Read n) = nat_lt n.0 count
good_step count (Write n v) = nat_lt n.0 count && in_word v
good_step count (Adjust n d) = nat_lt n.0 count && in_bounds d

-- each number is below the limit
abbrev pub each_below : ℕ → List ℕ → Bool
each_below limit [] = true
each_below limit (n ∷ ns) = nat_lt n limit && each_below limit ns

-- there is room for one more step, ends counted
abbrev pub room_for_step : Description → Bool
room_for_step d = nat_lt (length d.steps) 1024

-- why a line in its section is refused
abbrev pub limit_unless : Bool → Option Refusal
limit_unless good = cond good None (Some LimitExceeded)

abbrev pub line_refusal : Description → Line → Option Refusal
line_refusal d (rule k) = None
line_refusal d (node w v ps) =
    cond (nat_le 64 (length d.nodes) || not (good_width w && fits w v)) (Some LimitExceeded)
    (cond (good_parents (length d.nodes) (map node_number ps)) None (Some BadParents))
line_refusal d (guard n a b) = guard_refusal d.nodes d.guards (node_number n) (map node_number a) (map node_number b)
line_refusal d script = limit_unless (room_for_step d && nat_lt d.scripts 32)
line_refusal d (step s) = limit_unless (room_for_step d && good_step (length d.nodes) s)
line_refusal d (turns ts) = limit_unless (nat_le (length ts) 4096 && each_below d.scripts ts)

-- the description with one step more
abbrev pub with_step : Description → ℕ → Step → Description
with_step d scripts s = record {
  kind = d.kind;
  nodes = d.nodes;
  values = d.values;
  guards = d.guards;
  scripts = scripts;
  steps = d.steps ++ (s ∷ []);
  turns = d.turns;
}

-- the description with what a line adds
abbrev pub with_line : Description → Line → Description
with_line d (rule k) = record {
  kind = Some k;
  nodes = d.nodes;
  values = d.values;
  guards = d.guards;
  scripts = d.scripts;
  steps = d.steps;
  turns = d.turns;
}
with_line d (node w v ps) = record {
  kind = d.kind;
  nodes = with_node d.nodes w (map node_number ps);
  values = d.values ++ (v ∷ []);
  guards = d.guards;
  scripts = d.scripts;
  steps = d.steps;
  turns = d.turns;
}
with_line d (guard n a b) = record {
  kind = d.kind;
  nodes = d.nodes;
  values = d.values;
  guards = with_guard d.guards (node_number n) (map node_number a) (map node_number b);
  scripts = d.scripts;
  steps = d.steps;
  turns = d.turns;
}
with_line d script = with_step d (d.scripts + 1) End
with_line d (step s) = with_step d d.scripts s
with_line d (turns ts) = record {
  kind = d.kind;
  nodes = d.nodes;
  values = d.values;
  guards = d.guards;
  scripts = d.scripts;
  steps = d.steps;
  turns = Some (map transaction ts);
}

-- what a line makes of the description, or why it is refused: its form, its section, and then its numbers
abbrev pub accepted : Description → Option Line → Result Description Refusal
accepted d None = Err MalformedLine
accepted d (Some l) = cond (in_section d l) (answer_unless (line_refusal d l) (with_line d l)) (Err MisplacedLine)
