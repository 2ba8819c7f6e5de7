-- A description written out as a text.
use Rattle.std.specs.Prelude.{ℕ, zero, suc, cond, List, [], ◌∷◌, ◌++◌, map, ℤ, pos, Some, None, Option}
use Rattle.std.specs.Fmt.{signed_decimal}
use Rattle.std.specs.List.{flat_map}
use Rattle.basics.specs.declared.transaction.TransactionNumber.{TransactionNumber}
use Rattle.basics.specs.Sets.{has}
use Rattle.plans.specs.declared.plan.Node.{Node}
use Rattle.rules.specs.declared.guard.Guard.{Guard}
use Rattle.scripts_model.specs.declared.step.Step.{Step}
use Rattle.scripts_model.specs.declared.step.Step.TheVariants.{End, Lock, Release, Read, Write, Adjust}
use Rattle.runtext_model.specs.declared.kind.RuleKind.{RuleKind}
use Rattle.runtext_model.specs.declared.kind.RuleKind.TheVariants.{Tree, Majority, Guards}
use Rattle.runtext_model.specs.Description.{Description}
use Rattle.runtext_model.specs.Lines.{Line, rule, node, guard, script, step, turns}
use Rattle.runtext_model.specs.Words.{Word, letter, number, slash}

-- the bytes of a word
abbrev pub word_text : Word → List ℕ
word_text (letter c) = c ∷ []
word_text (number z) = signed_decimal z
word_text slash = 47 ∷ []

abbrev pub numerals : List ℕ → List Word
numerals ns = map (λ n. number (pos n)) ns

abbrev pub kind_letter : RuleKind → ℕ
kind_letter Tree = 84
kind_letter Majority = 77
kind_letter Guards = 71

-- a step as a letter and its numbers; the end of a script is its S
abbrev pub step_words : Step → List Word
step_words End = letter 83 ∷ []
step_words (Lock n) = letter 76 ∷ numerals (n.0 ∷ [])
step_words (Release n) = letter 85 ∷ numerals (n.0 ∷ [])
step_words (Read n) = letter 82 ∷ numerals (n.0 ∷ [])
step_words (Write n v) = letter 87 ∷ number (pos n.0) ∷ number v ∷ []
step_words (Adjust n d) = letter 65 ∷ number (pos n.0) ∷ number d ∷ []

-- the words of a line
abbrev pub line_words : Line → List Word
line_words (rule k) = letter 77 ∷ letter (kind_letter k) ∷ []
line_words (node w v parents) = letter 78 ∷ number (pos w) ∷ number v ∷ numerals parents
line_words (guard n a b) = letter 71 ∷ number (pos n) ∷ (numerals a ++ (slash ∷ numerals b))
line_words script = letter 83 ∷ []
line_words (step s) = step_words s
line_words (turns ts) = letter 81 ∷ numerals ts

-- pieces with the byte c between each two
abbrev pub joined_by : ℕ → List (List ℕ) → List ℕ
joined_by c [] = []
joined_by c (p ∷ []) = p
joined_by c (p ∷ (q ∷ ps)) = p ++ (c ∷ joined_by c (q ∷ ps))

-- a line's bytes, without its line feed
abbrev pub line_text : Line → List ℕ
line_text l = joined_by 32 (map word_text (line_words l))

-- the members of a set below k, rising
abbrev pub members_below : ℕ → ℕ → List ℕ
members_below m zero = []
members_below m (suc k) = members_below m k ++ cond (has m k) (k ∷ []) []

-- the members of a set of nodes, rising
abbrev pub members : ℕ → List ℕ
members m = members_below m 64

abbrev pub rule_lines : Option RuleKind → List Line
rule_lines None = []
rule_lines (Some k) = rule k ∷ []

-- each node with its first value
abbrev pub node_lines : List Node → List ℤ → List Line
node_lines [] vs = []
node_lines (x ∷ xs) [] = []
node_lines (x ∷ xs) (v ∷ vs) = node x.width v (members x.parents.mask) ∷ node_lines xs vs

abbrev pub guard_lines : List Guard → List Line
guard_lines gs = map (λ g. guard g.node.0 (members g.a.mask) (members g.b.mask)) gs

abbrev pub entry_line : Step → Line
entry_line End = script
entry_line (Lock n) = step (Lock n)
entry_line (Release n) = step (Release n)
entry_line (Read n) = step (Read n)
entry_line (Write n v) = step (Write n v)
entry_line (Adjust n d) = step (Adjust n d)

abbrev pub turn_lines : Option (List TransactionNumber) → List Line
turn_lines None = []
turn_lines (Some ts) = turns (map (λ t. t.0) ts) ∷ []

-- the lines of a description, section by section
abbrev pub lines_of : Description → List Line
lines_of d =
    rule_lines d.kind ++ (node_lines d.nodes d.values ++ (guard_lines d.guards ++ (map entry_line d.steps ++ turn_lines d.turns)))

-- its text: each line and a line feed
abbrev pub written : Description → List ℕ
written d = flat_map (λ l. line_text l ++ (10 ∷ [])) (lines_of d)
