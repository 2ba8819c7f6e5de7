-- What the lines of a run text say. A line is given by its pieces, what stands between its spaces.
use Rattle.std.specs.Prelude.{ℕ, cond, List, [], ◌∷◌, ℤ, pos, negsuc, Some, None, Option, ◌==◌}
use Rattle.basics.specs.declared.node.NodeNumber.{NodeNumber}
use Rattle.scripts_model.specs.declared.step.Step.{Step}
use Rattle.scripts_model.specs.declared.step.Step.TheVariants.{Lock, Release, Read, Write, Adjust}
use Rattle.runtext_model.specs.declared.kind.RuleKind.{RuleKind}
use Rattle.runtext_model.specs.declared.kind.RuleKind.TheVariants.{Tree, Majority, Guards}
use Rattle.runtext_model.specs.Pieces.{pieces}
use Rattle.runtext_model.specs.Words.{Word, letter, number, slash, word_of}

-- a line: the rule; a node with its width, its first value and its parents; a guard of node n with A and B; the begin of
-- a script; a step of it; the turn list
pub data Line : Type 0 where
  rule : RuleKind → Line
  node : (w : ℕ) (v : ℤ) (parents : List ℕ) → Line
  guard : (n : ℕ) (a b : List ℕ) → Line
  script : Line
  step : Step → Line
  turns : List ℕ → Line

-- what is said, and then what follows from it
abbrev pub and_then : {A B : Type 0} → Option A → (A → Option B) → Option B
and_then None f = None
and_then (Some x) f = f x

-- the number that a word is
abbrev pub as_number : Option Word → Option ℤ
as_number None = None
as_number (Some (letter c)) = None
as_number (Some (number z)) = Some z
as_number (Some slash) = None

-- a number without a minus
abbrev pub unsigned : ℤ → Option ℕ
unsigned (pos n) = Some n
unsigned (negsuc n) = None

-- the number that a piece is, where it has no minus
abbrev pub plain : List ℕ → Option ℕ
plain p = and_then (as_number (word_of p)) unsigned

-- a list of numbers without a minus
abbrev pub numbers : List (List ℕ) → Option (List ℕ)
numbers [] = Some []
numbers (p ∷ ps) = and_then (plain p) (λ n. and_then (numbers ps) (λ ns. Some (n ∷ ns)))

-- the rule of a letter
abbrev pub kind_of : ℕ → Option Line
kind_of c =
    cond (c == 84) (Some (rule Tree)) (cond (c == 77) (Some (rule Majority)) (cond (c == 71) (Some (rule Guards)) None))

abbrev pub kind_word : Option Word → Option Line
kind_word None = None
kind_word (Some (letter c)) = kind_of c
kind_word (Some (number z)) = None
kind_word (Some slash) = None

-- M and the rule's letter
abbrev pub rule_line : List (List ℕ) → Option Line
rule_line [] = None
rule_line (p ∷ []) = kind_word (word_of p)
rule_line (p ∷ (q ∷ ps)) = None

-- N, the width, the first value and the parents
abbrev pub node_line : List (List ℕ) → Option Line
node_line [] = None
node_line (w ∷ []) = None
node_line (w ∷ (v ∷ ps)) =
    and_then (plain w) (λ width. and_then (as_number (word_of v)) (λ value. and_then (numbers ps) (λ parents. Some (node width value parents))))

-- a list, a slash and a list
abbrev pub two_lists : List (List ℕ) → Option (List ℕ × List ℕ)
two_lists [] = None
two_lists (p ∷ ps) = elim (word_of p) [
  | None ↦ None
  | Some (letter c) ↦ None
  | Some (number z) ↦ and_then (unsigned z) (λ n. and_then (two_lists ps) (λ l. Some ((n ∷ l.0), l.1)))
  | Some slash ↦ and_then (numbers ps) (λ b. Some ([], b))
]

-- G, the node, A, a slash and B
abbrev pub guard_line : List (List ℕ) → Option Line
guard_line [] = None
guard_line (n ∷ ps) = and_then (plain n) (λ m. and_then (two_lists ps) (λ l. Some (guard m l.0 l.1)))

-- S alone
abbrev pub script_line : List (List ℕ) → Option Line
script_line [] = Some script
script_line (p ∷ ps) = None

-- the step's letter and its node
abbrev pub step_line : (NodeNumber → Step) → List (List ℕ) → Option Line
step_line f [] = None
step_line f (n ∷ []) = and_then (plain n) (λ m. Some (step (f (record { 0 = m }))))
step_line f (n ∷ (p ∷ ps)) = None

-- the step's letter, its node and a value or an amount
abbrev pub change_line : (NodeNumber → ℤ → Step) → List (List ℕ) → Option Line
change_line f [] = None
change_line f (n ∷ []) = None
change_line f (n ∷ (v ∷ [])) = and_then (plain n) (λ m. and_then (as_number (word_of v)) (λ z. Some (step (f (record { 0 = m }) z))))
change_line f (n ∷ (v ∷ (p ∷ ps))) = None

-- Q and the turns
abbrev pub turns_line : List (List ℕ) → Option Line
turns_line ps = and_then (numbers ps) (λ ts. Some (turns ts))

-- the line's form, by its first letter
abbrev pub form : ℕ → List (List ℕ) → Option Line
form c ps =
    cond (c == 77) (rule_line ps)
    (cond (c == 78) (node_line ps)
    (cond (c == 71) (guard_line ps)
    (cond (c == 83) (script_line ps)
    (cond (c == 76) (step_line Lock ps)
    (cond (c == 85) (step_line Release ps)
    (cond (c == 82) (step_line Read ps)
    (cond (c == 87) (change_line Write ps)
    (cond (c == 65) (change_line Adjust ps)
    (cond (c == 81) (turns_line ps) None)))))))))

abbrev pub by_first : Option Word → List (List ℕ) → Option Line
by_first None ps = None
by_first (Some (letter c)) ps = form c ps
by_first (Some (number z)) ps = None
by_first (Some slash) ps = None

-- what a line with these pieces says
abbrev pub line_of_pieces : List (List ℕ) → Option Line
line_of_pieces [] = None
line_of_pieces (p ∷ ps) = by_first (word_of p) ps

-- what a line says, if it has one of the forms: its pieces are parted by one space each
abbrev pub line_of : List ℕ → Option Line
line_of bytes = line_of_pieces (pieces 32 bytes)
