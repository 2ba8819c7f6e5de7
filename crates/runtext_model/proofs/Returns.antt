-- A lawful description, written out and read, comes back.
use Rattle.std.proofs.Common.{[], map, None}
use Rattle.runtext_model.specs.Canonical.{Lawful, ReadsBack, Canonical}
use Rattle.runtext_model.specs.Description.{Description, blank}
use Rattle.runtext_model.specs.Writing.{rule_lines, node_lines, guard_lines, entry_line, turn_lines, lines_of}
use Rattle.runtext_model.proofs.Feeding.{Takes, takes_append, takes_read}
use Rattle.runtext_model.proofs.GuardsFed.{some_nodes, takes_guards}
use Rattle.runtext_model.proofs.NodesFed.{made, takes_rule, takes_nodes}
use Rattle.runtext_model.proofs.Readings.{text_of_what_is_read}
use Rattle.runtext_model.proofs.StepsFed.{stage, takes_steps, takes_turns}

-- all lines, section by section
takes_all : (d : Description) → Lawful d → Takes blank (lines_of d) d
takes_all d law =
    takes_append (rule_lines d.kind) _ blank (made d.kind [] [] [] 0 [] None) d (takes_rule d.kind)
    (takes_append (node_lines d.nodes d.values) _ _ (made d.kind d.nodes d.values [] 0 [] None) d (takes_nodes d law)
    (takes_append (guard_lines d.guards) _ _ (made d.kind d.nodes d.values d.guards 0 [] None) d (takes_guards d law)
    (takes_append (map entry_line d.steps) (turn_lines d.turns) _ (stage d d.steps) d (takes_steps d law) (takes_turns d law))))

-- a lawful description, written out and read, comes back without a fault
pub reads_back : (d : Description) → ReadsBack d
reads_back d law = takes_read (lines_of d) blank d 1 0 (takes_all d law) (some_nodes d law)

-- every description has one text, and no other text is read as it
pub canonical : Canonical
canonical = (text_of_what_is_read, reads_back)
