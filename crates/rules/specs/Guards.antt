-- Guards of nodes: when one lets a transaction lock its node, and what a table asks of its guards.
use Rattle.std.specs.Prelude.{ℕ, Bool, not, ◌&&◌, ◌||◌, List, ◌==◌}
use Rattle.std.specs.List.{list_any, list_all}
use Rattle.basics.specs.Sets.{within, meets}
use Rattle.rules.specs.declared.guard.Guard.{Guard}

-- what stands at a place that no guard has
abbrev pub no_guard : Guard
no_guard = record { node = record { 0 = 0 }; a = record { mask = 0 }; b = record { mask = 0 } }

-- the guard is of node n, A was locked and B is held
abbrev pub admits : Guard → ℕ → ℕ → ℕ → Bool
admits g n locked held = g.node.0 == n && (within g.a.mask locked && within g.b.mask held)

-- one of the guards admits
abbrev pub some_admits : ℕ → ℕ → ℕ → List Guard → Bool
some_admits n locked held guards = list_any (λ g. admits g n locked held) guards

-- B has members and lies in A, and A lies in the parents
abbrev pub fits : ℕ → Guard → Bool
fits parents g = not (g.b.mask == 0) && (within g.b.mask g.a.mask && within g.a.mask parents)

-- where both guard one node, the A of x shares a node with the B of y
abbrev pub crosses : Guard → Guard → Bool
crosses x y = not (x.node.0 == y.node.0) || meets x.a.mask y.b.mask

-- each crosses the other
abbrev pub compatible : Guard → Guard → Bool
compatible x y = crosses x y && crosses y x

-- g is compatible with each of the guards
abbrev pub all_compatible : Guard → List Guard → Bool
all_compatible g guards = list_all (compatible g) guards
