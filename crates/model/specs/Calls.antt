-- The calls of a session and their answers.
use Rattle.std.specs.Prelude.{ℕ, Bool, cond, ◌&&◌, List, [], ◌∷◌, ℤ, pos, negsuc, Some, None, Option, int_le}
use Rattle.basics.specs.declared.refusal.Refusal.{Refusal}

-- what an access does at its node: it reads the value, writes v, or adds d to the value
pub data Operation : Type 0 where
  read : Operation
  write : (v : ℤ) → Operation
  adjust : (d : ℤ) → Operation

-- a call, with its transaction t and its node n
pub data Call : Type 0 where
  begin : Call
  lock : (t n : ℕ) → Call
  release : (t n : ℕ) → Call
  access : (t n : ℕ) → Operation → Call
  withdraw : (t : ℕ) → Call
  end : (t : ℕ) → Call

-- done, with a number; waiting, with the holder of the node; or refused, with the cause
pub data Answer : Type 0 where
  done : ℤ → Answer
  waiting : ℕ → Answer
  refused : Refusal → Answer

-- a call and what it was answered
pub record Event : Type 0 where
  pub call : Call
  pub answer : Answer

-- the amount d lies from −65,535 to 65,535
abbrev pub in_bounds : ℤ → Bool
in_bounds d = int_le (negsuc 65534) d && int_le d (pos 65535)

-- the first refusal whose check applies
abbrev pub first_refusal : List (Bool × Refusal) → Option Refusal
first_refusal [] = None
first_refusal (check ∷ checks) = cond check.0 (Some check.1) (first_refusal checks)

-- x, or else y
abbrev pub or_else : {A : Type 0} → Option A → Option A → Option A
or_else None y = y
or_else (Some x) y = Some x

-- refused, where a refusal applies, and else the answer a
abbrev pub unless_refused : Option Refusal → Answer → Answer
unless_refused None a = a
unless_refused (Some k) a = refused k
