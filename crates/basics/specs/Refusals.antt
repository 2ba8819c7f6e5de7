-- Refusals: their numbers, and what a call answers and leaves where one applies.
use Rattle.std.specs.Prelude.{ℕ, Some, None, Ok, Err, Option, Result}
use Rattle.basics.specs.declared.refusal.Refusal.{Refusal}
use Rattle.basics.specs.declared.refusal.Refusal.TheVariants.{
  ShortBuffer,
  AllowanceTooLarge,
  TextTooLong,
  MalformedLine,
  MisplacedLine,
  LimitExceeded,
  BadParents,
  BadGuard,
  GuardsApart,
  TooManyTransactions,
  NotBegun,
  AlreadyEnded,
  NoSuchNode,
  StillWaiting,
  NotWaiting,
  NotHeld,
  LockedBefore,
  RuleDenies,
  AmountOutOfBounds,
  OutOfRange,
}

-- the number of each refusal, as texts and output give it
abbrev pub code_of : Refusal → ℕ
code_of ShortBuffer = 1
code_of AllowanceTooLarge = 2
code_of TextTooLong = 3
code_of MalformedLine = 4
code_of MisplacedLine = 5
code_of LimitExceeded = 6
code_of BadParents = 7
code_of BadGuard = 8
code_of GuardsApart = 9
code_of TooManyTransactions = 10
code_of NotBegun = 11
code_of AlreadyEnded = 12
code_of NoSuchNode = 13
code_of StillWaiting = 14
code_of NotWaiting = 15
code_of NotHeld = 16
code_of LockedBefore = 17
code_of RuleDenies = 18
code_of AmountOutOfBounds = 19
code_of OutOfRange = 20

-- what a call answers: the refusal that applies, else `a`
abbrev pub answer_unless : {A : Type 0} → Option Refusal → A → Result A Refusal
answer_unless None a = Ok a
answer_unless (Some e) a = Err e

-- what a call leaves: all as it was where a refusal applies, else `new`
abbrev pub leave_unless : {A : Type 0} → Option Refusal → A → A → A
leave_unless None old new = new
leave_unless (Some e) old new = old
