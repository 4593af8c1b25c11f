-- What definitions are told of a call.
use Rattle.std.specs.Prelude.{ℕ, List, Option, String, map, string_bytes}
use Rattle.std.specs.declared.alloc.Global.{Global}
use Rattle.qccd_io.specs.Faults.{Rose}
use Rattle.qccd_io.specs.Shelf.{Holding}

-- what a sink took before a call and after it, where it tells that, and its counts of faults then
pub record Output : Type 0 where
  pub old : Option (List ℕ)
  pub new : Option (List ℕ)
  pub old_faults : ℕ
  pub new_faults : ℕ

-- the sink's count of faults rose
abbrev pub WriteFailed : Output → Type 0
WriteFailed o = Rose o.old_faults o.new_faults

pub record Call : Type 0 where
  -- the words after the program's own name
  pub words : List (List ℕ)
  -- what the shelf told before the call
  pub told : Option Holding
  -- the shelf's counts of faults before the call and after it
  pub old_faults : ℕ
  pub new_faults : ℕ
  -- what is written to
  pub out : Output

-- the shelf's count of faults rose
abbrev pub ReadFailed : Call → Type 0
ReadFailed call = Rose call.old_faults call.new_faults

-- a sink, by what it tells, before a call and after it
abbrev pub output : {S : Type 0} → (S → Option (List ℕ)) → (S → ℕ) → S → S → Output
output taken faults old new = record { old = taken old; new = taken new; old_faults = faults old; new_faults = faults new }

-- a call with these words, by what its shelf tells before it and after it
abbrev pub call_of : {S : Type 0} → (S → Option Holding) → (S → ℕ) → List (String Global) → S → S → Output → Call
call_of told faults words old new out = record {
  words = map string_bytes words;
  told = told old;
  old_faults = faults old;
  new_faults = faults new;
  out = out;
}
