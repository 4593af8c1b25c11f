use Rattle.std.proofs.Common.{◌∙◌, ◌≤◌, ℕ, zero, suc, List, [], ◌∷◌, length, codes, slice_get, unwrap_or, ap, arith, rules}
use Rattle.std.specs.List.{concat, AllByRecursion}
use Rattle.qccd_machine.specs.FaultText.{numbered}
use Rattle.qccd_machine.specs.TimeName.{time_names}
use Rattle.qccd_machine.proofs.fault.MachineFault.text.Goals as goal

-- the names of times are short
abbrev IsShort : List ℕ → Type 0
IsShort name = length name ≤ 8

short_at : (names : List (List ℕ)) (i : ℕ) → AllByRecursion IsShort names → IsShort (unwrap_or (slice_get names i) [])
short_at [] i all = omega arith
short_at (name ∷ names) zero all = all.0
short_at (name ∷ names) (suc i) all = short_at names i all.1

all_short : AllByRecursion IsShort time_names
all_short = search rules

pub joined-requires : goal.joined-requires
joined-requires c = omega (arith, short_at time_names c.in-TableRange.field all_short, ap length c.time_name.ensures)

pub returns-in-Capacity : goal.returns-in-Capacity
returns-in-Capacity c =
    rw c.in-Capacity.is (c.numbered.ensures ∙ ap (λ n. numbered (codes "trap T") n (codes " has a capacity outside 2 to 32")) c.into.ensures)

pub returns-in-BadEnd : goal.returns-in-BadEnd
returns-in-BadEnd c =
    rw c.in-BadEnd.is (c.numbered-in-BadEnd.ensures ∙ ap (λ n. numbered (codes "segment S") n (codes " names a missing place")) c.into-in-BadEnd.ensures)

pub returns-in-SelfJoined : goal.returns-in-SelfJoined
returns-in-SelfJoined c =
    rw c.in-SelfJoined.is (c.numbered-in-SelfJoined.ensures ∙ ap (λ n. numbered (codes "segment S") n (codes " joins a place to itself")) c.into-in-SelfJoined.ensures)

pub returns-in-TableRange : goal.returns-in-TableRange
returns-in-TableRange c =
    rw c.in-TableRange.is (c.joined.ensures ∙ ap (λ (name : List ℕ). concat (codes "time " ∷ name ∷ codes " is above 1000000" ∷ [])) c.time_name.ensures)
