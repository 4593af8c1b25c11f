-- Marks on the traps and junctions that a search has come to.
use Rattle.std.specs.Prelude.{◌≡◌, ◌↔◌, ℕ, ◌+◌, ◌<◌, Bool, true, false, not, List, Some, slice_get, slice_index_or, count_by}
use Rattle.qccd_base.specs.declared.names.Res.{Res}
use Rattle.qccd_base.specs.declared.names.Res.TheVariants.{Trap, Seg, Junc, Bit}
use Rattle.qccd_machine.specs.declared.place.Place.{Place}
use Rattle.qccd_machine.specs.declared.place.Place.TheVariants.{TrapEnd, Junction}
use Rattle.qccd_machine.specs.declared.reach.Reached.{Reached}
use Rattle.qccd_machine.specs.Machine.{MachineData, IsReached, site}

-- there is a mark for the place: it is at one of 32 traps or 64 junctions
abbrev pub HasMark : Place → Type 0
HasMark (TrapEnd t end) = t.0 < 32
HasMark (Junction j) = j.0 < 64

-- whether a trap or a junction is marked
abbrev pub is_marked : Reached → Res → Bool
is_marked marks (Trap t) = slice_index_or marks.traps t.0 false
is_marked marks (Seg s) = false
is_marked marks (Junc j) = slice_index_or marks.junctions j.0 false
is_marked marks (Bit b) = false

-- how many have no mark
abbrev pub unmarked : Reached → ℕ
unmarked marks = count_by not marks.traps + count_by not marks.junctions

-- what was marked still is
abbrev pub KeepsMarks : Reached → Reached → Type 0
KeepsMarks old new = (r : Res) → is_marked old r ≡ true → is_marked new r ≡ true

-- a path leads to all that is marked
abbrev pub AllReached : MachineData → Reached → Type 0
AllReached m marks = (r : Res) → is_marked marks r ≡ true → IsReached m r

-- the marks are at all that a path leads to, and nowhere else
abbrev pub MarksReached : MachineData → Reached → Type 0
MarksReached m marks = (r : Res) → (is_marked marks r ≡ true) ↔ IsReached m r

-- each segment before one has a mark at both ends or at none
abbrev pub IsClosedBelow : List (Place × Place) → ℕ → Reached → Type 0
IsClosedBelow segments count marks = (s : ℕ) (ends : Place × Place) → s < count → slice_get segments s ≡ Some ends
    → is_marked marks (site ends.0) ≡ is_marked marks (site ends.1)
