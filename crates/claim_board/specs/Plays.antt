-- What each kind of step makes of a pass, and what it tells.
use Rattle.std.specs.Prelude.{◌≡◌, ◌≢◌, ℕ, ◌+◌, ◌*◌, ◌<◌, ◌≤◌, true, false, [], ◌∷◌, ◌++◌, length, Option, Some, None}
use Rattle.qccd_base.specs.declared.names.Res.{Res}
use Rattle.qccd_base.specs.Resource.{among}
use Rattle.qccd_machine.specs.declared.place.Preset.TheVariants.{L6}
use Rattle.qccd_machine.specs.Preset.{preset_of}
use Rattle.op_table.specs.Touch.{nth, is_head}
use Rattle.op_cells.specs.declared.cells.Cell.{Cell}
use Rattle.op_cells.specs.Numbering.{index_of}
use Rattle.atomic_table.specs.Table.{Me, Step, rest}
use Rattle.qccd_program.specs.CellOfRun.{IsCell}
use Rattle.qccd_program.specs.Program.{ProgramData, program_data}
use Rattle.claim_core.specs.Board.{flag_at, no_flags}
use Rattle.claim_core.specs.Event.{touched, with_flag, left_in_hand}
use Rattle.claim_board.specs.declared.view.View.{View}
use Rattle.claim_board.specs.View.{turn_in, held_in, seen_of, seen_also, greater_of}
use Rattle.claim_board.specs.Rule.{fresh_view}

-- what a pass knows and the slots that it holds, and a step
abbrev pub Knows : Type 0
Knows = Me (Option Cell) View

abbrev pub Taken : Type 0
Taken = Step (Option Cell)

-- after a look at the word i that found x
abbrev pub after_look : ℕ → ℕ → View → View
after_look i x v = record v { looks = v.looks + 1; last = (i, turn_in x, held_in x); seen = seen_also v.seen i (turn_in x) }

-- after a Begin of operation k at its first resource, a Reach of r, and a Give of r
abbrev pub after_begin : ℕ → Res → View → View
after_begin k r v = record v {
  op = Some k;
  got = with_flag v.program (no_flags v.program) r;
  gave = no_flags v.program;
  begun = v.begun + 1;
  seen = seen_also v.seen (index_of v.program.machine r) (nth v.program.ops k r);
}

abbrev pub after_reach : ℕ → Res → View → View
after_reach k r v = record v { got = with_flag v.program v.got r; seen = seen_also v.seen (index_of v.program.machine r) (nth v.program.ops k r) }

abbrev pub after_give : ℕ → Res → View → View
after_give k r v = record v {
  op = left_in_hand v.program k (with_flag v.program v.gave r);
  gave = with_flag v.program v.gave r;
  seen = seen_also v.seen (index_of v.program.machine r) (nth v.program.ops k r + 1);
}

-- the step was at the word of r, which operation k touches, perhaps as its first
pub record IsAt (p : ProgramData) (k : ℕ) (r : Res) (i : ℕ) : Type 0 where
  pub touches : among (touched p.ops k) r ≡ true
  pub word : index_of p.machine r ≡ i

pub record IsAtFirst (p : ProgramData) (k : ℕ) (r : Res) (i : ℕ) : Type 0 where
  pub first : is_head (touched p.ops k) r ≡ true
  pub word : index_of p.machine r ≡ i

-- What a step asks of the pass. Begin: its hand is empty, and it has seen each resource of the operation at its
-- turn or past it. Reach: it has the operation in hand, and did not get the resource. Give: it got all, and did
-- not give this one
pub record MayBegin (v : View) (k : ℕ) (r : Res) : Type 0 where
  pub live : v.live ≡ true
  pub empty : v.op ≡ None
  pub there : k < length v.program.ops
  pub first : is_head (touched v.program.ops k) r ≡ true
  pub seen : (q : Res) → among (touched v.program.ops k) q ≡ true → nth v.program.ops k q ≤ seen_of v q

pub record MayReach (v : View) (k : ℕ) (r : Res) : Type 0 where
  pub live : v.live ≡ true
  pub busy : v.op ≡ Some k
  pub touches : among (touched v.program.ops k) r ≡ true
  pub lacks : flag_at v.program v.got r ≡ false

pub record MayGive (v : View) (k : ℕ) (r : Res) : Type 0 where
  pub live : v.live ≡ true
  pub busy : v.op ≡ Some k
  pub touches : among (touched v.program.ops k) r ≡ true
  pub all : (q : Res) → among (touched v.program.ops k) q ≡ true → flag_at v.program v.got q ≡ true
  pub kept : flag_at v.program v.gave r ≡ false

-- the pass has taken the cell of r at this turn
pub record Takes (p : ProgramData) (r : Res) (n : ℕ) (before : Knows) (w : View) (after : Knows) : Type 0 where
  pub cell : Cell
  pub knows : after ≡ (w, (index_of p.machine r, Some cell) ∷ before.1)
  pub is : IsCell p r n cell

-- the turn was read, and stands in a program of so many operations
abbrev pub looked : Taken → Knows → ℕ → Knows → Type 0
looked st m x m' = (m' ≡ (after_look st.word x m.0, m.1)) × (turn_in x ≤ 4194304)

-- where the word was free at the turn asked for, the operation whose first resource this is at this turn is
-- begun; else the word was looked at
abbrev pub began : Taken → Knows → ℕ → Knows → Type 0
began st m x m' =
    (x ≡ st.first → (k : ℕ) (r : Res) → IsAtFirst m.0.program k r st.word → x ≡ 32 * nth m.0.program.ops k r → Takes m.0.program r (nth m.0.program.ops k r) m (after_begin k r m.0) m')
    × (x ≢ st.first → looked st m x m')

-- one more resource is taken: the exchange succeeded
abbrev pub reached : Taken → Knows → ℕ → Knows → Type 0
reached st m x m' = (k : ℕ) (r : Res) → m.0.op ≡ Some k → IsAt m.0.program k r st.word → Takes m.0.program r (nth m.0.program.ops k r) m (after_reach k r m.0) m'

-- the slot taken last is given back
abbrev pub gave : Taken → Knows → ℕ → Knows → Type 0
gave st m x m' = (k : ℕ) (r : Res) → m.0.op ≡ Some k → IsAt m.0.program k r st.word → m' ≡ (after_give k r m.0, rest m.1)

-- one pass more has the next number
abbrev pub stays : View → View
stays v = record v { made = v.made + 1 }

abbrev pub comes : View → View
comes v = fresh_view v.program v.workers v.made 0

-- a pass that has taken in another, and what is left of that
abbrev pub joined : View → View → View
joined v u = record v { begun = v.begun + u.begun; ended = v.ended ++ u.number ∷ u.ended; seen = greater_of v.seen u.seen }

abbrev pub spent : View
spent = record (fresh_view (program_data (preset_of L6 2) 0 0 None [] []) 0 0 0) { live = false }
