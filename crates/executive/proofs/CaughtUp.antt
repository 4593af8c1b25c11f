-- Cells of which some are ahead, while the operations that were not done are done in order.
use Rattle.std.proofs.Common.{◌≡◌, ◌⊎◌, ℕ, suc, ◌+◌, ◌<◌, ◌≤◌, inl, inr, Bool, true, false, cond, List, length, get_or, refl, sym, ◌∙◌, ap, subst, arith, Option, Some}
use Rattle.std.specs.Prelude.{slice_get}
use Rattle.std.proofs.lemmas.Bool.{cases_Bool}
use Rattle.std.proofs.lemmas.Option.{slice_get-get_or}
use Rattle.qccd_base.specs.declared.names.Res.{Res}
use Rattle.qccd_base.specs.Resource.{among}
use Rattle.qccd_machine.specs.Machine.{MachineData, IsValid}
use Rattle.op_table.specs.declared.kinds.OpKind.{OpKind}
use Rattle.op_table.specs.Touch.{touches, nth, total}
use Rattle.op_cells.specs.declared.cells.Cell.{Cell}
use Rattle.op_cells.specs.Acted.{CellData}
use Rattle.op_cells.specs.OneRun.{MayRun, Ran}
use Rattle.qccd_program.specs.AllCells.{AtEnd, AtTurns}
use Rattle.qccd_program.specs.Faithful.{one_of}
use Rattle.qccd_program.specs.Legal.{IsLegalProgram}
use Rattle.qccd_program.specs.Program.{ProgramData}
use Rattle.qccd_program.proofs.Turning.{nth-own}
use Rattle.claim_core.specs.Event.{touched, touches_of}
use Rattle.claim_board.specs.Close.{NotBegun, Past}
use Rattle.executive.proofs.OwnTurns.{AtOwn, may-run-at, ran-at}
use Rattle.executive.proofs.LastTurns.{cell_late, take_all}

-- each resource is at its turn of before, or at that of operation k if this is greater
pub record HasCaughtUp (p : ProgramData) (turn : Res → ℕ) (k : ℕ) (all : List Cell) : Type 0 where
  pub now : Res → ℕ
  pub least : (r : Res) → (turn r ≤ now r) × (nth p.ops k r ≤ now r)
  pub one : (r : Res) → (now r ≡ turn r) ⊎ (now r ≡ nth p.ops k r)
  pub cells : AtTurns p now all

one_true : (op : OpKind) (r : Res) → among (touches op) r ≡ true → one_of op r ≡ 1
one_true op r h = ap (λ (b : Bool). cond b 1 0) h

one_false : (op : OpKind) (r : Res) → among (touches op) r ≡ false → one_of op r ≡ 0
one_false op r h = ap (λ (b : Bool). cond b 1 0) h

nth_more : (ops : List OpKind) (k : ℕ) (op : OpKind) (r : Res) → slice_get ops k ≡ Some op → nth ops (k + 1) r ≡ nth ops k r + one_of op r
nth_more ops k op r is = let one : suc k ≡ k + 1 = omega arith in ap (λ (n : ℕ). nth ops n r) (sym one) ∙ nth-own ops k op r is

pub caught-first : (p : ProgramData) (turn : Res → ℕ) (cells : List Cell) → AtTurns p turn cells → HasCaughtUp p turn 0 cells
caught-first p turn cells at = record { now = turn; least = λ r. (omega arith, omega arith); one = λ r. inl refl; cells = at }

-- an operation that was finished before
pub caught-skip : (p : ProgramData) (turn : Res → ℕ) (k : ℕ) (op : OpKind) (cells : List Cell) → slice_get p.ops k ≡ Some op → ((r : Res) → among (touches op) r ≡ true → nth p.ops k r < turn r)
    → HasCaughtUp p turn k cells → HasCaughtUp p turn (k + 1) cells
caught-skip p turn k op cells is done c = record {
  now = c.now;
  least = λ r. elim (cases_Bool (among (touches op) r)) [
    | inl h ↦ let l = c.least r in (l.0, omega (arith, l.0, done r h, nth_more p.ops k op r is, one_true op r h))
    | inr h ↦ let l = c.least r in (l.0, omega (arith, l.1, nth_more p.ops k op r is, one_false op r h))
  ];
  one = λ r. elim (c.one r) [
    | inl e ↦ inl e
    | inr e ↦ elim (cases_Bool (among (touches op) r)) [
      | inl h ↦ let l = c.least r in absurd (omega (arith, l.0, e, done r h))
      | inr h ↦ inr (omega (arith, e, nth_more p.ops k op r is, one_false op r h))
    ]
  ];
  cells = c.cells;
}

-- one that was not begun is done now
pub caught-own : (p : ProgramData) (turn : Res → ℕ) (k : ℕ) (op : OpKind) (cells : List Cell) → ((r : Res) → among (touches op) r ≡ true → turn r ≤ nth p.ops k r) → (c : HasCaughtUp p turn k cells) → AtOwn p k op c.now
caught-own p turn k op cells rest c = λ r h. elim (c.one r) [
  | inl e ↦ let l = c.least r in omega (arith, e, l.1, rest r h)
  | inr e ↦ e
]

pub caught-next : (p : ProgramData) (turn : Res → ℕ) (k : ℕ) (op : OpKind) (old new : List Cell) → IsValid p.machine → IsLegalProgram p → slice_get p.ops k ≡ Some op → ((r : Res) → among (touches op) r ≡ true → turn r ≤ nth p.ops k r)
    → HasCaughtUp p turn k old → Ran p.machine p.bits k op old new → HasCaughtUp p turn (k + 1) new
caught-next p turn k op old new valid legal is rest c ran = record {
  now = λ r. c.now r + one_of op r;
  least = λ r. let l = c.least r in (omega (arith, l.0), omega (arith, l.1, nth_more p.ops k op r is));
  one = λ r. elim (cases_Bool (among (touches op) r)) [
    | inl h ↦ inr (omega (arith, caught-own p turn k op old rest c r h, nth_more p.ops k op r is))
    | inr h ↦ elim (c.one r) [
      | inl e ↦ inl (omega (arith, e, one_false op r h))
      | inr e ↦ inr (omega (arith, e, nth_more p.ops k op r is))
    ]
  ];
  cells = ran-at p k op c.now old new valid legal is c.cells (caught-own p turn k op old rest c) ran;
}

pub caught-end : (p : ProgramData) (turn : Res → ℕ) (k : ℕ) (cells : List Cell) → length p.ops ≤ k → HasCaughtUp p turn k cells → AtEnd p cells
caught-end p turn k cells whole c = record {
  long = c.cells.long;
  each = λ r there.
      let x = c.cells.each r there in
      let all : nth p.ops k r ≡ total p.ops r = ap (λ (os : List OpKind). total os r) (take_all p.ops k whole) in
      let late = let l = c.least r in cell_late p r (c.now r) (omega (arith, l.1, all)) in (
        x.0,
        x.1,
        record {
          content = x.2.content ∙ ap (λ (d : CellData). d.content) late;
          clock = x.2.clock ∙ ap (λ (d : CellData). d.clock) late;
          log = x.2.log ∙ ap (λ (d : CellData). d.log) late;
          room = x.2.room;
        },
      );
}

-- the same for a machine and operations that were read off the program
read_op : (p : ProgramData) (ops : List OpKind) (k : ℕ) (op : OpKind) → ops ≡ p.ops → op ≡ get_or ops k op → k < length ops → slice_get p.ops k ≡ Some op
read_op p ops k op listed is less = ap (λ (os : List OpKind). slice_get os k) (sym listed) ∙ slice_get-get_or ops k op less ∙ ap Some (sym is)

touched_own : (p : ProgramData) (k : ℕ) (op : OpKind) (r : Res) → slice_get p.ops k ≡ Some op → among (touches op) r ≡ true → among (touched p.ops k) r ≡ true
touched_own p k op r is h = ap (λ (o : Option OpKind). among (touches_of o) r) is ∙ h

pub may-read-at : (p : ProgramData) (turn : Res → ℕ) (m : MachineData) (ops : List OpKind) (k : ℕ) (op : OpKind) (cells : List Cell) → m ≡ p.machine → ops ≡ p.ops → IsValid p.machine → IsLegalProgram p → op ≡ get_or ops k op → k < length ops
    → NotBegun p.ops turn k → HasCaughtUp p turn k cells → MayRun m op cells
may-read-at p turn m ops k op cells same listed valid legal is less rest c =
    let at = read_op p ops k op listed is less in
    subst (λ (n : MachineData). MayRun n op cells) (sym same)
    (may-run-at p k op c.now cells valid legal at c.cells (caught-own p turn k op cells (λ r h. rest r (touched_own p k op r at h)) c))

pub next-read-at : (p : ProgramData) (turn : Res → ℕ) (m : MachineData) (ops : List OpKind) (k : ℕ) (op : OpKind) (old new : List Cell) → m ≡ p.machine → ops ≡ p.ops → IsValid p.machine → IsLegalProgram p → op ≡ get_or ops k op → k < length ops
    → NotBegun p.ops turn k → HasCaughtUp p turn k old → ((bits : ℕ) → Ran m bits k op old new) → HasCaughtUp p turn (k + 1) new
next-read-at p turn m ops k op old new same listed valid legal is less rest c ran =
    let at = read_op p ops k op listed is less in
    caught-next p turn k op old new valid legal at (λ r h. rest r (touched_own p k op r at h)) c (subst (λ (n : MachineData). Ran n p.bits k op old new) same (ran p.bits))

pub skip-read-at : (p : ProgramData) (turn : Res → ℕ) (ops : List OpKind) (k : ℕ) (op : OpKind) (cells : List Cell) → ops ≡ p.ops → op ≡ get_or ops k op → k < length ops → Past p.ops turn k → HasCaughtUp p turn k cells → HasCaughtUp p turn (k + 1) cells
skip-read-at p turn ops k op cells listed is less done c =
    let at = read_op p ops k op listed is less in
    caught-skip p turn k op cells at (λ r h. done r (touched_own p k op r at h)) c
