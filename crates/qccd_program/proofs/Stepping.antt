-- One operation takes all cells to their next turns.
use Rattle.std.proofs.Common.{◌≡◌, ℕ, zero, suc, ◌+◌, ◌^◌, ◌<◌, ◌≤◌, inl, inr, Bool, true, cond, List, [], ◌∷◌, map, length, take, drop, get_or, refl, sym, ◌∙◌, ap, subst, arith, Option, Some, None, option_map, All}
use Rattle.std.specs.Prelude.{slice_get}
use Rattle.std.specs.List.{AllByRecursion}
use Rattle.std.proofs.lemmas.Bool.{cases_Bool, false≢true, or_cases}
use Rattle.std.proofs.lemmas.Option.{same_Some, none-some, slice_get-get_or}
use Rattle.qccd_base.specs.declared.names.Res.{Res}
use Rattle.qccd_base.specs.Resource.{among, same_res}
use Rattle.qccd_machine.specs.Machine.{MachineData, IsValid}
use Rattle.op_table.specs.declared.kinds.OpKind.{OpKind}
use Rattle.op_table.specs.State.{State}
use Rattle.op_table.specs.Run.{after}
use Rattle.op_table.specs.Touch.{touches, nth, total}
use Rattle.qccd_program.specs.Program.{ProgramData, opening_of}
use Rattle.op_cells.specs.declared.cells.Cell.{Cell}
use Rattle.op_cells.specs.Numbering.{index_of, IsThere}
use Rattle.qccd_program.specs.Legal.{IsLegalProgram}
use Rattle.op_cells.specs.Acted.{CellData, data_of, room_of}
use Rattle.qccd_program.specs.CellOfRun.{IsCell, cell_at}
use Rattle.op_table.specs.Contents.{content, heat_held}
use Rattle.qccd_program.specs.MeetsCells.{MeetsCells, own_cells}
use Rattle.qccd_program.specs.AllCells.{AtTurns, AtStep}
use Rattle.op_cells.specs.OneRun.{read_at, MayRun, Ran}
use Rattle.op_table.proofs.Neighbours.{same_res_is}
use Rattle.qccd_program.proofs.Runs.{legal_at}
use Rattle.op_table.specs.Act.{why_on}
use Rattle.op_table.proofs.Every.{why-on}
use Rattle.op_cells.proofs.InTurn.{touched-there}
use Rattle.qccd_program.proofs.Turning.{nth-own}
use Rattle.qccd_program.proofs.Worlds.{map_twice, head_among}
use Rattle.op_table.proofs.Openings.{opening-safe}
use Rattle.qccd_program.proofs.MeetsCells.{meets-cells, maps_touched}

each_at : (P : Res → Type 0) (rs : List Res) (r : Res) → AllByRecursion P rs → among rs r ≡ true → P r
each_at P [] r all at = absurd (false≢true at)
each_at P (q ∷ rs) r all at = elim (or_cases (same_res q r) (among rs r) at) [
  | inl h ↦ subst P (same_res_is q r h) all.0
  | inr h ↦ each_at P rs r all.1 h
]

-- what an operation of a program touches is there
pub own-there : (p : ProgramData) (k : ℕ) (op : OpKind) (r : Res) → IsLegalProgram p → slice_get p.ops k ≡ Some op → among (touches op) r ≡ true → IsThere p.machine p.bits r
own-there p k op r legal is at =
    let b : State = after p.machine (opening_of p) (take k p.ops) in
    let facts = legal_at p.machine (opening_of p) p.ops k op (opening-safe p.machine p.qubits p.bits p.start legal.start) legal.ops legal.run is in
    let met : why_on p.machine b.bits op (map (content b) (touches op)) ≡ None = why-on p.machine b op facts.1 facts.2 ∙ facts.0 in
    subst (λ (n : ℕ). IsThere p.machine n r) facts.3 (each_at (IsThere p.machine b.bits) (touches op) r (touched-there p.machine b.bits op (map (content b) (touches op)) met) at)

-- a cell of the run as it is read
cell_data : (p : ProgramData) (r : Res) (n : ℕ) (c : Cell) → IsCell p r n c → data_of c ≡ cell_at p r n
cell_data p r n c is = λ i. record { content = is.content i; clock = is.clock i; log = is.log i }

reads_own : (p : ProgramData) (k : ℕ) (op : OpKind) (cells : List Cell) → IsLegalProgram p → slice_get p.ops k ≡ Some op → AtStep p k cells
    → map (read_at p.machine cells) (touches op) ≡ map Some (own_cells p k op)
reads_own p k op cells legal is at =
    maps_touched (touches op) (read_at p.machine cells) (λ r. Some (cell_at p r (nth p.ops k r)))
    (λ r in_op. let x = at.each r (own-there p k op r legal is in_op) in ap (option_map data_of) x.1 ∙ ap Some (cell_data p r (nth p.ops k r) x.0 x.2))
    ∙ sym (map_twice Some (λ r. cell_at p r (nth p.ops k r)) (touches op))

all_mapped : {X : Type 0} (P : X → Type 0) (f : Res → X) (rs : List Res) → ((r : Res) → P (f r)) → All P (map f rs)
all_mapped {X} P f rs each = Rattle.std.proofs.lemmas.List.Elements.All-from_recursion P (map f rs) (each_of rs)
  where
    each_of : (rs : List Res) → AllByRecursion P (map f rs)
    each_of [] = tt
    each_of (r ∷ rs) = (each r, each_of rs)

pub may-run : (p : ProgramData) (k : ℕ) (op : OpKind) (cells : List Cell) → IsValid p.machine → IsLegalProgram p → slice_get p.ops k ≡ Some op → AtStep p k cells → MayRun p.machine op cells
may-run p k op cells valid legal is at =
    let law : MeetsCells p k op = meets-cells p k op valid legal is in
    record {
      found = own_cells p k op;
      reads = reads_own p k op cells legal is at;
      legal = (p.bits, law.legal);
      clocks = all_mapped (λ (d : CellData). d.clock < 2 ^ 62) (λ r. cell_at p r (nth p.ops k r)) (touches op) law.clocks;
      heats = all_mapped (λ (d : CellData). heat_held d.content < 2 ^ 62) (λ r. cell_at p r (nth p.ops k r)) (touches op) law.heats;
      room = λ r c first here.
          let x = at.each r (own-there p k op r legal is (head_among (touches op) r first)) in
          let same : x.0 ≡ c = same_Some x.0 c (sym x.1 ∙ here) in
          let log = ap (λ (es : List _). length es) x.2.log in
          subst (λ (y : Cell). 0 < y.log.spare) same (omega (arith, x.2.room, log, law.room r first));
    }

map_same : {Y : Type 0} (xs : List Res) (f g : Res → Y) (r : Res) → map f xs ≡ map g xs → among xs r ≡ true → f r ≡ g r
map_same [] f g r same at = absurd (false≢true at)
map_same {Y} (x ∷ xs) f g r same at = elim (or_cases (same_res x r) (among xs r) at) [
  | inl h ↦ let is : x ≡ r = same_res_is x r h in sym (ap f is) ∙ head same ∙ ap g is
  | inr h ↦ map_same xs f g r (ap (drop 1) same) h
]
  where
    head : f x ∷ map f xs ≡ g x ∷ map g xs → f x ≡ g x
    head e = cc

some_read : (cells : List Cell) (i : ℕ) (d : CellData) → option_map data_of (slice_get cells i) ≡ Some d → (c : Cell) × (slice_get cells i ≡ Some c) × (data_of c ≡ d)
some_read cells i d is = go (slice_get cells i) refl is
  where
    go : (o : Option Cell) → slice_get cells i ≡ o → option_map data_of o ≡ Some d → (c : Cell) × (slice_get cells i ≡ Some c) × (data_of c ≡ d)
    go None h e = absurd (none-some d e)
    go (Some c) h e = (c, h, same_Some (data_of c) d e)

room_kept : (old new : List Cell) (i : ℕ) (a b : Cell) → option_map room_of (slice_get new i) ≡ option_map room_of (slice_get old i) → slice_get old i ≡ Some a → slice_get new i ≡ Some b → room_of b ≡ room_of a
room_kept old new i a b same is_a is_b = same_Some (room_of b) (room_of a) (sym (ap (option_map room_of) is_b) ∙ same ∙ ap (option_map room_of) is_a)

-- the cells after it are at the next turns
ran_suc : (p : ProgramData) (k : ℕ) (op : OpKind) (old new : List Cell) → IsValid p.machine → IsLegalProgram p → slice_get p.ops k ≡ Some op → AtStep p k old → Ran p.machine p.bits k op old new → AtStep p (suc k) new
ran_suc p k op old new valid legal is at ran =
    let law : MeetsCells p k op = meets-cells p k op valid legal is in
    let reads : map (read_at p.machine new) (touches op) ≡ map (λ r. Some (cell_at p r (nth p.ops k r + 1))) (touches op) =
    ran.touched (own_cells p k op) (reads_own p k op old legal is at) ∙ ap (map Some) (sym law.leaves) ∙ map_twice Some (λ r. cell_at p r (nth p.ops k r + 1)) (touches op) in
    record {
      long = ran.long ∙ at.long;
      each = λ r there.
          let x = at.each r there in
          elim (cases_Bool (among (touches op) r)) [
            | inl h ↦
                let turn : nth p.ops k r + 1 ≡ nth p.ops (suc k) r = ap (λ (b : Bool). nth p.ops k r + cond b 1 0) (sym h) ∙ sym (nth-own p.ops k op r is) in
                let y = some_read new (index_of p.machine r) (cell_at p r (nth p.ops k r + 1)) (map_same (touches op) (read_at p.machine new) (λ r. Some (cell_at p r (nth p.ops k r + 1))) r reads h) in
                let same : data_of y.0 ≡ cell_at p r (nth p.ops (suc k) r) = y.2 ∙ ap (cell_at p r) turn in
                let room = room_kept old new (index_of p.machine r) x.0 y.0 (ran.room (index_of p.machine r)) x.1 y.1 in
                (y.0, y.1, record { content = ap (λ (d : CellData). d.content) same; clock = ap (λ (d : CellData). d.clock) same; log = ap (λ (d : CellData). d.log) same; room = omega (arith, room, x.2.room) })
            | inr h ↦
                let none : nth p.ops k r ≡ nth p.ops (suc k) r = add_none (nth p.ops k r) ∙ ap (λ (b : Bool). nth p.ops k r + cond b 1 0) (sym h) ∙ sym (nth-own p.ops k op r is) in
                (x.0, ran.others r there h ∙ x.1, subst (λ (n : ℕ). IsCell p r n x.0) none x.2)
          ];
    }
  where
    add_none : (n : ℕ) → n ≡ n + 0
    add_none n = omega arith

pub ran-next : (p : ProgramData) (k : ℕ) (op : OpKind) (old new : List Cell) → IsValid p.machine → IsLegalProgram p → slice_get p.ops k ≡ Some op → AtStep p k old → Ran p.machine p.bits k op old new → AtStep p (k + 1) new
ran-next p k op old new valid legal is at ran = let one : suc k ≡ k + 1 = omega arith in subst (λ (n : ℕ). AtStep p n new) one (ran_suc p k op old new valid legal is at ran)

read_op : (p : ProgramData) (ops : List OpKind) (k : ℕ) (op : OpKind) → ops ≡ p.ops → op ≡ get_or ops k op → k < length ops → slice_get p.ops k ≡ Some op
read_op p ops k op listed is less = ap (λ (os : List OpKind). slice_get os k) (sym listed) ∙ slice_get-get_or ops k op less ∙ ap Some (sym is)

-- the same for a machine and operations that were read off the program
pub may-read : (p : ProgramData) (m : MachineData) (ops : List OpKind) (k : ℕ) (op : OpKind) (cells : List Cell) → m ≡ p.machine → ops ≡ p.ops → IsValid p.machine → IsLegalProgram p → op ≡ get_or ops k op → k < length ops → AtStep p k cells → MayRun m op cells
may-read p m ops k op cells same listed valid legal is less at =
    subst (λ (n : MachineData). MayRun n op cells) (sym same) (may-run p k op cells valid legal (read_op p ops k op listed is less) at)

pub next-read : (p : ProgramData) (m : MachineData) (ops : List OpKind) (k : ℕ) (op : OpKind) (old new : List Cell) → m ≡ p.machine → ops ≡ p.ops → IsValid p.machine → IsLegalProgram p → op ≡ get_or ops k op → k < length ops → AtStep p k old
    → ((bits : ℕ) → Ran m bits k op old new) → AtStep p (k + 1) new
next-read p m ops k op old new same listed valid legal is less at ran =
    ran-next p k op old new valid legal (read_op p ops k op listed is less) at (subst (λ (n : MachineData). Ran n p.bits k op old new) same (ran p.bits))

-- what the operations touch is there
pub parts-there : (p : ProgramData) (m : MachineData) (n : ℕ) (ops : List OpKind) → m ≡ p.machine → n ≡ p.bits → ops ≡ p.ops → IsLegalProgram p → (k : ℕ) (op : OpKind) (r : Res) → slice_get ops k ≡ Some op → among (touches op) r ≡ true → IsThere m n r
parts-there p m n ops same bits listed legal k op r is at =
    subst (λ (b : ℕ). IsThere m b r) (sym bits) (subst (λ (x : MachineData). IsThere x p.bits r) (sym same) (own-there p k op r legal (ap (λ (os : List OpKind). slice_get os k) (sym listed) ∙ is) at))

-- after all operations each resource is at its last turn
take_all : {X : Type 0} (xs : List X) (k : ℕ) → length xs ≤ k → take k xs ≡ xs
take_all [] zero h = refl
take_all [] (suc k) h = refl
take_all (x ∷ xs) zero h = absurd (omega arith)
take_all {X} (x ∷ xs) (suc k) h = ap (λ (ys : List X). x ∷ ys) (take_all xs k (omega arith))

pub at-end : (p : ProgramData) (k : ℕ) (cells : List Cell) → length p.ops ≤ k → AtStep p k cells → AtTurns p (total p.ops) cells
at-end p k cells past at = record { long = at.long; each = λ r there. let x = at.each r there in (x.0, x.1, subst (λ (n : ℕ). IsCell p r n x.0) (ap (λ (os : List OpKind). total os r) (take_all p.ops k past)) x.2) }
