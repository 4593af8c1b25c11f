-- An operation whose resources are each at its own turn takes them to the next, wherever the others are.
use Rattle.std.proofs.Common.{◌≡◌, ℕ, ◌+◌, ◌^◌, ◌<◌, inl, inr, Bool, true, cond, List, [], ◌∷◌, map, length, drop, refl, sym, ◌∙◌, ap, subst, arith, Option, Some, None, option_map, All}
use Rattle.std.specs.Prelude.{slice_get}
use Rattle.std.specs.List.{AllByRecursion}
use Rattle.std.proofs.lemmas.Bool.{cases_Bool, false≢true, or_cases}
use Rattle.std.proofs.lemmas.Option.{same_Some, none-some}
use Rattle.qccd_base.specs.declared.names.Res.{Res}
use Rattle.qccd_base.specs.Resource.{among, same_res}
use Rattle.qccd_machine.specs.Machine.{IsValid}
use Rattle.op_table.specs.declared.kinds.OpKind.{OpKind}
use Rattle.op_table.specs.Contents.{heat_held}
use Rattle.op_table.specs.Touch.{touches, nth}
use Rattle.op_table.proofs.Neighbours.{same_res_is}
use Rattle.op_cells.specs.declared.cells.Cell.{Cell}
use Rattle.op_cells.specs.Numbering.{index_of}
use Rattle.op_cells.specs.Acted.{CellData, data_of, room_of}
use Rattle.op_cells.specs.OneRun.{read_at, MayRun, Ran}
use Rattle.qccd_program.specs.AllCells.{AtTurns}
use Rattle.qccd_program.specs.CellOfRun.{IsCell, cell_at}
use Rattle.qccd_program.specs.Faithful.{one_of}
use Rattle.qccd_program.specs.Legal.{IsLegalProgram}
use Rattle.qccd_program.specs.MeetsCells.{MeetsCells, own_cells}
use Rattle.qccd_program.specs.Program.{ProgramData}
use Rattle.qccd_program.proofs.MeetsCells.{meets-cells, maps_touched}
use Rattle.qccd_program.proofs.Stepping.{own-there}
use Rattle.qccd_program.proofs.Worlds.{map_twice, head_among}

-- each resource that operation k touches is at its turn
abbrev pub AtOwn : ProgramData → ℕ → OpKind → (Res → ℕ) → Type 0
AtOwn p k op now = (r : Res) → among (touches op) r ≡ true → now r ≡ nth p.ops k r

own_cell : (p : ProgramData) (k : ℕ) (op : OpKind) (now : Res → ℕ) (cells : List Cell) (r : Res) → IsLegalProgram p → slice_get p.ops k ≡ Some op → AtTurns p now cells → AtOwn p k op now → among (touches op) r ≡ true
    → (c : Cell) × (slice_get cells (index_of p.machine r) ≡ Some c) × IsCell p r (nth p.ops k r) c
own_cell p k op now cells r legal is at own in_op = let x = at.each r (own-there p k op r legal is in_op) in (x.0, x.1, subst (λ (n : ℕ). IsCell p r n x.0) (own r in_op) x.2)

cell_data : (p : ProgramData) (r : Res) (n : ℕ) (c : Cell) → IsCell p r n c → data_of c ≡ cell_at p r n
cell_data p r n c is = λ i. record { content = is.content i; clock = is.clock i; log = is.log i }

reads_own : (p : ProgramData) (k : ℕ) (op : OpKind) (now : Res → ℕ) (cells : List Cell) → IsLegalProgram p → slice_get p.ops k ≡ Some op → AtTurns p now cells → AtOwn p k op now
    → map (read_at p.machine cells) (touches op) ≡ map Some (own_cells p k op)
reads_own p k op now cells legal is at own =
    maps_touched (touches op) (read_at p.machine cells) (λ r. Some (cell_at p r (nth p.ops k r)))
    (λ r in_op. let x = own_cell p k op now cells r legal is at own in_op in ap (option_map data_of) x.1 ∙ ap Some (cell_data p r (nth p.ops k r) x.0 x.2))
    ∙ sym (map_twice Some (λ r. cell_at p r (nth p.ops k r)) (touches op))

all_mapped : {X : Type 0} (P : X → Type 0) (f : Res → X) (rs : List Res) → ((r : Res) → P (f r)) → All P (map f rs)
all_mapped {X} P f rs each = Rattle.std.proofs.lemmas.List.Elements.All-from_recursion P (map f rs) (each_of rs)
  where
    each_of : (rs : List Res) → AllByRecursion P (map f rs)
    each_of [] = tt
    each_of (r ∷ rs) = (each r, each_of rs)

pub may-run-at : (p : ProgramData) (k : ℕ) (op : OpKind) (now : Res → ℕ) (cells : List Cell) → IsValid p.machine → IsLegalProgram p → slice_get p.ops k ≡ Some op → AtTurns p now cells → AtOwn p k op now → MayRun p.machine op cells
may-run-at p k op now cells valid legal is at own =
    let law : MeetsCells p k op = meets-cells p k op valid legal is in
    record {
      found = own_cells p k op;
      reads = reads_own p k op now cells legal is at own;
      legal = (p.bits, law.legal);
      clocks = all_mapped (λ (d : CellData). d.clock < 2 ^ 62) (λ r. cell_at p r (nth p.ops k r)) (touches op) law.clocks;
      heats = all_mapped (λ (d : CellData). heat_held d.content < 2 ^ 62) (λ r. cell_at p r (nth p.ops k r)) (touches op) law.heats;
      room = λ r c first here.
          let x = own_cell p k op now cells r legal is at own (head_among (touches op) r first) in
          let same : x.0 ≡ c = same_Some x.0 c (sym x.1 ∙ here) in
          let log = ap (λ (es : List _). length es) x.2.log in
          subst (λ (y : Cell). 0 < y.log.spare) same (omega (arith, x.2.room, log, law.room r first));
    }

map_same : {Y : Type 0} (xs : List Res) (f g : Res → Y) (r : Res) → map f xs ≡ map g xs → among xs r ≡ true → f r ≡ g r
map_same [] f g r same at = absurd (false≢true at)
map_same {Y} (x ∷ xs) f g r same at = elim (or_cases (same_res x r) (among xs r) at) [
  | inl h ↦ let is : x ≡ r = same_res_is x r h in sym (ap f is) ∙ head same ∙ ap g is
  | inr h ↦ map_same xs f g r (ap (drop 1) same) h
]
  where
    head : f x ∷ map f xs ≡ g x ∷ map g xs → f x ≡ g x
    head e = cc

some_read : (cells : List Cell) (i : ℕ) (d : CellData) → option_map data_of (slice_get cells i) ≡ Some d → (c : Cell) × (slice_get cells i ≡ Some c) × (data_of c ≡ d)
some_read cells i d is = go (slice_get cells i) refl is
  where
    go : (o : Option Cell) → slice_get cells i ≡ o → option_map data_of o ≡ Some d → (c : Cell) × (slice_get cells i ≡ Some c) × (data_of c ≡ d)
    go None h e = absurd (none-some d e)
    go (Some c) h e = (c, h, same_Some (data_of c) d e)

room_kept : (old new : List Cell) (i : ℕ) (a b : Cell) → option_map room_of (slice_get new i) ≡ option_map room_of (slice_get old i) → slice_get old i ≡ Some a → slice_get new i ≡ Some b → room_of b ≡ room_of a
room_kept old new i a b same is_a is_b = same_Some (room_of b) (room_of a) (sym (ap (option_map room_of) is_b) ∙ same ∙ ap (option_map room_of) is_a)

add_none : (n : ℕ) → n ≡ n + 0
add_none n = omega arith

pub ran-at : (p : ProgramData) (k : ℕ) (op : OpKind) (now : Res → ℕ) (old new : List Cell) → IsValid p.machine → IsLegalProgram p → slice_get p.ops k ≡ Some op → AtTurns p now old → AtOwn p k op now
    → Ran p.machine p.bits k op old new → AtTurns p (λ r. now r + one_of op r) new
ran-at p k op now old new valid legal is at own ran =
    let law : MeetsCells p k op = meets-cells p k op valid legal is in
    let reads : map (read_at p.machine new) (touches op) ≡ map (λ r. Some (cell_at p r (nth p.ops k r + 1))) (touches op) =
    ran.touched (own_cells p k op) (reads_own p k op now old legal is at own) ∙ ap (map Some) (sym law.leaves) ∙ map_twice Some (λ r. cell_at p r (nth p.ops k r + 1)) (touches op) in
    record {
      long = ran.long ∙ at.long;
      each = λ r there.
          let x = at.each r there in
          elim (cases_Bool (among (touches op) r)) [
            | inl h ↦
                let turn : nth p.ops k r + 1 ≡ now r + one_of op r = ap (λ (n : ℕ). n + 1) (sym (own r h)) ∙ ap (λ (b : Bool). now r + cond b 1 0) (sym h) in
                let y = some_read new (index_of p.machine r) (cell_at p r (nth p.ops k r + 1)) (map_same (touches op) (read_at p.machine new) (λ r. Some (cell_at p r (nth p.ops k r + 1))) r reads h) in
                let same : data_of y.0 ≡ cell_at p r (now r + one_of op r) = y.2 ∙ ap (cell_at p r) turn in
                let room = room_kept old new (index_of p.machine r) x.0 y.0 (ran.room (index_of p.machine r)) x.1 y.1 in
                (y.0, y.1, record { content = ap (λ (d : CellData). d.content) same; clock = ap (λ (d : CellData). d.clock) same; log = ap (λ (d : CellData). d.log) same; room = omega (arith, room, x.2.room) })
            | inr h ↦
                let none : now r ≡ now r + one_of op r = add_none (now r) ∙ ap (λ (b : Bool). now r + cond b 1 0) (sym h) in
                (x.0, ran.others r there h ∙ x.1, subst (λ (n : ℕ). IsCell p r n x.0) none x.2)
          ];
    }
