-- The contents of the opening, and the room that logs need.
use Rattle.std.proofs.Common.{◌≡◌, ℕ, zero, suc, ◌+◌, ◌<◌, ◌≤◌, inl, inr, Bool, true, false, cond, List, [], ◌∷◌, ◌++◌, map, length, take, get_or, refl, sym, ◌∙◌, ap, subst, arith, Some, None, All, length-append}
use Rattle.std.specs.Prelude.{slice_get, count_by, replicate}
use Rattle.std.proofs.lemmas.Bool.{cases_lt}
use Rattle.std.proofs.lemmas.Option.{same_Some, none-some, get_or_from_slice_get}
use Rattle.qccd_base.specs.declared.names.Ion.{Ion}
use Rattle.qccd_base.specs.declared.names.Res.{Res}
use Rattle.qccd_base.specs.Resource.{among, same_res}
use Rattle.qccd_machine.specs.Machine.{MachineData}
use Rattle.op_table.specs.declared.kinds.OpKind.{OpKind}
use Rattle.op_table.specs.Touch.{touches, nth, is_first, is_head}
use Rattle.qccd_program.specs.Program.{ProgramData}
use Rattle.op_cells.specs.declared.cells.Cell.{Cell}
use Rattle.op_table.specs.declared.contents.Entry.{Entry}
use Rattle.op_table.specs.Act.{trap_content}
use Rattle.op_cells.specs.Numbering.{count_of, index_of, IsThere}
use Rattle.qccd_program.specs.Legal.{IsLegalProgram}
use Rattle.op_cells.specs.Acted.{CellData}
use Rattle.qccd_program.specs.CellOfRun.{cell_at, cell_in, firsts}
use Rattle.qccd_program.specs.World.{world_after, opening_world}
use Rattle.qccd_program.specs.AllCells.{AtStep}
use Rattle.qccd_program.specs.First.{IsContentAt, FirstCells}
use Rattle.op_cells.specs.Opening.{start_entry}
use Rattle.qccd_program.specs.Turns.{Counts, counted_up, first_counted}
use Rattle.op_table.proofs.Counts.{count_by-cons}
use Rattle.op_cells.proofs.OpeningContents.{trap-start, seg-start, junc-start}
use Rattle.qccd_program.proofs.Tables.{set_counts, counts_alike, index-within, get_front, get_last, all_there, read-of}
use Rattle.qccd_program.proofs.Turning.{turn-first}
use Rattle.qccd_program.proofs.Worlds.{cell-others}
use Rattle.qccd_base.specs.declared.names.Res.TheVariants as res
use Rattle.op_table.specs.declared.contents.Content.TheVariants as holds

-- ---- the room

took : {X : Type 0} (p : X → Bool) (xs : List X) (k : ℕ) (x : X) → slice_get xs k ≡ Some x → count_by p (take (suc k) xs) ≡ count_by p (take k xs) + cond (p x) 1 0
took p [] k x is = absurd (none-some x is)
took p (y ∷ xs) zero x is =
    let one : cond {A = ℕ} (p y) 1 0 ≡ cond (p x) 1 0 = ap (λ z. cond (p z) 1 0) (same_Some y x is) in
    omega (arith, count_by-cons p y [], one)
took p (y ∷ xs) (suc k) x is = omega (arith, count_by-cons p y (take k xs), count_by-cons p y (take (suc k) xs), took p xs k x is)

pub firsts-le : (ops : List OpKind) (k : ℕ) (r : Res) → firsts (take k ops) r ≤ k
firsts-le ops zero r = omega arith
firsts-le [] (suc k) r = omega arith
firsts-le (o ∷ ops) (suc k) r = omega (arith, count_by-cons (λ (x : OpKind). is_first x r) o (take k ops), firsts-le ops k r, one (is_first o r))
  where
    one : (b : Bool) → cond {A = ℕ} b 1 0 ≤ 1
    one true = omega arith
    one false = omega arith

pub rooms-next : (m : MachineData) (n : ℕ) (ops : List OpKind) (k : ℕ) (op : OpKind) (q : Res) (qs : List Res) (cs : List ℕ) → slice_get ops k ≡ Some op → k < 4194304 → touches op ≡ q ∷ qs → IsThere m n q
    → Counts m n (firsts (take k ops)) cs → Counts m n (firsts (take (k + 1) ops)) (counted_up m cs q)
rooms-next m n ops k op q qs cs is few touch there counts =
    let one : suc k ≡ k + 1 = omega arith in
    counts_alike m n (λ r. firsts (take k ops) r + cond (same_res q r) 1 0) (firsts (take (k + 1) ops)) _
    (λ r. ap (λ (ts : List Res). firsts (take k ops) r + cond (is_head ts r) 1 0) (sym touch) ∙ sym (took (λ (x : OpKind). is_first x r) ops k op is) ∙ ap (λ (j : ℕ). firsts (take j ops) r) one)
    (set_counts m n (firsts (take k ops)) cs q counts there (omega (arith, few, firsts-le ops k q)))

pub rooms-none : (m : MachineData) (n : ℕ) (ops : List OpKind) (k : ℕ) (op : OpKind) (cs : List ℕ) → slice_get ops k ≡ Some op → touches op ≡ [] → Counts m n (firsts (take k ops)) cs → Counts m n (firsts (take (k + 1) ops)) cs
rooms-none m n ops k op cs is touch counts =
    let one : suc k ≡ k + 1 = omega arith in
    counts_alike m n (firsts (take k ops)) (firsts (take (k + 1) ops)) cs
    (λ r. add_none (firsts (take k ops) r) ∙ ap (λ (ts : List Res). firsts (take k ops) r + cond (is_head ts r) 1 0) (sym touch) ∙ sym (took (λ (x : OpKind). is_first x r) ops k op is) ∙ ap (λ (j : ℕ). firsts (take j ops) r) one) counts
  where
    add_none : (n : ℕ) → n ≡ n + 0
    add_none n = omega arith

-- ---- one cell more

pub first-next : (p : ProgramData) (i : ℕ) (cells : List Cell) (c : Cell) (rooms : List ℕ) → Counts p.machine p.bits (firsts p.ops) rooms → FirstCells p i cells → IsContentAt p i c.content → c.free_at ≡ 0 → c.log.entries ≡ [] → c.log.spare ≡ get_or rooms i 0
    → FirstCells p (i + 1) (cells ++ c ∷ [])
first-next p i cells c rooms counts firsts_ is free empty spare = record {
  long = omega (arith, length-append cells (c ∷ []), firsts_.long);
  each = λ r there less. elim (cases_lt (index_of p.machine r) i) [
    | inl before ↦ let x = firsts_.each r there before in (x.0, get_front cells (c ∷ []) (index_of p.machine r) x.0 x.1, x.2)
    | inr past ↦
        let same : index_of p.machine r ≡ i = omega (arith, less, past) in
        let own : cell_at p r 0 ≡ cell_in (opening_world p) r = turn-first cell_in (world_after p.machine) (cell-others p.machine) (opening_world p) p.ops r in
        let room : get_or rooms i 0 ≡ firsts p.ops r = ap (λ (j : ℕ). get_or rooms j 0) (sym same) ∙ get_or_from_slice_get rooms (index_of p.machine r) (firsts p.ops r) 0 (counts.each r there) in (
          c,
          ap (slice_get (cells ++ c ∷ [])) same ∙ get_last cells c i firsts_.long,
          record { content = is r there same ∙ ap (λ (d : CellData). d.content) (sym own); clock = free ∙ ap (λ (d : CellData). d.clock) (sym own); log = empty ∙ ap (λ (d : CellData). d.log) (sym own); room = omega (arith, room, spare) },
        )
  ];
}

pub first-all : (p : ProgramData) (n : ℕ) (cells : List Cell) → n ≡ count_of p.machine p.bits → FirstCells p n cells → AtStep p 0 cells
first-all p n cells is firsts_ = record { long = firsts_.long ∙ is; each = λ r there. firsts_.each r there (let a = index-within p.machine p.bits r there in omega (arith, a, is)) }

pub no-first : (p : ProgramData) → FirstCells p 0 []
no-first p = record { long = refl; each = λ r there less. absurd (omega arith) }

-- ---- the loops

pub rooms-start : (m : MachineData) (n : ℕ) (ops : List OpKind) (cs : List ℕ) → cs ≡ replicate (count_of m n) 0 → Counts m n (firsts (take 0 ops)) cs
rooms-start m n ops cs is = counts_alike m n (nth ops 0) (firsts (take 0 ops)) cs (λ r. refl) (Rattle.qccd_program.proofs.Tables.counts-start m n ops cs is)

pub may-note : (m : MachineData) (n : ℕ) (ops : List OpKind) (k : ℕ) (op : OpKind) (cs : List ℕ) (rs : List Res) → rs ≡ touches op → ((j : ℕ) (o : OpKind) (r : Res) → slice_get ops j ≡ Some o → among (touches o) r ≡ true → IsThere m n r) → op ≡ get_or ops k op → k < length ops
    → Counts m n (firsts (take k ops)) cs → All (λ r. index_of m r < length cs) rs
may-note m n ops k op cs rs same there is less counts = all_there m n cs rs counts.long (λ r at. there k op r (read-of ops k op is less) (ap (λ (xs : List Res). among xs r) (sym same) ∙ at))

pub noted-next : (m : MachineData) (n : ℕ) (ops : List OpKind) (k : ℕ) (op : OpKind) (cs now : List ℕ) (rs : List Res) → length ops ≤ 4194304 → rs ≡ touches op → ((j : ℕ) (o : OpKind) (r : Res) → slice_get ops j ≡ Some o → among (touches o) r ≡ true → IsThere m n r) → op ≡ get_or ops k op → k < length ops
    → Counts m n (firsts (take k ops)) cs → now ≡ first_counted m cs rs → Counts m n (firsts (take (k + 1) ops)) now
noted-next m n ops k op cs now rs few same there is less counts did = subst (Counts m n (firsts (take (k + 1) ops))) (sym did) (go rs same)
  where
    go : (rs : List Res) → rs ≡ touches op → Counts m n (firsts (take (k + 1) ops)) (first_counted m cs rs)
    go [] e = rooms-none m n ops k op cs (read-of ops k op is less) (sym e) counts
    go (q ∷ qs) e = rooms-next m n ops k op q qs cs (read-of ops k op is less) (omega (arith, less, few)) (sym e) (there k op q (read-of ops k op is less) (ap (λ (xs : List Res). among xs q) (sym e) ∙ Rattle.op_table.proofs.Neighbours.own_among q qs)) counts

pub trap-at : (p : ProgramData) (i : ℕ) (es : List Entry) → IsLegalProgram p → i < length p.machine.capacities → es ≡ map start_entry (get_or p.start i []) → IsContentAt p i (trap_content es 0)
trap-at p i es legal less is (res.Trap t) there at =
    ap (λ (xs : List Entry). trap_content xs 0) (is ∙ ap (λ (j : ℕ). map start_entry (get_or p.start j [])) (sym at)) ∙ sym (trap-start p.machine p.qubits p.bits p.start t legal.start)
trap-at p i es legal less is (res.Seg g) there at = absurd (omega (arith, less, at))
trap-at p i es legal less is (res.Junc j) there at = absurd (omega (arith, less, at))
trap-at p i es legal less is (res.Bit b) there at = absurd (omega (arith, less, at))

pub seg-at : (p : ProgramData) (i : ℕ) → length p.machine.capacities ≤ i → i < length p.machine.capacities + length p.machine.segments → IsContentAt p i (holds.Seg None)
seg-at p i low high (res.Trap t) there at = absurd (omega (arith, low, there, at))
seg-at p i low high (res.Seg g) there at = sym (seg-start p.qubits p.bits p.start g)
seg-at p i low high (res.Junc j) there at = absurd (omega (arith, high, at))
seg-at p i low high (res.Bit b) there at = absurd (omega (arith, high, at))

pub junc-at : (p : ProgramData) (i : ℕ) → length p.machine.capacities + length p.machine.segments ≤ i → i < length p.machine.capacities + length p.machine.segments + p.machine.junctions → IsContentAt p i (holds.Junc None)
junc-at p i low high (res.Trap t) there at = absurd (omega (arith, low, there, at))
junc-at p i low high (res.Seg g) there at = absurd (omega (arith, low, there, at))
junc-at p i low high (res.Junc j) there at = sym (junc-start p.qubits p.bits p.start j)
junc-at p i low high (res.Bit b) there at = absurd (omega (arith, high, at))

pub trap-read : (p : ProgramData) (i : ℕ) (es : List Entry) (ions : List Ion) → IsLegalProgram p → i < length p.machine.capacities → es ≡ map start_entry ions → slice_get p.start i ≡ Some ions → IsContentAt p i (trap_content es 0)
trap-read p i es ions legal less made read = trap-at p i es legal less (made ∙ ap (map start_entry) (sym (get_or_from_slice_get p.start i ions [] read)))

pub bit-at : (p : ProgramData) (i : ℕ) → length p.machine.capacities + length p.machine.segments + p.machine.junctions ≤ i → IsContentAt p i holds.Bit
bit-at p i low (res.Trap t) there at = absurd (omega (arith, low, there, at))
bit-at p i low (res.Seg g) there at = absurd (omega (arith, low, there, at))
bit-at p i low (res.Junc j) there at = absurd (omega (arith, low, there, at))
bit-at p i low (res.Bit b) there at = refl

-- the loop over the rooms, for what was read of the program
pub next-first : (p : ProgramData) (i at : ℕ) (cells : List Cell) (c : Cell) (rooms rs : List ℕ) → Counts p.machine p.bits (firsts p.ops) rooms → FirstCells p i cells → at ≡ length cells → IsContentAt p at c.content → c.free_at ≡ 0
    → rs ≡ rooms → c.log ≡ record { entries = []; spare = get_or rs i 0 } → FirstCells p (i + 1) (cells ++ c ∷ [])
next-first p i at cells c rooms rs counts firsts_ place is free shown log =
    let here : at ≡ i = place ∙ firsts_.long in
    first-next p i cells c rooms counts firsts_ (subst (λ (j : ℕ). IsContentAt p j c.content) here is) free (ap (λ l. l.entries) log) (ap (λ l. l.spare) log ∙ ap (λ (xs : List ℕ). get_or xs i 0) shown)

-- the rooms of the program, by what was read of it
pub rooms-read : (p : ProgramData) (m : MachineData) (n : ℕ) (ops : List OpKind) (rooms : List ℕ) → m ≡ p.machine → n ≡ p.bits → ops ≡ p.ops → Counts m n (firsts ops) rooms → Counts p.machine p.bits (firsts p.ops) rooms
rooms-read p m n ops rooms machine bits listed counts =
    subst (λ (k : MachineData). Counts k p.bits (firsts p.ops) rooms) machine (subst (λ (b : ℕ). Counts m b (firsts p.ops) rooms) bits (subst (λ (os : List OpKind). Counts m n (firsts os) rooms) listed counts))
