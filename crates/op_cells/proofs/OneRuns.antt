-- One operation done in place on all cells.
use Rattle.std.proofs.Common.{◌≡◌, ◌≢◌, ℕ, zero, suc, ◌+◌, ◌-◌, ◌<◌, ◌≤◌, ◌^◌, Bool, true, List, [], ◌∷◌, ◌++◌, map, take, length, get_or, refl, sym, ◌∙◌, ap, ap₂, subst, arith, Option, Some, None, option_map, slice_get, All, length-append}
use Rattle.std.specs.List.{AllByRecursion}
use Rattle.std.proofs.lemmas.List.Elements.{recursion_from_All}
use Rattle.std.proofs.lemmas.Option.{same_Some, none-some, slice_get_within}
use Rattle.std.proofs.Math.Seq.{take-append_seam}
use Rattle.std.proofs.lemmas.Bool.Decides.{nat_tests}
use Rattle.qccd_base.specs.Greatest.{greatest}
use Rattle.qccd_base.specs.declared.names.Res.{Res}
use Rattle.qccd_base.specs.Resource.{same_res}
use Rattle.qccd_machine.specs.Machine.{MachineData}
use Rattle.op_table.specs.declared.kinds.OpKind.{OpKind}
use Rattle.op_table.specs.declared.contents.Content.{Content}
use Rattle.op_table.specs.Act.{acted, why_on}
use Rattle.op_table.specs.Clock.{duration}
use Rattle.op_table.specs.Contents.{heat_held}
use Rattle.op_table.specs.Touch.{touches, is_first, is_head}
use Rattle.op_cells.specs.declared.cells.Cell.{Cell}
use Rattle.op_cells.specs.declared.cells.Done.{Done}
use Rattle.op_cells.specs.Acted.{CellData, acted_on, data_of, room_of, with_contents_at, noted_at, done_on}
use Rattle.op_cells.specs.Numbering.{index_of}
use Rattle.op_cells.specs.OneRun.{read_at, MayRun, Ran}
use Rattle.op_cells.specs.Places.{adjust, adjust_all, clock_at, content_at, content_or, clock_or, free_from, holding, AreInTurn, AreWithin, HasRoom, HasFirstRoom}
use Rattle.op_cells.specs.Settled.{IsLegalOn, noted}
use Rattle.op_cells.proofs.Adjusting.{adjust-long, adjust-own, adjust-other}
use Rattle.op_cells.proofs.InTurn.{touched-there, touched-in_turn, stands_apart}
use Rattle.op_cells.proofs.Wholes.{acted_long, mapped_long}

head_of : {X : Type 0} (x y : X) (xs ys : List X) → x ∷ xs ≡ y ∷ ys → x ≡ y
head_of x y xs ys e = cc

-- what is read of a place where a cell is
read_data : (o : Option Cell) (d : CellData) → option_map data_of o ≡ Some d → (c : Cell) × (o ≡ Some c) × (data_of c ≡ d)
read_data None d e = absurd (none-some d e)
read_data (Some c) d e = (c, refl, same_Some (data_of c) d e)

-- places, contents and clocks of what is read
reads_within : (m : MachineData) (cells : List Cell) (rs : List Res) (ds : List CellData) → map (read_at m cells) rs ≡ map Some ds → AreWithin m (length cells) rs
reads_within m cells [] ds e = tt
reads_within m cells (r ∷ rs) [] e = absurd (let l : suc (length (map (read_at m cells) rs)) ≡ 0 = ap (λ (xs : List (Option CellData)). length xs) e in omega (arith, l))
reads_within m cells (r ∷ rs) (d ∷ ds) e =
    let here = read_data (slice_get cells (index_of m r)) d (head_of (read_at m cells r) (Some d) (map (read_at m cells) rs) (map Some ds) e) in
    (slice_get_within cells (index_of m r) here.0 here.1, reads_within m cells rs ds (ap (Rattle.std.proofs.Common.drop 1) e))

read_through : {Y : Type 0} (f : Option Cell → Y) (g : CellData → Y) → ((c : Cell) → f (Some c) ≡ g (data_of c)) → (m : MachineData) (cells : List Cell) (rs : List Res) (ds : List CellData)
    → map (read_at m cells) rs ≡ map Some ds → map (λ (r : Res). f (slice_get cells (index_of m r))) rs ≡ map g ds
read_through f g same m cells [] [] e = refl
read_through f g same m cells [] (d ∷ ds) e = absurd (let l : 0 ≡ suc (length (map {A = CellData} Some ds)) = ap (λ (xs : List (Option CellData)). length xs) e in omega (arith, l))
read_through f g same m cells (r ∷ rs) [] e = absurd (let l : suc (length (map (read_at m cells) rs)) ≡ 0 = ap (λ (xs : List (Option CellData)). length xs) e in omega (arith, l))
read_through {Y} f g same m cells (r ∷ rs) (d ∷ ds) e =
    let here = read_data (slice_get cells (index_of m r)) d (head_of (read_at m cells r) (Some d) (map (read_at m cells) rs) (map Some ds) e) in
    ap₂ (λ (y : Y) (ys : List Y). y ∷ ys) (ap f here.1 ∙ same here.0 ∙ ap g here.2) (read_through f g same m cells rs ds (ap (Rattle.std.proofs.Common.drop 1) e))

reads_contents : (m : MachineData) (cells : List Cell) (rs : List Res) (ds : List CellData) → map (read_at m cells) rs ≡ map Some ds → map (content_at m cells) rs ≡ map (λ (d : CellData). d.content) ds
reads_contents m cells rs ds e = read_through content_or (λ d. d.content) (λ c. refl) m cells rs ds e

reads_clocks : (m : MachineData) (cells : List Cell) (rs : List Res) (ds : List CellData) → map (read_at m cells) rs ≡ map Some ds → map (clock_at m cells) rs ≡ map (λ (d : CellData). d.clock) ds
reads_clocks m cells rs ds e = read_through clock_or (λ d. d.clock) (λ c. refl) m cells rs ds e

-- what may be run may be done in place
pub within : (m : MachineData) (op : OpKind) (cells : List Cell) → MayRun m op cells → AreWithin m (length cells) (touches op)
within m op cells may = reads_within m cells (touches op) may.found may.reads

pub legal : (m : MachineData) (op : OpKind) (cells : List Cell) → MayRun m op cells → IsLegalOn m op (map (content_at m cells) (touches op))
legal m op cells may = (may.legal.0, ap (why_on m may.legal.0 op) (reads_contents m cells (touches op) may.found may.reads) ∙ may.legal.1)

pub in_turn : (m : MachineData) (op : OpKind) (cells : List Cell) → MayRun m op cells → AreInTurn m (touches op)
in_turn m op cells may = touched-in_turn m may.legal.0 op (map (λ d. d.content) may.found) may.legal.1

pub heats : (m : MachineData) (op : OpKind) (cells : List Cell) → MayRun m op cells → AllByRecursion (λ r. heat_held (content_at m cells r) < 2 ^ 62) (touches op)
heats m op cells may = go (touches op) may.found (reads_contents m cells (touches op) may.found may.reads) (recursion_from_All (λ (d : CellData). heat_held d.content < 2 ^ 62) may.found may.heats)
  where
    go : (rs : List Res) (ds : List CellData) → map (content_at m cells) rs ≡ map (λ (d : CellData). d.content) ds → AllByRecursion (λ (d : CellData). heat_held d.content < 2 ^ 62) ds → AllByRecursion (λ r. heat_held (content_at m cells r) < 2 ^ 62) rs
    go [] ds e all = tt
    go (r ∷ rs) [] e all = absurd (let l : suc (length (map (content_at m cells) rs)) ≡ 0 = ap (λ (xs : List Content). length xs) e in omega (arith, l))
    go (r ∷ rs) (d ∷ ds) e all =
        let here : content_at m cells r ≡ d.content = head_of (content_at m cells r) d.content (map (content_at m cells) rs) (map (λ (d : CellData). d.content) ds) e in
        (subst (λ (x : Content). heat_held x < 2 ^ 62) (sym here) all.0, go rs ds (ap (Rattle.std.proofs.Common.drop 1) e) all.1)

pub start-small : (m : MachineData) (op : OpKind) (cells : List Cell) → MayRun m op cells → greatest (map (clock_at m cells) (touches op)) < 2 ^ 62
start-small m op cells may = subst (λ (ns : List ℕ). greatest ns < 2 ^ 62) (sym (reads_clocks m cells (touches op) may.found may.reads)) (go may.found (recursion_from_All (λ (d : CellData). d.clock < 2 ^ 62) may.found may.clocks))
  where
    go : (ds : List CellData) → AllByRecursion (λ (d : CellData). d.clock < 2 ^ 62) ds → greatest (map (λ (d : CellData). d.clock) ds) < 2 ^ 62
    go [] all = omega arith
    go (d ∷ ds) all = let own : d.clock < 2 ^ 62 = all.0 in let rest = go ds all.1 in omega (arith, own, rest)

-- changes leave lengths, other places, and what each of them keeps
pub all_long : (m : MachineData) (rs : List Res) (fs : List (Cell → Cell)) (cells : List Cell) → length (adjust_all m rs fs cells) ≡ length cells
all_long m [] fs cells = refl
all_long m (r ∷ rs) [] cells = refl
all_long m (r ∷ rs) (f ∷ fs) cells = all_long m rs fs (adjust f cells (index_of m r)) ∙ adjust-long f cells (index_of m r)

pub all_other : (m : MachineData) (rs : List Res) (fs : List (Cell → Cell)) (cells : List Cell) (i : ℕ) → AllByRecursion (λ q. i ≢ index_of m q) rs → slice_get (adjust_all m rs fs cells) i ≡ slice_get cells i
all_other m [] fs cells i apart = refl
all_other m (r ∷ rs) [] cells i apart = refl
all_other m (r ∷ rs) (f ∷ fs) cells i apart = all_other m rs fs (adjust f cells (index_of m r)) i apart.1 ∙ adjust-other f cells (index_of m r) i apart.0

adjust_keeps : {Y : Type 0} (Q : Cell → Y) (f : Cell → Cell) (cells : List Cell) (i j : ℕ) → option_map Q (option_map f (slice_get cells i)) ≡ option_map Q (slice_get cells i) → option_map Q (slice_get (adjust f cells i) j) ≡ option_map Q (slice_get cells j)
adjust_keeps Q f [] i j keeps = refl
adjust_keeps Q f (c ∷ cells) zero zero keeps = keeps
adjust_keeps Q f (c ∷ cells) zero (suc j) keeps = refl
adjust_keeps Q f (c ∷ cells) (suc i) zero keeps = refl
adjust_keeps Q f (c ∷ cells) (suc i) (suc j) keeps = adjust_keeps Q f cells i j keeps

through : {Y : Type 0} (Q : Cell → Y) (f : Cell → Cell) (o : Option Cell) → ((c : Cell) → Q (f c) ≡ Q c) → option_map Q (option_map f o) ≡ option_map Q o
through Q f None keeps = refl
through Q f (Some c) keeps = ap Some (keeps c)

pub all_keep : {Y : Type 0} (Q : Cell → Y) (m : MachineData) (rs : List Res) (fs : List (Cell → Cell)) (cells : List Cell) (j : ℕ) → AllByRecursion (λ f. (c : Cell) → Q (f c) ≡ Q c) fs → option_map Q (slice_get (adjust_all m rs fs cells) j) ≡ option_map Q (slice_get cells j)
all_keep Q m [] fs cells j keep = refl
all_keep Q m (r ∷ rs) [] cells j keep = refl
all_keep Q m (r ∷ rs) (f ∷ fs) cells j keep =
    all_keep Q m rs fs (adjust f cells (index_of m r)) j keep.1 ∙ adjust_keeps Q f cells (index_of m r) j (through Q f (slice_get cells (index_of m r)) keep.0)

pub holding_keeps : {Y : Type 0} (Q : Cell → Y) → ((x : Content) (c : Cell) → Q (holding x c) ≡ Q c) → (xs : List Content) → AllByRecursion (λ f. (c : Cell) → Q (f c) ≡ Q c) (map holding xs)
holding_keeps Q keep [] = tt
holding_keeps Q keep (x ∷ xs) = (keep x, holding_keeps Q keep xs)

free_keeps : (Q : Cell → ℕ) (finish : ℕ) → ((c : Cell) → Q (free_from finish c) ≡ Q c) → (rs : List Res) → AllByRecursion (λ f. (c : Cell) → Q (f c) ≡ Q c) (map (λ (r : Res). free_from finish) rs)
free_keeps Q finish keep [] = tt
free_keeps Q finish keep (r ∷ rs) = (keep, free_keeps Q finish keep rs)

-- changes of cells and of what is read of them
abbrev Alike : List (Cell → Cell) → List (CellData → CellData) → Type 0
Alike [] [] = Unit {0}
Alike [] (g ∷ gs) = ⊥
Alike (f ∷ fs) [] = ⊥
Alike (f ∷ fs) (g ∷ gs) = ((c : Cell) → data_of (f c) ≡ g (data_of c)) × Alike fs gs

abbrev applied : List (CellData → CellData) → List CellData → List CellData
applied [] ds = ds
applied (g ∷ gs) [] = []
applied (g ∷ gs) (d ∷ ds) = g d ∷ applied gs ds

pub apart_from : (m : MachineData) (i : ℕ) (rs : List Res) → AllByRecursion (λ q. i < index_of m q) rs → AllByRecursion (λ q. i ≢ index_of m q) rs
apart_from m i [] up = tt
apart_from m i (q ∷ rs) up = ((λ e. let less : i < index_of m q = up.0 in omega (arith, less, e)), apart_from m i rs up.1)

reads_other : (m : MachineData) (f : Cell → Cell) (cells : List Cell) (i : ℕ) (rs : List Res) → AllByRecursion (λ q. i < index_of m q) rs → map (read_at m (adjust f cells i)) rs ≡ map (read_at m cells) rs
reads_other m f cells i [] up = refl
reads_other m f cells i (q ∷ rs) up =
    ap₂ (λ (x : Option CellData) (xs : List (Option CellData)). x ∷ xs) (ap (option_map data_of) (adjust-other f cells i (index_of m q) (λ e. let less : i < index_of m q = up.0 in omega (arith, less, e)))) (reads_other m f cells i rs up.1)

read_own : (f : Cell → Cell) (g : CellData → CellData) (o : Option Cell) (d : CellData) → ((c : Cell) → data_of (f c) ≡ g (data_of c)) → option_map data_of o ≡ Some d → option_map data_of (option_map f o) ≡ Some (g d)
read_own f g None d same e = absurd (none-some d e)
read_own f g (Some c) d same e = ap Some (same c ∙ ap g (same_Some (data_of c) d e))

reads_adjusted : (m : MachineData) (rs : List Res) (fs : List (Cell → Cell)) (gs : List (CellData → CellData)) (cells : List Cell) (ds : List CellData) → AreInTurn m rs → Alike fs gs → map (read_at m cells) rs ≡ map Some ds
    → map (read_at m (adjust_all m rs fs cells)) rs ≡ map Some (applied gs ds)
reads_adjusted m [] [] [] cells ds up alike e = e
reads_adjusted m [] [] (g ∷ gs) cells ds up alike e = absurd alike
reads_adjusted m [] (f ∷ fs) [] cells ds up alike e = absurd alike
reads_adjusted m [] (f ∷ fs) (g ∷ gs) cells [] up alike e = e
reads_adjusted m [] (f ∷ fs) (g ∷ gs) cells (d ∷ ds) up alike e = absurd (let l : 0 ≡ suc (length (map {A = CellData} Some ds)) = ap (λ (xs : List (Option CellData)). length xs) e in omega (arith, l))
reads_adjusted m (r ∷ rs) [] [] cells ds up alike e = e
reads_adjusted m (r ∷ rs) [] (g ∷ gs) cells ds up alike e = absurd alike
reads_adjusted m (r ∷ rs) (f ∷ fs) [] cells ds up alike e = absurd alike
reads_adjusted m (r ∷ rs) (f ∷ fs) (g ∷ gs) cells [] up alike e = absurd (let l : suc (length (map (read_at m cells) rs)) ≡ 0 = ap (λ (xs : List (Option CellData)). length xs) e in omega (arith, l))
reads_adjusted m (r ∷ rs) (f ∷ fs) (g ∷ gs) cells (d ∷ ds) up alike e =
    let i : ℕ = index_of m r in
    let here : option_map data_of (slice_get cells i) ≡ Some d = head_of (read_at m cells r) (Some d) (map (read_at m cells) rs) (map Some ds) e in
    ap₂ (λ (x : Option CellData) (xs : List (Option CellData)). x ∷ xs)
    (ap (option_map data_of) (all_other m rs fs (adjust f cells i) i (apart_from m i rs up.0) ∙ adjust-own f cells i) ∙ read_own f g (slice_get cells i) d alike.0 here)
    (reads_adjusted m rs fs gs (adjust f cells i) ds up.1 alike.1 (reads_other m f cells i rs up.0 ∙ ap (Rattle.std.proofs.Common.drop 1) e))

abbrev data_holding : Content → CellData → CellData
data_holding x d = record d { content = x }

abbrev data_free : ℕ → CellData → CellData
data_free finish d = record d { clock = finish }

abbrev data_noted : Done → CellData → CellData
data_noted done d = record d { log = d.log ++ done ∷ [] }

alike_holding : (xs : List Content) → Alike (map holding xs) (map data_holding xs)
alike_holding [] = tt
alike_holding (x ∷ xs) = ((λ c. refl), alike_holding xs)

alike_free : (finish : ℕ) (rs : List Res) → Alike (map (λ (r : Res). free_from finish) rs) (map (λ (r : Res). data_free finish) rs)
alike_free finish [] = tt
alike_free finish (r ∷ rs) = ((λ c. refl), alike_free finish rs)

freed_contents : (finish : ℕ) (rs : List Res) (xs : List Content) (ds : List CellData) → length xs ≡ length ds → length rs ≡ length ds
    → applied (map (λ (r : Res). data_free finish) rs) (applied (map data_holding xs) ds) ≡ with_contents_at finish xs ds
freed_contents finish [] [] [] a b = refl
freed_contents finish [] [] (d ∷ ds) a b = absurd (omega (arith, a))
freed_contents finish [] (x ∷ xs) [] a b = absurd (omega (arith, a))
freed_contents finish [] (x ∷ xs) (d ∷ ds) a b = absurd (omega (arith, b))
freed_contents finish (r ∷ rs) [] [] a b = absurd (omega (arith, b))
freed_contents finish (r ∷ rs) [] (d ∷ ds) a b = absurd (omega (arith, a))
freed_contents finish (r ∷ rs) (x ∷ xs) [] a b = absurd (omega (arith, a))
freed_contents finish (r ∷ rs) (x ∷ xs) (d ∷ ds) a b = ap (λ (es : List CellData). record { content = x; clock = finish; log = d.log } ∷ es) (freed_contents finish rs xs ds (omega (arith, a)) (omega (arith, b)))

noted_head : (done : Done) (ds : List CellData) → applied (data_noted done ∷ []) ds ≡ noted_at done ds
noted_head done [] = refl
noted_head done (d ∷ ds) = refl

reads_long : (m : MachineData) (cells : List Cell) (rs : List Res) (ds : List CellData) → map (read_at m cells) rs ≡ map Some ds → length rs ≡ length ds
reads_long m cells rs ds e = sym (mapped_long (read_at m cells) rs) ∙ ap (λ (xs : List (Option CellData)). length xs) e ∙ mapped_long {X = CellData} {Y = Option CellData} Some ds

-- the three changes that make up one run
abbrev run_changed : MachineData → OpKind → Done → List Cell → List Cell
run_changed m op done old =
    adjust_all m (touches op) (noted done ∷ [])
    (adjust_all m (touches op) (map (λ (r : Res). free_from done.finish) (touches op)) (adjust_all m (touches op) (map holding (acted m op (map (content_at m old) (touches op)))) old))

has_room_kept : (a b : Option Cell) → option_map (λ (c : Cell). c.log.spare) a ≡ option_map (λ (c : Cell). c.log.spare) b → HasRoom b → HasRoom a
has_room_kept None b e h = tt
has_room_kept (Some x) None e h = absurd (none-some x.log.spare (sym e))
has_room_kept (Some x) (Some y) e h = let same : x.log.spare ≡ y.log.spare = same_Some x.log.spare y.log.spare e in subst (λ (n : ℕ). 0 < n) (sym same) h

spare_kept : (m : MachineData) (op : OpKind) (finish : ℕ) (xs : List Content) (old : List Cell) (i : ℕ) → option_map (λ (c : Cell). c.log.spare) (slice_get (adjust_all m (touches op) (map (λ (r : Res). free_from finish) (touches op)) (adjust_all m (touches op) (map holding xs) old)) i) ≡ option_map (λ (c : Cell). c.log.spare) (slice_get old i)
spare_kept m op finish xs old i =
    all_keep (λ c. c.log.spare) m (touches op) (map (λ (r : Res). free_from finish) (touches op)) (adjust_all m (touches op) (map holding xs) old) i (free_keeps (λ c. c.log.spare) finish (λ c. refl) (touches op))
    ∙ all_keep (λ c. c.log.spare) m (touches op) (map holding xs) old i (holding_keeps (λ c. c.log.spare) (λ x c. refl) xs)

same_own : (r : Res) → same_res r r ≡ true
same_own r = grind (arith, nat_tests)

-- the first still has room
pub first-room : (m : MachineData) (op : OpKind) (finish : ℕ) (xs : List Content) (old : List Cell) → MayRun m op old → HasFirstRoom m (touches op) (adjust_all m (touches op) (map (λ (r : Res). free_from finish) (touches op)) (adjust_all m (touches op) (map holding xs) old))
first-room m op finish xs old may =
    go (touches op) (λ r is. may_have r is (slice_get old (index_of m r)) refl) (λ i. spare_kept m op finish xs old i)
  where
    may_have : (r : Res) → is_first op r ≡ true → (o : Option Cell) → slice_get old (index_of m r) ≡ o → HasRoom o
    may_have r is None at = tt
    may_have r is (Some c) at = may.room r c is at

    go : (rs : List Res) → ((r : Res) → is_head rs r ≡ true → HasRoom (slice_get old (index_of m r)))
        → ((i : ℕ) → option_map (λ (c : Cell). c.log.spare) (slice_get (adjust_all m (touches op) (map (λ (r : Res). free_from finish) (touches op)) (adjust_all m (touches op) (map holding xs) old)) i) ≡ option_map (λ (c : Cell). c.log.spare) (slice_get old i))
        → HasFirstRoom m rs (adjust_all m (touches op) (map (λ (r : Res). free_from finish) (touches op)) (adjust_all m (touches op) (map holding xs) old))
    go [] room kept = tt
    go (r ∷ rs) room kept = has_room_kept (slice_get (adjust_all m (touches op) (map (λ (r : Res). free_from finish) (touches op)) (adjust_all m (touches op) (map holding xs) old)) (index_of m r)) (slice_get old (index_of m r)) (kept (index_of m r)) (room r (same_own r))

-- rooms stay: the entry takes what room it needs
noted_room : (done : Done) (o : Option Cell) → HasRoom o → option_map room_of (option_map (noted done) o) ≡ option_map room_of o
noted_room done None room = refl
noted_room done (Some c) room = ap Some (let more : 0 < c.log.spare = room in omega (arith, length-append c.log.entries (done ∷ []), more))

first_keeps : (done : Done) (m : MachineData) (rs : List Res) (cells : List Cell) (j : ℕ) → HasFirstRoom m rs cells → option_map room_of (slice_get (adjust_all m rs (noted done ∷ []) cells) j) ≡ option_map room_of (slice_get cells j)
first_keeps done m [] cells j room = refl
first_keeps done m (r ∷ []) cells j room = adjust_keeps room_of (noted done) cells (index_of m r) j (noted_room done (slice_get cells (index_of m r)) room)
first_keeps done m (r ∷ q ∷ rs) cells j room = adjust_keeps room_of (noted done) cells (index_of m r) j (noted_room done (slice_get cells (index_of m r)) room)

reads_run : (m : MachineData) (k : ℕ) (op : OpKind) (old : List Cell) (ds : List CellData) → MayRun m op old → map (read_at m old) (touches op) ≡ map Some ds
    → map (read_at m (run_changed m op (done_on m k op ds) old)) (touches op) ≡ map Some (acted_on m k op ds)
reads_run m k op old ds may reads =
    let done : Done = done_on m k op ds in
    let xs : List Content = acted m op (map (content_at m old) (touches op)) in
    let up : AreInTurn m (touches op) = in_turn m op old may in
    let held : map (read_at m (adjust_all m (touches op) (map holding xs) old)) (touches op) ≡ map Some (applied (map data_holding xs) ds) =
    reads_adjusted m (touches op) (map holding xs) (map data_holding xs) old ds up (alike_holding xs) reads in
    let free = reads_adjusted m (touches op) (map (λ (r : Res). free_from done.finish) (touches op)) (map (λ (r : Res). data_free done.finish) (touches op)) (adjust_all m (touches op) (map holding xs) old) (applied (map data_holding xs) ds) up (alike_free done.finish (touches op)) held in
    let noted_ = reads_adjusted m (touches op) (noted done ∷ []) (data_noted done ∷ [])
    (adjust_all m (touches op) (map (λ (r : Res). free_from done.finish) (touches op)) (adjust_all m (touches op) (map holding xs) old))
    (applied (map (λ (r : Res). data_free done.finish) (touches op)) (applied (map data_holding xs) ds)) up ((λ c. refl), tt) free in
    let contents : xs ≡ acted m op (map (λ (d : CellData). d.content) ds) = ap (acted m op) (reads_contents m old (touches op) ds reads) in
    let long : length (touches op) ≡ length ds = reads_long m old (touches op) ds reads in
    let acted_as_long : length xs ≡ length ds = acted_long m op (map (content_at m old) (touches op)) (mapped_long (content_at m old) (touches op)) ∙ long in
    noted_ ∙ ap (map Some) (noted_head done (applied (map (λ (r : Res). data_free done.finish) (touches op)) (applied (map data_holding xs) ds))
    ∙ ap (noted_at done) (freed_contents done.finish (touches op) xs ds acted_as_long long ∙ ap (λ (ys : List Content). with_contents_at done.finish ys ds) contents))

others_run : (m : MachineData) (op : OpKind) (done : Done) (old : List Cell) (i : ℕ) → AllByRecursion (λ q. i ≢ index_of m q) (touches op) → slice_get (run_changed m op done old) i ≡ slice_get old i
others_run m op done old i apart =
    let xs : List Content = acted m op (map (content_at m old) (touches op)) in
    all_other m (touches op) (noted done ∷ []) (adjust_all m (touches op) (map (λ (r : Res). free_from done.finish) (touches op)) (adjust_all m (touches op) (map holding xs) old)) i apart
    ∙ all_other m (touches op) (map (λ (r : Res). free_from done.finish) (touches op)) (adjust_all m (touches op) (map holding xs) old) i apart
    ∙ all_other m (touches op) (map holding xs) old i apart

rooms_run : (m : MachineData) (op : OpKind) (done : Done) (old : List Cell) (i : ℕ) → MayRun m op old → option_map room_of (slice_get (run_changed m op done old) i) ≡ option_map room_of (slice_get old i)
rooms_run m op done old i may =
    let xs : List Content = acted m op (map (content_at m old) (touches op)) in
    first_keeps done m (touches op) (adjust_all m (touches op) (map (λ (r : Res). free_from done.finish) (touches op)) (adjust_all m (touches op) (map holding xs) old)) i (first-room m op done.finish xs old may)
    ∙ all_keep room_of m (touches op) (map (λ (r : Res). free_from done.finish) (touches op)) (adjust_all m (touches op) (map holding xs) old) i (free_keeps room_of done.finish (λ c. refl) (touches op))
    ∙ all_keep room_of m (touches op) (map holding xs) old i (holding_keeps room_of (λ x c. refl) xs)

long_run : (m : MachineData) (op : OpKind) (done : Done) (old : List Cell) → length (run_changed m op done old) ≡ length old
long_run m op done old =
    let xs : List Content = acted m op (map (content_at m old) (touches op)) in
    all_long m (touches op) (noted done ∷ []) (adjust_all m (touches op) (map (λ (r : Res). free_from done.finish) (touches op)) (adjust_all m (touches op) (map holding xs) old))
    ∙ all_long m (touches op) (map (λ (r : Res). free_from done.finish) (touches op)) (adjust_all m (touches op) (map holding xs) old) ∙ all_long m (touches op) (map holding xs) old

changed_run : (m : MachineData) (bits k : ℕ) (op : OpKind) (done : Done) (old : List Cell) → MayRun m op old → ((ds : List CellData) → map (read_at m old) (touches op) ≡ map Some ds → done ≡ done_on m k op ds) → Ran m bits k op old (run_changed m op done old)
changed_run m bits k op done old may is = record {
  long = long_run m op done old;
  touched = λ ds reads. ap (λ (d : Done). map (read_at m (run_changed m op d old)) (touches op)) (is ds reads) ∙ reads_run m k op old ds may reads;
  others = λ r at out. others_run m op done old (index_of m r) (stands_apart m may.legal.0 bits r (touches op) at (touched-there m may.legal.0 op (map (λ d. d.content) may.found) may.legal.1) out);
  room = λ i. rooms_run m op done old i may;
}

pub ran : (m : MachineData) (k : ℕ) (op : OpKind) (old mid free new : List Cell) (start time : ℕ) → MayRun m op old → start ≡ greatest (map (clock_at m old) (touches op)) → time ≡ duration m op
    → mid ≡ adjust_all m (touches op) (map holding (acted m op (map (content_at m old) (touches op)))) old → free ≡ adjust_all m (touches op) (map (λ (r : Res). free_from (start + time)) (touches op)) mid
    → new ≡ adjust_all m (touches op) (noted (record { op = k; start = start; finish = start + time }) ∷ []) free → (bits : ℕ) → Ran m bits k op old new
ran m k op old mid free new start time may begins lasts did freed noted_ bits =
    let done : Done = record { op = k; start = start; finish = start + time } in
    let all : new ≡ run_changed m op done old =
    noted_ ∙ ap (adjust_all m (touches op) (noted done ∷ [])) (freed ∙ ap (adjust_all m (touches op) (map (λ (r : Res). free_from (start + time)) (touches op))) did) in
    subst (Ran m bits k op old) (sym all) (changed_run m bits k op done old may (λ ds reads. ap₂ (λ (s t : ℕ). record { op = k; start = s; finish = s + t }) (begins ∙ ap greatest (reads_clocks m old (touches op) ds reads)) lasts))

pub within-after : (m : MachineData) (op : OpKind) (fs : List (Cell → Cell)) (old new : List Cell) → new ≡ adjust_all m (touches op) fs old → AreWithin m (length old) (touches op) → AreWithin m (length new) (touches op)
within-after m op fs old new is all = subst (λ (n : ℕ). AreWithin m n (touches op)) (sym (ap (λ (cs : List Cell). length cs) is ∙ all_long m (touches op) fs old)) all

-- the same over the list that code has read
pub free-read : (m : MachineData) (op : OpKind) (ts : List Res) (mid free : List Cell) (finish : ℕ) → ts ≡ touches op → free ≡ adjust_all m ts (map (λ (r : Res). free_from finish) ts) mid
    → free ≡ adjust_all m (touches op) (map (λ (r : Res). free_from finish) (touches op)) mid
free-read m op ts mid free finish same is = is ∙ ap (λ (rs : List Res). adjust_all m rs (map (λ (r : Res). free_from finish) rs) mid) same

pub room-read : (m : MachineData) (op : OpKind) (ts : List Res) (old mid free : List Cell) (finish : ℕ) → ts ≡ touches op → MayRun m op old → mid ≡ adjust_all m (touches op) (map holding (acted m op (map (content_at m old) (touches op)))) old
    → free ≡ adjust_all m (touches op) (map (λ (r : Res). free_from finish) (touches op)) mid → HasFirstRoom m ts free
room-read m op ts old mid free finish same may did freed =
    let all = freed ∙ ap (adjust_all m (touches op) (map (λ (r : Res). free_from finish) (touches op))) did in
    subst (λ (rs : List Res). HasFirstRoom m rs free) (sym same) (subst (HasFirstRoom m (touches op)) (sym all) (first-room m op finish (acted m op (map (content_at m old) (touches op))) old may))

-- the same, where the list is written back into what held it
pub ran-kept : (m : MachineData) (k : ℕ) (op : OpKind) (old slice new rest : List Cell) (n : ℕ) → slice ≡ old → length slice ≡ n → ((bits : ℕ) → Ran m bits k op slice new) → (bits : ℕ) → Ran m bits k op old (take n (new ++ rest))
ran-kept m k op old slice new rest n same long is bits =
    let whole : take n (new ++ rest) ≡ new = ap (λ (i : ℕ). take i (new ++ rest)) (sym long ∙ sym (is 0).long) ∙ take-append_seam new rest in
    subst (λ (cs : List Cell). Ran m bits k op cs (take n (new ++ rest))) same (subst (Ran m bits k op slice) (sym whole) (is bits))
