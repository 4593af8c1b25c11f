-- Cells that show a cold state, and an operation done on them.
use Rattle.std.proofs.Common.{arith, ◌≡◌, ℕ, ◌<◌, ◌^◌, inl, inr, List, [], ◌∷◌, map, length, get_or, refl, sym, ◌∙◌, ap, ap₂, subst, Option, Some, None, slice_get}
use Rattle.std.specs.List.{AllByRecursion}
use Rattle.std.proofs.lemmas.Bool.{cases_Bool}
use Rattle.std.proofs.lemmas.Option.{same_Some, slice_get-get_or, slice_get_within}
use Rattle.qccd_base.specs.declared.names.Res.{Res}
use Rattle.qccd_base.specs.declared.names.Res.TheVariants as res
use Rattle.qccd_base.specs.Resource.{among}
use Rattle.qccd_machine.specs.Machine.{MachineData}
use Rattle.op_table.specs.declared.kinds.OpKind.{OpKind}
use Rattle.op_table.specs.declared.contents.Content.{Content}
use Rattle.op_table.specs.declared.contents.Content.TheVariants as holds
use Rattle.op_table.specs.Act.{acted, why_on}
use Rattle.op_table.specs.Contents.{content, heat_held}
use Rattle.op_table.specs.Op.{IsOp}
use Rattle.op_table.specs.State.{State, IsSafe}
use Rattle.op_table.specs.Step.{why, effect}
use Rattle.op_table.specs.Touch.{touches}
use Rattle.op_table.proofs.Every.{why-on, content-touched, content-untouched}
use Rattle.op_table.proofs.Neighbours.{map_at, bits_kept}
use Rattle.op_cells.specs.declared.cells.Cell.{Cell}
use Rattle.op_cells.specs.Cold.{cooled, MayRunCold, RanCold}
use Rattle.op_cells.specs.Kinds.{place_of}
use Rattle.op_cells.specs.Numbering.{count_of, index_of, IsThere}
use Rattle.op_cells.specs.Places.{content_at, content_or, AreWithin}
use Rattle.op_cells.specs.Shows.{Shows}
use Rattle.op_cells.proofs.InOrder.{in-order}
use Rattle.op_cells.proofs.InTurn.{touched-there}
use Rattle.op_cells.proofs.Legalities.{shown}
use Rattle.op_plan.specs.Cold.{cold}
use Rattle.op_plan.proofs.Cold.{content_cold, why_cooled, acted_cooled, safe_cold}

map_cold : (s : State) (rs : List Res) → map (content (cold s)) rs ≡ map cooled (map (content s) rs)
map_cold s [] = refl
map_cold s (r ∷ rs) = ap₂ (λ (x : Content) (xs : List Content). x ∷ xs) (content_cold s r) (map_cold s rs)

pub why_cold : (m : MachineData) (s : State) (op : OpKind) → IsSafe m s → IsOp op → why m (cold s) op ≡ why m s op
why_cold m s op safe kept =
    sym (why-on m (cold s) op (safe_cold m s safe) kept) ∙ ap (why_on m s.bits op) (map_cold s (touches op)) ∙ why_cooled m s.bits op (map (content s) (touches op)) ∙ why-on m s op safe kept

pub index_below : (m : MachineData) (n : ℕ) (r : Res) → IsThere m n r → index_of m r < count_of m n
index_below m n (res.Trap t) h = omega (arith, h)
index_below m n (res.Seg g) h = omega (arith, h)
index_below m n (res.Junc j) h = omega (arith, h)
index_below m n (res.Bit b) h = omega (arith, h)

pub all_there : (m : MachineData) (s : State) (op : OpKind) → IsSafe m s → IsOp op → why m s op ≡ None → AllByRecursion (IsThere m s.bits) (touches op)
all_there m s op safe kept legal = touched-there m s.bits op (map (content s) (touches op)) (why-on m s op safe kept ∙ legal)

-- what is read at the place of a resource
pub within_at : (m : MachineData) (s : State) (cells : List Cell) (r : Res) → Shows m s cells → IsThere m s.bits r → place_of cells r < length cells
within_at m s cells r shows there =
    subst (λ (i : ℕ). i < length cells) (sym (in-order m s cells r shows)) (subst (λ (n : ℕ). index_of m r < n) (sym shows.long) (index_below m s.bits r there))

pub held_at : (m : MachineData) (s : State) (cells : List Cell) (r : Res) (c : Cell) → Shows m s cells → IsThere m s.bits r → slice_get cells (place_of cells r) ≡ Some c → c.content ≡ content s r
held_at m s cells r c shows there at =
    let here = shows.each r there in
    ap (λ (d : Cell). d.content) (same_Some c here.0 (sym at ∙ ap (slice_get cells) (in-order m s cells r shows) ∙ here.1)) ∙ here.2

heat_cooled : (x : Content) → heat_held (cooled x) ≡ 0
heat_cooled (holds.Trap chain heat) = refl
heat_cooled (holds.Seg None) = refl
heat_cooled (holds.Seg (Some r)) = refl
heat_cooled (holds.Junc None) = refl
heat_cooled (holds.Junc (Some c)) = refl
heat_cooled holds.Bit = refl

all_within : (m : MachineData) (n k : ℕ) (rs : List Res) → k ≡ count_of m n → AllByRecursion (IsThere m n) rs → AreWithin m k rs
all_within m n k [] long there = tt
all_within m n k (r ∷ rs) long there = (subst (λ (i : ℕ). index_of m r < i) (sym long) (index_below m n r there.0), all_within m n k rs long there.1)

all_cold : (m : MachineData) (s : State) (cells : List Cell) (rs : List Res) → Shows m (cold s) cells → AllByRecursion (IsThere m s.bits) rs → AllByRecursion (λ r. heat_held (content_at m cells r) < 2 ^ 62) rs
all_cold m s cells [] shows there = tt
all_cold m s cells (r ∷ rs) shows there =
    let here = shows.each r there.0 in
    let none : heat_held (content_at m cells r) ≡ 0 = ap (λ (o : Option Cell). heat_held (content_or o)) here.1 ∙ ap heat_held (here.2 ∙ content_cold s r) ∙ heat_cooled (content s r) in
    (omega (arith, none), all_cold m s cells rs shows there.1)

-- a legal operation may be done on what the cells hold
pub may_run : (m : MachineData) (s : State) (op : OpKind) (cells : List Cell) → IsSafe m s → IsOp op → why m s op ≡ None → Shows m (cold s) cells → MayRunCold m op cells
may_run m s op cells safe kept legal shows =
    let there = all_there m s op safe kept legal in
    record {
      within = all_within m s.bits (length cells) (touches op) shows.long there;
      legal = (
        s.bits,
        ap (why_on m s.bits op) (shown m (cold s) cells (touches op) shows there ∙ map_cold s (touches op)) ∙ why_cooled m s.bits op (map (content s) (touches op)) ∙ why-on m s op safe kept ∙ legal,
      );
      heats = all_cold m s cells (touches op) shows there;
    }

-- and they then show what it leaves
pub shows_next : (m : MachineData) (s : State) (op : OpKind) (old new : List Cell) → IsSafe m s → IsOp op → why m s op ≡ None → Shows m (cold s) old → ((bits : ℕ) → RanCold m bits op old new)
    → Shows m (cold (effect m s op)) new
shows_next m s op old new safe kept legal shows ran = record {
  long = (ran 0).long ∙ shows.long ∙ ap (count_of m) (sym (bits_kept m s op));
  each = λ r there. each r (subst (λ (n : ℕ). IsThere m n r) (bits_kept m s op) there);
}
  where
    all : map (content_at m new) (touches op) ≡ map (content (cold (effect m s op))) (touches op)
    all =
        let there = all_there m s op safe kept legal in
        (ran 0).touched ∙ ap (λ (cs : List Content). map cooled (acted m op cs)) (shown m (cold s) old (touches op) shows there ∙ map_cold s (touches op)) ∙ acted_cooled m op (map (content s) (touches op))
        ∙ ap (map cooled) (sym (content-touched m s op safe kept legal)) ∙ sym (map_cold (effect m s op) (touches op))

    each : (r : Res) → IsThere m s.bits r → (c : Cell) × (slice_get new (index_of m r) ≡ Some c) × (c.content ≡ content (cold (effect m s op)) r)
    each r there =
        let here = shows.each r there in
        elim (cases_Bool (among (touches op) r)) [
          | inl at ↦
              let within : index_of m r < length new = subst (λ (n : ℕ). index_of m r < n) (sym (ran 0).long) (slice_get_within old (index_of m r) here.0 here.1) in
              let is : slice_get new (index_of m r) ≡ Some (get_or new (index_of m r) here.0) = slice_get-get_or new (index_of m r) here.0 within in
              (get_or new (index_of m r) here.0, is, sym (ap content_or is) ∙ map_at (touches op) (content_at m new) (content (cold (effect m s op))) r all at)
          | inr out ↦
              (here.0, (ran s.bits).others r there out ∙ here.1, here.2 ∙ content_cold s r ∙ ap cooled (sym (content-untouched m s op r out)) ∙ sym (content_cold (effect m s op) r))
        ]
