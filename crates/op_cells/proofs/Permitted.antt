-- What the test of whether an operation may be run tells.
use Rattle.std.proofs.Common.{◌≡◌, ℕ, ◌+◌, ◌<◌, ◌^◌, Bool, true, false, ◌&&◌, nat_lt, List, [], ◌∷◌, map, length, refl, sym, ◌∙◌, ap, ap₂, subst, arith, Option, Some, None, option_map, slice_get, All, IsTrue}
use Rattle.std.specs.List.{AllByRecursion, list_all}
use Rattle.std.proofs.lemmas.List.Elements.{All-from_recursion}
use Rattle.std.proofs.lemmas.Bool.{and_parts, false≢true, ltb-true}
use Rattle.qccd_base.specs.declared.names.Res.{Res}
use Rattle.qccd_machine.specs.Machine.{MachineData}
use Rattle.op_table.specs.declared.kinds.OpKind.{OpKind}
use Rattle.op_table.specs.declared.contents.Content.{Content}
use Rattle.op_table.specs.declared.contents.Content.TheVariants as holds
use Rattle.op_table.specs.Act.{why_on}
use Rattle.op_table.specs.Contents.{heat_held}
use Rattle.op_table.specs.Touch.{touches, is_head}
use Rattle.op_table.proofs.Neighbours.{same_res_is}
use Rattle.op_cells.specs.declared.cells.Cell.{Cell}
use Rattle.op_cells.specs.Acted.{CellData, data_of}
use Rattle.op_cells.specs.Numbering.{index_of}
use Rattle.op_cells.specs.OneRun.{read_at, MayRun}
use Rattle.op_cells.specs.Places.{clock_at, content_at, content_or, clock_or, HasRoom, HasFirstRoom}
use Rattle.op_cells.specs.Settled.{IsLegalOn}

-- what is read where a cell is, and something where none is
abbrev data_or : Option Cell → CellData
data_or None = record { content = holds.Bit; clock = 0; log = [] }
data_or (Some c) = data_of c

abbrev data_at : MachineData → List Cell → Res → CellData
data_at m cells r = data_or (slice_get cells (index_of m r))

read_there : (cells : List Cell) (i : ℕ) → i < length cells → option_map data_of (slice_get cells i) ≡ Some (data_or (slice_get cells i))
read_there [] i less = absurd (omega arith)
read_there (c ∷ cells) Rattle.std.proofs.Common.zero less = refl
read_there (c ∷ cells) (Rattle.std.proofs.Common.suc i) less = read_there cells i (omega arith)

reads : (m : MachineData) (cells : List Cell) (rs : List Res) → list_all (λ r. nat_lt (index_of m r) (length cells)) rs ≡ true → map (read_at m cells) rs ≡ map Some (map (data_at m cells) rs)
reads m cells [] h = refl
reads m cells (r ∷ rs) h =
    let parts = and_parts (nat_lt (index_of m r) (length cells)) (list_all (λ r. nat_lt (index_of m r) (length cells)) rs) h in
    ap₂ (λ (x : Option CellData) (xs : List (Option CellData)). x ∷ xs) (read_there cells (index_of m r) (ltb-true (index_of m r) (length cells) parts.0)) (reads m cells rs parts.1)

same_content : (o : Option Cell) → (data_or o).content ≡ content_or o
same_content None = refl
same_content (Some c) = refl

same_clock : (o : Option Cell) → (data_or o).clock ≡ clock_or o
same_clock None = refl
same_clock (Some c) = refl

contents : (m : MachineData) (cells : List Cell) (rs : List Res) → map (λ (d : CellData). d.content) (map (data_at m cells) rs) ≡ map (content_at m cells) rs
contents m cells [] = refl
contents m cells (r ∷ rs) = ap₂ (λ (x : Content) (xs : List Content). x ∷ xs) (same_content (slice_get cells (index_of m r))) (contents m cells rs)

abbrev bounded : MachineData → List Cell → Res → Bool
bounded m cells r = nat_lt (clock_at m cells r) 4611686018427387904 && nat_lt (heat_held (content_at m cells r)) 4611686018427387904

clocks : (m : MachineData) (cells : List Cell) (rs : List Res) → list_all (bounded m cells) rs ≡ true → AllByRecursion (λ (d : CellData). d.clock < 2 ^ 62) (map (data_at m cells) rs)
clocks m cells [] h = tt
clocks m cells (r ∷ rs) h =
    let parts = and_parts (bounded m cells r) (list_all (bounded m cells) rs) h in
    let own = and_parts (nat_lt (clock_at m cells r) 4611686018427387904) (nat_lt (heat_held (content_at m cells r)) 4611686018427387904) parts.0 in
    (subst (λ (n : ℕ). n < 2 ^ 62) (sym (same_clock (slice_get cells (index_of m r)))) (ltb-true (clock_at m cells r) 4611686018427387904 own.0), clocks m cells rs parts.1)

heats : (m : MachineData) (cells : List Cell) (rs : List Res) → list_all (bounded m cells) rs ≡ true → AllByRecursion (λ (d : CellData). heat_held d.content < 2 ^ 62) (map (data_at m cells) rs)
heats m cells [] h = tt
heats m cells (r ∷ rs) h =
    let parts = and_parts (bounded m cells r) (list_all (bounded m cells) rs) h in
    let own = and_parts (nat_lt (clock_at m cells r) 4611686018427387904) (nat_lt (heat_held (content_at m cells r)) 4611686018427387904) parts.0 in
    (subst (λ (x : Content). heat_held x < 2 ^ 62) (sym (same_content (slice_get cells (index_of m r)))) (ltb-true (heat_held (content_at m cells r)) 4611686018427387904 own.1), heats m cells rs parts.1)

room : (m : MachineData) (cells : List Cell) (rs : List Res) → HasFirstRoom m rs cells → (r : Res) (c : Cell) → is_head rs r ≡ true → slice_get cells (index_of m r) ≡ Some c → 0 < c.log.spare
room m cells [] has r c first there = absurd (false≢true first)
room m cells (q ∷ rs) has r c first there = subst HasRoom (ap (λ (x : Res). slice_get cells (index_of m x)) (same_res_is q r first) ∙ there) has

pub permitted : (m : MachineData) (op : OpKind) (cells slice : List Cell) (ts : List Res) → slice ≡ cells → ts ≡ touches op → list_all (λ r. nat_lt (index_of m r) (length slice)) ts ≡ true
    → IsLegalOn m op (map (content_at m slice) (touches op)) → list_all (bounded m slice) ts ≡ true → HasFirstRoom m ts slice → MayRun m op cells
permitted m op cells slice ts same touched within legal bounds has =
    subst (MayRun m op) same (record {
      found = map (data_at m slice) (touches op);
      reads = reads m slice (touches op) (subst (λ (rs : List Res). list_all (λ r. nat_lt (index_of m r) (length slice)) rs ≡ true) touched within);
      legal = (legal.0, ap (why_on m legal.0 op) (contents m slice (touches op)) ∙ legal.1);
      clocks = All-from_recursion (λ (d : CellData). d.clock < 2 ^ 62) (map (data_at m slice) (touches op)) (clocks m slice (touches op) (subst (λ (rs : List Res). list_all (bounded m slice) rs ≡ true) touched bounds));
      heats = All-from_recursion (λ (d : CellData). heat_held d.content < 2 ^ 62) (map (data_at m slice) (touches op)) (heats m slice (touches op) (subst (λ (rs : List Res). list_all (bounded m slice) rs ≡ true) touched bounds));
      room = λ r c first there. room m slice (touches op) (subst (λ (rs : List Res). HasFirstRoom m rs slice) touched has) r c first there;
    })
