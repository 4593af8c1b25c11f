-- The cells that a claim got may be applied to, and then they are those to hand back.
use Rattle.std.proofs.Common.{◌≡◌, ℕ, zero, suc, ◌+◌, ◌<◌, ◌≤◌, ◌^◌, true, List, [], ◌∷◌, length, map, take, get_or, refl, sym, ◌∙◌, ap, subst, arith, Option, Some, None}
use Rattle.std.specs.List.{AllByRecursion}
use Rattle.std.specs.Prelude.{slice_get}
use Rattle.std.proofs.lemmas.List.{with_items_is}
use Rattle.std.proofs.lemmas.List.Elements.{All-from_recursion, recursion_from_All}
use Rattle.std.proofs.lemmas.Option.{slice_get-get_or}
use Rattle.qccd_base.specs.declared.names.Res.{Res}
use Rattle.qccd_machine.specs.Machine.{IsValid, MachineData}
use Rattle.op_table.specs.declared.kinds.OpKind.{OpKind}
use Rattle.op_table.specs.declared.contents.Content.{Content}
use Rattle.op_table.specs.Act.{why_on}
use Rattle.op_table.specs.Contents.{heat_held}
use Rattle.op_table.specs.Touch.{touches, nth, is_first, is_head}
use Rattle.op_cells.specs.Acted.{CellData, acted_on, data_of, room_of}
use Rattle.op_cells.specs.Settled.{contents_of}
use Rattle.op_cells.specs.declared.cells.Held.{Held}
use Rattle.qccd_program.specs.CellOfRun.{IsCell, cell_at, firsts}
use Rattle.qccd_program.specs.Legal.{IsLegalProgram}
use Rattle.qccd_program.specs.MeetsCells.{MeetsCells, own_cells}
use Rattle.qccd_program.specs.Program.{ProgramData}
use Rattle.qccd_program.proofs.MeetsCells.{meets-cells}
use Rattle.claim_core.specs.Event.{touched}
use Rattle.claim_core.proofs.Legally.{touched_at}
use Rattle.qccd_base.proofs.Resources.{same_res-own}
use Rattle.claim_board.specs.declared.pass.Pass.{Pass}
use Rattle.claim_board.specs.Applied.{Applied, MayApply}
use Rattle.claim_board.specs.Deck.{HoldsNext, cells_of, view_of}
use Rattle.claim_board.specs.Lent.{with_cells}
use Rattle.claim_board.specs.Pass.{AreCells, next_turn}
use Rattle.claim_board.proofs.Handing.{map-long}

data_is : (p : ProgramData) (r : Res) (n : ℕ) (h : Held) → IsCell p r n h.cell → data_of h.cell ≡ cell_at p r n
data_is p r n h is = λ i. record { content = is.content i; clock = is.clock i; log = is.log i }

-- what holds of each cell, where each is that of its resource at its turn
abbrev Each : ProgramData → (Res → ℕ) → List Held → Type 0
Each p turn held = AllByRecursion (λ h. IsCell p h.res (turn h.res) h.cell) held

datas : (p : ProgramData) (turn : Res → ℕ) (held : List Held) → Each p turn held → map (λ h. data_of h.cell) held ≡ map (λ r. cell_at p r (turn r)) (map (λ h. h.res) held)
datas p turn [] all = refl
datas p turn (h ∷ held) all = λ i. data_is p h.res (turn h.res) h all.0 i ∷ datas p turn held all.1 i

contents : (held : List Held) → contents_of held ≡ map (λ d. d.content) (map (λ h. data_of h.cell) held)
contents [] = refl
contents (h ∷ held) = ap (λ (cs : List Content). h.cell.content ∷ cs) (contents held)

each_so : (P : Held → Type 0) (p : ProgramData) (turn : Res → ℕ) (held : List Held) → ((h : Held) → IsCell p h.res (turn h.res) h.cell → P h) → Each p turn held → AllByRecursion P held
each_so P p turn [] so all = tt
each_so P p turn (h ∷ held) so all = (so h all.0, each_so P p turn held so all.1)

-- the first log has room
first_room : (p : ProgramData) (k : ℕ) (op : OpKind) (held : List Held) → MeetsCells p k op → map (λ h. h.res) held ≡ touches op → Each p (nth p.ops k) held → AllByRecursion (λ h. 0 < h.cell.log.spare) (take 1 held)
first_room p k op [] met names all = tt
first_room p k op (h ∷ held) met names all =
    let first : is_first op h.res ≡ true = ap (λ (rs : List Res). is_head rs h.res) (sym names) ∙ same_res-own h.res in
    let long = ap (λ (log : List _). length log) all.0.log in
    (omega (arith, met.room h.res first, all.0.room, long), tt)

pub may-apply : (p : ProgramData) (k : ℕ) (op : OpKind) (held : List Held) → IsValid p.machine → IsLegalProgram p → slice_get p.ops k ≡ Some op → AreCells p (nth p.ops k) (touched p.ops k) held → MayApply p.machine op held
may-apply p k op held valid legal is are =
    let met = meets-cells p k op valid legal is in
    let all : Each p (nth p.ops k) held = recursion_from_All (λ (h : Held). IsCell p h.res (nth p.ops k h.res) h.cell) held are.cells in
    let names : map (λ (h : Held). h.res) held ≡ touches op = are.names ∙ touched_at p.ops k op is in
    let own : map (λ (h : Held). data_of h.cell) held ≡ own_cells p k op = datas p (nth p.ops k) held all ∙ ap (map (λ (r : Res). cell_at p r (nth p.ops k r))) names in
    record {
      names = names;
      legal = (p.bits, ap (why_on p.machine p.bits op) (contents held ∙ ap (map (λ (d : CellData). d.content)) own) ∙ met.legal);
      clocks = All-from_recursion (λ (h : Held). h.cell.free_at < 2 ^ 62) held (each_so (λ (h : Held). h.cell.free_at < 2 ^ 62) p (nth p.ops k) held (λ h c. subst (λ (n : ℕ). n < 2 ^ 62) (sym c.clock) (met.clocks h.res)) all);
      heats =
          All-from_recursion (λ (h : Held). heat_held h.cell.content < 2 ^ 62) held
          (each_so (λ (h : Held). heat_held h.cell.content < 2 ^ 62) p (nth p.ops k) held (λ h c. subst (λ (x : Content). heat_held x < 2 ^ 62) (sym c.content) (met.heats h.res)) all);
      room = All-from_recursion (λ (h : Held). 0 < h.cell.log.spare) (take 1 held) (first_room p k op held met names all);
    }

-- cells by their names, their data and their rooms
head_of : {A : Type 0} (d x : A) (xs ys : List A) → x ∷ xs ≡ ys → x ≡ get_or ys 0 d
head_of d x xs ys same = ap (λ (zs : List _). get_or zs 0 d) same

rebuilt : (p : ProgramData) (turn before : Res → ℕ) (old new : List Held) → map (λ h. h.res) new ≡ map (λ h. h.res) old → map (λ h. room_of h.cell) new ≡ map (λ h. room_of h.cell) old
    → map (λ h. data_of h.cell) new ≡ map (λ r. cell_at p r (turn r)) (map (λ h. h.res) old) → Each p before old → Each p turn new
rebuilt p turn before old [] names rooms datas all = tt
rebuilt p turn before [] (n ∷ new) names rooms datas all = absurd (no_list (length (map (λ (h : Held). h.res) new)) (ap (λ (rs : List Res). length rs) names))
  where
    no_list : (m : ℕ) → suc m ≡ zero → ⊥
    no_list m h = omega arith
rebuilt p turn before (o ∷ old) (n ∷ new) names rooms datas all =
    let res_is : n.res ≡ o.res = ap (λ (rs : List Res). get_or rs 0 n.res) names in
    let room_is : room_of n.cell ≡ room_of o.cell = ap (λ (ms : List ℕ). get_or ms 0 (room_of n.cell)) rooms in
    let one : data_of n.cell ≡ cell_at p o.res (turn o.res) = ap (λ (ds : List CellData). get_or ds 0 (data_of n.cell)) datas in
    let at : data_of n.cell ≡ cell_at p n.res (turn n.res) = one ∙ ap (λ (r : Res). cell_at p r (turn r)) (sym res_is) in (
      record {
        content = ap (λ (d : CellData). d.content) at;
        clock = ap (λ (d : CellData). d.clock) at;
        log = ap (λ (d : CellData). d.log) at;
        room = omega (arith, all.0.room, room_is, ap (firsts p.ops) res_is);
      },
      rebuilt p turn before old new (ap (Rattle.std.proofs.Common.drop 1) names) (ap (Rattle.std.proofs.Common.drop 1) rooms) (ap (Rattle.std.proofs.Common.drop 1) datas) all.1,
    )

pub applied-next : (p : ProgramData) (k : ℕ) (op : OpKind) (old new : List Held) → IsValid p.machine → IsLegalProgram p → slice_get p.ops k ≡ Some op → AreCells p (nth p.ops k) (touched p.ops k) old → Applied p.machine k op old new → AreCells p (next_turn p k) (touched p.ops k) new
applied-next p k op old new valid legal is are did =
    let met = meets-cells p k op valid legal is in
    let all : Each p (nth p.ops k) old = recursion_from_All (λ (h : Held). IsCell p h.res (nth p.ops k h.res) h.cell) old are.cells in
    let names : map (λ (h : Held). h.res) old ≡ touches op = are.names ∙ touched_at p.ops k op is in
    let own : map (λ (h : Held). data_of h.cell) old ≡ own_cells p k op = datas p (nth p.ops k) old all ∙ ap (map (λ (r : Res). cell_at p r (nth p.ops k r))) names in
    let next : map (λ (h : Held). data_of h.cell) new ≡ map (λ (r : Res). cell_at p r (next_turn p k r)) (map (λ (h : Held). h.res) old) =
    did.cells ∙ ap (acted_on p.machine k op) own ∙ sym met.leaves ∙ ap (map (λ (r : Res). cell_at p r (next_turn p k r))) (sym names) in
    record {
      names = did.names ∙ are.names;
      cells = All-from_recursion (λ (h : Held). IsCell p h.res (next_turn p k h.res) h.cell) new (rebuilt p (next_turn p k) (nth p.ops k) old new did.names did.room next all);
    }

-- the same for a machine and operations that were read off the program, and cells that were read off the pass
got_cells : (p q : ProgramData) (k : ℕ) (got held : List Held) → q ≡ p → held ≡ got → AreCells q (nth q.ops k) (touched q.ops k) got → AreCells p (nth p.ops k) (touched p.ops k) held
got_cells p q k got held same is are =
    subst (AreCells p (nth p.ops k) (touched p.ops k)) (sym is) (subst (λ (x : ProgramData). AreCells x (nth x.ops k) (touched x.ops k) got) same are)

read_op : (p : ProgramData) (ops : List OpKind) (k : ℕ) (op : OpKind) → ops ≡ p.ops → op ≡ get_or ops k op → k < length p.ops → slice_get p.ops k ≡ Some op
read_op p ops k op listed is less = slice_get-get_or p.ops k op less ∙ ap Some (sym (is ∙ ap (λ (os : List OpKind). get_or os k op) listed))

pub may-apply-read : (p q : ProgramData) (m : MachineData) (ops : List OpKind) (k : ℕ) (op : OpKind) (got held : List Held) → q ≡ p → m ≡ p.machine → ops ≡ p.ops → held ≡ got → IsValid p.machine → IsLegalProgram p
    → op ≡ get_or ops k op → k < length p.ops → AreCells q (nth q.ops k) (touched q.ops k) got → MayApply m op held
may-apply-read p q m ops k op got held same machine listed is valid legal at less are =
    subst (λ (n : MachineData). MayApply n op held) (sym machine) (may-apply p k op held valid legal (read_op p ops k op listed at less) (got_cells p q k got held same is are))

pub holds-applied : (p q : ProgramData) (m : MachineData) (ops : List OpKind) (k : ℕ) (op : OpKind) (s : Pass) (held new : List Held) → q ≡ p → m ≡ p.machine → ops ≡ p.ops → held ≡ cells_of s → IsValid p.machine → IsLegalProgram p
    → op ≡ get_or ops k op → k < length p.ops → AreCells q (nth q.ops k) (touched q.ops k) (cells_of s) → (view_of s).op ≡ Some k → Applied m k op held new → HoldsNext p (with_cells s new)
holds-applied p q m ops k op s held new same machine listed is valid legal at less are hand did =
    let here : Applied p.machine k op held new = subst (λ (n : MachineData). Applied n k op held new) machine did in
    let next = applied-next p k op held new valid legal (read_op p ops k op listed at less) (got_cells p q k (cells_of s) held same is are) here in
    let long : length new ≡ s.cells.len =
    sym (map-long (λ (h : Held). h.res) new) ∙ ap (λ (rs : List Res). length rs) here.names ∙ map-long (λ (h : Held). h.res) held ∙ ap (λ (hs : List Held). length hs) is ∙ sym s.cells.ok.0 in
    record { op = k; hand = hand; cells = subst (AreCells p (next_turn p k) (touched p.ops k)) (sym (with_items_is s.cells new long)) next }
