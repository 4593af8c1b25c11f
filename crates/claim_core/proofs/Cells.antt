-- The committed operations, done one after another on the cells that they touch, leave the cells of the run.
use Rattle.std.proofs.Common.{◌≡◌, ℕ, ◌+◌, inl, inr, Bool, true, false, if◌then◌else◌, List, [], ◌∷◌, map, take, refl, sym, ◌∙◌, ap, ap₂, arith, Some}
use Rattle.std.specs.Prelude.{slice_get}
use Rattle.std.proofs.lemmas.Bool.{cases_Bool}
use Rattle.qccd_base.specs.declared.names.Res.{Res}
use Rattle.qccd_base.specs.Resource.{among, same_res}
use Rattle.qccd_base.proofs.Resources.{map-among, same_res-true}
use Rattle.op_table.specs.declared.kinds.OpKind.{OpKind}
use Rattle.op_table.specs.State.{IsSafe}
use Rattle.op_table.specs.Step.{why}
use Rattle.op_table.specs.Run.{after}
use Rattle.op_table.specs.Touch.{touches, nth, total}
use Rattle.op_cells.specs.Acted.{CellData, acted_on}
use Rattle.qccd_program.specs.CellOfRun.{cell_in, cell_at}
use Rattle.qccd_program.specs.Faithful.{one_of, IsFaithful, turns_after}
use Rattle.qccd_program.specs.Legal.{IsLegalProgram}
use Rattle.qccd_program.specs.MeetsCells.{own_cells, next_cells}
use Rattle.qccd_program.specs.Program.{ProgramData, opening_of}
use Rattle.qccd_program.specs.World.{World, opening_world, world_after}
use Rattle.qccd_program.proofs.Runs.{legal_at}
use Rattle.qccd_program.proofs.Turning.{stepped, turn-own, turn-next}
use Rattle.qccd_program.proofs.Worlds.{cell-others, cells-acted, maps_alike, stepped-state, stepped-clocked, stepped-long}
use Rattle.claim_core.specs.declared.event.Event.{Event}
use Rattle.claim_core.specs.Enabled.{AllFinished}
use Rattle.claim_core.specs.End.{with_cells, cells_from, cells_after}
use Rattle.claim_core.specs.History.{IsHistory, board_of, commits}
use Rattle.claim_core.proofs.Ends.{faithful-commits, turns-last}
use Rattle.claim_core.proofs.Legally.{claims-legal, start-safe}
use Rattle.claim_core.proofs.Turns.{one_true, one_false}

none_plus : (k : ℕ) → 0 + k ≡ k
none_plus k = omega arith

-- an operation on its cells at their turns leaves the cells at the next
own-leaves : (p : ProgramData) (k : ℕ) (op : OpKind) → IsLegalProgram p → slice_get p.ops k ≡ Some op → next_cells p k op ≡ acted_on p.machine k op (own_cells p k op)
own-leaves p k op legal is =
    let m = p.machine in
    let w : World = opening_world p in
    let b : World = stepped (world_after m) w (take k p.ops) in
    let facts = legal_at m (opening_of p) p.ops k op (start-safe p legal) legal.ops legal.run is in
    let state : b.state ≡ after m (opening_of p) (take k p.ops) = stepped-state m w (take k p.ops) in
    let met : why m b.state op ≡ Rattle.std.specs.Prelude.None = ap (λ z. why m z op) state ∙ facts.0 in
    let here : IsSafe m b.state = rw state facts.1 in
    let long = stepped-long m w p.ops k op is ∙ none_plus k in
    let own : own_cells p k op ≡ map (cell_in b) (touches op) = maps_alike (λ r. cell_at p r (nth p.ops k r)) (cell_in b) (touches op) (λ r. turn-own cell_in (world_after m) (cell-others m) w p.ops k r) in
    let next : next_cells p k op ≡ map (cell_in (world_after m b op)) (touches op) =
    map-among (touches op) (λ r. cell_at p r (nth p.ops k r + 1)) (cell_in (world_after m b op)) (λ r at. turn-next cell_in (world_after m) (cell-others m) w p.ops k op r is at) in
    next ∙ cells-acted m b op here facts.2 met (stepped-clocked m w (take k p.ops) tt) ∙ ap₂ (λ (n : ℕ) (ds : List CellData). acted_on m n op ds) long (sym own)

-- what stands in such cells
put_among : (rs : List Res) (f cells : Res → CellData) (r : Res) → among rs r ≡ true → with_cells rs (map f rs) cells r ≡ f r
put_among [] f cells r at = cc
put_among (q ∷ rs) f cells r at = elim (cases_Bool (same_res q r)) [
  | inl is ↦ ap (λ (b : Bool). if b then f q else with_cells rs (map f rs) cells r) is ∙ ap f (same_res-true q r is)
  | inr apart ↦
      ap (λ (b : Bool). if b then f q else with_cells rs (map f rs) cells r) apart
      ∙ put_among rs f cells r (sym (ap (λ (b : Bool). Rattle.std.specs.Prelude.◌||◌ b (among rs r)) apart) ∙ at)
]

put_other : (rs : List Res) (f cells : Res → CellData) (r : Res) → among rs r ≡ false → with_cells rs (map f rs) cells r ≡ cells r
put_other [] f cells r out = refl
put_other (q ∷ rs) f cells r out =
    let parts = Rattle.std.proofs.lemmas.Bool.or_parts (same_res q r) (among rs r) out in
    ap (λ (b : Bool). if b then f q else with_cells rs (map f rs) cells r) parts.0 ∙ put_other rs f cells r parts.1

plus_none : (n k : ℕ) → k ≡ 0 → n ≡ n + k
plus_none n k h = omega (arith, h)

plus_one : (n k : ℕ) → k ≡ 1 → n + 1 ≡ n + k
plus_one n k h = omega (arith, h)

-- cells at their turns stay so along a faithful list
pub faithful-cells : (p : ProgramData) (turn : Res → ℕ) (cells : Res → CellData) (v : List (ℕ × OpKind)) → IsLegalProgram p → IsFaithful p.ops turn v → ((r : Res) → cells r ≡ cell_at p r (turn r))
    → (r : Res) → cells_from p cells v r ≡ cell_at p r (turns_after turn v r)
faithful-cells p turn cells [] legal f at r = at r
faithful-cells p turn cells (e ∷ v) legal f at r =
    faithful-cells p (λ q. turn q + one_of e.1 q) (with_cells ts (acted_on p.machine e.0 e.1 (map cells ts)) cells) v legal f.2 step r
  where
    ts : List Res
    ts = touches e.1

    own : map cells ts ≡ own_cells p e.0 e.1
    own = map-among ts cells (λ q. cell_at p q (nth p.ops e.0 q)) (λ q on. at q ∙ ap (cell_at p q) (f.1 q on))

    acted : acted_on p.machine e.0 e.1 (map cells ts) ≡ next_cells p e.0 e.1
    acted = ap (acted_on p.machine e.0 e.1) own ∙ sym (own-leaves p e.0 e.1 legal f.0)

    step : (q : Res) → with_cells ts (acted_on p.machine e.0 e.1 (map cells ts)) cells q ≡ cell_at p q (turn q + one_of e.1 q)
    step q = elim (cases_Bool (among ts q)) [
      | inl on ↦
          ap (λ (ds : List CellData). with_cells ts ds cells q) acted ∙ put_among ts (λ x. cell_at p x (nth p.ops e.0 x + 1)) cells q on
          ∙ ap (cell_at p q) (ap (λ (n : ℕ). n + 1) (sym (f.1 q on)) ∙ plus_one (turn q) (one_of e.1 q) (one_true e.1 q on))
      | inr out ↦
          ap (λ (ds : List CellData). with_cells ts ds cells q) acted ∙ put_other ts (λ x. cell_at p x (nth p.ops e.0 x + 1)) cells q out
          ∙ at q ∙ ap (cell_at p q) (plus_none (turn q) (one_of e.1 q) (one_false e.1 q out))
    ]

pub cells-last : (p : ProgramData) (n : ℕ) (es : List Event) → IsLegalProgram p → IsHistory p n es → AllFinished p (board_of p n es) → (r : Res) → cells_after p (commits p n es) r ≡ cell_at p r (total p.ops r)
cells-last p n es legal h all r =
    faithful-cells p (λ q. 0) (λ q. cell_at p q 0) (commits p n es) legal (faithful-commits p n es (claims-legal p legal) h).0 (λ q. refl) r ∙ ap (cell_at p r) (turns-last p n es legal h all r)
