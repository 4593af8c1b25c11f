-- On the cells at their turns an operation does what it does in the run.
use Rattle.std.proofs.Common.{◌≡◌, ℕ, zero, suc, ◌+◌, ◌*◌, ◌<◌, ◌≤◌, Bool, true, false, cond, if◌then◌else◌, List, [], ◌∷◌, map, take, drop, filter, length, refl, sym, ◌∙◌, ap, ap₂, subst, arith, Some, None}
use Rattle.std.specs.Prelude.{slice_get}
use Rattle.std.proofs.lemmas.Option.{none-some}
use Rattle.qccd_base.specs.declared.names.Res.{Res}
use Rattle.qccd_base.specs.Greatest.{greatest}
use Rattle.qccd_base.specs.Resource.{among}
use Rattle.qccd_machine.specs.Machine.{MachineData, IsValid}
use Rattle.op_table.specs.declared.kinds.OpKind.{OpKind}
use Rattle.op_table.specs.Op.{IsOp}
use Rattle.op_table.specs.State.{State, IsSafe}
use Rattle.op_table.specs.Step.{why, effect}
use Rattle.op_table.specs.Run.{IsRun, after}
use Rattle.op_table.specs.Touch.{touches, nth, total, meets, is_first}
use Rattle.op_table.specs.Clock.{Timed, start_after, duration}
use Rattle.qccd_program.specs.Program.{ProgramData, opening_of}
use Rattle.op_table.specs.declared.contents.Content.{Content}
use Rattle.op_table.specs.Contents.{heat_held}
use Rattle.op_table.specs.Act.{why_on}
use Rattle.qccd_program.specs.World.{World, world_after, opening_world, clock_of}
use Rattle.op_cells.specs.Acted.{CellData, start_on, acted_on}
use Rattle.qccd_program.specs.CellOfRun.{cell_in, cell_at, firsts}
use Rattle.qccd_program.proofs.Turning.{stepped, turn-own, turn-next, turn-end}
use Rattle.qccd_program.specs.MeetsCells.{MeetsCells, own_cells, next_cells}
use Rattle.qccd_program.specs.Legal.{IsLegalProgram}
use Rattle.op_table.proofs.Every.{why-on, safe-effect}
use Rattle.op_table.proofs.Neighbours.{own_among}
use Rattle.std.specs.List.{AllByRecursion}
use Rattle.qccd_program.proofs.Runs.{legal_at}
use Rattle.qccd_program.proofs.Worlds.{cell-others, cells-acted, start-on, contents-on, maps_alike, stepped-state, stepped-clocked, stepped-long, stepped-timed, stepped-log, firsts-before}
use Rattle.op_table.proofs.Heats.{all_heat, heat-step, held-le}
use Rattle.op_table.proofs.Openings.{opening-safe, opening-cold}

-- no finish is past a bound
abbrev pub Below : ℕ → List Timed → Type 0
Below n xs = AllByRecursion (λ x. x.finish ≤ n) xs

pub below_more : (n k : ℕ) (xs : List Timed) → n ≤ k → Below n xs → Below k xs
below_more n k [] h b = tt
below_more n k (x ∷ xs) h b = (omega (arith, h, b.0), below_more n k xs h b.1)

pub below_start : (n : ℕ) (xs : List Timed) (op : OpKind) → Below n xs → start_after xs op ≤ n
below_start n [] op b = omega arith
below_start n (x ∷ xs) op b = go (meets x.op op) (below_start n xs op b.1)
  where
    go : (c : Bool) → greatest (map (λ (e : Timed). e.finish) (filter (λ e. meets e.op op) xs)) ≤ n → greatest (map (λ (e : Timed). e.finish) (cond c (x ∷ filter (λ e. meets e.op op) xs) (filter (λ e. meets e.op op) xs))) ≤ n
    go true rest = let own : x.finish ≤ n = b.0 in omega (arith, own, rest)
    go false rest = rest

below_clock : (n : ℕ) (xs : List Timed) (r : Res) → Below n xs → clock_of xs r ≤ n
below_clock n [] r b = omega arith
below_clock n (x ∷ xs) r b = go (among (touches x.op) r) (below_clock n xs r b.1)
  where
    go : (c : Bool) → clock_of xs r ≤ n → (if c then x.finish else clock_of xs r) ≤ n
    go true rest = b.0
    go false rest = rest

-- after k operations of a run
bounded_at : (m : MachineData) (w : World) (ops : List OpKind) (k n h : ℕ) → IsValid m → IsSafe m w.state → AllByRecursion IsOp ops → IsRun m w.state ops → Below n w.earlier → all_heat w.state ≤ h
    → Below (n + 93000000 * k) (stepped (world_after m) w (take k ops)).earlier × (all_heat (stepped (world_after m) w (take k ops)).state ≤ h + 200 * k)
bounded_at m w ops zero n h valid safe all run low cool = (below_more n (n + 93000000 * 0) w.earlier (omega arith) low, omega (arith, cool))
bounded_at m w [] (suc k) n h valid safe all run low cool = (below_more n (n + 93000000 * suc k) w.earlier (omega arith) low, omega (arith, cool))
bounded_at m w (o ∷ ops) (suc k) n h valid safe all run low cool =
    let long : duration m o ≤ 93000000 = Rattle.op_table.proofs.LongestStep.duration-le m w.state o (effect m w.state o) valid safe (record { kept = all.0; legal = run.0; leaves = refl }) in
    let start : start_after w.earlier o ≤ n = below_start n w.earlier o low in
    let rest = bounded_at m (world_after m w o) ops k (n + 93000000) (h + 200) valid (safe-effect m w.state o safe all.0 run.0) all.1 run.1
    (omega (arith, long, start), below_more n (n + 93000000) w.earlier (omega arith) low) (omega (arith, cool, heat-step m w.state o safe run.0)) in
    let z : World = stepped (world_after m) (world_after m w o) (take k ops) in
    (subst (λ (j : ℕ). Below j z.earlier) (further n k) rest.0, omega (arith, rest.1))
  where
    further : (n k : ℕ) → n + 93000000 + 93000000 * k ≡ n + 93000000 * suc k
    further n k = omega arith

there : (ops : List OpKind) (k : ℕ) (op : OpKind) → slice_get ops k ≡ Some op → k < length ops
there [] k op is = absurd (none-some op is)
there (o ∷ ops) zero op is = omega arith
there (o ∷ ops) (suc k) op is = omega (arith, there ops k op is)

pub maps_touched : {Y : Type 0} (xs : List Res) (f g : Res → Y) → ((r : Res) → among xs r ≡ true → f r ≡ g r) → map f xs ≡ map g xs
maps_touched [] f g h = refl
maps_touched {Y} (x ∷ xs) f g h =
    ap₂ (λ (c : Y) (cs : List Y). c ∷ cs) (h x (own_among x xs)) (maps_touched xs f g (λ r at. h r (Rattle.std.proofs.lemmas.Bool.or_right (Rattle.qccd_base.specs.Resource.same_res x r) (among xs r) at)))

none_plus : (k : ℕ) → 0 + k ≡ k
none_plus k = omega arith

pub meets-cells : (p : ProgramData) (k : ℕ) (op : OpKind) → IsValid p.machine → IsLegalProgram p → slice_get p.ops k ≡ Some op → MeetsCells p k op
meets-cells p k op valid legal is =
    let m : MachineData = p.machine in
    let s : State = opening_of p in
    let w : World = opening_world p in
    let b : World = stepped (world_after m) w (take k p.ops) in
    let safe : IsSafe m s = opening-safe m p.qubits p.bits p.start legal.start in
    let facts = legal_at m s p.ops k op safe legal.ops legal.run is in
    let state : b.state ≡ after m s (take k p.ops) = stepped-state m w (take k p.ops) in
    let met : why m b.state op ≡ None = ap (λ (z : State). why m z op) state ∙ facts.0 in
    let here : IsSafe m b.state = subst (IsSafe m) (sym state) facts.1 in
    let bits : b.state.bits ≡ p.bits = ap (λ (z : State). z.bits) state ∙ facts.3 in
    let clocked = stepped-clocked m w (take k p.ops) tt in
    let long : length b.earlier ≡ k = stepped-long m w p.ops k op is ∙ none_plus k in
    let own : own_cells p k op ≡ map (cell_in b) (touches op) = maps_alike (λ r. cell_at p r (nth p.ops k r)) (cell_in b) (touches op) (λ r. turn-own cell_in (world_after m) (cell-others m) w p.ops k r) in
    let next : next_cells p k op ≡ map (cell_in (world_after m b op)) (touches op) =
    maps_touched (touches op) (λ r. cell_at p r (nth p.ops k r + 1)) (cell_in (world_after m b op)) (λ r at. turn-next cell_in (world_after m) (cell-others m) w p.ops k op r is at) in
    let start : start_on (own_cells p k op) ≡ start_after b.earlier op = ap start_on own ∙ start-on m b op clocked in
    let bounds = bounded_at m w p.ops k 0 0 valid safe legal.ops legal.run tt (omega (arith, opening-cold p.qubits p.bits p.start)) in
    let few : k < length p.ops = there p.ops k op is in
    record {
      legal = ap₂ (λ (n : ℕ) (cs : List Content). why_on m n op cs) (sym bits) (ap (map (λ (d : CellData). d.content)) own ∙ contents-on b (touches op)) ∙ why-on m b.state op here facts.2 ∙ met;
      times = stepped-timed m w p.ops k op is ∙ ap (λ (n : ℕ). Some (record { op = op; start = n; finish = n + duration m op })) (sym start);
      leaves = next ∙ cells-acted m b op here facts.2 met clocked ∙ ap₂ (λ (n : ℕ) (ds : List CellData). acted_on m n op ds) long (sym own);
      room = λ r at. let log = ap (λ (d : CellData). length d.log) (turn-own cell_in (world_after m) (cell-others m) w p.ops k r) in
          omega (arith, log, stepped-log m w (take k p.ops) r, firsts-before p.ops k op r is at);
      clocks = λ r. let clock = ap (λ (d : CellData). d.clock) (turn-own cell_in (world_after m) (cell-others m) w p.ops k r) in
          omega (arith, clock, below_clock (0 + 93000000 * k) b.earlier r bounds.0, few, legal.few);
      heats = λ r. let heat = ap (λ (d : CellData). heat_held d.content) (turn-own cell_in (world_after m) (cell-others m) w p.ops k r) in
          omega (arith, heat, held-le b.state r, bounds.1, few, legal.few);
    }

-- the cells at the end
pub cells-end : (p : ProgramData) (r : Res) → cell_at p r (total p.ops r) ≡ cell_in (stepped (world_after p.machine) (opening_world p) p.ops) r
cells-end p r = turn-end cell_in (world_after p.machine) (opening_world p) p.ops r

-- the entries that are still to come
took_left : (ops : List OpKind) (k : ℕ) (r : Res) → firsts (take k ops) r + firsts (drop k ops) r ≡ firsts ops r
took_left ops zero r = omega arith
took_left [] (suc k) r = refl
took_left (o ∷ ops) (suc k) r = omega (arith, took_left ops k r, Rattle.op_table.proofs.Counts.count_by-cons (λ (x : OpKind). is_first x r) o ops, Rattle.op_table.proofs.Counts.count_by-cons (λ (x : OpKind). is_first x r) o (take k ops))

pub log-left : (p : ProgramData) (k : ℕ) (r : Res) → length (cell_at p r (nth p.ops k r)).log + firsts (drop k p.ops) r ≡ firsts p.ops r
log-left p k r =
    let log = ap (λ (d : CellData). length d.log) (turn-own cell_in (world_after p.machine) (cell-others p.machine) (opening_world p) p.ops k r) in
    omega (arith, log, stepped-log p.machine (opening_world p) (take k p.ops) r, took_left p.ops k r)
