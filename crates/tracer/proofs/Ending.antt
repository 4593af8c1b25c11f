-- What the cells tell of the end of a program: what is held where, the greatest finish, and the heats.
use Rattle.std.proofs.Common.{◌≡◌, ℕ, zero, suc, max, ◌+◌, ◌*◌, ◌<◌, ◌≤◌, Bool, true, false, cond, ◌||◌, if◌then◌else◌, List, [], ◌∷◌, ◌++◌, map, filter, length, take, get_or, refl, sym, ◌∙◌, ap, subst, arith, Option, Some, None, option_map, append-nil}
use Rattle.std.specs.Prelude.{count_by, find, filter_map, flat_map, slice_get}
use Rattle.std.specs.List.{AllByRecursion, range_with_len, cons_option, list_any, sum}
use Rattle.std.proofs.lemmas.Bool.{false≢true, eqb-true}
use Rattle.std.proofs.lemmas.List.Folds.{flat_map-map}
use Rattle.std.proofs.lemmas.List.Sums.{sum_by-cons, sum_by_more, sum_by_more_le}
use Rattle.std.proofs.lemmas.List.{take_all}
use Rattle.std.proofs.lemmas.Option.{get_or_from_slice_get, slice_get_within}
use Rattle.qccd_base.specs.Greatest.{greatest}
use Rattle.qccd_base.specs.declared.names.Res.{Res}
use Rattle.qccd_base.specs.Resource.{among}
use Rattle.qccd_machine.specs.Machine.{MachineData}
use Rattle.op_table.specs.declared.kinds.OpKind.{OpKind}
use Rattle.op_table.specs.declared.contents.Entry.{Entry}
use Rattle.op_table.specs.declared.contents.Rider.{Rider}
use Rattle.op_table.specs.declared.contents.Carry.{Carry}
use Rattle.op_table.specs.State.{IonPlace, InTrap, OnSegment, InJunction, Stand, State, IsSafe, is_at, is_on_segment, is_in_junction, ions_in, heat_of}
use Rattle.op_table.specs.Step.{effect, place_heat}
use Rattle.op_table.specs.Contents.{content, chain, rider, carry, entry_of, rider_of, carry_of, place_end}
use Rattle.op_table.specs.Clock.{Timed, timed_from}
use Rattle.op_table.specs.Op.{IsOp}
use Rattle.op_table.specs.Run.{IsRun, after}
use Rattle.op_table.specs.Touch.{touches}
use Rattle.op_cells.specs.declared.cells.Cell.{Cell}
use Rattle.op_cells.specs.Numbering.{index_of, IsThere}
use Rattle.op_cells.specs.Acted.{CellData}
use Rattle.qccd_program.specs.AllCells.{AtEnd}
use Rattle.qccd_program.specs.Legal.{IsLegalProgram}
use Rattle.qccd_program.specs.Program.{ProgramData, opening_of, end_of}
use Rattle.qccd_program.specs.World.{World, world_after, opening_world, clock_of}
use Rattle.op_text.specs.OpText.{next_word}
use Rattle.tracer.specs.Report.{numbered_ions, chain_of, entry_text, pair_text, stray_text, stray_lines, segment_line, junction_line, last_finish}
use Rattle.tracer.specs.Summary.{traps_heat}
use Rattle.op_table.proofs.Counts.{count_by-cons, find_passes}
use Rattle.op_table.proofs.Seeking.{count_numbered}
use Rattle.op_table.proofs.Found.{any_from}
use Rattle.op_table.proofs.Neighbours.{own_among}
use Rattle.op_table.proofs.Every.{safe-effect}
use Rattle.op_table.proofs.Openings.{opening-safe, opening-cold}
use Rattle.op_table.proofs.Heats.{trap_heats, all_heat, heat-step}
use Rattle.qccd_program.proofs.Turning.{stepped}
use Rattle.qccd_program.proofs.Clocks.{clock_after}
use Rattle.qccd_program.proofs.Runs.{run_safe}
use Rattle.qccd_program.proofs.Stepping.{own-there}
use Rattle.qccd_program.proofs.MeetsCells.{cells-end}
use Rattle.qccd_program.proofs.Worlds.{clock-last, maps_alike, stepped-state, stepped-clocked}
use Rattle.tracer.proofs.Collected.{all_res, all_long, at-index, res-at, same_at, touch-some}

-- ---- what a resource holds

pub end-safe : (p : ProgramData) → IsLegalProgram p → IsSafe p.machine (end_of p)
end-safe p legal = (run_safe p.machine (opening_of p) p.ops (opening-safe p.machine p.qubits p.bits p.start legal.start) legal.ops legal.run).0

pub held-end : (p : ProgramData) (cells : List Cell) (r : Res) → AtEnd p cells → IsThere p.machine p.bits r
    → (c : Cell) × (slice_get cells (index_of p.machine r) ≡ Some c) × (c.content ≡ content (end_of p) r)
held-end p cells r ends there =
    let x = ends.each r there in
    (x.0, x.1, x.2.content ∙ ap (λ (d : CellData). d.content) (cells-end p r) ∙ ap (λ (z : State). content z r) (stepped-state p.machine (opening_world p) p.ops))

mapped_step : (g : ℕ → Option (ℕ × Stand)) (ks : List ℕ) → filter_map (λ k. option_map entry_of (g k)) ks ≡ map entry_of (filter_map g ks)
    → (o : Option (ℕ × Stand)) → cons_option (option_map entry_of o) (filter_map (λ k. option_map entry_of (g k)) ks) ≡ map entry_of (cons_option o (filter_map g ks))
mapped_step g ks rest None = rest
mapped_step g ks rest (Some e) = ap (λ (xs : List Entry). entry_of e ∷ xs) rest

mapped_found : (g : ℕ → Option (ℕ × Stand)) (ks : List ℕ) → filter_map (λ k. option_map entry_of (g k)) ks ≡ map entry_of (filter_map g ks)
mapped_found g [] = refl
mapped_found g (k ∷ ks) = mapped_step g ks (mapped_found g ks) (g k)

-- the ions of a trap's line are those of its chain
pub chain_text : (s : State) (t : ℕ) → flat_map (λ (e : Entry). next_word (pair_text e.ion.0 e.qubit)) (chain s t) ≡ flat_map (λ e. next_word (entry_text e)) (chain_of s t)
chain_text s t =
    ap (flat_map (λ (e : Entry). next_word (pair_text e.ion.0 e.qubit))) (mapped_found (λ k. find (λ (e : ℕ × Stand). is_at t k e.1.place) (numbered_ions s)) (range_with_len 0 (ions_in s t)))
    ∙ flat_map-map (λ (e : Entry). next_word (pair_text e.ion.0 e.qubit)) entry_of (chain_of s t)

-- ---- at most one ion outside the traps at a place

-- how many pass a test, where the first does or doesn't
counted_front : {X : Type 0} (p : X → Bool) (x : X) (xs : List X) (b : Bool) → p x ≡ b → count_by p (x ∷ xs) ≡ cond b 1 0 + count_by p xs
counted_front p x xs b h = count_by-cons p x xs ∙ ap (λ (c : Bool). cond c 1 0 + count_by p xs) h

none_step : {X : Type 0} (p : X → Bool) (x : X) (xs : List X) → count_by p (x ∷ xs) ≡ 0 → (count_by p xs ≡ 0 → filter p xs ≡ []) → (b : Bool) → p x ≡ b → cond b (x ∷ filter p xs) (filter p xs) ≡ []
none_step p x xs none rest true h = absurd (omega (arith, counted_front p x xs true h, none))
none_step p x xs none rest false h = rest (omega (arith, counted_front p x xs false h, none))

filter_none : {X : Type 0} (p : X → Bool) (xs : List X) → count_by p xs ≡ 0 → filter p xs ≡ []
filter_none p [] none = refl
filter_none p (x ∷ xs) none = none_step p x xs none (filter_none p xs) (p x) refl

one_step : {X : Type 0} (p : X → Bool) (x : X) (xs : List X) → count_by p (x ∷ xs) ≤ 1 → (count_by p xs ≤ 1 → filter p xs ≡ cons_option (find p xs) []) → (b : Bool) → p x ≡ b
    → cond b (x ∷ filter p xs) (filter p xs) ≡ cons_option (cond b (Some x) (find p xs)) []
one_step {X} p x xs few rest true h = ap (λ (ys : List X). x ∷ ys) (filter_none p xs (omega (arith, counted_front p x xs true h, few)))
one_step p x xs few rest false h = rest (omega (arith, counted_front p x xs false h, few))

filter_one : {X : Type 0} (p : X → Bool) (xs : List X) → count_by p xs ≤ 1 → filter p xs ≡ cons_option (find p xs) []
filter_one p [] few = refl
filter_one p (x ∷ xs) few = one_step p x xs few (filter_one p xs) (p x) refl

-- what is sent of a segment, and of a junction
abbrev pub rider_text : ℕ → Option Rider → List ℕ
rider_text g None = []
rider_text g (Some r) = segment_line g r.end r.heat (pair_text r.entry.ion.0 r.entry.qubit)

abbrev pub carry_text : ℕ → Option Carry → List ℕ
carry_text j None = []
carry_text j (Some c) = junction_line j c.heat (pair_text c.entry.ion.0 c.entry.qubit)

on_segment : (g : ℕ) (e : ℕ × Stand) (place : IonPlace) → is_on_segment g place ≡ true → stray_text e place ++ [] ≡ segment_line g (place_end place) (place_heat place) (entry_text e)
on_segment g e (InTrap t k) h = absurd (false≢true h)
on_segment g e (OnSegment f side heat) h = append-nil (segment_line f side heat (entry_text e)) ∙ ap (λ (n : ℕ). segment_line n side heat (entry_text e)) (eqb-true f g h)
on_segment g e (InJunction j heat) h = absurd (false≢true h)

in_junction : (j : ℕ) (e : ℕ × Stand) (place : IonPlace) → is_in_junction j place ≡ true → stray_text e place ++ [] ≡ junction_line j (place_heat place) (entry_text e)
in_junction j e (InTrap t k) h = absurd (false≢true h)
in_junction j e (OnSegment g side heat) h = absurd (false≢true h)
in_junction j e (InJunction i heat) h = append-nil (junction_line i heat (entry_text e)) ∙ ap (λ (n : ℕ). junction_line n heat (entry_text e)) (eqb-true i j h)

stray_found : {R : Type 0} (s : State) (here : IonPlace → Bool) (read : ℕ × Stand → R) (text : Option R → List ℕ) → count_by (λ w. here w.place) s.ions ≤ 1 → text None ≡ []
    → ((e : ℕ × Stand) → here e.1.place ≡ true → stray_text e e.1.place ++ [] ≡ text (Some (read e)))
    → text (option_map read (find (λ e. here e.1.place) (numbered_ions s))) ≡ stray_lines s here
stray_found {R} s here read text few none each =
    go (find (λ (e : ℕ × Stand). here e.1.place) (numbered_ions s)) refl
    ∙ ap (flat_map (λ (e : ℕ × Stand). stray_text e e.1.place)) (sym (filter_one (λ (e : ℕ × Stand). here e.1.place) (numbered_ions s) (omega (arith, few, count_numbered (λ w. here w.place) 0 s.ions))))
  where
    go : (o : Option (ℕ × Stand)) → find (λ (e : ℕ × Stand). here e.1.place) (numbered_ions s) ≡ o → text (option_map read o) ≡ flat_map (λ (e : ℕ × Stand). stray_text e e.1.place) (cons_option o [])
    go None is = none
    go (Some e) is = sym (each e (find_passes (λ (x : ℕ × Stand). here x.1.place) (numbered_ions s) e is))

one_at_most : (b : Bool) (n : ℕ) → n ≤ (if b then 1 else 0) → n ≤ 1
one_at_most true n h = h
one_at_most false n h = omega (arith, h)

pub segment_text : (m : MachineData) (s : State) (g : ℕ) → IsSafe m s → rider_text g (rider s g) ≡ stray_lines s (is_on_segment g)
segment_text m s g safe =
    stray_found s (is_on_segment g) rider_of (rider_text g) (one_at_most _ _ (safe.segments g)) refl (λ e at. on_segment g e e.1.place at)

pub junction_text : (m : MachineData) (s : State) (j : ℕ) → IsSafe m s → carry_text j (carry s j) ≡ stray_lines s (is_in_junction j)
junction_text m s j safe =
    stray_found s (is_in_junction j) carry_of (carry_text j) (one_at_most _ _ (safe.junctions j)) refl (λ e at. in_junction j e e.1.place at)

-- ---- the greatest clock is the greatest finish

clock_step : (a b : Bool) (n x g h : ℕ) → h ≡ (if b then max n g else g) → max (if a then max n x else x) h ≡ (if a || b then max n (max x g) else max x g)
clock_step true true n x g h e = omega (arith, e)
clock_step true false n x g h e = omega (arith, e)
clock_step false true n x g h e = omega (arith, e)
clock_step false false n x g h e = omega (arith, e)

clocks_lift : (b : Res → Bool) (f : Res → ℕ) (n : ℕ) (rs : List Res) → greatest (map (λ r. if b r then max n (f r) else f r) rs) ≡ (if list_any b rs then max n (greatest (map f rs)) else greatest (map f rs))
clocks_lift b f n [] = refl
clocks_lift b f n (r ∷ rs) = clock_step (b r) (list_any b rs) n (f r) (greatest (map f rs)) (greatest (map (λ q. if b q then max n (f q) else f q) rs)) (clocks_lift b f n rs)

no_clocks : (rs : List Res) → greatest (map (clock_after []) rs) ≡ 0
no_clocks [] = refl
no_clocks (r ∷ rs) = omega (arith, no_clocks rs)

-- where each operation touches one of these resources
clocks_finish : (earlier : List Timed) (rs : List Res) → AllByRecursion (λ x. list_any (among (touches x.op)) rs ≡ true) earlier → greatest (map (clock_after earlier) rs) ≡ greatest (map (λ e. e.finish) earlier)
clocks_finish [] rs all = no_clocks rs
clocks_finish (x ∷ xs) rs all =
    clocks_lift (among (touches x.op)) (clock_after xs) x.finish rs
    ∙ ap (λ (b : Bool). if b then max x.finish (greatest (map (clock_after xs) rs)) else greatest (map (clock_after xs) rs)) all.0
    ∙ ap (max x.finish) (clocks_finish xs rs all.1)

each_earlier : (P : OpKind → Type 0) (m : MachineData) (w : World) (ops : List OpKind) → AllByRecursion P ops → AllByRecursion (λ x. P x.op) w.earlier → AllByRecursion (λ x. P x.op) (stepped (world_after m) w ops).earlier
each_earlier P m w [] all before = before
each_earlier P m w (op ∷ ops) all before = each_earlier P m (world_after m w op) ops all.1 (all.0, before)

finishes : (m : MachineData) (w : World) (ops : List OpKind)
    → greatest (map (λ e. e.finish) (stepped (world_after m) w ops).earlier) ≡ max (greatest (map (λ e. e.finish) w.earlier)) (greatest (map (λ e. e.finish) (timed_from m w.earlier ops)))
finishes m w [] = omega arith
finishes m w (op ∷ ops) = omega (arith, finishes m (world_after m w op) ops)

touches_some : (m : MachineData) (bits : ℕ) (op : OpKind) → IsOp op → ((r : Res) → among (touches op) r ≡ true → IsThere m bits r) → list_any (among (touches op)) (all_res m bits) ≡ true
touches_some m bits op kept there =
    let t = touch-some op kept in
    let own : among (touches op) t.0 ≡ true = ap (λ (ts : List Res). among ts t.0) t.2 ∙ own_among t.0 t.1 in
    any_from (among (touches op)) (all_res m bits) (index_of m t.0) t.0 (at-index m bits t.0 (there t.0 own)) own

each_touches : (m : MachineData) (bits : ℕ) (ops : List OpKind) → AllByRecursion IsOp ops → ((k : ℕ) (o : OpKind) (r : Res) → slice_get ops k ≡ Some o → among (touches o) r ≡ true → IsThere m bits r)
    → AllByRecursion (λ op. list_any (among (touches op)) (all_res m bits) ≡ true) ops
each_touches m bits [] all there = tt
each_touches m bits (o ∷ ops) all there = (touches_some m bits o all.0 (λ r at. there 0 o r refl at), each_touches m bits ops all.1 (λ k. there (suc k)))

pub clocks-end : (p : ProgramData) (cells : List Cell) → IsLegalProgram p → AtEnd p cells → greatest (map (λ c. c.free_at) cells) ≡ last_finish p
clocks-end p cells legal ends =
    let m : MachineData = p.machine in
    let z : World = stepped (world_after m) (opening_world p) p.ops in
    let read : map (λ (c : Cell). c.free_at) cells ≡ map (clock_of z.earlier) (all_res m p.bits) =
    same_at (λ (c : Cell). c.free_at) (clock_of z.earlier) cells (all_res m p.bits) (ends.long ∙ sym (all_long m p.bits)) (λ i less.
    let r = res-at m p.bits i (omega (arith, ends.long, less)) in
    let x = ends.each r.0 r.1 in
    (x.0, r.0, ap (slice_get cells) (sym r.2) ∙ x.1, ap (slice_get (all_res m p.bits)) (sym r.2) ∙ at-index m p.bits r.0 r.1, x.2.clock ∙ ap (λ (d : CellData). d.clock) (cells-end p r.0))) in
    let some = each_earlier (λ op. list_any (among (touches op)) (all_res m p.bits) ≡ true) m (opening_world p) p.ops (each_touches m p.bits p.ops legal.ops (λ k o r is at. own-there p k o r legal is at)) tt in
    ap greatest (read ∙ maps_alike (clock_of z.earlier) (clock_after z.earlier) (all_res m p.bits) (λ r. clock-last m z.earlier r (stepped-clocked m (opening_world p) p.ops tt)))
    ∙ clocks_finish z.earlier (all_res m p.bits) some
    ∙ omega (arith, finishes m (opening_world p) p.ops)

-- ---- the heats of the traps

heat_run : (m : MachineData) (s : State) (ops : List OpKind) → IsSafe m s → AllByRecursion IsOp ops → IsRun m s ops → all_heat (after m s ops) ≤ all_heat s + 200 * length ops
heat_run m s [] safe all run = omega arith
heat_run m s (op ∷ ops) safe all run =
    let rest = heat_run m (effect m s op) ops (safe-effect m s op safe all.0 run.0) all.1 run.1 in
    omega (arith, rest, heat-step m s op safe run.0)

sums : (hs : List ℕ) → sum hs ≡ trap_heats hs
sums [] = refl
sums (h ∷ hs) = sum_by-cons (λ (n : ℕ). n) h hs ∙ ap (λ (n : ℕ). h + n) (sums hs)

pub heat-bound : (p : ProgramData) → IsLegalProgram p → traps_heat p ≤ 200 * 4194304
heat-bound p legal =
    let run = heat_run p.machine (opening_of p) p.ops (opening-safe p.machine p.qubits p.bits p.start legal.start) legal.ops legal.run in
    let cold = opening-cold p.qubits p.bits p.start in
    omega (arith, run, cold, legal.few, sums (end_of p).heats)

-- the cell at the place of a resource is there, and holds what the resource holds at the end
pub held_within : (p : ProgramData) (cells : List Cell) (r : Res) (place : ℕ) → AtEnd p cells → IsThere p.machine p.bits r → place ≡ index_of p.machine r → place < length cells
held_within p cells r place ends there is =
    let x = held-end p cells r ends there in
    subst (λ (n : ℕ). n < length cells) (sym is) (slice_get_within cells (index_of p.machine r) x.0 x.1)

pub held_is : (p : ProgramData) (cells : List Cell) (r : Res) (place : ℕ) (d : Cell) → AtEnd p cells → IsThere p.machine p.bits r → place ≡ index_of p.machine r → (get_or cells place d).content ≡ content (end_of p) r
held_is p cells r place d ends there is =
    let x = held-end p cells r ends there in
    let c : get_or cells place d ≡ x.0 = ap (λ (n : ℕ). get_or cells n d) is ∙ get_or_from_slice_get cells (index_of p.machine r) x.0 d x.1 in
    ap (λ (y : Cell). y.content) c ∙ x.2

-- the heats of the first traps
heats_long : (p : ProgramData) → IsLegalProgram p → length (end_of p).heats ≡ length p.machine.capacities
heats_long p legal = (end-safe p legal).heats

pub heat_more : (p : ProgramData) (t : ℕ) → IsLegalProgram p → t < length p.machine.capacities → sum (take (t + 1) (end_of p).heats) ≡ sum (take t (end_of p).heats) + heat_of (end_of p) t
heat_more p t legal less = sum_by_more (λ (n : ℕ). n) (end_of p).heats t 0 (omega (arith, less, heats_long p legal))

pub heat_small : (p : ProgramData) (t : ℕ) → IsLegalProgram p → t < length p.machine.capacities → sum (take t (end_of p).heats) + heat_of (end_of p) t ≤ 838860800
heat_small p t legal less =
    let part = sum_by_more_le (λ (n : ℕ). n) (end_of p).heats t 0 (omega (arith, less, heats_long p legal)) in
    omega (arith, part, heat-bound p legal)

pub heat_all : (p : ProgramData) (t : ℕ) → IsLegalProgram p → length p.machine.capacities ≤ t → sum (take t (end_of p).heats) ≡ traps_heat p
heat_all p t legal far = ap sum (take_all t (end_of p).heats (omega (arith, far, heats_long p legal)))

-- the greatest clock of one cell more
pub clock_more : (cells : List Cell) (i : ℕ) (d : Cell) → i < length cells → greatest (map (λ (c : Cell). c.free_at) (take (i + 1) cells)) ≡ max (greatest (map (λ (c : Cell). c.free_at) (take i cells))) (get_or cells i d).free_at
clock_more [] i d less = absurd (omega arith)
clock_more (c ∷ cells) zero d less = omega arith
clock_more (c ∷ cells) (suc i) d less =
    let e : suc i + 1 ≡ suc (i + 1) = omega arith in
    let rest : greatest (map (λ (x : Cell). x.free_at) (take (i + 1) cells)) ≡ max (greatest (map (λ (x : Cell). x.free_at) (take i cells))) (get_or cells i d).free_at = clock_more cells i d (omega arith) in
    ap (λ (k : ℕ). greatest (map (λ (x : Cell). x.free_at) (take k (c ∷ cells)))) e ∙ omega (arith, rest)
