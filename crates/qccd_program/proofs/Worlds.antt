-- The cells of a run: what an operation leaves in those that it touches, and its start.
use Rattle.std.proofs.Common.{◌≡◌, ℕ, zero, suc, ◌+◌, ◌<◌, Bool, true, false, cond, ◌==◌, if◌then◌else◌, List, [], ◌∷◌, ◌++◌, map, take, length, refl, sym, ◌∙◌, ap, ap₂, arith, Some, None, length-append}
use Rattle.std.specs.Prelude.{slice_get}
use Rattle.std.proofs.lemmas.Bool.{cases_Bool, false≢true, or_left, or_right, or_cases}
use Rattle.std.proofs.lemmas.Option.{same_Some, none-some}
use Rattle.qccd_base.specs.declared.names.Res.{Res}
use Rattle.qccd_base.specs.Greatest.{greatest}
use Rattle.qccd_base.specs.Resource.{among, same_res, comes_before, rank_of, number_of}
use Rattle.qccd_machine.specs.Machine.{MachineData}
use Rattle.op_table.specs.declared.kinds.OpKind.{OpKind}
use Rattle.op_table.specs.Op.{IsOp}
use Rattle.op_table.specs.State.{IsSafe}
use Rattle.op_table.specs.Step.{why, effect}
use Rattle.op_table.specs.Run.{after}
use Rattle.op_table.specs.Touch.{touches, nth, total, is_first, is_head}
use Rattle.op_table.specs.Clock.{Timed, timed_from, timed_after, start_after, duration}
use Rattle.op_table.specs.declared.contents.Content.{Content}
use Rattle.op_cells.specs.declared.cells.Done.{Done}
use Rattle.op_table.specs.Contents.{content}
use Rattle.op_table.specs.Act.{acted}
use Rattle.qccd_program.specs.World.{World, world_after, clock_of, log_of}
use Rattle.op_cells.specs.Acted.{CellData, with_contents_at, noted_at, start_on, acted_on}
use Rattle.qccd_program.specs.CellOfRun.{cell_in, firsts}
use Rattle.qccd_program.proofs.Turning.{stepped, Others}
use Rattle.op_table.proofs.Counts.{count_by-cons}
use Rattle.op_table.proofs.Every.{content-touched, content-untouched}
use Rattle.op_table.proofs.Neighbours.{own_among}
use Rattle.qccd_program.proofs.Clocks.{InClock, clock_after, latest-greatest, start-latest}
pub use Rattle.qccd_program.proofs.Clocks.{maps_alike}
use Rattle.std.specs.List.{AllByRecursion}
use Rattle.op_cells.proofs.Rising.{Rising, rising-ascending, differs}

-- times that stand as the clocks make them
abbrev pub Clocked : MachineData → List Timed → Type 0
Clocked m [] = Unit {0}
Clocked m (x ∷ xs) = (x ≡ timed_after m xs x.op) × Clocked m xs

pub head_among : (ts : List Res) (r : Res) → is_head ts r ≡ true → among ts r ≡ true
head_among [] r h = absurd (false≢true h)
head_among (q ∷ qs) r h = or_left (same_res q r) (among qs r) h

pub not_first : (op : OpKind) (r : Res) → among (touches op) r ≡ false → is_first op r ≡ false
not_first op r out = Rattle.std.proofs.lemmas.Bool.false_from_ne_true (is_first op r) (λ h. false≢true (sym out ∙ head_among (touches op) r h))

-- what an operation does not touch keeps content, clock and log
pub cell-others : (m : MachineData) → Others cell_in (world_after m)
cell-others m w op r out =
    let now : Timed = timed_after m w.earlier op in
    let clock : clock_of (now ∷ w.earlier) r ≡ clock_of w.earlier r = ap (λ (b : Bool). if b then now.finish else clock_of w.earlier r) out in
    let log : log_of (now ∷ w.earlier) r ≡ log_of w.earlier r =
    ap (λ (b : Bool). if b then log_of w.earlier r ++ record { op = length w.earlier; start = now.start; finish = now.finish } ∷ [] else log_of w.earlier r) (not_first op r out) in
    let held : content (effect m w.state op) r ≡ content w.state r = content-untouched m w.state op r out in
    λ i. record { content = held i; clock = clock i; log = log i }

-- times that the clocks make are in clock
in_clock : (m : MachineData) (earlier : List Timed) → Clocked m earlier → InClock (λ x. touches x.op) (λ x. x.finish) earlier
in_clock m [] kept = tt
in_clock m (x ∷ xs) kept =
    let ends : x.finish ≡ start_after xs x.op + duration m x.op = ap (λ (y : Timed). y.finish) kept.0 in
    (omega (arith, ends), in_clock m xs kept.1)

-- the finish of the last is the greatest finish
pub clock-last : (m : MachineData) (earlier : List Timed) (r : Res) → Clocked m earlier → clock_of earlier r ≡ clock_after earlier r
clock-last m earlier r kept = latest-greatest (λ x. touches x.op) (λ x. x.finish) earlier r (in_clock m earlier kept)

pub map_twice : {X Y Z : Type 0} (g : Y → Z) (f : X → Y) (xs : List X) → map g (map f xs) ≡ map (λ x. g (f x)) xs
map_twice g f [] = refl
map_twice {X} {Y} {Z} g f (x ∷ xs) = ap (λ (ys : List Z). g (f x) ∷ ys) (map_twice g f xs)

-- the start on the cells is the start
pub start-on : (m : MachineData) (w : World) (op : OpKind) → Clocked m w.earlier → start_on (map (cell_in w) (touches op)) ≡ start_after w.earlier op
start-on m w op kept =
    ap greatest (map_twice (λ (d : CellData). d.clock) (cell_in w) (touches op))
    ∙ start-latest (λ x. touches x.op) (λ x. x.finish) w.earlier (touches op) (in_clock m w.earlier kept)

pub contents-on : (w : World) (rs : List Res) → map (λ (d : CellData). d.content) (map (cell_in w) rs) ≡ map (content w.state) rs
contents-on w rs = map_twice (λ (d : CellData). d.content) (cell_in w) rs

-- the touched cells but the first: content and clock
rest_cells : (m : MachineData) (w : World) (op : OpKind) (us : List Res) → AllByRecursion (λ r. (among (touches op) r ≡ true) × (is_first op r ≡ false)) us
    → map (cell_in (world_after m w op)) us ≡ with_contents_at (timed_after m w.earlier op).finish (map (content (effect m w.state op)) us) (map (cell_in w) us)
rest_cells m w op [] all = refl
rest_cells m w op (r ∷ us) all =
    let now : Timed = timed_after m w.earlier op in
    let clock : clock_of (now ∷ w.earlier) r ≡ now.finish = ap (λ (b : Bool). if b then now.finish else clock_of w.earlier r) all.0.0 in
    let log : log_of (now ∷ w.earlier) r ≡ log_of w.earlier r =
    ap (λ (b : Bool). if b then log_of w.earlier r ++ record { op = length w.earlier; start = now.start; finish = now.finish } ∷ [] else log_of w.earlier r) all.0.1 in
    ap₂ (λ (d : CellData) (ds : List CellData). d ∷ ds) (λ i. record { content = content (effect m w.state op) r; clock = clock i; log = log i }) (rest_cells m w op us all.1)

each_touched : (op : OpKind) (q : Res) (qs : List Res) (us : List Res) → touches op ≡ q ∷ qs → AllByRecursion (λ x. comes_before q x ≡ true) us → ((r : Res) → among us r ≡ true → among qs r ≡ true) → AllByRecursion (λ r. (among (touches op) r ≡ true) × (is_first op r ≡ false)) us
each_touched op q qs [] is up inside = tt
each_touched op q qs (r ∷ us) is up inside = (
  (ap (λ (ts : List Res). among ts r) is ∙ or_right (same_res q r) (among qs r) (inside r (own_among r us)), ap (λ (ts : List Res). is_head ts r) is ∙ differs q r up.0),
  each_touched op q qs us is up.1 (λ x h. inside x (or_right (same_res r x) (among us x) h)),
)

pub same_own : (q : Res) → same_res q q ≡ true
same_own q = Rattle.std.proofs.lemmas.Bool.and_from (rank_of q == rank_of q) (number_of q == number_of q) (Rattle.std.proofs.lemmas.Bool.eq-eqb (rank_of q) (rank_of q) refl) (Rattle.std.proofs.lemmas.Bool.eq-eqb (number_of q) (number_of q) refl)

all_cells : (m : MachineData) (w : World) (op : OpKind) (ts : List Res) → touches op ≡ ts → Rising ts
    → map (cell_in (world_after m w op)) ts
    ≡ noted_at (record { op = length w.earlier; start = (timed_after m w.earlier op).start; finish = (timed_after m w.earlier op).finish })
    (with_contents_at (timed_after m w.earlier op).finish (map (content (effect m w.state op)) ts) (map (cell_in w) ts))
all_cells m w op [] is up = refl
all_cells m w op (q ∷ qs) is up =
    let now : Timed = timed_after m w.earlier op in
    let first : is_first op q ≡ true = ap (λ (ts : List Res). is_head ts q) is ∙ same_own q in
    let clock : clock_of (now ∷ w.earlier) q ≡ now.finish = ap (λ (b : Bool). if b then now.finish else clock_of w.earlier q) (ap (λ (ts : List Res). among ts q) is ∙ own_among q qs) in
    let log : log_of (now ∷ w.earlier) q ≡ log_of w.earlier q ++ record { op = length w.earlier; start = now.start; finish = now.finish } ∷ [] =
    ap (λ (b : Bool). if b then log_of w.earlier q ++ record { op = length w.earlier; start = now.start; finish = now.finish } ∷ [] else log_of w.earlier q) first in
    ap₂ (λ (d : CellData) (ds : List CellData). d ∷ ds) (λ i. record { content = content (effect m w.state op) q; clock = clock i; log = log i })
    (rest_cells m w op qs (each_touched op q qs qs is up.0 (λ r h. h)))

-- what a legal operation leaves in the cells that it touches
pub cells-acted : (m : MachineData) (w : World) (op : OpKind) → IsSafe m w.state → IsOp op → why m w.state op ≡ None → Clocked m w.earlier
    → map (cell_in (world_after m w op)) (touches op) ≡ acted_on m (length w.earlier) op (map (cell_in w) (touches op))
cells-acted m w op safe kept legal clocked =
    let ds : List CellData = map (cell_in w) (touches op) in
    let start : start_on ds ≡ start_after w.earlier op = start-on m w op clocked in
    let held : map (content (effect m w.state op)) (touches op) ≡ acted m op (map (λ (d : CellData). d.content) ds) =
    content-touched m w.state op safe kept legal ∙ ap (acted m op) (sym (contents-on w (touches op))) in
    all_cells m w op (touches op) refl (rising-ascending (Rattle.op_table.specs.Touch.named op))
    ∙ ap₂ (λ (n : ℕ) (cs : List Content). noted_at (record { op = length w.earlier; start = n; finish = n + duration m op }) (with_contents_at (n + duration m op) cs ds)) (sym start) held

-- ---- the run from a world

pub stepped-state : (m : MachineData) (w : World) (ops : List OpKind) → (stepped (world_after m) w ops).state ≡ after m w.state ops
stepped-state m w [] = refl
stepped-state m w (o ∷ ops) = stepped-state m (world_after m w o) ops

pub stepped-clocked : (m : MachineData) (w : World) (ops : List OpKind) → Clocked m w.earlier → Clocked m (stepped (world_after m) w ops).earlier
stepped-clocked m w [] kept = kept
stepped-clocked m w (o ∷ ops) kept = stepped-clocked m (world_after m w o) ops (refl, kept)

-- how many operations a world has behind it
pub stepped-long : (m : MachineData) (w : World) (ops : List OpKind) (k : ℕ) (op : OpKind) → slice_get ops k ≡ Some op → length (stepped (world_after m) w (take k ops)).earlier ≡ length w.earlier + k
stepped-long m w [] k op is = absurd (none-some op is)
stepped-long m w (o ∷ ops) zero op is = omega arith
stepped-long m w (o ∷ ops) (suc k) op is = omega (arith, stepped-long m (world_after m w o) ops k op is)

-- the k-th with its times
pub stepped-timed : (m : MachineData) (w : World) (ops : List OpKind) (k : ℕ) (op : OpKind) → slice_get ops k ≡ Some op → slice_get (timed_from m w.earlier ops) k ≡ Some (timed_after m (stepped (world_after m) w (take k ops)).earlier op)
stepped-timed m w [] k op is = absurd (none-some op is)
stepped-timed m w (o ∷ ops) zero op is = ap (λ (x : OpKind). Some (timed_after m w.earlier x)) (same_Some o op is)
stepped-timed m w (o ∷ ops) (suc k) op is = stepped-timed m (world_after m w o) ops k op is

-- what a log has, and what is to come
log_step : (b : Bool) (n f : ℕ) (es : List Done) (e : Done) → length es ≡ f → length (if b then es ++ e ∷ [] else es) ≡ cond b 1 0 + f
log_step true n f es e long = omega (arith, length-append es (e ∷ []), long)
log_step false n f es e long = omega (arith, long)

pub stepped-log : (m : MachineData) (w : World) (ops : List OpKind) (r : Res) → length (log_of (stepped (world_after m) w ops).earlier r) ≡ length (log_of w.earlier r) + firsts ops r
stepped-log m w [] r = omega arith
stepped-log m w (o ∷ ops) r =
    let now : Timed = timed_after m w.earlier o in
    let more : length (log_of (now ∷ w.earlier) r) ≡ cond (is_first o r) 1 0 + length (log_of w.earlier r) =
    log_step (is_first o r) 0 (length (log_of w.earlier r)) (log_of w.earlier r) (record { op = length w.earlier; start = now.start; finish = now.finish }) refl in
    omega (arith, more, stepped-log m (world_after m w o) ops r, count_by-cons (λ (x : OpKind). is_first x r) o ops)

pub firsts-before : (ops : List OpKind) (k : ℕ) (op : OpKind) (r : Res) → slice_get ops k ≡ Some op → is_first op r ≡ true → firsts (take k ops) r < firsts ops r
firsts-before [] k op r is at = absurd (none-some op is)
firsts-before (o ∷ ops) zero op r is at =
    let one : cond {A = ℕ} (is_first o r) 1 0 ≡ 1 = ap (λ (b : Bool). cond b 1 0) (ap (λ (x : OpKind). is_first x r) (same_Some o op is) ∙ at) in
    omega (arith, one, count_by-cons (λ (x : OpKind). is_first x r) o ops)
firsts-before (o ∷ ops) (suc k) op r is at =
    omega (arith, count_by-cons (λ (x : OpKind). is_first x r) o ops, count_by-cons (λ (x : OpKind). is_first x r) o (take k ops), firsts-before ops k op r is at)
