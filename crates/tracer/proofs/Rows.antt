-- The line of the entry at a place of the listed order.
use Rattle.std.proofs.Common.{◌≡◌, ℕ, zero, suc, ◌+◌, ◌<◌, ◌≤◌, List, [], ◌∷◌, map, length, drop, refl, sym, ◌∙◌, ap, subst, arith, Some}
use Rattle.std.specs.Prelude.{slice_get}
use Rattle.std.specs.List.{AllByRecursion}
use Rattle.std.proofs.lemmas.Option.{same_Some, none-some, slice_get_within}
use Rattle.op_table.specs.declared.kinds.OpKind.{OpKind}
use Rattle.op_table.specs.Clock.{Timed}
use Rattle.op_cells.specs.declared.cells.Done.{Done}
use Rattle.qccd_program.specs.Program.{ProgramData}
use Rattle.tracer.specs.Order.{done_of, ordered}
use Rattle.tracer.specs.TimeOrder.{time_order}
use Rattle.tracer.proofs.Listed.{Row, listed-numbers}

unmapped : (xs : Row) (i : ℕ) (d : Done) → slice_get (map done_of xs) i ≡ Some d → (e : ℕ × Timed) × (slice_get xs i ≡ Some e) × (done_of e ≡ d)
unmapped [] i d is = absurd (none-some d is)
unmapped (x ∷ xs) zero d is = (x, refl, same_Some (done_of x) d is)
unmapped (x ∷ xs) (suc i) d is = unmapped xs i d is

each_at : (P : ℕ × Timed → Type 0) (xs : Row) (i : ℕ) (x : ℕ × Timed) → AllByRecursion P xs → slice_get xs i ≡ Some x → P x
each_at P [] i x all is = absurd (none-some x is)
each_at P (y ∷ ys) zero x all is = subst P (same_Some y x is) all.0
each_at P (y ∷ ys) (suc i) x all is = each_at P ys i x all.1 is

-- the entry's operation is there
op_at : (p : ProgramData) (i : ℕ) (d : Done) → slice_get (ordered p) i ≡ Some d → (e : ℕ × Timed) × (slice_get (time_order p) i ≡ Some e) × (done_of e ≡ d) × (slice_get p.ops d.op ≡ Some e.1.op)
op_at p i d is =
    let x = unmapped (time_order p) i d is in
    let at = each_at (λ y. slice_get p.ops y.0 ≡ Some y.1.op) (time_order p) i x.0 (listed-numbers p) x.1 in
    (x.0, x.1, x.2, ap (λ (y : Done). slice_get p.ops y.op) (sym x.2) ∙ at)

pub op_there : (p : ProgramData) (i : ℕ) (d : Done) → slice_get (ordered p) i ≡ Some d → d.op < length p.ops
op_there p i d is = let x = op_at p i d is in slice_get_within p.ops d.op x.0.1.op x.3

-- the row at a place, by the entry and its operation
pub row_at : (p : ProgramData) (i : ℕ) (d : Done) (o : OpKind) → slice_get (ordered p) i ≡ Some d → slice_get p.ops d.op ≡ Some o
    → slice_get (time_order p) i ≡ Some (d.op, record { op = o; start = d.start; finish = d.finish })
row_at p i d o is at =
    let x = op_at p i d is in
    let own : x.0.1.op ≡ o = same_Some x.0.1.op o (sym x.3 ∙ at) in
    let number : x.0.0 ≡ d.op = ap (λ (y : Done). y.op) x.2 in
    let start : x.0.1.start ≡ d.start = ap (λ (y : Done). y.start) x.2 in
    let finish : x.0.1.finish ≡ d.finish = ap (λ (y : Done). y.finish) x.2 in
    x.1 ∙ (λ k. Some (number k, record { op = own k; start = start k; finish = finish k }))

-- the entry in front of those behind the first i stands at place i
pub front_at : (xs : List Done) (i : ℕ) (d : Done) (rest : List Done) → drop i xs ≡ d ∷ rest → (slice_get xs i ≡ Some d) × (drop (i + 1) xs ≡ rest)
front_at [] zero d rest is = absurd (let l : 0 ≡ suc (length rest) = ap (λ (ys : List Done). length ys) is in omega (arith, l))
front_at [] (suc i) d rest is = absurd (let l : 0 ≡ suc (length rest) = ap (λ (ys : List Done). length ys) is in omega (arith, l))
front_at (x ∷ xs) zero d rest is = (ap (λ (ys : List Done). slice_get ys 0) is, ap (drop 1) is)
front_at (x ∷ xs) (suc i) d rest is = let n : suc i + 1 ≡ suc (i + 1) = omega arith in let next = front_at xs i d rest is in (next.0, ap (λ (k : ℕ). drop k (x ∷ xs)) n ∙ next.1)

-- nothing stands behind the first i
pub all_dropped : (xs : List Done) (i : ℕ) → drop i xs ≡ [] → length xs ≤ i
all_dropped [] i is = omega arith
all_dropped (x ∷ xs) zero is = let l : suc (length xs) ≡ 0 = ap (λ (ys : List Done). length ys) is in omega (arith, l)
all_dropped (x ∷ xs) (suc i) is = let rest = all_dropped xs i is in omega (arith, rest)
