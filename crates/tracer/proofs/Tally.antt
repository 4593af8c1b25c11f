-- Operations counted one after another, and in any order.
use Rattle.std.proofs.Common.{◌≡◌, ℕ, suc, ◌+◌, ◌<◌, ◌≤◌, inl, inr, Bool, true, false, cond, ◌==◌, List, [], ◌∷◌, ◌++◌, length, take, set, get_or, Some, sym, ◌∙◌, ap, subst, arith}
use Rattle.std.specs.Prelude.{count_by, slice_get}
use Rattle.std.specs.List.{enumerate_from}
use Rattle.std.proofs.lemmas.Bool.{cases_eq, eq-eqb, ne_eqb}
use Rattle.std.proofs.lemmas.List.{get_or-set_same, get_or-set_other, length-map}
use Rattle.std.proofs.lemmas.Option.{get_or_from_slice_get, slice_get_within}
use Rattle.std.proofs.Math.Seq.{take-suc}
use Rattle.op_table.specs.declared.kinds.OpKind.{OpKind}
use Rattle.op_table.specs.Clock.{Timed, timed}
use Rattle.op_table.proofs.Counts.{count_by-cons, count_by-map}
use Rattle.qccd_program.specs.Program.{ProgramData}
use Rattle.qccd_program.proofs.Tables.{get_mapped}
use Rattle.tracer.specs.Report.{column_of}
use Rattle.tracer.specs.Counted.{Tallied, in_column}
use Rattle.tracer.specs.TimeOrder.{listed_ops, time_order}
use Rattle.tracer.proofs.Collected.{count_app}
use Rattle.tracer.proofs.Sharing.{count_all}
use Rattle.tracer.proofs.Listed.{Row, ops_of, timed-ops}
use Rattle.tracer.proofs.Ordered.{by_start-alike}

count_le : (column : ℕ) (ops : List OpKind) → in_column column ops ≤ length ops
count_le column [] = omega arith
count_le column (op ∷ ops) = go (column_of op == column) (count_by-cons (λ (o : OpKind). column_of o == column) op ops) (count_le column ops)
  where
    go : (b : Bool) → in_column column (op ∷ ops) ≡ cond b 1 0 + in_column column ops → in_column column ops ≤ length ops → in_column column (op ∷ ops) ≤ suc (length ops)
    go true is rest = omega (arith, is, rest)
    go false is rest = omega (arith, is, rest)

pub tally_small : (ops : List OpKind) (counts : List ℕ) (column : ℕ) → length ops ≤ 4194304 → Tallied ops counts → column < 12 → get_or counts column 0 ≤ 4194304
tally_small ops counts column few tally below = omega (arith, tally column below, count_le column ops, few)

pub tally_none : (counts : List ℕ) → ((column : ℕ) → column < 12 → get_or counts column 0 ≡ 0) → Tallied [] counts
tally_none counts none column below = none column below

-- one operation more
pub tally_next : (ops : List OpKind) (op : OpKind) (counts : List ℕ) (count : ℕ) → column_of op < length counts → count ≡ get_or counts (column_of op) 0 + 1
    → Tallied ops counts → column_of op < 12 → Tallied (ops ++ op ∷ []) (set counts (column_of op) count)
tally_next ops op counts count within counted tally below column low =
    let passes : OpKind → Bool = λ o. column_of o == column in
    let one_more : in_column column (ops ++ op ∷ []) ≡ in_column column ops + cond (column_of op == column) 1 0 = omega (arith, count_app passes ops (op ∷ []), count_by-cons passes op []) in
    elim (cases_eq column (column_of op)) [
      | inl same ↦
          let here : get_or (set counts (column_of op) count) column 0 ≡ count = ap (λ (k : ℕ). get_or (set counts (column_of op) count) k 0) same ∙ get_or-set_same counts (column_of op) count 0 within in
          let before : get_or counts (column_of op) 0 ≡ in_column column ops = ap (λ (k : ℕ). get_or counts k 0) (sym same) ∙ tally column low in
          let one : cond {A = ℕ} (column_of op == column) 1 0 ≡ 1 = ap (λ (b : Bool). cond b 1 0) (eq-eqb (column_of op) column (sym same)) in
          omega (arith, here, before, one, counted, one_more)
      | inr other ↦
          let none : cond {A = ℕ} (column_of op == column) 1 0 ≡ 0 = ap (λ (b : Bool). cond b 1 0) (ne_eqb (column_of op) column (λ e. other (sym e))) in
          omega (arith, get_or-set_other counts (column_of op) column count 0 other, tally column low, none, one_more)
    ]

-- ---- in any order

-- those of a program in the order of time are as many in each column as in the order of the program
pub tally_listed : (p : ProgramData) (counts : List ℕ) → Tallied (listed_ops p) counts → Tallied p.ops counts
tally_listed p counts tally column below =
    let passes : OpKind → Bool = λ o. column_of o == column in
    let rows : Row = enumerate_from 0 (timed p.machine p.ops) in
    let here : in_column column (listed_ops p) ≡ count_by (λ e. passes e.1.op) (time_order p) = count_by-map passes (λ e. e.1.op) (time_order p) in
    let there : in_column column (ops_of rows) ≡ count_by (λ e. passes e.1.op) rows = count_by-map passes (λ e. e.1.op) rows in
    let same : in_column column (ops_of rows) ≡ in_column column p.ops = ap (in_column column) (timed-ops p.machine [] 0 p.ops) in
    omega (arith, tally column below, here, there, same, by_start-alike rows (λ e. passes e.1.op))

pub listed_long : (p : ProgramData) → length (listed_ops p) ≡ length p.ops
listed_long p =
    let rows : Row = enumerate_from 0 (timed p.machine p.ops) in
    let there : length (ops_of rows) ≡ length p.ops = ap length (timed-ops p.machine [] 0 p.ops) in
    omega (arith, length-map (time_order p) (λ e. e.1.op), length-map rows (λ e. e.1.op), there, by_start-alike rows (λ _. true), count_all rows, count_all (time_order p))

-- the row at a place counts as one operation more
pub tally_row : (p : ProgramData) (i : ℕ) (e : ℕ × Timed) (counts : List ℕ) → slice_get (time_order p) i ≡ Some e → Tallied (take i (listed_ops p) ++ e.1.op ∷ []) counts → Tallied (take (i + 1) (listed_ops p)) counts
tally_row p i e counts at tally =
    let ops = listed_ops p in
    let there : slice_get ops i ≡ Some e.1.op = get_mapped (λ x. x.1.op) (time_order p) i e at in
    let n : i + 1 ≡ suc i = omega arith in
    let text : take (i + 1) ops ≡ take i ops ++ e.1.op ∷ [] =
    ap (λ (k : ℕ). take k ops) n ∙ take-suc ops i e.1.op (slice_get_within ops i e.1.op there) ∙ ap (λ (o : OpKind). take i ops ++ o ∷ []) (get_or_from_slice_get ops i e.1.op e.1.op there) in
    subst (λ (os : List OpKind). Tallied os counts) (sym text) tally
