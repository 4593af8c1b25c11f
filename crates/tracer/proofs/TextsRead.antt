-- The texts of the operations are read off a report.
use Rattle.std.proofs.Common.{◌≡◌, ◌≢◌, ◌^◌, ℕ, suc, ◌+◌, ◌<◌, ◌≤◌, inl, inr, Bool, cond, ◌==◌, Option, Some, List, [], ◌∷◌, ◌++◌, map, length, codes, decimal, refl, sym, ◌∙◌, ap, ap₂, subst, arith, append_assoc}
use Rattle.std.specs.Prelude.{count_by, flat_map, slice_get}
use Rattle.std.specs.List.{All, AllByRecursion, enumerate_from}
use Rattle.std.proofs.lemmas.Bool.{cases_Bool, cases_eq, eq-eqb, eqb-true}
use Rattle.std.proofs.lemmas.List.{append_cancel_left, length-map}
use Rattle.std.proofs.lemmas.List.Elements.{All-head, All-tail}
use Rattle.std.proofs.lemmas.Option.{same_Some}
use Rattle.qccd_base.proofs.Decimal.{front-unique}
use Rattle.qccd_machine.specs.Machine.{MachineData, IsValid}
use Rattle.op_table.specs.declared.kinds.OpKind.{OpKind}
use Rattle.op_table.specs.Clock.{Timed, timed, timed_from, timed_after}
use Rattle.op_table.proofs.Counts.{count_by-cons, count_by-map}
use Rattle.qccd_program.specs.Legal.{IsLegalProgram}
use Rattle.qccd_program.specs.Program.{ProgramData}
use Rattle.qccd_program.proofs.Bounded.{times-bounded}
use Rattle.qccd_program.proofs.Tables.{get_mapped}
use Rattle.op_text.specs.OpText.{op_text}
use Rattle.tracer.specs.ReadOff.{AreLines}
use Rattle.tracer.specs.Report.{op_line, report_text}
use Rattle.tracer.specs.TimeOrder.{time_order}
use Rattle.tracer.proofs.Listed.{Row, each_by, listed-numbers}
use Rattle.tracer.proofs.Ordered.{by_start-alike}
use Rattle.tracer.proofs.ReadOff.{after_number, front_read, no_space}

abbrev NoFeed : ℕ → Type 0
NoFeed byte = byte ≢ 10

-- numbers that a text tells, and a text in one line
record Plain (e : ℕ × Timed) : Type 0 where
  pub number : e.0 < 2 ^ 64
  pub start : e.1.start < 2 ^ 64
  pub finish : e.1.finish < 2 ^ 64
  pub text : AllByRecursion NoFeed (op_text e.1.op)

-- an operation's number and text
abbrev told : ℕ × Timed → ℕ × List ℕ
told e = (e.0, op_text e.1.op)

flat_line : (number space start finish text feed rest : List ℕ) → ((((number ++ (space ++ start)) ++ (space ++ finish)) ++ (space ++ text)) ++ feed) ++ rest ≡ number ++ (space ++ (start ++ (space ++ (finish ++ (space ++ (text ++ (feed ++ rest)))))))
flat_line number space start finish text feed rest = simp (append_assoc)

in_words : (e : ℕ × Timed) (rest : List ℕ) → op_line e ++ rest ≡ [] ++ (decimal e.0 ++ (codes " " ++ (decimal e.1.start ++ (codes " " ++ (decimal e.1.finish ++ (codes " " ++ (op_text e.1.op ++ (10 ∷ [] ++ rest))))))))
in_words e rest = flat_line (decimal e.0) (codes " ") (decimal e.1.start) (decimal e.1.finish) (op_text e.1.op) (10 ∷ []) rest

line_read : (e x : ℕ × Timed) (rest next : List ℕ) → Plain e → Plain x → op_line e ++ rest ≡ op_line x ++ next → (told e ≡ told x) × (rest ≡ next)
line_read e x rest next plain_e plain_x same =
    let a = after_number [] e.0 x.0 plain_e.number plain_x.number (sym (in_words e rest) ∙ same ∙ in_words x next) no_space no_space in
    let b = after_number (codes " ") e.1.start x.1.start plain_e.start plain_x.start a.1 no_space no_space in
    let c = after_number (codes " ") e.1.finish x.1.finish plain_e.finish plain_x.finish b.1 no_space no_space in
    let behind = append_cancel_left (codes " ") (op_text e.1.op ++ (10 ∷ [] ++ rest)) (op_text x.1.op ++ (10 ∷ [] ++ next)) c.1 in
    let text = front-unique NoFeed (op_text e.1.op) (op_text x.1.op) (10 ∷ rest) (10 ∷ next) plain_e.text plain_x.text (λ h. h refl) (λ h. h refl) behind in
    ((λ k. (a.0 k, text.0 k)), append_cancel_left (10 ∷ []) rest next text.1)

lines_read : (xs ys : Row) (rest next : List ℕ) → length xs ≡ length ys → AllByRecursion Plain xs → AllByRecursion Plain ys → flat_map op_line xs ++ rest ≡ flat_map op_line ys ++ next → map told xs ≡ map told ys
lines_read [] [] rest next long all_x all_y same = refl
lines_read [] (y ∷ ys) rest next long all_x all_y same = absurd (omega (arith, long))
lines_read (x ∷ xs) [] rest next long all_x all_y same = absurd (omega (arith, long))
lines_read (x ∷ xs) (y ∷ ys) rest next long all_x all_y same =
    let one = append_assoc (op_line x) (flat_map op_line xs) rest in
    let other = append_assoc (op_line y) (flat_map op_line ys) next in
    let first = line_read x y (flat_map op_line xs ++ rest) (flat_map op_line ys ++ next) all_x.0 all_y.0 (sym one ∙ same ∙ other) in
    ap₂ (λ (r : ℕ × List ℕ) (rs : List (ℕ × List ℕ)). r ∷ rs) first.0 (lines_read xs ys rest next (omega (arith, long)) all_x.1 all_y.1 first.1)

-- ---- from the order of time to the order of the program

rows_plain : (m : MachineData) (earlier : List Timed) (n : ℕ) (ops : List OpKind) → n + length ops ≤ 4194304 → All (λ x. x.finish < 400000000000000) (timed_from m earlier ops) → AreLines ops
    → AllByRecursion Plain (enumerate_from n (timed_from m earlier ops))
rows_plain m earlier n [] few times texts = tt
rows_plain m earlier n (o ∷ ops) few times texts =
    let now : Timed = timed_after m earlier o in
    let soon : now.finish < 400000000000000 = All-head (λ (x : Timed). x.finish < 400000000000000) now (timed_from m (now ∷ earlier) ops) times in
    let spans : now.start ≤ now.finish = omega arith in (
      record { number = omega (arith, few); start = omega (arith, soon, spans); finish = omega (arith, soon); text = texts.0 },
      rows_plain m (now ∷ earlier) (n + 1) ops (omega (arith, few)) (All-tail (λ (x : Timed). x.finish < 400000000000000) now (timed_from m (now ∷ earlier) ops) times) texts.1,
    )

order_plain : (p : ProgramData) → IsValid p.machine → IsLegalProgram p → AreLines p.ops → AllByRecursion Plain (time_order p)
order_plain p valid legal texts =
    each_by Plain (enumerate_from 0 (timed p.machine p.ops)) (rows_plain p.machine [] 0 p.ops (omega (arith, legal.few)) (times-bounded p valid legal) texts)

-- each number stands in the order
number_stands : (m : MachineData) (earlier : List Timed) (n k : ℕ) (ops : List OpKind) → n ≤ k → k < n + length ops → 1 ≤ count_by (λ e. e.0 == k) (enumerate_from n (timed_from m earlier ops))
number_stands m earlier n k [] low high = absurd (omega (arith, low, high))
number_stands m earlier n k (o ∷ ops) low high =
    let now : Timed = timed_after m earlier o in
    let count = count_by-cons (λ (e : ℕ × Timed). e.0 == k) (n, now) (enumerate_from (n + 1) (timed_from m (now ∷ earlier) ops)) in
    elim (cases_eq n k) [
      | inl e ↦ let own : cond {A = ℕ} (n == k) 1 0 ≡ 1 = ap (λ (b : Bool). cond b 1 0) (eq-eqb n k e) in omega (arith, own, count)
      | inr other ↦ omega (arith, count, number_stands m (now ∷ earlier) (n + 1) k ops (omega (arith, low, other)) (omega (arith, high)))
    ]

-- what a list of numbers and texts tells of a number
both_at : (rows : List (ℕ × List ℕ)) (f g : ℕ → Option (List ℕ)) (k : ℕ) → AllByRecursion (λ r. f r.0 ≡ Some r.1) rows → AllByRecursion (λ r. g r.0 ≡ Some r.1) rows → 1 ≤ count_by (λ r. r.0 == k) rows → f k ≡ g k
both_at [] f g k one other some = absurd (omega (arith, some))
both_at (r ∷ rows) f g k one other some = elim (cases_Bool (r.0 == k)) [
  | inl h ↦ subst (λ (n : ℕ). f n ≡ g n) (eqb-true r.0 k h) (one.0 ∙ sym other.0)
  | inr h ↦
      let none : cond {A = ℕ} (r.0 == k) 1 0 ≡ 0 = ap (λ (b : Bool). cond b 1 0) h in
      both_at rows f g k one.1 other.1 (omega (arith, some, none, count_by-cons (λ (x : ℕ × List ℕ). x.0 == k) r rows))
]

told_numbers : (ops : List OpKind) (rows : Row) → AllByRecursion (λ x. slice_get ops x.0 ≡ Some x.1.op) rows → AllByRecursion (λ r. slice_get (map op_text ops) r.0 ≡ Some r.1) (map told rows)
told_numbers ops [] all = tt
told_numbers ops (x ∷ xs) all = (get_mapped op_text ops x.0 x.1.op all.0, told_numbers ops xs all.1)

lists_same : (xs ys : List (List ℕ)) → length xs ≡ length ys → ((k : ℕ) → k < length xs → slice_get xs k ≡ slice_get ys k) → xs ≡ ys
lists_same [] [] long each = refl
lists_same [] (y ∷ ys) long each = absurd (omega (arith, long))
lists_same (x ∷ xs) [] long each = absurd (omega (arith, long))
lists_same (x ∷ xs) (y ∷ ys) long each =
    ap₂ (λ (z : List ℕ) (zs : List (List ℕ)). z ∷ zs) (same_Some x y (each 0 (omega arith))) (lists_same xs ys (omega (arith, long)) (λ k less. each (suc k) (omega (arith, less))))

told_each : (p : ProgramData) (k : ℕ) → k < length p.ops → 1 ≤ count_by (λ r. r.0 == k) (map told (time_order p))
told_each p k less =
    let rows : Row = enumerate_from 0 (timed p.machine p.ops) in
    omega (
      arith,
      count_by-map (λ (r : ℕ × List ℕ). r.0 == k) told (time_order p),
      by_start-alike rows (λ e. e.0 == k),
      number_stands p.machine [] 0 k p.ops (omega arith) (omega (arith, less)),
    )

pub texts_read : (p q : ProgramData) → IsLegalProgram p → IsLegalProgram q → IsValid p.machine → IsValid q.machine → AreLines p.ops → AreLines q.ops → report_text p ≡ report_text q → map op_text p.ops ≡ map op_text q.ops
texts_read p q one other valid well lines_p lines_q same =
    let front = front_read p q one other valid well same in
    let long : length (time_order p) ≡ length (time_order q) = order_long p ∙ front.2 ∙ sym (order_long q) in
    let rows = lines_read (time_order p) (time_order q) _ _ long (order_plain p valid one lines_p) (order_plain q well other lines_q) front.3 in
    lists_same (map op_text p.ops) (map op_text q.ops) (length-map p.ops op_text ∙ front.2 ∙ sym (length-map q.ops op_text)) (λ k less.
    both_at (map told (time_order p)) (slice_get (map op_text p.ops)) (slice_get (map op_text q.ops)) k (told_numbers p.ops (time_order p) (listed-numbers p))
    (subst (AllByRecursion (λ r. slice_get (map op_text q.ops) r.0 ≡ Some r.1)) (sym rows) (told_numbers q.ops (time_order q) (listed-numbers q)))
    (told_each p k (omega (arith, less, length-map p.ops op_text))))
  where
    order_long : (p : ProgramData) → length (time_order p) ≡ length p.ops
    order_long p = omega (arith, length-map (time_order p) (λ e. e.1.op), Rattle.tracer.proofs.Tally.listed_long p)
