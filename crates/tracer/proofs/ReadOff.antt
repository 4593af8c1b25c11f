-- What is read off a report: the sizes, the start chains and the number of operations.
use Rattle.std.proofs.Common.{◌≡◌, ◌^◌, ℕ, zero, suc, ◌+◌, ◌<◌, ◌≤◌, Bool, true, false, cond, ◌==◌, nat_lt, if◌then◌else◌, List, [], ◌∷◌, ◌++◌, length, codes, decimal, refl, sym, ◌∙◌, ap, ap₂, arith, append_assoc}
use Rattle.std.specs.Prelude.{count_by, flat_map}
use Rattle.std.specs.List.{AllByRecursion, enumerate_from}
use Rattle.std.proofs.lemmas.Bool.{eq-eqb, ltb-true}
use Rattle.std.proofs.lemmas.List.{append_cancel_left}
use Rattle.qccd_base.specs.Line.{line}
use Rattle.qccd_base.specs.declared.names.Ion.{Ion}
use Rattle.qccd_base.proofs.Decimal.{Ends, IsDigit, decimal-front-unique}
use Rattle.qccd_machine.specs.Machine.{IsValid}
use Rattle.op_table.proofs.Counts.{count_by-cons}
use Rattle.qccd_program.specs.Legal.{IsLegalProgram}
use Rattle.qccd_program.specs.Program.{ProgramData}
use Rattle.op_text.specs.OpText.{next_word}
use Rattle.tracer.specs.ReadOff.{SameSizes}
use Rattle.tracer.specs.TimeOrder.{time_order}
use Rattle.tracer.specs.Report.{labelled, start_line, op_line, end_lines, counts_line, last_finish, report_text}

-- a label and a number, and a rest that begins with no digit
pub after_number : {rest next : List ℕ} (label : List ℕ) (m n : ℕ) → m < 2 ^ 64 → n < 2 ^ 64 → label ++ (decimal m ++ rest) ≡ label ++ (decimal n ++ next)
    → Ends IsDigit rest → Ends IsDigit next → (m ≡ n) × (rest ≡ next)
after_number {rest} {next} label m n small_m small_n same ends stops =
    decimal-front-unique m n rest next small_m small_n ends stops (append_cancel_left label (decimal m ++ rest) (decimal n ++ next) same)

pub no_space : IsDigit 32 → ⊥
no_space digit = absurd (omega (arith, digit.0))

no_feed : IsDigit 10 → ⊥
no_feed digit = absurd (omega (arith, digit.0))

-- ---- a start chain

abbrev IsSmall : Ion → Type 0
IsSmall ion = ion.0 < 2 ^ 64

ends_words : (xs : List Ion) (rest : List ℕ) → Ends IsDigit (flat_map (λ i. next_word (decimal i.0)) xs ++ 10 ∷ rest)
ends_words [] rest = no_feed
ends_words (x ∷ xs) rest = no_space

ions_read : (xs ys : List Ion) (rest next : List ℕ) → AllByRecursion IsSmall xs → AllByRecursion IsSmall ys
    → flat_map (λ i. next_word (decimal i.0)) xs ++ 10 ∷ rest ≡ flat_map (λ i. next_word (decimal i.0)) ys ++ 10 ∷ next → (xs ≡ ys) × (rest ≡ next)
ions_read [] [] rest next small_x small_y same = (refl, append_cancel_left (10 ∷ []) rest next same)
ions_read [] (y ∷ ys) rest next small_x small_y same = absurd (let e : 10 ≡ 32 = ap (λ (bytes : List ℕ). Rattle.std.proofs.Common.get_or bytes 0 0) same in omega (arith, e))
ions_read (x ∷ xs) [] rest next small_x small_y same = absurd (let e : 32 ≡ 10 = ap (λ (bytes : List ℕ). Rattle.std.proofs.Common.get_or bytes 0 0) same in omega (arith, e))
ions_read (x ∷ xs) (y ∷ ys) rest next small_x small_y same =
    let words : List Ion → List ℕ = λ zs. flat_map (λ i. next_word (decimal i.0)) zs in
    let one = append_assoc (32 ∷ decimal x.0) (words xs) (10 ∷ rest) in
    let other = append_assoc (32 ∷ decimal y.0) (words ys) (10 ∷ next) in
    let first = after_number {rest = words xs ++ 10 ∷ rest} {next = words ys ++ 10 ∷ next} (32 ∷ []) x.0 y.0 small_x.0 small_y.0 (sym one ∙ same ∙ other) (ends_words xs rest) (ends_words ys next) in
    let others = ions_read xs ys rest next small_x.1 small_y.1 first.1 in
    let ion : x ≡ y = λ k. record { 0 = first.0 k } in
    (ap₂ (λ (z : Ion) (zs : List Ion). z ∷ zs) ion others.0, others.1)

-- ---- all of them

flat_start : (label number words feed starts rest : List ℕ) → ((((label ++ number) ++ words) ++ feed) ++ starts) ++ rest ≡ (label ++ number) ++ (words ++ (feed ++ (starts ++ rest)))
flat_start label number words feed starts rest = simp (append_assoc)

starts_read : (k : ℕ) (xs ys : List (List Ion)) (rest next : List ℕ) → length xs ≡ length ys → AllByRecursion (λ ions. AllByRecursion IsSmall ions) xs → AllByRecursion (λ ions. AllByRecursion IsSmall ions) ys
    → flat_map start_line (enumerate_from k xs) ++ rest ≡ flat_map start_line (enumerate_from k ys) ++ next → (xs ≡ ys) × (rest ≡ next)
starts_read k [] [] rest next long small_x small_y same = (refl, same)
starts_read k [] (y ∷ ys) rest next long small_x small_y same = absurd (omega (arith, long))
starts_read k (x ∷ xs) [] rest next long small_x small_y same = absurd (omega (arith, long))
starts_read k (x ∷ xs) (y ∷ ys) rest next long small_x small_y same =
    let words : List Ion → List ℕ = λ zs. flat_map (λ i. next_word (decimal i.0)) zs in
    let starts : List (List Ion) → List ℕ = λ zs. flat_map start_line (enumerate_from (k + 1) zs) in
    let one = flat_start (codes "start T") (decimal k) (words x) (10 ∷ []) (starts xs) rest in
    let other = flat_start (codes "start T") (decimal k) (words y) (10 ∷ []) (starts ys) next in
    let behind = append_cancel_left (codes "start T" ++ decimal k) (words x ++ 10 ∷ (starts xs ++ rest)) (words y ++ 10 ∷ (starts ys ++ next)) (sym one ∙ same ∙ other) in
    let here = ions_read x y (starts xs ++ rest) (starts ys ++ next) small_x.0 small_y.0 behind in
    let others = starts_read (k + 1) xs ys rest next (omega (arith, long)) small_x.1 small_y.1 here.1 in
    (ap₂ (λ (z : List Ion) (zs : List (List Ion)). z ∷ zs) here.0 others.0, others.1)

-- ---- the ions of start chains are few

each_counts : (xs : List Ion) (most : ℕ → ℕ) → ((i : ℕ) → count_by (λ x. x.0 == i) xs ≤ most i) → AllByRecursion (λ x. 1 ≤ most x.0) xs
each_counts [] most few = tt
each_counts (x ∷ xs) most few =
    let own : cond {A = ℕ} (x.0 == x.0) 1 0 ≡ 1 = ap (λ (b : Bool). cond b 1 0) (eq-eqb x.0 x.0 refl) in
    (omega (arith, few x.0, own, count_by-cons (λ (y : Ion). y.0 == x.0) x xs), each_counts xs most (λ i. omega (arith, few i, count_by-cons (λ (y : Ion). y.0 == i) x xs)))

below_once : (i n : ℕ) → n ≤ 256 → 1 ≤ (if nat_lt i n then 1 else 0) → i < 2 ^ 64
below_once i n few one = go (nat_lt i n) refl one
  where
    go : (b : Bool) → nat_lt i n ≡ b → 1 ≤ (if b then 1 else 0) → i < 2 ^ 64
    go true h one = let less : i < n = ltb-true i n h in omega (arith, less, few)
    go false h one = absurd (omega (arith, one))

all_small : (n : ℕ) (xs : List Ion) → n ≤ 256 → AllByRecursion (λ x. 1 ≤ (if nat_lt x.0 n then 1 else 0)) xs → AllByRecursion IsSmall xs
all_small n [] few all = tt
all_small n (x ∷ xs) few all = (below_once x.0 n few all.0, all_small n xs few all.1)

parted : (xs ys : List Ion) → AllByRecursion IsSmall (xs ++ ys) → AllByRecursion IsSmall xs × AllByRecursion IsSmall ys
parted [] ys all = (tt, all)
parted (x ∷ xs) ys all = let rest = parted xs ys all.1 in ((all.0, rest.0), rest.1)

by_chain : (chains : List (List Ion)) → AllByRecursion IsSmall (flat_map (λ chain. chain) chains) → AllByRecursion (λ ions. AllByRecursion IsSmall ions) chains
by_chain [] all = tt
by_chain (c ∷ cs) all = let both = parted c (flat_map (λ chain. chain) cs) all in (both.0, by_chain cs both.1)

chains_small : (p : ProgramData) → IsLegalProgram p → AllByRecursion (λ ions. AllByRecursion IsSmall ions) p.start
chains_small p legal =
    by_chain p.start (all_small p.qubits (flat_map (λ chain. chain) p.start) legal.qubits
    (each_counts (flat_map (λ chain. chain) p.start) (λ i. if nat_lt i p.qubits then 1 else 0) (λ i. omega (arith, legal.start.once i))))

-- ---- the front of a report

abbrev sized : ProgramData → List ℕ → List ℕ
sized p rest =
    codes "qubits " ++ (decimal p.qubits ++ (codes " bits " ++ (decimal p.bits ++ (codes " traps " ++ (decimal (length p.machine.capacities)
    ++ (codes " segments " ++ (decimal (length p.machine.segments) ++ (codes " junctions " ++ (decimal p.machine.junctions ++ (10 ∷ [] ++ rest))))))))))

flat_front : (t l1 d1 l2 d2 l3 d3 l4 d4 l5 d5 feed s lo dn x e c f : List ℕ)
    → ((((((t ++ (((((l1 ++ d1) ++ (l2 ++ d2)) ++ (l3 ++ d3)) ++ (l4 ++ d4)) ++ (l5 ++ d5)) ++ feed) ++ s) ++ ((lo ++ dn) ++ feed)) ++ x) ++ e) ++ c) ++ f
    ≡ t ++ (l1 ++ (d1 ++ (l2 ++ (d2 ++ (l3 ++ (d3 ++ (l4 ++ (d4 ++ (l5 ++ (d5 ++ (feed ++ (s ++ (lo ++ (dn ++ (feed ++ (x ++ (e ++ (c ++ f))))))))))))))))))
flat_front t l1 d1 l2 d2 l3 d3 l4 d4 l5 d5 feed s lo dn x e c f = simp (append_assoc)

abbrev lines_of : ProgramData → List ℕ
lines_of p = flat_map op_line (time_order p) ++ (end_lines p ++ (counts_line p.ops ++ line (labelled (codes "finish ") (last_finish p))))

abbrev counted : ProgramData → List ℕ
counted p = codes "ops " ++ (decimal (length p.ops) ++ (10 ∷ [] ++ lines_of p))

abbrev starts_of : ProgramData → List ℕ
starts_of p = flat_map start_line (enumerate_from 0 p.start)

in_parts : (p : ProgramData) → report_text p ≡ line (codes "QCCD report 1") ++ sized p (starts_of p ++ counted p)
in_parts p =
    flat_front (line (codes "QCCD report 1")) (codes "qubits ") (decimal p.qubits) (codes " bits ") (decimal p.bits) (codes " traps ") (decimal (length p.machine.capacities))
    (codes " segments ") (decimal (length p.machine.segments)) (codes " junctions ") (decimal p.machine.junctions) (10 ∷ []) (starts_of p) (codes "ops ") (decimal (length p.ops))
    (flat_map op_line (time_order p)) (end_lines p) (counts_line p.ops) (line (labelled (codes "finish ") (last_finish p)))

sizes_read : (p q : ProgramData) (rest next : List ℕ) → IsLegalProgram p → IsLegalProgram q → IsValid p.machine → IsValid q.machine → sized p rest ≡ sized q next → SameSizes p q × (rest ≡ next)
sizes_read p q rest next one other valid well same =
    let a = after_number (codes "qubits ") p.qubits q.qubits (omega (arith, one.qubits)) (omega (arith, other.qubits)) same no_space no_space in
    let b = after_number (codes " bits ") p.bits q.bits (omega (arith, one.bits)) (omega (arith, other.bits)) a.1 no_space no_space in
    let c = after_number (codes " traps ") (length p.machine.capacities) (length q.machine.capacities) (omega (arith, valid.few_traps)) (omega (arith, well.few_traps)) b.1 no_space no_space in
    let d = after_number (codes " segments ") (length p.machine.segments) (length q.machine.segments) (omega (arith, valid.few_segments)) (omega (arith, well.few_segments)) c.1 no_space no_space in
    let e = after_number (codes " junctions ") p.machine.junctions q.machine.junctions (omega (arith, valid.few_junctions)) (omega (arith, well.few_junctions)) d.1 no_feed no_feed in
    (record { qubits = a.0; bits = b.0; traps = c.0; segments = d.0; junctions = e.0 }, append_cancel_left (10 ∷ []) rest next e.1)

-- the sizes, the start chains, how many operations there are, and what stands behind
pub front_read : (p q : ProgramData) → IsLegalProgram p → IsLegalProgram q → IsValid p.machine → IsValid q.machine → report_text p ≡ report_text q
    → SameSizes p q × (p.start ≡ q.start) × (length p.ops ≡ length q.ops) × (lines_of p ≡ lines_of q)
front_read p q one other valid well same =
    let whole : line (codes "QCCD report 1") ++ sized p (starts_of p ++ counted p) ≡ line (codes "QCCD report 1") ++ sized q (starts_of q ++ counted q) = sym (in_parts p) ∙ same ∙ in_parts q in
    let behind = append_cancel_left (line (codes "QCCD report 1")) (sized p (starts_of p ++ counted p)) (sized q (starts_of q ++ counted q)) whole in
    let sizes = sizes_read p q (starts_of p ++ counted p) (starts_of q ++ counted q) one other valid well behind in
    let long : length p.start ≡ length q.start = one.start.chains ∙ sizes.0.traps ∙ sym other.start.chains in
    let starts = starts_read 0 p.start q.start (counted p) (counted q) long (chains_small p one) (chains_small q other) sizes.1 in
    let number = after_number {rest = 10 ∷ [] ++ lines_of p} {next = 10 ∷ [] ++ lines_of q} (codes "ops ") (length p.ops) (length q.ops) (omega (arith, one.few)) (omega (arith, other.few)) starts.1 no_feed no_feed in
    (sizes.0, starts.0, number.0, append_cancel_left (10 ∷ []) (lines_of p) (lines_of q) number.1)
