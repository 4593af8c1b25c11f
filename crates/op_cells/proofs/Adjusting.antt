-- Cells changed at their places.
use Rattle.std.proofs.Common.{◌≡◌, ◌≢◌, ℕ, zero, suc, ◌+◌, ◌-◌, ◌<◌, ◌≤◌, max, List, [], ◌∷◌, ◌++◌, map, take, drop, set, get_or, length, refl, sym, ◌∙◌, ap, ap₂, arith, option_map, slice_get, subst, get_or-set_other}
use Rattle.std.proofs.lemmas.List.Elements.{All-from_recursion}
use Rattle.std.proofs.lemmas.Option.{slice_get-get_or, get_or_from_slice_get}
use Rattle.qccd_base.specs.Greatest.{greatest}
use Rattle.qccd_base.specs.declared.names.Res.{Res}
use Rattle.qccd_machine.specs.Machine.{MachineData}
use Rattle.op_table.specs.declared.kinds.OpKind.{OpKind}
use Rattle.op_table.specs.declared.contents.Content.{Content}
use Rattle.op_table.specs.Act.{acted, first, second}
use Rattle.op_table.specs.Touch.{touches}
use Rattle.op_table.proofs.Shared.{take-get}
use Rattle.op_cells.specs.Log.{LogData}
use Rattle.op_cells.specs.Settled.{noted}
use Rattle.op_cells.specs.declared.cells.Done.{Done}
use Rattle.op_cells.specs.declared.cells.Cell.{Cell}
use Rattle.op_cells.proofs.Wholes.{quiet}
use Rattle.op_cells.specs.Numbering.{index_of}
use Rattle.op_cells.specs.Places.{adjust, adjust_all, clock_at, content_at, content_or, clock_or, free_from, holding, AreWithin}

pub adjust-set : (f : Cell → Cell) (cs : List Cell) (i : ℕ) (d : Cell) → adjust f cs i ≡ set cs i (f (get_or cs i d))
adjust-set f [] i d = refl
adjust-set f (c ∷ cs) zero d = refl
adjust-set f (c ∷ cs) (suc i) d = ap (λ (xs : List Cell). c ∷ xs) (adjust-set f cs i d)

pub adjust-long : (f : Cell → Cell) (cs : List Cell) (i : ℕ) → length (adjust f cs i) ≡ length cs
adjust-long f [] i = refl
adjust-long f (c ∷ cs) zero = refl
adjust-long f (c ∷ cs) (suc i) = ap suc (adjust-long f cs i)

pub adjust-own : (f : Cell → Cell) (cs : List Cell) (i : ℕ) → slice_get (adjust f cs i) i ≡ option_map f (slice_get cs i)
adjust-own f [] i = refl
adjust-own f (c ∷ cs) zero = refl
adjust-own f (c ∷ cs) (suc i) = adjust-own f cs i

pub adjust-other : (f : Cell → Cell) (cs : List Cell) (i j : ℕ) → j ≢ i → slice_get (adjust f cs i) j ≡ slice_get cs j
adjust-other f [] i j other = refl
adjust-other f (c ∷ cs) zero zero other = absurd (other refl)
adjust-other f (c ∷ cs) zero (suc j) other = refl
adjust-other f (c ∷ cs) (suc i) zero other = refl
adjust-other f (c ∷ cs) (suc i) (suc j) other = adjust-other f cs i j (λ e. other (ap suc e))

content_there : (cs : List Cell) (i : ℕ) (d : Cell) → i < length cs → content_or (slice_get cs i) ≡ (get_or cs i d).content
content_there cs i d within = ap content_or (slice_get-get_or cs i d within)

-- an operation on one content
pub one-adjusted : (m : MachineData) (op : OpKind) (cs : List Cell) (i : ℕ) (d : Cell) (x : Content) → i < length cs → x ∷ [] ≡ acted m op ((get_or cs i d).content ∷ [])
    → set cs i (record (get_or cs i d) { content = x }) ≡ adjust (holding (first (acted m op (content_or (slice_get cs i) ∷ [])))) cs i
one-adjusted m op cs i d x within did =
    let left : x ≡ first (acted m op (content_or (slice_get cs i) ∷ [])) = ap first did ∙ ap (λ (y : Content). first (acted m op (y ∷ []))) (sym (content_there cs i d within)) in
    ap (λ (y : Content). set cs i (record (get_or cs i d) { content = y })) left ∙ sym (adjust-set (holding (first (acted m op (content_or (slice_get cs i) ∷ [])))) cs i d)

-- two places of a list cut between them
paste_one : {X : Type 0} (xs : List X) (j : ℕ) (z : X) → j < length xs → take j xs ++ set (drop j xs) 0 z ≡ set xs j z
paste_one [] j z k = absurd (omega arith)
paste_one (x ∷ xs) zero z k = refl
paste_one (x ∷ xs) (suc j) z k = ap (λ (ys : List _). x ∷ ys) (paste_one xs j z (omega arith))

paste_two : {X : Type 0} (xs : List X) (i j : ℕ) (y z : X) → i < j → j < length xs → set (take j xs) i y ++ set (drop j xs) 0 z ≡ set (set xs i y) j z
paste_two [] i j y z h k = absurd (omega arith)
paste_two (x ∷ xs) i zero y z h k = absurd (omega arith)
paste_two (x ∷ xs) zero (suc j) y z h k = ap (λ (ys : List _). y ∷ ys) (paste_one xs j z (omega arith))
paste_two (x ∷ xs) (suc i) (suc j) y z h k = ap (λ (ys : List _). x ∷ ys) (paste_two xs i j y z (omega arith) (omega arith))

drop_first : {X : Type 0} (j : ℕ) (xs : List X) → slice_get (drop j xs) 0 ≡ slice_get xs j
drop_first zero xs = refl
drop_first (suc j) [] = refl
drop_first (suc j) (x ∷ xs) = drop_first j xs

-- what stands in the two parts of a list that is cut at j
pub front_there : (cs front : List Cell) (i j : ℕ) (d : Cell) → front ≡ take j cs → i < j → j < length cs → get_or front i d ≡ get_or cs i d
front_there cs front i j d is order within = get_or_from_slice_get front i (get_or cs i d) d (ap (λ (xs : List Cell). slice_get xs i) is ∙ take-get j cs i order ∙ slice_get-get_or cs i d (omega (arith, order, within)))

pub back_there : (cs back : List Cell) (j : ℕ) (e : Cell) → back ≡ drop j cs → j < length cs → get_or back 0 e ≡ get_or cs j e
back_there cs back j e is within = get_or_from_slice_get back 0 (get_or cs j e) e (ap (λ (xs : List Cell). slice_get xs 0) is ∙ drop_first j cs ∙ slice_get-get_or cs j e within)

pub front_content : (cs front : List Cell) (i j : ℕ) (d : Cell) → front ≡ take j cs → i < j → j < length cs → content_or (slice_get cs i) ≡ (get_or front i d).content
front_content cs front i j d is order within = content_there cs i d (omega (arith, order, within)) ∙ ap (λ (c : Cell). c.content) (sym (front_there cs front i j d is order within))

pub back_content : (cs back : List Cell) (j : ℕ) (e : Cell) → back ≡ drop j cs → j < length cs → content_or (slice_get cs j) ≡ (get_or back 0 e).content
back_content cs back j e is within = content_there cs j e within ∙ ap (λ (c : Cell). c.content) (sym (back_there cs back j e is within))

two_sets : (f g : Cell → Cell) (cs : List Cell) (i j : ℕ) (d e : Cell) → i < j → set (set cs i (f (get_or cs i d))) j (g (get_or cs j e)) ≡ adjust g (adjust f cs i) j
two_sets f g cs i j d e order =
    ap (λ (c : Cell). set (set cs i (f (get_or cs i d))) j (g c)) (sym (get_or-set_other cs i j (f (get_or cs i d)) e (λ k. omega (arith, order, k))))
    ∙ sym (adjust-set g (set cs i (f (get_or cs i d))) j e) ∙ ap (λ (xs : List Cell). adjust g xs j) (sym (adjust-set f cs i d))

-- an operation on two contents
pub two-adjusted : (m : MachineData) (op : OpKind) (cs front back : List Cell) (i j : ℕ) (d e : Cell) (x y : Content) → front ≡ take j cs → back ≡ drop j cs → i < j → j < length cs
    → x ∷ y ∷ [] ≡ acted m op ((get_or front i d).content ∷ (get_or back 0 e).content ∷ [])
    → set front i (record (get_or front i d) { content = x }) ++ set back 0 (record (get_or back 0 e) { content = y })
    ≡ adjust (holding (second (acted m op (content_or (slice_get cs i) ∷ content_or (slice_get cs j) ∷ [])))) (adjust (holding (first (acted m op (content_or (slice_get cs i) ∷ content_or (slice_get cs j) ∷ [])))) cs i) j
two-adjusted m op cs front back i j d e x y is_front is_back order within did =
    let left : List Content = acted m op (content_or (slice_get cs i) ∷ content_or (slice_get cs j) ∷ []) in
    let same : x ∷ y ∷ [] ≡ left = did ∙ ap₂ (λ (a b : Content). acted m op (a ∷ b ∷ [])) (sym (front_content cs front i j d is_front order within)) (sym (back_content cs back j e is_back within)) in
    ap₂ (λ (a b : Cell). set front i (record a { content = x }) ++ set back 0 (record b { content = y })) (front_there cs front i j d is_front order within) (back_there cs back j e is_back within)
    ∙ ap₂ (λ (xs ys : List Cell). set xs i (record (get_or cs i d) { content = x }) ++ set ys 0 (record (get_or cs j e) { content = y })) is_front is_back
    ∙ paste_two cs i j (record (get_or cs i d) { content = x }) (record (get_or cs j e) { content = y }) order within
    ∙ ap₂ (λ (a b : Content). set (set cs i (record (get_or cs i d) { content = a })) j (record (get_or cs j e) { content = b })) (ap first same) (ap second same)
    ∙ two_sets (holding (first left)) (holding (second left)) cs i j d e order

-- one change alone
pub first-adjusted : (f : Cell → Cell) (m : MachineData) (r : Res) (rs : List Res) (cs : List Cell) (i : ℕ) (d : Cell) → i ≡ index_of m r → set cs i (f (get_or cs i d)) ≡ adjust_all m (r ∷ rs) (f ∷ []) cs
first-adjusted f m r rs cs i d is = sym (adjust-set f cs i d) ∙ ap (adjust f cs) is ∙ only rs
  where
    only : (rs : List Res) → adjust f cs (index_of m r) ≡ adjust_all m rs [] (adjust f cs (index_of m r))
    only [] = refl
    only (q ∷ rs) = refl

-- each of the cells with what it holds
own_held : (cs : List Cell) (i : ℕ) → adjust (holding (content_or (slice_get cs i))) cs i ≡ cs
own_held [] i = refl
own_held (c ∷ cs) zero = refl
own_held (c ∷ cs) (suc i) = ap (λ (xs : List Cell). c ∷ xs) (own_held cs i)

own_all : (m : MachineData) (rs : List Res) (cs : List Cell) → adjust_all m rs (map holding (map (content_at m cs) rs)) cs ≡ cs
own_all m [] cs = refl
own_all m (r ∷ rs) cs = ap (adjust_all m rs (map holding (map (content_at m cs) rs))) (own_held cs (index_of m r)) ∙ own_all m rs cs

pub cells-untouched : (m : MachineData) (op : OpKind) (ts : List Res) (cs : List Cell) → ts ≡ touches op → length ts ≢ 1 → length ts ≢ 2 → cs ≡ adjust_all m (touches op) (map holding (acted m op (map (content_at m cs) (touches op)))) cs
cells-untouched m op ts cs is one two =
    sym (own_all m (touches op) cs)
    ∙ ap (λ (xs : List Content). adjust_all m (touches op) (map holding xs) cs) (sym (quiet m op (map (content_at m cs) (touches op)) (λ e. one (ap (λ (rs : List Res). length rs) is ∙ e)) (λ e. two (ap (λ (rs : List Res). length rs) is ∙ e))))

-- a clock of a loop over the touched resources
clock_there : (cs : List Cell) (i : ℕ) (d : Cell) → i < length cs → clock_or (slice_get cs i) ≡ (get_or cs i d).free_at
clock_there cs i d within = ap clock_or (slice_get-get_or cs i d within)

pub drop_next : {X : Type 0} (xs : List X) (i : ℕ) (d : X) → i < length xs → drop i xs ≡ get_or xs i d ∷ drop (i + 1) xs
drop_next [] i d h = absurd (omega arith)
drop_next (x ∷ xs) zero d h = refl
drop_next {X} (x ∷ xs) (suc i) d h = let one : suc (i + 1) ≡ suc i + 1 = omega arith in drop_next xs i d (omega arith) ∙ ap (λ (n : ℕ). get_or xs i d ∷ drop n (x ∷ xs)) one

pub freed-next : (m : MachineData) (ts : List Res) (finish : ℕ) (old now : List Cell) (k i : ℕ) (e : Res) (d : Cell) → k < length ts → i ≡ index_of m (get_or ts k e)
    → adjust_all m (drop k ts) (map (λ (r : Res). free_from finish) (drop k ts)) now ≡ adjust_all m ts (map (λ (r : Res). free_from finish) ts) old
    → adjust_all m (drop (k + 1) ts) (map (λ (r : Res). free_from finish) (drop (k + 1) ts)) (set now i (record (get_or now i d) { free_at = finish })) ≡ adjust_all m ts (map (λ (r : Res). free_from finish) ts) old
freed-next m ts finish old now k i e d less at before =
    let rest : List Res = drop (k + 1) ts in
    ap (adjust_all m rest (map (λ (r : Res). free_from finish) rest)) (sym (adjust-set (free_from finish) now i d) ∙ ap (adjust (free_from finish) now) at)
    ∙ ap (λ (rs : List Res). adjust_all m rs (map (λ (r : Res). free_from finish) rs) now) (sym (drop_next ts k e less)) ∙ before

pub start-next : (m : MachineData) (ts : List Res) (cs : List Cell) (k i start next : ℕ) (e : Res) (d : Cell) → k < length ts → i ≡ index_of m (get_or ts k e) → AreWithin m (length cs) ts → d ≡ get_or cs i d → next ≡ max d.free_at start
    → max start (greatest (map (clock_at m cs) (drop k ts))) ≡ greatest (map (clock_at m cs) ts) → max next (greatest (map (clock_at m cs) (drop (k + 1) ts))) ≡ greatest (map (clock_at m cs) ts)
start-next m ts cs k i start next e d less at all there is before =
    let within : i < length cs = subst (λ (n : ℕ). n < length cs) (sym at) (All-from_recursion (λ (r : Res). index_of m r < length cs) ts all k e less) in
    let rest : ℕ = greatest (map (clock_at m cs) (drop (k + 1) ts)) in
    let clock : d.free_at ≡ clock_at m cs (get_or ts k e) = ap (λ (c : Cell). c.free_at) there ∙ sym (clock_there cs i d within) ∙ ap (λ (n : ℕ). clock_or (slice_get cs n)) at in
    let step : max start (max (clock_at m cs (get_or ts k e)) rest) ≡ greatest (map (clock_at m cs) ts) = ap (λ (rs : List Res). max start (greatest (map (clock_at m cs) rs))) (sym (drop_next ts k e less)) ∙ before in
    joined start next d.free_at (clock_at m cs (get_or ts k e)) rest is clock ∙ step
  where
    joined : (a b x y z : ℕ) → b ≡ max x a → x ≡ y → max b z ≡ max a (max y z)
    joined a b x y z is same = omega (arith, is, same)

pub noted-first : (m : MachineData) (ts : List Res) (cs : List Cell) (i : ℕ) (done : Done) (e : Res) (d : Cell) (log : LogData) → 1 ≤ length ts → i ≡ index_of m (get_or ts 0 e) → log ≡ record { entries = (get_or cs i d).log.entries ++ done ∷ []; spare = (get_or cs i d).log.spare - 1 }
    → set cs i (record (get_or cs i d) { log = log }) ≡ adjust_all m ts (noted done ∷ []) cs
noted-first m [] cs i done e d log some at is = absurd (omega arith)
noted-first m (r ∷ rs) cs i done e d log some at is =
    ap (λ (l : LogData). set cs i (record (get_or cs i d) { log = l })) is
    ∙ first-adjusted (noted done) m r rs cs i d at
