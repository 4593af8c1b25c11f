-- The turns of the operations, counted in one pass.
use Rattle.std.proofs.Common.{◌≡◌, ◌≢◌, ℕ, zero, suc, ◌+◌, ◌-◌, ◌*◌, ◌^◌, ◌%◌, ◌<◌, ◌≤◌, inl, inr, Bool, true, false, cond, ◌==◌, if◌then◌else◌, List, [], ◌∷◌, ◌++◌, map, length, take, drop, set, get_or, refl, sym, ◌∙◌, ap, ap₂, subst, arith, Option, Some, None, All, length-set, length-append}
use Rattle.std.specs.Prelude.{slice_get}
use Rattle.std.proofs.lemmas.Bool.{cases_Bool, cases_lt, cases_eq, eq-eqb, ne_eqb, false≢true, ltb-true}
use Rattle.std.proofs.lemmas.Option.{same_Some, none-some, get_or_from_slice_get, slice_get-get_or}
use Rattle.std.proofs.lemmas.List.Sums.{count_by-le-length}
use Rattle.qccd_base.specs.declared.names.Res.{Res}
use Rattle.qccd_base.specs.Resource.{among, same_res, comes_before}
use Rattle.qccd_machine.specs.Machine.{MachineData}
use Rattle.op_table.specs.declared.kinds.OpKind.{OpKind}
use Rattle.op_table.specs.Touch.{touches, named, nth}
use Rattle.op_cells.specs.Numbering.{count_of, index_of, IsThere}
use Rattle.qccd_program.specs.Turns.{HasTurns, Counts, counted, counted_up, found, up_one}
use Rattle.std.specs.List.{AllByRecursion}
use Rattle.op_table.proofs.Neighbours.{own_among, same_res_is}
use Rattle.op_cells.proofs.InTurn.{index-same}
use Rattle.op_cells.proofs.Rising.{Rising, rising-ascending, differs}
use Rattle.op_table.proofs.Shared.{set-get}
use Rattle.qccd_program.proofs.Turning.{nth-own}
use Rattle.qccd_base.specs.declared.names.Res.TheVariants as res

pub index-within : (m : MachineData) (n : ℕ) (r : Res) → IsThere m n r → index_of m r < count_of m n
index-within m n (res.Trap t) a = omega (arith, a)
index-within m n (res.Seg t) a = omega (arith, a)
index-within m n (res.Junc t) a = omega (arith, a)
index-within m n (res.Bit t) a = omega (arith, a)

-- numbers ascend with their resources
index_rises : (m : MachineData) (n : ℕ) (q r : Res) → IsThere m n q → IsThere m n r → comes_before q r ≡ true → index_of m q < index_of m r
index_rises m n (res.Trap t) (res.Trap u) a b h = ltb-true t.0 u.0 h
index_rises m n (res.Trap t) (res.Seg u) a b h = omega (arith, a)
index_rises m n (res.Trap t) (res.Junc u) a b h = omega (arith, a)
index_rises m n (res.Trap t) (res.Bit u) a b h = omega (arith, a)
index_rises m n (res.Seg t) (res.Trap u) a b h = absurd (false≢true h)
index_rises m n (res.Seg t) (res.Seg u) a b h = let less : t.0 < u.0 = ltb-true t.0 u.0 h in omega (arith, less)
index_rises m n (res.Seg t) (res.Junc u) a b h = omega (arith, a)
index_rises m n (res.Seg t) (res.Bit u) a b h = omega (arith, a)
index_rises m n (res.Junc t) (res.Trap u) a b h = absurd (false≢true h)
index_rises m n (res.Junc t) (res.Seg u) a b h = absurd (false≢true h)
index_rises m n (res.Junc t) (res.Junc u) a b h = let less : t.0 < u.0 = ltb-true t.0 u.0 h in omega (arith, less)
index_rises m n (res.Junc t) (res.Bit u) a b h = omega (arith, a)
index_rises m n (res.Bit t) (res.Trap u) a b h = absurd (false≢true h)
index_rises m n (res.Bit t) (res.Seg u) a b h = absurd (false≢true h)
index_rises m n (res.Bit t) (res.Junc u) a b h = absurd (false≢true h)
index_rises m n (res.Bit t) (res.Bit u) a b h = let less : t.0 < u.0 = ltb-true t.0 u.0 h in omega (arith, less)

-- so there are no more of them than there are resources
rising_fits : (m : MachineData) (n : ℕ) (q : Res) (qs : List Res) → Rising (q ∷ qs) → AllByRecursion (IsThere m n) (q ∷ qs) → index_of m q + length (q ∷ qs) ≤ count_of m n
rising_fits m n q [] up there = omega (arith, index-within m n q there.0)
rising_fits m n q (r ∷ rs) up there = omega (arith, index_rises m n q r there.0 there.1.0 up.0.0, rising_fits m n r rs up.1 there.1)

rising_few : (m : MachineData) (n : ℕ) (rs : List Res) → Rising rs → AllByRecursion (IsThere m n) rs → length rs ≤ count_of m n
rising_few m n [] up there = omega arith
rising_few m n (r ∷ rs) up there = omega (arith, rising_fits m n r rs up there)

found_long : (m : MachineData) (cs : List ℕ) (rs : List Res) → length (found m cs rs) ≡ length rs
found_long m cs [] = refl
found_long m cs (r ∷ rs) = ap suc (found_long m (counted_up m cs r) rs)

-- one more at each of these
abbrev pub plus : (Res → ℕ) → List Res → Res → ℕ
plus turn rs r = turn r + cond (among rs r) 1 0

pub set_counts : (m : MachineData) (n : ℕ) (turn : Res → ℕ) (cs : List ℕ) (q : Res) → Counts m n turn cs → IsThere m n q → turn q < 4194304
    → Counts m n (λ r. turn r + cond (same_res q r) 1 0) (counted_up m cs q)
set_counts m n turn cs q is there low = record {
  long = length-set cs (index_of m q) (up_one (get_or cs (index_of m q) 0)) ∙ is.long;
  each = λ r at.
      let within : index_of m q < length cs = omega (arith, is.long, index-within m n q there) in
      let old : get_or cs (index_of m q) 0 ≡ turn q = get_or_from_slice_get cs (index_of m q) (turn q) 0 (is.each q there) in
      let new : up_one (get_or cs (index_of m q) 0) ≡ turn q + 1 = omega (arith, old, low) in
      set-get cs (index_of m q) (index_of m r) (up_one (get_or cs (index_of m q) 0)) within
      ∙ elim (cases_eq (index_of m r) (index_of m q)) [
        | inl h ↦
            let one : same_res q r ≡ true = index-same m n n q r there at (sym h) in
            let same : q ≡ r = same_res_is q r one in
            ap (λ (b : Bool). if b then Some (up_one (get_or cs (index_of m q) 0)) else slice_get cs (index_of m r)) (eq-eqb (index_of m r) (index_of m q) h)
            ∙ ap Some (new ∙ ap₂ (λ (x : Res) (b : Bool). turn x + cond b 1 0) same (sym one))
        | inr h ↦
            let none : same_res q r ≡ false = Rattle.std.proofs.lemmas.Bool.false_from_ne_true (same_res q r) (λ k. h (ap (index_of m) (sym (same_res_is q r k)))) in
            ap (λ (b : Bool). if b then Some (up_one (get_or cs (index_of m q) 0)) else slice_get cs (index_of m r)) (ne_eqb (index_of m r) (index_of m q) h)
            ∙ is.each r at ∙ ap Some (add_none (turn r) ∙ ap (λ (b : Bool). turn r + cond b 1 0) (sym none))
      ];
}
  where
    add_none : (n : ℕ) → n ≡ n + 0
    add_none n = omega arith

pub each_apart : (q : Res) (rs : List Res) → AllByRecursion (λ x. comes_before q x ≡ true) rs → among rs q ≡ false
each_apart q [] up = refl
each_apart q (x ∷ rs) up = both (same_res x q) (among rs q) (turned_res x q (differs q x up.0)) (each_apart q rs up.1)
  where
    both : (a b : Bool) → a ≡ false → b ≡ false → Rattle.std.proofs.Common.◌||◌ a b ≡ false
    both true b h k = h
    both false b h k = k

    turned_res : (x q : Res) → same_res q x ≡ false → same_res x q ≡ false
    turned_res x q h = Rattle.std.proofs.lemmas.Bool.false_from_ne_true (same_res x q) (λ k. let is : x ≡ q = same_res_is x q k in false≢true (sym h ∙ ap (λ (y : Res). same_res q y) is ∙ Rattle.qccd_program.proofs.Worlds.same_own q))

pub counts_alike : (m : MachineData) (n : ℕ) (f g : Res → ℕ) (cs : List ℕ) → ((r : Res) → f r ≡ g r) → Counts m n f cs → Counts m n g cs
counts_alike m n f g cs same is = record { long = is.long; each = λ r at. is.each r at ∙ ap Some (same r) }

-- the counters after an ascending list, and what was found
counts_all : (m : MachineData) (n : ℕ) (turn : Res → ℕ) (cs : List ℕ) (rs : List Res) → Counts m n turn cs → Rising rs → AllByRecursion (IsThere m n) rs → ((r : Res) → among rs r ≡ true → turn r < 4194304)
    → Counts m n (plus turn rs) (counted m cs rs) × (found m cs rs ≡ map turn rs)
counts_all m n turn cs [] is up there low = (counts_alike m n turn (plus turn []) cs (λ r. omega arith) is, refl)
counts_all m n turn cs (q ∷ rs) is up there low =
    let next : Res → ℕ = λ r. turn r + cond (same_res q r) 1 0 in
    let apart : (r : Res) → among rs r ≡ true → same_res q r ≡ false = λ r at. Rattle.std.proofs.lemmas.Bool.false_from_ne_true (same_res q r) (λ k. let is : q ≡ r = same_res_is q r k in false≢true (sym (each_apart q rs up.0) ∙ ap (among rs) is ∙ at)) in
    let same : (r : Res) → among rs r ≡ true → next r ≡ turn r = λ r at. ap (λ (b : Bool). turn r + cond b 1 0) (apart r at) ∙ add_none (turn r) in
    let rest = counts_all m n next (counted_up m cs q) rs (set_counts m n turn cs q is there.0 (low q (own_among q rs))) up.1 there.1
    (λ r at. let e : next r ≡ turn r = same r at in let l : turn r < 4194304 = low r (Rattle.std.proofs.lemmas.Bool.or_right (same_res q r) (among rs r) at) in omega (arith, e, l)) in (
      counts_alike m n (plus next rs) (plus turn (q ∷ rs)) (counted m cs (q ∷ rs)) (λ r. joined (same_res q r) (among rs r) (turn r) (λ at. apart r at)) rest.0,
      ap₂ (λ (x : ℕ) (xs : List ℕ). x ∷ xs) (get_or_from_slice_get cs (index_of m q) (turn q) 0 (is.each q there.0)) (rest.1 ∙ Rattle.qccd_program.proofs.MeetsCells.maps_touched rs next turn same),
    )
  where
    add_none : (n : ℕ) → n + 0 ≡ n
    add_none n = omega arith

    joined : (a b : Bool) (t : ℕ) → (b ≡ true → a ≡ false) → t + cond a 1 0 + cond b 1 0 ≡ t + cond (Rattle.std.proofs.Common.◌||◌ a b) 1 0
    joined true true t h = absurd (false≢true (sym (h refl)))
    joined true false t h = omega arith
    joined false true t h = omega arith
    joined false false t h = omega arith

each_of : (P : Res → Type 0) (rs : List Res) → ((r : Res) → among rs r ≡ true → P r) → AllByRecursion P rs
each_of P [] h = tt
each_of P (r ∷ rs) h = (h r (own_among r rs), each_of P rs (λ x at. h x (Rattle.std.proofs.lemmas.Bool.or_right (same_res r x) (among rs x) at)))

pub get_front : {X : Type 0} (xs ys : List X) (i : ℕ) (x : X) → slice_get xs i ≡ Some x → slice_get (xs ++ ys) i ≡ Some x
get_front [] ys i x h = absurd (none-some x h)
get_front (z ∷ xs) ys zero x h = h
get_front (z ∷ xs) ys (suc i) x h = get_front xs ys i x h

pub get_back : {X : Type 0} (xs ys : List X) (i : ℕ) → slice_get (xs ++ ys) (length xs + i) ≡ slice_get ys i
get_back [] ys i = let same : 0 + i ≡ i = omega arith in ap (slice_get ys) same
get_back (z ∷ xs) ys i = let same : suc (length xs) + i ≡ suc (length xs + i) = omega arith in ap (slice_get (z ∷ xs ++ ys)) same ∙ get_back xs ys i

pub get_last : {X : Type 0} (xs : List X) (x : X) (n : ℕ) → length xs ≡ n → slice_get (xs ++ x ∷ []) n ≡ Some x
get_last xs x n is = let same : n ≡ length xs + 0 = omega (arith, is) in ap (slice_get (xs ++ x ∷ [])) same ∙ get_back xs (x ∷ []) 0

pub get_mapped : {X Y : Type 0} (f : X → Y) (xs : List X) (i : ℕ) (x : X) → slice_get xs i ≡ Some x → slice_get (map f xs) i ≡ Some (f x)
get_mapped f [] i x h = absurd (none-some x h)
get_mapped f (z ∷ xs) zero x h = ap (λ (y : _). Some (f y)) (same_Some z x h)
get_mapped f (z ∷ xs) (suc i) x h = get_mapped f xs i x h

pub nth-le : (ops : List OpKind) (k : ℕ) (r : Res) → nth ops k r ≤ k
nth-le ops k r = omega (arith, count_by-le-length (λ (o : OpKind). among (touches o) r) (take k ops), short ops k)
  where
    short : (ops : List OpKind) (k : ℕ) → length (take k ops) ≤ k
    short ops zero = omega arith
    short [] (suc k) = omega arith
    short (o ∷ ops) (suc k) = omega (arith, short ops k)

-- one operation more
pub table-next : (m : MachineData) (n : ℕ) (ops : List OpKind) (k : ℕ) (op : OpKind) (cs starts turns : List ℕ) → slice_get ops k ≡ Some op → k < 4194304 → ((r : Res) → among (touches op) r ≡ true → IsThere m n r)
    → HasTurns ops k starts turns → Counts m n (nth ops k) cs
    → HasTurns ops (k + 1) (starts ++ length turns ∷ []) (turns ++ found m cs (touches op)) × Counts m n (nth ops (k + 1)) (counted m cs (touches op))
table-next m n ops k op cs starts turns is few there has counts =
    let all = counts_all m n (nth ops k) cs (touches op) counts (rising-ascending (named op)) (each_of (IsThere m n) (touches op) there) (λ r at. omega (arith, nth-le ops k r, few)) in
    let one : suc k ≡ k + 1 = omega arith in (
      record {
        long = omega (arith, length-append starts (length turns ∷ []), has.long);
        at = λ j i o r less here within. elim (cases_lt j k) [
          | inl before ↦ let x = has.at j i o r before here within in (x.0, get_front starts (length turns ∷ []) j x.0 x.1, get_front turns (found m cs (touches op)) (x.0 + i) (nth ops j r) x.2)
          | inr past ↦
              let same : j ≡ k = omega (arith, less, past) in
              let own : o ≡ op = same_Some o op (sym here ∙ ap (slice_get ops) same ∙ is) in (
                length turns,
                ap (slice_get (starts ++ length turns ∷ [])) same ∙ get_last starts (length turns) k has.long,
                get_back turns (found m cs (touches op)) i ∙ ap (λ (xs : List ℕ). slice_get xs i) all.1 ∙ get_mapped (nth ops k) (touches op) i r (ap (λ (x : OpKind). slice_get (touches x) i) (sym own) ∙ within)
                    ∙ ap (λ (y : ℕ). Some (nth ops y r)) (sym same),
              )
        ];
      },
      counts_alike m n (plus (nth ops k) (touches op)) (nth ops (k + 1)) (counted m cs (touches op)) (λ r. sym (nth-own ops k op r is) ∙ ap (λ (y : ℕ). nth ops y r) one) all.0,
    )

-- ---- what the builder's loop needs

pub counts-start : (m : MachineData) (n : ℕ) (ops : List OpKind) (cs : List ℕ) → cs ≡ Rattle.std.specs.Prelude.replicate (count_of m n) 0 → Counts m n (nth ops 0) cs
counts-start m n ops cs is = subst (Counts m n (nth ops 0)) (sym is) (record { long = zeros (count_of m n); each = λ r at. zero_at (count_of m n) (index_of m r) (index-within m n r at) })
  where
    zeros : (n : ℕ) → length {A = ℕ} (Rattle.std.specs.Prelude.replicate n 0) ≡ n
    zeros zero = refl
    zeros (suc n) = ap suc (zeros n)

    zero_at : (n i : ℕ) → i < n → slice_get {X = ℕ} (Rattle.std.specs.Prelude.replicate n 0) i ≡ Some 0
    zero_at zero i h = absurd (omega arith)
    zero_at (suc n) zero h = refl
    zero_at (suc n) (suc i) h = zero_at n i (omega arith)

pub no-turns : (ops : List OpKind) → HasTurns ops 0 [] []
no-turns ops = record { long = refl; at = λ k i op r less. absurd (omega arith) }

pub all_there : (m : MachineData) (n : ℕ) (cs : List ℕ) (rs : List Res) → length cs ≡ count_of m n → ((r : Res) → among rs r ≡ true → IsThere m n r) → All (λ r. index_of m r < length cs) rs
all_there m n cs rs long there = Rattle.std.proofs.lemmas.List.Elements.All-from_recursion (λ r. index_of m r < length cs) rs (go rs there)
  where
    go : (rs : List Res) → ((r : Res) → among rs r ≡ true → IsThere m n r) → Rattle.std.specs.List.AllByRecursion (λ r. index_of m r < length cs) rs
    go [] there = tt
    go (r ∷ rs) there = (let a = index-within m n r (there r (own_among r rs)) in omega (arith, a, long), go rs (λ x at. there x (Rattle.std.proofs.lemmas.Bool.or_right (same_res r x) (among rs x) at)))

pub read-of : (ops : List OpKind) (k : ℕ) (op : OpKind) → op ≡ get_or ops k op → k < length ops → slice_get ops k ≡ Some op
read-of ops k op is less = slice_get-get_or ops k op less ∙ ap Some (sym is)

pub may-count : (m : MachineData) (n : ℕ) (ops : List OpKind) (k : ℕ) (op : OpKind) (cs : List ℕ) (rs : List Res) → rs ≡ touches op → ((j : ℕ) (o : OpKind) (r : Res) → slice_get ops j ≡ Some o → among (touches o) r ≡ true → IsThere m n r) → op ≡ get_or ops k op → k < length ops
    → Counts m n (nth ops k) cs → All (λ r. index_of m r < length cs) rs
may-count m n ops k op cs rs same there is less counts = all_there m n cs rs counts.long (λ r at. there k op r (read-of ops k op is less) (ap (λ (xs : List Res). among xs r) (sym same) ∙ at))

-- the flat list stays so short that its places have 32 bits
pub turns-few : (m : MachineData) (n : ℕ) (ops : List OpKind) (k : ℕ) (op : OpKind) (cs turns now : List ℕ) (rs : List Res) → count_of m n ≤ 480 → ((j : ℕ) (o : OpKind) (r : Res) → slice_get ops j ≡ Some o → among (touches o) r ≡ true → IsThere m n r) → op ≡ get_or ops k op → k < length ops
    → rs ≡ touches op → now ≡ turns ++ found m cs rs → length turns ≤ 480 * k → length now ≤ 480 * (k + 1)
turns-few m n ops k op cs turns now rs few there is less same e short =
    let fits : length (touches op) ≤ count_of m n = rising_few m n (touches op) (rising-ascending (named op)) (each_of (IsThere m n) (touches op) (λ r at. there k op r (read-of ops k op is less) at)) in
    let long : length rs ≡ length (touches op) = ap (λ (xs : List Res). length xs) same in
    let all : length now ≡ length turns + length rs = ap (λ (xs : List ℕ). length xs) e ∙ length-append turns (found m cs rs) ∙ ap (λ (n : ℕ). length turns + n) (found_long m cs rs) in
    omega (arith, all, long, fits, few, short)

pub counted-next : (m : MachineData) (n : ℕ) (ops : List OpKind) (k : ℕ) (op : OpKind) (cs starts turns : List ℕ) (rs : List Res) (now_cs now_starts now_turns : List ℕ) → length ops ≤ 4194304
    → ((j : ℕ) (o : OpKind) (r : Res) → slice_get ops j ≡ Some o → among (touches o) r ≡ true → IsThere m n r) → op ≡ get_or ops k op → k < length ops
    → HasTurns ops k starts turns → Counts m n (nth ops k) cs → rs ≡ touches op
    → now_starts ≡ starts ++ length turns ∷ [] → now_turns ≡ turns ++ found m cs rs → now_cs ≡ counted m cs rs
    → HasTurns ops (k + 1) now_starts now_turns × Counts m n (nth ops (k + 1)) now_cs
counted-next m n ops k op cs starts turns rs now_cs now_starts now_turns few there is less has counts same e f g =
    let at : slice_get ops k ≡ Some op = read-of ops k op is less in
    let next = table-next m n ops k op cs starts turns at (omega (arith, less, few)) (λ r in_op. there k op r at in_op) has counts in (
      subst (λ (ss : List ℕ). HasTurns ops (k + 1) ss now_turns) (sym e) (subst (HasTurns ops (k + 1) (starts ++ length turns ∷ [])) (sym (f ∙ ap (λ (xs : List Res). turns ++ found m cs xs) same)) next.0),
      subst (Counts m n (nth ops (k + 1))) (sym (g ∙ ap (counted m cs) same)) next.1,
    )
