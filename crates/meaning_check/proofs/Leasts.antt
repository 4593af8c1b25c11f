-- What the least numbers on an item's operands say of the items that share with it.
use Rattle.std.proofs.Common.{◌≡◌, ℕ, zero, suc, ◌+◌, ◌<◌, ◌≤◌, min, Bool, true, false, cond, eqb, ◌==◌, ◌||◌, List, [], ◌∷◌, ◌++◌, map, length, get_or, take, Some, refl, sym, ◌∙◌, ap, subst, arith, inl, inr}
use Rattle.std.specs.Prelude.{replicate, slice_get, filter}
use Rattle.std.specs.List.{list_any, All}
use Rattle.std.proofs.lemmas.Bool.{cases_Bool, cases_lt, cases_eq, eq-eqb, ne_eqb, or_right}
use Rattle.std.proofs.lemmas.List.{map_more, length-replicate, get_or-replicate, get_or-set_same, get_or-set_other}
use Rattle.std.proofs.lemmas.List.Folds.{list_any-append}
use Rattle.std.proofs.Math.Bool.{or-false}
use Rattle.std.proofs.Math.ListN.{set}
use Rattle.std.proofs.Math.Seq.{take-suc}
use Rattle.std.proofs.lemmas.Option.{same_Some, none-some}
use Rattle.qccd_circuit.specs.Circuit.{IsWithin}
use Rattle.qccd_circuit.specs.Item.{ItemData}
use Rattle.qccd_circuit.specs.Operands.{operands_of, uses}
use Rattle.qccd_circuit.specs.Sharing.{shares}
use Rattle.qccd_circuit.proofs.Shared.{shares-operands, shares-sym, operands_below}
use Rattle.meaning_check.specs.Least.{no_number, least, least_of, AreLeast}

-- ---- the least of some numbers

pub least-le : (ns : List ℕ) → least ns ≤ no_number
least-le [] = omega arith
least-le (n ∷ ns) = omega (arith, least-le ns)

least-append : (xs ys : List ℕ) → least (xs ++ ys) ≡ min (least xs) (least ys)
least-append [] ys = omega (arith, least-le ys)
least-append (x ∷ xs) ys = omega (arith, least-append xs ys)

-- one operand more
pub least_more : (f : ℕ → ℕ) (os : List ℕ) (k : ℕ) → k < length os → least (map f (take (k + 1) os)) ≡ min (least (map f (take k os))) (f (get_or os k 0))
least_more f os k within =
    ap least (map_more f os k 0 within) ∙ least-append (map f (take k os)) (f (get_or os k 0) ∷ []) ∙ omega (arith, least-le (map f (take k os)))

-- ---- the least number of the items that pass

-- one item more
pub least_with : (p : ItemData → Bool) (e : ℕ × ItemData) (list : List (ℕ × ItemData)) → least_of p (e ∷ list) ≡ min (cond (p e.1) e.0 no_number) (least_of p list)
least_with p e list = elim (cases_Bool (p e.1)) [
  | inl passes ↦ rw passes refl
  | inr fails ↦ rw fails (omega (arith, least-le (map (λ (x : ℕ × ItemData). x.0) (filter (λ (x : ℕ × ItemData). p x.1) list))))
]

least_passes : (p : ItemData → Bool) (e : ℕ × ItemData) (list : List (ℕ × ItemData)) → p e.1 ≡ true → least_of p (e ∷ list) ≡ min e.0 (least_of p list)
least_passes p e list passes = least_with p e list ∙ ap (λ (b : Bool). min (cond b e.0 no_number) (least_of p list)) passes

least_fails : (p : ItemData → Bool) (e : ℕ × ItemData) (list : List (ℕ × ItemData)) → p e.1 ≡ false → least_of p (e ∷ list) ≡ min no_number (least_of p list)
least_fails p e list fails = least_with p e list ∙ ap (λ (b : Bool). min (cond b e.0 no_number) (least_of p list)) fails

-- it is not above that of any that passes
pub least_below : (p : ItemData → Bool) (list : List (ℕ × ItemData)) (i n : ℕ) (d : ItemData) → slice_get list i ≡ Some (n, d) → p d ≡ true → least_of p list ≤ n
least_below p [] i n d there passes = absurd (none-some (n, d) there)
least_below p (e ∷ list) zero n d there passes =
    let same : e ≡ (n, d) = same_Some e (n, d) there in
    let number : e.0 ≡ n = ap (λ (x : ℕ × ItemData). x.0) same in
    let here : p e.1 ≡ true = ap (λ (x : ℕ × ItemData). p x.1) same ∙ passes in
    omega (arith, number, least_passes p e list here)
least_below p (e ∷ list) (suc i) n d there passes = omega (arith, least_with p e list, least_below p list i n d there passes)

-- and it is that of one that passes, where there is one
abbrev pub IsThere : (ItemData → Bool) → List (ℕ × ItemData) → ℕ → Type 0
IsThere p list n = (i : ℕ) × (d : ItemData) × (slice_get list i ≡ Some (n, d)) × (p d ≡ true)

there_later : (p : ItemData → Bool) (e : ℕ × ItemData) (list : List (ℕ × ItemData)) (m n : ℕ) → m ≡ n → IsThere p list n → IsThere p (e ∷ list) m
there_later p e list m n same r = (suc r.0, r.1, r.2 ∙ ap (λ (k : ℕ). Some (k, r.1)) (sym same), r.3)

pub least_there : (p : ItemData → Bool) (list : List (ℕ × ItemData)) → least_of p list < no_number → IsThere p list (least_of p list)
least_there p [] low = absurd (omega (arith, low))
least_there p (e ∷ list) low = elim (cases_Bool (p e.1)) [
  | inl passes ↦
      let is : least_of p (e ∷ list) ≡ min e.0 (least_of p list) = least_passes p e list passes in
      elim (cases_lt (least_of p list) e.0) [
        | inl less ↦
            let same : least_of p (e ∷ list) ≡ least_of p list = omega (arith, is, less) in
            there_later p e list (least_of p (e ∷ list)) (least_of p list) same (least_there p list (omega (arith, same, low)))
        | inr more ↦
            let same : least_of p (e ∷ list) ≡ e.0 = omega (arith, is, more) in
            (0, e.1, ap (λ (n : ℕ). Some (n, e.1)) (sym same), passes)
      ]
  | inr fails ↦
      let is : least_of p (e ∷ list) ≡ min no_number (least_of p list) = least_fails p e list fails in
      let same : least_of p (e ∷ list) ≡ least_of p list = omega (arith, is, low) in
      there_later p e list (least_of p (e ∷ list)) (least_of p list) same (least_there p list (omega (arith, same, low)))
]

-- ---- on operands

all_rest : (x : ℕ) (xs : List ℕ) (n : ℕ) → All (λ o. o < n) (x ∷ xs) → All (λ o. o < n) xs
all_rest x xs n all = λ k d h. all (suc k) d (omega arith)

-- the least number on an operand
abbrev pub least_on : List (ℕ × ItemData) → ℕ → ℕ
least_on list o = least_of (λ d. uses d o) list

least_rows : (list : List (ℕ × ItemData)) (rows os : List ℕ) → AreLeast list rows → All (λ o. o < 512) os → least (map (λ o. get_or rows o 0) os) ≡ least (map (least_on list) os)
least_rows list rows [] shows all = refl
least_rows list rows (o ∷ os) shows all =
    let small : o < 512 = all 0 0 (omega arith) in
    omega (arith, shows.row o small, least_rows list rows os shows (all_rest o os 512 all))

-- one item more
least_on_with : (e : ℕ × ItemData) (list : List (ℕ × ItemData)) (o : ℕ) → least_on (e ∷ list) o ≡ min (cond (uses e.1 o) e.0 no_number) (least_on list o)
least_on_with e list o = least_with (λ d. uses d o) e list

mixed : (a b : Bool) (n x y : ℕ) → x ≤ no_number → y ≤ no_number
    → min (min (cond a n no_number) x) (min (cond b n no_number) y) ≡ min (cond (a || b) n no_number) (min x y)
mixed true true n x y low_x low_y = omega (arith, low_x, low_y)
mixed true false n x y low_x low_y = omega (arith, low_x, low_y)
mixed false true n x y low_x low_y = omega (arith, low_x, low_y)
mixed false false n x y low_x low_y = omega (arith, low_x, low_y)

leasts_with : (e : ℕ × ItemData) (list : List (ℕ × ItemData)) (os : List ℕ)
    → least (map (least_on (e ∷ list)) os) ≡ min (cond (list_any (uses e.1) os) e.0 no_number) (least (map (least_on list) os))
leasts_with e list [] = omega arith
leasts_with e list (o ∷ os) =
    rw (least_on_with e list o, leasts_with e list os)
    (mixed (uses e.1 o) (list_any (uses e.1) os) e.0 (least_on list o) (least (map (least_on list) os))
    (least-le (map (λ (x : ℕ × ItemData). x.0) (filter (λ (x : ℕ × ItemData). uses x.1 o) list))) (least-le (map (least_on list) os)))

none_least : (os : List ℕ) → least (map (least_on []) os) ≡ no_number
none_least [] = refl
none_least (o ∷ os) = omega (arith, none_least os)

least_of_operands : (list : List (ℕ × ItemData)) (d : ItemData) → least (map (least_on list) (operands_of d)) ≡ least_of (λ a. shares a d) list
least_of_operands [] d = none_least (operands_of d)
least_of_operands (e ∷ list) d =
    let same : shares e.1 d ≡ list_any (uses e.1) (operands_of d) = shares-sym e.1 d ∙ shares-operands d e.1 in
    leasts_with e list (operands_of d)
    ∙ ap (λ (b : Bool). min (cond b e.0 no_number) (least (map (least_on list) (operands_of d)))) (sym same)
    ∙ ap (λ (n : ℕ). min (cond (shares e.1 d) e.0 no_number) n) (least_of_operands list d)
    ∙ sym (least_with (λ a. shares a d) e list)

-- the least number on an item's operands is that of the items that share with it
pub least_of_rows : (list : List (ℕ × ItemData)) (rows : List ℕ) (d : ItemData) → IsWithin 256 256 d → AreLeast list rows
    → least (map (λ o. get_or rows o 0) (operands_of d)) ≡ least_of (λ a. shares a d) list
least_of_rows list rows d within shows = least_rows list rows (operands_of d) shows (operands_below d within) ∙ least_of_operands list d

pub operand_below : (d : ItemData) (k : ℕ) → IsWithin 256 256 d → k < length (operands_of d) → get_or (operands_of d) k 0 < 512
operand_below d k within h = operands_below d within k 0 h

-- ---- the table

-- the operands of one item more have its number where no lesser one is there
pub AreLeast-put : (list : List (ℕ × ItemData)) (old new : List ℕ) (n : ℕ) (d : ItemData) → AreLeast list old → length new ≡ 512
    → ((o : ℕ) → o < 512 → get_or new o 0 ≡ cond (uses d o) (min (get_or old o 0) n) (get_or old o 0)) → AreLeast ((n, d) ∷ list) new
AreLeast-put list old new n d shows all rows = record { all = all; row = put }
  where
    put : (o : ℕ) → o < 512 → get_or new o 0 ≡ least_on ((n, d) ∷ list) o
    put o small =
        let before : get_or old o 0 ≡ least_on list o = shows.row o small in
        elim (cases_Bool (uses d o)) [
          | inl is ↦
              let here : get_or new o 0 ≡ min (get_or old o 0) n = rows o small ∙ rw is refl in
              let there : least_on ((n, d) ∷ list) o ≡ min n (least_on list o) = least_passes (λ a. uses a o) (n, d) list is in
              omega (arith, before, here, there)
          | inr not_o ↦
              let here : get_or new o 0 ≡ get_or old o 0 = rows o small ∙ rw not_o refl in
              let there : least_on ((n, d) ∷ list) o ≡ min no_number (least_on list o) = least_fails (λ a. uses a o) (n, d) list not_o in
              omega (arith, before, here, there, least-le (map (λ (x : ℕ × ItemData). x.0) (filter (λ (x : ℕ × ItemData). uses x.1 o) list)))
        ]

any_next : (os : List ℕ) (k o : ℕ) → k < length os → list_any (λ x. x == o) (take (k + 1) os) ≡ (list_any (λ x. x == o) (take k os) || eqb (get_or os k 0) o)
any_next os k o within =
    let n : k + 1 ≡ suc k = omega arith in
    ap (λ (j : ℕ). list_any (λ x. x == o) (take j os)) n ∙ ap (list_any (λ x. x == o)) (take-suc os k 0 within)
    ∙ list_any-append (λ x. x == o) (take k os) (get_or os k 0 ∷ []) ∙ ap (λ (b : Bool). list_any (λ x. x == o) (take k os) || b) (or-false (eqb (get_or os k 0) o))

again : (b : Bool) (i n : ℕ) → min (cond b (min i n) i) n ≡ min i n
again true i n = omega arith
again false i n = refl

-- one operand more has the number
pub put_next : (os rows first : List ℕ) (k n row m : ℕ) → k < length os → row ≡ get_or os k 0 → row < 512 → length rows ≡ 512 → m ≡ min (get_or rows row 0) n
    → ((o : ℕ) → o < 512 → get_or rows o 0 ≡ cond (list_any (λ x. x == o) (take k os)) (min (get_or first o 0) n) (get_or first o 0))
    → (o : ℕ) → o < 512 → get_or (set rows row m) o 0 ≡ cond (list_any (λ x. x == o) (take (k + 1) os)) (min (get_or first o 0) n) (get_or first o 0)
put_next os rows first k n row m within is below all is_m so_far o small = elim (cases_eq row o) [
  | inl same ↦
      let has : list_any (λ x. x == o) (take (k + 1) os) ≡ true =
      any_next os k o within ∙ or_right (list_any (λ x. x == o) (take k os)) (eqb (get_or os k 0) o) (eq-eqb (get_or os k 0) o (sym is ∙ same)) in
      let here : get_or (set rows row m) o 0 ≡ m = subst (λ (x : ℕ). get_or (set rows row m) x 0 ≡ m) same (get_or-set_same rows row m 0 (omega (arith, below, all))) in
      let value : m ≡ min (get_or rows o 0) n = is_m ∙ ap (λ (x : ℕ). min (get_or rows x 0) n) same in
      here ∙ value ∙ ap (λ (x : ℕ). min x n) (so_far o small) ∙ again (list_any (λ x. x == o) (take k os)) (get_or first o 0) n
      ∙ sym (ap (λ (b : Bool). cond b (min (get_or first o 0) n) (get_or first o 0)) has)
  | inr apart ↦
      let same : list_any (λ x. x == o) (take (k + 1) os) ≡ list_any (λ x. x == o) (take k os) =
      any_next os k o within ∙ ap (λ (b : Bool). list_any (λ x. x == o) (take k os) || b) (ne_eqb (get_or os k 0) o (λ e. apart (is ∙ e)))
      ∙ or-false (list_any (λ x. x == o) (take k os)) in
      get_or-set_other rows row o m 0 (λ e. apart (sym e)) ∙ so_far o small ∙ sym (ap (λ (b : Bool). cond b (min (get_or first o 0) n) (get_or first o 0)) same)
]

-- nothing is in the list
pub AreLeast-none : AreLeast [] (replicate 512 no_number)
AreLeast-none = record { all = length-replicate {A = ℕ} 512 no_number; row = λ o small. get_or-replicate {A = ℕ} 512 o no_number 0 small }
