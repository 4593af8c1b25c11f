-- What the marks on an item's operands say of the items that share with it.
use Rattle.std.proofs.Common.{◌≡◌, ℕ, suc, ◌+◌, ◌<◌, ◌≤◌, ◌==◌, max, Bool, true, cond, eqb, List, [], ◌∷◌, ◌++◌, map, length, get_or, take, refl, sym, ◌∙◌, ap, arith, inl, inr}
use Rattle.std.specs.Prelude.{replicate}
use Rattle.std.specs.List.{list_any, All}
use Rattle.std.proofs.lemmas.Bool.{cases_Bool, eqb-true}
use Rattle.std.proofs.lemmas.List.{map_more, length-replicate, get_or-replicate}
use Rattle.qccd_base.specs.Greatest.{greatest}
use Rattle.qccd_circuit.specs.Circuit.{IsWithin}
use Rattle.qccd_circuit.specs.Item.{ItemData}
use Rattle.qccd_circuit.specs.Marks.{Marked, AreMarks, mark_on, mark_before}
use Rattle.qccd_circuit.specs.Operands.{operands_of, uses}
use Rattle.qccd_circuit.specs.Sharing.{shares}
use Rattle.qccd_circuit.proofs.Shared.{shares-operands, shares-sym, operands_below}

pub greatest-append : (xs ys : List ℕ) → greatest (xs ++ ys) ≡ max (greatest xs) (greatest ys)
greatest-append [] ys = omega arith
greatest-append (x ∷ xs) ys = omega (arith, greatest-append xs ys)

-- one operand more
pub greatest_more : (f : ℕ → ℕ) (os : List ℕ) (k : ℕ) → k < length os → greatest (map f (take (k + 1) os)) ≡ max (greatest (map f (take k os))) (f (get_or os k 0))
greatest_more f os k within =
    ap greatest (map_more f os k 0 within) ∙ greatest-append (map f (take k os)) (f (get_or os k 0) ∷ []) ∙ omega arith

all_rest : (x : ℕ) (xs : List ℕ) (n : ℕ) → All (λ o. o < n) (x ∷ xs) → All (λ o. o < n) xs
all_rest x xs n all = λ k d h. all (suc k) d (omega arith)

greatest_rows : (marked : List Marked) (rows os : List ℕ) → AreMarks marked rows → All (λ o. o < 512) os → greatest (map (λ o. get_or rows o 0) os) ≡ greatest (map (mark_on marked) os)
greatest_rows marked rows [] shows all = refl
greatest_rows marked rows (o ∷ os) shows all =
    let small : o < 512 = all 0 0 (omega arith) in
    omega (arith, shows.row o small, greatest_rows marked rows os shows (all_rest o os 512 all))

-- the marks on operands, one marked item at a time
mark_with : (e : Marked) (marked : List Marked) (o : ℕ) → mark_on (e ∷ marked) o ≡ max (cond (uses e.item o) e.mark 0) (mark_on marked o)
mark_with e marked o = elim (cases_Bool (uses e.item o)) [ inl is ↦ rw is refl | inr not_o ↦ rw not_o (omega arith) ]

marks_with : (e : Marked) (marked : List Marked) (os : List ℕ) → greatest (map (mark_on (e ∷ marked)) os) ≡ max (cond (list_any (uses e.item) os) e.mark 0) (greatest (map (mark_on marked) os))
marks_with e marked [] = omega arith
marks_with e marked (o ∷ os) =
    let here : mark_on (e ∷ marked) o ≡ max (cond (uses e.item o) e.mark 0) (mark_on marked o) = mark_with e marked o in
    let rest : greatest (map (mark_on (e ∷ marked)) os) ≡ max (cond (list_any (uses e.item) os) e.mark 0) (greatest (map (mark_on marked) os)) = marks_with e marked os in
    elim (cases_Bool (uses e.item o)) [
      | inl is ↦ let here' : mark_on (e ∷ marked) o ≡ max e.mark (mark_on marked o) = here ∙ rw is refl in
          elim (cases_Bool (list_any (uses e.item) os)) [
            | inl more ↦ let rest' : greatest (map (mark_on (e ∷ marked)) os) ≡ max e.mark (greatest (map (mark_on marked) os)) = rest ∙ rw more refl in rw is (omega (arith, here', rest'))
            | inr none ↦ let rest' : greatest (map (mark_on (e ∷ marked)) os) ≡ max 0 (greatest (map (mark_on marked) os)) = rest ∙ rw none refl in rw is (omega (arith, here', rest'))
          ]
      | inr not_o ↦ let here' : mark_on (e ∷ marked) o ≡ max 0 (mark_on marked o) = here ∙ rw not_o refl in
          elim (cases_Bool (list_any (uses e.item) os)) [
            | inl more ↦ let rest' : greatest (map (mark_on (e ∷ marked)) os) ≡ max e.mark (greatest (map (mark_on marked) os)) = rest ∙ rw more refl in rw (not_o, more) (omega (arith, here', rest'))
            | inr none ↦ let rest' : greatest (map (mark_on (e ∷ marked)) os) ≡ max 0 (greatest (map (mark_on marked) os)) = rest ∙ rw none refl in rw (not_o, none) (omega (arith, here', rest'))
          ]
    ]

no_marks : (os : List ℕ) → greatest (map (mark_on []) os) ≡ 0
no_marks [] = refl
no_marks (o ∷ os) = omega (arith, no_marks os)

before_with : (e : Marked) (marked : List Marked) (d : ItemData) → mark_before (e ∷ marked) d ≡ max (cond (shares e.item d) e.mark 0) (mark_before marked d)
before_with e marked d = elim (cases_Bool (shares e.item d)) [ inl is ↦ rw is refl | inr not_d ↦ rw not_d (omega arith) ]

marks_of_operands : (marked : List Marked) (d : ItemData) → greatest (map (mark_on marked) (operands_of d)) ≡ mark_before marked d
marks_of_operands [] d = no_marks (operands_of d)
marks_of_operands (e ∷ marked) d =
    let same : shares e.item d ≡ list_any (uses e.item) (operands_of d) = shares-sym e.item d ∙ shares-operands d e.item in
    marks_with e marked (operands_of d)
    ∙ ap (λ (b : Bool). max (cond b e.mark 0) (greatest (map (mark_on marked) (operands_of d)))) (sym same)
    ∙ ap (λ (n : ℕ). max (cond (shares e.item d) e.mark 0) n) (marks_of_operands marked d)
    ∙ sym (before_with e marked d)

-- the greatest mark on an item's operands is that of the items that share with it
pub greatest-mark_before : (marked : List Marked) (rows : List ℕ) (d : ItemData) → IsWithin 256 256 d → AreMarks marked rows → greatest (map (λ o. get_or rows o 0) (operands_of d)) ≡ mark_before marked d
greatest-mark_before marked rows d within shows = greatest_rows marked rows (operands_of d) shows (operands_below d within) ∙ marks_of_operands marked d

-- the mark on an operand of an item is not above that of all items that share with it
le_greatest : (f : ℕ → ℕ) (os : List ℕ) (o : ℕ) → list_any (λ n. n == o) os ≡ true → f o ≤ greatest (map f os)
le_greatest f [] o has = cc
le_greatest f (n ∷ os) o has = elim (cases_Bool (eqb n o)) [
  | inl is ↦ let e : f n ≡ f o = ap f (eqb-true n o is) in omega arith
  | inr not_o ↦ let rest : f o ≤ greatest (map f os) = le_greatest f os o (rw not_o at has) in omega arith
]

pub operand_below : (d : ItemData) (k : ℕ) → IsWithin 256 256 d → k < length (operands_of d) → get_or (operands_of d) k 0 < 512
operand_below d k within h = operands_below d within k 0 h

pub AreMarks-put : (marked : List Marked) (old new : List ℕ) (d : ItemData) (mark : ℕ) → AreMarks marked old → mark_before marked d ≤ mark → length new ≡ 512
    → ((o : ℕ) → o < 512 → get_or new o 0 ≡ cond (uses d o) mark (get_or old o 0)) → AreMarks (record { item = d; mark = mark } ∷ marked) new
AreMarks-put marked old new d mark shows low all rows = record { all = all; row = put }
  where
    put : (o : ℕ) → o < 512 → get_or new o 0 ≡ mark_on (record { item = d; mark = mark } ∷ marked) o
    put o small =
        let before : get_or old o 0 ≡ mark_on marked o = shows.row o small in
        elim (cases_Bool (uses d o)) [
          | inl is ↦
              let below : mark_on marked o ≤ mark = omega (arith, le_greatest (mark_on marked) (operands_of d) o is, marks_of_operands marked d) in
              let here : get_or new o 0 ≡ mark = rows o small ∙ rw is refl in
              rw is (omega (arith, below, here))
          | inr not_o ↦
              let here : get_or new o 0 ≡ get_or old o 0 = rows o small ∙ rw not_o refl in
              rw not_o (here ∙ before)
        ]

-- no item has a mark
pub AreMarks-none : AreMarks [] (replicate 512 0)
AreMarks-none = record { all = length-replicate {A = ℕ} 512 0; row = λ o small. get_or-replicate {A = ℕ} 512 o 0 0 small }
