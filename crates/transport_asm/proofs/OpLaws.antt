-- Operations: what is read is the words of its value, and the words of an operation are read as it.
use Rattle.std.proofs.Common.{◌≡◌, ℕ, ◌<◌, Bool, true, false, cond, List, [], ◌∷◌, ◌++◌, length, codes, Ok, Err, refl, sym, ap, ◌∙◌, subst, arith}
use Rattle.std.specs.Prelude.{bytes_eq}
use Rattle.std.specs.List.{AllByRecursion}
use Rattle.std.proofs.lemmas.Slice.Eq.{bytes_eq-Decides}
use Rattle.op_table.specs.declared.kinds.OpKind.{OpKind}
use Rattle.op_table.specs.declared.kinds.OpKind.TheVariants.{Split, Move, Enter, Leave, Merge, Rot, GSwap, Item, Fence}
use Rattle.transport_asm.proofs.Fitting.{FitsItem, FitsFence, FitsTrap, FitsSegment, FitsJunction, FitsEnd, FitsPosition, FitsWords, FitsOp}
use Rattle.op_text.specs.declared.kind.AsmKind.TheVariants.{Word}
use Rattle.op_text.specs.Steps.{◌>>=◌}
use Rattle.op_text.specs.Slots.{trap_slot, segment_slot, junction_slot, end_slot}
use Rattle.op_text.specs.Shapes.{Shape, one, ◌▸◌, whole}
use Rattle.op_text.specs.Operations.{split_shape, move_shape, enter_shape, leave_shape, merge_shape, rot_shape, gswap_shape, position_slot, item_at, fence_at, Row, row, op_rows, read_row, op_at, op_words, is_right, keeping_rules, read_op}
use Rattle.transport_asm.proofs.SlotLaws.{bind_ok, ok_is, IsShape, one_law, both_law, number_law, trap_law, segment_law, junction_law, end_law, EachPlain}
use Rattle.transport_asm.proofs.ItemLaws.{item_takes, item_again, item_plain, fence_takes, fence_again, fence_plain}
use Rattle.transport_asm.proofs.LineLaws.{IsLine}

t_law : IsShape (one trap_slot) FitsTrap
t_law = one_law trap_slot FitsTrap trap_law

g_law : IsShape (one segment_slot) FitsSegment
g_law = one_law segment_slot FitsSegment segment_law

j_law : IsShape (one junction_slot) FitsJunction
j_law = one_law junction_slot FitsJunction junction_law

e_law : IsShape (one end_slot) FitsEnd
e_law = one_law end_slot FitsEnd end_law

p_law : IsShape (one position_slot) FitsPosition
p_law = one_law position_slot FitsPosition (number_law 255 (omega arith))

pub split_law : IsShape split_shape (λ v. FitsTrap v.0 × (FitsEnd v.1.0 × FitsSegment v.1.1))
split_law = both_law (one trap_slot) (one end_slot ▸ one segment_slot) FitsTrap (λ v. FitsEnd v.0 × FitsSegment v.1) t_law (both_law (one end_slot) (one segment_slot) FitsEnd FitsSegment e_law g_law)

pub enter_law : IsShape enter_shape (λ v. FitsSegment v.0 × FitsJunction v.1)
enter_law = both_law (one segment_slot) (one junction_slot) FitsSegment FitsJunction g_law j_law

pub leave_law : IsShape leave_shape (λ v. FitsJunction v.0 × FitsSegment v.1)
leave_law = both_law (one junction_slot) (one segment_slot) FitsJunction FitsSegment j_law g_law

pub merge_law : IsShape merge_shape (λ v. FitsSegment v.0 × (FitsTrap v.1.0 × FitsEnd v.1.1))
merge_law = both_law (one segment_slot) (one trap_slot ▸ one end_slot) FitsSegment (λ v. FitsTrap v.0 × FitsEnd v.1) g_law (both_law (one trap_slot) (one end_slot) FitsTrap FitsEnd t_law e_law)

pub rot_law : IsShape rot_shape (λ v. FitsTrap v.0 × FitsPosition v.1)
rot_law = both_law (one trap_slot) (one position_slot) FitsTrap FitsPosition t_law p_law

pub gswap_law : IsShape gswap_shape (λ v. FitsTrap v.0 × (FitsPosition v.1.0 × FitsPosition v.1.1))
gswap_law = both_law (one trap_slot) (one position_slot ▸ one position_slot) FitsTrap (λ v. FitsPosition v.0 × FitsPosition v.1) t_law (both_law (one position_slot) (one position_slot) FitsPosition FitsPosition p_law p_law)

append-none : {X : Type 0} (xs : List X) → xs ++ [] ≡ xs
append-none [] = refl
append-none (x ∷ xs) = ap (λ (ys : List _). x ∷ ys) (append-none xs)

shape_again : {A : Type 0} (p : Shape A) (F : A → Type 0) → IsShape p F → (v : A) → F v → p.read (p.words v) ≡ Ok (v, [])
shape_again p F law v fits = ap p.read (sym (append-none (p.words v))) ∙ law.again v [] fits

-- the words of an operation are read as it
pub op_again : (op : OpKind) → FitsWords op → op_at (op_words op) ≡ Ok (op, [])
op_again (Split t e g) fits = rw (shape_again split_shape _ split_law (t, (e, g)) fits) refl
op_again (Move g) fits = rw (shape_again move_shape _ g_law g fits) refl
op_again (Enter g j) fits = rw (shape_again enter_shape _ enter_law (g, j) fits) refl
op_again (Leave j g) fits = rw (shape_again leave_shape _ leave_law (j, g) fits) refl
op_again (Merge g t e) fits = rw (shape_again merge_shape _ merge_law (g, (t, e)) fits) refl
op_again (Rot t p) fits = rw (shape_again rot_shape _ rot_law (t, p) fits) refl
op_again (GSwap t low high) fits = rw (shape_again gswap_shape _ gswap_law (t, (low, high)) fits) refl
op_again (Item number t item at) fits = let a = item_again (Item number t item at) fits in ap op_at a.1.0 ∙ a.1.1
op_again (Fence number item traps) fits = let a = fence_again (Fence number item traps) fits in ap op_at a.1.0 ∙ a.1.1

-- ---- and what is read is such words

pub record Taken (words : List (List ℕ)) (op : OpKind) (rest : List (List ℕ)) : Type 0 where
  pub words_are : words ≡ op_words op ++ rest
  pub fits : FitsWords op

-- of a row: what it reads is words of its value
abbrev pub RowTakes : Row → Type 0
RowTakes r = (words : List (List ℕ)) (op : OpKind) (rest : List (List ℕ)) → r.read words ≡ Ok (op, rest) → Taken (r.name ∷ words) op rest

shape_takes : {A : Type 0} (p : Shape A) (F : A → Type 0) → IsShape p F → (make : A → OpKind) (stated : List ℕ)
    → ((v : A) → op_words (make v) ≡ stated ∷ p.words v) → ((v : A) → F v → FitsWords (make v)) → RowTakes (row stated p make)
shape_takes {A} p F law make stated are fit words op rest e =
    let b = bind_ok (p.read words) (λ a. Ok (make a.0, a.1)) (op, rest) e in
    let t = law.takes words b.0.0 b.0.1 b.1 in
    let whole : stated ∷ words ≡ op_words (make b.0.0) ++ b.0.1 = ap (λ (ws : List (List ℕ)). stated ∷ ws) t.0 ∙ ap (λ (ws : List (List ℕ)). ws ++ b.0.1) (sym (are b.0.0)) in
    subst (λ (x : OpKind × List (List ℕ)). Taken (stated ∷ words) x.0 x.1) (ok_is (make b.0.0, b.0.1) (op, rest) b.2) (record { words_are = whole; fits = fit b.0.0 t.1 })

-- so of a table
pub rows_take : (rows : List Row) → AllByRecursion RowTakes rows → (name : List ℕ) (words : List (List ℕ)) (op : OpKind) (rest : List (List ℕ))
    → read_row rows name words ≡ Ok (op, rest) → Taken (name ∷ words) op rest
rows_take [] all name words op rest e = absurd cc
rows_take (first ∷ more) all name words op rest e = by_test (bytes_eq name first.name) refl (rows_take more all.1 name words op rest) e
  where
    by_test : (t : Bool) → bytes_eq name first.name ≡ t → (read_row more name words ≡ Ok (op, rest) → Taken (name ∷ words) op rest) → cond t (first.read words) (read_row more name words) ≡ Ok (op, rest) → Taken (name ∷ words) op rest
    by_test true is later e =
        let same : first.name ≡ name = sym ((bytes_eq-Decides name first.name).0 is) in
        subst (λ (n : List ℕ). Taken (n ∷ words) op rest) same (all.0 words op rest e)
    by_test false is later e = later e

fits_of_item : (op : OpKind) → FitsItem op → FitsWords op
fits_of_item op fits = subst FitsWords fits.is (record { head = fits.head; tail = fits.tail; is = refl; fits_head = fits.fits_head; fits_tail = fits.fits_tail })

fits_of_fence : (op : OpKind) → FitsFence op → FitsWords op
fits_of_fence op fits =
    subst FitsWords fits.is
    (record { number = fits.number; first = fits.first; more = fits.more; qubits = fits.qubits; is = refl; small = fits.small; fits_first = fits.fits_first; fits_more = fits.fits_more; some = fits.some; fits_qubits = fits.fits_qubits })

item_row : RowTakes (record { name = codes "item"; read = item_at })
item_row words op rest e = let t = item_takes words op rest e in record { words_are = t.0; fits = fits_of_item op t.1 }

fence_row : RowTakes (record { name = codes "fence"; read = fence_at })
fence_row words op rest e = let t = fence_takes words op rest e in record { words_are = t.0; fits = fits_of_fence op t.1 }

pub all_rows : AllByRecursion RowTakes op_rows
all_rows = (
  shape_takes split_shape _ split_law (λ v. Split v.0 v.1.0 v.1.1) (codes "split") (λ v. refl) (λ v f. f),
  (
    shape_takes move_shape _ g_law (λ g. Move g) (codes "move") (λ v. refl) (λ v f. f),
    (
      shape_takes enter_shape _ enter_law (λ v. Enter v.0 v.1) (codes "enter") (λ v. refl) (λ v f. f),
      (
        shape_takes leave_shape _ leave_law (λ v. Leave v.0 v.1) (codes "leave") (λ v. refl) (λ v f. f),
        (
          shape_takes merge_shape _ merge_law (λ v. Merge v.0 v.1.0 v.1.1) (codes "merge") (λ v. refl) (λ v f. f),
          (
            shape_takes rot_shape _ rot_law (λ v. Rot v.0 v.1) (codes "rot") (λ v. refl) (λ v f. f),
            (
              shape_takes gswap_shape _ gswap_law (λ v. GSwap v.0 v.1.0 v.1.1) (codes "gswap") (λ v. refl) (λ v f. f),
              (
                item_row,
                (
                  fence_row,
                  tt,
                ),
              ),
            ),
          ),
        ),
      ),
    ),
  ),
)

-- ---- the line of an operation

op_plain : (op : OpKind) → FitsWords op → EachPlain (op_words op)
op_plain (Split t e g) fits = (refl, split_law.plain (t, (e, g)) fits)
op_plain (Move g) fits = (refl, g_law.plain g fits)
op_plain (Enter g j) fits = (refl, enter_law.plain (g, j) fits)
op_plain (Leave j g) fits = (refl, leave_law.plain (j, g) fits)
op_plain (Merge g t e) fits = (refl, merge_law.plain (g, (t, e)) fits)
op_plain (Rot t p) fits = (refl, rot_law.plain (t, p) fits)
op_plain (GSwap t low high) fits = (refl, gswap_law.plain (t, (low, high)) fits)
op_plain (Item number t item at) fits = item_plain (Item number t item at) fits
op_plain (Fence number item traps) fits = fence_plain (Fence number item traps) fits

some_words : (op : OpKind) → 0 < length (op_words op)
some_words (Split t e g) = omega arith
some_words (Move g) = omega arith
some_words (Enter g j) = omega arith
some_words (Leave j g) = omega arith
some_words (Merge g t e) = omega arith
some_words (Rot t p) = omega arith
some_words (GSwap t low high) = omega arith
some_words (Item number t item at) = omega arith
some_words (Fence number item traps) = omega arith

pub whole_ok : (value : OpKind) (words : List (List ℕ)) (made : OpKind) → whole value words ≡ Ok made → (words ≡ []) × (value ≡ made)
whole_ok value [] made e = (refl, ok_is value made e)
whole_ok value (word ∷ more) made e = absurd cc

pub right_ok : (op made : OpKind) → keeping_rules op ≡ Ok made → (is_right op ≡ true) × (op ≡ made)
right_ok op made e = by_test (is_right op) refl e
  where
    by_test : (t : Bool) → is_right op ≡ t → cond t (Ok op) (Err Word) ≡ Ok made → (is_right op ≡ true) × (op ≡ made)
    by_test true is e = (is, ok_is op made e)
    by_test false is e = absurd cc

op_takes : (words : List (List ℕ)) (op : OpKind) → read_op words ≡ Ok op → (words ≡ op_words op) × FitsOp op
op_takes [] op e = absurd cc
op_takes (name ∷ more) op e =
    let a = bind_ok (read_row op_rows name more) (λ op. whole op.0 op.1 >>= keeping_rules) op e in
    let b = bind_ok (whole a.0.0 a.0.1) keeping_rules op a.2 in
    let w = whole_ok a.0.0 a.0.1 b.0 b.1 in
    let r = right_ok b.0 op b.2 in
    let t = rows_take op_rows all_rows name more a.0.0 a.0.1 a.1 in
    let made : name ∷ more ≡ op_words a.0.0 = t.words_are ∙ ap (λ (ws : List (List ℕ)). op_words a.0.0 ++ ws) w.0 ∙ append-none (op_words a.0.0) in
    let is : a.0.0 ≡ op = w.1 ∙ r.1 in
    (made ∙ ap op_words is, record { fits = subst FitsWords is t.fits; right = subst (λ (o : OpKind). is_right o ≡ true) r.1 r.0 })

pub op_law : IsLine read_op op_words FitsOp
op_law = record {
  takes = op_takes;
  again = λ op fits. rw (op_again op fits.fits, fits.right) refl;
  plain = λ op fits. op_plain op fits.fits;
  some = some_words;
}
