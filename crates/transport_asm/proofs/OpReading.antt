-- Operations, as the code reads them.
use Rattle.std.proofs.Common.{◌≡◌, ℕ, Bool, true, false, cond, List, [], ◌∷◌, ◌++◌, codes, Result, Ok, Err, refl, ap, ◌∙◌, subst}
use Rattle.std.specs.Prelude.{bytes_eq, take}
use Rattle.std.proofs.lemmas.Slice.Eq.{bytes_eq-Decides}
use Rattle.op_table.specs.declared.kinds.OpKind.{OpKind}
use Rattle.op_table.specs.declared.kinds.OpKind.TheVariants.{Split, Move, Enter, Leave, Merge, Rot, GSwap}
use Rattle.op_text.specs.declared.kind.AsmKind.{AsmKind}
use Rattle.op_text.specs.declared.kind.AsmKind.TheVariants.{Word}
use Rattle.op_text.specs.Steps.{◌>>=◌}
use Rattle.op_text.specs.Shapes.{Shape, Reading, whole}
use Rattle.op_text.specs.Operations.{Row, row, op_rows, read_row, split_shape, move_shape, enter_shape, leave_shape, merge_shape, rot_shape, gswap_shape, item_at, fence_at, is_right, keeping_rules, finished, plain_right, plain_at, read_op}
use Rattle.std.specs.Prelude.{if◌then◌else◌}
use Rattle.std.specs.List.{AllByRecursion}
use Rattle.op_table.specs.Op.{IsOp}
use Rattle.transport_asm.proofs.SlotLaws.{bind_ok, ok_is}
use Rattle.transport_asm.proofs.OpLaws.{op_law}
use Rattle.transport_asm.proofs.Rule.{writable}

abbrev item_of : Row
item_of = record { name = codes "item"; read = item_at }

abbrev fence_of : Row
fence_of = record { name = codes "fence"; read = fence_at }

-- rows of other names may stand behind
drop_two : (rows : List Row) (a b : Row) (name : List ℕ) (words : List (List ℕ)) → bytes_eq name a.name ≡ false → bytes_eq name b.name ≡ false
    → read_row (rows ++ a ∷ b ∷ []) name words ≡ read_row rows name words
drop_two [] a b name words first second = rw (first, second) refl
drop_two (r ∷ rows) a b name words first second = ap (λ (x : Reading OpKind). cond (bytes_eq name r.name) (r.read words) x) (drop_two rows a b name words first second)

-- what a row of no item and no fence reads
abbrev IsPlainRow : Row → Type 0
IsPlainRow r = (words : List (List ℕ)) (op : OpKind) (rest : List (List ℕ)) → r.read words ≡ Ok (op, rest) → is_right op ≡ plain_right op

plain_row : {A : Type 0} (name : List ℕ) (p : Shape A) (make : A → OpKind) → ((v : A) → is_right (make v) ≡ plain_right (make v)) → IsPlainRow (row name p make)
plain_row name p make same words op rest e =
    let b = bind_ok (p.read words) (λ a. Ok (make a.0, a.1)) (op, rest) e in
    subst (λ (o : OpKind). is_right o ≡ plain_right o) (ap (λ (x : OpKind × List (List ℕ)). x.0) (ok_is (make b.0.0, b.0.1) (op, rest) b.2)) (same b.0.0)

plain_rows : AllByRecursion IsPlainRow (take 7 op_rows)
plain_rows = (
  plain_row (codes "split") split_shape (λ v. Split v.0 v.1.0 v.1.1) (λ v. refl),
  (
    plain_row (codes "move") move_shape (λ g. Move g) (λ v. refl),
    (
      plain_row (codes "enter") enter_shape (λ v. Enter v.0 v.1) (λ v. refl),
      (
        plain_row (codes "leave") leave_shape (λ v. Leave v.0 v.1) (λ v. refl),
        (
          plain_row (codes "merge") merge_shape (λ v. Merge v.0 v.1.0 v.1.1) (λ v. refl),
          (
            plain_row (codes "rot") rot_shape (λ v. Rot v.0 v.1) (λ v. refl),
            (
              plain_row (codes "gswap") gswap_shape (λ v. GSwap v.0 v.1.0 v.1.1) (λ v. refl),
              tt,
            ),
          ),
        ),
      ),
    ),
  ),
)

rows_plain : (rows : List Row) → AllByRecursion IsPlainRow rows → (name : List ℕ) (words : List (List ℕ)) (op : OpKind) (rest : List (List ℕ)) → read_row rows name words ≡ Ok (op, rest) → is_right op ≡ plain_right op
rows_plain [] all name words op rest e = absurd cc
rows_plain (first ∷ more) all name words op rest e = by_test (bytes_eq name first.name) (rows_plain more all.1 name words op rest) e
  where
    by_test : (t : Bool) → (read_row more name words ≡ Ok (op, rest) → is_right op ≡ plain_right op) → cond t (first.read words) (read_row more name words) ≡ Ok (op, rest) → is_right op ≡ plain_right op
    by_test true later e = all.0 words op rest e
    by_test false later e = later e

abbrev rule_by : (OpKind → Bool) → OpKind → Result OpKind AsmKind
rule_by right op = if right op then Ok op else Err Word

ends_so : (op : OpKind) (rest : List (List ℕ)) → is_right op ≡ plain_right op → (whole op rest >>= keeping_rules) ≡ (whole op rest >>= rule_by plain_right)
ends_so op [] same = ap (λ (t : Bool). cond t (Ok op) (Err Word)) same
ends_so op (word ∷ rest) same = refl

by_reading : (r : Reading OpKind) → ((op : OpKind) (rest : List (List ℕ)) → r ≡ Ok (op, rest) → is_right op ≡ plain_right op) → finished r ≡ (r >>= λ op. whole op.0 op.1 >>= rule_by plain_right)
by_reading (Err e) same = refl
by_reading (Ok (op, rest)) same = ends_so op rest (same op rest refl)

pub plain_goes : (name : List ℕ) (words : List (List ℕ)) → bytes_eq name (codes "item") ≡ false → bytes_eq name (codes "fence") ≡ false → finished (read_row op_rows name words) ≡ plain_at name words
plain_goes name words item fence =
    ap finished (drop_two (take 7 op_rows) item_of fence_of name words item fence)
    ∙ by_reading (read_row (take 7 op_rows) name words) (rows_plain (take 7 op_rows) plain_rows name words)

pub item_goes : (name : List ℕ) (words : List (List ℕ)) → bytes_eq name (codes "item") ≡ true → finished (read_row op_rows name words) ≡ finished (item_at words)
item_goes name words is = ap (λ (n : List ℕ). finished (read_row op_rows n words)) ((bytes_eq-Decides name (codes "item")).0 is)

pub fence_goes : (name : List ℕ) (words : List (List ℕ)) → bytes_eq name (codes "fence") ≡ true → finished (read_row op_rows name words) ≡ finished (fence_at words)
fence_goes name words is = ap (λ (n : List ℕ). finished (read_row op_rows n words)) ((bytes_eq-Decides name (codes "fence")).0 is)

pub read_is_op : (words : List (List ℕ)) (op : OpKind) → read_op words ≡ Ok op → IsOp op
read_is_op words op e = (writable op (op_law.takes words op e).1).is_op
