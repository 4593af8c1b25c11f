-- Operations that are left when those that undo each other are taken away.
use Rattle.std.specs.Prelude.{◌≡◌, ℕ, zero, suc, false, true, if◌then◌else◌, List, [], ◌∷◌, ◌++◌, length, map, reverse, Option, Some, None, option_map, unwrap_or}
use Rattle.std.specs.Option.{option_or}
use Rattle.std.specs.List.{AllByRecursion, enumerate_from}
use Rattle.op_table.specs.declared.kinds.OpKind.{OpKind}
use Rattle.op_table.specs.Touch.{meets}
use Rattle.qccd_program.specs.Program.{ProgramData}
use Rattle.passes.specs.Undo.{undoes}

-- an operation with its number in the program
abbrev pub Numbered : Type 0
Numbered = ℕ × OpKind

-- the operations without their numbers
abbrev pub kinds : List Numbered → List OpKind
kinds ops = map (λ e. e.1) ops

-- Of a list: a and b cancel. They undo each other, so they touch the same resources, and no operation between
-- them touches one of these.
pub record IsPair (ops front : List OpKind) (a : OpKind) (middle : List OpKind) (b : OpKind) (back : List OpKind) : Type 0 where
  pub whole : ops ≡ front ++ (a ∷ middle ++ b ∷ back)
  pub undone : undoes a b ≡ true
  pub apart : AllByRecursion (λ x. meets x b ≡ false) middle

-- no two operations of the list cancel
abbrev pub IsTidy : List OpKind → Type 0
IsTidy ops = (front middle back : List OpKind) (a b : OpKind) → IsPair ops front a middle b back → ⊥

-- of earlier operations, the last one first: those that are left when b cancels one of them, or none where it
-- cancels none
abbrev pub left_by : Numbered → List Numbered → Option (List Numbered)
left_by b [] = None
left_by b (a ∷ earlier) =
    if meets a.1 b.1 then (if undoes a.1 b.1 then Some earlier else None) else option_map (λ xs. a ∷ xs) (left_by b earlier)

-- the list without the cancelling pair whose second operation stands first; none where no two cancel
abbrev pub first_removed : List Numbered → List Numbered → Option (List Numbered)
first_removed earlier [] = None
first_removed earlier (b ∷ ops) = option_or (option_map (λ xs. reverse xs ++ ops) (left_by b earlier)) (first_removed (b ∷ earlier) ops)

-- the cancelling pair a and b is taken away from a list, and no two operations cancel of which the second stands before b
pub record IsWithoutFirst (ops others : List Numbered) : Type 0 where
  pub front : List Numbered
  pub a : Numbered
  pub middle : List Numbered
  pub b : Numbered
  pub back : List Numbered
  pub whole : ops ≡ front ++ (a ∷ middle ++ b ∷ back)
  pub left : others ≡ front ++ (middle ++ back)
  pub undone : undoes a.1 b.1 ≡ true
  pub apart : AllByRecursion (λ x. meets x.1 b.1 ≡ false) middle
  pub first : IsTidy (kinds (front ++ (a ∷ middle)))

-- the same again and again, at most so many times
abbrev pub tidied_in : ℕ → List Numbered → List Numbered
tidied_in zero ops = ops
tidied_in (suc n) ops = unwrap_or (option_map (tidied_in n) (first_removed [] ops)) ops

-- the operations that stay, with the numbers that they had
abbrev pub staying : List OpKind → List Numbered
staying ops = tidied_in (length ops) (enumerate_from 0 ops)

-- the program without operations that cancel, with all else as it is
abbrev pub tidied : ProgramData → ProgramData
tidied p = record p { ops = kinds (staying p.ops) }
