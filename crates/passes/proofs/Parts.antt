-- What stays is a part of the list, in its order.
use Rattle.std.proofs.Common.{◌≡◌, ℕ, List, [], ◌∷◌, ◌++◌, reverse, refl, sym, subst, Option, Some, None, unwrap_or}
use Rattle.std.specs.List.{AllByRecursion, enumerate_from}
use Rattle.std.proofs.lemmas.List.{append-nil}
use Rattle.op_table.specs.declared.kinds.OpKind.{OpKind}
use Rattle.passes.specs.Tidy.{Numbered, kinds, left_by, staying}
use Rattle.passes.specs.Swept.{swept}
use Rattle.passes.proofs.Removing.{left_is, seen_left, seen_whole, turned, staying_is}

-- some of a list, in its order
pub data IsPart : List Numbered → List Numbered → Type 0 where
  ends : IsPart [] []
  stays : (e : Numbered) (some all : List Numbered) → IsPart some all → IsPart (e ∷ some) (e ∷ all)
  goes : (e : Numbered) (some all : List Numbered) → IsPart some all → IsPart some (e ∷ all)

pub part_own : (xs : List Numbered) → IsPart xs xs
part_own [] = ends
part_own (x ∷ xs) = stays x xs xs (part_own xs)

part_part : (xs ys zs : List Numbered) → IsPart xs ys → IsPart ys zs → IsPart xs zs
part_part xs ys zs p ends = p
part_part xs ys zs p (goes e some all q) = goes e xs all (part_part xs some all p q)
part_part xs ys zs (stays d more some p) (stays e mid all q) = stays e more all (part_part more mid all p q)
part_part xs ys zs (goes d more some p) (stays e mid all q) = goes e more all (part_part more mid all p q)

part_behind : (front xs ys : List Numbered) → IsPart xs ys → IsPart (front ++ xs) (front ++ ys)
part_behind [] xs ys p = p
part_behind (x ∷ front) xs ys p = stays x (front ++ xs) (front ++ ys) (part_behind front xs ys p)

pub part_fewer : (front middle back : List Numbered) (a b : Numbered) → IsPart (front ++ (middle ++ back)) (front ++ (a ∷ middle ++ b ∷ back))
part_fewer front middle back a b =
    part_behind front (middle ++ back) (a ∷ middle ++ b ∷ back) (goes a (middle ++ back) (middle ++ b ∷ back) (part_behind middle back (b ∷ back) (goes b back back (part_own back))))

part_swept : (earlier ops : List Numbered) → IsPart (reverse (swept earlier ops)) (reverse earlier ++ ops)
part_swept earlier [] = subst (IsPart (reverse earlier)) (sym (append-nil (reverse earlier))) (part_own (reverse earlier))
part_swept earlier (b ∷ ops) = by_left (λ xs. part_swept xs ops) (left_by b earlier) refl
  where
    by_left : ((xs : List Numbered) → IsPart (reverse (swept xs ops)) (reverse xs ++ ops)) → (o : Option (List Numbered)) → left_by b earlier ≡ o → IsPart (reverse (swept (unwrap_or o (b ∷ earlier)) ops)) (reverse earlier ++ b ∷ ops)
    by_left next None h = subst (IsPart (reverse (swept (b ∷ earlier) ops))) (turned b earlier ops) (next (b ∷ earlier))
    by_left next (Some xs) h =
        let l = left_is b earlier xs h in
        part_part (reverse (swept xs ops)) (reverse xs ++ ops) (reverse earlier ++ b ∷ ops) (next xs)
        (subst (λ (v : List Numbered). IsPart v (reverse earlier ++ b ∷ ops)) (sym (seen_left b earlier xs ops l))
        (subst (IsPart (reverse l.older ++ (reverse l.recent ++ ops))) (sym (seen_whole b earlier xs (b ∷ ops) l)) (part_fewer (reverse l.older) (reverse l.recent) ops l.a b)))

pub part_staying : (ops : List OpKind) → IsPart (staying ops) (enumerate_from 0 ops)
part_staying ops = subst (λ (v : List Numbered). IsPart v (enumerate_from 0 ops)) (sym (staying_is ops)) (part_swept [] (enumerate_from 0 ops))

-- what holds of all holds of a part
pub part_keeps : (P : OpKind → Type 0) (some all : List Numbered) → IsPart some all → AllByRecursion P (kinds all) → AllByRecursion P (kinds some)
part_keeps P some all ends is = tt
part_keeps P some all (stays e more rest p) is = (is.0, part_keeps P more rest p is.1)
part_keeps P some all (goes e more rest p) is = part_keeps P more rest p is.1
