-- Reading lines one after the other, as a loop does.
use Rattle.std.proofs.Common.{◌≡◌, ℕ, suc, ◌-◌, ◌+◌, ◌≤◌, ◌<◌, List, [], ◌∷◌, ◌++◌, Result, Ok, Err, refl, sym, ap, ◌∙◌, append_assoc, arith}
use Rattle.std.proofs.lemmas.List.{append-nil}
use Rattle.op_text.specs.declared.kind.AsmKind.{AsmKind}
use Rattle.transport_asm.specs.declared.faults.AsmFault.{AsmFault}
use Rattle.transport_asm.specs.declared.faults.AsmFault.TheVariants.{Refused, NoMemory}
use Rattle.op_text.specs.Steps.{◌>>=◌}
use Rattle.transport_asm.specs.Lines.{Unread, refused, Steps, line_at, numbered}
use Rattle.transport_asm.specs.LineCursor.{Fails}

-- what was read before, and what is still read
abbrev pub with_front : {A : Type 0} → List A → Steps (List A) → Steps (List A)
with_front front read = read >>= λ x. Ok (front ++ x.0, x.1)

regroup : {A : Type 0} (front : List A) (n : A) (read : Steps (List A)) → with_front front (read >>= λ x. Ok (n ∷ x.0, x.1)) ≡ with_front (front ++ n ∷ []) read
regroup {A} front n (Ok x) = ap (λ (ns : List A). Ok (ns, x.1)) (simp append_assoc)
regroup front n (Err f) = refl

pub goes_on : {A : Type 0} (read : ℕ → List (List ℕ) → Result A AsmKind) (front : List A) (count i : ℕ) (left : Unread) (n : A) (after : Unread) (total : Steps (List A)) → i < count → line_at (read i) left ≡ Ok (n, after)
    → with_front front (numbered read (count - i) i left) ≡ total → with_front (front ++ n ∷ []) (numbered read (count - (i + 1)) (i + 1) after) ≡ total
goes_on read front count i left n after total lt h so_far =
    let k : count - i ≡ suc (count - (i + 1)) = omega arith in
    let one : with_front front (numbered read (count - i) i left) ≡ with_front (front ++ n ∷ []) (numbered read (count - (i + 1)) (i + 1) after) = rw (k, h) (regroup front n (numbered read (count - (i + 1)) (i + 1) after)) in
    sym one ∙ so_far

pub ends : {A : Type 0} (read : ℕ → List (List ℕ) → Result A AsmKind) (e : AsmFault) (front : List A) (count i : ℕ) (left : Unread) (total : Steps (List A)) → i < count → Fails e (line_at (read i) left)
    → with_front front (numbered read (count - i) i left) ≡ total → Fails e total
ends read NoMemory front count i left total lt h so_far = tt
ends {A} read (Refused line kind) front count i left total lt h so_far =
    let k : count - i ≡ suc (count - (i + 1)) = omega arith in
    let one : with_front front (numbered read (count - i) i left) ≡ Err (refused line kind) = rw (k, h) refl in
    sym so_far ∙ one

pub is_done : {A : Type 0} (read : ℕ → List (List ℕ) → Result A AsmKind) (front : List A) (count i : ℕ) (left : Unread) (total : Steps (List A)) → count ≤ i → with_front front (numbered read (count - i) i left) ≡ total → total ≡ Ok (front, left)
is_done {A} read front count i left total le so_far =
    let k : count - i ≡ 0 = omega arith in
    let one : with_front front (numbered read (count - i) i left) ≡ Ok (front, left) = rw k (ap (λ (ns : List A). Ok (ns, left)) (append-nil front)) in
    sym so_far ∙ one
