-- How often the operations before one touch a resource.
use Rattle.std.proofs.Common.{◌≡◌, ℕ, zero, suc, ◌+◌, ◌<◌, ◌⊎◌, inl, inr, Bool, true, false, cond, List, [], ◌∷◌, length, take, refl, ap, arith}
use Rattle.std.proofs.lemmas.Bool.{cases_Bool, false≢true}
use Rattle.qccd_base.specs.declared.names.Res.{Res}
use Rattle.qccd_base.specs.Resource.{among}
use Rattle.op_table.specs.declared.kinds.OpKind.{OpKind}
use Rattle.op_table.specs.Touch.{touches, nth, total}
use Rattle.qccd_program.specs.Faithful.{one_of}
use Rattle.op_table.proofs.Counts.{count_by-cons}
use Rattle.qccd_program.proofs.Turning.{nth-next}
use Rattle.claim_core.specs.Event.{touched}

pub one_true : (op : OpKind) (r : Res) → among (touches op) r ≡ true → one_of op r ≡ 1
one_true op r h = ap (λ (b : Bool). cond b 1 0) h

pub one_false : (op : OpKind) (r : Res) → among (touches op) r ≡ false → one_of op r ≡ 0
one_false op r h = ap (λ (b : Bool). cond b 1 0) h

pub total_next : (op : OpKind) (ops : List OpKind) (r : Res) → total (op ∷ ops) r ≡ one_of op r + total ops r
total_next op ops r = count_by-cons (λ o. among (touches o) r) op ops

-- a later operation on the resource has a later turn
pub nth_rises : (ops : List OpKind) (j k : ℕ) (r : Res) → j < k → among (touched ops j) r ≡ true → nth ops j r < nth ops k r
nth_rises [] j k r h at = absurd (false≢true at)
nth_rises (o ∷ ops) j zero r h at = absurd (omega arith)
nth_rises (o ∷ ops) zero (suc k) r h at = omega (arith, nth-next o ops k r, one_true o r at)
nth_rises (o ∷ ops) (suc j) (suc k) r h at = omega (arith, nth-next o ops k r, nth-next o ops j r, nth_rises ops j k r (omega arith) at)

pub nth_below_total : (ops : List OpKind) (k : ℕ) (r : Res) → among (touched ops k) r ≡ true → nth ops k r < total ops r
nth_below_total [] k r at = absurd (false≢true at)
nth_below_total (o ∷ ops) zero r at = omega (arith, total_next o ops r, one_true o r at)
nth_below_total (o ∷ ops) (suc k) r at = omega (arith, total_next o ops r, nth-next o ops k r, nth_below_total ops k r at)

order : (j k : ℕ) → (j < k) ⊎ ((k < j) ⊎ (j ≡ k))
order zero zero = inr (inr refl)
order zero (suc k) = inl (omega arith)
order (suc j) zero = inr (inl (omega arith))
order (suc j) (suc k) = elim (order j k) [
  | inl h ↦ inl (omega arith)
  | inr (inl h) ↦ inr (inl (omega arith))
  | inr (inr h) ↦ inr (inr (ap suc h))
]

-- one operation for each turn of a resource
pub nth_same : (ops : List OpKind) (j k : ℕ) (r : Res) → among (touched ops j) r ≡ true → among (touched ops k) r ≡ true → nth ops j r ≡ nth ops k r → j ≡ k
nth_same ops j k r at_j at_k same = elim (order j k) [
  | inl h ↦ absurd (omega (arith, nth_rises ops j k r h at_j))
  | inr (inl h) ↦ absurd (omega (arith, nth_rises ops k j r h at_k))
  | inr (inr h) ↦ h
]

pub record Turn (ops : List OpKind) (r : Res) (n bound : ℕ) : Type 0 where
  pub op : ℕ
  pub early : op < bound
  pub there : op < length ops
  pub at : among (touched ops op) r ≡ true
  pub turn : nth ops op r ≡ n

later : (o : OpKind) (ops : List OpKind) (r : Res) (n m k : ℕ) → n ≡ one_of o r + m → Turn ops r m k → Turn (o ∷ ops) r n (suc k)
later o ops r n m k is t = record {
  op = suc t.op;
  early = omega (arith, t.early);
  there = omega (arith, t.there);
  at = t.at;
  turn = omega (arith, nth-next o ops t.op r, t.turn, is);
}

-- and for each turn below one there is an operation before
found_next : (o : OpKind) (ops : List OpKind) (k : ℕ) (r : Res) (n : ℕ) → among (touches o) r ≡ true → n < 1 + nth ops k r → ((m : ℕ) → m < nth ops k r → Turn ops r m k) → Turn (o ∷ ops) r n (suc k)
found_next o ops k r zero at h before = record { op = 0; early = omega arith; there = omega arith; at = at; turn = refl }
found_next o ops k r (suc n) at h before = later o ops r (suc n) n k (omega (arith, one_true o r at)) (before n (omega arith))

pub turn_found : (ops : List OpKind) (k : ℕ) (r : Res) (n : ℕ) → n < nth ops k r → Turn ops r n k
turn_found [] zero r n h = absurd (omega arith)
turn_found [] (suc k) r n h = absurd (omega arith)
turn_found (o ∷ ops) zero r n h = absurd (omega arith)
turn_found (o ∷ ops) (suc k) r n h = elim (cases_Bool (among (touches o) r)) [
  | inr out ↦ later o ops r n n k (omega (arith, one_false o r out)) (turn_found ops k r n (omega (arith, nth-next o ops k r, one_false o r out)))
  | inl at ↦ found_next o ops k r n at (omega (arith, nth-next o ops k r, one_true o r at)) (λ m less. turn_found ops k r m less)
]

take_all : {X : Type 0} (xs : List X) → take (length xs) xs ≡ xs
take_all [] = refl
take_all (x ∷ xs) = ap (λ (ys : List _). x ∷ ys) (take_all xs)

pub nth_all : (ops : List OpKind) (r : Res) → nth ops (length ops) r ≡ total ops r
nth_all ops r = ap (λ (os : List OpKind). total os r) (take_all ops)
