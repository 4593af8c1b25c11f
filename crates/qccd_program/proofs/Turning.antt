-- At its turn a resource reads as in the run, for any state and any way to read it.
use Rattle.std.proofs.Common.{◌≡◌, ℕ, zero, suc, ◌+◌, inl, inr, Bool, true, false, cond, if◌then◌else◌, List, [], ◌∷◌, take, refl, sym, ◌∙◌, ap, arith, Some}
use Rattle.std.specs.Prelude.{slice_get}
use Rattle.std.proofs.lemmas.Bool.{cases_Bool}
use Rattle.std.proofs.lemmas.Option.{same_Some, none-some}
use Rattle.qccd_base.specs.declared.names.Res.{Res}
use Rattle.qccd_base.specs.Resource.{among}
use Rattle.op_table.specs.declared.kinds.OpKind.{OpKind}
use Rattle.op_table.specs.Touch.{touches, nth, total}
use Rattle.qccd_program.specs.Faithful.{one_of}
use Rattle.qccd_program.specs.Turn.{at_turn}
use Rattle.op_table.proofs.Counts.{count_by-cons}

-- the state after some operations
abbrev pub stepped : {S : Type 0} → (S → OpKind → S) → S → List OpKind → S
stepped step s [] = s
stepped step s (op ∷ ops) = stepped step (step s op) ops

-- what an operation does not touch reads as before
abbrev pub Others : {S V : Type 0} → (S → Res → V) → (S → OpKind → S) → Type 0
Others {S} {V} read step = (s : S) (op : OpKind) (r : Res) → among (touches op) r ≡ false → read (step s op) r ≡ read s r

-- the first turn is how it was
pub turn-first : {S V : Type 0} (read : S → Res → V) (step : S → OpKind → S) → Others read step → (s : S) (ops : List OpKind) (r : Res) → at_turn read step s ops r 0 ≡ read s r
turn-first read step others s [] r = refl
turn-first {S} {V} read step others s (op ∷ ops) r = elim (cases_Bool (among (touches op) r)) [
  | inl h ↦ ap (λ (b : Bool). if b then read s r else at_turn read step (step s op) ops r 0) h
  | inr h ↦ ap (λ (b : Bool). if b then read s r else at_turn read step (step s op) ops r 0) h ∙ turn-first read step others (step s op) ops r ∙ others s op r h
]

pub nth-next : (op : OpKind) (ops : List OpKind) (k : ℕ) (r : Res) → nth (op ∷ ops) (suc k) r ≡ one_of op r + nth ops k r
nth-next op ops k r = count_by-cons (λ o. among (touches o) r) op (take k ops)

-- a later turn, past one operation
past_by : {S V : Type 0} (read : S → Res → V) (step : S → OpKind → S) (s : S) (op : OpKind) (ops : List OpKind) (r : Res) (n : ℕ) (b : Bool) → among (touches op) r ≡ b
    → at_turn read step s (op ∷ ops) r (cond b 1 0 + n) ≡ at_turn read step (step s op) ops r n
past_by {S} {V} read step s op ops r n true h =
    ap (at_turn read step s (op ∷ ops) r) (plus_one n)
    ∙ ap (λ (b : Bool). if b then at_turn read step (step s op) ops r n else at_turn read step (step s op) ops r (suc n)) h
  where
    plus_one : (n : ℕ) → 1 + n ≡ suc n
    plus_one n = omega arith
past_by {S} {V} read step s op ops r n false h = ap (at_turn read step s (op ∷ ops) r) (none_plus n) ∙ skip n
  where
    none_plus : (n : ℕ) → 0 + n ≡ n
    none_plus n = omega arith

    skip : (n : ℕ) → at_turn read step s (op ∷ ops) r n ≡ at_turn read step (step s op) ops r n
    skip zero = ap (λ (b : Bool). if b then read s r else at_turn read step (step s op) ops r 0) h
    skip (suc n) = ap (λ (b : Bool). if b then at_turn read step (step s op) ops r n else at_turn read step (step s op) ops r (suc n)) h

pub past : {S V : Type 0} (read : S → Res → V) (step : S → OpKind → S) (s : S) (op : OpKind) (ops : List OpKind) (r : Res) (n : ℕ) → at_turn read step s (op ∷ ops) r (one_of op r + n) ≡ at_turn read step (step s op) ops r n
past read step s op ops r n = past_by read step s op ops r n (among (touches op) r) refl

-- before k operations each resource is at its turn
pub turn-own : {S V : Type 0} (read : S → Res → V) (step : S → OpKind → S) → Others read step → (s : S) (ops : List OpKind) (k : ℕ) (r : Res) → at_turn read step s ops r (nth ops k r) ≡ read (stepped step s (take k ops)) r
turn-own read step others s [] zero r = refl
turn-own read step others s [] (suc k) r = refl
turn-own read step others s (o ∷ ops) zero r = turn-first read step others s (o ∷ ops) r
turn-own read step others s (o ∷ ops) (suc k) r = ap (at_turn read step s (o ∷ ops) r) (nth-next o ops k r) ∙ past read step s o ops r (nth ops k r) ∙ turn-own read step others (step s o) ops k r

-- the turn after an operation that touches it
pub nth-own : (ops : List OpKind) (k : ℕ) (op : OpKind) (r : Res) → slice_get ops k ≡ Some op → nth ops (suc k) r ≡ nth ops k r + one_of op r
nth-own [] k op r is = absurd (none-some op is)
nth-own (o ∷ ops) zero op r is = let same : o ≡ op = same_Some o op is in ap (λ (x : OpKind). nth (x ∷ ops) 1 r) same ∙ nth-next op ops 0 r ∙ turned (one_of op r)
  where
    turned : (n : ℕ) → n + 0 ≡ 0 + n
    turned n = omega arith
nth-own (o ∷ ops) (suc k) op r is = omega (arith, nth-next o ops k r, nth-next o ops (suc k) r, nth-own ops k op r is)

pub stepped-next : {S : Type 0} (step : S → OpKind → S) (s : S) (ops : List OpKind) (k : ℕ) (op : OpKind) → slice_get ops k ≡ Some op → stepped step s (take (suc k) ops) ≡ step (stepped step s (take k ops)) op
stepped-next step s [] k op is = absurd (none-some op is)
stepped-next step s (o ∷ ops) zero op is = ap (step s) (same_Some o op is)
stepped-next step s (o ∷ ops) (suc k) op is = stepped-next step (step s o) ops k op is

pub turn-next : {S V : Type 0} (read : S → Res → V) (step : S → OpKind → S) → Others read step → (s : S) (ops : List OpKind) (k : ℕ) (op : OpKind) (r : Res) → slice_get ops k ≡ Some op → among (touches op) r ≡ true
    → at_turn read step s ops r (nth ops k r + 1) ≡ read (step (stepped step s (take k ops)) op) r
turn-next {S} {V} read step others s ops k op r is at =
    let one : nth ops (suc k) r ≡ nth ops k r + 1 = nth-own ops k op r is ∙ ap (λ (b : Bool). nth ops k r + cond b 1 0) at in
    ap (at_turn read step s ops r) (sym one) ∙ turn-own read step others s ops (suc k) r ∙ ap (λ (z : S). read z r) (stepped-next step s ops k op is)

pub turn-end : {S V : Type 0} (read : S → Res → V) (step : S → OpKind → S) (s : S) (ops : List OpKind) (r : Res) → at_turn read step s ops r (total ops r) ≡ read (stepped step s ops) r
turn-end read step s [] r = refl
turn-end read step s (o ∷ ops) r = ap (at_turn read step s (o ∷ ops) r) (count_by-cons (λ x. among (touches x) r) o ops) ∙ past read step s o ops r (total ops r) ∙ turn-end read step (step s o) ops r
