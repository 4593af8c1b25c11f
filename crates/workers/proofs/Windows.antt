-- What a round claims.
use Rattle.std.proofs.Common.{◌≡◌, ◌⊎◌, inl, inr, ℕ, zero, suc, ◌+◌, ◌<◌, ◌==◌, true, false, List, [], ◌∷◌, ◌++◌, length, take, refl, sym, ◌∙◌, ap, subst, arith, Some}
use Rattle.std.specs.Prelude.{slice_get, slice_index_or}
use Rattle.std.proofs.lemmas.Bool.{cases_lt, false≢true, or_cases, or_left, or_right, eq-eqb, eqb-true}
use Rattle.std.proofs.lemmas.List.{length-append}
use Rattle.std.proofs.lemmas.List.Folds.{list_any-append}
use Rattle.std.proofs.lemmas.Option.{slice_get_within}
use Rattle.std.proofs.Math.Seq.{take-suc}
use Rattle.op_table.specs.declared.kinds.OpKind.{OpKind}
use Rattle.qccd_program.specs.Legal.{IsLegalProgram}
use Rattle.qccd_program.specs.Program.{ProgramData}
use Rattle.claim_core.proofs.Coded.{there-among}
use Rattle.claim_core.proofs.Legally.{claims-legal}
use Rattle.claim_board.specs.declared.view.View.{View}
use Rattle.claim_board.specs.Rule.{stands}
use Rattle.workers.specs.declared.kind.WorkerKind.{WorkerKind}
use Rattle.workers.specs.Kind.{does}
use Rattle.workers.specs.Sweep.{HasSeenAllPast, HasSeenPast, HasWorked}
use Rattle.workers.specs.Window.{AreThere, Covers, Leaves}
use Rattle.workers.proofs.Working.{past-on, there-moved}

-- numbers in a list that became longer
stands-left : (n m : ℕ) (xs : List ℕ) → stands n xs ≡ true → stands n (xs ++ m ∷ []) ≡ true
stands-left n m xs h = list_any-append (λ k. k == n) xs (m ∷ []) ∙ or_left (stands n xs) (stands n (m ∷ [])) h

stands-here : (n : ℕ) (xs : List ℕ) → stands n (xs ++ n ∷ []) ≡ true
stands-here n xs = list_any-append (λ k. k == n) xs (n ∷ []) ∙ or_right (stands n xs) (stands n (n ∷ [])) (or_left (n == n) false (eq-eqb n n refl))

stands-last : (n m : ℕ) (xs : List ℕ) → stands n (xs ++ m ∷ []) ≡ true → (stands n xs ≡ true) ⊎ (m ≡ n)
stands-last n m xs h = elim (or_cases (stands n xs) (stands n (m ∷ [])) (sym (list_any-append (λ k. k == n) xs (m ∷ [])) ∙ h)) [
  | inl old ↦ inl old
  | inr new ↦ elim (or_cases (m == n) false new) [
    | inl same ↦ inr (eqb-true m n same)
    | inr none ↦ absurd (false≢true none)
  ]
]

pub stands-at : (xs : List ℕ) (i d : ℕ) → i < length xs → stands (slice_index_or xs i d) xs ≡ true
stands-at [] i d less = absurd (omega (arith, less))
stands-at (x ∷ xs) zero d less = or_left (x == x) (stands x xs) (eq-eqb x x refl)
stands-at (x ∷ xs) (suc i) d less = or_right (x == slice_index_or xs i d) (stands (slice_index_or xs i d) xs) (stands-at xs i d (omega (arith, less)))

pub there-at : (p : ProgramData) (ks : List ℕ) (i d : ℕ) → AreThere p ks → i < length ks → slice_index_or ks i d < length p.ops
there-at p ks i d there less = there (slice_index_or ks i d) (stands-at ks i d less)

there-push : (p : ProgramData) (ks : List ℕ) (n : ℕ) → n < length p.ops → AreThere p ks → AreThere p (ks ++ n ∷ [])
there-push p ks n less there = λ k h. elim (stands-last k n ks h) [
  | inl old ↦ there k old
  | inr same ↦ subst (λ (m : ℕ). m < length p.ops) same less
]

-- the first i of a list and one more
take-next : (xs : List ℕ) (i d : ℕ) → i < length xs → take (i + 1) xs ≡ take i xs ++ slice_index_or xs i d ∷ []
take-next xs i d less = ap (λ (n : ℕ). take n xs) (one i) ∙ take-suc xs i d less
  where
    one : (i : ℕ) → i + 1 ≡ suc i
    one i = omega arith

pub one-more : (xs : List ℕ) (x : ℕ) → length (xs ++ x ∷ []) ≡ length xs + 1
one-more xs x = length-append xs (x ∷ [])

pub leaves-none : (p : ProgramData) (v : View) → Leaves p v [] []
leaves-none p v = record { there = λ k h. absurd (false≢true h); all = λ k h. absurd (false≢true h) }

-- the next of the list is past, or it is left
pub leaves-past : (p : ProgramData) (v : View) (ks left : List ℕ) (i d : ℕ) → i < length ks → HasSeenPast p v (slice_index_or ks i d) → Leaves p v (take i ks) left → Leaves p v (take (i + 1) ks) left
leaves-past p v ks left i d less past s = subst (λ (xs : List ℕ). Leaves p v xs left) (sym (take-next ks i d less)) (record {
  there = s.there;
  all = λ k h.
      elim (stands-last k (slice_index_or ks i d) (take i ks) h) [
        | inl old ↦ s.all k old
        | inr same ↦ inl (subst (HasSeenPast p v) same past)
      ];
})

pub leaves-left : (p : ProgramData) (v : View) (ks left : List ℕ) (i d : ℕ) → i < length ks → AreThere p ks → Leaves p v (take i ks) left → Leaves p v (take (i + 1) ks) (left ++ slice_index_or ks i d ∷ [])
leaves-left p v ks left i d less there s =
    let n : ℕ = slice_index_or ks i d in
    subst (λ (xs : List ℕ). Leaves p v xs (left ++ n ∷ [])) (sym (take-next ks i d less)) (record {
      there = there-push p left n (there-at p ks i d there less) s.there;
      all = λ k h.
          elim (stands-last k n (take i ks) h) [
            | inl old ↦ elim (s.all k old) [
              | inl past ↦ inl past
              | inr t ↦ inr (stands-left k n left t)
            ]
            | inr same ↦ inr (subst (λ (m : ℕ). stands m (left ++ n ∷ []) ≡ true) same (stands-here n left))
          ];
    })

pub covers-none : (p : ProgramData) (kind : WorkerKind) (v : View) → Covers p kind v 0 []
covers-none p kind v = record { few = omega arith; there = λ k h. absurd (false≢true h); all = λ k op less is does. absurd (omega (arith, less)) }

pub covers-left : (p : ProgramData) (kind : WorkerKind) (v : View) (next : ℕ) (ks left : List ℕ) → Covers p kind v next ks → Leaves p v ks left → Covers p kind v next left
covers-left p kind v next ks left c s = record {
  few = c.few;
  there = s.there;
  all = λ k op less is does.
      elim (c.all k op less is does) [
        | inl past ↦ inl past
        | inr h ↦ s.all k h
      ];
}

below : (k n : ℕ) → k < n + 1 → (k < n) ⊎ (n ≡ k)
below k n less = elim (cases_lt k n) [
  | inl h ↦ inl h
  | inr h ↦ inr (omega (arith, less, h))
]

-- operation `next` is of another kind or past, or it is taken into the list
pub covers-skip : (p : ProgramData) (kind : WorkerKind) (v : View) (next : ℕ) (ks : List ℕ) → next < length p.ops → Covers p kind v next ks
    → ((op : OpKind) → slice_get p.ops next ≡ Some op → does kind op ≡ true → HasSeenPast p v next) → Covers p kind v (next + 1) ks
covers-skip p kind v next ks less c past = record {
  few = omega (arith, less);
  there = c.there;
  all = λ k op b is d. elim (below k next b) [
    | inl old ↦ c.all k op old is d
    | inr same ↦ inl (subst (HasSeenPast p v) same (past op (subst (λ (n : ℕ). slice_get p.ops n ≡ Some op) (sym same) is) d))
  ];
}

pub covers-push : (p : ProgramData) (kind : WorkerKind) (v : View) (next : ℕ) (ks : List ℕ) → next < length p.ops → Covers p kind v next ks → Covers p kind v (next + 1) (ks ++ next ∷ [])
covers-push p kind v next ks less c = record {
  few = omega (arith, less);
  there = there-push p ks next less c.there;
  all = λ k op b is d. elim (below k next b) [
    | inl old ↦ elim (c.all k op old is d) [
      | inl past ↦ inl past
      | inr h ↦ inr (stands-left k next ks h)
    ]
    | inr same ↦ inr (subst (λ (n : ℕ). stands n (ks ++ next ∷ []) ≡ true) same (stands-here next ks))
  ];
}

-- a pass that worked
pub covers-on : (p : ProgramData) (kind : WorkerKind) (v w : View) (d c next : ℕ) (ks : List ℕ) → v.program ≡ p → IsLegalProgram p → HasWorked v w d c → Covers p kind v next ks → Covers p kind w next ks
covers-on p kind v w d c next ks same legal worked covers = record {
  few = covers.few;
  there = covers.there;
  all = λ k op less is does.
      elim (covers.all k op less is does) [
        | inl past ↦ inl (past-on p v w d c k worked (λ r h. there-moved p v.program r same (there-among p k r (claims-legal p legal) h)) past)
        | inr h ↦ inr h
      ];
}

-- nothing is left
pub covers-all : (p : ProgramData) (kind : WorkerKind) (v : View) (next : ℕ) (ks : List ℕ) → length ks ≡ 0 → next ≡ length p.ops → Covers p kind v next ks → HasSeenAllPast p kind v
covers-all p kind v next [] none all c = λ k op is does.
    elim (c.all k op (let less = slice_get_within p.ops k op is in omega (arith, less, all)) is does) [
      | inl past ↦ past
      | inr h ↦ absurd (false≢true h)
    ]
covers-all p kind v next (x ∷ xs) none all c = absurd (omega (arith, none))
