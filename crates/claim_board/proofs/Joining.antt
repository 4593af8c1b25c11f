-- What one pass knows that took in others.
use Rattle.std.proofs.Common.{◌≡◌, ℕ, zero, suc, ◌<◌, ◌≤◌, ◌⊎◌, inl, inr, true, ◌==◌, List, [], ◌∷◌, ◌++◌, length, get_or, refl, sym, ◌∙◌, ap, subst, arith, Some, None}
use Rattle.std.specs.Prelude.{slice_get}
use Rattle.std.proofs.lemmas.Bool.{or_left, or_right, eq-eqb}
use Rattle.std.proofs.lemmas.Option.{same_Some, none-some}
use Rattle.std.proofs.lemmas.List.Sums.{sum_by-cons}
use Rattle.qccd_base.specs.declared.names.Res.{Res}
use Rattle.op_cells.specs.Numbering.{index_of}
use Rattle.qccd_program.specs.Program.{ProgramData}
use Rattle.claim_core.specs.Board.{is_there, width}
use Rattle.claim_core.proofs.Written.{index_below}
use Rattle.claim_board.specs.declared.pass.Pass.{Pass}
use Rattle.claim_board.specs.declared.view.View.{View}
use Rattle.claim_board.specs.Deck.{view_of, HasJoined}
use Rattle.claim_board.specs.Plays.{joined}
use Rattle.claim_board.specs.Rule.{stands}
use Rattle.claim_board.specs.View.{greater_of, seen_of}
use Rattle.claim_board.proofs.Joins.{greater-long}
use Rattle.claim_board.proofs.Looks.{seen-program}

greater-left : (xs ys : List ℕ) (i : ℕ) → get_or xs i 0 ≤ get_or (greater_of xs ys) i 0
greater-left [] ys i = omega arith
greater-left (x ∷ xs) [] i = omega arith
greater-left (x ∷ xs) (y ∷ ys) zero = omega arith
greater-left (x ∷ xs) (y ∷ ys) (suc i) = greater-left xs ys i

greater-right : (xs ys : List ℕ) (i : ℕ) → i < length xs → get_or ys i 0 ≤ get_or (greater_of xs ys) i 0
greater-right [] ys i less = absurd (omega arith)
greater-right (x ∷ xs) [] i less = omega arith
greater-right (x ∷ xs) (y ∷ ys) zero less = omega arith
greater-right (x ∷ xs) (y ∷ ys) (suc i) less = greater-right xs ys i (omega arith)

stands-left : (n : ℕ) (xs ys : List ℕ) → stands n xs ≡ true → stands n (xs ++ ys) ≡ true
stands-left n [] ys h = absurd (Rattle.std.proofs.lemmas.Bool.false≢true h)
stands-left n (x ∷ xs) ys h = elim (Rattle.std.proofs.lemmas.Bool.or_cases (x == n) (stands n xs) h) [
  | inl e ↦ or_left (x == n) (stands n (xs ++ ys)) e
  | inr t ↦ or_right (x == n) (stands n (xs ++ ys)) (stands-left n xs ys t)
]

stands-here : (n : ℕ) (xs ys : List ℕ) → stands n (xs ++ n ∷ ys) ≡ true
stands-here n [] ys = or_left (n == n) (stands n ys) (eq-eqb n n refl)
stands-here n (x ∷ xs) ys = or_right (x == n) (stands n (xs ++ n ∷ ys)) (stands-here n xs ys)

pass-long : (q : Pass) → length (view_of q).seen ≡ width (view_of q).program
pass-long q = ap (λ (xs : List ℕ). length xs) q.seen_is ∙ q.long

pub joined-one : (p : ProgramData) (q : Pass) → (view_of q).program ≡ p → (view_of q).op ≡ None → HasJoined p (view_of q) (q ∷ [])
joined-one p q is empty = record {
  live = q.live;
  empty = empty;
  program = is;
  begun = omega (arith, sum_by-cons (λ (x : Pass). (view_of x).begun) q []);
  ended = λ i x at. inl (ap (λ (y : Pass). (view_of y).number) (alone i x at));
  seen = λ i x r at there. subst (λ (y : Pass). seen_of (view_of y) r ≤ seen_of (view_of q) r) (alone i x at) (omega arith);
  long = pass-long q ∙ ap width is;
}
  where
    alone : (i : ℕ) (x : Pass) → slice_get (q ∷ []) i ≡ Some x → q ≡ x
    alone zero x at = same_Some q x at
    alone (suc i) x at = absurd (none-some x at)

pub joined-more : (p : ProgramData) (v w : View) (q : Pass) (qs : List Pass) → HasJoined p v qs → (view_of q).program ≡ p → w ≡ joined v (view_of q) → HasJoined p w (q ∷ qs)
joined-more p v w q qs h is w_is = subst (λ (z : View). HasJoined p z (q ∷ qs)) (sym w_is) (record {
  live = h.live;
  empty = h.empty;
  program = h.program;
  begun = omega (arith, h.begun, sum_by-cons (λ (x : Pass). (view_of x).begun) q qs);
  ended = ended;
  seen = seen;
  long = greater-long v.seen (view_of q).seen ∙ h.long;
})
  where
    u : View
    u = view_of q

    ended : (i : ℕ) (x : Pass) → slice_get (q ∷ qs) i ≡ Some x → (v.number ≡ (view_of x).number) ⊎ (stands (view_of x).number (v.ended ++ u.number ∷ u.ended) ≡ true)
    ended zero x at = inr (subst (λ (y : Pass). stands (view_of y).number (v.ended ++ u.number ∷ u.ended) ≡ true) (same_Some q x at) (stands-here u.number v.ended u.ended))
    ended (suc i) x at = elim (h.ended i x at) [
      | inl same ↦ inl same
      | inr old ↦ inr (stands-left (view_of x).number v.ended (u.number ∷ u.ended) old)
    ]

    at_p : (z : View) (r : Res) → z.program ≡ p → seen_of z r ≡ get_or z.seen (index_of p.machine r) 0
    at_p z r same = seen-program z p r same

    seen : (i : ℕ) (x : Pass) (r : Res) → slice_get (q ∷ qs) i ≡ Some x → is_there p r ≡ true → seen_of (view_of x) r ≤ seen_of (joined v u) r
    seen zero x r at there =
        subst (λ (y : Pass). seen_of (view_of y) r ≤ seen_of (joined v u) r) (same_Some q x at)
        (omega (arith, at_p u r is, at_p (joined v u) r h.program, greater-right v.seen u.seen (index_of p.machine r) (omega (arith, h.long, index_below p r there))))
    seen (suc i) x r at there = omega (arith, h.seen i x r at there, greater-left v.seen u.seen (index_of v.program.machine r))
