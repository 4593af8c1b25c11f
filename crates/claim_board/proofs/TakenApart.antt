-- What a closed deck shows, read off its closed table.
use Rattle.std.proofs.Common.{◌≡◌, ℕ, zero, suc, ◌<◌, ◌≤◌, inl, inr, true, List, [], ◌∷◌, length, map, get_or, refl, sym, ◌∙◌, ap, subst, arith, Option, Some, sum_by}
use Rattle.std.specs.Prelude.{slice_get, All}
use mathlib.Core.Option.{some, some-injective, some-ne-none}
use lib.ListN.{get_elem?, get_or-map}
use Rattle.std.proofs.lemmas.Bool.{lt-ltb}
use Rattle.qccd_base.specs.declared.names.Res.{Res}
use Rattle.qccd_base.specs.declared.names.Res.TheVariants as res
use Rattle.op_cells.specs.declared.cells.Cell.{Cell}
use Rattle.op_cells.specs.Numbering.{index_of, IsThere}
use Rattle.atomic_table.specs.Table.{Final, Seen}
use Rattle.qccd_program.specs.AllCells.{AtTurns}
use Rattle.qccd_program.specs.CellOfRun.{IsCell}
use Rattle.qccd_program.specs.Program.{ProgramData}
use Rattle.claim_core.specs.Board.{is_there}
use Rattle.claim_board.specs.declared.deck.Deck.{Deck}
use Rattle.claim_board.specs.declared.pass.Pass.{Pass}
use Rattle.claim_board.specs.declared.view.View.{View}
use Rattle.claim_board.specs.Close.{IsAtRest, turn_of}
use Rattle.claim_board.specs.Deck.{AreAll, HasJoined, program_of, view_of, workers_of}
use Rattle.claim_board.specs.Rule.{Ruled, stands}
use Rattle.claim_board.specs.View.{seen_of, turn_in}
use Rattle.claim_board.proofs.AtRest.{IsClosed, IsLast, closed-final, numbered}
use Rattle.claim_board.proofs.Handing.{map-long}

there_from : (p : ProgramData) (r : Res) → IsThere p.machine p.bits r → is_there p r ≡ true
there_from p (res.Trap t) h = lt-ltb t.0 (length p.machine.capacities) h
there_from p (res.Seg g) h = lt-ltb g.0 (length p.machine.segments) h
there_from p (res.Junc j) h = lt-ltb j.0 p.machine.junctions h
there_from p (res.Bit b) h = lt-ltb b.0 p.bits h

-- a list whose slots are all full
all_full : {A : Type 0} (xs : List (Option A)) → ((i : ℕ) → i < length xs → (x : A) × (get_elem? xs i ≡ some (Some x))) → (ys : List A) × (xs ≡ map Some ys)
all_full [] full = ([], refl)
all_full (o ∷ xs) full =
    let first = full 0 (omega arith) in
    let rest = all_full xs (λ i less. full (suc i) (omega (arith, less))) in
    (first.0 ∷ rest.0, (λ i. some-injective o (Some first.0) first.1 i ∷ rest.1 i))

get-some : {A : Type 0} (xs : List A) (i : ℕ) (x : A) → get_elem? (map Some xs) i ≡ some (Some x) → slice_get xs i ≡ Some x
get-some [] i x at = absurd (some-ne-none (Some x) (sym at))
get-some (y ∷ xs) zero x at = some-injective (Some y) (Some x) at
get-some (y ∷ xs) (suc i) x at = get-some xs i x at

either_default : {A : Type 0} (xs : List A) (i : ℕ) (d e : A) → i < length xs → get_or xs i d ≡ get_or xs i e
either_default [] i d e less = absurd (omega arith)
either_default (x ∷ xs) zero d e less = refl
either_default (x ∷ xs) (suc i) d e less = either_default xs i d e (omega (arith, less))

turn-mapped : (p : ProgramData) (words turns : List ℕ) (r : Res) → turns ≡ map turn_in words → turn_of p turns r ≡ turn_in (get_or words (index_of p.machine r) 0)
turn-mapped p words turns r is = ap (λ (ts : List ℕ). get_or ts (index_of p.machine r) 0) is ∙ get_or-map turn_in words (index_of p.machine r) 0

-- the last pass has taken in all
pub last-of : (deck : Deck) (v : View) (passes : List Pass) → AreAll deck passes → HasJoined (program_of deck) v passes → IsLast (workers_of deck) v
last-of deck v passes are h = record {
  live = h.live;
  empty = h.empty;
  all = λ n less.
      let own = are.all n less in
      elim (h.ended own.0 own.1 own.2) [
        | inl same ↦ inl (same ∙ own.3)
        | inr old ↦ inr (subst (λ (m : ℕ). stands m v.ended ≡ true) own.3 old)
      ];
}

pub closed-of : (deck : Deck) (id : ℕ) (v : View) (passes : List Pass) (words : List ℕ) (slots : List (Option Cell)) → AreAll deck passes → HasJoined (program_of deck) v passes → Final (Seen (Ruled deck.words.shared.key) id v) words slots → IsClosed (program_of deck) words slots v
closed-of deck id v passes words slots are h final = closed-final deck.words.shared.key id v words slots (last-of deck v passes are h) final

pub slots-full : (p : ProgramData) (words : List ℕ) (slots : List (Option Cell)) (v : View) → IsClosed p words slots v → (cs : List Cell) × (slots ≡ map Some cs)
slots-full p words slots v c = all_full slots (λ i less.
    let n = numbered p i (omega (arith, less, c.deep)) in
    let cell = c.cells n.res n.there in
    (cell.0, subst (λ (j : ℕ). get_elem? slots j ≡ some (Some cell.0)) n.number cell.1))

pub words-small : (p : ProgramData) (words : List ℕ) (slots : List (Option Cell)) (v : View) → IsClosed p words slots v → All (λ x. turn_in x ≤ 4194304) words
words-small p words slots v c k d less =
    let n = numbered p k (omega (arith, less, c.long)) in
    subst (λ (x : ℕ). turn_in x ≤ 4194304) (ap (λ (j : ℕ). get_or words j 0) n.number ∙ either_default words k 0 d less) (c.small n.res n.there)

pub cells-at : (p : ProgramData) (words turns : List ℕ) (slots : List (Option Cell)) (cells : List Cell) (v : View) → IsClosed p words slots v → map Some cells ≡ slots → turns ≡ map turn_in words → AtTurns p (turn_of p turns) cells
cells-at p words turns slots cells v c are is = record {
  long = sym (map-long Some cells) ∙ ap (λ (xs : List (Option Cell)). length xs) are ∙ c.deep;
  each = λ r there.
      let cell = c.cells r (there_from p r there) in
      (cell.0, get-some cells (index_of p.machine r) cell.0 (ap (λ (xs : List (Option Cell)). get_elem? xs (index_of p.machine r)) are ∙ cell.1), subst (λ (n : ℕ). IsCell p r n cell.0) (sym (turn-mapped p words turns r is)) cell.2);
}

pub seen-below : (p : ProgramData) (words turns : List ℕ) (slots : List (Option Cell)) (v : View) (passes : List Pass) (i : ℕ) (q : Pass) (r : Res) → IsClosed p words slots v → HasJoined p v passes → turns ≡ map turn_in words → slice_get passes i ≡ Some q → is_there p r ≡ true → seen_of (view_of q) r ≤ turn_of p turns r
seen-below p words turns slots v passes i q r c h is at there = omega (arith, h.seen i q r at there, c.seen r there, turn-mapped p words turns r is)

pub rests-at : (p : ProgramData) (words turns : List ℕ) (slots : List (Option Cell)) (v : View) (passes : List Pass) → IsClosed p words slots v → HasJoined p v passes → turns ≡ map turn_in words → IsAtRest p.ops (turn_of p turns) (sum_by (λ q. (view_of q).begun) passes)
rests-at p words turns slots v passes c h is =
    subst (λ (z : (Res → ℕ) × ℕ). IsAtRest p.ops z.0 z.1) (λ i. ((λ r. sym (turn-mapped p words turns r is) i), h.begun i)) c.rest
