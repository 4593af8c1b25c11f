-- A deck as it is dealt keeps the rule.
use Rattle.std.proofs.Common.{◌≡◌, ℕ, zero, suc, ◌<◌, ◌≤◌, true, List, [], ◌∷◌, length, map, get_or, replicate, refl, sym, ◌∙◌, ap, subst, arith, Option, Some}
use Rattle.std.specs.Prelude.{slice_get}
use mathlib.Core.Option.{some, some-injective, some-ne-none}
use lib.ListN.{get_elem?}
use Rattle.std.proofs.lemmas.Bool.{false≢true, ltb-true}
use Rattle.std.proofs.lemmas.Option.{same_Some, none-some}
use Rattle.std.proofs.lemmas.List.{length-replicate}
use Rattle.std.proofs.lemmas.List.Sums.{sum_by-cons}
use Rattle.qccd_base.specs.declared.names.Res.{Res}
use Rattle.qccd_base.specs.declared.names.Res.TheVariants as res
use Rattle.op_cells.specs.declared.cells.Cell.{Cell}
use Rattle.op_cells.specs.Numbering.{index_of, IsThere}
use Rattle.atomic_table.specs.Table.{opening}
use Rattle.atomic_table.proofs.Lists.{at_map}
use Rattle.qccd_program.specs.AllCells.{AtStep}
use Rattle.qccd_program.specs.CellOfRun.{IsCell}
use Rattle.qccd_program.specs.Legal.{IsLegalProgram}
use Rattle.qccd_program.specs.Program.{ProgramData}
use Rattle.claim_core.specs.declared.board.Slot.{Slot}
use Rattle.claim_core.specs.Board.{BoardData, is_there, width, opening_board}
use Rattle.claim_core.proofs.Events.{slot_opening, hand_opening}
use Rattle.claim_board.proofs.Handing.{map-long}
use Rattle.claim_board.specs.declared.view.Key.{Key}
use Rattle.claim_board.specs.View.{word_of}
use Rattle.claim_board.specs.Rule.{ShowsHand, Identity, identity, IsLive, Numbers, stands, begun_of, Ruled, first_view}

-- a resource whose test passes is there
pub there-true : (p : ProgramData) (r : Res) → is_there p r ≡ true → IsThere p.machine p.bits r
there-true p (res.Trap t) h = ltb-true t.0 (length p.machine.capacities) h
there-true p (res.Seg g) h = ltb-true g.0 (length p.machine.segments) h
there-true p (res.Junc j) h = ltb-true j.0 p.machine.junctions h
there-true p (res.Bit b) h = ltb-true b.0 p.bits h

-- the two ways to read a list
pub elem-get : {A : Type 0} (xs : List A) (i : ℕ) (x : A) → slice_get xs i ≡ Some x → get_elem? xs i ≡ some x
elem-get [] i x at = absurd (none-some x at)
elem-get (y ∷ xs) zero x at = ap some (same_Some y x at)
elem-get (y ∷ xs) (suc i) x at = elem-get xs i x at

none_yet : (n i : ℕ) → let none : ℕ = 0 in get_or (replicate n none) i none ≡ none
none_yet zero i = refl
none_yet (suc n) zero = refl
none_yet (suc n) (suc i) = none_yet n i

only : {A : Type 0} (x y : A) (j : ℕ) → get_elem? (x ∷ []) j ≡ some y → (j ≡ 0) × (x ≡ y)
only x y zero at = (refl, some-injective x y at)
only x y (suc j) at = absurd (some-ne-none y (sym at))

module _ (key : Key) where
  abbrev P : ProgramData
  P = key.program.value

  abbrev B : BoardData
  B = opening_board P key.workers

  abbrev First : List Identity
  First = identity (first_view key) ∷ []

  alone : (i : ℕ) (a : Identity) → IsLive First i a → (i ≡ 0) × (identity (first_view key) ≡ a)
  alone i a h = only (identity (first_view key)) a i h.at

  none_stands : (n i : ℕ) (a : Identity) → IsLive First i a → stands n a.ended ≡ true → ⊥
  none_stands n i a h hit = false≢true (ap (λ (z : Identity). stands n z.ended) (alone i a h).1 ∙ hit)

  first_numbers : 0 < key.workers → Numbers key.workers First
  first_numbers more = record {
    below = λ i a h. omega (arith, more, ap (λ (z : Identity). z.number) (alone i a h).1);
    apart = λ i j a b h k same. (alone i a h).0 ∙ sym (alone j b k).0;
    ended = λ i j a b h k. Rattle.std.proofs.lemmas.Bool.false_from_ne_true (stands a.number b.ended) (λ hit. none_stands a.number j b k hit);
    once = λ i j n a b h k one two. absurd (none_stands n i a h one);
    made = λ i j a b h none k. omega (arith, ap (λ (z : Identity). z.number) (alone j b k).1, ap (λ (z : Identity). z.made) (alone i a h).1);
    made_ended = λ i j n a b h none k hit. absurd (none_stands n j b k hit);
  }

  first_shows : ShowsHand key B (first_view key)
  first_shows = record {
    program = refl;
    workers = refl;
    op = hand_opening P key.workers 0;
    hand = λ k busy. absurd (none-some k busy);
    long = length-replicate (width P) 0;
    seen = λ r there. omega (arith, none_yet (width P) (index_of P.machine r));
  }

  pub opening-rules : (words : List ℕ) (slots : List (Option Cell)) (cells : List Cell) → IsLegalProgram P → key.workers ≤ 16 → 0 < key.workers → words ≡ replicate (width P) 0 → slots ≡ map Some cells → AtStep P 0 cells → Ruled key (opening words slots (first_view key))
  opening-rules words slots cells legal few more w_is s_is at = record {
    legal = legal;
    few = few;
    wide = ap (λ (ws : List ℕ). length ws) w_is ∙ length-replicate (width P) 0;
    deep = map-long some slots ∙ ap (λ (xs : List (Option Cell)). length xs) s_is ∙ map-long Some cells ∙ at.long;
    events = [];
    history = tt;
    shown = record {
      words = λ r there. ap (λ (ws : List ℕ). get_or ws (index_of P.machine r) 0) w_is ∙ none_yet (width P) (index_of P.machine r) ∙ ap word_of (sym (slot_opening P key.workers r));
      homes = λ r there free.
          let c = at.each r (there-true P r there) in
          record {
            cell = c.0;
            home = at_map some slots (index_of P.machine r) (Some c.0) (subst (λ (xs : List (Option Cell)). get_elem? xs (index_of P.machine r) ≡ some (Some c.0)) (sym s_is) (at_map Some cells (index_of P.machine r) c.0 (elem-get cells (index_of P.machine r) c.0 c.1)));
            is = subst (λ (n : ℕ). IsCell P r n c.0) (ap (λ (z : Slot). z.turn) (sym (slot_opening P key.workers r))) c.2;
          };
      passes = λ j v found live. subst (ShowsHand key B) (only (first_view key) v j found).1 first_shows;
      owned = λ n k busy. absurd (none-some k (sym (hand_opening P key.workers n) ∙ busy));
    };
    numbers = first_numbers more;
    counted = omega (arith, sum_by-cons begun_of (first_view key) []);
  }
