use Rattle.std.proofs.Common.{◌≡◌, ℕ, ◌<◌, ◌≤◌, inl, inr, Bool, false, List, [], ◌∷◌, ◌++◌, Option, Some, None, get_or, set, length, map, take, sym, ◌∙◌, ap, subst, arith, get_or-set_same, get_or-set_other}
use mathlib.Core.List.{map-append}
use mathlib.Core.Option.{some}
use lib.ListN.{get_elem?}
use Rattle.std.specs.Slots.{slots_counts, slots_filled, slots_items}
use Rattle.std.proofs.lemmas.Option.{none-some}
use Rattle.op_cells.specs.declared.cells.Cell.{Cell}
use Rattle.claim_core.proofs.Kept.{cases_ℕ}
use Rattle.claim_board.specs.View.{turn_in}
use Rattle.claim_board.proofs.Emptying.{elem-or, full-slot, take-le, take-more}
use Rattle.claim_board.proofs.Handing.{map-long}
use Rattle.claim_board.proofs.closing.take_out_all.Goals as goal

pub unreachable-requires : goal.unreachable-requires
unreachable-requires c =
    let slot = subst (λ (xs : List (Option Cell)). get_elem? xs c.loop-i.i ≡ some None) (c.loop-i.invariant.slots ∙ c.requires.there.1) c.in_default.ensures.value in
    let full = full-slot c.requires.there.0 c.loop-i.i None slot in
    none-some full.0 full.1

pub unreachable-requires-in_default-push : goal.unreachable-requires-in_default-push
unreachable-requires-in_default-push c =
    let cells = c.loop-i.cells in
    let long : length cells.items ≡ length (take c.loop-i.i (slots_items c.args.closed.slots)) = sym (map-long Some cells.items) ∙ ap (λ (xs : List (Option Cell)). length xs) c.loop-i.invariant.taken in
    omega (arith, c.in_default-push.ensures.full, cells.ok.0, long, take-le c.loop-i.i (slots_items c.args.closed.slots), c.loop-i-test.true, c.slot_count-i-end.ensures, c.loop-i.invariant.cells_room)

pub overflow_cast-word : goal.overflow_cast-word
overflow_cast-word c =
    let words = slots_items c.args.closed.words in
    let at = subst (λ (w : _). get_elem? (slots_items w) c.loop-i.i ≡ some c.word-word.result) c.loop-i.invariant.words c.word-word.ensures in
    let here = elem-or words c.loop-i.i c.word-word.result 0 at in
    let small : turn_in c.word-word.result ≤ 4194304 = subst (λ (x : ℕ). turn_in x ≤ 4194304) here.1 (c.requires.small c.loop-i.i 0 here.0) in
    omega arith

pub loop-i-preserved : goal.loop-i-preserved
loop-i-preserved c =
    let words = slots_items c.args.closed.words in
    let slots = slots_items c.args.closed.slots in
    let i = c.loop-i.i in
    let at = subst (λ (w : _). get_elem? (slots_items w) i ≡ some c.word-word.result) c.loop-i.invariant.words c.word-word.ensures in
    let slot = subst (λ (xs : List (Option Cell)). get_elem? xs i ≡ some (Some c.in-Some.cell)) c.loop-i.invariant.slots c.in-Some.ensures.value in
    let others = c.take.ensures.others in
    let old = slots_filled c.loop-i.closed.slots in
    let room : i < length old = omega (arith, (slots_counts c.loop-i.closed.slots).1, c.loop-i-test.true, c.slot_count-i-end.ensures, c.loop-i.invariant.count) in
    record {
      filled = λ k low high.
          ap (λ (fs : List Bool). get_or fs k false) others.1 ∙ get_or-set_other old i k false false (λ e. omega (arith, e, low))
          ∙ c.loop-i.invariant.filled k (omega (arith, low)) (omega (arith, high, others.2));
      emptied = λ k less. ap (λ (fs : List Bool). get_or fs k false) others.1 ∙ elim (cases_ℕ k i) [
        | inl is ↦ ap (λ (m : ℕ). get_or (set old i false) m false) is ∙ get_or-set_same old i false false room
        | inr apart ↦ get_or-set_other old i k false false apart ∙ c.loop-i.invariant.emptied k (omega (arith, less, apart))
      ];
      slots = others.0 ∙ c.loop-i.invariant.slots;
      count = others.2 ∙ c.loop-i.invariant.count;
      words = others.3 ∙ c.loop-i.invariant.words;
      taken =
          ap (map Some) c.in-Ok.ensures.items ∙ map-append Some c.loop-i.cells.items (c.in-Some.cell ∷ []) ∙ ap (λ (xs : List (Option Cell)). xs ++ Some c.in-Some.cell ∷ []) c.loop-i.invariant.taken
          ∙ sym (take-more slots i (Some c.in-Some.cell) slot);
      turns =
          c.in-Ok-push.ensures.items ∙ ap (λ (ns : List ℕ). ns ++ turn_in c.word-word.result ∷ []) c.loop-i.invariant.turns ∙ sym (map-append turn_in (take i words) (c.word-word.result ∷ []))
          ∙ ap (map turn_in) (sym (take-more words i c.word-word.result at));
      cells_room = omega (arith, c.loop-i.invariant.cells_room, c.in-Ok.ensures.capacity);
      turns_room = omega (arith, c.loop-i.invariant.turns_room, c.in-Ok-push.ensures.capacity);
    }
