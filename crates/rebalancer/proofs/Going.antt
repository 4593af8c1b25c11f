-- A plan to which the operations along a path are appended, segment by segment.
use Rattle.std.proofs.Common.{arith, ◌≡◌, ℕ, zero, suc, ◌+◌, ◌-◌, ◌*◌, ◌<◌, ◌≤◌, List, [], ◌∷◌, ◌++◌, drop, get_or, length, map, refl, sym, ◌∙◌, ap, subst, Option, Some, None, append-nil}
use Rattle.std.specs.Prelude.{slice_get}
use Rattle.std.proofs.lemmas.Option.{slice_get-get_or}
use Rattle.qccd_base.specs.declared.names.Res.{Res}
use Rattle.qccd_base.specs.declared.names.SegId.{SegId}
use Rattle.qccd_machine.specs.declared.place.Place.{Place}
use Rattle.qccd_machine.specs.Machine.{MachineData, site}
use Rattle.op_table.specs.declared.kinds.OpKind.{OpKind}
use Rattle.op_table.specs.Run.{IsRun}
use Rattle.op_plan.specs.Plan.{PlanData, Agrees, Continues, state_of, wired, with_ops}
use Rattle.router.specs.Paths.{way_along}
use Rattle.router.specs.Wiring.{wiring_of}
use Rattle.rebalancer.specs.Hop.{along, along_way, crossing}
use Rattle.rebalancer.proofs.Appending.{agrees_on, both_parts, continues_on, first_part, longer, run_on}

abbrev pub numbers : List SegId → List ℕ
numbers path = map (λ g. g.0) path

drop_there : {X : Type 0} (xs : List X) (i : ℕ) (x : X) → slice_get xs i ≡ Some x → drop i xs ≡ x ∷ drop (suc i) xs
drop_there [] i x is = cc
drop_there (y ∷ xs) zero x is = let same : y ≡ x = cc in ap (λ z. z ∷ xs) same
drop_there (y ∷ xs) (suc i) x is = drop_there xs i x is

drop_past : {X : Type 0} (xs : List X) (i : ℕ) → length xs ≤ i → drop i xs ≡ []
drop_past [] zero past = refl
drop_past [] (suc i) past = refl
drop_past (x ∷ xs) zero past = absurd (omega arith)
drop_past (x ∷ xs) (suc i) past = drop_past xs i (omega arith)

-- what is left of the path begins with its next segment
by_way : (m : MachineData) (path : List SegId) (i : ℕ) (g : SegId) (at : Res) (way : Option (Place × Place)) → slice_get path i ≡ Some g → way_along (wiring_of m) at g.0 ≡ way
    → along m (numbers (drop i path)) at ≡ along_way g.0 way (along m (numbers (drop (suc i) path)))
by_way m path i g at way there is = ap (λ (xs : List SegId). along m (numbers xs) at) (drop_there path i g there) ∙ ap (λ w. along_way g.0 w (along m (numbers (drop (suc i) path)))) is

-- some of the operations are appended, and the rest is what is left
pub record Left (m : MachineData) (old cur whole : PlanData) (rest : List OpKind) (many : ℕ) : Type 0 where
  pub all : with_ops cur rest ≡ whole
  pub run : IsRun (wired cur) (state_of cur) rest
  pub so_far : Continues old cur
  pub agrees : Agrees m cur
  pub room : length cur.ops + many ≤ 4194304

-- one part more is appended
pub one_part : (m : MachineData) (old cur new whole : PlanData) (part rest all : List OpKind) (more many : ℕ) → all ≡ part ++ rest → length part + more ≤ many → Left m old cur whole all many → new ≡ with_ops cur part → Left m old new whole rest more
one_part m old cur new whole part rest all more many list fewer l is =
    let run : IsRun (wired cur) (state_of cur) (part ++ rest) = subst (IsRun (wired cur) (state_of cur)) list l.run in
    record {
      all = both_parts cur new (with_ops new rest) part rest is refl ∙ ap (with_ops cur) (sym list) ∙ l.all;
      run = run_on cur new part rest is run;
      so_far = continues_on old cur new l.so_far (first_part cur new part rest is run);
      agrees = agrees_on m cur new part l.agrees is;
      room = omega (arith, longer cur new part is, l.room, fewer);
    }

pub one_segment : (m : MachineData) (old cur new whole : PlanData) (path : List SegId) (i : ℕ) (d : SegId) (at next : Res) (near far : Place) → i < length path → way_along (wiring_of m) at (get_or path i d).0 ≡ Some (near, far)
    → Left m old cur whole (along m (numbers (drop i path)) at) (3 * (length path - i)) → new ≡ with_ops cur (crossing (get_or path i d).0 near far) → next ≡ site far
    → Left m old new whole (along m (numbers (drop (i + 1) path)) next) (3 * (length path - (i + 1)))
one_segment m old cur new whole path i d at next near far within way l is on =
    let there : slice_get path i ≡ Some (get_or path i d) = slice_get-get_or path i d within in
    let after_it : Left m old new whole (along m (numbers (drop (suc i) path)) (site far)) (3 * (length path - suc i)) =
    one_part m old cur new whole (crossing (get_or path i d).0 near far) (along m (numbers (drop (suc i) path)) (site far)) (along m (numbers (drop i path)) at) (3 * (length path - suc i)) (3 * (length path - i))
    (by_way m path i (get_or path i d) at (Some (near, far)) there way) (omega (arith, within)) l is in
    subst (λ (r : Res). Left m old new whole (along m (numbers (drop (i + 1) path)) r) (3 * (length path - (i + 1)))) (sym on)
    (subst (λ (k : ℕ). Left m old new whole (along m (numbers (drop k path)) (site far)) (3 * (length path - k))) (next_is i) after_it)
  where
    next_is : (i : ℕ) → suc i ≡ i + 1
    next_is i = omega arith

pub nothing_left : (p whole : PlanData) (rest : List OpKind) → rest ≡ [] → with_ops p rest ≡ whole → p ≡ whole
nothing_left p whole rest none all = ap (λ (ops : List OpKind). record p { ops = ops }) (sym (append-nil p.ops)) ∙ ap (with_ops p) (sym none) ∙ all

-- no way leads on: nothing more is appended
pub no_way : (m : MachineData) (p whole : PlanData) (path : List SegId) (i : ℕ) (d : SegId) (at : Res) → i < length path → way_along (wiring_of m) at (get_or path i d).0 ≡ None → with_ops p (along m (numbers (drop i path)) at) ≡ whole → p ≡ whole
no_way m p whole path i d at within way all =
    nothing_left p whole (along m (numbers (drop i path)) at) (by_way m path i (get_or path i d) at None (slice_get-get_or path i d within) way) all

pub all_along : (m : MachineData) (p whole : PlanData) (path : List SegId) (i : ℕ) (at : Res) → length path ≤ i → with_ops p (along m (numbers (drop i path)) at) ≡ whole → p ≡ whole
all_along m p whole path i at past all = nothing_left p whole (along m (numbers (drop i path)) at) (ap (λ (xs : List SegId). along m (numbers xs) at) (drop_past path i past)) all
