-- Runs from states with the same places and bindings, and pairs of operations that undo each other.
use Rattle.std.proofs.Common.{◌≡◌, true, false, inl, inr, List, [], ◌∷◌, ◌++◌, map, refl, sym, ◌∙◌, ap, subst, None}
use Rattle.std.specs.List.{AllByRecursion, list_any}
use Rattle.std.proofs.lemmas.Bool.{cases_Bool, false≢true}
use Rattle.qccd_base.specs.Resource.{among}
use Rattle.qccd_base.specs.declared.names.Res.{Res}
use Rattle.qccd_machine.specs.Machine.{MachineData}
use Rattle.op_table.specs.declared.contents.Content.{Content}
use Rattle.op_table.specs.declared.kinds.OpKind.{OpKind}
use Rattle.op_table.specs.declared.kinds.OpKind.TheVariants.{Split, Move, Enter, Leave, Merge, Rot, GSwap, Item, Fence}
use Rattle.op_table.specs.Act.{acted, why_on}
use Rattle.op_table.specs.Contents.{content, chain, rider, carry}
use Rattle.op_table.specs.Op.{IsOp}
use Rattle.op_table.specs.Run.{IsRun, after}
use Rattle.op_table.specs.State.{State, IsSafe, heat_of}
use Rattle.op_table.specs.Step.{why, effect}
use Rattle.op_table.specs.Touch.{touches, meets}
use Rattle.op_table.proofs.Every.{why-on, safe-effect, content-touched, content-untouched}
use Rattle.op_table.proofs.Decides.{state_decided}
use Rattle.op_table.proofs.Neighbours.{map_at, bits_kept, meets_sym, exchange}
use Rattle.op_cells.specs.Cold.{cooled}
use Rattle.op_plan.specs.Cold.{cold}
use Rattle.op_plan.proofs.Cold.{content_cold, acted_cooled, safe_cold}
use Rattle.op_plan.proofs.Shown.{why_cold}
use Rattle.passes.specs.Undo.{undoes}
use Rattle.passes.specs.Kept.{SameStands}
use Rattle.passes.proofs.Undone.{inverse, undone_is, touches_alike, split_merge, merge_split, move_move, enter_leave, leave_enter, rot_rot, gswap_gswap}

map_map : (f : Res → Content) (rs : List Res) → map cooled (map f rs) ≡ map (λ r. cooled (f r)) rs
map_map f [] = refl
map_map f (r ∷ rs) = ap (λ (cs : List Content). cooled (f r) ∷ cs) (map_map f rs)

-- states in which each resource holds the same, but for heats
pub stands_decided : (m : MachineData) (s z : State) → IsSafe m s → IsSafe m z → s.bits ≡ z.bits → ((r : Res) → cooled (content s r) ≡ cooled (content z r)) → SameStands s z
stands_decided m s z safe safe' bits same =
    state_decided m (cold s) (cold z) (safe_cold m s safe) (safe_cold m z safe') bits (λ r. content_cold s r ∙ same r ∙ sym (content_cold z r))

pub stands_held : (s z : State) → SameStands s z → (r : Res) → cooled (content s r) ≡ cooled (content z r)
stands_held s z same r = sym (content_cold s r) ∙ ap (λ (x : State). content x r) same ∙ content_cold z r

-- an operation is legal in both or in none, and leaves the same places and bindings
pub stands_legal : (m : MachineData) (s z : State) (op : OpKind) → IsSafe m s → IsSafe m z → IsOp op → SameStands s z → why m z op ≡ why m s op
stands_legal m s z op safe safe' kept same =
    sym (why_cold m z op safe' kept) ∙ ap (λ (x : State). why m x op) (sym same) ∙ why_cold m s op safe kept

acts_alike : (m : MachineData) (s z : State) (op : OpKind) → SameStands s z → map cooled (acted m op (map (content s) (touches op))) ≡ map cooled (acted m op (map (content z) (touches op)))
acts_alike m s z op same =
    sym (acted_cooled m op (map (content s) (touches op)))
    ∙ ap (λ (cs : List Content). map cooled (acted m op cs)) (map_map (content s) (touches op) ∙ Rattle.qccd_program.proofs.Worlds.maps_alike (λ r. cooled (content s r)) (λ r. cooled (content z r)) (touches op) (stands_held s z same) ∙ sym (map_map (content z) (touches op)))
    ∙ acted_cooled m op (map (content z) (touches op))

pub stands_step : (m : MachineData) (s z : State) (op : OpKind) → IsSafe m s → IsSafe m z → IsOp op → why m s op ≡ None → SameStands s z → SameStands (effect m s op) (effect m z op)
stands_step m s z op safe safe' kept legal same =
    let legal' : why m z op ≡ None = stands_legal m s z op safe safe' kept same ∙ legal in
    stands_decided m (effect m s op) (effect m z op) (safe-effect m s op safe kept legal) (safe-effect m z op safe' kept legal')
    (bits_kept m s op ∙ ap (λ (x : State). x.bits) same ∙ sym (bits_kept m z op))
    (λ r. elim (cases_Bool (among (touches op) r)) [
      | inl h ↦ map_at (touches op) (λ q. cooled (content (effect m s op) q)) (λ q. cooled (content (effect m z op) q)) r
          (sym (map_map (content (effect m s op)) (touches op)) ∙ ap (map cooled) (content-touched m s op safe kept legal) ∙ acts_alike m s z op same
          ∙ sym (ap (map cooled) (content-touched m z op safe' kept legal')) ∙ map_map (content (effect m z op)) (touches op)) h
      | inr h ↦ ap cooled (content-untouched m s op r h) ∙ stands_held s z same r ∙ sym (ap cooled (content-untouched m z op r h))
    ])

-- so a list is a run from both
pub record Alike (m : MachineData) (s z : State) (ops others : List OpKind) : Type 0 where
  pub run : IsRun m z others
  pub end : SameStands (after m s ops) (after m z others)

pub stands_run : (m : MachineData) (s z : State) (ops : List OpKind) → IsSafe m s → IsSafe m z → AllByRecursion IsOp ops → IsRun m s ops → SameStands s z → Alike m s z ops ops
stands_run m s z [] safe safe' kept run same = record { run = tt; end = same }
stands_run m s z (op ∷ ops) safe safe' kept run same =
    let legal' : why m z op ≡ None = stands_legal m s z op safe safe' kept.0 same ∙ run.0 in
    let rest = stands_run m (effect m s op) (effect m z op) ops (safe-effect m s op safe kept.0 run.0) (safe-effect m z op safe' kept.0 legal') kept.1 run.1 (stands_step m s z op safe safe' kept.0 run.0 same) in
    record { run = (legal', rest.run); end = rest.end }

-- ---- a pair

back_alike : (m : MachineData) (s : State) (a : OpKind) → IsSafe m s → IsOp a → why_on m s.bits a (map (content s) (touches a)) ≡ None → undoes a (inverse a) ≡ true
    → map cooled (acted m (inverse a) (acted m a (map (content s) (touches a)))) ≡ map cooled (map (content s) (touches a))
back_alike m s (Split t e g) safe kept legal undone = split_merge m s.bits t e g (chain s t.0) (heat_of s t.0) (rider s g.0) legal
back_alike m s (Move g) safe kept legal undone = move_move m s.bits g (rider s g.0)
back_alike m s (Enter g j) safe kept legal undone = enter_leave m s.bits g j (rider s g.0) (carry s j.0) legal
back_alike m s (Leave j g) safe kept legal undone = leave_enter m s.bits g j (rider s g.0) (carry s j.0) legal
back_alike m s (Merge g t e) safe kept legal undone = merge_split m s.bits t e g (chain s t.0) (heat_of s t.0) (rider s g.0) legal
back_alike m s (Rot t p) safe kept legal undone = rot_rot m s.bits t p (chain s t.0) (heat_of s t.0) legal
back_alike m s (GSwap t low high) safe kept legal undone = gswap_gswap m s.bits t low high (chain s t.0) (heat_of s t.0) kept legal
back_alike m s (Item number t item at) safe kept legal undone = absurd (false≢true undone)
back_alike m s (Fence number item traps) safe kept legal undone = absurd (false≢true undone)

-- done one after the other, they leave the places and bindings as they were
undone_both : (m : MachineData) (s : State) (a : OpKind) → IsSafe m s → IsOp a → IsOp (inverse a) → why m s a ≡ None → why m (effect m s a) (inverse a) ≡ None → undoes a (inverse a) ≡ true
    → SameStands (effect m (effect m s a) (inverse a)) s
undone_both m s a safe kept kept' legal legal' undone =
    let b : OpKind = inverse a in
    let one : State = effect m s a in
    let two : State = effect m one b in
    let safe_one : IsSafe m one = safe-effect m s a safe kept legal in
    let ts : touches b ≡ touches a = touches_alike a in
    stands_decided m two s (safe-effect m one b safe_one kept' legal') safe (bits_kept m one b ∙ bits_kept m s a)
    (λ r. elim (cases_Bool (among (touches a) r)) [
      | inl h ↦ map_at (touches a) (λ q. cooled (content two q)) (λ q. cooled (content s q)) r
          (sym (map_map (content two) (touches a))
          ∙ ap (λ (rs : List Res). map cooled (map (content two) rs)) (sym ts)
          ∙ ap (map cooled) (content-touched m one b safe_one kept' legal')
          ∙ ap (λ (rs : List Res). map cooled (acted m b (map (content one) rs))) ts
          ∙ ap (λ (cs : List Content). map cooled (acted m b cs)) (content-touched m s a safe kept legal)
          ∙ back_alike m s a safe kept (why-on m s a safe kept ∙ legal) undone
          ∙ map_map (content s) (touches a)) h
      | inr h ↦ ap cooled (content-untouched m one b r (ap (λ (rs : List Res). among rs r) ts ∙ h) ∙ content-untouched m s a r h)
    ])

pub undone_pair : (m : MachineData) (s : State) (a b : OpKind) → IsSafe m s → IsOp a → IsOp b → why m s a ≡ None → why m (effect m s a) b ≡ None → undoes a b ≡ true
    → SameStands (effect m (effect m s a) b) s
undone_pair m s a b safe kept kept' legal legal' undone =
    let is : b ≡ inverse a = undone_is a b undone in
    subst (λ (x : OpKind). SameStands (effect m (effect m s a) x) s) (sym is)
    (undone_both m s a safe kept (subst IsOp is kept') legal (subst (λ (x : OpKind). why m (effect m s a) x ≡ None) is legal') (subst (λ (x : OpKind). undoes a x ≡ true) is undone))

-- what does not meet the one does not meet the other
pub meets_alike : (a b x : OpKind) → undoes a b ≡ true → meets x b ≡ meets x a
meets_alike a b x undone = ap (λ (rs : List Res). list_any (among rs) (touches x)) (ap touches (undone_is a b undone) ∙ touches_alike a)

-- a pair taken away from a run
pub pair_gone : (m : MachineData) (s : State) (a b : OpKind) (middle back : List OpKind) → IsSafe m s → AllByRecursion IsOp (a ∷ middle ++ b ∷ back) → IsRun m s (a ∷ middle ++ b ∷ back)
    → undoes a b ≡ true → AllByRecursion (λ x. meets x b ≡ false) middle → Alike m s s (a ∷ middle ++ b ∷ back) (middle ++ back)
pair_gone m s a b [] back safe kept run undone apart =
    let one : IsSafe m (effect m s a) = safe-effect m s a safe kept.0 run.0 in
    let two : IsSafe m (effect m (effect m s a) b) = safe-effect m (effect m s a) b one kept.1.0 run.1.0 in
    let rest = stands_run m (effect m (effect m s a) b) s back two safe kept.1.1 run.1.1 (undone_pair m s a b safe kept.0 kept.1.0 run.0 run.1.0 undone) in
    record { run = rest.run; end = rest.end }
pair_gone m s a b (x ∷ middle) back safe kept run undone apart =
    let away : meets a x ≡ false = meets_sym x a (sym (meets_alike a b x undone) ∙ apart.0) in
    let swapped = exchange m s a x safe kept.0 kept.1.0 away run.0 run.1.0 in
    let safe_x : IsSafe m (effect m s x) = safe-effect m s x safe kept.1.0 swapped.first in
    let later : IsRun m (effect m s x) (a ∷ middle ++ b ∷ back) = (swapped.second, subst (λ (z : State). IsRun m z (middle ++ b ∷ back)) swapped.same run.1.1) in
    let rest = pair_gone m (effect m s x) a b middle back safe_x (kept.0, kept.1.1) later undone apart.1 in
    record {
      run = (swapped.first, rest.run);
      end = ap (λ (z : State). cold (after m z (middle ++ b ∷ back))) swapped.same ∙ rest.end;
    }
