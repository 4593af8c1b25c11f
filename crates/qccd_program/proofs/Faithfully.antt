-- A faithful list is a run, in which each resource holds what it holds at its turn.
use Rattle.std.proofs.Common.{◌≡◌, ℕ, ◌+◌, inl, inr, Bool, true, cond, List, [], ◌∷◌, map, take, refl, sym, ◌∙◌, ap, ap₂, arith, Some, None}
use Rattle.std.specs.Prelude.{slice_get}
use Rattle.std.proofs.lemmas.Bool.{cases_Bool, false≢true}
use Rattle.qccd_base.specs.declared.names.Res.{Res}
use Rattle.qccd_base.specs.Resource.{among, same_res}
use Rattle.qccd_machine.specs.Machine.{MachineData}
use Rattle.op_table.specs.declared.kinds.OpKind.{OpKind}
use Rattle.op_table.specs.Op.{IsOp}
use Rattle.op_table.specs.State.{State, IsSafe}
use Rattle.op_table.specs.Step.{why, effect}
use Rattle.op_table.specs.Touch.{touches, nth, total}
use Rattle.op_table.specs.Run.{IsRun, after}
use Rattle.op_table.specs.declared.contents.Content.{Content}
use Rattle.op_table.specs.Contents.{content}
use Rattle.op_table.specs.Act.{acted, why_on}
use Rattle.qccd_program.specs.Turn.{at_turn}
use Rattle.qccd_program.specs.Program.{ProgramData, opening_of, end_of}
use Rattle.qccd_program.specs.Legal.{IsLegalProgram}
use Rattle.op_table.proofs.Openings.{opening-safe}
use Rattle.qccd_program.specs.Faithful.{one_of, IsFaithful, turns_after}
use Rattle.qccd_program.proofs.Runs.{legal_at, run_safe}
use Rattle.qccd_program.proofs.Turning.{stepped, turn-first, turn-own, turn-next, turn-end}
use Rattle.op_table.proofs.Every.{why-on, safe-effect, content-touched, content-untouched}
use Rattle.op_table.proofs.Decides.{state_decided}
use Rattle.std.specs.List.{AllByRecursion}
use Rattle.op_table.proofs.Neighbours.{map_at, bits_kept, own_among}

-- what a resource holds at a turn
abbrev pub held_at : MachineData → State → List OpKind → Res → ℕ → Content
held_at m s ops r n = at_turn content (effect m) s ops r n

pub stepped-after : (m : MachineData) (s : State) (ops : List OpKind) → stepped (effect m) s ops ≡ after m s ops
stepped-after m s [] = refl
stepped-after m s (o ∷ ops) = stepped-after m (effect m s o) ops

-- before any operation touches it, just before operation k, just after it, and at the end
pub held-first : (m : MachineData) (s : State) (ops : List OpKind) (r : Res) → held_at m s ops r 0 ≡ content s r
held-first m s ops r = turn-first content (effect m) (content-untouched m) s ops r

pub held-own : (m : MachineData) (s : State) (ops : List OpKind) (k : ℕ) (r : Res) → held_at m s ops r (nth ops k r) ≡ content (after m s (take k ops)) r
held-own m s ops k r = turn-own content (effect m) (content-untouched m) s ops k r ∙ ap (λ (z : State). content z r) (stepped-after m s (take k ops))

pub held-next : (m : MachineData) (s : State) (ops : List OpKind) (k : ℕ) (op : OpKind) (r : Res) → slice_get ops k ≡ Some op → among (touches op) r ≡ true → held_at m s ops r (nth ops k r + 1) ≡ content (effect m (after m s (take k ops)) op) r
held-next m s ops k op r is at = turn-next content (effect m) (content-untouched m) s ops k op r is at ∙ ap (λ (z : State). content (effect m z op) r) (stepped-after m s (take k ops))

pub held-end : (m : MachineData) (s : State) (ops : List OpKind) (r : Res) → held_at m s ops r (total ops r) ≡ content (after m s ops) r
held-end m s ops r = turn-end content (effect m) s ops r ∙ ap (λ (z : State). content z r) (stepped-after m s ops)

-- each resource is at its turn
pub record At (m : MachineData) (s : State) (ops : List OpKind) (turn : Res → ℕ) (z : State) : Type 0 where
  pub safe : IsSafe m z
  pub bits : z.bits ≡ s.bits
  pub holds : (r : Res) → content z r ≡ held_at m s ops r (turn r)

maps_same : (xs : List Res) (f g : Res → Content) → ((r : Res) → among xs r ≡ true → f r ≡ g r) → map f xs ≡ map g xs
maps_same [] f g h = refl
maps_same (x ∷ xs) f g h =
    ap₂ (λ (c : Content) (cs : List Content). c ∷ cs) (h x (own_among x xs)) (maps_same xs f g (λ r at. h r (Rattle.std.proofs.lemmas.Bool.or_right (same_res x r) (among xs r) at)))

-- an operation at its turns does what it does in the run
pub faithful-step : (m : MachineData) (s : State) (ops : List OpKind) (turn : Res → ℕ) (z : State) (k : ℕ) (op : OpKind) → IsSafe m s → AllByRecursion IsOp ops → IsRun m s ops → slice_get ops k ≡ Some op
    → ((r : Res) → among (touches op) r ≡ true → turn r ≡ nth ops k r) → At m s ops turn z → (why m z op ≡ None) × At m s ops (λ r. turn r + one_of op r) (effect m z op)
faithful-step m s ops turn z k op safe all run is turns at =
    let b : State = after m s (take k ops) in
    let facts = legal_at m s ops k op safe all run is in
    let bits : z.bits ≡ b.bits = at.bits ∙ sym facts.3 in
    let found : map (content z) (touches op) ≡ map (content b) (touches op) =
    maps_same (touches op) (content z) (content b) (λ r h. at.holds r ∙ ap (held_at m s ops r) (turns r h) ∙ held-own m s ops k r) in
    let legal : why m z op ≡ None = sym (why-on m z op at.safe facts.2) ∙ ap₂ (λ (n : ℕ) (cs : List Content). why_on m n op cs) bits found ∙ why-on m b op facts.1 facts.2 ∙ facts.0 in
    let left : map (content (effect m z op)) (touches op) ≡ map (content (effect m b op)) (touches op) =
    content-touched m z op at.safe facts.2 legal ∙ ap (acted m op) found ∙ sym (content-touched m b op facts.1 facts.2 facts.0) in (
      legal,
      record {
        safe = safe-effect m z op at.safe facts.2 legal;
        bits = bits_kept m z op ∙ at.bits;
        holds = λ r. elim (cases_Bool (among (touches op) r)) [
          | inl h ↦
              let one : nth ops k r + 1 ≡ turn r + one_of op r = ap₂ (λ (n : ℕ) (b : Bool). n + cond b 1 0) (sym (turns r h)) (sym h) in
              map_at (touches op) (content (effect m z op)) (content (effect m b op)) r left h ∙ sym (held-next m s ops k op r is h) ∙ ap (held_at m s ops r) one
          | inr h ↦
              let none : turn r ≡ turn r + one_of op r = add_none (turn r) ∙ ap (λ (b : Bool). turn r + cond b 1 0) (sym h) in
              content-untouched m z op r h ∙ at.holds r ∙ ap (held_at m s ops r) none
        ];
      },
    )
  where
    add_none : (n : ℕ) → n ≡ n + 0
    add_none n = omega arith

-- a faithful list is a run
pub faithful-run : (m : MachineData) (s : State) (ops : List OpKind) (turn : Res → ℕ) (z : State) (v : List (ℕ × OpKind)) → IsSafe m s → AllByRecursion IsOp ops → IsRun m s ops → IsFaithful ops turn v → At m s ops turn z
    → IsRun m z (map (λ e. e.1) v) × At m s ops (turns_after turn v) (after m z (map (λ e. e.1) v))
faithful-run m s ops turn z [] safe all run faithful at = (tt, at)
faithful-run m s ops turn z (e ∷ v) safe all run faithful at =
    let step = faithful-step m s ops turn z e.0 e.1 safe all run faithful.0 faithful.1 at in
    let rest = faithful-run m s ops (λ r. turn r + one_of e.1 r) (effect m z e.1) v safe all run faithful.2 step.1 in
    ((step.0, rest.0), rest.1)

at_start : (m : MachineData) (s : State) (ops : List OpKind) → IsSafe m s → At m s ops (λ r. 0) s
at_start m s ops safe = record { safe = safe; bits = refl; holds = λ r. sym (held-first m s ops r) }

-- a faithful list at whose end each resource is at its last turn ends where the run ends
pub faithful-end : (m : MachineData) (s : State) (ops : List OpKind) (v : List (ℕ × OpKind)) → IsSafe m s → AllByRecursion IsOp ops → IsRun m s ops → IsFaithful ops (λ r. 0) v → ((r : Res) → turns_after (λ q. 0) v r ≡ total ops r)
    → after m s (map (λ e. e.1) v) ≡ after m s ops
faithful-end m s ops v safe all run faithful last =
    let whole = faithful-run m s ops (λ r. 0) s v safe all run faithful (at_start m s ops safe) in
    let ends = run_safe m s ops safe all run in
    state_decided m (after m s (map (λ e. e.1) v)) (after m s ops) whole.1.safe ends.0 (whole.1.bits ∙ sym ends.1)
    (λ r. whole.1.holds r ∙ ap (held_at m s ops r) (last r) ∙ held-end m s ops r)

-- of a program
pub program-run : (p : ProgramData) (v : List (ℕ × OpKind)) → IsLegalProgram p → IsFaithful p.ops (λ r. 0) v → IsRun p.machine (opening_of p) (map (λ e. e.1) v)
program-run p v legal faithful =
    let safe : IsSafe p.machine (opening_of p) = opening-safe p.machine p.qubits p.bits p.start legal.start in
    (faithful-run p.machine (opening_of p) p.ops (λ r. 0) (opening_of p) v safe legal.ops legal.run faithful (at_start p.machine (opening_of p) p.ops safe)).0

pub program-end : (p : ProgramData) (v : List (ℕ × OpKind)) → IsLegalProgram p → IsFaithful p.ops (λ r. 0) v → ((r : Res) → turns_after (λ q. 0) v r ≡ total p.ops r) → after p.machine (opening_of p) (map (λ e. e.1) v) ≡ end_of p
program-end p v legal faithful last = faithful-end p.machine (opening_of p) p.ops v (opening-safe p.machine p.qubits p.bits p.start legal.start) legal.ops legal.run faithful last
