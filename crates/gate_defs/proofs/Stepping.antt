-- One turn: what is left to do before it and behind it.
use Rattle.std.proofs.Common.{◌≡◌, ℕ, suc, ◌-◌, drop, take, ◌≤◌, Bool, false, ◌||◌, List, [], ◌∷◌, ◌++◌, length, get_or, map, sym, ◌∙◌, ap, ap₂, subst, arith, length-append, append_assoc, append-nil, Option, All}
use Rattle.std.specs.List.{AllByRecursion, list_any}
use Rattle.std.specs.Prelude.{IsTrue}
use Rattle.std.proofs.lemmas.List.{length-drop, take_all}
use Rattle.std.proofs.lemmas.List.Elements.{All-append, All-cons, All-nil}
use Rattle.qccd_circuit.specs.declared.kinds.Cond.{Cond}
use Rattle.qccd_base.specs.Names.{qubit}
use Rattle.qccd_base.specs.declared.names.Qubit.{Qubit}
use Rattle.qccd_circuit.specs.Item.{ItemData, are_distinct}
use Rattle.gate_defs.specs.declared.kinds.Arg.{Arg}
use Rattle.gate_defs.specs.declared.kinds.BodyStep.{BodyStep}
use Rattle.gate_defs.specs.declared.kinds.Def.{Def}
use Rattle.gate_defs.specs.declared.expanding.Frame.{Frame}
use Rattle.gate_defs.specs.declared.faults.ExpandFault.{ExpandFault}
use Rattle.gate_defs.specs.declared.faults.ExpandFault.TheVariants.{AngleTooLong, NoMemory}
use Rattle.gate_defs.specs.Angles.{angle_under, is_long}
use Rattle.gate_defs.specs.Meaning.{Application, any_long, applied, applied_all, has_long, inside, items_of, meanings, own_items}
use Rattle.gate_defs.specs.Outcome.{Tells}
use Rattle.gate_defs.specs.Rule.{AreArgs, IsStep}
use Rattle.gate_defs.specs.Frames.{IsOpen, Opens, Turns, left, left_in}

-- the definition that was opened last comes first
pub pushed : (defs : List Def) (fs : List Frame) (f : Frame) → left defs (fs ++ f ∷ []) ≡ left_in defs f ++ left defs fs
pushed defs [] f = sym (append-nil (left_in defs f))
pushed defs (g ∷ fs) f = ap (λ (l : List Application). l ++ left_in defs g) (pushed defs fs f) ∙ append_assoc (left_in defs f) (left defs fs) (left_in defs g)

-- one that has no step left is closed
pub closed :
    (defs : List Def) (cond : Option Cond) (made : List ItemData) (fs : List Frame) (f : Frame) → f.steps.now ≡ [] → All (IsOpen defs) fs
    → Turns defs cond (fs ++ f ∷ []) made fs made
closed defs cond made fs f is all =
    let same : left defs (fs ++ f ∷ []) ≡ left defs fs =
    pushed defs fs f ∙ ap (λ (steps : List BodyStep). applied_all (meanings defs) f.args.items f.qubits.items steps ++ left defs fs) is in
    record {
      items = ap (λ (apps : List Application). made ++ items_of defs cond apps) same;
      long = ap any_long same;
      falls = let one : length (left defs (fs ++ f ∷ [])) ≡ length (left defs fs) = ap length same in omega (arith, one, length-append fs (f ∷ []));
      all_open = all;
    }

-- the application that comes next, what is inside it, and the rest
pub ahead :
    (defs : List Def) (fs : List Frame) (f : Frame) (s : BodyStep) (more : List BodyStep) → f.steps.now ≡ s ∷ more
    → left defs (fs ++ f ∷ [])
    ≡ applied f.args.items f.qubits.items s
    ∷ (inside (meanings defs) (applied f.args.items f.qubits.items s) ++ (applied_all (meanings defs) f.args.items f.qubits.items more ++ left defs fs))
ahead defs fs f s more is =
    let ms = meanings defs in
    let a = applied f.args.items f.qubits.items s in
    pushed defs fs f
    ∙ ap (λ (steps : List BodyStep). applied_all ms f.args.items f.qubits.items steps ++ left defs fs) is
    ∙ ap (λ (l : List Application). a ∷ l) (append_assoc (inside ms a) (applied_all ms f.args.items f.qubits.items more) (left defs fs))

-- a step is taken: its application was opened over the rest of the frame
pub taken :
    (defs : List Def) (cond : Option Cond) (made further : List ItemData) (fs new : List Frame) (f : Frame) (s : BodyStep) {behind : List Frame} (g : Frame)
    → behind ≡ fs ++ g ∷ [] → f.steps.now ≡ s ∷ g.steps.now → g.args.items ≡ f.args.items → g.qubits.items ≡ f.qubits.items
    → Opens defs (applied f.args.items f.qubits.items s) behind new → further ≡ made ++ own_items defs cond (applied f.args.items f.qubits.items s)
    → has_long (applied f.args.items f.qubits.items s) ≡ false → Turns defs cond (fs ++ f ∷ []) made new further
taken defs cond made further fs new f s {behind = behind} g behind_is is args_are qubits_are opens items short =
    let ms = meanings defs in
    let a = applied f.args.items f.qubits.items s in
    let rest = inside ms a ++ (applied_all ms f.args.items f.qubits.items g.steps.now ++ left defs fs) in
    let before : left defs (fs ++ f ∷ []) ≡ a ∷ rest = ahead defs fs f s g.steps.now is in
    let same : left_in defs g ≡ applied_all ms f.args.items f.qubits.items g.steps.now =
    ap₂ (λ (x : List Arg) (y : List Qubit). applied_all ms x y g.steps.now) args_are qubits_are in
    let after : left defs new ≡ rest =
    opens.inside_first
    ∙ ap (λ (l : List Application). inside ms a ++ l) (ap (left defs) behind_is ∙ pushed defs fs g ∙ ap (λ (l : List Application). l ++ left defs fs) same) in
    record {
      items =
          ap (λ (apps : List Application). made ++ items_of defs cond apps) before
          ∙ sym (append_assoc made (own_items defs cond a) (items_of defs cond rest))
          ∙ ap₂ (λ (l : List ItemData) (apps : List Application). l ++ items_of defs cond apps) (sym items) (sym after);
      long = ap any_long before ∙ ap (λ (b : Bool). b || any_long rest) short ∙ ap any_long (sym after);
      falls =
          let one : length (left defs (fs ++ f ∷ [])) ≡ suc (length rest) = ap length before in
          let other : length (left defs new) ≡ length rest = ap length after in
          let longer : length behind ≡ length (fs ++ g ∷ []) = ap length behind_is in
          omega (arith, one, other, longer, opens.one_more, length-append fs (f ∷ []), length-append fs (g ∷ []));
      all_open = opens.all_open;
    }

-- where the next step has a long angle, what is left has one
pub tells_long :
    (defs : List Def) (fs : List Frame) (f : Frame) (s : BodyStep) (more : List BodyStep) (e : ExpandFault) → f.steps.now ≡ s ∷ more
    → Tells (list_any is_long (map (angle_under f.args.items) s.angles)) e → Tells (any_long (left defs (fs ++ f ∷ []))) e
tells_long defs fs f s more AngleTooLong is told =
    let a = applied f.args.items f.qubits.items s in
    let behind = inside (meanings defs) a ++ (applied_all (meanings defs) f.args.items f.qubits.items more ++ left defs fs) in
    ap any_long (ahead defs fs f s more is) ∙ ap (λ (b : Bool). b || any_long behind) told
tells_long defs fs f s more NoMemory is told = tt

-- one more open definition
pub one_more_open : (defs : List Def) (fs : List Frame) (f : Frame) → All (IsOpen defs) fs → IsOpen defs f → All (IsOpen defs) (fs ++ f ∷ [])
one_more_open defs fs f all is = All-append (IsOpen defs) fs (f ∷ []) all (All-cons (IsOpen defs) f [] is (All-nil (IsOpen defs)))

-- what is left of an open definition is open
pub rest_open :
    (defs : List Def) (fs : List Frame) (f : Frame) (s : BodyStep) {behind : List Frame} (g : Frame) → behind ≡ fs ++ g ∷ [] → f.steps.now ≡ s ∷ g.steps.now
    → g.args.items ≡ f.args.items → g.qubits.items ≡ f.qubits.items → All (IsOpen defs) fs → IsOpen defs f → All (IsOpen defs) behind
rest_open defs fs f s {behind = behind} g behind_is is args_are qubits_are all was =
    let steps : AllByRecursion (IsStep defs (length f.args.items) (length f.qubits.items)) (s ∷ g.steps.now) =
    subst (AllByRecursion (IsStep defs (length f.args.items) (length f.qubits.items))) is was.steps in
    let rest : IsOpen defs g = record {
      steps =
          subst (λ (n : ℕ). AllByRecursion (IsStep defs n (length g.qubits.items)) g.steps.now) (sym (ap length args_are))
          (subst (λ (n : ℕ). AllByRecursion (IsStep defs (length f.args.items) n) g.steps.now) (sym (ap length qubits_are)) steps.1);
      are_args = subst AreArgs (sym args_are) was.are_args;
      distinct = subst (λ (qs : List Qubit). IsTrue (are_distinct qs)) (sym qubits_are) was.distinct;
    } in
    subst (All (IsOpen defs)) (sym behind_is) (one_more_open defs fs g all rest)

-- the first of a list, and the rest
pub first_and_rest : {X : Type 0} (xs : List X) (x : X) → x ≡ get_or xs 0 x → 1 ≤ length xs → xs ≡ x ∷ drop 1 xs
first_and_rest [] x is some = absurd (omega (arith, some))
first_and_rest {X = X} (y ∷ xs) x is some = ap (λ (z : X). z ∷ xs) (sym is)

pub first_and_cut : {X : Type 0} (xs : List X) (x : X) → x ≡ get_or xs 0 x → 1 ≤ length xs → xs ≡ x ∷ take (length xs - 1) (drop 1 xs)
first_and_cut {X = X} xs x is some =
    first_and_rest xs x is some ∙ ap (λ (l : List X). x ∷ l) (sym (take_all (length xs - 1) (drop 1 xs) (omega (arith, length-drop 1 xs))))

pub first_of : {X : Type 0} (P : X → Type 0) (xs : List X) (x : X) → x ≡ get_or xs 0 x → 1 ≤ length xs → AllByRecursion P xs → P x
first_of P [] x is some all = absurd (omega (arith, some))
first_of P (y ∷ xs) x is some all = subst P (sym is) all.0

-- an application by its parts
pub application_is : (f : Frame) (s : BodyStep) (args : List Arg) (qubits : List Qubit) → args ≡ map (angle_under f.args.items) s.angles
    → qubits ≡ map (λ w. get_or f.qubits.items w (qubit 0)) s.wires
    → record { callee = s.callee; args = args; qubits = qubits } ≡ applied f.args.items f.qubits.items s
application_is f s args qubits args_are qubits_are = ap₂ (λ (x : List Arg) (y : List Qubit). record { callee = s.callee; args = x; qubits = y }) args_are qubits_are
