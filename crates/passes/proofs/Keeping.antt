-- What stays when pairs are taken away.
use Rattle.std.proofs.Common.{arith, ◌≡◌, ℕ, zero, suc, ◌≤◌, ◌+◌, Bool, true, false, List, [], ◌∷◌, ◌++◌, map, reverse, length, refl, sym, ◌∙◌, ap, ap₂, subst, Option, Some, None, option_map, unwrap_or, Result, Ok, Err, IfOk, append_assoc, length-append}
use Rattle.std.specs.Prelude.{IsTrue, filter_map}
use Rattle.std.specs.List.{AllByRecursion, enumerate_from}
use Rattle.std.proofs.lemmas.Bool.{false≢true}
use Rattle.std.proofs.lemmas.List.{append-nil, map-append}
use Rattle.std.proofs.lemmas.List.Elements.{filter_map-append}
use Rattle.qccd_circuit.specs.Item.{ItemData}
use Rattle.qccd_circuit.specs.Circuit.{CircuitData}
use Rattle.qccd_machine.specs.Machine.{MachineData}
use Rattle.op_table.specs.declared.kinds.OpKind.{OpKind}
use Rattle.op_table.specs.declared.kinds.OpKind.TheVariants.{Split, Move, Enter, Leave, Merge, Rot, GSwap, Item, Fence}
use Rattle.op_table.specs.Op.{IsOp, KeepsItemRule}
use Rattle.op_table.specs.Run.{IsRun, after, item_in, items_in}
use Rattle.op_table.specs.State.{State, IsSafe}
use Rattle.op_table.specs.Touch.{meets}
use Rattle.op_table.proofs.Openings.{opening-safe}
use Rattle.qccd_program.specs.Implements.{Implements}
use Rattle.qccd_program.specs.Legal.{IsLegalProgram}
use Rattle.qccd_program.specs.Mode.{is_of_mode}
use Rattle.qccd_program.specs.Program.{ProgramData, opening_of, end_of}
use Rattle.op_plan.proofs.Runs.{run_append, run_front, run_back, after_append}
use Rattle.qccd_program.proofs.Runs.{run_safe}
use Rattle.op_plan.specs.Cold.{cold}
use Rattle.passes.specs.Undo.{undoes}
use Rattle.passes.specs.Kept.{SameStands}
use Rattle.passes.specs.Tidy.{Numbered, kinds, left_by, staying, tidied}
use Rattle.passes.specs.Swept.{swept}
use Rattle.passes.proofs.Undone.{inverse, undone_is}
use Rattle.passes.proofs.Stands.{pair_gone}
use Rattle.passes.proofs.Removing.{left_is, all_turned, seen_left, seen_whole, turned, staying_is}
use Rattle.passes.proofs.Parts.{part_keeps, part_staying}

-- ---- facts of each operation of a list

all_front : {X : Type 0} (P : X → Type 0) (xs ys : List X) → AllByRecursion P (xs ++ ys) → AllByRecursion P xs
all_front P [] ys all = tt
all_front P (x ∷ xs) ys all = (all.0, all_front P xs ys all.1)

all_back : {X : Type 0} (P : X → Type 0) (xs ys : List X) → AllByRecursion P (xs ++ ys) → AllByRecursion P ys
all_back P [] ys all = all
all_back P (x ∷ xs) ys all = all_back P xs ys all.1

all_both : {X : Type 0} (P : X → Type 0) (xs ys : List X) → AllByRecursion P xs → AllByRecursion P ys → AllByRecursion P (xs ++ ys)
all_both P [] ys some more = more
all_both P (x ∷ xs) ys some more = (some.0, all_both P xs ys some.1 more)

all_fewer : {X : Type 0} (P : X → Type 0) (front middle back : List X) (a b : X) → AllByRecursion P (front ++ (a ∷ middle ++ b ∷ back)) → AllByRecursion P (front ++ (middle ++ back))
all_fewer P front middle back a b all =
    let behind = all_back P front (a ∷ middle ++ b ∷ back) all in
    all_both P front (middle ++ back) (all_front P front (a ∷ middle ++ b ∷ back) all)
    (all_both P middle back (all_front P middle (b ∷ back) behind.1) (all_back P middle (b ∷ back) behind.1).1)

-- ---- what a list keeps that has fewer operations

pub record Keeps (m : MachineData) (s : State) (old new : List OpKind) : Type 0 where
  pub ops : AllByRecursion IsOp new
  pub fit : AllByRecursion KeepsItemRule new
  pub run : IsRun m s new
  pub end : SameStands (after m s old) (after m s new)
  pub items : items_in new ≡ items_in old
  pub few : length new ≤ length old

no_item : (a b : OpKind) → undoes a b ≡ true → item_in a ≡ None
no_item (Split t e g) b h = refl
no_item (Move g) b h = refl
no_item (Enter g j) b h = refl
no_item (Leave j g) b h = refl
no_item (Merge g t e) b h = refl
no_item (Rot t p) b h = refl
no_item (GSwap t low high) b h = refl
no_item (Item number t item at) b h = absurd (false≢true h)
no_item (Fence number item traps) b h = absurd (false≢true h)

no_item_back : (a b : OpKind) → undoes a b ≡ true → item_in b ≡ None
no_item_back a b h = ap item_in (undone_is a b h) ∙ of_inverse a b h
  where
    of_inverse : (a b : OpKind) → undoes a b ≡ true → item_in (inverse a) ≡ None
    of_inverse (Split t e g) b h = refl
    of_inverse (Move g) b h = refl
    of_inverse (Enter g j) b h = refl
    of_inverse (Leave j g) b h = refl
    of_inverse (Merge g t e) b h = refl
    of_inverse (Rot t p) b h = refl
    of_inverse (GSwap t low high) b h = refl
    of_inverse (Item number t item at) b h = absurd (false≢true h)
    of_inverse (Fence number item traps) b h = absurd (false≢true h)

items_skip : (a : OpKind) (ops : List OpKind) → item_in a ≡ None → items_in (a ∷ ops) ≡ items_in ops
items_skip (Split t e g) ops none = refl
items_skip (Move g) ops none = refl
items_skip (Enter g j) ops none = refl
items_skip (Leave j g) ops none = refl
items_skip (Merge g t e) ops none = refl
items_skip (Rot t p) ops none = refl
items_skip (GSwap t low high) ops none = refl
items_skip (Item number t item at) ops none = cc
items_skip (Fence number item traps) ops none = cc

items_fewer : (front middle back : List OpKind) (a b : OpKind) → undoes a b ≡ true → items_in (front ++ (middle ++ back)) ≡ items_in (front ++ (a ∷ middle ++ b ∷ back))
items_fewer front middle back a b undone =
    filter_map-append item_in front (middle ++ back)
    ∙ ap (λ (l : List (ℕ × ItemData)). items_in front ++ l)
    (filter_map-append item_in middle back
    ∙ ap (λ (l : List (ℕ × ItemData)). items_in middle ++ l) (sym (items_skip b back (no_item_back a b undone)))
    ∙ sym (filter_map-append item_in middle (b ∷ back))
    ∙ sym (items_skip a (middle ++ b ∷ back) (no_item a b undone)))
    ∙ sym (filter_map-append item_in front (a ∷ middle ++ b ∷ back))

-- a pair behind some other operations
pub keeps_fewer : (m : MachineData) (s : State) (front middle back : List OpKind) (a b : OpKind) → IsSafe m s → AllByRecursion IsOp (front ++ (a ∷ middle ++ b ∷ back)) → AllByRecursion KeepsItemRule (front ++ (a ∷ middle ++ b ∷ back))
    → IsRun m s (front ++ (a ∷ middle ++ b ∷ back)) → undoes a b ≡ true → AllByRecursion (λ x. meets x b ≡ false) middle → Keeps m s (front ++ (a ∷ middle ++ b ∷ back)) (front ++ (middle ++ back))
keeps_fewer m s front middle back a b safe ops fit run undone apart =
    let before : IsRun m s front = run_front m s front (a ∷ middle ++ b ∷ back) run in
    let behind : IsRun m (after m s front) (a ∷ middle ++ b ∷ back) = run_back m s front (a ∷ middle ++ b ∷ back) run in
    let safe' = run_safe m s front safe (all_front IsOp front (a ∷ middle ++ b ∷ back) ops) before in
    let gone = pair_gone m (after m s front) a b middle back safe'.0 (all_back IsOp front (a ∷ middle ++ b ∷ back) ops) behind undone apart in
    record {
      ops = all_fewer IsOp front middle back a b ops;
      fit = all_fewer KeepsItemRule front middle back a b fit;
      run = run_append m s front (middle ++ back) before gone.run;
      end = ap cold (after_append m s front (a ∷ middle ++ b ∷ back)) ∙ gone.end ∙ sym (ap cold (after_append m s front (middle ++ back)));
      items = items_fewer front middle back a b undone;
      few = omega (arith, length-append front (a ∷ middle ++ b ∷ back), length-append middle (b ∷ back), length-append front (middle ++ back), length-append middle back);
    }

-- ---- the pass

both : (m : MachineData) (s : State) (old mid new : List OpKind) → Keeps m s old mid → Keeps m s mid new → Keeps m s old new
both m s old mid new one two =
    record { ops = two.ops; fit = two.fit; run = two.run; end = one.end ∙ two.end; items = two.items ∙ one.items; few = omega (arith, one.few, two.few) }

all_kinds : (b : OpKind) (recent : List Numbered) → AllByRecursion (λ x. meets x.1 b ≡ false) recent → AllByRecursion (λ x. meets x b ≡ false) (kinds (reverse recent))
all_kinds b recent apart =
    mapped (reverse recent) (subst (AllByRecursion (λ x. meets x.1 b ≡ false)) (append-nil (reverse recent)) (all_turned (λ (x : Numbered). meets x.1 b ≡ false) recent [] apart tt))
  where
    mapped : (xs : List Numbered) → AllByRecursion (λ x. meets x.1 b ≡ false) xs → AllByRecursion (λ x. meets x b ≡ false) (kinds xs)
    mapped [] all = tt
    mapped (x ∷ xs) all = (all.0, mapped xs all.1)

pub keeps_swept : (m : MachineData) (s : State) (earlier ops : List Numbered) → IsSafe m s → AllByRecursion IsOp (kinds (reverse earlier ++ ops)) → AllByRecursion KeepsItemRule (kinds (reverse earlier ++ ops))
    → IsRun m s (kinds (reverse earlier ++ ops)) → Keeps m s (kinds (reverse earlier ++ ops)) (kinds (reverse (swept earlier ops)))
keeps_swept m s earlier [] safe all fit run =
    let same : reverse earlier ++ [] ≡ reverse earlier = append-nil (reverse earlier) in
    subst (λ (l : List Numbered). Keeps m s (kinds (reverse earlier ++ [])) (kinds l)) same (record { ops = all; fit = fit; run = run; end = refl; items = refl; few = omega arith })
keeps_swept m s earlier (b ∷ ops) safe all fit run = by_left (λ xs some rule legal. keeps_swept m s xs ops safe some rule legal) (left_by b earlier) refl
  where
    by_left : ((xs : List Numbered) → AllByRecursion IsOp (kinds (reverse xs ++ ops)) → AllByRecursion KeepsItemRule (kinds (reverse xs ++ ops)) → IsRun m s (kinds (reverse xs ++ ops)) → Keeps m s (kinds (reverse xs ++ ops)) (kinds (reverse (swept xs ops))))
        → (o : Option (List Numbered)) → left_by b earlier ≡ o → Keeps m s (kinds (reverse earlier ++ b ∷ ops)) (kinds (reverse (swept (unwrap_or o (b ∷ earlier)) ops)))
    by_left next None h =
        let e : reverse (b ∷ earlier) ++ ops ≡ reverse earlier ++ b ∷ ops = turned b earlier ops in
        subst (λ (l : List Numbered). Keeps m s (kinds l) (kinds (reverse (swept (b ∷ earlier) ops)))) e
        (next (b ∷ earlier) (subst (λ (l : List Numbered). AllByRecursion IsOp (kinds l)) (sym e) all) (subst (λ (l : List Numbered). AllByRecursion KeepsItemRule (kinds l)) (sym e) fit) (subst (λ (l : List Numbered). IsRun m s (kinds l)) (sym e) run))
    by_left next (Some xs) h =
        let l = left_is b earlier xs h in
        let front : List OpKind = kinds (reverse l.older) in
        let middle : List OpKind = kinds (reverse l.recent) in
        let back : List OpKind = kinds ops in
        let whole : kinds (reverse earlier ++ b ∷ ops) ≡ front ++ (l.a.1 ∷ middle ++ b.1 ∷ back) =
        ap kinds (seen_whole b earlier xs (b ∷ ops) l) ∙ map-append (λ (e : Numbered). e.1) (reverse l.older) (l.a ∷ reverse l.recent ++ b ∷ ops)
        ∙ ap (λ (k : List OpKind). front ++ l.a.1 ∷ k) (map-append (λ (e : Numbered). e.1) (reverse l.recent) (b ∷ ops)) in
        let fewer : kinds (reverse xs ++ ops) ≡ front ++ (middle ++ back) =
        ap kinds (seen_left b earlier xs ops l) ∙ map-append (λ (e : Numbered). e.1) (reverse l.older) (reverse l.recent ++ ops)
        ∙ ap (λ (k : List OpKind). front ++ k) (map-append (λ (e : Numbered). e.1) (reverse l.recent) ops) in
        let one : Keeps m s (front ++ (l.a.1 ∷ middle ++ b.1 ∷ back)) (front ++ (middle ++ back)) =
        keeps_fewer m s front middle back l.a.1 b.1 safe (subst (AllByRecursion IsOp) whole all) (subst (AllByRecursion KeepsItemRule) whole fit) (subst (IsRun m s) whole run) l.undone (all_kinds b.1 l.recent l.apart) in
        let more : Keeps m s (kinds (reverse xs ++ ops)) (kinds (reverse (swept xs ops))) =
        next xs (subst (AllByRecursion IsOp) (sym fewer) one.ops) (subst (AllByRecursion KeepsItemRule) (sym fewer) one.fit) (subst (IsRun m s) (sym fewer) one.run) in
        subst (λ (k : List OpKind). Keeps m s k (kinds (reverse (swept xs ops)))) (sym whole)
        (both m s (front ++ (l.a.1 ∷ middle ++ b.1 ∷ back)) (front ++ (middle ++ back)) (kinds (reverse (swept xs ops))) one (subst (λ (k : List OpKind). Keeps m s k (kinds (reverse (swept xs ops)))) fewer more))

unnumbered : {X : Type 0} (k : ℕ) (xs : List X) → map (λ (e : ℕ × X). e.1) (enumerate_from k xs) ≡ xs
unnumbered k [] = refl
unnumbered {X} k (x ∷ xs) = ap (λ (l : List X). x ∷ l) (unnumbered (k + 1) xs)

pub keeps_staying : (p : ProgramData) → IsSafe p.machine (opening_of p) → AllByRecursion IsOp p.ops → AllByRecursion KeepsItemRule p.ops → IsRun p.machine (opening_of p) p.ops → Keeps p.machine (opening_of p) p.ops (tidied p).ops
keeps_staying p safe all fit run =
    let e : kinds (enumerate_from 0 p.ops) ≡ p.ops = unnumbered 0 p.ops in
    let pass : Keeps p.machine (opening_of p) (kinds (enumerate_from 0 p.ops)) (kinds (reverse (swept [] (enumerate_from 0 p.ops)))) =
    keeps_swept p.machine (opening_of p) [] (enumerate_from 0 p.ops) safe (subst (AllByRecursion IsOp) (sym e) all) (subst (AllByRecursion KeepsItemRule) (sym e) fit) (subst (IsRun p.machine (opening_of p)) (sym e) run) in
    subst (λ (k : List OpKind). Keeps p.machine (opening_of p) p.ops k) (ap kinds (sym (staying_is p.ops)))
    (subst (λ (k : List OpKind). Keeps p.machine (opening_of p) k (kinds (reverse (swept [] (enumerate_from 0 p.ops))))) e pass)

keeps_program : (p : ProgramData) → IsLegalProgram p → Keeps p.machine (opening_of p) p.ops (tidied p).ops
keeps_program p legal = keeps_staying p (opening-safe p.machine p.qubits p.bits p.start legal.start) legal.ops legal.items_fit legal.run

-- ---- of programs

-- what holds of each operation of a program holds of each that stays
tidied_keeps : (p : ProgramData) (P : OpKind → Type 0) → AllByRecursion P p.ops → AllByRecursion P (tidied p).ops
tidied_keeps p P all =
    part_keeps P (staying p.ops) (enumerate_from 0 p.ops) (part_staying p.ops) (subst (AllByRecursion P) (sym (unnumbered 0 p.ops)) all)

pub tidied_legal : (p : ProgramData) → IsLegalProgram p → IsLegalProgram (tidied p)
tidied_legal p legal =
    let k = keeps_program p legal in
    record {
      qubits = legal.qubits;
      bits = legal.bits;
      few = omega (arith, k.few, legal.few);
      start = legal.start;
      ops = k.ops;
      items_fit = k.fit;
      run = k.run;
      once = λ number. subst (λ (es : List (ℕ × ItemData)). Rattle.std.specs.Prelude.count_by (λ e. Rattle.std.proofs.Common.◌==◌ e.0 number) es ≤ 1) (sym k.items) (legal.once number);
      of_mode = tidied_keeps p (λ op. IsTrue (is_of_mode p.mode op)) legal.of_mode;
    }

pub tidied_ends : (p : ProgramData) → IsLegalProgram p → SameStands (end_of p) (end_of (tidied p))
tidied_ends p legal = (keeps_program p legal).end

pub tidied_few : (p : ProgramData) → IsLegalProgram p → length (tidied p).ops ≤ length p.ops
tidied_few p legal = (keeps_program p legal).few

pub tidied_items : (p : ProgramData) → IsLegalProgram p → items_in (tidied p).ops ≡ items_in p.ops
tidied_items p legal = (keeps_program p legal).items

pub tidied_implements : (p : ProgramData) (c : CircuitData) (m : MachineData) → IsLegalProgram p → Implements p c m → Implements (tidied p) c m
tidied_implements p c m legal of =
    let k = keeps_program p legal in
    record {
      machine = of.machine;
      qubits = of.qubits;
      bits = of.bits;
      start = of.start;
      ops = k.ops;
      run = subst (λ (n : MachineData). IsRun n (opening_of p) (tidied p).ops) of.machine k.run;
      items = subst (λ (es : List (ℕ × ItemData)). Rattle.std.proofs.Common.All (λ e. Rattle.std.proofs.Common.slice_get c.items e.0 ≡ Some e.1) es) (sym k.items) of.items;
      order = subst (λ (es : List (ℕ × ItemData)). Rattle.qccd_circuit.specs.Order.SameOrder c.items (map (λ e. e.0) es)) (sym k.items) of.order;
    }

-- what holds of the tidied program holds of the one that a call gives
pub of_tidied : {X : Type 0} (p : ProgramData) (r : Result ProgramData X) (P : ProgramData → Type 0) → P (tidied p) → IfOk r (λ q. q ≡ tidied p) → IfOk r P
of_tidied p (Ok q) P h is = subst P (sym is) h
of_tidied p (Err e) P h is = tt

pub ok_as : {X : Type 0} (p q : ProgramData) (r : Result ProgramData X) → q ≡ p → IfOk r (λ x. x ≡ q) → IfOk r (λ x. x ≡ p)
ok_as p q (Ok x) same is = is ∙ same
ok_as p q (Err e) same is = tt
