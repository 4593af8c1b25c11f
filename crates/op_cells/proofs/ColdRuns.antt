-- One operation done on what cells hold, which is cold afterwards.
use Rattle.std.proofs.Common.{arith, ◌≡◌, ◌≢◌, ℕ, ◌+◌, ◌<◌, false, List, [], ◌∷◌, ◌++◌, map, take, drop, set, get_or, length, refl, sym, ◌∙◌, ap, ap₂, subst, Option, Some, None, option_map, slice_get}
use Rattle.std.specs.List.{AllByRecursion}
use Rattle.std.proofs.Math.Seq.{take-append_seam}
use Rattle.std.proofs.lemmas.Option.{slice_get-get_or}
use Rattle.qccd_base.specs.declared.names.Res.{Res}
use Rattle.qccd_base.specs.Resource.{among}
use Rattle.qccd_machine.specs.Machine.{MachineData}
use Rattle.op_table.specs.declared.kinds.OpKind.{OpKind}
use Rattle.op_table.specs.declared.contents.Content.{Content}
use Rattle.op_table.specs.Act.{acted}
use Rattle.op_table.specs.Touch.{touches}
use Rattle.op_cells.specs.declared.cells.Cell.{Cell}
use Rattle.op_cells.specs.Cold.{chilled, cooled, MayRunCold, RanCold}
use Rattle.op_cells.specs.Numbering.{index_of, IsThere}
use Rattle.op_cells.specs.Places.{adjust, adjust_all, content_at, content_or, holding, AreInTurn, AreWithin}
use Rattle.op_cells.proofs.Adjusting.{adjust-long, adjust-own, adjust-other, adjust-set, drop_next}
use Rattle.op_cells.proofs.InTurn.{touched-there, touched-in_turn, stands_apart}
use Rattle.op_cells.proofs.OneRuns.{all_keep, all_long, all_other, apart_from, holding_keeps}
use Rattle.op_cells.proofs.Wholes.{acted_long, mapped_long}

contents_other : (m : MachineData) (f : Cell → Cell) (cells : List Cell) (i : ℕ) (rs : List Res) → AllByRecursion (λ q. i < index_of m q) rs → map (content_at m (adjust f cells i)) rs ≡ map (content_at m cells) rs
contents_other m f cells i [] up = refl
contents_other m f cells i (q ∷ rs) up =
    ap₂ (λ (x : Content) (xs : List Content). x ∷ xs) (ap content_or (adjust-other f cells i (index_of m q) (λ e. let less : i < index_of m q = up.0 in omega (arith, less, e)))) (contents_other m f cells i rs up.1)

within_kept : (m : MachineData) (f : Cell → Cell) (cells : List Cell) (i : ℕ) (rs : List Res) → AreWithin m (length cells) rs → AreWithin m (length (adjust f cells i)) rs
within_kept m f cells i rs all = subst (λ (n : ℕ). AreWithin m n rs) (sym (adjust-long f cells i)) all

own_content : (x : Content) (cells : List Cell) (i : ℕ) → i < length cells → content_or (slice_get (adjust (holding x) cells i) i) ≡ x
own_content x [] i within = absurd (omega (arith, within))
own_content x (c ∷ cells) i within =
    ap content_or (adjust-own (holding x) (c ∷ cells) i ∙ ap (option_map (holding x)) (slice_get-get_or (c ∷ cells) i c within))

-- what they hold afterwards
held_after : (m : MachineData) (rs : List Res) (xs : List Content) (cells : List Cell) → AreInTurn m rs → AreWithin m (length cells) rs → length xs ≡ length rs
    → map (content_at m (adjust_all m rs (map holding xs) cells)) rs ≡ xs
held_after m [] [] cells up all long = refl
held_after m [] (x ∷ xs) cells up all long = absurd (omega (arith, long))
held_after m (r ∷ rs) [] cells up all long = absurd (omega (arith, long))
held_after m (r ∷ rs) (x ∷ xs) cells up all long =
    let i : ℕ = index_of m r in
    ap₂ (λ (y : Content) (ys : List Content). y ∷ ys)
    (ap content_or (all_other m rs (map holding xs) (adjust (holding x) cells i) i (apart_from m i rs up.0)) ∙ own_content x cells i all.0)
    (held_after m rs xs (adjust (holding x) cells i) up.1 (within_kept m (holding x) cells i rs all.1) (omega (arith, long)))

chilled_own : (o : Option Cell) → content_or (option_map chilled o) ≡ cooled (content_or o)
chilled_own None = refl
chilled_own (Some c) = refl

chilled_after : (m : MachineData) (rs : List Res) (cells : List Cell) → AreInTurn m rs
    → map (content_at m (adjust_all m rs (map (λ (r : Res). chilled) rs) cells)) rs ≡ map cooled (map (content_at m cells) rs)
chilled_after m [] cells up = refl
chilled_after m (r ∷ rs) cells up =
    let i : ℕ = index_of m r in
    ap₂ (λ (y : Content) (ys : List Content). y ∷ ys)
    (ap content_or (all_other m rs (map (λ (r : Res). chilled) rs) (adjust chilled cells i) i (apart_from m i rs up.0) ∙ adjust-own chilled cells i) ∙ chilled_own (slice_get cells i))
    (chilled_after m rs (adjust chilled cells i) up.1 ∙ ap (map cooled) (contents_other m chilled cells i rs up.0))

chilled_keeps : {Y : Type 0} (Q : Cell → Y) → ((c : Cell) → Q (chilled c) ≡ Q c) → (rs : List Res) → AllByRecursion (λ f. (c : Cell) → Q (f c) ≡ Q c) (map (λ (r : Res). chilled) rs)
chilled_keeps Q keep [] = tt
chilled_keeps Q keep (r ∷ rs) = (keep, chilled_keeps Q keep rs)

-- the two changes that make up such a run
abbrev cold_changed : MachineData → OpKind → List Cell → List Cell
cold_changed m op old =
    adjust_all m (touches op) (map (λ (r : Res). chilled) (touches op)) (adjust_all m (touches op) (map holding (acted m op (map (content_at m old) (touches op)))) old)

pub in_turn_cold : (m : MachineData) (op : OpKind) (old : List Cell) → MayRunCold m op old → AreInTurn m (touches op)
in_turn_cold m op old may = touched-in_turn m may.legal.0 op (map (content_at m old) (touches op)) may.legal.1

kept_cold : {Y : Type 0} (Q : Cell → Y) → ((x : Content) (c : Cell) → Q (holding x c) ≡ Q c) → ((c : Cell) → Q (chilled c) ≡ Q c) → (m : MachineData) (op : OpKind) (old : List Cell) (i : ℕ)
    → option_map Q (slice_get (cold_changed m op old) i) ≡ option_map Q (slice_get old i)
kept_cold Q by_holding by_chilled m op old i =
    let xs : List Content = acted m op (map (content_at m old) (touches op)) in
    all_keep Q m (touches op) (map (λ (r : Res). chilled) (touches op)) (adjust_all m (touches op) (map holding xs) old) i (chilled_keeps Q by_chilled (touches op))
    ∙ all_keep Q m (touches op) (map holding xs) old i (holding_keeps Q by_holding xs)

changed_cold : (m : MachineData) (bits : ℕ) (op : OpKind) (old : List Cell) → MayRunCold m op old → RanCold m bits op old (cold_changed m op old)
changed_cold m bits op old may =
    let xs : List Content = acted m op (map (content_at m old) (touches op)) in
    let mid : List Cell = adjust_all m (touches op) (map holding xs) old in
    let up : AreInTurn m (touches op) = in_turn_cold m op old may in
    let long : length xs ≡ length (touches op) = acted_long m op (map (content_at m old) (touches op)) (mapped_long (content_at m old) (touches op)) in
    let apart : (r : Res) → IsThere m bits r → among (touches op) r ≡ false → AllByRecursion (λ q. index_of m r ≢ index_of m q) (touches op) =
    λ r at out. stands_apart m may.legal.0 bits r (touches op) at (touched-there m may.legal.0 op (map (content_at m old) (touches op)) may.legal.1) out in
    record {
      long = all_long m (touches op) (map (λ (r : Res). chilled) (touches op)) mid ∙ all_long m (touches op) (map holding xs) old;
      touched = chilled_after m (touches op) mid up ∙ ap (map cooled) (held_after m (touches op) xs old up may.within long);
      others = λ r at out. all_other m (touches op) (map (λ (r : Res). chilled) (touches op)) mid (index_of m r) (apart r at out) ∙ all_other m (touches op) (map holding xs) old (index_of m r) (apart r at out);
      clocks = λ i. kept_cold (λ (c : Cell). c.free_at) (λ x c. refl) (λ c. refl) m op old i;
      logs = λ i. kept_cold (λ (c : Cell). c.log) (λ x c. refl) (λ c. refl) m op old i;
    }

pub ran-cold : (m : MachineData) (op : OpKind) (ts : List Res) (old mid new : List Cell) → MayRunCold m op old → ts ≡ touches op → mid ≡ adjust_all m (touches op) (map holding (acted m op (map (content_at m old) (touches op)))) old
    → new ≡ adjust_all m ts (map (λ (r : Res). chilled) ts) mid → (bits : ℕ) → RanCold m bits op old new
ran-cold m op ts old mid new may same did cold bits =
    let all : new ≡ cold_changed m op old =
    cold ∙ ap (λ (rs : List Res). adjust_all m rs (map (λ (r : Res). chilled) rs) mid) same ∙ ap (adjust_all m (touches op) (map (λ (r : Res). chilled) (touches op))) did in
    subst (RanCold m bits op old) (sym all) (changed_cold m bits op old may)

-- the same, where the list is written back into what held it
pub cold-kept : (m : MachineData) (op : OpKind) (old slice new rest : List Cell) (n : ℕ) → slice ≡ old → length slice ≡ n → ((bits : ℕ) → RanCold m bits op slice new) → (bits : ℕ) → RanCold m bits op old (take n (new ++ rest))
cold-kept m op old slice new rest n same long is bits =
    let whole : take n (new ++ rest) ≡ new = ap (λ (i : ℕ). take i (new ++ rest)) (sym long ∙ sym (is 0).long) ∙ take-append_seam new rest in
    subst (λ (cs : List Cell). RanCold m bits op cs (take n (new ++ rest))) same (subst (RanCold m bits op slice) (sym whole) (is bits))

-- a step of the loop over the touched resources
pub chilled-next : (m : MachineData) (ts : List Res) (old now : List Cell) (k i : ℕ) (x : Content) (e : Res) (d : Cell) → k < length ts → i ≡ index_of m (get_or ts k e) → x ≡ cooled (get_or now i d).content
    → adjust_all m (drop k ts) (map (λ (r : Res). chilled) (drop k ts)) now ≡ adjust_all m ts (map (λ (r : Res). chilled) ts) old
    → adjust_all m (drop (k + 1) ts) (map (λ (r : Res). chilled) (drop (k + 1) ts)) (set now i (record (get_or now i d) { content = x })) ≡ adjust_all m ts (map (λ (r : Res). chilled) ts) old
chilled-next m ts old now k i x e d less at is before =
    let rest : List Res = drop (k + 1) ts in
    ap (adjust_all m rest (map (λ (r : Res). chilled) rest))
    (ap (λ (y : Content). set now i (record (get_or now i d) { content = y })) is ∙ sym (adjust-set chilled now i d) ∙ ap (adjust chilled now) at)
    ∙ ap (λ (rs : List Res). adjust_all m rs (map (λ (r : Res). chilled) rs) now) (sym (drop_next ts k e less)) ∙ before
