-- An operation on its held cells, with clocks and log.
use Rattle.std.proofs.Common.{◌≡◌, ◌≢◌, ℕ, suc, ◌+◌, ◌-◌, ◌^◌, ◌<◌, List, [], ◌∷◌, ◌++◌, map, length, take, refl, sym, ◌∙◌, ap, ap₂, subst, arith, All, length-append}
use Rattle.std.specs.List.{AllByRecursion}
use Rattle.std.proofs.lemmas.List.Elements.{All-from_recursion, recursion_from_All}
use Rattle.qccd_base.specs.Greatest.{greatest}
use Rattle.qccd_base.specs.declared.names.Res.{Res}
use Rattle.qccd_machine.specs.Machine.{MachineData}
use Rattle.op_table.specs.declared.kinds.OpKind.{OpKind}
use Rattle.op_table.specs.declared.kinds.OpKind.TheVariants.{Split, Move, Enter, Leave, Merge, Rot, GSwap, Item, Fence}
use Rattle.qccd_base.specs.declared.names.Res.TheVariants as res
use Rattle.qccd_base.specs.Resource.{ascending}
use Rattle.qccd_circuit.specs.Item.{bits_of}
use Rattle.op_table.specs.Op.{IsOp}
use Rattle.op_table.specs.Touch.{possible, touches}
use Rattle.op_table.proofs.Needs.{touches-item, touches-fence}
use Rattle.op_table.specs.Clock.{duration}
use Rattle.op_table.specs.declared.contents.Content.{Content}
use Rattle.op_cells.specs.declared.cells.Held.{Held}
use Rattle.op_cells.specs.declared.cells.Done.{Done}
use Rattle.op_table.specs.Act.{acted}
use Rattle.op_cells.specs.Settled.{contents_of, with_content, with_contents, freed, noted_first}
use Rattle.op_cells.specs.Acted.{CellData, acted_on, with_contents_at, noted_at, start_on}
use Rattle.op_cells.specs.Acted.{data_of, room_of}

abbrev held_data : Held → CellData
held_data h = data_of h.cell

tail_data : (finish : ℕ) (cs : List Content) (hs : List Held) → length cs ≡ length hs → map (λ (h : Held). data_of h.cell) (map (freed finish) (with_contents cs hs)) ≡ with_contents_at finish cs (map (λ (h : Held). data_of h.cell) hs)
tail_data finish [] [] long = refl
tail_data finish [] (h ∷ hs) long = absurd (omega (arith, long))
tail_data finish (c ∷ cs) [] long = refl
tail_data finish (c ∷ cs) (h ∷ hs) long = ap (λ (ds : List CellData). record { content = c; clock = finish; log = h.cell.log.entries } ∷ ds) (tail_data finish cs hs (omega (arith, long)))

settled_data : (done : Done) (cs : List Content) (hs : List Held) → length cs ≡ length hs
    → map (λ (h : Held). data_of h.cell) (map (freed done.finish) (noted_first done (with_contents cs hs))) ≡ noted_at done (with_contents_at done.finish cs (map (λ (h : Held). data_of h.cell) hs))
settled_data done [] [] long = refl
settled_data done [] (h ∷ hs) long = absurd (omega (arith, long))
settled_data done (c ∷ cs) [] long = refl
settled_data done (c ∷ cs) (h ∷ hs) long = ap (λ (ds : List CellData). record { content = c; clock = done.finish; log = h.cell.log.entries ++ done ∷ [] } ∷ ds) (tail_data done.finish cs hs (omega (arith, long)))

map_twice : {X Y Z : Type 0} (g : Y → Z) (f : X → Y) (xs : List X) → map g (map f xs) ≡ map (λ x. g (f x)) xs
map_twice g f [] = refl
map_twice {X} {Y} {Z} g f (x ∷ xs) = ap (λ (ys : List Z). g (f x) ∷ ys) (map_twice g f xs)

pub mapped_long : {X Y : Type 0} (f : X → Y) (xs : List X) → length (map f xs) ≡ length xs
mapped_long f [] = refl
mapped_long f (x ∷ xs) = ap suc (mapped_long f xs)

pub acted_long : (m : MachineData) (op : OpKind) (cs : List Content) → length cs ≡ length (touches op) → length (acted m op cs) ≡ length (touches op)
acted_long m (Split t e g) cs long = refl
acted_long m (Move g) cs long = refl
acted_long m (Enter g j) cs long = refl
acted_long m (Leave j g) cs long = refl
acted_long m (Merge g t e) cs long = refl
acted_long m (Rot t p) cs long = refl
acted_long m (GSwap t low high) cs long = refl
acted_long m (Item number t item at) cs long = long
acted_long m (Fence number item traps) cs long = long

-- what touches neither one resource nor two changes none
pub quiet : (m : MachineData) (op : OpKind) (cs : List Content) → length (touches op) ≢ 1 → length (touches op) ≢ 2 → acted m op cs ≡ cs
quiet m (Split t e g) cs one two = absurd (two refl)
quiet m (Move g) cs one two = absurd (one refl)
quiet m (Enter g j) cs one two = absurd (two refl)
quiet m (Leave j g) cs one two = absurd (two refl)
quiet m (Merge g t e) cs one two = absurd (two refl)
quiet m (Rot t p) cs one two = absurd (one refl)
quiet m (GSwap t low high) cs one two = absurd (one refl)
quiet m (Item number t item at) cs one two = refl
quiet m (Fence number item traps) cs one two = refl

own_contents : (hs : List Held) → with_contents (contents_of hs) hs ≡ hs
own_contents [] = refl
own_contents (h ∷ hs) = ap (λ (ks : List Held). h ∷ ks) (own_contents hs)

names_long : (hs : List Held) (ts : List Res) → map (λ (h : Held). h.res) hs ≡ ts → length hs ≡ length ts
names_long hs ts names = sym (mapped_long (λ (h : Held). h.res) hs) ∙ ap (λ (rs : List Res). length rs) names

pub untouched : (m : MachineData) (op : OpKind) (hs : List Held) → map (λ (h : Held). h.res) hs ≡ touches op → length hs ≢ 1 → length hs ≢ 2 → hs ≡ with_contents (acted m op (contents_of hs)) hs
untouched m op hs names one two =
    let long : length hs ≡ length (touches op) = names_long hs (touches op) names in
    sym (own_contents hs) ∙ ap (λ (cs : List Content). with_contents cs hs) (sym (quiet m op (contents_of hs) (λ e. one (long ∙ e)) (λ e. two (long ∙ e))))

-- an operation touches at least one resource
touches_some : (op : OpKind) → IsOp op → 0 < length (touches op)
touches_some (Split t e g) kept = omega arith
touches_some (Move g) kept = omega arith
touches_some (Enter g j) kept = omega arith
touches_some (Leave j g) kept = omega arith
touches_some (Merge g t e) kept = omega arith
touches_some (Rot t p) kept = omega arith
touches_some (GSwap t low high) kept = omega arith
touches_some (Item number t item at) kept =
    let some : length (touches (Item number t item at)) ≡ suc (length (ascending (map res.Bit (possible (bits_of item))))) = ap (λ (rs : List Res). length rs) (touches-item number t item at) in omega (arith, some)
touches_some (Fence number item traps) kept =
    let some : length (touches (Fence number item traps)) ≡ length traps = ap (λ (rs : List Res). length rs) (touches-fence number item traps kept) ∙ mapped_long res.Trap traps in
    let more : 0 < length traps = kept.1 in
    omega (arith, some, more)

with_long : (cs : List Content) (hs : List Held) → length (with_contents cs hs) ≡ length hs
with_long [] hs = refl
with_long (c ∷ cs) [] = refl
with_long (c ∷ cs) (h ∷ hs) = ap suc (with_long cs hs)

pub held-some : (op : OpKind) (cs : List Content) (hs mid : List Held) → IsOp op → map (λ (h : Held). h.res) hs ≡ touches op → mid ≡ with_contents cs hs → 0 < length mid
held-some op cs hs mid kept names did =
    let long : length mid ≡ length (touches op) = ap (λ (ks : List Held). length ks) did ∙ with_long cs hs ∙ names_long hs (touches op) names in
    omega (arith, long, touches_some op kept)

pub room-left : (cs : List Content) (hs mid : List Held) → mid ≡ with_contents cs hs → All (λ (h : Held). 0 < h.cell.log.spare) (take 1 hs) → All (λ (h : Held). 0 < h.cell.log.spare) (take 1 mid)
room-left cs hs mid did room = subst (λ (ks : List Held). All (λ (h : Held). 0 < h.cell.log.spare) (take 1 ks)) (sym did) (All-from_recursion (λ (h : Held). 0 < h.cell.log.spare) (take 1 (with_contents cs hs)) (go cs hs (recursion_from_All (λ (h : Held). 0 < h.cell.log.spare) (take 1 hs) room)))
  where
    go : (cs : List Content) (hs : List Held) → AllByRecursion (λ (h : Held). 0 < h.cell.log.spare) (take 1 hs) → AllByRecursion (λ (h : Held). 0 < h.cell.log.spare) (take 1 (with_contents cs hs))
    go [] hs r = r
    go (c ∷ cs) [] r = tt
    go (c ∷ cs) (h ∷ hs) r = r

pub whole-cells : (m : MachineData) (k : ℕ) (op : OpKind) (old mid new : List Held) (start time : ℕ) → map (λ (h : Held). h.res) old ≡ touches op → start ≡ greatest (map (λ (h : Held). h.cell.free_at) old) → time ≡ duration m op
    → mid ≡ with_contents (acted m op (contents_of old)) old → new ≡ map (freed (start + time)) (noted_first (record { op = k; start = start; finish = start + time }) mid)
    → map (λ (h : Held). data_of h.cell) new ≡ acted_on m k op (map (λ (h : Held). data_of h.cell) old)
whole-cells m k op old mid new start time names begins lasts did settled =
    let ds : List CellData = map (λ (h : Held). data_of h.cell) old in
    let long : length (acted m op (contents_of old)) ≡ length old = acted_long m op (contents_of old) (mapped_long (λ (h : Held). h.cell.content) old ∙ names_long old (touches op) names) ∙ sym (names_long old (touches op) names) in
    let at : start ≡ start_on ds = begins ∙ ap greatest (sym (map_twice_held (λ (d : CellData). d.clock) old)) in
    let held : acted m op (contents_of old) ≡ acted m op (map (λ (d : CellData). d.content) ds) = ap (acted m op) (sym (map_twice_held (λ (d : CellData). d.content) old)) in
    ap (map (λ (h : Held). data_of h.cell)) (settled ∙ ap (λ (hs : List Held). map (freed (start + time)) (noted_first (record { op = k; start = start; finish = start + time }) hs)) did)
    ∙ settled_data (record { op = k; start = start; finish = start + time }) (acted m op (contents_of old)) old long
    ∙ ap₂ (λ (s t : ℕ). noted_at (record { op = k; start = s; finish = s + t }) (with_contents_at (s + t) (acted m op (contents_of old)) ds)) at lasts
    ∙ ap (λ (cs : List Content). noted_at (record { op = k; start = start_on ds; finish = start_on ds + duration m op }) (with_contents_at (start_on ds + duration m op) cs ds)) held
  where
    map_twice_held : {Y : Type 0} (g : CellData → Y) (hs : List Held) → map g (map (λ (h : Held). data_of h.cell) hs) ≡ map (λ (h : Held). g (data_of h.cell)) hs
    map_twice_held g hs = map_twice g (λ (h : Held). data_of h.cell) hs

-- names and rooms stay
kept_by : {Y : Type 0} (f : Held → Y) (finish : ℕ) (cs : List Content) (hs : List Held) → ((c : Content) (h : Held) → f (freed finish (with_content c h)) ≡ f h) → ((h : Held) → f (freed finish h) ≡ f h) → map f (map (freed finish) (with_contents cs hs)) ≡ map f hs
kept_by f finish [] [] a b = refl
kept_by {Y} f finish [] (h ∷ hs) a b = ap₂ (λ (y : Y) (ys : List Y). y ∷ ys) (b h) (kept_by f finish [] hs a b)
kept_by f finish (c ∷ cs) [] a b = refl
kept_by {Y} f finish (c ∷ cs) (h ∷ hs) a b = ap₂ (λ (y : Y) (ys : List Y). y ∷ ys) (a c h) (kept_by f finish cs hs a b)

pub whole-names : (finish : ℕ) (done : Done) (cs : List Content) (old mid new : List Held) → mid ≡ with_contents cs old → new ≡ map (freed finish) (noted_first done mid) → map (λ (h : Held). h.res) new ≡ map (λ (h : Held). h.res) old
whole-names finish done cs old mid new did settled = ap (map (λ (h : Held). h.res)) (settled ∙ ap (λ (hs : List Held). map (freed finish) (noted_first done hs)) did) ∙ go cs old
  where
    go : (cs : List Content) (hs : List Held) → map (λ (h : Held). h.res) (map (freed finish) (noted_first done (with_contents cs hs))) ≡ map (λ (h : Held). h.res) hs
    go [] [] = refl
    go [] (h ∷ hs) = ap (λ (ys : List Res). h.res ∷ ys) (kept_by (λ (h : Held). h.res) finish [] hs (λ c h. refl) (λ h. refl))
    go (c ∷ cs) [] = refl
    go (c ∷ cs) (h ∷ hs) = ap (λ (ys : List Res). h.res ∷ ys) (kept_by (λ (h : Held). h.res) finish cs hs (λ c h. refl) (λ h. refl))

room_noted : (es : List Done) (d : Done) (n : ℕ) → 0 < n → length (es ++ d ∷ []) + (n - 1) ≡ length es + n
room_noted es d n h = omega (arith, length-append es (d ∷ []), h)

pub whole-rooms : (finish : ℕ) (done : Done) (cs : List Content) (old mid new : List Held) → All (λ (h : Held). 0 < h.cell.log.spare) (take 1 old) → mid ≡ with_contents cs old → new ≡ map (freed finish) (noted_first done mid)
    → map (λ (h : Held). room_of h.cell) new ≡ map (λ (h : Held). room_of h.cell) old
whole-rooms finish done cs old mid new some did settled = ap (map (λ (h : Held). room_of h.cell)) (settled ∙ ap (λ (hs : List Held). map (freed finish) (noted_first done hs)) did) ∙ go cs old (recursion_from_All (λ (h : Held). 0 < h.cell.log.spare) (take 1 old) some)
  where
    go : (cs : List Content) (hs : List Held) → AllByRecursion (λ (h : Held). 0 < h.cell.log.spare) (take 1 hs) → map (λ (h : Held). room_of h.cell) (map (freed finish) (noted_first done (with_contents cs hs))) ≡ map (λ (h : Held). room_of h.cell) hs
    go [] [] some = refl
    go [] (h ∷ hs) some = ap₂ (λ (y : ℕ) (ys : List ℕ). y ∷ ys) (room_noted h.cell.log.entries done h.cell.log.spare some.0) (kept_by (λ (h : Held). room_of h.cell) finish [] hs (λ c h. refl) (λ h. refl))
    go (c ∷ cs) [] some = refl
    go (c ∷ cs) (h ∷ hs) some = ap₂ (λ (y : ℕ) (ys : List ℕ). y ∷ ys) (room_noted h.cell.log.entries done h.cell.log.spare some.0) (kept_by (λ (h : Held). room_of h.cell) finish cs hs (λ c h. refl) (λ h. refl))

pub greatest-small : (hs : List Held) → All (λ (h : Held). h.cell.free_at < 2 ^ 62) hs → greatest (map (λ (h : Held). h.cell.free_at) hs) < 2 ^ 62
greatest-small hs all = go hs (recursion_from_All (λ (h : Held). h.cell.free_at < 2 ^ 62) hs all)
  where
    go : (hs : List Held) → AllByRecursion (λ (h : Held). h.cell.free_at < 2 ^ 62) hs → greatest (map (λ (h : Held). h.cell.free_at) hs) < 2 ^ 62
    go [] a = omega arith
    go (h ∷ hs) a = let own : h.cell.free_at < 2 ^ 62 = a.0 in let rest = go hs a.1 in omega (arith, own, rest)
