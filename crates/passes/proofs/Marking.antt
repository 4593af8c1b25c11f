-- The marks of the pass, and one operation further.
use Rattle.std.proofs.Common.{arith, ◌≡◌, ℕ, zero, suc, ◌+◌, ◌<◌, ◌≤◌, Bool, true, false, if◌then◌else◌, List, [], ◌∷◌, ◌++◌, map, take, drop, set, get_or, replicate, reverse, length, refl, sym, ◌∙◌, ap, ap₂, subst, Option, Some, None, unwrap_or, slice_get, length-set, length-append, append_assoc}
use Rattle.std.specs.List.{AllByRecursion, enumerate_from}
use Rattle.std.proofs.lemmas.List.{append-nil, reverse-append, take_all}
use Rattle.std.proofs.lemmas.Option.{same_Some, none-some, slice_get_within}
use Rattle.qccd_base.specs.Resource.{among}
use Rattle.qccd_base.proofs.Resources.{all-from_among}
use Rattle.qccd_base.specs.declared.names.Ion.{Ion}
use Rattle.qccd_base.specs.declared.names.Mode.{Mode}
use Rattle.qccd_base.specs.declared.names.Res.{Res}
use Rattle.qccd_machine.specs.Machine.{MachineData}
use Rattle.op_table.specs.declared.kinds.OpKind.{OpKind}
use Rattle.op_table.specs.Touch.{touches}
use Rattle.op_cells.specs.Numbering.{count_of, index_of, IsThere}
use Rattle.qccd_program.proofs.Tables.{index-within, read-of}
use Rattle.qccd_program.specs.Program.{ProgramData, program_data}
use Rattle.passes.specs.Tidy.{kinds, tidied, Numbered, left_by, staying}
use Rattle.passes.specs.Swept.{put, swept, Cancels}
use Rattle.passes.specs.Stacks.{AreStacks, pushed, popped, partner_of, kept_in, kept_one, left_in, swept_to, SweptTo, stacks_with, marks_with}
use Rattle.passes.proofs.Removing.{cancels_some, left_is, staying_is, seen_whole, seen_left}
use Rattle.passes.proofs.Stacking.{Sits, partner_none, partner_some, stacks_popped, stacks_pushed, all_without}

-- ---- one element more

numbered_more : {X : Type 0} (c : ℕ) (xs : List X) (k : ℕ) (x : X) → slice_get xs k ≡ Some x → enumerate_from c (take (suc k) xs) ≡ enumerate_from c (take k xs) ++ (c + k, x) ∷ []
numbered_more c [] k x is = absurd (none-some x is)
numbered_more {X} c (y ∷ xs) zero x is = ap₂ (λ (n : ℕ) (z : X). (n, z) ∷ []) (zero_more c) (same_Some y x is)
  where
    zero_more : (c : ℕ) → c ≡ c + 0
    zero_more c = omega arith
numbered_more {X} c (y ∷ xs) (suc k) x is =
    ap (λ (l : List (ℕ × X)). (c, y) ∷ l) (numbered_more (c + 1) xs k x is ∙ ap (λ (n : ℕ). enumerate_from (c + 1) (take k xs) ++ (n, x) ∷ []) (one_more c k))
  where
    one_more : (c k : ℕ) → c + 1 + k ≡ c + suc k
    one_more c k = omega arith

swept_more : (earlier xs : List Numbered) (b : Numbered) → swept earlier (xs ++ b ∷ []) ≡ put (swept earlier xs) b
swept_more earlier [] b = refl
swept_more earlier (x ∷ xs) b = swept_more (put earlier x) xs b

swept_next : (ops : List OpKind) (k : ℕ) (op : OpKind) → slice_get ops k ≡ Some op → swept_to ops (suc k) ≡ put (swept_to ops k) (k, op)
swept_next ops k op is =
    ap (swept []) (numbered_more 0 ops k op is ∙ ap (λ (n : ℕ). enumerate_from 0 (take k ops) ++ (n, op) ∷ []) (zero_plus k)) ∙ swept_more [] (enumerate_from 0 (take k ops)) (k, op)
  where
    zero_plus : (k : ℕ) → 0 + k ≡ k
    zero_plus k = omega arith

kept_more : (marks : List Bool) (es : List Numbered) (g : Bool) (e : Numbered) → length marks ≡ length es → kept_in (marks ++ g ∷ []) (es ++ e ∷ []) ≡ kept_in marks es ++ (if g then [] else e ∷ [])
kept_more [] [] true e long = refl
kept_more [] [] false e long = refl
kept_more [] (x ∷ es) g e long = absurd (omega (arith, long))
kept_more (m ∷ marks) [] g e long = absurd (omega (arith, long))
kept_more (true ∷ marks) (x ∷ es) g e long = kept_more marks es g e (omega (arith, long))
kept_more (false ∷ marks) (x ∷ es) g e long = ap (λ (l : List Numbered). x ∷ l) (kept_more marks es g e (omega (arith, long)))

-- ---- one more mark

abbrev first_number : List Numbered → ℕ
first_number [] = 0
first_number (e ∷ es) = e.0

-- an entry that is kept has a number from c on
no_less : (c : ℕ) (xs : List OpKind) (marks : List Bool) (u v : List Numbered) (a : Numbered) → kept_in marks (enumerate_from c xs) ≡ u ++ a ∷ v → c ≤ a.0
no_less c xs [] [] v a is = cc
no_less c xs [] (e ∷ u) v a is = cc
no_less c [] (g ∷ marks) [] v a is = cc
no_less c [] (g ∷ marks) (e ∷ u) v a is = cc
no_less c (x ∷ xs) (true ∷ marks) u v a is = let more : c + 1 ≤ a.0 = no_less (c + 1) xs marks u v a is in omega (arith, more)
no_less c (x ∷ xs) (false ∷ marks) [] v a is = let same : c ≡ a.0 = ap first_number is in omega (arith, same)
no_less c (x ∷ xs) (false ∷ marks) (e ∷ u) v a is = let more : c + 1 ≤ a.0 = no_less (c + 1) xs marks u v a (ap (drop 1) is) in omega (arith, more)

marked_one : (c : ℕ) (xs : List OpKind) (marks : List Bool) (u v : List Numbered) (a : Numbered) (j : ℕ) → a.0 ≡ c + j → kept_in marks (enumerate_from c xs) ≡ u ++ a ∷ v → kept_in (set marks j true) (enumerate_from c xs) ≡ u ++ v
marked_one c xs [] [] v a j at is = cc
marked_one c xs [] (e ∷ u) v a j at is = cc
marked_one c [] (g ∷ marks) [] v a j at is = cc
marked_one c [] (g ∷ marks) (e ∷ u) v a j at is = cc
marked_one c (x ∷ xs) (true ∷ marks) u v a zero at is = let more : c + 1 ≤ a.0 = no_less (c + 1) xs marks u v a is in absurd (omega (arith, at, more))
marked_one c (x ∷ xs) (true ∷ marks) u v a (suc j) at is = marked_one (c + 1) xs marks u v a j (omega (arith, at)) is
marked_one c (x ∷ xs) (false ∷ marks) [] v a zero at is = ap (drop 1) is
marked_one c (x ∷ xs) (false ∷ marks) [] v a (suc j) at is = let same : c ≡ a.0 = ap first_number is in absurd (omega (arith, at, same))
marked_one c (x ∷ xs) (false ∷ marks) (e ∷ u) v a zero at is = let more : c + 1 ≤ a.0 = no_less (c + 1) xs marks u v a (ap (drop 1) is) in absurd (omega (arith, at, more))
marked_one c (x ∷ xs) (false ∷ marks) (e ∷ u) v a (suc j) at is =
    ap₂ (λ (f : Numbered) (l : List Numbered). f ∷ l) (head_is is) (marked_one (c + 1) xs marks u v a j (omega (arith, at)) (ap (drop 1) is))
  where
    head_is : (c, x) ∷ kept_in marks (enumerate_from (c + 1) xs) ≡ (e ∷ u) ++ a ∷ v → (c, x) ≡ e
    head_is h = cc

-- ---- what is kept sits at its number

sits_numbered : (c : ℕ) (all xs : List OpKind) → ((j : ℕ) → slice_get all (c + j) ≡ slice_get xs j) → Sits all (enumerate_from c xs)
sits_numbered c all [] same = tt
sits_numbered c all (x ∷ xs) same = (ap (slice_get all) (zero_more c) ∙ same 0, sits_numbered (c + 1) all xs (λ j. ap (slice_get all) (one_more c j) ∙ same (suc j)))
  where
    zero_more : (c : ℕ) → c ≡ c + 0
    zero_more c = omega arith

    one_more : (c k : ℕ) → c + 1 + k ≡ c + suc k
    one_more c k = omega arith

sits_put : (ops : List OpKind) (earlier : List Numbered) (b : Numbered) → Sits ops earlier → slice_get ops b.0 ≡ Some b.1 → Sits ops (put earlier b)
sits_put ops earlier b sits own = by_left (left_by b earlier) refl
  where
    by_left : (o : Option (List Numbered)) → left_by b earlier ≡ o → Sits ops (unwrap_or o (b ∷ earlier))
    by_left None h = (own, sits)
    by_left (Some xs) h =
        let l = left_is b earlier xs h in
        subst (Sits ops) (sym l.rest) (all_without (λ (e : Numbered). slice_get ops e.0 ≡ Some e.1) l.recent l.older l.a (subst (Sits ops) l.whole sits))

pub sits_swept : (ops : List OpKind) (k : ℕ) → k ≤ length ops → Sits ops (swept_to ops k)
sits_swept ops zero few = tt
sits_swept ops (suc k) few = by_there (slice_get ops k) refl (sits_swept ops k (omega (arith, few)))
  where
    by_there : (o : Option OpKind) → slice_get ops k ≡ o → Sits ops (swept_to ops k) → Sits ops (swept_to ops (suc k))
    by_there None h rest = absurd (past ops k h few)
      where
        past : (xs : List OpKind) (j : ℕ) → slice_get xs j ≡ None → suc j ≤ length xs → ⊥
        past [] j h few = omega (arith, few)
        past (x ∷ xs) zero h few = cc
        past (x ∷ xs) (suc j) h few = past xs j h (omega (arith, few))
    by_there (Some op) h rest = subst (Sits ops) (sym (swept_next ops k op h)) (sits_put ops (swept_to ops k) (k, op) rest h)

-- ---- one operation further

numbered_own : (ops : List OpKind) (k : ℕ) (op : OpKind) → slice_get ops k ≡ Some op → enumerate_from 0 (take (suc k) ops) ≡ enumerate_from 0 (take k ops) ++ (k, op) ∷ []
numbered_own ops k op is = numbered_more 0 ops k op is ∙ ap (λ (n : ℕ). enumerate_from 0 (take k ops) ++ (n, op) ∷ []) (zero_plus k)
  where
    zero_plus : (k : ℕ) → 0 + k ≡ k
    zero_plus k = omega arith

left_back : (b : Numbered) (earlier xs : List Numbered) (l : Cancels b earlier xs) → left_by b earlier ≡ Some xs
left_back b earlier xs l = ap (left_by b) l.whole ∙ cancels_some b l.a l.recent l.older l.undone l.apart ∙ ap (λ (t : List Numbered). Some t) (sym l.rest)

none_yet : (m : MachineData) → AreStacks m [] (replicate (count_of m 0) [])
none_yet m = record { long = Rattle.std.proofs.lemmas.List.length-replicate (count_of m 0) []; each = λ r at. filled [] (count_of m 0) (index_of m r) (index-within m 0 r at) }
  where
    filled : (e : List ℕ) (n i : ℕ) → i < n → slice_get (replicate n e) i ≡ Some e
    filled e zero i less = absurd (omega (arith, less))
    filled e (suc n) zero less = refl
    filled e (suc n) (suc i) less = filled e n i (omega (arith, less))

pub swept_first : (m : MachineData) (ops : List OpKind) → SweptTo m ops 0 (replicate (count_of m 0) []) []
swept_first m ops = record { on = none_yet m; long = refl; marked = refl }

numbered_long : {X : Type 0} (c k : ℕ) (xs : List X) → k ≤ length xs → length (enumerate_from c (take k xs)) ≡ k
numbered_long c zero xs few = refl
numbered_long c (suc k) [] few = absurd (omega (arith, few))
numbered_long c (suc k) (x ∷ xs) few = ap suc (numbered_long (c + 1) k xs (omega (arith, few)))

pub swept_stays : (m : MachineData) (n k : ℕ) (ops : List OpKind) (op : OpKind) (stacks : List (List ℕ)) (marks : List Bool) → slice_get ops k ≡ Some op → AllByRecursion (IsThere m n) (touches op) → SweptTo m ops k stacks marks
    → partner_of m ops stacks op ≡ None → SweptTo m ops (suc k) (pushed m k (touches op) stacks) (marks ++ false ∷ [])
swept_stays m n k ops op stacks marks is there so_far none =
    let few : k < length ops = slice_get_within ops k op is in
    let left : left_by (k, op) (swept_to ops k) ≡ None = partner_none m n k ops op (swept_to ops k) stacks there (sits_swept ops k (omega (arith, few))) so_far.on none in
    let next : swept_to ops (suc k) ≡ (k, op) ∷ swept_to ops k = swept_next ops k op is ∙ ap (λ (o : Option (List Numbered)). unwrap_or o ((k, op) ∷ swept_to ops k)) left in
    record {
      on = subst (λ (es : List Numbered). AreStacks m es (pushed m k (touches op) stacks)) (sym next) (stacks_pushed m n k op (swept_to ops k) stacks there so_far.on);
      long = omega (arith, length-append marks (false ∷ []), so_far.long);
      marked = ap (kept_in (marks ++ false ∷ [])) (numbered_own ops k op is)
          ∙ kept_more marks (enumerate_from 0 (take k ops)) false (k, op) (so_far.long ∙ sym (numbered_long 0 k ops (omega (arith, few))))
          ∙ ap (λ (l : List Numbered). l ++ (k, op) ∷ []) so_far.marked
          ∙ sym (ap reverse next ∙ reverse-append ((k, op) ∷ []) (swept_to ops k));
    }

pub swept_goes : (m : MachineData) (n k i : ℕ) (ops : List OpKind) (op : OpKind) (stacks : List (List ℕ)) (marks : List Bool) → slice_get ops k ≡ Some op → AllByRecursion (IsThere m n) (touches op) → SweptTo m ops k stacks marks
    → partner_of m ops stacks op ≡ Some i → SweptTo m ops (suc k) (popped m (touches op) stacks) (set marks i true ++ true ∷ [])
swept_goes m n k i ops op stacks marks is there so_far some =
    let few : k < length ops = slice_get_within ops k op is in
    let earlier : List Numbered = swept_to ops k in
    let found = partner_some m n k i ops op earlier stacks there (sits_swept ops k (omega (arith, few))) so_far.on some in
    let xs : List Numbered = found.0 in
    let l = found.1 in
    let left : left_by (k, op) earlier ≡ Some xs = left_back (k, op) earlier xs l in
    let next : swept_to ops (suc k) ≡ xs = swept_next ops k op is ∙ ap (λ (o : Option (List Numbered)). unwrap_or o ((k, op) ∷ earlier)) left in
    let long' : length (set marks i true) ≡ k = length-set marks i true ∙ so_far.long in
    let was : kept_in marks (enumerate_from 0 (take k ops)) ≡ reverse l.older ++ l.a ∷ reverse l.recent =
    so_far.marked ∙ sym (append-nil (reverse earlier)) ∙ seen_whole (k, op) earlier xs [] l ∙ ap (λ (t : List Numbered). reverse l.older ++ l.a ∷ t) (append-nil (reverse l.recent)) in
    let now : kept_in (set marks i true) (enumerate_from 0 (take k ops)) ≡ reverse l.older ++ reverse l.recent = marked_one 0 (take k ops) marks (reverse l.older) (reverse l.recent) l.a i (found.2 ∙ plus_zero i) was in
    record {
      on = subst (λ (es : List Numbered). AreStacks m es (popped m (touches op) stacks)) (sym next) (stacks_popped m n (k, op) earlier xs stacks there l so_far.on);
      long = omega (arith, length-append (set marks i true) (true ∷ []), long');
      marked = ap (kept_in (set marks i true ++ true ∷ [])) (numbered_own ops k op is)
          ∙ kept_more (set marks i true) (enumerate_from 0 (take k ops)) true (k, op) (long' ∙ sym (numbered_long 0 k ops (omega (arith, few))))
          ∙ append-nil (kept_in (set marks i true) (enumerate_from 0 (take k ops)))
          ∙ now
          ∙ sym (ap reverse next ∙ sym (append-nil (reverse xs)) ∙ seen_left (k, op) earlier xs [] l ∙ ap (λ (t : List Numbered). reverse l.older ++ t) (append-nil (reverse l.recent)));
    }
  where
    plus_zero : (i : ℕ) → i ≡ 0 + i
    plus_zero i = omega arith

pub swept_all : (m : MachineData) (ops : List OpKind) (k : ℕ) (stacks : List (List ℕ)) (marks : List Bool) → k ≡ length ops → SweptTo m ops k stacks marks → (kept_in marks (enumerate_from 0 ops) ≡ staying ops) × (length marks ≡ length ops)
swept_all m ops k stacks marks all so_far =
    let whole : take k ops ≡ ops = take_all k ops (omega (arith, all)) in
    (ap (λ (l : List OpKind). kept_in marks (enumerate_from 0 l)) (sym whole) ∙ so_far.marked ∙ ap (λ (l : List OpKind). reverse (swept [] (enumerate_from 0 l))) whole ∙ sym (staying_is ops), so_far.long ∙ all)

-- the same in one, as the code tells it
pub swept_one : (m : MachineData) (n k : ℕ) (ops : List OpKind) (op : OpKind) (stacks stacks' : List (List ℕ)) (marks marks' : List Bool)
    → ((j : ℕ) (o : OpKind) (r : Res) → slice_get ops j ≡ Some o → among (touches o) r ≡ true → IsThere m n r) → op ≡ get_or ops k op → k < length ops → SweptTo m ops k stacks marks
    → stacks' ≡ stacks_with m k op (partner_of m ops stacks op) stacks → marks' ≡ marks_with (partner_of m ops stacks op) marks → SweptTo m ops (k + 1) stacks' marks'
swept_one m n k ops op stacks stacks' marks marks' there is less so_far now marked =
    subst (λ (j : ℕ). SweptTo m ops j stacks' marks') (one_more k)
    (subst (λ (x : List (List ℕ)). SweptTo m ops (suc k) x marks') (sym now) (subst (SweptTo m ops (suc k) (stacks_with m k op (partner_of m ops stacks op) stacks)) (sym marked) (by_partner (partner_of m ops stacks op) refl)))
  where
    one_more : (k : ℕ) → suc k ≡ k + 1
    one_more k = omega arith

    own : slice_get ops k ≡ Some op
    own = read-of ops k op is less

    all : AllByRecursion (IsThere m n) (touches op)
    all = all-from_among (IsThere m n) (touches op) (λ r at. there k op r own at)

    by_partner : (o : Option ℕ) → partner_of m ops stacks op ≡ o → SweptTo m ops (suc k) (stacks_with m k op o stacks) (marks_with o marks)
    by_partner None h = swept_stays m n k ops op stacks marks own all so_far h
    by_partner (Some i) h = swept_goes m n k i ops op stacks marks own all so_far h

-- what is kept, by its operations
pub left_kinds : (c : ℕ) (marks : List Bool) (ops : List OpKind) → map (λ (e : Numbered). e.1) (kept_in marks (enumerate_from c ops)) ≡ left_in marks ops
left_kinds c [] ops = refl
left_kinds c (g ∷ marks) [] = refl
left_kinds c (true ∷ marks) (x ∷ ops) = left_kinds (c + 1) marks ops
left_kinds c (false ∷ marks) (x ∷ ops) = ap (λ (l : List OpKind). x ∷ l) (left_kinds (c + 1) marks ops)

-- what is left from one place on is its operation, where it does not go, and what is left behind it
pub left_next : (k : ℕ) (marks : List Bool) (ops : List OpKind) (op : OpKind) → op ≡ get_or ops k op → k < length ops
    → left_in (drop k marks) (drop k ops) ≡ kept_one (get_or marks k true) op ++ left_in (drop (suc k) marks) (drop (suc k) ops)
left_next k marks [] op is less = absurd (omega (arith, less))
left_next zero [] (x ∷ ops) op is less = refl
left_next zero (true ∷ marks) (x ∷ ops) op is less = refl
left_next zero (false ∷ marks) (x ∷ ops) op is less = ap (λ (y : OpKind). y ∷ left_in marks ops) (sym is)
left_next (suc k) [] (x ∷ ops) op is less = refl
left_next (suc k) (g ∷ marks) (x ∷ ops) op is less = left_next k marks ops op is (omega (arith, less))

-- the same for a loop over the operations
pub left_more : (k : ℕ) (marks : List Bool) (ops old new : List OpKind) (op : OpKind) (gone : Bool) → op ≡ get_or ops k op → k < length ops → gone ≡ get_or marks k true → new ≡ old ++ kept_one gone op
    → old ++ left_in (drop k marks) (drop k ops) ≡ left_in marks ops → new ++ left_in (drop (k + 1) marks) (drop (k + 1) ops) ≡ left_in marks ops
left_more k marks ops old new op gone is less mark now so_far =
    ap₂ (λ (l : List OpKind) (j : ℕ). l ++ left_in (drop j marks) (drop j ops)) (now ∙ ap (λ (b : Bool). old ++ kept_one b op) mark) (one_more k)
    ∙ append_assoc old (kept_one (get_or marks k true) op) (left_in (drop (suc k) marks) (drop (suc k) ops))
    ∙ ap (λ (l : List OpKind). old ++ l) (sym (left_next k marks ops op is less))
    ∙ so_far
  where
    one_more : (k : ℕ) → k + 1 ≡ suc k
    one_more k = omega arith

-- the program that the pass leaves
pub left_program : (p : ProgramData) (gone : List Bool) (ops : List OpKind) → ops ≡ left_in gone p.ops → kept_in gone (enumerate_from 0 p.ops) ≡ staying p.ops → ops ≡ (tidied p).ops
left_program p gone ops left stays = left ∙ sym (left_kinds 0 gone p.ops) ∙ ap kinds stays

pub parts_left : (p : ProgramData) (machine : MachineData) (qubits bits : ℕ) (mode : Option Mode) (start : List (List Ion)) (left ops : List OpKind) (gone marks : List Bool) → machine ≡ p.machine → qubits ≡ p.qubits → bits ≡ p.bits → mode ≡ p.mode → start ≡ p.start
    → left ≡ left_in marks ops → marks ≡ gone → ops ≡ p.ops → kept_in gone (enumerate_from 0 p.ops) ≡ staying p.ops → program_data machine qubits bits mode start left ≡ tidied p
parts_left p machine qubits bits mode start left ops gone marks m q b names s is same all stays = rw (m, q, b, names, s, now) refl
  where
    now : left ≡ (tidied p).ops
    now = left_program p gone left (is ∙ ap₂ left_in same all) stays

-- behind the last operation nothing is left
pub left_all : (k : ℕ) (marks : List Bool) (ops left : List OpKind) → length ops ≤ k → left ++ left_in (drop k marks) (drop k ops) ≡ left_in marks ops → left ≡ left_in marks ops
left_all k marks ops left past so_far =
    sym (append-nil left) ∙ sym (ap (λ (l : List OpKind). left ++ l) (ap (left_in (drop k marks)) (dropped k ops past) ∙ nothing (drop k marks))) ∙ so_far
  where
    nothing : (marks : List Bool) → left_in marks [] ≡ []
    nothing [] = refl
    nothing (g ∷ marks) = refl

    dropped : (k : ℕ) (ops : List OpKind) → length ops ≤ k → drop k ops ≡ []
    dropped zero [] past = refl
    dropped (suc k) [] past = refl
    dropped zero (x ∷ ops) past = absurd (omega (arith, past))
    dropped (suc k) (x ∷ ops) past = dropped k ops (omega (arith, past))
