-- How the links grow by those of one item.
use Rattle.std.proofs.Common.{◌≡◌, ℕ, suc, ◌+◌, ◌-◌, ◌<◌, ◌≤◌, ◌==◌, Bool, true, false, cond, eqb, ◌||◌, List, [], ◌∷◌, ◌++◌, length, get_or, take, drop, refl, sym, ◌∙◌, ap, arith, Option, Some, None, inl, inr, subst, length-append}
use Rattle.std.specs.Prelude.{slice_get, slice_range, count_by, replicate}
use Rattle.std.specs.Option.{IfSome}
use Rattle.std.proofs.Math.Bool.{or-false}
use Rattle.std.proofs.Math.ListN.{set}
use Rattle.std.proofs.lemmas.List.Sums.{count_by-le-length}
use Rattle.std.proofs.lemmas.List.FromFn.{length-range_with_len}
use Rattle.std.specs.List.{list_any, range_with_len, All}
use Rattle.std.proofs.lemmas.Bool.{cases_Bool, cases_eq, eqb-true, eq-eqb, ne_eqb, or_right, or_left}
use Rattle.std.proofs.lemmas.List.{length-drop, append_assoc, append-nil, length-set, length-replicate, get_or-replicate, get_or-set_same, get_or-set_other, take_all, take-append-le, drop-append-le, drop_at}
use Rattle.std.proofs.lemmas.List.Folds.{list_any_more}
use Rattle.std.proofs.lemmas.Option.{slice_get_within}
use Rattle.qccd_circuit.specs.Circuit.{IsWithin}
use Rattle.qccd_circuit.specs.Item.{ItemData}
use Rattle.qccd_circuit.specs.Operands.{operands_of, uses}
use Rattle.qccd_circuit.proofs.Shared.{operands_below}
use Rattle.qccd_circuit.proofs.Rising.{count_by-cons, times}
use Rattle.dep_graph.specs.Direct.{used_by, operands_in, is_first, directly_before}
use Rattle.dep_graph.specs.Graph.{links_of}
use Rattle.dep_graph.specs.Linking.{LinkingData, LinksFrom, HasEntries, is_some_at, linked_where, met}
use Rattle.dep_graph.proofs.DirectLemmas.{first-step, first-end, First, first_is, any_common}

pub LinksFrom-none : (items : List ItemData) (n : ℕ) → length items ≡ n
    → LinksFrom items n (record { links = []; ends = replicate (n + 1) 0; waits = replicate n 0; linked_by = replicate n 0; next = replicate 512 None })
LinksFrom-none items n all =
    let nothing : length items - n ≡ 0 = omega arith in
    record {
      linked = record {
        all_ends = length-replicate {A = ℕ} (n + 1) 0 ∙ omega arith;
        end_of_all = get_or-replicate {A = ℕ} (n + 1) n 0 0 (omega arith);
        ascending = λ i from within. absurd (omega arith);
        inside = λ i from within.
            let here : get_or (replicate (n + 1) 0) i 0 ≡ 0 = get_or-replicate {A = ℕ} (n + 1) i 0 0 (omega arith) in omega arith;
        behind = λ i j from within. absurd (omega arith);
      };
      counted = record {
        all_waits = length-replicate {A = ℕ} n 0 ∙ sym all;
        counts = λ j within. get_or-replicate {A = ℕ} n j 0 0 (omega arith) ∙ rw nothing refl;
      };
      all_next = length-replicate {A = Option ℕ} 512 None;
      firsts = λ o j small.
          ap (λ (x : Option ℕ). is_some_at x j) (get_or-replicate {A = Option ℕ} 512 o None None small)
          ∙ sym (subst (λ (x : ℕ). is_first items x o j ≡ false) all (first-end items o j));
      all_linked_by = length-replicate {A = ℕ} n 0 ∙ sym all;
      later = λ j from within. absurd (omega arith);
    }

-- ---- one operand after another

-- whether item j is the first on one of these operands
abbrev pub reached : List (Option ℕ) → List ℕ → ℕ → Bool
reached next os j = list_any (λ o. is_some_at (get_or next o None) j) os

-- of an item its first k operands are met: the links that are new, and what else changed
pub record Partly (n : ℕ) (os : List ℕ) (i : ℕ) (old now : LinkingData) (k : ℕ) : Type 0 where
  pub new : List ℕ
  pub links : now.links ≡ old.links ++ new
  pub ends : now.ends ≡ old.ends
  pub all_waits : length now.waits ≡ n
  pub all_linked_by : length now.linked_by ≡ n
  pub all_next : length now.next ≡ 512
  pub next : (o : ℕ) → o < 512 → get_or now.next o None ≡ cond (list_any (λ m. m == o) (take k os)) (Some i) (get_or old.next o None)
  pub once : (j : ℕ) → times j new ≡ cond (reached old.next (take k os) j) 1 0
  pub waits : (j : ℕ) → j < n → get_or now.waits j 0 ≡ get_or old.waits j 0 + times j new
  pub linked_by : (j : ℕ) → i ≤ j → j < n → eqb (get_or now.linked_by j 0) i ≡ (eqb j i || reached old.next (take k os) j)
  pub later : (j : ℕ) → i ≤ j → j < n → i ≤ get_or now.linked_by j 0

pub Partly-start : (n : ℕ) (os : List ℕ) (i : ℕ) (items : List ItemData) (old : LinkingData) → length items ≡ n → i < n → LinksFrom items (i + 1) old
    → Partly n os i old (record old { linked_by = set old.linked_by i i }) 0
Partly-start n os i items old all within made = record {
  new = [];
  links = sym (append-nil old.links);
  ends = refl;
  all_waits = made.counted.all_waits ∙ all;
  all_linked_by = length-set old.linked_by i i ∙ made.all_linked_by ∙ all;
  all_next = made.all_next;
  next = λ o small. refl;
  once = λ j. refl;
  waits = λ j small. omega arith;
  linked_by = λ j from small. elim (cases_eq i j) [
    | inl same ↦
        let here : get_or (set old.linked_by i i) j 0 ≡ i = subst (λ (x : ℕ). get_or (set old.linked_by i i) x 0 ≡ i) same (get_or-set_same old.linked_by i i 0 (omega (arith, made.all_linked_by))) in
        rw (eq-eqb (get_or (set old.linked_by i i) j 0) i here, eq-eqb j i (sym same)) refl
    | inr apart ↦
        let here : get_or (set old.linked_by i i) j 0 ≡ get_or old.linked_by j 0 = get_or-set_other old.linked_by i j i 0 (λ e. apart (sym e)) in
        let low : i + 1 ≤ get_or old.linked_by j 0 = made.later j (omega arith) (omega arith) in
        rw (ne_eqb (get_or (set old.linked_by i i) j 0) i (λ e. absurd (omega arith)), ne_eqb j i (λ e. apart (sym e))) refl
  ];
  later = λ j from small. elim (cases_eq i j) [
    | inl same ↦
        let here : get_or (set old.linked_by i i) j 0 ≡ i = subst (λ (x : ℕ). get_or (set old.linked_by i i) x 0 ≡ i) same (get_or-set_same old.linked_by i i 0 (omega (arith, made.all_linked_by))) in
        omega arith
    | inr apart ↦
        let here : get_or (set old.linked_by i i) j 0 ≡ get_or old.linked_by j 0 = get_or-set_other old.linked_by i j i 0 (λ e. apart (sym e)) in
        let low : i + 1 ≤ get_or old.linked_by j 0 = made.later j (omega arith) (omega arith) in
        omega arith
  ];
}

or_same : (b c : Bool) → (c ≡ true → b ≡ true) → (b || c) ≡ b
or_same true c h = refl
or_same false true h = sym (h refl)
or_same false false h = refl

or_nothing : (b c : Bool) → c ≡ false → (b || c) ≡ b
or_nothing b c is = rw is (or-false b)

-- the operand's place in the table after it is met
next_more : (next now : List (Option ℕ)) (os : List ℕ) (i k o : ℕ) → length now ≡ 512 → k < length os → o ≡ get_or os k 0 → o < 512
    → ((x : ℕ) → x < 512 → get_or now x None ≡ cond (list_any (λ m. m == x) (take k os)) (Some i) (get_or next x None))
    → (x : ℕ) → x < 512 → get_or (set now o (Some i)) x None ≡ cond (list_any (λ m. m == x) (take (k + 1) os)) (Some i) (get_or next x None)
next_more next now os i k o all within is low before x small =
    let more : list_any (λ m. m == x) (take (k + 1) os) ≡ (list_any (λ m. m == x) (take k os) || eqb o x) =
    list_any_more (λ m. m == x) os k 0 within ∙ ap (λ (y : ℕ). list_any (λ m. m == x) (take k os) || eqb y x) (sym is) in
    elim (cases_eq o x) [
      | inl same ↦
          let here : get_or (set now o (Some i)) x None ≡ Some i = subst (λ (y : ℕ). get_or (set now o (Some i)) y None ≡ Some i) same (get_or-set_same now o (Some i) None (omega arith)) in
          let among : list_any (λ m. m == x) (take (k + 1) os) ≡ true = more ∙ or_right (list_any (λ m. m == x) (take k os)) (eqb o x) (eq-eqb o x same) in
          rw among here
      | inr apart ↦
          let among : list_any (λ m. m == x) (take (k + 1) os) ≡ list_any (λ m. m == x) (take k os) = more ∙ or_nothing (list_any (λ m. m == x) (take k os)) (eqb o x) (ne_eqb o x apart) in
          rw among (get_or-set_other now o x (Some i) None (λ e. apart (sym e)) ∙ before x small)
    ]

reached_more : (next : List (Option ℕ)) (os : List ℕ) (k o j : ℕ) → k < length os → o ≡ get_or os k 0 → reached next (take (k + 1) os) j ≡ (reached next (take k os) j || is_some_at (get_or next o None) j)
reached_more next os k o j within is =
    list_any_more (λ x. is_some_at (get_or next x None) j) os k 0 within ∙ ap (λ (y : ℕ). reached next (take k os) j || is_some_at (get_or next y None) j) (sym is)

-- an operand that is met again, or on which no later item is, changes nothing but the table
Partly-same : (n : ℕ) (os : List ℕ) (i : ℕ) (old now : LinkingData) (k o : ℕ) → Partly n os i old now k → k < length os → o ≡ get_or os k 0 → o < 512
    → ((j : ℕ) → reached old.next (take (k + 1) os) j ≡ reached old.next (take k os) j)
    → Partly n os i old (record now { next = set now.next o (Some i) }) (k + 1)
Partly-same n os i old now k o part within is small same = record {
  new = part.new;
  links = part.links;
  ends = part.ends;
  all_waits = part.all_waits;
  all_linked_by = part.all_linked_by;
  all_next = length-set now.next o (Some i) ∙ part.all_next;
  next = next_more old.next now.next os i k o part.all_next within is small part.next;
  once = λ j. part.once j ∙ ap (λ (b : Bool). cond {A = ℕ} b 1 0) (sym (same j));
  waits = part.waits;
  linked_by = λ j from low. part.linked_by j from low ∙ ap (λ (b : Bool). eqb j i || b) (sym (same j));
  later = part.later;
}

-- a later item that was not linked yet
Partly-new : (n : ℕ) (os : List ℕ) (i : ℕ) (old now : LinkingData) (k o later : ℕ) → Partly n os i old now k → k < length os → o ≡ get_or os k 0 → o < 512
    → get_or old.next o None ≡ Some later → i < later → later < n → reached old.next (take k os) later ≡ false
    → Partly n os i old (record now {
      links = now.links ++ later ∷ [];
      waits = set now.waits later (get_or now.waits later 0 + 1);
      linked_by = set now.linked_by later i;
      next = set now.next o (Some i);
    }) (k + 1)
Partly-new n os i old now k o later part within is small first less high not_yet = record {
  new = part.new ++ later ∷ [];
  links = ap (λ (xs : List ℕ). xs ++ later ∷ []) part.links ∙ append_assoc old.links part.new (later ∷ []);
  ends = part.ends;
  all_waits = length-set now.waits later (get_or now.waits later 0 + 1) ∙ part.all_waits;
  all_linked_by = length-set now.linked_by later i ∙ part.all_linked_by;
  all_next = length-set now.next o (Some i) ∙ part.all_next;
  next = next_more old.next now.next os i k o part.all_next within is small part.next;
  once = λ j. elim (cases_eq later j) [
    | inl same ↦
        let none : times j part.new ≡ 0 = part.once j ∙ ap (λ (b : Bool). cond {A = ℕ} b 1 0) (subst (λ (x : ℕ). reached old.next (take k os) x ≡ false) same not_yet) in
        let now' : reached old.next (take (k + 1) os) j ≡ true = all j ∙ or_right (reached old.next (take k os) j) (eqb later j) (eq-eqb later j same) in
        rw now' (omega (arith, none, count_push j part.new later, ap (λ (b : Bool). cond {A = ℕ} b 1 0) (eq-eqb later j same)))
    | inr apart ↦
        let now' : reached old.next (take (k + 1) os) j ≡ reached old.next (take k os) j = all j ∙ or_nothing (reached old.next (take k os) j) (eqb later j) (ne_eqb later j apart) in
        rw now' (omega (arith, part.once j, count_push j part.new later, ap (λ (b : Bool). cond {A = ℕ} b 1 0) (ne_eqb later j apart)))
  ];
  waits = λ j low. elim (cases_eq later j) [
    | inl same ↦
        let here : get_or (set now.waits later (get_or now.waits later 0 + 1)) j 0 ≡ get_or now.waits later 0 + 1 =
        subst (λ (x : ℕ). get_or (set now.waits later (get_or now.waits later 0 + 1)) x 0 ≡ get_or now.waits later 0 + 1) same (get_or-set_same now.waits later (get_or now.waits later 0 + 1) 0 (omega (arith, part.all_waits))) in
        let before : get_or now.waits later 0 ≡ get_or now.waits j 0 = ap (λ (x : ℕ). get_or now.waits x 0) same in
        omega (arith, here, before, part.waits j low, count_push j part.new later, ap (λ (b : Bool). cond {A = ℕ} b 1 0) (eq-eqb later j same))
    | inr apart ↦
        let here : get_or (set now.waits later (get_or now.waits later 0 + 1)) j 0 ≡ get_or now.waits j 0 = get_or-set_other now.waits later j (get_or now.waits later 0 + 1) 0 (λ e. apart (sym e)) in
        omega (arith, here, part.waits j low, count_push j part.new later, ap (λ (b : Bool). cond {A = ℕ} b 1 0) (ne_eqb later j apart))
  ];
  linked_by = λ j from low. elim (cases_eq later j) [
    | inl same ↦
        let here : get_or (set now.linked_by later i) j 0 ≡ i = subst (λ (x : ℕ). get_or (set now.linked_by later i) x 0 ≡ i) same (get_or-set_same now.linked_by later i 0 (omega (arith, part.all_linked_by))) in
        let now' : reached old.next (take (k + 1) os) j ≡ true = all j ∙ or_right (reached old.next (take k os) j) (eqb later j) (eq-eqb later j same) in
        eq-eqb (get_or (set now.linked_by later i) j 0) i here ∙ sym (or_right (eqb j i) (reached old.next (take (k + 1) os) j) now')
    | inr apart ↦
        let here : get_or (set now.linked_by later i) j 0 ≡ get_or now.linked_by j 0 = get_or-set_other now.linked_by later j i 0 (λ e. apart (sym e)) in
        let now' : reached old.next (take (k + 1) os) j ≡ reached old.next (take k os) j = all j ∙ or_nothing (reached old.next (take k os) j) (eqb later j) (ne_eqb later j apart) in
        rw (here, now') (part.linked_by j from low)
  ];
  later = λ j from low. elim (cases_eq later j) [
    | inl same ↦
        let here : get_or (set now.linked_by later i) j 0 ≡ i = subst (λ (x : ℕ). get_or (set now.linked_by later i) x 0 ≡ i) same (get_or-set_same now.linked_by later i 0 (omega (arith, part.all_linked_by))) in
        omega arith
    | inr apart ↦
        let here : get_or (set now.linked_by later i) j 0 ≡ get_or now.linked_by j 0 = get_or-set_other now.linked_by later j i 0 (λ e. apart (sym e)) in
        omega (arith, here, part.later j from low)
  ];
}
  where
    all : (j : ℕ) → reached old.next (take (k + 1) os) j ≡ (reached old.next (take k os) j || eqb later j)
    all j = reached_more old.next os k o j within is ∙ ap (λ (x : Option ℕ). reached old.next (take k os) j || is_some_at x j) first

    count_push : (j : ℕ) (xs : List ℕ) (x : ℕ) → times j (xs ++ x ∷ []) ≡ times j xs + cond (eqb x j) 1 0
    count_push j [] x = omega (arith, count_by-cons (λ m. m == j) x [])
    count_push j (y ∷ xs) x = omega (arith, count_push j xs x, count_by-cons (λ m. m == j) y (xs ++ x ∷ []), count_by-cons (λ m. m == j) y xs)

any_there : (p : ℕ → Bool) (xs : List ℕ) (o : ℕ) → list_any (λ n. n == o) xs ≡ true → p o ≡ true → list_any p xs ≡ true
any_there p xs o has passes = any_common p xs o has passes

-- what is first on an operand that is not met yet, is a later item
pub later_is : (items : List ItemData) (i : ℕ) (old : LinkingData) → LinksFrom items (i + 1) old → (o later : ℕ) → o < 512 → get_or old.next o None ≡ Some later → First items (i + 1) o later
later_is items i old made o later small first =
    first_is items (i + 1) o later (sym (made.firsts o later small) ∙ ap (λ (x : Option ℕ). is_some_at x later) first ∙ eq-eqb later later refl)

pub Partly-next : (items : List ItemData) (n : ℕ) (os : List ℕ) (i : ℕ) (old now : LinkingData) (k o : ℕ) → length items ≡ n → i < n → LinksFrom items (i + 1) old
    → Partly n os i old now k → k < length os → o ≡ get_or os k 0 → o < 512 → Partly n os i old (met now o i) (k + 1)
Partly-next items n os i old now k o all low made part within is small = elim (cases_Bool (list_any (λ m. m == o) (take k os))) [
  | inl again ↦
      let own : get_or now.next o None ≡ Some i = part.next o small ∙ rw again refl in
      let linked : eqb (get_or now.linked_by i 0) i ≡ true = part.linked_by i (omega arith) low ∙ or_left (eqb i i) (reached old.next (take k os) i) (eq-eqb i i refl) in
      rw (own, linked) (Partly-same n os i old now k o part within is small (λ j. reached_more old.next os k o j within is
      ∙ or_same (reached old.next (take k os) j) (is_some_at (get_or old.next o None) j) (any_there (λ x. is_some_at (get_or old.next x None) j) (take k os) o again)))
  | inr fresh ↦
      let first : get_or now.next o None ≡ get_or old.next o None = part.next o small ∙ rw fresh refl in
      rw first (either (get_or old.next o None) refl)
]
  where
    either : (v : Option ℕ) → get_or old.next o None ≡ v → Partly n os i old (linked_where (record now { next = set now.next o (Some i) }) v i) (k + 1)
    either None none = Partly-same n os i old now k o part within is small (λ j. reached_more old.next os k o j within is
        ∙ or_nothing (reached old.next (take k os) j) (is_some_at (get_or old.next o None) j) (ap (λ (x : Option ℕ). is_some_at x j) none))
    either (Some later) some =
        let found : First items (i + 1) o later = later_is items i old made o later small some in
        let known : eqb (get_or now.linked_by later 0) i ≡ reached old.next (take k os) later =
        part.linked_by later (omega (arith, found.low)) (omega (arith, found.within))
        ∙ ap (λ (b : Bool). b || reached old.next (take k os) later) (ne_eqb later i (λ e. absurd (omega (arith, found.low)))) in
        elim (cases_Bool (reached old.next (take k os) later)) [
          | inl yes' ↦ rw (known ∙ yes') (Partly-same n os i old now k o part within is small (λ j. reached_more old.next os k o j within is
              ∙ or_same (reached old.next (take k os) j) (is_some_at (get_or old.next o None) j) (λ there.
              let same : later ≡ j = eqb-true later j (sym (ap (λ (x : Option ℕ). is_some_at x j) some) ∙ there) in
              subst (λ (x : ℕ). reached old.next (take k os) x ≡ true) same yes')))
          | inr not_yet ↦ rw (known ∙ not_yet) (Partly-new n os i old now k o later part within is small some (omega (arith, found.low)) (omega (arith, found.within)) not_yet)
        ]

-- what the table has on an operand has its entries and no great count
pub Partly-entries : (items : List ItemData) (n : ℕ) (os : List ℕ) (i : ℕ) (old now : LinkingData) (k o : ℕ) → length items ≡ n → i < n → n ≤ 65536 → LinksFrom items (i + 1) old
    → Partly n os i old now k → o < 512 → IfSome (get_or now.next o None) (λ later. HasEntries now later)
Partly-entries items n os i old now k o all low few made part small = elim (cases_Bool (list_any (λ m. m == o) (take k os))) [
  | inl again ↦ let own : get_or now.next o None ≡ Some i = part.next o small ∙ rw again refl in rw own (place i low)
  | inr fresh ↦
      let first : get_or now.next o None ≡ get_or old.next o None = part.next o small ∙ rw fresh refl in
      rw first (either (get_or old.next o None) refl)
]
  where
    place : (later : ℕ) → later < n → HasEntries now later
    place later high = record {
      linked_by = omega (arith, part.all_linked_by);
      waits = omega (arith, part.all_waits);
      few =
          let count : get_or now.waits later 0 ≡ get_or old.waits later 0 + times later part.new = part.waits later high in
          let before : get_or old.waits later 0 ≤ length (range_with_len (i + 1) (length items - (i + 1))) =
          omega (arith, made.counted.counts later (omega arith), count_by-le-length (λ m. directly_before items m later) (range_with_len (i + 1) (length items - (i + 1)))) in
          omega (arith, count, before, length-range_with_len (i + 1) (length items - (i + 1)), part.once later, at_most (reached old.next (take k os) later));
    }
      where
        at_most : (b : Bool) → cond {A = ℕ} b 1 0 ≤ 1
        at_most true = omega arith
        at_most false = omega arith

    either : (v : Option ℕ) → get_or old.next o None ≡ v → IfSome v (λ later. HasEntries now later)
    either None none = tt
    either (Some later) some = place later (omega (arith, (later_is items i old made o later small some).within))

-- ---- all operands

any_alike : (p q : ℕ → Bool) (os : List ℕ) → All (λ o. o < 512) os → ((o : ℕ) → o < 512 → p o ≡ q o) → list_any p os ≡ list_any q os
any_alike p q [] all same = refl
any_alike p q (o ∷ os) all same =
    let here : p o ≡ q o = same o (all 0 0 (omega arith)) in
    rw (here, any_alike p q os (λ k d h. all (suc k) d (omega arith)) same) refl

slice_before : (xs ys : List ℕ) (a b : ℕ) → a ≤ b → b ≤ length xs → slice_range (xs ++ ys) a b ≡ slice_range xs a b
slice_before xs ys a b order inside =
    ap (λ (zs : List ℕ). take (b - a) zs) (drop-append-le a xs ys (omega arith))
    ∙ take-append-le (b - a) (drop a xs) ys (omega (arith, length-drop a xs))

slice_behind : (xs ys : List ℕ) → slice_range (xs ++ ys) (length xs) (length (xs ++ ys)) ≡ ys
slice_behind xs ys =
    ap (λ (zs : List ℕ). take (length (xs ++ ys) - length xs) zs) (drop_at xs ys (length xs) refl)
    ∙ take_all (length (xs ++ ys) - length xs) ys (omega (arith, length-append xs ys))

pub LinksFrom-next : (items : List ItemData) (i : ℕ) (d : ItemData) (old now : LinkingData) (k : ℕ) → slice_get items i ≡ Some d → IsWithin 256 256 d → LinksFrom items (i + 1) old
    → Partly (length items) (operands_of d) i old now k → length (operands_of d) ≤ k → LinksFrom items i (record now { ends = set now.ends i (length now.links) })
LinksFrom-next items i d old now k there within made part past = record {
  linked = record {
    all_ends = length-set now.ends i (length now.links) ∙ ap (λ (xs : List ℕ). length xs) part.ends ∙ made.linked.all_ends;
    end_of_all = own_end;
    ascending = λ j from high. elim (cases_eq i j) [
      | inl same ↦ subst (λ (x : ℕ). get_or ends (x + 1) 0 ≤ get_or ends x 0) same (omega (arith, own_end, other_end (i + 1) (omega arith), made.linked.end_of_all, length_links))
      | inr apart ↦ omega (arith, other_end (j + 1) (omega arith), other_end j (omega arith), made.linked.ascending j (omega arith) high)
    ];
    inside = λ j from high. elim (cases_eq i j) [
      | inl same ↦ subst (λ (x : ℕ). get_or ends x 0 ≤ length now.links) same (omega (arith, own_end))
      | inr apart ↦ omega (arith, other_end j (omega arith), made.linked.inside j (omega arith) high, length_links)
    ];
    behind = λ j later from high. elim (cases_eq i j) [
      | inl same ↦ subst (λ (x : ℕ). times later (links_of now.links ends x) ≡ cond (directly_before items x later) 1 0) same (own_behind later)
      | inr apart ↦
          let first : get_or ends (j + 1) 0 ≡ get_or old.ends (j + 1) 0 = other_end (j + 1) (omega arith) in
          let last : get_or ends j 0 ≡ get_or old.ends j 0 = other_end j (omega arith) in
          let same : links_of now.links ends j ≡ links_of old.links old.ends j =
          rw (first, last, part.links) (slice_before old.links part.new (get_or old.ends (j + 1) 0) (get_or old.ends j 0) (made.linked.ascending j (omega arith) high) (made.linked.inside j (omega arith) (omega arith))) in
          ap (λ (xs : List ℕ). times later xs) same ∙ made.linked.behind j later (omega arith) high
    ];
  };
  counted = record {
    all_waits = part.all_waits;
    counts = λ j high.
        let more : length items - i ≡ suc (length items - (i + 1)) = omega (arith, low) in
        let split : count_by (λ m. directly_before items m j) (range_with_len i (length items - i)) ≡ cond (directly_before items i j) 1 0 + count_by (λ m. directly_before items m j) (range_with_len (i + 1) (length items - (i + 1))) =
        ap (λ m. count_by (λ x. directly_before items x j) (range_with_len i m)) more ∙ count_by-cons (λ m. directly_before items m j) i (range_with_len (i + 1) (length items - (i + 1))) in
        omega (arith, split, part.waits j high, made.counted.counts j high, part.once j, ap (λ (b : Bool). cond {A = ℕ} b 1 0) (all_reached j));
  };
  all_next = part.all_next;
  firsts = λ o j small.
      ap (λ (x : Option ℕ). is_some_at x j) (part.next o small ∙ ap (λ (os : List ℕ). cond (list_any (λ m. m == o) os) (Some i) (get_or old.next o None)) whole)
      ∙ by_use o j (uses d o) (made.firsts o j small)
      ∙ sym (first-step items i o j ∙ ap (λ (x : Option ItemData). cond (used_by x o) (eqb i j) (is_first items (i + 1) o j)) there);
  all_linked_by = part.all_linked_by;
  later = part.later;
}
  where
    ends : List ℕ
    ends = set now.ends i (length now.links)

    low : i < length items
    low = slice_get_within items i d there

    whole : take k (operands_of d) ≡ operands_of d
    whole = take_all k (operands_of d) past

    length_links : length now.links ≡ length old.links + length part.new
    length_links = ap (λ (xs : List ℕ). length xs) part.links ∙ length-append old.links part.new

    all_ends : length now.ends ≡ length items + 1
    all_ends = ap (λ (xs : List ℕ). length xs) part.ends ∙ made.linked.all_ends

    own_end : get_or (set now.ends i (length now.links)) i 0 ≡ length now.links
    own_end = get_or-set_same now.ends i (length now.links) 0 (omega (arith, all_ends, low))

    other_end : (j : ℕ) → i < j → get_or (set now.ends i (length now.links)) j 0 ≡ get_or old.ends j 0
    other_end j less = get_or-set_other now.ends i j (length now.links) 0 (λ e. absurd (omega arith)) ∙ ap (λ (xs : List ℕ). get_or xs j 0) part.ends

    by_use : (o j : ℕ) (b : Bool) → is_some_at (get_or old.next o None) j ≡ is_first items (i + 1) o j → is_some_at (cond b (Some i) (get_or old.next o None)) j ≡ cond b (eqb i j) (is_first items (i + 1) o j)
    by_use o j true is = refl
    by_use o j false is = is

    all_reached : (j : ℕ) → reached old.next (take k (operands_of d)) j ≡ directly_before items i j
    all_reached j =
        ap (λ (os : List ℕ). reached old.next os j) whole
        ∙ any_alike (λ o. is_some_at (get_or old.next o None) j) (λ o. is_first items (i + 1) o j) (operands_of d) (operands_below d within) (λ o small. made.firsts o j small)
        ∙ sym (ap (λ (x : Option ItemData). list_any (λ o. is_first items (i + 1) o j) (operands_in x)) there)

    own_behind : (j : ℕ) → times j (links_of now.links (set now.ends i (length now.links)) i) ≡ cond (directly_before items i j) 1 0
    own_behind j =
        let first : get_or (set now.ends i (length now.links)) (i + 1) 0 ≡ length old.links = other_end (i + 1) (omega arith) ∙ made.linked.end_of_all in
        let size : length now.links ≡ length (old.links ++ part.new) = ap (λ (xs : List ℕ). length xs) part.links in
        let block : links_of now.links (set now.ends i (length now.links)) i ≡ part.new =
        rw (first, own_end, size, part.links) (slice_behind old.links part.new) in
        ap (λ (xs : List ℕ). times j xs) block ∙ part.once j ∙ ap (λ (b : Bool). cond {A = ℕ} b 1 0) (all_reached j)
