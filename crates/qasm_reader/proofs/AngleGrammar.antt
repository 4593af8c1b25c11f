-- Going from angle_state to angle_state accepts exactly the angles.
use Rattle.std.proofs.Common.{◌≡◌, ℕ, zero, suc, ◌+◌, ◌==◌, Bool, true, false, ◌&&◌, ◌||◌, ◌⊎◌, inl, inr, List, [], ◌∷◌, ◌++◌, codes, Option, Some, None, refl, sym, ap, subst, ◌∙◌, arith}
use Rattle.std.specs.Prelude.{if◌then◌else◌}
use Rattle.std.specs.Str.{bytes_eq}
use Rattle.std.proofs.lemmas.Bool.{false≢true, eqb-true}
use Rattle.std.proofs.lemmas.List.{append_assoc}
use Rattle.std.proofs.lemmas.Slice.Eq.{bytes_eq-Decides}
use Rattle.qasm_lex.specs.declared.tokens.TokenKind.TheVariants as token
use Rattle.qasm_reader.specs.declared.angle.Phase.{Phase}
use Rattle.qasm_reader.specs.declared.angle.Phase.TheVariants.{Part, Paren, Whole}
use Rattle.qasm_reader.specs.declared.angle.AngleState.{AngleState}
use Rattle.qasm_reader.specs.Lexeme.{Lexeme, is, rank, is_function}
use Rattle.qasm_reader.specs.Angle.{angle_state, angle_step, is_constant, is_function_word, is_operator, closes, Shape, angle, tail, IsAngle, minus, constant, parens, function, nothing, operator}
use Rattle.qasm_reader.specs.Expected.{is_whole_angle}

abbrev pub then_run : Option AngleState → (AngleState → Option AngleState) → Option AngleState
then_run o go = elim o as (λ _. Option AngleState) [ None ↦ None | Some s ↦ go s ]

-- the angle_state behind tokens
abbrev pub run : AngleState → List Lexeme → Option AngleState
run s [] = Some s
run s (l ∷ ls) = then_run (angle_step s l) (λ n. run n ls)

-- the steps by the numbers of the kinds
abbrev part_of : ℕ → List ℕ → ℕ → Option AngleState
part_of n bytes d =
    if n == 13 then Some (angle_state Part d)
    else (if n == 1 || (n == 2 || (n == 0 && bytes_eq bytes (codes "pi"))) then Some (angle_state Whole d)
    else (if n == 6 then Some (angle_state Part (d + 1))
    else (if n == 0 && is_function bytes then Some (angle_state Paren d) else None)))

abbrev whole_of : ℕ → ℕ → Option AngleState
whole_of n zero = if n == 12 || (n == 13 || (n == 14 || (n == 15 || n == 16))) then Some (angle_state Part 0) else None
whole_of n (suc d) = if n == 12 || (n == 13 || (n == 14 || (n == 15 || n == 16))) then Some (angle_state Part (suc d)) else (if n == 7 then Some (angle_state Whole d) else None)

number_is : (l : Lexeme) (n : ℕ) → (rank l.kind == n) ≡ true → rank l.kind ≡ n
number_is l n this = eqb-true (rank l.kind) n this

step_minus : (d : ℕ) (l : Lexeme) → is token.Minus l ≡ true → angle_step (angle_state Part d) l ≡ Some (angle_state Part d)
step_minus d l this = ap (λ (n : ℕ). part_of n l.bytes d) (number_is l 13 this)

step_paren : (d : ℕ) (l : Lexeme) → is token.LParen l ≡ true → angle_step (angle_state Part d) l ≡ Some (angle_state Part (d + 1))
step_paren d l this = ap (λ (n : ℕ). part_of n l.bytes d) (number_is l 6 this)

or_is : (a b : Bool) → a || b ≡ true → (a ≡ true) ⊎ (b ≡ true)
or_is true b this = inl refl
or_is false b this = inr this

and_is : (a b : Bool) → a && b ≡ true → (a ≡ true) × (b ≡ true)
and_is true b this = (refl, this)
and_is false b this = absurd (false≢true this)

step_constant : (d : ℕ) (l : Lexeme) → is_constant l ≡ true → angle_step (angle_state Part d) l ≡ Some (angle_state Whole d)
step_constant d l this = by_int (or_is (is token.Int l) _ this)
  where
    by_word : (rank l.kind == 0) && bytes_eq l.bytes (codes "pi") ≡ true → angle_step (angle_state Part d) l ≡ Some (angle_state Whole d)
    by_word pi =
        let parts = and_is (rank l.kind == 0) (bytes_eq l.bytes (codes "pi")) pi in
        ap (λ (n : ℕ). part_of n l.bytes d) (number_is l 0 parts.0)
        ∙ ap (λ (b : Bool). if b then Some (angle_state Whole d) else (if is_function l.bytes then Some (angle_state Paren d) else None)) parts.1

    by_real : (is token.Real l ≡ true) ⊎ ((rank l.kind == 0) && bytes_eq l.bytes (codes "pi") ≡ true) → angle_step (angle_state Part d) l ≡ Some (angle_state Whole d)
    by_real (inl real) = ap (λ (n : ℕ). part_of n l.bytes d) (number_is l 2 real)
    by_real (inr pi) = by_word pi

    by_int : (is token.Int l ≡ true) ⊎ (is token.Real l || ((rank l.kind == 0) && bytes_eq l.bytes (codes "pi")) ≡ true) → angle_step (angle_state Part d) l ≡ Some (angle_state Whole d)
    by_int (inl int) = ap (λ (n : ℕ). part_of n l.bytes d) (number_is l 1 int)
    by_int (inr other) = by_real (or_is (is token.Real l) _ other)

not_pi : (bytes : List ℕ) (b : Bool) → bytes_eq bytes (codes "pi") ≡ b → is_function bytes ≡ true → b ≡ false
not_pi bytes false this function_is = refl
not_pi bytes true this function_is = absurd (false≢true (sym (ap is_function ((bytes_eq-Decides bytes (codes "pi")).0 this)) ∙ function_is))

step_function : (d : ℕ) (l : Lexeme) → is_function_word l ≡ true → angle_step (angle_state Part d) l ≡ Some (angle_state Paren d)
step_function d l this =
    let parts = and_is (is token.Word l) (is_function l.bytes) this in
    ap (λ (n : ℕ). part_of n l.bytes d) (number_is l 0 parts.0)
    ∙ ap (λ (b : Bool). if b then Some (angle_state Whole d) else (if is_function l.bytes then Some (angle_state Paren d) else None)) (not_pi l.bytes (bytes_eq l.bytes (codes "pi")) refl parts.1)
    ∙ ap (λ (b : Bool). if b then Some (angle_state Paren d) else None) parts.1

step_open : (d : ℕ) (l : Lexeme) → is token.LParen l ≡ true → angle_step (angle_state Paren d) l ≡ Some (angle_state Part (d + 1))
step_open d l this = ap (λ (b : Bool). if b then Some (angle_state Part (d + 1)) else None) this

step_close : (d : ℕ) (l : Lexeme) → is token.RParen l ≡ true → angle_step (angle_state Whole (suc d)) l ≡ Some (angle_state Whole d)
step_close d l this = ap (λ (n : ℕ). whole_of n (suc d)) (number_is l 7 this)

step_operator : (d : ℕ) (l : Lexeme) → is_operator l ≡ true → angle_step (angle_state Whole d) l ≡ Some (angle_state Part d)
step_operator d l this = ap (λ (b : Bool). if b then Some (angle_state Part d) else closes d l) this

run_step : (s n : AngleState) (l : Lexeme) (ls : List Lexeme) → angle_step s l ≡ Some n → run s (l ∷ ls) ≡ run n ls
run_step s n l ls this = ap (λ (o : Option AngleState). then_run o (λ m. run m ls)) this

abbrev begin_of : Shape → Phase
begin_of angle = Part
begin_of tail = Whole

one_more : (d : ℕ) (s : AngleState) (ls : List Lexeme) → run (angle_state Part (d + 1)) ls ≡ run (angle_state Part (suc d)) ls
one_more d s ls = ap (λ (n : ℕ). run (angle_state Part n) ls) (omega arith)

-- an angle is gone through, at each depth
pub accepted : (shape : Shape) (ls rest : List Lexeme) (d : ℕ) → IsAngle shape ls → run (angle_state (begin_of shape) d) (ls ++ rest) ≡ run (angle_state Whole d) rest
accepted _ _ rest d (minus {a = a} m this more) = run_step (angle_state Part d) (angle_state Part d) m (a ++ rest) (step_minus d m this) ∙ accepted angle a rest d more
accepted _ _ rest d (constant {t = t} n this more) = run_step (angle_state Part d) (angle_state Whole d) n (t ++ rest) (step_constant d n this) ∙ accepted tail t rest d more
accepted _ _ rest d (parens {a = a} {t = t} o c open_is inner close_is more) =
    run_step (angle_state Part d) (angle_state Part (d + 1)) o ((a ++ c ∷ t) ++ rest) (step_paren d o open_is)
    ∙ ap (run (angle_state Part (d + 1))) (append_assoc a (c ∷ t) rest)
    ∙ ap (λ (n : ℕ). run (angle_state Part n) (a ++ (c ∷ (t ++ rest)))) (omega arith)
    ∙ accepted angle a (c ∷ (t ++ rest)) (suc d) inner
    ∙ run_step (angle_state Whole (suc d)) (angle_state Whole d) c (t ++ rest) (step_close d c close_is)
    ∙ accepted tail t rest d more
accepted _ _ rest d (function {a = a} {t = t} f o c function_is open_is inner close_is more) =
    run_step (angle_state Part d) (angle_state Paren d) f ((o ∷ (a ++ c ∷ t)) ++ rest) (step_function d f function_is)
    ∙ run_step (angle_state Paren d) (angle_state Part (d + 1)) o ((a ++ c ∷ t) ++ rest) (step_open d o open_is)
    ∙ ap (run (angle_state Part (d + 1))) (append_assoc a (c ∷ t) rest)
    ∙ ap (λ (n : ℕ). run (angle_state Part n) (a ++ (c ∷ (t ++ rest)))) (omega arith)
    ∙ accepted angle a (c ∷ (t ++ rest)) (suc d) inner
    ∙ run_step (angle_state Whole (suc d)) (angle_state Whole d) c (t ++ rest) (step_close d c close_is)
    ∙ accepted tail t rest d more
accepted _ _ rest d nothing = refl
accepted _ _ rest d (operator {a = a} o this more) = run_step (angle_state Whole d) (angle_state Part d) o (a ++ rest) (step_operator d o this) ∙ accepted angle a rest d more

-- ---- back

-- an angle, or its tail, with so many parentheses still to close behind it
pub data Closes : Shape → ℕ → List Lexeme → Type 0 where
  closed : {shape : Shape} {ls : List Lexeme} → IsAngle shape ls → Closes shape 0 ls
  still :
      {shape : Shape} {d : ℕ} {front rest : List Lexeme} (c : Lexeme) → IsAngle shape front → is token.RParen c ≡ true → Closes tail d rest
      → Closes shape (suc d) (front ++ c ∷ rest)

-- one token before what is closed
before :
    {from to : Shape} {d : ℕ} {ls : List Lexeme} (l : Lexeme) → ((front : List Lexeme) → IsAngle from front → IsAngle to (l ∷ front)) → Closes from d ls → Closes to d (l ∷ ls)
before l put (closed one) = closed (put _ one)
before l put (still {front = front} c one close_is more) = still {front = l ∷ front} c (put front one) close_is more

-- a part in parentheses, behind which so many are still to close
inside_tail : {d : ℕ} {rest : List Lexeme} (front head : List Lexeme) (c : Lexeme) → ((t : List Lexeme) → IsAngle tail t → IsAngle angle (head ++ (front ++ c ∷ t))) → Closes tail d rest → Closes angle d (head ++ (front ++ c ∷ rest))
inside_tail front head c put (closed one) = closed (put _ one)
inside_tail front head c put (still {d = d} {front = t} {rest = rest} e one close_is more) =
    subst (λ (ls : List Lexeme). Closes angle (suc d) ls)
    (append_assoc head (front ++ c ∷ t) (e ∷ rest) ∙ ap (λ (u : List Lexeme). head ++ u) (append_assoc front (c ∷ t) (e ∷ rest)))
    (still {front = head ++ (front ++ c ∷ t)} e (put t one) close_is more)

inside : {d : ℕ} {ls : List Lexeme} (head : List Lexeme) → ((a t : List Lexeme) (c : Lexeme) → IsAngle angle a → is token.RParen c ≡ true → IsAngle tail t → IsAngle angle (head ++ (a ++ c ∷ t)))
    → Closes angle (suc d) ls → Closes angle d (head ++ ls)
inside head put (still {front = front} c one close_is more) = inside_tail front head c (λ t tail_is. put front t c one close_is tail_is) more

abbrev Owes : Phase → ℕ → List Lexeme → Type 0
Owes Part d ls = Closes angle d ls
Owes Whole d ls = Closes tail d ls
Owes Paren d ls = (o : Lexeme) × (rest : List Lexeme) × (ls ≡ o ∷ rest) × (is token.LParen o ≡ true) × Closes angle (suc d) rest

none_some : (s : AngleState) (same : Rattle.std.specs.Prelude.◌≡◌ {A = Option AngleState} None (Some s)) → ⊥
none_some s same = cc

some_same : (s n : AngleState) (same : Rattle.std.specs.Prelude.◌≡◌ {A = Option AngleState} (Some s) (Some n)) → s ≡ n
some_same s n same = cc

end_owes : (p : Phase) (d : ℕ) → is_whole_angle (angle_state p d) ≡ true → Owes p d []
end_owes Part d whole_is = absurd (false≢true whole_is)
end_owes Paren d whole_is = absurd (false≢true whole_is)
end_owes Whole zero whole_is = closed nothing
end_owes Whole (suc d) whole_is = absurd (false≢true whole_is)

pub found : (ls : List Lexeme) (p : Phase) (d : ℕ) (n : AngleState) → run (angle_state p d) ls ≡ Some n → is_whole_angle n ≡ true → Owes p d ls
found [] p d n same whole_is = end_owes p d (ap is_whole_angle (some_same (angle_state p d) n same) ∙ whole_is)
found (l ∷ ls) Part d n same whole_is = by_minus (is token.Minus l) refl (λ p e more. found ls p e n more whole_is)
  where
    then_if : Bool → Bool → Bool → Bool → Option AngleState
    then_if a b c e = then_run (if a then Some (angle_state Part d) else (if b then Some (angle_state Whole d) else (if c then Some (angle_state Part (d + 1)) else (if e then Some (angle_state Paren d) else None)))) (λ m. run m ls)

    here : (a b c e : Bool) → is token.Minus l ≡ a → is_constant l ≡ b → is token.LParen l ≡ c → is_function_word l ≡ e → then_if a b c e ≡ Some n
    here a b c e is_a is_b is_c is_e =
        ap (λ (x : Bool). then_if x b c e) (sym is_a) ∙ ap (λ (x : Bool). then_if (is token.Minus l) x c e) (sym is_b)
        ∙ ap (λ (x : Bool). then_if (is token.Minus l) (is_constant l) x e) (sym is_c) ∙ ap (then_if (is token.Minus l) (is_constant l) (is token.LParen l)) (sym is_e) ∙ same

    by_function : (e : Bool) → is token.Minus l ≡ false → is_constant l ≡ false → is token.LParen l ≡ false → is_function_word l ≡ e
        → ((p : Phase) (e : ℕ) → run (angle_state p e) ls ≡ Some n → Owes p e ls) → Closes angle d (l ∷ ls)
    by_function true is_a is_b is_c is_e more =
        let rest = more Paren d (here false false false true is_a is_b is_c is_e) in
        subst (λ (t : List Lexeme). Closes angle d (l ∷ t)) (sym rest.2)
        (inside (l ∷ rest.0 ∷ []) (λ a t c inner close_is tail_is. function l rest.0 c is_e rest.3 inner close_is tail_is) rest.4)
    by_function false is_a is_b is_c is_e more = absurd (none_some n (here false false false false is_a is_b is_c is_e))

    by_paren : (c : Bool) → is token.Minus l ≡ false → is_constant l ≡ false → is token.LParen l ≡ c → ((p : Phase) (e : ℕ) → run (angle_state p e) ls ≡ Some n → Owes p e ls) → Closes angle d (l ∷ ls)
    by_paren true is_a is_b is_c more =
        inside (l ∷ []) (λ a t c inner close_is tail_is. parens l c is_c inner close_is tail_is)
        (more Part (suc d) (ap (λ (m : ℕ). run (angle_state Part m) ls) (omega arith) ∙ here false false true (is_function_word l) is_a is_b is_c refl))
    by_paren false is_a is_b is_c more = by_function (is_function_word l) is_a is_b is_c refl more

    by_constant : (b : Bool) → is token.Minus l ≡ false → is_constant l ≡ b → ((p : Phase) (e : ℕ) → run (angle_state p e) ls ≡ Some n → Owes p e ls) → Closes angle d (l ∷ ls)
    by_constant true is_a is_b more = before l (λ front one. constant l is_b one) (more Whole d (here false true (is token.LParen l) (is_function_word l) is_a is_b refl refl))
    by_constant false is_a is_b more = by_paren (is token.LParen l) is_a is_b refl more

    by_minus : (a : Bool) → is token.Minus l ≡ a → ((p : Phase) (e : ℕ) → run (angle_state p e) ls ≡ Some n → Owes p e ls) → Closes angle d (l ∷ ls)
    by_minus true is_a more = before l (λ front one. minus l is_a one) (more Part d (here true (is_constant l) (is token.LParen l) (is_function_word l) is_a refl refl refl))
    by_minus false is_a more = by_constant (is_constant l) is_a refl more
found (l ∷ ls) Paren d n same whole_is = by_paren (is token.LParen l) refl (λ more. found ls Part (suc d) n more whole_is)
  where
    then_if : Bool → Option AngleState
    then_if b = then_run (if b then Some (angle_state Part (d + 1)) else None) (λ m. run m ls)

    by_paren : (b : Bool) → is token.LParen l ≡ b → (run (angle_state Part (suc d)) ls ≡ Some n → Closes angle (suc d) ls) → Owes Paren d (l ∷ ls)
    by_paren true is_b more = (l, ls, refl, is_b, more (ap (λ (m : ℕ). run (angle_state Part m) ls) (omega arith) ∙ ap then_if (sym is_b) ∙ same))
    by_paren false is_b more = absurd (none_some n (ap then_if (sym is_b) ∙ same))
found (l ∷ ls) Whole d n same whole_is = by_operator (is_operator l) refl d refl (λ p e more. found ls p e n more whole_is)
  where
    then_if : Bool → ℕ → Option AngleState
    then_if b e = then_run (if b then Some (angle_state Part e) else closes e l) (λ m. run m ls)

    by_close : (e : ℕ) (c : Bool) → is token.RParen l ≡ c → then_run (if c then Some (angle_state Whole e) else None) (λ m. run m ls) ≡ Some n
        → ((p : Phase) (e : ℕ) → run (angle_state p e) ls ≡ Some n → Owes p e ls) → Closes tail (suc e) (l ∷ ls)
    by_close e true is_c so more = still {front = []} l nothing is_c (more Whole e so)
    by_close e false is_c so more = absurd (none_some n so)

    by_depth : (e : ℕ) → then_run (closes e l) (λ m. run m ls) ≡ Some n → ((p : Phase) (e : ℕ) → run (angle_state p e) ls ≡ Some n → Owes p e ls) → Closes tail e (l ∷ ls)
    by_depth zero so more = absurd (none_some n so)
    by_depth (suc e) so more = by_close e (is token.RParen l) refl so more

    by_operator : (b : Bool) → is_operator l ≡ b → (e : ℕ) → e ≡ d → ((p : Phase) (e : ℕ) → run (angle_state p e) ls ≡ Some n → Owes p e ls) → Closes tail e (l ∷ ls)
    by_operator true is_b e is_e more =
        before l (λ front one. operator l is_b one) (more Part e (ap (λ (b : Bool). then_if b e) (sym is_b) ∙ ap (then_if (is_operator l)) is_e ∙ same))
    by_operator false is_b e is_e more = by_depth e (ap (λ (b : Bool). then_if b e) (sym is_b) ∙ ap (then_if (is_operator l)) is_e ∙ same) more
