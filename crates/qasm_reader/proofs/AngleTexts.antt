-- The text of an angle, token by token.
use Rattle.std.proofs.Common.{◌≡◌, ℕ, ◌≤◌, true, List, [], ◌∷◌, ◌++◌, length, Option, Some, None, refl, sym, ap, subst, ◌∙◌, arith}
use Rattle.std.specs.Prelude.{nat_lt}
use Rattle.std.proofs.lemmas.Bool.{ltb-false, le-ltb}
use Rattle.std.proofs.lemmas.List.{append_assoc, append-nil, length-append}
use Rattle.qasm_reader.specs.declared.angle.Phase.TheVariants.{Part, Whole}
use Rattle.qasm_reader.specs.declared.angle.AngleState.{AngleState}
use Rattle.qasm_reader.specs.Lexeme.{Lexeme}
use Rattle.qasm_reader.specs.Angle.{angle_state, angle_step, IsAngle, angle, joined_bytes}
use Rattle.qasm_reader.specs.Expected.{is_whole_angle, too_long}
use Rattle.qasm_reader.specs.Statement.{NoneApplies, IsAngleOf}
use Rattle.qasm_reader.proofs.AngleGrammar.{run, then_run, accepted, found, Closes, closed}

-- the tokens of an angle behind those of the text, from a angle_state on, and its whole text
abbrev pub IsAngleFrom : AngleState → List ℕ → List Lexeme → List ℕ → Type 0
IsAngleFrom s text [] all = (is_whole_angle s ≡ true) × (text ≡ all)
IsAngleFrom s text (l ∷ ls) all = (next : AngleState) × (angle_step s l ≡ Some next) × NoneApplies (too_long (text ++ l.bytes) l) × IsAngleFrom next (text ++ l.bytes) ls all

-- as a run
pub record RunsSo (s : AngleState) (text : List ℕ) (ls : List Lexeme) (all : List ℕ) : Type 0 where
  pub n : AngleState
  pub runs : run s ls ≡ Some n
  pub whole_is : is_whole_angle n ≡ true
  pub text_is : all ≡ text ++ joined_bytes ls
  pub short : length all ≤ 1024

none_too_long : (text : List ℕ) (l : Lexeme) → NoneApplies (too_long text l) → length text ≤ 1024
none_too_long text l none = ltb-false 1024 (length text) none.0

pub runs_so : (s : AngleState) (text : List ℕ) (ls : List Lexeme) (all : List ℕ) → length text ≤ 1024 → IsAngleFrom s text ls all → RunsSo s text ls all
runs_so s text [] all short from = record { n = s; runs = refl; whole_is = from.0; text_is = sym from.1 ∙ sym (append-nil text); short = omega (arith, short, ap length from.1) }
runs_so s text (l ∷ ls) all short from =
    let more = runs_so from.0 (text ++ l.bytes) ls all (none_too_long (text ++ l.bytes) l from.2) from.3 in
    record {
      n = more.n;
      runs = ap (λ (o : Option AngleState). then_run o (λ m. run m ls)) from.1 ∙ more.runs;
      whole_is = more.whole_is;
      text_is = more.text_is ∙ append_assoc text l.bytes (joined_bytes ls);
      short = more.short;
    }

next_of : (o : Option AngleState) (ls : List Lexeme) (n : AngleState) → then_run o (λ m. run m ls) ≡ Some n → (next : AngleState) × (o ≡ Some next) × (run next ls ≡ Some n)
next_of None ls n runs = absurd (none_some n runs)
  where
    none_some : (s : AngleState) (same : Rattle.std.specs.Prelude.◌≡◌ {A = Option AngleState} None (Some s)) → ⊥
    none_some s same = cc
next_of (Some next) ls n runs = (next, refl, runs)

not_long : (text : List ℕ) (l : Lexeme) → length text ≤ 1024 → NoneApplies (too_long text l)
not_long text l short = (le-ltb 1024 (length text) short, tt)

pub from_run : (s : AngleState) (text : List ℕ) (ls : List Lexeme) (n : AngleState) → run s ls ≡ Some n → is_whole_angle n ≡ true → length (text ++ joined_bytes ls) ≤ 1024 → IsAngleFrom s text ls (text ++ joined_bytes ls)
from_run s text [] n runs whole_is short = (ap is_whole_angle (some_same s n runs) ∙ whole_is, sym (append-nil text))
  where
    some_same : (s n : AngleState) (same : Rattle.std.specs.Prelude.◌≡◌ {A = Option AngleState} (Some s) (Some n)) → s ≡ n
    some_same s n same = cc
from_run s text (l ∷ ls) n runs whole_is short =
    let next = next_of (angle_step s l) ls n runs in
    let same = append_assoc text l.bytes (joined_bytes ls) in
    let short_all : length ((text ++ l.bytes) ++ joined_bytes ls) ≤ 1024 = omega (arith, short, ap length same) in (
      next.0,
      next.1,
      not_long (text ++ l.bytes) l (omega (arith, short_all, length-append (text ++ l.bytes) (joined_bytes ls))),
      subst (λ (all : List ℕ). IsAngleFrom next.0 (text ++ l.bytes) ls all) same (from_run next.0 (text ++ l.bytes) ls n next.2 whole_is short_all),
    )

-- an angle by its grammar, and from angle_state to angle_state
pub angle_from : (ls : List Lexeme) (text : List ℕ) → IsAngleOf ls text → IsAngleFrom (angle_state Part 0) [] ls text
angle_from ls text is_of =
    let runs = ap (run (angle_state Part 0)) (sym (append-nil ls)) ∙ accepted angle ls [] 0 is_of.is_angle in
    subst (λ (t : List ℕ). IsAngleFrom (angle_state Part 0) [] ls t) (sym is_of.text_is) (from_run (angle_state Part 0) [] ls (angle_state Whole 0) runs refl (omega (arith, is_of.short, ap length is_of.text_is)))

closed_is : (ls : List Lexeme) → Closes angle 0 ls → IsAngle angle ls
closed_is ls (closed one) = one

pub angle_to : (ls : List Lexeme) (text : List ℕ) → IsAngleFrom (angle_state Part 0) [] ls text → IsAngleOf ls text
angle_to ls text from =
    let r = runs_so (angle_state Part 0) [] ls text (omega arith) from in
    record { is_angle = closed_is ls (found ls Part 0 r.n r.runs r.whole_is); text_is = r.text_is; short = r.short }
