-- One step of reading after another, up to the first refusal.
use Rattle.std.specs.Prelude.{Bool, List, [], ◌∷◌, Result, Ok, Err, if◌then◌else◌}
use Rattle.op_text.specs.declared.kind.AsmKind.{AsmKind}

infixl 10 ◌>>=◌
abbrev pub ◌>>=◌ : {A B E : Type 0} → Result A E → (A → Result B E) → Result B E
(Ok x) >>= f = f x
(Err e) >>= f = Err e

-- a kind of refusal, and whether it applies
abbrev pub Check : Type 0
Check = AsmKind × Bool

-- the value, or the first refusal that applies
abbrev pub judged : {A : Type 0} → List Check → A → Result A AsmKind
judged [] value = Ok value
judged (check ∷ more) value = if check.1 then Err check.0 else judged more value
