use Rattle.std.proofs.Common.{◌≡◌, ◌⊎◌, ℕ, List, true, false, Option, None, Some, sym, ◌∙◌, inl, inr}
use Rattle.std.specs.Prelude.{◌↔◌, IsTrue, IfSome}
use Rattle.qccd_io.specs.Stock.{Plan, fails, file_named}

-- a call that was not planned to fail, at a name that is held
pub neither_planned_nor_missing :
    (plan : Option Plan) (p : Plan) (files : List (List ℕ × List ℕ)) (name bytes : List ℕ)
    → plan ≡ Some p → fails p ≡ false → file_named files name ≡ Some bytes
    → IfSome plan (λ q. (false ≡ true) ↔ (IsTrue (fails q) ⊎ (file_named files name ≡ None)))
neither_planned_nor_missing plan p files name bytes is passes held = rw is (both p passes)
  where
    neither : (q : Plan) → fails q ≡ false → IsTrue (fails q) ⊎ (file_named files name ≡ None) → false ≡ true
    neither q not_planned = elim [ inl planned ↦ sym not_planned ∙ planned | inr missing ↦ (let h : Some bytes ≡ None = sym held ∙ missing in cc) ]

    both : (q : Plan) → fails q ≡ false → (false ≡ true) ↔ (IsTrue (fails q) ⊎ (file_named files name ≡ None))
    both q not_planned = ((λ differ. absurd (cc differ)), neither q not_planned)
