use Rattle.std.proofs.Common.{◌≡◌, ◌≢◌, ℕ, List, Bool, true, false, Option, None, Some, refl, sym, ◌∙◌, ap}
use Rattle.std.specs.Prelude.{bytes_eq}
use Rattle.std.proofs.lemmas.Slice.Eq.{bytes_eq-Decides}
use Rattle.qccd_io.specs.Source.{Telling}
use Rattle.qccd_io.specs.Shelf.{Holding, NoneIsOut, HoldsTheSame, Lends, CanGiveBack, PutsBack}
use Rattle.qccd_io.specs.Fetch.{SameFile, HasLeft, HasMoreLeft, HoldsFile, HoldsMoreThan}

-- a source may be given back to the shelf that lent it, after reads
pub CanGiveBack-from_Lends :
    (a b : Option Holding) (name : List ℕ) (t u : Option Telling) → Lends a name t b → SameFile t u → CanGiveBack b u
CanGiveBack-from_Lends None b name t u lends same = rw lends tt
CanGiveBack-from_Lends (Some h) b name None u lends same = absurd lends
CanGiveBack-from_Lends (Some h) None name (Some t) u lends same = absurd lends
CanGiveBack-from_Lends (Some h) (Some k) name (Some t) None lends same = absurd same
CanGiveBack-from_Lends (Some h) (Some k) name (Some t) (Some u) lends same =
    (lends.3.2, rw (same.0, lends.1) lends.3.0)

-- a shelf to which the source was given back holds what it held before it lent the source
pub HoldsTheSame-from_PutsBack :
    (a b c : Option Holding) (name : List ℕ) (t u : Option Telling)
    → NoneIsOut a → Lends a name t b → SameFile t u → PutsBack b u c → HoldsTheSame a c
HoldsTheSame-from_PutsBack None b c name t u inside lends same back = let h : PutsBack None u c = rw lends at back in h
HoldsTheSame-from_PutsBack (Some h) b c name None u inside lends same back = absurd lends
HoldsTheSame-from_PutsBack (Some h) None c name (Some t) u inside lends same back = absurd lends
HoldsTheSame-from_PutsBack (Some h) (Some k) c name (Some t) None inside lends same back = absurd same
HoldsTheSame-from_PutsBack (Some h) (Some k) None name (Some t) (Some u) inside lends same back = absurd back
HoldsTheSame-from_PutsBack (Some h) (Some k) (Some m) name (Some t) (Some u) inside lends same back =
    (λ q. at_each q (bytes_eq q u.name) (bytes_eq-Decides q u.name), back.2 ∙ sym inside)
  where
    is_name : u.name ≡ name
    is_name = same.0 ∙ lends.1

    at_each : (q : List ℕ) (b : Bool) → (b ≡ true → q ≡ u.name) × (q ≡ u.name → b ≡ true) → m.file q ≡ h.file q
    at_each q true decides =
        let e : q ≡ u.name = decides.0 refl in
        let e' : q ≡ name = e ∙ is_name in
        rw e (back.0 ∙ ap Some same.1 ∙ sym lends.0 ∙ sym (ap h.file is_name))
    at_each q false decides =
        let other : q ≢ u.name = λ e. let no : false ≡ true = decides.1 e in cc in
        back.1 q other ∙ lends.3.1 q (λ e. other (e ∙ sym is_name))

-- what a lent source has left is the file
pub HoldsFile-from_Lends :
    (a b : Option Holding) (name bytes : List ℕ) (t : Option Telling) → Lends a name t b → HasLeft t bytes → HoldsFile a name bytes
HoldsFile-from_Lends None b name bytes t lends left = tt
HoldsFile-from_Lends (Some h) b name bytes None lends left = absurd lends
HoldsFile-from_Lends (Some h) None name bytes (Some t) lends left = absurd lends
HoldsFile-from_Lends (Some h) (Some k) name bytes (Some t) lends left = lends.0 ∙ ap Some (sym lends.2 ∙ left)

pub HoldsMoreThan-from_Lends :
    (a b : Option Holding) (name : List ℕ) (limit : ℕ) (t : Option Telling)
    → Lends a name t b → HasMoreLeft t limit → HoldsMoreThan a name limit
HoldsMoreThan-from_Lends None b name limit t lends more = tt
HoldsMoreThan-from_Lends (Some h) b name limit None lends more = absurd lends
HoldsMoreThan-from_Lends (Some h) None name limit (Some t) lends more = absurd lends
HoldsMoreThan-from_Lends (Some h) (Some k) name limit (Some t) lends more =
    (t.left, lends.0 ∙ ap Some (sym lends.2), more)
