use Rattle.std.proofs.Common.{ℕ, ◌<◌, List, [], ◌++◌, length, Option, None, Some, refl, sym, ◌∙◌, ap, append_assoc, length-append, arith}
use Rattle.std.proofs.lemmas.List.{append-nil}
use Rattle.qccd_io.specs.Source.{Telling, Reads, AtEnd}
use Rattle.qccd_io.specs.Fetch.{SameFile, HasLeft, HasMoreLeft}

-- nothing was read yet
pub Reads-none : (a : Option Telling) → Reads a [] a
Reads-none None = refl
Reads-none (Some t) = (refl, refl, refl)

-- two reads, one after the other
pub Reads-append :
    (a b c : Option Telling) (x y : List ℕ) → Reads a x b → Reads b y c → Reads a (x ++ y) c
Reads-append None None c x y first second = second
Reads-append None (Some u) c x y first second = cc
Reads-append (Some t) None c x y first second = absurd first
Reads-append (Some t) (Some u) None x y first second = absurd second
Reads-append (Some t) (Some u) (Some v) x y first second =
    (first.0 ∙ ap (λ l. x ++ l) second.0 ∙ sym (append_assoc x y v.left), second.1 ∙ first.1, second.2 ∙ first.2)

-- a read keeps the file
pub SameFile-from_Reads : (a b : Option Telling) (x : List ℕ) → Reads a x b → SameFile a b
SameFile-from_Reads None b x reads = reads
SameFile-from_Reads (Some t) None x reads = absurd reads
SameFile-from_Reads (Some t) (Some u) x reads = (reads.1, reads.2)

-- what was read until the end is what was left before
pub HasLeft-from_Reads : (a b : Option Telling) (x : List ℕ) → Reads a x b → AtEnd b → HasLeft a x
HasLeft-from_Reads None b x reads end = tt
HasLeft-from_Reads (Some t) None x reads end = absurd reads
HasLeft-from_Reads (Some t) (Some u) x reads end = reads.0 ∙ ap (λ l. x ++ l) end ∙ append-nil x

-- at least what was read was left before
pub HasMoreLeft-from_Reads :
    (a b : Option Telling) (x : List ℕ) (limit : ℕ) → Reads a x b → limit < length x → HasMoreLeft a limit
HasMoreLeft-from_Reads None b x limit reads more = tt
HasMoreLeft-from_Reads (Some t) None x limit reads more = absurd reads
HasMoreLeft-from_Reads (Some t) (Some u) x limit reads more =
    omega (arith, length-append x u.left, ap length reads.0)

-- the file stays the same over two steps
pub SameFile-trans : (a b c : Option Telling) → SameFile a b → SameFile b c → SameFile a c
SameFile-trans None None c first second = second
SameFile-trans None (Some u) c first second = cc
SameFile-trans (Some t) None c first second = absurd first
SameFile-trans (Some t) (Some u) None first second = absurd second
SameFile-trans (Some t) (Some u) (Some v) first second = (second.0 ∙ first.0, second.1 ∙ first.1)

pub SameFile-refl : (a : Option Telling) → SameFile a a
SameFile-refl None = refl
SameFile-refl (Some t) = (refl, refl)
