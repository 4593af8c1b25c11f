-- What a name stands for, where a map has one more.
use Rattle.std.proofs.Common.{◌≡◌, ℕ, Bool, true, false, cond, List, [], ◌∷◌, Option, Some, None, Ordering, refl, sym, ap, ◌∙◌}
use Rattle.std.specs.Str.{bytes_eq}
use Rattle.std.specs.Map.{lookup}
use Rattle.std.specs.BTreeMap.{insert_entry}
use Rattle.std.specs.Cmp.{Equal-is}
use Rattle.std.specs.Cmp.Lexicographic.{slice_cmp}
use Rattle.std.specs.declared.cmp.Ordering.TheVariants.{Less, Equal, Greater}
use Rattle.std.specs.Ordering.{is_eq, nat_cmp, match_ordering}
use Rattle.std.proofs.lemmas.Map.Text.{is_eq-slice_cmp}
use Rattle.std.proofs.lemmas.Map.Lookups.{exact_bytes}
use Rattle.std.proofs.lemmas.Bool.{false≢true}
use Rattle.std.proofs.lemmas.Slice.Eq.{bytes_eq-Decides}

-- the same test twice
twice : {X : Type 0} (b c : Bool) (x y z : X) → b ≡ c → cond b x y ≡ cond c x (cond b z y)
twice true true x y z is = refl
twice true false x y z is = absurd (false≢true (sym is))
twice false true x y z is = absurd (false≢true is)
twice false false x y z is = refl

-- two tests that do not both pass
pub apart : {X : Type 0} (b c : Bool) (x y z : X) → (b ≡ true → c ≡ true → ⊥) → cond b z (cond c x y) ≡ cond c x (cond b z y)
apart true true x y z not_both = absurd (not_both refl refl)
apart true false x y z not_both = refl
apart false true x y z not_both = refl
apart false false x y z not_both = refl

same_from : (a b : List ℕ) → is_eq (slice_cmp nat_cmp a b) ≡ true → a ≡ b
same_from a b is = exact_bytes a b ((Equal-is (slice_cmp nat_cmp a b)).0 is)

-- the lookup where a key was put before an entry, in its place, or somewhere behind it
inserted_by :
    {K X : Type 0} (text : K → List ℕ) (name : List ℕ) (k : K) (v : X) (e : K × X) (es more : List (K × X)) (o : Ordering)
    → o ≡ slice_cmp nat_cmp (text k) (text e.0)
    → lookup (λ key. is_eq (slice_cmp nat_cmp name (text key))) more
    ≡ cond (bytes_eq name (text k)) (Some v) (lookup (λ key. is_eq (slice_cmp nat_cmp name (text key))) es)
    → lookup (λ key. is_eq (slice_cmp nat_cmp name (text key))) (match_ordering o ((k, v) ∷ e ∷ es) ((e.0, v) ∷ es) (e ∷ more))
    ≡ cond (bytes_eq name (text k)) (Some v) (lookup (λ key. is_eq (slice_cmp nat_cmp name (text key))) (e ∷ es))
inserted_by {K = K} {X = X} text name k v e es more Less is behind =
    ap (λ (b : Bool). cond b (Some v) (lookup (λ (key : K). is_eq (slice_cmp nat_cmp name (text key))) (e ∷ es))) (is_eq-slice_cmp name (text k))
inserted_by {K = K} {X = X} text name k v e es more Equal is behind =
    let same : text k ≡ text e.0 = exact_bytes (text k) (text e.0) (sym is) in
    let here : is_eq (slice_cmp nat_cmp name (text e.0)) ≡ bytes_eq name (text k) = is_eq-slice_cmp name (text e.0) ∙ ap (bytes_eq name) (sym same) in
    twice (is_eq (slice_cmp nat_cmp name (text e.0))) (bytes_eq name (text k)) (Some v)
    (lookup (λ (key : K). is_eq (slice_cmp nat_cmp name (text key))) es) (Some e.1) here
inserted_by {K = K} {X = X} text name k v e es more Greater is behind =
    let greater : bytes_eq (text k) (text e.0) ≡ false = sym (is_eq-slice_cmp (text k) (text e.0)) ∙ ap is_eq (sym is) in
    ap (λ (o : Option X). cond (is_eq (slice_cmp nat_cmp name (text e.0))) (Some e.1) o) behind
    ∙ apart (is_eq (slice_cmp nat_cmp name (text e.0))) (bytes_eq name (text k)) (Some v)
    (lookup (λ (key : K). is_eq (slice_cmp nat_cmp name (text key))) es) (Some e.1)
    (λ first second.
    let one : name ≡ text e.0 = same_from name (text e.0) first in
    let two : name ≡ text k = (bytes_eq-Decides name (text k)).0 second in
    false≢true (sym greater ∙ (bytes_eq-Decides (text k) (text e.0)).1 (sym two ∙ one)))

pub lookup_inserted :
    {K X : Type 0} (text : K → List ℕ) (name : List ℕ) (k : K) (v : X) (es : List (K × X))
    → lookup (λ key. is_eq (slice_cmp nat_cmp name (text key))) (insert_entry (λ a b. slice_cmp nat_cmp (text a) (text b)) es k v)
    ≡ cond (bytes_eq name (text k)) (Some v) (lookup (λ key. is_eq (slice_cmp nat_cmp name (text key))) es)
lookup_inserted text name k v [] = ap (λ (b : Bool). cond b (Some v) None) (is_eq-slice_cmp name (text k))
lookup_inserted text name k v (e ∷ es) =
    inserted_by text name k v e es (insert_entry (λ a b. slice_cmp nat_cmp (text a) (text b)) es k v)
    (slice_cmp nat_cmp (text k) (text e.0)) refl (lookup_inserted text name k v es)
