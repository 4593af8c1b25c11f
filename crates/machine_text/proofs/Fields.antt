-- The code's table and its values beside the data that they stand for.
use Rattle.std.proofs.Common.{◌≡◌, ℕ, Bool, false, ◌&&◌, ◌||◌, List, [], ◌∷◌, Option, Some, None, option_map, String, Global, Bor, string_bytes, map, IfOk, IfErr, refl, ap, sym}
use Rattle.std.specs.List.{list_any, list_all}
use Rattle.std.specs.Map.{keys_of}
use Rattle.std.specs.Option.{ok_or}
use Rattle.std.specs.Str.{bytes_eq}
use Rattle.toml.specs.Data.{Data, string, integer, float, boolean, datetime, array, table, Members, as_table, item}
use Rattle.toml.specs.View.{view, members_view, items_view}
use Rattle.toml.specs.declared.value.Value.{Value}
use Rattle.machine_text.specs.declared.fault.TextFault.{TextFault}
use Rattle.machine_text.specs.Field.{has_only, are_tables}

-- the names of the fields are the keys
pub has_only-keys : (names : List (List ℕ)) (es : List (String Global × Value))
    → list_all (λ k. list_any (bytes_eq (string_bytes k)) names) (keys_of es) ≡ has_only names (members_view es)
has_only-keys names [] = refl
has_only-keys names (e ∷ es) =
    ap (λ (b : Bool). list_any (bytes_eq (string_bytes e.0)) names && b) (has_only-keys names es)

-- what a value is that is a table, or none
pub table_is : (d : Data) (fields : Members) → as_table d ≡ Some fields → d ≡ table fields
table_is (string s) fields h = cc
table_is (integer z) fields h = cc
table_is (float x) fields h = cc
table_is (boolean b) fields h = cc
table_is (datetime dt) fields h = cc
table_is (array ds) fields h = cc
table_is (table ms) fields h = cc

pub are_tables-other : (d : Data) (more : List Value) → as_table d ≡ None → are_tables (item d (items_view more)) ≡ false
are_tables-other (string s) more h = refl
are_tables-other (integer z) more h = refl
are_tables-other (float x) more h = refl
are_tables-other (boolean b) more h = refl
are_tables-other (datetime dt) more h = refl
are_tables-other (array ds) more h = refl
are_tables-other (table ms) more h = cc

pub list_any-map : {A B : Type 0} (test : B → Bool) (f : A → B) (xs : List A) → list_any (λ x. test (f x)) xs ≡ list_any test (map f xs)
list_any-map test f [] = refl
list_any-map test f (x ∷ xs) = ap (λ (b : Bool). test (f x) || b) (list_any-map test f xs)

-- what the map of a table finds, told as a field that has to be there
pub required-ok : (r : Option (Bor Value)) (e : TextFault) (there : Option Data) → option_map (λ v. view v.now) r ≡ there
    → IfOk (ok_or r e) (λ v. there ≡ Some (view v.now))
required-ok None e there h = tt
required-ok (Some v) e there h = sym h

pub required-missing : (r : Option (Bor Value)) (e : TextFault) (there : Option Data) → option_map (λ v. view v.now) r ≡ there
    → IfErr (ok_or r e) (λ f. (f ≡ e) × (there ≡ None))
required-missing None e there h = (refl, sym h)
required-missing (Some v) e there h = tt
