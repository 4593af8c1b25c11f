-- What is read of the tables of all traps.
use Rattle.std.proofs.Common.{◌≡◌, ℕ, ◌<◌, List, map, length, get_or, ◌∙◌, ap, arith, Option, Some}
use Rattle.std.specs.Prelude.{slice_get}
use Rattle.std.specs.List.{range_with_len}
use Rattle.router.specs.Wiring.{WiringData}
use Rattle.router.specs.Paths.{hop_path}
use Rattle.router.specs.Tables.{all_hops, all_paths, hop_of}
use Rattle.router.specs.declared.hops.Hop.{Hop}
use Rattle.router.proofs.Tabled.{entry_at, entry_got, table_long}

-- a table of tables: f at the number of the outer one and then at that of the inner one
rows_long : {X : Type 0} (f : ℕ → ℕ → X) (n i j : ℕ) (rows : List (List X)) → rows ≡ map (λ b. map (f b) (range_with_len 0 n)) (range_with_len 0 n) → j ≡ i → i < n → j < length rows
rows_long f n i j rows table at less = omega (arith, table_long (λ b. map (f b) (range_with_len 0 n)) n i rows table less)

row_long : {X : Type 0} (f : ℕ → ℕ → X) (n i j k : ℕ) (rows : List (List X)) (row : List X) → rows ≡ map (λ b. map (f b) (range_with_len 0 n)) (range_with_len 0 n) → j ≡ i → i < n → k < n → row ≡ get_or rows j row → k < length row
row_long f n i j k rows row table at less inner is = table_long (f i) n k row (entry_at (λ b. map (f b) (range_with_len 0 n)) n i j rows row table at less is) inner

row_got : {X : Type 0} (f : ℕ → ℕ → X) (n i j k : ℕ) (rows : List (List X)) (row : List X) (x : X) → rows ≡ map (λ b. map (f b) (range_with_len 0 n)) (range_with_len 0 n) → j ≡ i → i < n → k < n → row ≡ get_or rows j row → slice_get row k ≡ Some x → x ≡ f i k
row_got f n i j k rows row x table at less inner is got = entry_got (f i) n k row x (entry_at (λ b. map (f b) (range_with_len 0 n)) n i j rows row table at less is) inner got

-- ---- of hops

pub hops_long : (w v : WiringData) (b j : ℕ) (hops : List (List Hop)) → w ≡ v → hops ≡ all_hops w → j ≡ b → b < v.traps → j < length hops
hops_long w v b j hops same table at there = rows_long (hop_of v) v.traps b j hops (table ∙ ap all_hops same) at there

pub hops_row_long : (w v : WiringData) (a b j : ℕ) (hops : List (List Hop)) (row : List Hop) → w ≡ v → hops ≡ all_hops w → j ≡ b → b < v.traps → a < v.traps → row ≡ get_or hops j row → a < length row
hops_row_long w v a b j hops row same table at b_there a_there is = row_long (hop_of v) v.traps b j a hops row (table ∙ ap all_hops same) at b_there a_there is

pub hop_got : (w v : WiringData) (a b j : ℕ) (hops : List (List Hop)) (row : List Hop) (hop : Hop) → w ≡ v → hops ≡ all_hops w → j ≡ b → b < v.traps → a < v.traps → row ≡ get_or hops j row → slice_get row a ≡ Some hop → hop ≡ hop_of v b a
hop_got w v a b j hops row hop same table at b_there a_there is got = row_got (hop_of v) v.traps b j a hops row hop (table ∙ ap all_hops same) at b_there a_there is got

-- ---- of paths

pub paths_long : (w v : WiringData) (b j : ℕ) (paths : List (List (Option (List ℕ)))) → w ≡ v → paths ≡ all_paths w → j ≡ b → b < v.traps → j < length paths
paths_long w v b j paths same table at there = rows_long (λ b a. hop_path v a b) v.traps b j paths (table ∙ ap all_paths same) at there

pub paths_row_long : (w v : WiringData) (a b j : ℕ) (paths : List (List (Option (List ℕ)))) (row : List (Option (List ℕ))) → w ≡ v → paths ≡ all_paths w → j ≡ b → b < v.traps → a < v.traps → row ≡ get_or paths j row → a < length row
paths_row_long w v a b j paths row same table at b_there a_there is = row_long (λ b a. hop_path v a b) v.traps b j a paths row (table ∙ ap all_paths same) at b_there a_there is

pub path_got : (w v : WiringData) (a b j : ℕ) (paths : List (List (Option (List ℕ)))) (row : List (Option (List ℕ))) (path : Option (List ℕ)) → w ≡ v → paths ≡ all_paths w → j ≡ b → b < v.traps → a < v.traps → row ≡ get_or paths j row → slice_get row a ≡ Some path → path ≡ hop_path v a b
path_got w v a b j paths row path same table at b_there a_there is got = row_got (λ b a. hop_path v a b) v.traps b j a paths row path (table ∙ ap all_paths same) at b_there a_there is got
