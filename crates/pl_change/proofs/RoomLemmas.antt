-- Names of a folder as the code has them.
use Rattle.std.proofs.Common.{◌≡◌, ℕ, List, [], ◌∷◌, map, Bool, cond, ◌+◌, refl, sym, ap, ◌∙◌}
use Rattle.std.proofs.lemmas.List.Sums.{sum_by-cons}
use Rattle.std.specs.Prelude.{String, string_bytes, count_by, ◌||◌}
use Rattle.std.specs.declared.alloc.Global.{Global}
use Rattle.std.specs.List.{list_any}
use Rattle.std.specs.Str.{bytes_eq}
use Rattle.pl_base.specs.Names.{is_valid_name}
use Rattle.pl_change.specs.Names.{has_name}

pub has_name_map : (name : List ℕ) (names : List (String Global)) → list_any (λ other. bytes_eq name (string_bytes other)) names ≡ has_name name (map string_bytes names)
has_name_map name [] = refl
has_name_map name (other ∷ names) = ap (λ (b : Bool). bytes_eq name (string_bytes other) || b) (has_name_map name names)

pub count_valid_map : (names : List (String Global)) → count_by (λ name. is_valid_name (string_bytes name)) names ≡ count_by is_valid_name (map string_bytes names)
count_valid_map [] = refl
count_valid_map (name ∷ names) =
    sum_by-cons (λ n. cond (is_valid_name (string_bytes n)) 1 0) name names
    ∙ ap (λ (n : ℕ). cond (is_valid_name (string_bytes name)) 1 0 + n) (count_valid_map names)
    ∙ sym (sum_by-cons (λ n. cond (is_valid_name n) 1 0) (string_bytes name) (map string_bytes names))
