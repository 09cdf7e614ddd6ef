-- What the getters of matches read, by their rows; tests over texts behind references.
use Rattle.std.proofs.Common.{◌≡◌, ◌∙◌, ℕ, Bool, true, refl, sym, ap, List, [], ◌∷◌, map, ◌&&◌, Option, Some, None, drop, true≢false, unwrap_or}
use Rattle.std.specs.Prelude.{find, option_and_then, option_map, is_some, slice_get}
use Rattle.std.specs.List.{list_all}
use Rattle.std.specs.Str.{bytes_eq}
use Rattle.clap.specs.Facts.{Entry}
use Rattle.clap.specs.Matches.{first_value, matched_of, raw_values}
use Rattle.clap.specs.Walk.{Row, all_of, first_of, row_of, rows_of}
use Rattle.clap.specs.declared.parser.matches.Found.{Found}
use Rattle.clap.specs.declared.parser.matches.MatchedArg.{MatchedArg}
use Rattle.clap.proofs.WalkLemmas.{find_row, first_value-rows}

no_some : {X : Type 0} (x : X) → Some x ≡ None → ⊥
no_some x e = true≢false (ap is_some e)

pub value_in_rows : (f : Found) (name : List ℕ) → first_value f name ≡ first_of name (rows_of f)
value_in_rows = first_value-rows

pub source_in_rows : (f : Found) (name : List ℕ)
    → option_and_then (λ (a : MatchedArg). a.source) (matched_of f name) ≡ option_and_then (λ (r : Row). r.source) (find (λ r. bytes_eq r.id name) (rows_of f))
source_in_rows f name = go (find (λ (e : Entry). bytes_eq e.0.now name) f.entries.items) ∙ ap (option_and_then (λ (r : Row). r.source)) (sym (find_row f.entries.items name))
  where
    go : (o : Option Entry) → option_and_then (λ (a : MatchedArg). a.source) (option_map (λ e. e.1) o) ≡ option_and_then (λ (r : Row). r.source) (option_map row_of o)
    go None = refl
    go (Some e) = refl

pub values_in_rows : (f : Found) (name : List ℕ) → option_map raw_values (matched_of f name) ≡ all_of name (rows_of f)
values_in_rows f name = go (find (λ (e : Entry). bytes_eq e.0.now name) f.entries.items) ∙ ap (option_map (λ (r : Row). r.values)) (sym (find_row f.entries.items name))
  where
    go : (o : Option Entry) → option_map raw_values (option_map (λ e. e.1) o) ≡ option_map (λ (r : Row). r.values) (option_map row_of o)
    go None = refl
    go (Some e) = refl

-- a test of each row's name, by the names alone
pub rows_by_names : (p : List ℕ → Bool) (es : List Entry) → list_all p (map (λ e. e.0.now) es) ≡ list_all (λ r. p r.id) (map row_of es)
rows_by_names p [] = refl
rows_by_names p (e ∷ es) = ap (λ b. p e.0.now && b) (rows_by_names p es)

-- a test of names, the first at a time
pub next_name : (p : List ℕ → Bool) (names : List (List ℕ)) (name : List ℕ) → Some name ≡ slice_get names 0 → list_all p names ≡ (p name && list_all p (drop 1 names))
next_name p [] name e = absurd (no_some name e)
next_name p (n ∷ names) name e = ap (λ x. p x && list_all p names) (sym (ap (λ o. unwrap_or o n) e))

pub no_name : (p : List ℕ → Bool) (names : List (List ℕ)) → None ≡ slice_get names 0 → list_all p names ≡ true
no_name p [] e = refl
no_name p (n ∷ names) e = absurd (no_some n (sym e))
