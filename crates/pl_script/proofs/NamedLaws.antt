-- The names of a line are valid.
use Rattle.std.proofs.Common.{◌≡◌, ℕ, Bool, true, false, refl, cond, List, [], ◌∷◌, map, Option, Some, None, inl, inr}
use Rattle.std.specs.Prelude.{codes}
use Rattle.std.specs.List.{list_all, flat_map}
use Rattle.std.specs.Str.{bytes_eq}
use Rattle.std.proofs.lemmas.Bool.{and_parts, cases_Bool}
use Rattle.pl_base.specs.Names.{is_valid_name}
use Rattle.pl_script.specs.declared.line.Line.{Line}
use Rattle.pl_script.specs.declared.line.Line.TheVariants.{Wrong, Load, Runs, Open, Rename}
use Rattle.pl_script.specs.declared.line.RunLine.TheVariants.{Install}
use Rattle.pl_script.specs.Grammar.{install_line, line, line_by, line_of, number, open_line, other_line, pair, prelink_line, undo_line, valid_words, words_of}
use Rattle.pl_script.specs.Script.{has_valid_names, loads_of, runs_of}

abbrev pub is_named : Line → Bool
is_named Wrong = true
is_named (Load name) = is_valid_name name
is_named (Runs run) = has_valid_names run
is_named (Open loader) = true
is_named Rename = true

-- one of two lines
named_if : (b : Bool) (x y : Line) → is_named x ≡ true → is_named y ≡ true → is_named (cond b x y) ≡ true
named_if true x y first second = first
named_if false x y first second = second

prelink_named : (now : Option ℕ) → is_named (prelink_line now) ≡ true
prelink_named None = refl
prelink_named (Some now) = refl

open_named : (loader : Option ℕ) → is_named (open_line loader) ≡ true
open_named None = refl
open_named (Some loader) = refl

pair_named : (keyword word : List ℕ) → is_valid_name word ≡ true → is_named (pair keyword word) ≡ true
unfolding pair
pair_named keyword word valid =
    named_if (bytes_eq keyword (codes "load")) (Load word) _ valid
    (named_if (bytes_eq keyword (codes "prelink")) (prelink_line (number word)) _ (prelink_named (number word))
    (named_if (bytes_eq keyword (codes "open")) (open_line (number word)) Wrong (open_named (number word)) refl))

install_named : (keyword name from : List ℕ) → is_valid_name name ≡ true → is_valid_name from ≡ true → is_named (install_line keyword name from) ≡ true
install_named keyword name from valid_name valid_from =
    named_if (bytes_eq keyword (codes "install")) (Runs (Install name from)) Wrong (rw (valid_name, valid_from) refl) refl

undo_named : (names : List (List ℕ)) → list_all is_valid_name names ≡ true → has_valid_names (undo_line names) ≡ true
undo_named [] valid = refl
undo_named (name ∷ names) valid = valid

other_named : (keyword : List ℕ) (words : List (List ℕ)) → list_all is_valid_name words ≡ true → is_named (other_line keyword words) ≡ true
unfolding other_line
other_named keyword [] valid = named_if (bytes_eq keyword (codes "rename")) Rename Wrong refl refl
other_named keyword (word ∷ []) valid = pair_named keyword word (and_parts (is_valid_name word) true valid).0
other_named keyword (name ∷ from ∷ []) valid =
    let parts = and_parts (is_valid_name name) (list_all is_valid_name (from ∷ [])) valid in
    install_named keyword name from parts.0 (and_parts (is_valid_name from) true parts.1).0
other_named keyword (first ∷ second ∷ third ∷ words) valid = refl

words_named : (words : List (List ℕ)) → list_all is_valid_name words ≡ true → is_named (line_of words) ≡ true
unfolding line_of line_by
words_named [] valid = refl
words_named (keyword ∷ words) valid =
    let parts = and_parts (is_valid_name keyword) (list_all is_valid_name words) valid in
    named_if (bytes_eq keyword (codes "undo")) (Runs (undo_line words)) (other_line keyword words) (undo_named words parts.1) (other_named keyword words parts.1)

line_named : (text : List ℕ) → is_named (line text) ≡ true
unfolding line valid_words
line_named text = elim (cases_Bool (list_all is_valid_name (words_of text))) [
  | inl valid ↦ rw valid (words_named (words_of text) valid)
  | inr invalid ↦ rw invalid refl
]

-- the names of all lines
pub all_named : (texts : List (List ℕ)) → list_all is_named (map line texts) ≡ true
all_named [] = refl
all_named (text ∷ texts) = rw (line_named text, all_named texts) refl

pub loads_named : (lines : List Line) → list_all is_named lines ≡ true → list_all is_valid_name (flat_map loads_of lines) ≡ true
loads_named [] named = refl
loads_named (Wrong ∷ lines) named = loads_named lines named
loads_named (Load name ∷ lines) named =
    let parts = and_parts (is_valid_name name) (list_all is_named lines) named in
    rw (parts.0, loads_named lines parts.1) refl
loads_named (Runs run ∷ lines) named = loads_named lines (and_parts (has_valid_names run) (list_all is_named lines) named).1
loads_named (Open loader ∷ lines) named = loads_named lines named
loads_named (Rename ∷ lines) named = loads_named lines named

pub runs_named : (lines : List Line) → list_all is_named lines ≡ true → list_all has_valid_names (flat_map runs_of lines) ≡ true
runs_named [] named = refl
runs_named (Wrong ∷ lines) named = runs_named lines named
runs_named (Load name ∷ lines) named = runs_named lines (and_parts (is_valid_name name) (list_all is_named lines) named).1
runs_named (Runs run ∷ lines) named =
    let parts = and_parts (has_valid_names run) (list_all is_named lines) named in
    rw (parts.0, runs_named lines parts.1) refl
runs_named (Open loader ∷ lines) named = runs_named lines named
runs_named (Rename ∷ lines) named = runs_named lines named
