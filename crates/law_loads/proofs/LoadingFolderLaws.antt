-- What a load takes of a folder keeps the rule at the loaded name where the folder does.
use Rattle.std.proofs.Common.{◌≡◌, ℕ, Bool, true, false, List, Option, Some, None, Result, Ok, refl, sym, ap, subst, ◌∙◌}
use Rattle.std.specs.Prelude.{if◌then◌else◌}
use Rattle.std.specs.Option.{option_map}
use Rattle.std.specs.Str.{bytes_eq}
use Rattle.std.proofs.lemmas.Bool.{true≢false}
use Rattle.std.proofs.lemmas.Option.{none-some}
use Rattle.std.proofs.lemmas.Slice.Eq.{bytes_eq-Decides}
use Rattle.pl_base.specs.Answers.{because}
use Rattle.pl_base.proofs.AnswerLaws.{because_ok, bind_ok, ok_same}
use Rattle.pl_conflict.specs.Format as format
use Rattle.pl_conflict.specs.Format.{Causes, RuleAt, mark_in, mark_of}
use Rattle.pl_pie.specs.Placed.{placed}
use Rattle.pl_pie.specs.declared.placing.Placing.{Placing}
use Rattle.pl_pie.specs.declared.placing.Placing.TheVariants as placings
use Rattle.pl_pie.proofs.BareLaws.{fixed_bare}
use Rattle.pl_form.specs.Files.{marked_in}
use Rattle.pl_form.specs.declared.file.Marked.{Marked}
use Rattle.pl_place.specs.Policy.{Choice}
use Rattle.law_sound.specs.Rule as sound
use Rattle.law_sound.specs.Rule.{Mark, mark_at, matches, tells_walk, walk_in}
use Rattle.pl_loader.specs.declared.fault.LoadFault.{LoadFault}
use Rattle.pl_loader.specs.Given.{first_by, first_of, given_from, given_of}
use Rattle.law_loads.specs.LoadingFolder.{first_bytes, loading_folder, of_placing}
use Rattle.law_loads.specs.Paths.{GivesFrom}

some_same : (a b : List ℕ) → ◌≡◌ {A = Option (List ℕ)} (Some a) (Some b) → a ≡ b
some_same a b e = cc

-- ---- the file of the name that is loaded

first_given : (name found bytes : List ℕ) (p : Placing) → first_by name found p ≡ Ok bytes → of_placing found p ≡ bytes
first_given name found bytes placings.NotPie e = ok_same found bytes e
first_given name found bytes placings.NoPlace e = absurd cc
first_given name found bytes (placings.Fixed at file) e = ok_same file bytes e

first_is : (choose : Choice) (name found bytes : List ℕ) → first_of choose name found ≡ Ok bytes → first_bytes choose found ≡ bytes
unfolding first_bytes first_of
first_is choose name found bytes e = first_given name found bytes (placed choose found) e

-- what a placing makes of a file
first_at : (choose : Choice) (bytes : List ℕ) (p : Placing) → placed choose bytes ≡ p → first_bytes choose bytes ≡ of_placing bytes p
unfolding first_bytes
first_at choose bytes p is = ap (of_placing bytes) is

pub gives_given : {E : Type 0} (choose : Choice) (folder : sound.Files) (fault : LoadFault → E) (file : List ℕ → Result (List ℕ) E) (name : List ℕ) → GivesFrom folder file → GivesFrom (loading_folder choose folder name) (given_from choose fault file name)
unfolding loading_folder given_from
gives_given choose folder fault file name gives n bytes is =
    let a = bind_ok (file n) (λ found. because fault (given_of choose name n found)) bytes is in
    by_test (bytes_eq n name) a.0 (gives n a.0 a.1) (because_ok fault (given_of choose name n a.0) bytes a.2)
  where
    by_test : (b : Bool) (found : List ℕ) → folder n ≡ Some found → (if b then first_of choose name found else Ok found) ≡ Ok bytes → (if b then option_map (first_bytes choose) (folder n) else folder n) ≡ Some bytes
    by_test true found there e = ap (option_map (first_bytes choose)) there ∙ ap (λ (xs : List ℕ). Some xs) (first_is choose name found bytes e)
    by_test false found there e = there ∙ ap (λ (xs : List ℕ). Some xs) (ok_same found bytes e)

-- ---- the rule at it

bare_mark : (file : List ℕ) → marked_in file ≡ None → mark_in file ≡ None
unfolding mark_in
bare_mark file e = ap (λ (m : Option Marked). option_map mark_of m) e

-- a name whose file bears no mark matches nothing
unmatched : {F : Type 0} (causes : Causes F) (folder : List ℕ → Option (List ℕ)) (name file : List ℕ) → folder name ≡ Some file → marked_in file ≡ None → matches (format.format causes) folder name ≡ false
unmatched causes folder name file there bare =
    ap (λ (o : Option (List ℕ)). tells_walk (format.format causes) folder (mark_at (format.format causes) o) (walk_in (format.format causes) folder name)) there
    ∙ ap (λ (k : Option Mark). tells_walk (format.format causes) folder k (walk_in (format.format causes) folder name)) (bare_mark file bare)

-- a file that is loaded as it is leaves the folder as it is
same_folder : (choose : Choice) (folder : sound.Files) (name : List ℕ) → ((bytes : List ℕ) → folder name ≡ Some bytes → first_bytes choose bytes ≡ bytes) → loading_folder choose folder name ≡ folder
unfolding loading_folder
same_folder choose folder name same = λ i n. at n i
  where
    here : (o : Option (List ℕ)) → folder name ≡ o → option_map (first_bytes choose) o ≡ o
    here None is = refl
    here (Some bytes) is = ap (λ (xs : List ℕ). Some xs) (same bytes is)

    by_test : (n : List ℕ) (b : Bool) → bytes_eq n name ≡ b → (if b then option_map (first_bytes choose) (folder n) else folder n) ≡ folder n
    by_test n false is = refl
    by_test n true is =
        let one : n ≡ name = (bytes_eq-Decides n name).0 is in
        subst (λ (m : List ℕ). option_map (first_bytes choose) (folder m) ≡ folder m) (sym one) (here (folder name) refl)

    at : (n : List ℕ) → (if bytes_eq n name then option_map (first_bytes choose) (folder n) else folder n) ≡ folder n
    at n = by_test n (bytes_eq n name) refl

-- the name of a program that is fixed has that program
is_fixed : (choose : Choice) (folder : sound.Files) (name bytes file : List ℕ) (at : ℕ) → folder name ≡ Some bytes → placed choose bytes ≡ placings.Fixed at file → loading_folder choose folder name name ≡ Some file
unfolding loading_folder
is_fixed choose folder name bytes file at there is =
    ap (λ (b : Bool). if b then option_map (first_bytes choose) (folder name) else folder name) ((bytes_eq-Decides name name).1 refl)
    ∙ ap (option_map (first_bytes choose)) there ∙ ap (λ (xs : List ℕ). Some xs) (first_at choose bytes (placings.Fixed at file) is)

pub rule_given : {F : Type 0} (causes : Causes F) (choose : Choice) (folder : sound.Files) (name : List ℕ) → RuleAt causes folder name → RuleAt causes (loading_folder choose folder name) name
rule_given causes choose folder name rule = by_file (folder name) refl
  where
    as_it_is : ((bytes : List ℕ) → folder name ≡ Some bytes → first_bytes choose bytes ≡ bytes) → RuleAt causes (loading_folder choose folder name) name
    as_it_is same = subst (λ (files : List ℕ → Option (List ℕ)). RuleAt causes files name) (sym (same_folder choose folder name same)) rule

    is_first : (bytes : List ℕ) → folder name ≡ Some bytes → (p : Placing) → placed choose bytes ≡ p → of_placing bytes p ≡ bytes → (other : List ℕ) → folder name ≡ Some other → first_bytes choose other ≡ other
    is_first bytes there p is same other at =
        let one : bytes ≡ other = some_same bytes other (sym there ∙ at) in
        subst (λ (xs : List ℕ). first_bytes choose xs ≡ xs) one (first_at choose bytes p is ∙ same)

    by_placing : (bytes : List ℕ) → folder name ≡ Some bytes → (p : Placing) → placed choose bytes ≡ p → RuleAt causes (loading_folder choose folder name) name
    by_placing bytes there placings.NotPie is = as_it_is (is_first bytes there placings.NotPie is refl)
    by_placing bytes there placings.NoPlace is = as_it_is (is_first bytes there placings.NoPlace is refl)
    by_placing bytes there (placings.Fixed at file) is = λ m hit has.
        absurd (true≢false (sym hit ∙ unmatched causes (loading_folder choose folder name) name file (is_fixed choose folder name bytes file at there is) (fixed_bare choose bytes file at is)))

    by_file : (o : Option (List ℕ)) → folder name ≡ o → RuleAt causes (loading_folder choose folder name) name
    by_file None none = as_it_is (λ bytes there. absurd (none-some bytes (sym none ∙ there)))
    by_file (Some bytes) there = by_placing bytes there (placed choose bytes) refl
