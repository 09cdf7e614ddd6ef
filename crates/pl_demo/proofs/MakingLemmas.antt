-- A file that is made from its recipe, and put into a folder in memory.
use Rattle.std.proofs.Common.{◌≡◌, ◌<◌, ◌≤◌, ℕ, List, [], ◌++◌, length, Bool, true, false, Option, None, sym, ap, ◌∙◌, arith}
use Rattle.std.proofs.lemmas.Bool.{false≢true}
use Rattle.std.proofs.lemmas.Bool.Decides.{nat_tests}
use Rattle.std.specs.Prelude.{Result, Ok, Err, IfOk, OnOk, nat_lt, unwrap_or, if◌then◌else◌}
use Rattle.std.specs.FinMap.{contains_key, get, insert}
use Rattle.pl_base.specs.Files.{Files}
use Rattle.pl_base.proofs.FilesLaws.{get-inserted, insert-inserted}
use Rattle.pl_base.specs.Names.{is_valid_name}
use Rattle.pl_build.specs.Build.{Builds, build}
use Rattle.pl_build.specs.declared.checks.Fault.{Fault}
use Rattle.pl_build.specs.declared.fault.RecipeFault.{RecipeFault}
use Rattle.pl_build.specs.declared.fault.RecipeFault.TheVariants.{Bad, NoMemory}
use Rattle.pl_folder.specs.Effects.{files_after_append, files_after_create}
use Rattle.pl_folder.proofs.FolderLaws.{there}
use Rattle.pl_demo.specs.Made.{built, if_stored, is_bad, made, with_file, with_made}
use Rattle.pl_demo.specs.declared.making.TheConstants.{RECIPE}

-- it is there as soon as it was created,
pub is_there : (name : List ℕ) (a b : Files) → b ≡ files_after_create a name → contains_key b name ≡ true
is_there name a b made = ap (λ (fs : Files). contains_key fs name) made ∙ there a name []

-- and has its bytes after they were added
pub was_put : (name bytes : List ℕ) (a b c : Files) → b ≡ files_after_create a name → c ≡ files_after_append b name bytes → c ≡ insert a name bytes
was_put name bytes a b c made grown =
    grown
    ∙ ap (λ (fs : Files). insert fs name (unwrap_or (get fs name) [] ++ bytes)) made
    ∙ ap (λ (o : Option (List ℕ)). insert (insert a name []) name (unwrap_or o [] ++ bytes)) (get-inserted a name [])
    ∙ insert-inserted a name [] bytes

-- ---- a recipe's file

-- a recipe that is too long has none,
pub too_long : (recipe : List ℕ) → RECIPE < length recipe → made recipe ≡ None
unfolding made
too_long recipe more =
    let test : nat_lt RECIPE (length recipe) ≡ true = grind (arith, nat_tests) in
    ap (λ (b : Bool). if b then None else built (build recipe)) test

-- of any other what was built decides
short : (recipe : List ℕ) → length recipe ≤ RECIPE → made recipe ≡ built (build recipe)
unfolding made
short recipe few =
    let test : nat_lt RECIPE (length recipe) ≡ false = grind (arith, nat_tests) in
    ap (λ (b : Bool). if b then None else built (build recipe)) test

module _ (recipe : List ℕ) (few : length recipe ≤ RECIPE) where
  pub was_built : (bytes : List ℕ) → build recipe ≡ Ok bytes → made recipe ≡ if_stored bytes
  was_built bytes is = short recipe few ∙ ap (λ (r : Result (List ℕ) Fault). built r) is

  pub was_unbuilt : {E : Type 0} (fault : RecipeFault) (r : Result (Option (List ℕ)) E) → Builds {X = List ℕ} (Err fault) (build recipe) → IfOk r (λ file. file ≡ None) → OnOk r (is_bad fault ≡ true) → IfOk r (λ file. file ≡ made recipe)
  was_unbuilt (Bad line kind) (Ok file) builds none bad = none ∙ sym (short recipe few ∙ ap (λ (r : Result (List ℕ) Fault). built r) builds)
  was_unbuilt NoMemory (Ok file) builds none bad = absurd (false≢true bad)
  was_unbuilt fault (Err e) builds none bad = tt

-- ---- a file of the set

module _ (files : Files) (name recipe : List ℕ) where
  pub was_made : (bytes : Option (List ℕ)) (new : Files) → is_valid_name name ≡ true → bytes ≡ made recipe → new ≡ with_made bytes name files → new ≡ with_file files (name, recipe)
  unfolding with_file
  was_made bytes new valid is put =
      put
      ∙ ap (λ (o : Option (List ℕ)). with_made o name files) is
      ∙ sym (ap (λ (b : Bool). if b then with_made (made recipe) name files else files) valid)

  pub was_not_made : is_valid_name name ≡ false → files ≡ with_file files (name, recipe)
  unfolding with_file
  was_not_made invalid = sym (ap (λ (b : Bool). if b then with_made (made recipe) name files else files) invalid)
