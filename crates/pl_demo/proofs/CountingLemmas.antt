-- What the file of a name has, from what a folder in memory gives.
use Rattle.std.proofs.Common.{◌≡◌, ℕ, List, Bool, true, false, refl, sym, ap, subst, ◌∙◌}
use Rattle.std.specs.Prelude.{Result, Ok, Err, IfOk, Vec, if◌then◌else◌}
use Rattle.std.specs.declared.alloc.Global.{Global}
use Rattle.pl_base.specs.Files.{Files}
use Rattle.pl_base.specs.Names.{is_valid_name}
use Rattle.pl_folder.specs.Calls.{Takes}
use Rattle.pl_folder.specs.InMemory.{quiet}
use Rattle.pl_folder.specs.Taken.{taken}
use Rattle.pl_folder.specs.declared.fault.FolderFault.{FolderFault}
use Rattle.pl_folder.specs.declared.fault.FolderFault.TheVariants.{NotThere, TooLarge}
use Rattle.pl_form.specs.Files.{file_in}
use Rattle.pl_demo.specs.Counted.{counts_if, counts_in, counts_of, none}
use Rattle.pl_demo.specs.declared.counting.Counts.{Counts}

module _ (a b : Files) (name : List ℕ) where
  pub of_taken : {E : Type 0} (bytes : Vec ℕ Global) (lent : List ℕ) (r : Result Counts E) → Takes name (Ok bytes) (quiet a) (quiet b) → lent ≡ bytes.items → IfOk r (λ (k : Counts). k ≡ counts_if (file_in lent)) → IfOk r (λ (k : Counts). k ≡ counts_in (taken a name))
  of_taken bytes lent r took same counted =
      subst (λ (m : Counts). IfOk r (λ (k : Counts). k ≡ m)) (ap (λ (bs : List ℕ). counts_if (file_in bs)) same ∙ sym (ap (λ (t : Result (List ℕ) FolderFault). counts_in t) (took.bytes refl))) counted

  pub not_there : (k : Counts) → Takes name (Err NotThere) (quiet a) (quiet b) → k ≡ none → k ≡ counts_in (taken a name)
  not_there k took is = is ∙ sym (ap (λ (t : Result (List ℕ) FolderFault). counts_in t) (took.explained refl))

  pub too_large : (k : Counts) → Takes name (Err TooLarge) (quiet a) (quiet b) → k ≡ none → k ≡ counts_in (taken a name)
  too_large k took is = is ∙ sym (ap (λ (t : Result (List ℕ) FolderFault). counts_in t) (took.explained refl))

module _ (files : Files) (name : List ℕ) where
  pub valid_counts : is_valid_name name ≡ true → counts_of files name ≡ counts_in (taken files name)
  unfolding counts_of
  valid_counts valid = ap (λ (b : Bool). if b then counts_in (taken files name) else none) valid

  pub invalid_counts : is_valid_name name ≡ false → counts_of files name ≡ none
  unfolding counts_of
  invalid_counts invalid = ap (λ (b : Bool). if b then counts_in (taken files name) else none) invalid
