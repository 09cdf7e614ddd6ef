-- How large the originals of files are together.
use Rattle.std.proofs.Common.{◌≡◌, ℕ, ◌+◌, ◌-◌, ◌≤◌, ◌<◌, List, [], ◌∷◌, true, false, refl, ◌∙◌, ap, arith}
use Rattle.std.proofs.lemmas.Bool.{le-ltb, lt-ltb}
use Rattle.std.specs.Prelude.{fold, length, nat_lt}
use Rattle.pl_form.specs.Files.{original_in}
use Rattle.pl_rewrite.specs.TakenFile.{Taken}
use Rattle.pl_batch.specs.Folder.{are_large}
use Rattle.pl_change.specs.declared.room.TheConstants.{FOLDER}
use Rattle.pl_batch.proofs.FolderLemmas.{bytes_of}

-- so many bytes, and those of the originals of files
abbrev from : ℕ → List Taken → ℕ
from a ts = fold (λ most file. most + length (original_in file)) a (bytes_of ts)

no_less : (a : ℕ) (ts : List Taken) → a ≤ from a ts
no_less a [] = omega arith
no_less a (t ∷ ts) = omega (arith, no_less (a + length (original_in t.bytes)) ts)

-- so many bytes are left of those that a run takes, and these files are not counted yet
pub record LeftFor (left : ℕ) (rest all : List Taken) : Type 0 where
  pub few : left ≤ FOLDER
  pub same : are_large (bytes_of all) ≡ nat_lt FOLDER (from (FOLDER - left) rest)

pub all_left : (ts : List Taken) → LeftFor FOLDER ts ts
unfolding are_large
all_left ts = record { few = omega arith; same = refl }

module _ (left : ℕ) (t : Taken) (rest all : List Taken) (so_far : LeftFor left (t ∷ rest) all) (size : ℕ) (is : size ≡ length (original_in t.bytes)) where
  pub goes_over : left < size → are_large (bytes_of all) ≡ true
  goes_over over =
      let few = so_far.few in
      let most = no_less (FOLDER - left + length (original_in t.bytes)) rest in
      so_far.same ∙ lt-ltb FOLDER (from (FOLDER - left + length (original_in t.bytes)) rest) (omega (arith, few, over, is, most))

  pub takes_up : (next : ℕ) → size ≤ left → next ≡ left - size → LeftFor next rest all
  takes_up next fits same =
      let few = so_far.few in
      let sum : FOLDER - left + length (original_in t.bytes) ≡ FOLDER - next = omega (arith, few, fits, is, same) in
      record { few = omega (arith, few, same); same = so_far.same ∙ ap (λ a. nat_lt FOLDER (from a rest)) sum }

pub none_left : (left : ℕ) (all : List Taken) → LeftFor left [] all → are_large (bytes_of all) ≡ false
none_left left all so_far = so_far.same ∙ le-ltb FOLDER (FOLDER - left) (omega arith)
