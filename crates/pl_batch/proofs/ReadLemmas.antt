-- Files that are taken one after the other.
use Rattle.std.proofs.Common.{◌≡◌, ℕ, List, [], ◌∷◌, ◌++◌, Bool, true, false, cond, refl, sym, ◌∙◌, ap, append_assoc, subst}
use Rattle.std.proofs.lemmas.List.Elements.{All-push}
use Rattle.std.proofs.lemmas.List.{append-nil}
use Rattle.std.specs.List.{All}
use Rattle.std.specs.Prelude.{Result, Ok, Err, Vec, filter, map}
use Rattle.std.specs.declared.alloc.Global.{Global}
use Rattle.pl_base.specs.Answers.{◌>>=◌}
use Rattle.pl_base.specs.Each.{each, with_front}
use Rattle.pl_base.specs.Files.{Files}
use Rattle.pl_base.specs.Names.{is_valid_name}
use Rattle.pl_base.proofs.EachLaws.{front_nothing, regroup}
use Rattle.pl_folder.specs.Calls.{Calls}
use Rattle.pl_folder.specs.Seen.{Seen, Done}
use Rattle.pl_journal.specs.Parts.{Looking}
use Rattle.pl_elf.specs.declared.range.Range.{Range}
use Rattle.pl_change.specs.Answers.{Finds}
use Rattle.pl_change.specs.Folder.{all_files}
use Rattle.pl_change.specs.Names.{file_of}
use Rattle.pl_change.specs.declared.cause.Cause.{Cause}
use Rattle.pl_change.specs.declared.fault.BatchFault.{BatchFault}
use Rattle.pl_change.specs.declared.fault.BatchFault.TheVariants.{DiskFailed, NoMemory}
use Rattle.pl_change.specs.declared.fault.BatchFault.TheVariants as faults
use Rattle.pl_change.proofs.FindLemmas.{lacks, lacks_finds, no_asking, reads_on}
use Rattle.pl_rewrite.specs.Taken.{IsTaken, names_of, taken_of}
use Rattle.pl_rewrite.specs.TakenFile.{Taken}
use Rattle.pl_batch.proofs.FolderLemmas.{bytes_of}
use Rattle.pl_change.proofs.UndoLemmas.{items}

abbrev pub valid_of : List (List ℕ) → List (List ℕ)
valid_of ns = filter is_valid_name ns

abbrev pub bytes : Taken → List ℕ
bytes t = t.bytes

map_push : {X Y : Type 0} (f : X → Y) (xs : List X) (x : X) → map f (xs ++ x ∷ []) ≡ map f xs ++ f x ∷ []
map_push f [] x = refl
map_push f (y ∷ ys) x = ap (λ rest. f y ∷ rest) (map_push f ys x)

-- the files so far, and the names that are left
pub record TakenSoFar (a b : Seen) (all left : List (List ℕ)) (ts : List Taken) : Type 0 where
  pub means : a.tells ≡ true → each (file_of a.files) (valid_of all) ≡ with_front (bytes_of ts) (each (file_of a.files) (valid_of left))
  pub names : names_of ts ++ valid_of left ≡ valid_of all
  pub calls : Calls Done Looking a b

module _ (a : Seen) (all : List (List ℕ)) where
  pub begins : (ts : List Taken) → ts ≡ [] → TakenSoFar a a all all ts
  begins ts none = record {
    means = λ t. sym (front_nothing (each (file_of a.files) (valid_of all))) ∙ ap (λ (ys : List Taken). with_front (bytes_of ys) (each (file_of a.files) (valid_of all))) (sym none);
    names = ap (λ (ys : List Taken). names_of ys ++ valid_of all) none;
    calls = no_asking a;
  }

  module _ {b : Seen} (n : List ℕ) (rest : List (List ℕ)) (ts : List Taken) (so_far : TakenSoFar a b all (n ∷ rest) ts) where
    -- a name that is not valid
    pub skips : is_valid_name n ≡ false → TakenSoFar a b all rest ts
    skips invalid =
        let same : valid_of (n ∷ rest) ≡ valid_of rest = ap (λ (v : Bool). cond v (n ∷ valid_of rest) (valid_of rest)) invalid in
        record {
          means = λ t. so_far.means t ∙ ap (λ (ks : List (List ℕ)). with_front (bytes_of ts) (each (file_of a.files) ks)) same;
          names = ap (λ (ks : List (List ℕ)). names_of ts ++ ks) (sym same) ∙ so_far.names;
          calls = so_far.calls;
        }

    module _ (valid : is_valid_name n ≡ true) where
      here : valid_of (n ∷ rest) ≡ n ∷ valid_of rest
      here = ap (λ (v : Bool). cond v (n ∷ valid_of rest) (valid_of rest)) valid

      -- what the files mean, by the file of this name
      goes : a.tells ≡ true → (r : Result (List ℕ) Cause) → file_of b.files n ≡ r
          → each (file_of a.files) (valid_of all) ≡ with_front (bytes_of ts) (r >>= λ y. each (file_of a.files) (valid_of rest) >>= λ ys. Ok (y ∷ ys))
      unfolding each
      goes t r is =
          so_far.means t
          ∙ ap (λ (ks : List (List ℕ)). with_front (bytes_of ts) (each (file_of a.files) ks)) here
          ∙ ap (λ (m : Result (List ℕ) Cause). with_front (bytes_of ts) (m >>= λ y. each (file_of a.files) (valid_of rest) >>= λ ys. Ok (y ∷ ys))) (ap (λ (f : Files). file_of f n) (sym (so_far.calls.files t)) ∙ is)

      pub goes_on : {c : Seen} (taken : Taken) → Finds (file_of b.files n) bytes (Ok taken) b c → taken.name ≡ n → (next : List Taken) → next ≡ ts ++ taken ∷ [] → TakenSoFar a c all rest next
      goes_on taken found name next is = record {
        means = λ t. goes t (Ok taken.bytes) (found.means (so_far.calls.tells ∙ t))
            ∙ regroup (bytes_of ts) taken.bytes (each (file_of a.files) (valid_of rest))
            ∙ ap (λ (front : List (List ℕ)). with_front front (each (file_of a.files) (valid_of rest))) (sym (map_push bytes ts taken))
            ∙ ap (λ (ys : List Taken). with_front (bytes_of ys) (each (file_of a.files) (valid_of rest))) (sym is);
        names = ap (λ (ys : List Taken). names_of ys ++ valid_of rest) is
            ∙ ap (λ (ks : List (List ℕ)). ks ++ valid_of rest) (map_push (λ t. t.name) ts taken)
            ∙ append_assoc (names_of ts) (taken.name ∷ []) (valid_of rest)
            ∙ ap (λ (k : List ℕ). names_of ts ++ k ∷ valid_of rest) name
            ∙ ap (λ (ks : List (List ℕ)). names_of ts ++ ks) (sym here)
            ∙ so_far.names;
        calls = reads_on so_far.calls found.calls;
      }

      pub stops_at : {c : Seen} (fault : BatchFault) → Finds (file_of b.files n) bytes (Err fault) b c → Finds (all_files a.files (valid_of all)) bytes_of (Err fault) a c
      unfolding all_files
      stops_at DiskFailed found = record { means = tt; calls = reads_on so_far.calls found.calls }
      stops_at NoMemory found = record { means = tt; calls = reads_on so_far.calls found.calls }
      stops_at (faults.Cause cause) found = record { means = λ t. goes t (Err cause) (found.means (so_far.calls.tells ∙ t)); calls = reads_on so_far.calls found.calls }

      -- no memory for the file
      pub lacks_at : {c : Seen} (taken : Taken) → Finds (file_of b.files n) bytes (Ok taken) b c → Finds (all_files a.files (valid_of all)) bytes_of (Err NoMemory) a c
      lacks_at taken found = record { means = tt; calls = lacks (reads_on so_far.calls found.calls) }

  module _ {b : Seen} (ts : List Taken) (so_far : TakenSoFar a b all [] ts) where
    pub ends : Finds (all_files a.files (valid_of all)) bytes_of (Ok ts) a b
    unfolding all_files each
    ends = record { means = λ t. so_far.means t ∙ ap Ok (append-nil (bytes_of ts)); calls = so_far.calls }

    pub end_names : names_of ts ≡ valid_of all
    end_names = sym (append-nil (names_of ts)) ∙ so_far.names

-- one more that was taken
pub all_on : (region : Range) (ts : List Taken) (t : Taken) (next : List Taken) → next ≡ ts ++ t ∷ [] → All (IsTaken region) ts → IsTaken region t → All (IsTaken region) next
all_on region ts t next is all one = subst (λ (us : List Taken). All (IsTaken region) us) (sym is) (All-push (IsTaken region) ts t all one)

-- ---- one file

module _ (name : List ℕ) {a b : Seen} where
  pub one_untaken : (fault : BatchFault) → Finds (file_of a.files name) items (Err fault) a b → Finds (file_of a.files name) bytes (Err fault) a b
  one_untaken fault found = record { means = found.means; calls = found.calls }

  pub one_lacks : (file : Vec ℕ Global) → Finds (file_of a.files name) items (Ok file) a b → Finds (file_of a.files name) bytes (Err NoMemory) a b
  one_lacks file found = lacks_finds (file_of a.files name) bytes found.calls

  pub one_taken : (file : Vec ℕ Global) (region : Range) (taken : Taken) → Finds (file_of a.files name) items (Ok file) a b → taken ≡ taken_of region name file.items → Finds (file_of a.files name) bytes (Ok taken) a b
  unfolding taken_of
  one_taken file region taken found is = record { means = λ t. found.means t ∙ ap Ok (sym (ap bytes is)); calls = found.calls }

pub one_name : (name file : List ℕ) (region : Range) (taken : Taken) → taken ≡ taken_of region name file → taken.name ≡ name
unfolding taken_of
one_name name file region taken is = ap (λ (t : Taken). t.name) is
