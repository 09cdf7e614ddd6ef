-- The file that is to be stored of an input.
use Rattle.std.proofs.Common.{◌≡◌, ◌≤◌, ◌<◌, ℕ, ◌+◌, List, length, Bool, true, false, Option, Some, None, refl, sym, ap, ◌∙◌, arith}
use Rattle.std.proofs.Math.ListN.{replicate}
use Rattle.std.proofs.lemmas.List.{length-replicate}
use Rattle.std.proofs.lemmas.Bool.Decides.{nat_tests}
use Rattle.std.specs.Prelude.{Result, Ok, Err, Vec, nat_lt}
use Rattle.std.specs.declared.alloc.Global.{Global}
use Rattle.pl_base.specs.Answers.{unless, because, ◌>>=◌}
use Rattle.pl_io.specs.Reads.{HasMore}
use Rattle.pl_io.specs.Seen.{HasReadAll, Input}
use Rattle.pl_io.specs.declared.read_fault.ReadFault.{ReadFault}
use Rattle.pl_io.specs.declared.read_fault.ReadFault.TheVariants as read_faults
use Rattle.pl_folder.specs.declared.TheConstants.{STORED}
use Rattle.pl_build.specs.Build.{build, Builds}
use Rattle.pl_build.specs.declared.fault.RecipeFault.{RecipeFault}
use Rattle.pl_build.specs.declared.fault.RecipeFault.TheVariants as recipe_faults
use Rattle.pl_texts.specs.declared.cause.Cause.{Cause}
use Rattle.pl_texts.specs.declared.cause.Cause.TheVariants.{InputTooLarge}
use Rattle.pl_texts.specs.declared.content.Content.{Content}
use Rattle.pl_texts.specs.declared.stop.Stop.{Stop}
use Rattle.pl_texts.specs.declared.stop.Stop.TheVariants as stops
use Rattle.pl_cli.specs.Came.{HasContent}
use Rattle.pl_texts.specs.Stops.{MeansAlone, StopsAlone, of_read_fault, of_recipe_fault}
use Rattle.pl_cli.specs.Words.{bytes_of}
use Rattle.pl_cli.specs.Writes.{AreBytes, content, file_by, most_bytes, recipe_cause}

-- ---- what an input means

abbrev pub if_stored : List ℕ → Result (List ℕ) Cause
if_stored file = unless (nat_lt STORED (length file)) InputTooLarge (Ok file)

-- one of more bytes is refused
pub too_large : (kind : Content) (input : List ℕ) → most_bytes kind < length input → content kind input ≡ Err InputTooLarge
unfolding content
too_large kind input more =
    let test : nat_lt (most_bytes kind) (length input) ≡ true = grind (arith, nat_tests) in
    ap (λ (b : Bool). unless b InputTooLarge (file_by kind input >>= if_stored)) test

-- of others its file decides
fits : (kind : Content) (input : List ℕ) → length input ≤ most_bytes kind → content kind input ≡ (file_by kind input >>= if_stored)
unfolding content
fits kind input few =
    let test : nat_lt (most_bytes kind) (length input) ≡ false = grind (arith, nat_tests) in
    ap (λ (b : Bool). unless b InputTooLarge (file_by kind input >>= if_stored)) test

module _ (kind : Content) (input : List ℕ) (few : length input ≤ most_bytes kind) where
  -- there is no file
  pub no_file : (stop : Stop) → StopsAlone (file_by kind input) stop → StopsAlone (content kind input) stop
  no_file (stops.Cause cause) is = fits kind input few ∙ ap (λ (r : Result (List ℕ) Cause). r >>= if_stored) is
  no_file stops.Failed is = is
  no_file stops.InputFailed is = is
  no_file stops.NoMemory is = is

  module _ (file : List ℕ) (is : file_by kind input ≡ Ok file) where
    -- one that no folder stores
    pub not_stored : STORED < length file → content kind input ≡ Err InputTooLarge
    not_stored more =
        let test : nat_lt STORED (length file) ≡ true = grind (arith, nat_tests) in
        fits kind input few ∙ ap (λ (r : Result (List ℕ) Cause). r >>= if_stored) is ∙ ap (λ (b : Bool). unless b InputTooLarge (Ok file)) test

    pub is_stored : length file ≤ STORED → content kind input ≡ Ok file
    is_stored small =
        let test : nat_lt STORED (length file) ≡ false = grind (arith, nat_tests) in
        fits kind input few ∙ ap (λ (r : Result (List ℕ) Cause). r >>= if_stored) is ∙ ap (λ (b : Bool). unless b InputTooLarge (Ok file)) test

-- a recipe
pub unbuilt : (recipe : List ℕ) (fault : RecipeFault) → Builds (Err fault) (build recipe) → StopsAlone (because recipe_cause (build recipe)) (of_recipe_fault fault)
unbuilt recipe (recipe_faults.Bad number kind) bad = ap (because recipe_cause) bad
unbuilt recipe recipe_faults.NoMemory bad = tt

-- ---- what is read of it

more_bytes : (kind : Content) (tells after : Option (List ℕ)) → HasMore tells after (most_bytes kind) → (bytes : List ℕ) × AreBytes tells bytes × (content kind bytes ≡ Err InputTooLarge)
more_bytes kind (Some input) after more = (input, λ _. refl, too_large kind input more.0)
more_bytes kind None after more =
    let size : length {A = ℕ} (replicate (most_bytes kind + 1) 0) ≡ most_bytes kind + 1 = length-replicate {A = ℕ} (most_bytes kind + 1) 0 in
    (replicate (most_bytes kind + 1) 0, λ e. cc, too_large kind (replicate (most_bytes kind + 1) 0) (omega (arith, size)))

module _ (kind : Content) {left rest : Input} where
  -- reading stopped
  pub unread : (fault : ReadFault) → HasReadAll (most_bytes kind) (Err fault) left rest → HasContent kind (Err (of_read_fault fault)) left rest
  unread read_faults.Failed read = record { bytes = bytes_of left.left; told = λ _. refl; means = tt; folder = refl; input = record { untouched = λ e. cc; tells = read.tells; most = λ _ e. cc; count = read.count } }
  unread read_faults.TooLarge read =
      let more = more_bytes kind left.left rest.left read.stops in
      record { bytes = more.0; told = more.1; means = λ _. more.2; folder = refl; input = record { untouched = λ e. cc; tells = read.tells; most = λ _ _. read.took_fault; count = read.count } }
  unread read_faults.NoMemory read = record { bytes = bytes_of left.left; told = λ _. refl; means = tt; folder = refl; input = record { untouched = λ e. cc; tells = read.tells; most = λ _ _. read.took_fault; count = read.count } }

  module _ (input : Vec ℕ Global) (read : HasReadAll (most_bytes kind) (Ok input) left rest) where
    are_bytes : AreBytes left.left input.items
    are_bytes told = sym (ap bytes_of (read.bytes told))

    -- all was read
    pub was_read : (r : Result (List ℕ) Stop) → MeansAlone (content kind input.items) r → HasContent kind r left rest
    was_read (Ok file) alone = record { bytes = input.items; told = are_bytes; means = λ _. alone; folder = refl; input = record { untouched = λ e. cc; tells = read.tells; most = λ _ _. read.took; count = read.count } }
    was_read (Err (stops.Cause cause)) alone = record { bytes = input.items; told = are_bytes; means = λ _. alone; folder = refl; input = record { untouched = λ e. cc; tells = read.tells; most = λ _ _. read.took; count = read.count } }
    was_read (Err stops.Failed) alone = absurd alone
    was_read (Err stops.InputFailed) alone = absurd alone
    was_read (Err stops.NoMemory) alone = record { bytes = input.items; told = are_bytes; means = tt; folder = refl; input = record { untouched = λ e. cc; tells = read.tells; most = λ _ _. read.took; count = read.count } }
