-- What comparing a prelinked file with what it should be comes to.
use Rattle.std.specs.Prelude.{ℕ, List, Option, Result}
use Rattle.pl_base.specs.Answers.{because}
use Rattle.pl_base.specs.Files.{Files}
use Rattle.pl_batch.specs.Verify.{verified}
use Rattle.pl_texts.specs.declared.cause.Cause.{Cause}
use Rattle.pl_texts.specs.Stops.{of_batch}

-- the original of a file that is the prelinked file of its walk's originals, with the versions, slots and stamps that the files bear, and none of any other; or the first cause of its walk
unfoldable pub verifies : List ℕ → Files → Result (Option (List ℕ)) Cause
verifies name files = because of_batch (verified files name)
