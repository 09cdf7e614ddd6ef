-- What is read of a file.
use Rattle.std.specs.Prelude.{◌≡◌, ℕ, List, None, Ok}
use Rattle.pl_form.specs.Files.{marked_in}
use Rattle.pl_object.specs.Reads.{reads}
use Rattle.pl_object.specs.declared.object.Object.{Object}

-- an object is read of bytes, which are no prelinked file
pub record IsReadAs (bytes : List ℕ) (o : Object) : Type 0 where
  pub read : reads bytes ≡ Ok o
  pub bare : marked_in bytes ≡ None
