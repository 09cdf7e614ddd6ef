-- A file that is read as it stands.
use Rattle.std.proofs.Common.{◌≡◌, ℕ, false, List, None, Ok, refl}
use Rattle.std.specs.Prelude.{◌<◌, ◌^◌, length}
use Rattle.pl_form.specs.Files.{file_in, marked_in}
use Rattle.pl_form.specs.Marks.{has_mark}
use Rattle.pl_form.specs.declared.file.File.TheVariants.{Plain}
use Rattle.pl_object.specs.Reads.{reads}
use Rattle.pl_object.specs.declared.object.Object.{Object}
use Rattle.pl_loader.specs.Given.{IsReadPlain}
use Rattle.pl_loader.specs.Loading.{IsRead}
use Rattle.pl_loader.specs.Walk.{named, with_mark}

-- an accepted file that is no prelinked one and bears no mark is what acceptance reads
pub plain_read : (bytes : List ℕ) (o : Object) → reads bytes ≡ Ok o → marked_in bytes ≡ None → has_mark bytes ≡ false → IsReadPlain bytes o
unfolding file_in
plain_read bytes o read bare plain = record { read = read; file = rw (bare, plain, read) refl }

-- so it is the file of its name
pub named_plain : (n bytes : List ℕ) (o : Object) → IsReadPlain bytes o → named n bytes ≡ Ok (with_mark n bytes (Plain o))
unfolding named
named_plain n bytes o is = rw is.file refl

pub read_plain : (n bytes : List ℕ) (o : Object) → length bytes < 2 ^ 32 → IsReadPlain bytes o → IsRead (with_mark n bytes (Plain o))
read_plain n bytes o few is = record { size = few; object = is.read; mark = tt }
