-- In which order the objects of a walk are initialised, or the first cause why there is no such walk. It may begin with a library.
use Rattle.std.specs.Prelude.{◌≤◌, ℕ, not, List, length, map, Result, Ok}
use Rattle.std.specs.List.{All}
use Rattle.pl_base.specs.Answers.{◌>>=◌, because, unless}
use Rattle.pl_base.specs.Files.{Files}
use Rattle.pl_base.specs.Names.{is_valid_name}
use Rattle.pl_form.specs.Files as forms
use Rattle.pl_form.specs.declared.fault.FileFault.{FileFault}
use Rattle.pl_form.specs.declared.file.File.{File}
use Rattle.pl_form.specs.declared.file.File.TheVariants as files
use Rattle.pl_object.specs.declared.object.Object.{Object}
use Rattle.pl_scope.specs.Members.{IsWalk}
use Rattle.pl_scope.specs.Scope.{IsAccepted}
use Rattle.pl_scope.specs.Walk.{Walked, walk}
use Rattle.pl_scope.specs.declared.constants.TheConstants.{MAX_MEMBERS}
use Rattle.pl_init.specs.OrderText.{full_text, short_text}
use Rattle.pl_loader.specs.Faults.{of_file}
use Rattle.pl_loader.specs.Walk.{walk_fault}
use Rattle.pl_texts.specs.Files.{file_in}
use Rattle.pl_texts.specs.Looks.{ObjectOf}
use Rattle.pl_texts.specs.declared.cause.Cause.{Cause}
use Rattle.pl_texts.specs.declared.cause.Cause.TheVariants as causes
use Rattle.pl_texts.specs.declared.detail.Detail.{Detail}
use Rattle.pl_texts.specs.declared.detail.Detail.TheVariants.{Short, Full}
use Rattle.pl_texts.specs.declared.named_object.NamedObject.{NamedObject}

-- ---- the walk

-- the object of a file: a prelinked one has that of its original
abbrev pub object_by : File → Object
object_by (files.Plain x) = x
object_by (files.Marked m) = m.object

-- the object that the bytes of a file have, or why they have none: their mark, or else the first acceptance clause
unfoldable pub original : List ℕ → Result Object FileFault
original bytes = forms.file_in bytes >>= λ file. Ok (object_by file)

-- a refusal of the file of a name
abbrev pub refused_file : List ℕ → FileFault → Cause
refused_file name fault = causes.Load (of_file name fault)

-- the object of a name of the walk
unfoldable pub object_in : Files → ObjectOf
object_in files name = file_in files name >>= λ bytes. because (refused_file name) (original bytes)

-- the names of the walk with their objects, or the first cause why there is none
unfoldable pub walked : Files → List ℕ → Result Walked Cause
walked files name = unless (not (is_valid_name name)) causes.BadName (walk (walk_fault causes.Load) (object_in files) name)

-- ---- the text

-- the text of a walk's order, without or with the rows of who reaches whom
abbrev pub order_text : Detail → Walked → List ℕ
order_text Short walked = short_text walked
order_text Full walked = full_text walked

unfoldable pub ordered : Detail → Files → List ℕ → Result (List ℕ) Cause
ordered detail files name = walked files name >>= λ members. Ok (order_text detail members)

-- ---- as the code has it

abbrev pub member : NamedObject → List ℕ × Object
member m = (m.name, m.object)

abbrev pub members_of : List NamedObject → Walked
members_of members = map member members

-- these are accepted objects, and a walk
pub record AreMembers (members : List NamedObject) : Type 0 where
  pub few : length members ≤ MAX_MEMBERS
  pub accepted : All (λ m. IsAccepted m.object) members
  pub walk : IsWalk (members_of members)
