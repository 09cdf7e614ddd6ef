-- What is found in a folder: what a command gives of it, or why it stopped, and what is asked of the folder.
use Rattle.std.specs.Prelude.{◌≡◌, ℕ, Bool, true, false, List, Result, Vec, count_by, [], ◌∷◌}
use Rattle.std.specs.declared.alloc.Global.{Global}
use Rattle.pl_base.specs.Names.{is_valid_name}
use Rattle.pl_folder.specs.Calls.{Calls}
use Rattle.pl_folder.specs.Effects.{Asks, Effect}
use Rattle.pl_folder.specs.Seen.{Seen, is_broken}
use Rattle.pl_texts.specs.declared.cause.Cause.{Cause}
use Rattle.pl_texts.specs.declared.detail.Detail.{Detail}
use Rattle.pl_texts.specs.declared.named_object.NamedObject.{NamedObject}
use Rattle.pl_texts.specs.declared.stop.Stop.{Stop}
use Rattle.pl_texts.specs.Files.{file_in}
use Rattle.pl_texts.specs.Looks.{takes}
use Rattle.pl_texts.specs.Order.{members_of, object_in, ordered, walked}
use Rattle.pl_texts.specs.Print.{printed}
use Rattle.pl_texts.specs.Endings.{ending_of, is_read_fault}
use Rattle.pl_texts.specs.Stops.{Means, status_of}

-- A value, seen by a view, or a cause is what is meant, where the folder is asked and tells its files; its calls have this effect; and it fails only where it is asked.
pub record Finds {X Y : Type 0} (asks : Bool) (effect : Effect) (meant : Result X Cause) (view : Y → X) (result : Result Y Stop) (old new : Seen) : Type 0 where
  pub means : Means (asks ≡ true → old.tells ≡ true) meant view result
  pub reads : is_read_fault (status_of result) ≡ false
  pub fails : is_broken (ending_of (status_of result)) ≡ true → asks ≡ true
  pub calls : Calls (ending_of (status_of result)) effect old new

-- the file of a name, or the object that it is. Only a valid name has one
abbrev pub HasTaken : List ℕ → Result (Vec ℕ Global) Stop → Seen → Seen → Type 0
HasTaken name result old new = Finds (is_valid_name name) (Asks (count_by is_valid_name (name ∷ []))) (file_in old.files name) (λ bytes. bytes.items) result old new

abbrev pub HasObject : List ℕ → Result NamedObject Stop → Seen → Seen → Type 0
HasObject name result old new = Finds (is_valid_name name) (Asks (count_by is_valid_name (name ∷ []))) (object_in old.files name) (λ m. m.object) result old new

-- the objects of a walk
abbrev pub HasWalked : List ℕ → Result (Vec NamedObject Global) Stop → Seen → Seen → Type 0
HasWalked name result old new = Finds (is_valid_name name) (Asks (takes (object_in old.files) name)) (walked old.files name) (λ members. members_of members.items) result old new

-- the text of an order, or of the cache
abbrev pub HasOrdered : List ℕ → Detail → Result (Vec ℕ Global) Stop → Seen → Seen → Type 0
HasOrdered name detail result old new = Finds (is_valid_name name) (Asks (takes (object_in old.files) name)) (ordered detail old.files name) (λ text. text.items) result old new

abbrev pub HasPrinted : Result (Vec ℕ Global) Stop → Seen → Seen → Type 0
HasPrinted result old new = Finds true (Asks 1) (printed old.files) (λ text. text.items) result old new
