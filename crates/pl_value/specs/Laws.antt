-- What holds of the meanings of an accepted scope at disjoint places.
use Rattle.std.specs.Prelude.{◌≡◌, ◌≤◌, ℕ, Bool, true, false, not, List, Option, Some, None, Ok, slice_get}
use Rattle.std.specs.List.{All, AllZip}
use Rattle.pl_base.specs.Memory.{AtMostOne}
use Rattle.pl_tls.specs.declared.module.Module.{Module}
use Rattle.pl_object.specs.Accepted.{is_exec}
use Rattle.pl_object.specs.Reads.{reads}
use Rattle.pl_object.specs.declared.object.Object.{Object}
use Rattle.pl_value.specs.Meanings.{meanings}
use Rattle.pl_value.specs.Linked.{under}
use Rattle.pl_value.specs.Ordinary.{ArePlaced}
use Rattle.pl_value.specs.declared.meaning.Meaning.{Meaning}
use Rattle.pl_value.specs.declared.word.Word.{Word}
use Rattle.pl_value.specs.declared.word.Word.TheVariants.{Put, Copy, Nothing}

-- ---- accepted scopes

-- acceptance reads each object of its file
abbrev pub AreRead : List (List ℕ) → List Object → Type 0
AreRead parts objects = AllZip (λ bytes o. reads bytes ≡ Ok o) parts objects

-- ---- every word fits its place

-- a word has the place's eight bytes; what is copied fits the place, and is copied in a program alone; in a library nothing but a place of no bytes stays as it is
abbrev pub Fits : Bool → ℕ → Word → Type 0
Fits library size (Put word) = size ≡ 8
Fits library size (Copy member from bytes) = (library ≡ false) × (bytes ≤ size)
Fits library size Nothing = library ≡ true → size ≡ 0

abbrev pub is_shared : Option Object → Bool
is_shared None = false
is_shared (Some o) = not (is_exec o)

abbrev pub is_shared_at : List Object → ℕ → Bool
is_shared_at objects member = is_shared (slice_get objects member)

-- every meaning fits, where these members are libraries
abbrev pub AllFit : (ℕ → Bool) → List Meaning → Type 0
AllFit library gs = All (λ g. Fits (library g.member) g.size g.word) gs

-- ---- the laws

abbrev pub WordsFit : Type 0
WordsFit = (parts : List (List ℕ)) (objects : List Object) (places : List ℕ) (modules : List Module) (gs : List Meaning)
    → AreRead parts objects → meanings objects places modules ≡ Ok gs → AllFit (is_shared_at objects) gs

-- at most one place is over an address
abbrev pub PlacesAreApart : Type 0
PlacesAreApart = (parts : List (List ℕ)) (objects : List Object) (places : List ℕ) (modules : List Module) (gs : List Meaning)
    → AreRead parts objects → ArePlaced places parts objects → meanings objects places modules ≡ Ok gs → AtMostOne under gs
