-- Books: which library file a name and a stamp mean.
use Rattle.std.specs.Prelude.{◌≡◌, ℕ, ◌≤◌, Bool, false, nat_lt, nat_eq, List, [], ◌∷◌, Option, Some, None, Ok, if◌then◌else◌}
use Rattle.std.specs.List.{All}
use Rattle.std.specs.Str.{bytes_eq}
use Rattle.pl_object.specs.declared.object.Object.{Object}
use Rattle.pl_elf.specs.declared.kind.Kind.TheVariants.{Library}
use Rattle.law_sound.specs.Rule.{Row, Mark, Format, Files, mark_at}
use Rattle.law_sound.proofs.Matching.{RuleAt}

abbrev pub Book : Type 0
Book = List ℕ → ℕ → Option (List ℕ)

-- the file of a name's row, where a list has one
abbrev pub found : Book → List ℕ → List Row → Option (List ℕ)
found book n [] = None
found book n (row ∷ rows) = if bytes_eq row.name n then book n row.stamp else found book n rows

abbrev pub list_of : Option Mark → List Row
list_of None = []
list_of (Some k) = k.list

-- the folder that a file means: itself, and the files of its list
abbrev pub meant : {E : Type 0} → Format E → Book → List ℕ → List ℕ → Files
meant f book n file m = if bytes_eq n m then Some file else found book m (list_of (f.mark file))

-- a file is good at a name: where it matches among the files that it means, the rule holds of it there
abbrev pub Good : {E : Type 0} → Format E → Book → List ℕ → List ℕ → Type 0
Good f book n file = RuleAt f (meant f book n file) n

-- ---- books made of folders

abbrev pub has_stamp : Option Mark → ℕ → Bool
has_stamp None stamp = false
has_stamp (Some k) stamp = nat_eq k.stamp stamp

-- a folder's own book
abbrev pub own : {E : Type 0} → Format E → Files → Book
own f files n stamp = if has_stamp (mark_at f (files n)) stamp then files n else None

-- one book below a stamp, another from it on
abbrev pub joined : ℕ → Book → Book → Book
joined stamp old new n s = if nat_lt s stamp then old n s else new n s

-- ---- files that were seen

abbrev pub Seen : Type 1
Seen = List ℕ → List ℕ → Type 0

-- each marked library that was seen is in the book, each marked file is good, and no stamp or list row is past the last stamp
pub record Keeps {E : Type 0} (f : Format E) (seen : List ℕ → List ℕ → Type 0) (book : Book) (last : ℕ) : Type 0 where
  pub covered : (n file : List ℕ) (k : Mark) (o : Object) → seen n file → f.mark file ≡ Some k → f.reads n (f.original file) ≡ Ok o → o.kind ≡ Library → book n k.stamp ≡ Some file
  pub good : (n file : List ℕ) (k : Mark) → seen n file → f.mark file ≡ Some k → Good f book n file
  pub stamps : (n file : List ℕ) (k : Mark) → seen n file → f.mark file ≡ Some k → k.stamp ≤ last
  pub lists : (n file : List ℕ) (k : Mark) → seen n file → f.mark file ≡ Some k → All (λ r. r.stamp ≤ last) k.list

-- a folder each of whose files was seen
abbrev pub IsFrom : (List ℕ → List ℕ → Type 0) → Files → Type 0
IsFrom seen files = (n file : List ℕ) → files n ≡ Some file → seen n file
