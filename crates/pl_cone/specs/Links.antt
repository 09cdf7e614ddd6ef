-- What the relocations of a walk find, and whether each has a value.
use Rattle.std.specs.Prelude.{◌≡◌, ◌<◌, ℕ, List, [], map, drop, length, slice_get, slice_index_or, Option, Some, None, Result, Ok, Err}
use Rattle.std.specs.List.{All}
use Rattle.pl_base.specs.Answers.{◌>>=◌, Answers, because}
use Rattle.pl_base.specs.Each.{each}
use Rattle.pl_cone.specs.Candidates.{blocks, check_links, of_link, zeros}
use Rattle.pl_cone.specs.OneWord.{GivesOneWordBy}
use Rattle.pl_cone.specs.Skips.{skip_is_memory}
use Rattle.pl_conflict.specs.Between.{HoldsBetween}
use Rattle.pl_conflict.specs.Own.{FindAll}
use Rattle.pl_cone.specs.declared.linking.Link.{Link}
use Rattle.pl_cone.specs.declared.skip.Skip.{Skip}
use Rattle.pl_cone.specs.declared.scopes.WalkLinking.{WalkLinking}
use Rattle.pl_object.specs.declared.object.Object.{Object}
use Rattle.pl_object.specs.declared.reloc.Reloc.{Reloc}
use Rattle.pl_scope.specs.Folder.{IsIndexAmong}
use Rattle.pl_scope.specs.Scope.{objects}
use Rattle.pl_scope.specs.Walk.{Walked}
use Rattle.pl_scope.specs.declared.found.Found.{Found}
use Rattle.pl_scope.specs.declared.index.Entry.{Entry}
use Rattle.pl_tls.specs.Layout.{offsets}
use Rattle.pl_value.specs.Meanings.{Row, meaning, row, rows_from}
use Rattle.pl_value.specs.Values.{relocations_in}
use Rattle.pl_value.specs.declared.fault.LinkFault.{LinkFault}
use Rattle.pl_value.specs.declared.meaning.Meaning.{Meaning}

-- ---- what is kept of a file

abbrev pub GivesOneWordOf : List Entry → List Object → List Reloc → ℕ → Type 0
GivesOneWordOf definers own relocs i = (d : Reloc) → GivesOneWordBy definers own (slice_index_or relocs i d)

-- the indexes of the remaining ones, in their order; each other is of one word
abbrev pub AreRemaining : List Entry → List Object → List Reloc → List ℕ → Type 0
AreRemaining definers own relocs remaining = HoldsBetween (GivesOneWordOf definers own relocs) (length relocs) 0 remaining

-- what the own relocations of a library find by its walk, and which remain
pub record IsLinkOf (definers : List Entry) (own : Walked) (l : Link) : Type 0 where
  pub found : FindAll (objects own) l.found
  pub remaining : AreRemaining definers (objects own) (relocations_in (slice_get (objects own) 0)) l.remaining

-- ---- a program's walk that is linked

abbrev pub objects_of : WalkLinking → List Object
objects_of l = objects l.scope.now

-- there is a place for each member, and the index tells of them
pub record IsLinking (l : WalkLinking) : Type 0 where
  pub one_each : length l.places.now ≡ length l.scope.now
  pub index : IsIndexAmong (objects_of l) l.among

-- that there is a value, or the refusal
abbrev pub done : {X : Type 0} → Result X LinkFault → Result (Unit {0}) LinkFault
done r = r >>= λ x. Ok tt

abbrev pub meaning_in : WalkLinking → Row → Result Meaning LinkFault
meaning_in l x = meaning (objects_of l) l.places.now l.modules.now x

abbrev pub row_has_in : WalkLinking → Row → Result (Unit {0}) LinkFault
row_has_in l x = done (meaning_in l x)

abbrev pub rows_have_in : WalkLinking → List Row → Result (Unit {0}) LinkFault
rows_have_in l xs = done (each (meaning_in l) xs)

-- the relocations of the first member, and those of the others
abbrev pub first_rows : WalkLinking → List Row
first_rows l = map (row 0) (relocations_in (slice_get (objects_of l) 0))

abbrev pub other_rows : WalkLinking → List Row
other_rows l = rows_from 1 (drop 1 (objects_of l))

-- those of the members after the first have values, or the first refusal
abbrev pub others_have : WalkLinking → Result (Unit {0}) LinkFault
others_have l = rows_have_in l (other_rows l)

abbrev pub reloc_has_in : WalkLinking → ℕ → Option Reloc → Result (Unit {0}) LinkFault
reloc_has_in l member None = Ok tt
reloc_has_in l member (Some r) = row_has_in l (row member r)

-- the relocation of an index has a value, or the refusal
abbrev pub value_at : WalkLinking → ℕ → List Reloc → ℕ → Result (Unit {0}) LinkFault
value_at l member rs i = reloc_has_in l member (slice_get rs i)

abbrev pub HasValue : WalkLinking → ℕ → Reloc → Type 0
HasValue l member r = (g : Meaning) × (meaning_in l (row member r) ≡ Ok g)

abbrev pub HasValueOf : WalkLinking → ℕ → List Reloc → ℕ → Type 0
HasValueOf l member rs i = (d : Reloc) → HasValue l member (slice_index_or rs i d)

-- the relocations of a member that do not remain have values
abbrev pub TellsOf : WalkLinking → ℕ → List Reloc → List ℕ → Type 0
TellsOf l member rs remaining = HoldsBetween (HasValueOf l member rs) (length rs) 0 remaining

-- each member has a link, by its row
pub record HaveLinks (own : Walked) (walk : List ℕ) (links : List Link) : Type 0 where
  pub each : length walk ≡ length own
  pub within : All (λ r. r < length links) walk

-- links tell it of each member after the first, by its row
abbrev pub TellOfOthers : WalkLinking → List ℕ → List Link → Type 0
TellOfOthers l walk links = (m r : ℕ) (o : Object) (link : Link) → 0 < m → slice_get (objects_of l) m ≡ Some o → slice_get walk m ≡ Some r → slice_get links r ≡ Some link → TellsOf l m o.relocations link.remaining

-- a walk is linked with each member at 0
pub record IsLinkingAtZero (l : WalkLinking) : Type 0 where
  pub is : IsLinking l
  pub places : l.places.now ≡ zeros l.scope.now
  pub tls : offsets (blocks l.scope.now) ≡ Ok l.modules.now

-- what each relocation of the first member finds, where all have values, or the first refusal by names
abbrev pub FindsOwn : WalkLinking → Result (List (Option Found)) Skip → Type 0
FindsOwn l (Ok found) = FindAll (objects_of l) found × (rows_have_in l (first_rows l) ≡ Ok tt)
FindsOwn l (Err skip) = Answers skip_is_memory (Err skip) (because (of_link l.scope.now) (rows_have_in l (first_rows l)))

-- ---- a program by its walk

-- the relocations of each member after the first that do not vary have values, wherever thread-local storage is
abbrev pub TellLinks : Walked → List ℕ → List Link → Type 0
TellLinks own walk links = (linking : WalkLinking) → linking.scope.now ≡ own → linking.places.now ≡ zeros own → TellOfOthers linking walk links

-- a walk has a first member, each has a link, and those of the others tell what varies
pub record MayLink (own : Walked) (rows : List ℕ) (links : List Link) : Type 0 where
  pub some : 0 < length own
  pub walk : HaveLinks own rows links
  pub tell : TellLinks own rows links

-- what its relocations find where its walk links; or the refusal
abbrev pub LinksProgram : Walked → Result Link Skip → Type 0
LinksProgram own (Ok l) = FindAll (objects own) l.found × ((l.remaining ≡ []) × (check_links own ≡ Ok tt))
LinksProgram own (Err skip) = Answers skip_is_memory (Err skip) (check_links own)
