-- Files that bear marks, and the rule that their folder meets.
use Rattle.std.specs.Prelude.{◌≡◌, ◌⊎◌, ℕ, Bool, true, false, ◌&&◌, nat_eq, List, [], ◌∷◌, map, Option, Some, None, Result, Ok, Err}
use Rattle.std.specs.List.{list_all}
use Rattle.std.specs.Option.{is_some}
use Rattle.std.specs.Str.{bytes_eq}
use Rattle.std.specs.Cmp.Lexicographic.{pointwise}
use Rattle.pl_object.specs.declared.object.Object.{Object}
use Rattle.pl_elf.specs.declared.kind.Kind.TheVariants.{Library, Program}
use Rattle.pl_scope.specs.declared.fault.WalkFault.{WalkFault}
use Rattle.pl_scope.specs.Walk.{Walked, walk}
use Rattle.pl_scope.specs.Members.{names, others, has}

-- a row of a list: another member's name and stamp, and its original's checksum
pub record Row : Type 0 where
  pub name : List ℕ
  pub stamp : ℕ
  pub checksum : ℕ

-- what a prelinked file tells of itself: the version of its mark, its slot and stamp, and its list
pub record Mark : Type 0 where
  pub version : ℕ
  pub slot : ℕ
  pub stamp : ℕ
  pub list : List Row

-- a member of a walk: its original, and the version, slot and stamp that it has or gets
pub record Member : Type 0 where
  pub name : List ℕ
  pub original : List ℕ
  pub version : ℕ
  pub slot : ℕ
  pub stamp : ℕ

-- what is known of a format: a file's original and mark (none: it is not marked), the object of a name's original, why a name without a file has none, a fault of the walk, checksums, the version of the marks that are made now, and the file that the members of its walk, it first, prelink
pub record Format (E : Type 0) : Type 0 where
  pub original : List ℕ → List ℕ
  pub mark : List ℕ → Option Mark
  pub reads : List ℕ → List ℕ → Result Object E
  pub absent : List ℕ → E
  pub walks : WalkFault → E
  pub checksum : List ℕ → ℕ
  pub version : ℕ
  pub prelinked : List Member → Option (List ℕ)

-- a folder: the bytes of a name, where it has a file
abbrev pub Files : Type 0
Files = List ℕ → Option (List ℕ)

-- ---- what a folder holds at a name

abbrev pub object_at : {E : Type 0} → Format E → List ℕ → Option (List ℕ) → Result Object E
object_at f n None = Err (f.absent n)
object_at f n (Some file) = f.reads n (f.original file)

abbrev pub mark_at : {E : Type 0} → Format E → Option (List ℕ) → Option Mark
mark_at f None = None
mark_at f (Some file) = f.mark file

abbrev pub original_at : {E : Type 0} → Format E → Option (List ℕ) → List ℕ
original_at f None = []
original_at f (Some file) = f.original file

abbrev pub version_of : Option Mark → ℕ
version_of None = 0
version_of (Some k) = k.version

abbrev pub slot_of : Option Mark → ℕ
slot_of None = 0
slot_of (Some k) = k.slot

abbrev pub stamp_of : Option Mark → ℕ
stamp_of None = 0
stamp_of (Some k) = k.stamp

abbrev pub member_at : {E : Type 0} → Format E → List ℕ → Option (List ℕ) → Member
member_at f n file = record { name = n; original = original_at f file; version = version_of (mark_at f file); slot = slot_of (mark_at f file); stamp = stamp_of (mark_at f file) }

-- the row that a list has of a member
abbrev pub row_of : {E : Type 0} → Format E → Member → Row
row_of f m = record { name = m.name; stamp = m.stamp; checksum = f.checksum m.original }

abbrev pub row_at : {E : Type 0} → Format E → List ℕ → Option (List ℕ) → Row
row_at f n file = row_of f (member_at f n file)

-- ---- the walk, and the file that is meant

abbrev pub objects : {E : Type 0} → Format E → Files → List ℕ → Result Object E
objects f files n = object_at f n (files n)

abbrev pub walk_in : {E : Type 0} → Format E → Files → List ℕ → Result Walked E
walk_in f files n = walk f.walks (objects f files) n

abbrev pub of_walk : {E : Type 0} → Format E → (List ℕ → Member) → Result Walked E → Option (List ℕ)
of_walk f member (Ok walked) = f.prelinked (map member (names walked))
of_walk f member (Err e) = None

-- a name's file, prelinked for the originals, slots and stamps of the folder's files
abbrev pub prelinked_in : {E : Type 0} → Format E → Files → List ℕ → Option (List ℕ)
prelinked_in f files n = of_walk f (λ m. member_at f m (files m)) (walk_in f files n)

-- the names of a walk; none where it is refused
abbrev pub names_of : {E : Type 0} → Result Walked E → List (List ℕ)
names_of (Ok walked) = names walked
names_of (Err e) = []

abbrev pub members : {E : Type 0} → Format E → Files → List ℕ → List (List ℕ)
members f files n = names_of (walk_in f files n)

-- ---- the rule

abbrev pub row_eq : Row → Row → Bool
row_eq a b = bytes_eq a.name b.name && (nat_eq a.stamp b.stamp && nat_eq a.checksum b.checksum)

abbrev pub is_marked : {E : Type 0} → Format E → Files → List ℕ → Bool
is_marked f files n = is_some (mark_at f (files n))

-- a list tells these other members as the folder holds them, and each is marked
abbrev pub lists_members : {E : Type 0} → Format E → Files → List Row → List (List ℕ) → Bool
lists_members f files list ns = list_all (is_marked f files) ns && pointwise row_eq list (map (λ m. row_at f m (files m)) ns)

abbrev pub tells_walk : {E : Type 0} → Format E → Files → Option Mark → Result Walked E → Bool
tells_walk f files None walked = false
tells_walk f files (Some k) (Ok walked) = lists_members f files k.list (others walked)
tells_walk f files (Some k) (Err e) = false

-- a name's file is marked, and its list tells the other members of its walk
abbrev pub matches : {E : Type 0} → Format E → Files → List ℕ → Bool
matches f files n = tells_walk f files (mark_at f (files n)) (walk_in f files n)

-- where a name matches, its file and those of its walk are what is meant
abbrev pub Rule : {E : Type 0} → Format E → Files → Type 0
Rule f files = (n m : List ℕ) → matches f files n ≡ true → has (members f files n) m ≡ true → prelinked_in f files m ≡ files m

abbrev pub is_same : Option (List ℕ) → Option (List ℕ) → Bool
is_same None b = false
is_same (Some a) None = false
is_same (Some a) (Some b) = bytes_eq a b

-- a name's file is marked, and is the one that is meant
abbrev pub is_verified : {E : Type 0} → Format E → Files → List ℕ → Bool
is_verified f files n = is_marked f files n && is_same (prelinked_in f files n) (files n)

-- what every format keeps: an original is not marked, a prelinked file tells its original, version, slot, stamp and list, a marked file is no static program, and a marked program has slot and stamp 0
pub record IsFormat {E : Type 0} (f : Format E) : Type 0 where
  pub bare : (file : List ℕ) → f.mark (f.original file) ≡ None
  pub original : (m : Member) (ms : List Member) (file : List ℕ) → f.prelinked (m ∷ ms) ≡ Some file → f.original file ≡ m.original
  pub mark : (m : Member) (ms : List Member) (file : List ℕ) → f.prelinked (m ∷ ms) ≡ Some file → f.mark file ≡ Some (record { version = m.version; slot = m.slot; stamp = m.stamp; list = map (row_of f) ms })
  pub kinds : (n file : List ℕ) (k : Mark) (o : Object) → f.mark file ≡ Some k → f.reads n (f.original file) ≡ Ok o → (o.kind ≡ Library) ⊎ ((o.kind ≡ Program) × (k.slot ≡ 0) × (k.stamp ≡ 0))
