-- The members of a walk by their names, and what each walk is known to keep.
use Rattle.std.specs.Prelude.{◌≡◌, ◌⊎◌, ℕ, ◌≤◌, Bool, true, List, [], ◌∷◌, map, drop, length, slice_get, Option, Some, None, Result, Ok, if◌then◌else◌}
use Rattle.std.specs.List.{list_any, IsDistinct}
use Rattle.std.specs.Str.{bytes_eq}
use Rattle.pl_elf.specs.declared.kind.Kind.{Kind}
use Rattle.pl_elf.specs.declared.kind.Kind.TheVariants.{Program, Library}
use Rattle.pl_object.specs.declared.object.Object.{Object}
use Rattle.pl_scope.specs.declared.constants.TheConstants.{MAX_MEMBERS}
use Rattle.pl_scope.specs.declared.fault.WalkFault.{WalkFault}
use Rattle.pl_scope.specs.Walk.{Walked, walk, walk_over}

abbrev pub names : Walked → List (List ℕ)
names walked = map (λ p. p.0) walked

-- the names after the first
abbrev pub others : Walked → List (List ℕ)
others walked = names (drop 1 walked)

-- a name is among names
abbrev pub has : List (List ℕ) → List ℕ → Bool
has ns n = list_any (λ m. bytes_eq m n) ns

-- the object that a walk has of a name
unfoldable pub told : Walked → List ℕ → Option Object
told [] n = None
told (p ∷ walked) n = if bytes_eq p.0 n then Some p.1 else told walked n

-- these names with their objects are the walk of some name over some objects
pub record IsWalk (walked : Walked) : Type 0 where
  pub objects : List ℕ → Option Object
  pub name : List ℕ
  pub walks : walk_over objects name ≡ Ok walked

-- no name stands twice, and each name that a member needs is a member's
pub record IsClosed (walked : Walked) : Type 0 where
  pub few : length walked ≤ MAX_MEMBERS
  pub distinct : IsDistinct bytes_eq (names walked)
  pub needs : (i : ℕ) (member : List ℕ × Object) → slice_get walked i ≡ Some member → (n : List ℕ) → has member.1.needed n ≡ true → has (names walked) n ≡ true

-- a program or a library, and no static program
abbrev pub IsLinked : Kind → Type 0
IsLinked kind = (kind ≡ Library) ⊎ (kind ≡ Program)

-- ---- laws

-- a walk over whatever files is one over the objects of its members
abbrev pub WalksAreWalks : Type 0 → Type 0
WalksAreWalks E = (fault : WalkFault → E) (files : List ℕ → Result Object E) (name : List ℕ) (walked : Walked) → walk fault files name ≡ Ok walked → IsWalk walked

-- each walk is closed
abbrev pub WalksAreClosed : Type 0
WalksAreClosed = (walked : Walked) → IsWalk walked → IsClosed walked

-- a member of a walk that begins with a program or library has itself a walk, and the members of that are members too
abbrev pub MembersWalkWithin : Type 0 → Type 0
MembersWalkWithin E = (fault : WalkFault → E) (files : List ℕ → Result Object E) (name member : List ℕ) (walked : Walked)
    → walk fault files name ≡ Ok walked → ((o : Object) → files name ≡ Ok o → IsLinked o.kind) → has (names walked) member ≡ true
    → (inner : Walked) × (walk fault files member ≡ Ok inner) × ((m : List ℕ) → has (names inner) m ≡ true → has (names walked) m ≡ true)

-- a member's walk is the walk over the members alone
abbrev pub MembersTellWalks : Type 0 → Type 0
MembersTellWalks E = (fault : WalkFault → E) (files : List ℕ → Result Object E) (name member : List ℕ) (walked : Walked)
    → walk fault files name ≡ Ok walked → ((o : Object) → files name ≡ Ok o → IsLinked o.kind) → has (names walked) member ≡ true
    → (inner : Walked) × (walk fault files member ≡ Ok inner) × (walk_over (told walked) member ≡ Ok inner)
