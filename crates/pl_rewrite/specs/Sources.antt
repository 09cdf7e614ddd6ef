-- The members of a walk as they are handed in.
use Rattle.std.specs.Prelude.{◌≡◌, ◌≤◌, ℕ, true, List, [], ◌∷◌, Option, Some, map, length}
use Rattle.std.specs.List.{All, AllZip, IsDistinct}
use Rattle.std.specs.Str.{bytes_eq}
use Rattle.pl_conflict.specs.Format.{number_of}
use Rattle.pl_conflict.specs.Prelinked.{Firm, firm_of, is_version, prelinked}
use Rattle.pl_form.specs.declared.version.Version.{Version}
use Rattle.pl_object.specs.declared.object.Object.{Object}
use Rattle.pl_scope.specs.declared.constants.TheConstants.{MAX_MEMBERS}
use Rattle.law_sound.specs.Rule.{Member}

abbrev pub firm : List ℕ → List ℕ → Object → Version → ℕ → ℕ → Firm
firm name original object version slot stamp = record {
  member = record { name = name; original = original; version = number_of version; slot = slot; stamp = stamp };
  object = object;
}

abbrev pub members : List Firm → List Member
members rs = map (λ r. r.member) rs

abbrev pub member_names : List Firm → List (List ℕ)
member_names rs = map (λ r. r.member.name) rs

-- each is a member whose original has a form, with its object; no two have one name, and there are no more than a walk has
pub record AreSources (rs : List Firm) : Type 0 where
  pub few : length rs ≤ MAX_MEMBERS
  pub firm : All (λ r. firm_of r.member ≡ Some r) rs
  pub distinct : IsDistinct bytes_eq (member_names rs)

-- ---- versions

-- in a version of this number
abbrev pub versioned : ℕ → Firm → Firm
versioned number r = record {
  member = record { name = r.member.name; original = r.member.original; version = number; slot = r.member.slot; stamp = r.member.stamp };
  object = r.object;
}

abbrev pub IsVersionOf : Firm → Firm → Type 0
IsVersionOf r s = (number : ℕ) × (is_version number ≡ true) × (s ≡ versioned number r)

-- the same members, each in any version
abbrev pub AreVersionsOf : List Firm → List Firm → Type 0
AreVersionsOf rs ss = AllZip IsVersionOf rs ss

abbrev pub BeginsIn : Version → List Firm → Type 0
BeginsIn version [] = Unit {0}
BeginsIn version (s ∷ ss) = s.member.version ≡ number_of version

-- the file that the members prelink in a version of the first, whichever those of the others are
abbrev pub IsPrelinkedIn : List Firm → Version → Option (List ℕ) → Type 0
IsPrelinkedIn rs version file = (ss : List Firm) → AreVersionsOf rs ss → BeginsIn version ss → file ≡ prelinked (members ss)
