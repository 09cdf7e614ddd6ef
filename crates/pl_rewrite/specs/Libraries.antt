-- The prelinked file of a library by itself.
use Rattle.std.specs.Prelude.{◌≡◌, ⊤, ℕ, true, false, List, drop, Option, Some, None}
use Rattle.std.specs.Option.{option_and_then}
use Rattle.pl_cone.specs.Taken.{object_by}
use Rattle.pl_cone.specs.declared.taken.Taken.{Taken}
use Rattle.pl_conflict.specs.Format.{number_of}
use Rattle.pl_conflict.specs.Prelinked.{Firm, are_set, list_of, stored}
use Rattle.pl_form.specs.Files.{original_in}
use Rattle.pl_form.specs.declared.version.Version.{Version}
use Rattle.pl_object.specs.declared.object.Object.{Object}
use Rattle.pl_rewrite.specs.Forms.{HasFormWith, file_with}
use Rattle.pl_rewrite.specs.Rows.{IsFirmAt, firms_of}
use Rattle.pl_rewrite.specs.RowWords.{own_words_at}
use Rattle.pl_rewrite.specs.declared.numbers.Numbered.{Numbered}
use Rattle.pl_rewrite.specs.declared.outcomes.NewLibrary.{NewLibrary}
use Rattle.sha2.specs.Sha256.{sha256}

-- what the file of a row's library is made of
pub record IsNew (n : Numbered) (row : ℕ) (parts : NewLibrary) : Type 0 where
  pub firm : Firm
  pub at : IsFirmAt n row firm
  pub slot : parts.slot ≡ firm.member.slot
  pub stamp : parts.stamp ≡ firm.member.stamp
  pub digest : parts.digest ≡ sha256 firm.member.original
  pub list : parts.list ≡ list_of (drop 1 (firms_of n row))
  pub words : parts.words ≡ own_words_at n row
  pub form : HasFormWith firm parts.list parts.words

-- there is none where the members of its walk cannot be prelinked together
abbrev pub IsNewIfAny : Numbered → ℕ → Option NewLibrary → Type 0
IsNewIfAny n row None = are_set (firms_of n row) ≡ false
IsNewIfAny n row (Some parts) = (are_set (firms_of n row) ≡ true) × IsNew n row parts

-- ---- by the file that was taken

abbrev pub firm_of : Taken → NewLibrary → Version → Object → Firm
firm_of t parts version o = record {
  member = record { name = t.name; original = original_in t.bytes; version = number_of version; slot = parts.slot; stamp = parts.stamp };
  object = o;
}

abbrev pub HasFormBy : Taken → NewLibrary → Option Object → Type 0
HasFormBy t parts None = ⊤
HasFormBy t parts (Some o) = (version : Version) → HasFormWith (firm_of t parts version o) parts.list parts.words × (parts.digest ≡ sha256 (original_in t.bytes))

abbrev pub HasForm : Taken → NewLibrary → Type 0
HasForm t parts = HasFormBy t parts (object_by t.entry)

-- its file, where it is no longer than a folder stores
abbrev pub storable_library : Taken → NewLibrary → Version → Option (List ℕ)
storable_library t parts version = option_and_then (λ o. stored (Some (file_with (firm_of t parts version o) parts.list parts.words))) (object_by t.entry)
