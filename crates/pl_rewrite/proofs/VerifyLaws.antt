-- What is verified of a file that was taken.
use Rattle.std.proofs.Common.{◌≡◌, ℕ, Bool, true, false, List, Option, Some, None, refl, sym, ap, ◌∙◌}
use Rattle.std.specs.Prelude.{◌&&◌, is_some, if◌then◌else◌}
use Rattle.std.specs.Option.{option_map}
use Rattle.std.proofs.lemmas.Bool.{and_left}
use Rattle.pl_conflict.specs.Format.{format, mark_in, mark_of}
use Rattle.pl_elf.specs.declared.range.Range.{Range}
use Rattle.pl_form.specs.Files.{marked_in, original_in, original_or_file}
use Rattle.pl_form.specs.declared.file.Marked.{Marked}
use Rattle.pl_cone.specs.Skipped.{skip_causes}
use Rattle.pl_cone.specs.Taken.{HasItsEntry, IsTaken, files_in, marked_by, taken_of}
use Rattle.pl_cone.specs.declared.taken.Taken.{Taken}
use Rattle.pl_cone.proofs.NamedFileLaws.{file_at, found}
use Rattle.pl_cone.proofs.TakenLaws.{marked_read}
use Rattle.law_sound.specs.Rule.{is_marked, is_same, mark_at, original_at}
use Rattle.pl_rewrite.specs.Verify.{is_verified, prelinked_in, verified_original}

-- ---- what is read of a file

pub mark_read : (file : List ℕ) (o : Option Marked) → marked_in file ≡ o → mark_in file ≡ option_map mark_of o
unfolding mark_in
mark_read file o is = ap (option_map mark_of) is

pub original_read : (file : List ℕ) (m : Marked) → marked_in file ≡ Some m → original_in file ≡ m.original
unfolding original_in
original_read file m is = ap (original_or_file file) is

-- a file that was taken is read
pub taken_read : (region : Range) (t : Taken) → IsTaken region t → HasItsEntry t
unfolding taken_of
taken_read region t is = ap (λ (u : Taken). u.entry) is.is

-- ---- whether a name is verified

-- no file is there
pub no_file : (ts : List Taken) (n : List ℕ) → None ≡ found ts n → false ≡ is_verified (files_in ts) n
unfolding files_in
no_file ts n none = ap (λ (there : Option Taken). verified_by (option_map (λ (t : Taken). t.bytes) there)) none
  where
    verified_by : Option (List ℕ) → Bool
    verified_by file = is_some (mark_at (format skip_causes) file) && is_same (prelinked_in (files_in ts) n) file

-- it is not prelinked, or it is compared
marked_at : (region : Range) (ts : List Taken) (t : Taken) → IsTaken region t → found ts t.name ≡ Some t → is_marked (format skip_causes) (files_in ts) t.name ≡ is_some (marked_by t.entry)
marked_at region ts t are there =
    let read : marked_by t.entry ≡ marked_in t.bytes = marked_read t (taken_read region t are) in
    ap (λ (file : Option (List ℕ)). is_some (mark_at (format skip_causes) file)) (file_at t.name ts t there)
    ∙ (ap is_some (mark_read t.bytes (marked_in t.bytes) refl) ∙ (as_marked (marked_in t.bytes) ∙ sym (ap is_some read)))
  where
    as_marked : (o : Option Marked) → is_some (option_map mark_of o) ≡ is_some o
    as_marked None = refl
    as_marked (Some m) = refl

pub not_marked : (region : Range) (ts : List Taken) (t : Taken) → IsTaken region t → found ts t.name ≡ Some t → is_some (marked_by t.entry) ≡ false → false ≡ is_verified (files_in ts) t.name
not_marked region ts t are there none =
    sym (and_left (is_marked (format skip_causes) (files_in ts) t.name) (is_same (prelinked_in (files_in ts) t.name) (files_in ts t.name)) (marked_at region ts t are there ∙ none))

pub compared : (region : Range) (ts : List Taken) (t : Taken) → IsTaken region t → found ts t.name ≡ Some t → is_some (marked_by t.entry) ≡ true
    → is_same (prelinked_in (files_in ts) t.name) (Some t.bytes) ≡ is_verified (files_in ts) t.name
compared region ts t are there some =
    sym (
    ap (λ (b : Bool). b && is_same (prelinked_in (files_in ts) t.name) (files_in ts t.name)) (marked_at region ts t are there ∙ some)
    ∙ ap (is_same (prelinked_in (files_in ts) t.name)) (file_at t.name ts t there))

pub no_original : (ts : List Taken) (n : List ℕ) → None ≡ found ts n → None ≡ verified_original (files_in ts) n
no_original ts n none = ap (λ (b : Bool). if b then Some (original_at (format skip_causes) (files_in ts n)) else None) (no_file ts n none)

pub original_none : (ts : List Taken) (n : List ℕ) → is_verified (files_in ts) n ≡ false → None ≡ verified_original (files_in ts) n
original_none ts n off = sym (ap (λ (b : Bool). if b then Some (original_at (format skip_causes) (files_in ts n)) else None) off)

pub original_some : (ts : List Taken) (t : Taken) (original : List ℕ) → found ts t.name ≡ Some t → original ≡ original_in t.bytes → is_verified (files_in ts) t.name ≡ true → Some original ≡ verified_original (files_in ts) t.name
original_some ts t original there is on =
    ap (λ (o : List ℕ). Some o) (is ∙ sym (ap (original_at (format skip_causes)) (file_at t.name ts t there)))
    ∙ sym (ap (λ (b : Bool). if b then Some (original_at (format skip_causes) (files_in ts t.name)) else None) on)
