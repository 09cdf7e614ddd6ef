-- What follows from a recipe before anything is laid out.
use Rattle.std.specs.Prelude.{ℕ, ◌+◌, Bool, true, not, ◌&&◌, ◌||◌, ◌==◌, List, [], ◌∷◌, ◌++◌, length, map, if◌then◌else◌}
use Rattle.std.specs.List.{list_any}
use Rattle.pl_base.specs.Sums.{plus, minus}
use Rattle.pl_elf.specs.declared.constants.TheConstants.{R_X86_64_JUMP_SLOT}
use Rattle.pl_build.specs.declared.constants.TheConstants.{BASE, DATA_DISTANCE}
use Rattle.pl_build.specs.FileKinds.{is_program, is_position_independent, is_static}
use Rattle.pl_build.specs.declared.line.Addend.{Addend}
use Rattle.pl_build.specs.declared.line.DataWord.{DataWord}
use Rattle.pl_build.specs.declared.line.PackedWord.{PackedWord}
use Rattle.pl_build.specs.declared.line.Relocation.{Relocation}
use Rattle.pl_build.specs.declared.line.SymbolLine.{SymbolLine}
use Rattle.pl_build.specs.declared.recipe.Recipe.{Recipe}
use Rattle.pl_build.specs.declared.recipe.Settings.{Settings}
use Rattle.pl_build.specs.declared.needed.Need.{Need}
use Rattle.pl_build.specs.declared.roles.Role.{Role}
use Rattle.pl_build.specs.declared.roles.Role.TheVariants.{Null, Interp, Hash, GnuHash, Dynsym, Dynstr, Versym, Verdef, Verneed, RelaDyn, RelaPlt, RelrDyn, Dynamic, Data, Bss, Shstrtab}
use Rattle.pl_build.specs.declared.string_table.StringTable.{StringTable}
use Rattle.pl_build.specs.declared.layout_plan.LayoutPlan.{LayoutPlan}
use Rattle.pl_build.specs.Choices.{chosen}
use Rattle.pl_build.specs.Symbols.{ordered}
use Rattle.pl_build.specs.Needed.{needs_of, files_of}
use Rattle.pl_build.specs.StringTable as strings

-- ---- where the file lies

-- the address of the first byte, and that of the data
unfoldable pub base_of : Settings → ℕ
base_of s = if is_position_independent s.kind then 0 else BASE

unfoldable pub data_address : Settings → ℕ
data_address s = base_of s + DATA_DISTANCE

-- ---- the words of the data

-- an addend modulo 2^64
unfoldable pub addend_of : Addend → ℕ
addend_of a = if a.negative then minus 0 a.magnitude else a.magnitude

-- what the data holds at a packed word: an address
unfoldable pub data_word : Settings → PackedWord → DataWord
data_word s w = record { offset = w.offset; value = plus (data_address s) (addend_of w.addend) }

-- the words of the lines `word`, then the packed ones
unfoldable pub data_words : Recipe → List DataWord
data_words r = r.words ++ map (data_word r.settings) r.packed

-- ---- which sections there are

-- the path of an interpreter stands in a usual program
unfoldable pub has_interp : Settings → Bool
has_interp s = s.usual && is_program s.kind

abbrev pub is_jump_slot : Relocation → Bool
is_jump_slot r = r.kind == R_X86_64_JUMP_SLOT

abbrev pub is_other : Relocation → Bool
is_other r = not (is_jump_slot r)

abbrev pub is_versioned : SymbolLine → Bool
is_versioned s = not (length s.version == 0)

unfoldable pub has_versions : Recipe → Bool
has_versions r = not (length r.versions == 0) || list_any is_versioned r.symbols

-- the sections up to the symbols, from there to the relocations, and the others
unfoldable pub first_roles : Settings → List Role
first_roles s =
    let linked = not (is_static s.kind) in
    chosen (
    (true, Null) ∷ (has_interp s, Interp) ∷ (linked && s.hashes.sysv, Hash) ∷ (linked && s.hashes.gnu, GnuHash)
    ∷ (linked, Dynsym) ∷ (linked, Dynstr) ∷ [])

unfoldable pub next_roles : Recipe → List Need → List Role
next_roles r needs = chosen (
    (has_versions r, Versym) ∷ (not (length r.versions == 0), Verdef) ∷ (not (length needs == 0), Verneed)
    ∷ (list_any is_other r.relocations, RelaDyn) ∷ (list_any is_jump_slot r.relocations, RelaPlt) ∷ (not (length r.packed == 0), RelrDyn) ∷ [])

unfoldable pub last_roles : Settings → List Role
last_roles s = chosen ((not (is_static s.kind), Dynamic) ∷ (true, Data) ∷ (true, Bss) ∷ (true, Shstrtab) ∷ [])

unfoldable pub roles_of : Recipe → List Need → List Role
roles_of r needs = first_roles r.settings ++ next_roles r needs ++ last_roles r.settings

-- ---- the strings: needed names, symbols' names in the order of the symbol table, versions, and files with the versions needed of them

unfoldable pub strings_of : Recipe → List SymbolLine → List Need → List (List ℕ) → StringTable
strings_of r symbols needs files =
    strings.files_added needs (strings.versions_added (strings.symbols_added (strings.texts_added strings.start r.needs) symbols) r.versions) files

-- ---- all together

unfoldable pub plan_of : Recipe → LayoutPlan
plan_of r =
    let symbols = ordered r.settings r.symbols in
    let needs = needs_of r.symbols in
    let files = files_of needs in
    record {
      settings = r.settings;
      needed = r.needs;
      words = data_words r;
      versions = r.versions;
      symbols = symbols;
      relocations = r.relocations;
      packed = r.packed;
      needs = needs;
      files = files;
      strings = strings_of r symbols needs files;
      roles = roles_of r needs;
    }
