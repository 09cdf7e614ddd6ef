-- The tables of GNU symbol versioning.
use Rattle.std.specs.Prelude.{ℕ, ◌+◌, ◌*◌, ◌%◌, ◌^◌, not, ◌==◌, List, [], ◌∷◌, ◌++◌, length, map, drop, position, unwrap_or, count_by, codes, slice_get, Option, Some, None, if◌then◌else◌}
use Rattle.std.specs.List.{flat_map, list_any, range_with_len}
use Rattle.std.specs.Str.{bytes_eq}
use Rattle.pl_base.specs.Sums.{plus}
use Rattle.pl_hash.specs.Hash.{sysv}
use Rattle.pl_ver.specs.declared.constants.TheConstants.{VERDEF_SIZE, VERDAUX_SIZE, VERNEED_SIZE, VERNAUX_SIZE, VER_FLG_BASE, VER_NDX_GLOBAL, VERSYM_HIDDEN}
use Rattle.pl_build.specs.declared.fields.Field.TheVariants.{Half, Word}
use Rattle.pl_build.specs.declared.line.SymbolLine.{SymbolLine}
use Rattle.pl_build.specs.declared.needed.Need.{Need}
use Rattle.pl_build.specs.declared.layout_plan.LayoutPlan.{LayoutPlan}
use Rattle.pl_build.specs.Fields.{fields}
use Rattle.pl_build.specs.Needed.{is_need_of, is_of}
use Rattle.pl_build.specs.StringTable.{text_at}
use Rattle.pl_build.specs.Words.{word}

-- ---- the version words of symbols

-- the indices of defined versions follow that of the base, and those of needed ones follow them
abbrev pub first_defined : ℕ
first_defined = VER_NDX_GLOBAL + 1

unfoldable pub first_needed : LayoutPlan → ℕ
first_needed p = first_defined + length p.versions

unfoldable pub defined_index : LayoutPlan → SymbolLine → ℕ
defined_index p s = plus first_defined (unwrap_or (position (λ v. bytes_eq v s.version) p.versions) 0)

unfoldable pub needed_index : LayoutPlan → SymbolLine → ℕ
needed_index p s = plus (first_needed p) (unwrap_or (position (is_need_of s) p.needs) 0)

unfoldable pub version_word : LayoutPlan → SymbolLine → ℕ
version_word p s =
    if length s.version == 0 then VER_NDX_GLOBAL
    else if not (length s.file == 0) then needed_index p s
    else if s.default_version then defined_index p s
    else plus VERSYM_HIDDEN (defined_index p s)

unfoldable pub version_words : LayoutPlan → List ℕ
version_words p = fields (Half VER_NDX_GLOBAL ∷ []) ++ fields (map (λ s. Half (version_word p s)) p.symbols)

-- ---- the versions that are defined: a Verdef and its one Verdaux each

unfoldable pub verdef_bytes : LayoutPlan → ℕ → ℕ → List ℕ → ℕ → List ℕ
verdef_bytes p flags index name next =
    fields (Half 1 ∷ Half flags ∷ Half index ∷ Half 1 ∷ Word (sysv name) ∷ Word VERDEF_SIZE ∷ Word next ∷ [])
    ++ fields (Word (text_at p.strings name) ∷ Word 0 ∷ [])

-- the distance to the next Verdef, 0 at the last
unfoldable pub next_verdef : LayoutPlan → ℕ → ℕ
next_verdef p index = if index + 1 == length p.versions then 0 else VERDEF_SIZE + VERDAUX_SIZE

unfoldable pub verdef_at : LayoutPlan → ℕ → List ℕ
verdef_at p index = verdef_bytes p 0 (first_defined + index) (word index p.versions) (next_verdef p index)

unfoldable pub verdefs : LayoutPlan → List ℕ
verdefs p =
    verdef_bytes p VER_FLG_BASE VER_NDX_GLOBAL (codes "base") (VERDEF_SIZE + VERDAUX_SIZE)
    ++ flat_map (verdef_at p) (range_with_len 0 (length p.versions))

-- ---- the versions that are needed: a Verneed for each file, and a Vernaux for each of its versions

-- the distance to the next Vernaux of the same file, where others stand later; 0 at the last
unfoldable pub next_vernaux : List Need → Need → ℕ
next_vernaux later need = if list_any (is_of need.file) later then VERNAUX_SIZE else 0

unfoldable pub vernaux_bytes : LayoutPlan → ℕ → Need → List ℕ
vernaux_bytes p index need =
    fields (
    Word (sysv need.version) ∷ Half 0 ∷ Half (plus (first_needed p) index) ∷ Word (text_at p.strings need.version)
    ∷ Word (next_vernaux (drop (index + 1) p.needs) need) ∷ [])

-- the Vernaux rows of a file
unfoldable pub vernaux_of : LayoutPlan → List ℕ → ℕ → Need → List ℕ
vernaux_of p file index need = if is_of file need then vernaux_bytes p index need else []

abbrev pub or_nothing : (Need → List ℕ) → Option Need → List ℕ
or_nothing bytes (Some need) = bytes need
or_nothing bytes None = []

unfoldable pub vernaux_at : LayoutPlan → List ℕ → ℕ → List ℕ
vernaux_at p file index = or_nothing (vernaux_of p file index) (slice_get p.needs index)

unfoldable pub count_of : LayoutPlan → List ℕ → ℕ
count_of p file = count_by (is_of file) p.needs

-- where so many Vernaux rows behind a Verneed end, from the Verneed on
unfoldable pub rows_end : ℕ → ℕ
rows_end count = plus (VERNAUX_SIZE * count % 2 ^ 64) VERNEED_SIZE

unfoldable pub next_verneed : LayoutPlan → ℕ → ℕ
next_verneed p index = if index + 1 == length p.files then 0 else rows_end (count_of p (word index p.files))

unfoldable pub verneed_bytes : LayoutPlan → ℕ → List ℕ
verneed_bytes p index =
    fields (Half 1 ∷ Half (count_of p (word index p.files)) ∷ Word (text_at p.strings (word index p.files)) ∷ Word VERNEED_SIZE ∷ Word (next_verneed p index) ∷ [])

unfoldable pub verneed_at : LayoutPlan → ℕ → List ℕ
verneed_at p index = verneed_bytes p index ++ flat_map (vernaux_at p (word index p.files)) (range_with_len 0 (length p.needs))

unfoldable pub verneeds : LayoutPlan → List ℕ
verneeds p = flat_map (verneed_at p) (range_with_len 0 (length p.files))
