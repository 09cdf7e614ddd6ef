-- What all lines of a recipe say together.
use Rattle.std.specs.Prelude.{Bool, true, false, nat_le, if◌then◌else◌, List, [], ◌∷◌, ◌++◌, Some, None, fold}
use Rattle.pl_build.specs.declared.constants.TheConstants.{BUCKETS, SPARE}
use Rattle.pl_build.specs.declared.kind.FileKind.TheVariants.{Program}
use Rattle.pl_build.specs.declared.line.Line.{Line}
use Rattle.pl_build.specs.declared.line.Line.TheVariants.{First, Usual, Hash, Buckets, Spare, Needs, Symbolic, Entry, Data, Bss, Put, Tls, Version, Names, Relocates, Packs}
use Rattle.pl_build.specs.declared.line.PackedWord.{PackedWord}
use Rattle.pl_build.specs.declared.recipe.Settings.{Settings}
use Rattle.pl_build.specs.declared.recipe.Recipe.{Recipe}

abbrev pub defaults : Settings
defaults = record {
  kind = Program;
  usual = false;
  hashes = record { sysv = true; gnu = false };
  buckets = BUCKETS;
  spare = SPARE;
  symbolic = false;
  entry = None;
  data_size = 0;
  bss = 0;
  tls = None;
}

abbrev pub empty : Recipe
empty = record { settings = defaults; needs = []; words = []; versions = []; symbols = []; relocations = []; packed = [] }

-- a line that stands once
abbrev pub set : Settings → Line → Settings
set s (First kind) = record s { kind = kind }
set s Usual = record s { usual = true }
set s (Hash hashes) = record s { hashes = hashes }
set s (Buckets n) = record s { buckets = n }
set s (Spare n) = record s { spare = n }
set s Symbolic = record s { symbolic = true }
set s (Entry offset) = record s { entry = Some offset }
set s (Data n) = record s { data_size = n }
set s (Bss n) = record s { bss = n }
set s (Tls tls) = record s { tls = Some tls }
set s _ = s

-- a packed word behind those whose offsets are no greater
abbrev pub is_up_to : PackedWord → PackedWord → Bool
is_up_to w v = nat_le v.offset w.offset

abbrev pub inserted : PackedWord → List PackedWord → List PackedWord
inserted w [] = w ∷ []
inserted w (v ∷ vs) = if is_up_to w v then v ∷ inserted w vs else w ∷ v ∷ vs

abbrev pub with_packed : Recipe → PackedWord → Recipe
with_packed r w = record r { packed = inserted w r.packed }

-- one line more
abbrev pub added : Recipe → Line → Recipe
added r (Needs name) = record r { needs = r.needs ++ name ∷ [] }
added r (Put w) = record r { words = r.words ++ w ∷ [] }
added r (Version name) = record r { versions = r.versions ++ name ∷ [] }
added r (Names s) = record r { symbols = r.symbols ++ s ∷ [] }
added r (Relocates x) = record r { relocations = r.relocations ++ x ∷ [] }
added r (Packs w) = with_packed r w
added r line = record r { settings = set r.settings line }

unfoldable pub gathered : List Line → Recipe
gathered lines = fold added empty lines

-- ---- the same with the packed words in the order of their lines, until all lines are there

abbrev pub pushed : Recipe → Line → Recipe
pushed r (Needs name) = record r { needs = r.needs ++ name ∷ [] }
pushed r (Put w) = record r { words = r.words ++ w ∷ [] }
pushed r (Version name) = record r { versions = r.versions ++ name ∷ [] }
pushed r (Names s) = record r { symbols = r.symbols ++ s ∷ [] }
pushed r (Relocates x) = record r { relocations = r.relocations ++ x ∷ [] }
pushed r (Packs w) = record r { packed = r.packed ++ w ∷ [] }
pushed r line = record r { settings = set r.settings line }

-- words in the order of their offsets, those of one offset in their order
unfoldable pub in_order : List PackedWord → List PackedWord
in_order words = fold (λ sorted w. inserted w sorted) [] words

abbrev pub sorted_recipe : Recipe → Recipe
sorted_recipe r = record r { packed = in_order r.packed }
