-- The words that a number draws: those of the generator PCG XSL RR 128/64, in turn (O'Neill, "PCG: a family of simple fast space-efficient statistically good algorithms for random number generation").
use Rattle.std.specs.Prelude.{ℕ, zero, suc, List, [], ◌∷◌, slice_index_or}
use Rattle.rand_core.specs.Pcg32Seed.{pcg32_seed}
use Rattle.rand_pcg.specs.Lcg.{Lcg}
use Rattle.rand_pcg.specs.Pcg.{pcg64, pcg64_of_seed}

-- the generator of a number
abbrev pub seeded : ℕ → Lcg
seeded number = pcg64_of_seed (pcg32_seed 32 number)

-- its next words, so many
unfoldable pub words : ℕ → Lcg → List ℕ
words zero generator = []
words (suc count) generator = (pcg64 generator).0 ∷ words count (pcg64 generator).1

-- the generator after so many words
unfoldable pub after : ℕ → Lcg → Lcg
after zero generator = generator
after (suc count) generator = after count (pcg64 generator).1

-- the word of an index
abbrev pub at : List ℕ → ℕ → ℕ
at words i = slice_index_or words i 0
