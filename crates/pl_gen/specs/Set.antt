-- The set of files that a number draws.
use Rattle.std.specs.Prelude.{ℕ, ◌+◌, ◌*◌, ◌%◌, List, [], ◌++◌, codes, map, take, drop, string_bytes}
use Rattle.std.specs.List.{range_with_len}
use Rattle.rand_pcg.specs.Lcg.{Lcg}
use Rattle.pl_gen.specs.declared.set.DemoFile.{DemoFile}
use Rattle.pl_gen.specs.Draws.{seeded, words, after, at}
use Rattle.pl_gen.specs.Lines.{library_name, program_name, needs_line, needs_lines, def_lines, object_line, copy_line, relocations}

-- ---- a library, of 322 words: two for libraries that it needs, one for each of 64 functions, two for each of 128 relocations

-- the numbers of its functions
abbrev pub functions : List ℕ → List ℕ
functions words = map (λ word. word % 1000) (take 64 (drop 2 words))

-- the library of an index, among so many
unfoldable pub library_recipe : ℕ → ℕ → List ℕ → List ℕ
library_recipe count i words =
    codes "library\nhash both\nbuckets 8\n"
    ++ (needs_line ((i + 1) % count) ++ (needs_line (at words 0 % count) ++ (needs_line (at words 1 % count)
    ++ (codes "data 1000\n"
    ++ (def_lines [] 0 (functions words)
    ++ (object_line i
    ++ relocations (functions words) 0x808 (take 256 (drop 66 words))))))))

-- ---- a program, of 131 words: three for libraries that it needs, two for each of 64 relocations

-- the numbers of the libraries that it needs, among so many
abbrev pub needed : ℕ → List ℕ → List ℕ
needed count words = map (λ word. word % count) (take 3 words)

unfoldable pub program_recipe : ℕ → List ℕ → List ℕ
program_recipe count words =
    codes "program\nhash gnu\nbuckets 8\n"
    ++ (needs_lines [] (needed count words)
    ++ (codes "data 800\n"
    ++ (relocations [] 0 (take 128 (drop 3 words))
    ++ (codes "bss 8\n"
    ++ (object_line (at words 0 % count)
    ++ copy_line (at words 0 % count))))))

-- ---- all files

-- a file's name and recipe
abbrev pub seen : List DemoFile → List (List ℕ × List ℕ)
seen files = map (λ file. (string_bytes file.name, string_bytes file.recipe)) files

-- the library of an index, among so many that are drawn one after the other
abbrev pub library : ℕ → Lcg → ℕ → List ℕ × List ℕ
library count generator i = (library_name i, library_recipe count i (words 322 (after (322 * i) generator)))

-- the program of an index, beside so many libraries
abbrev pub program : ℕ → Lcg → ℕ → List ℕ × List ℕ
program libraries generator j = (program_name j, program_recipe libraries (words 131 (after (131 * j) generator)))

-- how many libraries a number draws by its first word, and how many programs by its second
abbrev pub libraries : ℕ → ℕ
libraries number = 8 + at (words 2 (seeded number)) 0 % 57

abbrev pub programs : ℕ → ℕ
programs number = 1 + at (words 2 (seeded number)) 1 % 12

-- then the libraries draw their words in turn, and then the programs
unfoldable pub demo_set : ℕ → List (List ℕ × List ℕ)
demo_set number =
    map (library (libraries number) (after 2 (seeded number))) (range_with_len 0 (libraries number))
    ++ map (program (libraries number) (after (322 * libraries number) (after 2 (seeded number)))) (range_with_len 0 (programs number))
