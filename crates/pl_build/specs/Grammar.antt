-- A line by its words.
use Rattle.std.specs.Prelude.{ℕ, true, false, ◌&&◌, ◌==◌, List, [], length, codes, if◌then◌else◌}
use Rattle.std.specs.Str.{bytes_eq}
use Rattle.pl_base.specs.Names.{is_valid_name}
use Rattle.pl_build.specs.declared.kind.FileKind.TheVariants.{Program, Pie, Library, Static}
use Rattle.pl_build.specs.declared.line.Line.{Line}
use Rattle.pl_build.specs.declared.line.Line.TheVariants.{Wrong, Empty, First, Usual, Hash, Buckets, Spare, Needs, Symbolic, Entry, Data, Bss, Put, Tls, Version}
use Rattle.pl_build.specs.Words.{word, number}
use Rattle.pl_build.specs.SymbolLines.{def_line, ref_line}
use Rattle.pl_build.specs.RelocationLines.{rel_line}
use Rattle.pl_build.specs.Words.{words_of}
use Rattle.pl_build.specs.Options.{or_wrong}

-- a line of one word
unfoldable pub bare : List ℕ → Line
bare text =
    if bytes_eq text [] then Empty
    else if bytes_eq text (codes "program") then First Program
    else if bytes_eq text (codes "pie") then First Pie
    else if bytes_eq text (codes "library") then First Library
    else if bytes_eq text (codes "static") then First Static
    else if bytes_eq text (codes "usual") then Usual
    else if bytes_eq text (codes "symbolic") then Symbolic
    else Wrong

-- a keyword and a number
unfoldable pub number_line : List ℕ → ℕ → Line
number_line keyword n =
    if bytes_eq keyword (codes "buckets") then Buckets n
    else if bytes_eq keyword (codes "spare") then Spare n
    else if bytes_eq keyword (codes "entry") then Entry n
    else if bytes_eq keyword (codes "data") then Data n
    else if bytes_eq keyword (codes "bss") then Bss n
    else Wrong

unfoldable pub hash_line : List ℕ → Line
hash_line text =
    if bytes_eq text (codes "sysv") then Hash (record { sysv = true; gnu = false })
    else if bytes_eq text (codes "gnu") then Hash (record { sysv = false; gnu = true })
    else if bytes_eq text (codes "both") then Hash (record { sysv = true; gnu = true })
    else Wrong

unfoldable pub number_line_by : List ℕ → List ℕ → Line
number_line_by keyword text = or_wrong (number text) (number_line keyword)

unfoldable pub needs_line : List ℕ → Line
needs_line text = if is_valid_name text then Needs text else Wrong

unfoldable pub version_line : List ℕ → Line
version_line text = if is_valid_name text then Version text else Wrong

-- a line of two words
unfoldable pub pair : List ℕ → List ℕ → Line
pair keyword text =
    if bytes_eq keyword (codes "needs") then needs_line text
    else if bytes_eq keyword (codes "version") then version_line text
    else if bytes_eq keyword (codes "hash") then hash_line text
    else number_line_by keyword text

unfoldable pub word_line : List (List ℕ) → Line
word_line words =
    or_wrong (number (word 1 words)) (λ offset.
    or_wrong (number (word 2 words)) (λ value.
    Put (record { offset = offset; value = value })))

unfoldable pub tls_line : List (List ℕ) → Line
tls_line words =
    or_wrong (number (word 1 words)) (λ offset.
    or_wrong (number (word 2 words)) (λ filesz.
    or_wrong (number (word 3 words)) (λ memsz.
    or_wrong (number (word 4 words)) (λ align.
    Tls (record { offset = offset; filesz = filesz; memsz = memsz; align = align })))))

-- a keyword and more than one word
unfoldable pub longer : List (List ℕ) → Line
longer words =
    if bytes_eq (word 0 words) (codes "word") && length words == 3 then word_line words
    else if bytes_eq (word 0 words) (codes "tls") && length words == 5 then tls_line words
    else if bytes_eq (word 0 words) (codes "rel") && length words == 5 then rel_line words
    else if bytes_eq (word 0 words) (codes "def") then def_line words
    else if bytes_eq (word 0 words) (codes "ref") then ref_line words
    else Wrong

unfoldable pub line_of : List (List ℕ) → Line
line_of words =
    if length words == 1 then bare (word 0 words)
    else if length words == 2 then pair (word 0 words) (word 1 words)
    else longer words

-- the line that a text spells
unfoldable pub line : List ℕ → Line
line text = line_of (words_of text)
