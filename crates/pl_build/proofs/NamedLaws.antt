-- A line names a symbol and defines a version by its own text.
use Rattle.std.proofs.Common.{◌≡◌, ℕ, List, refl}
use Rattle.pl_build.specs.Checks.{writes, defines}
use Rattle.pl_build.specs.NamedLines.{written_name, defined_version}
use Rattle.pl_build.specs.TextIndex.{is_text}
use Rattle.pl_build.specs.declared.line.Line.{Line}
use Rattle.pl_build.specs.declared.line.Line.TheVariants.{Wrong, Empty, First, Usual, Hash, Buckets, Spare, Needs, Symbolic, Entry, Data, Bss, Put, Tls, Version, Names, Relocates, Packs}

pub writes_is : (q : List ℕ) (l : Line) → writes q l ≡ is_text q (written_name l)
writes_is q Wrong = refl
writes_is q Empty = refl
writes_is q (First k) = refl
writes_is q Usual = refl
writes_is q (Hash h) = refl
writes_is q (Buckets n) = refl
writes_is q (Spare n) = refl
writes_is q (Needs n) = refl
writes_is q Symbolic = refl
writes_is q (Entry n) = refl
writes_is q (Data n) = refl
writes_is q (Bss n) = refl
writes_is q (Put w) = refl
writes_is q (Tls t) = refl
writes_is q (Version v) = refl
writes_is q (Names s) = refl
writes_is q (Relocates r) = refl
writes_is q (Packs w) = refl

pub defines_is : (q : List ℕ) (l : Line) → defines q l ≡ is_text q (defined_version l)
defines_is q Wrong = refl
defines_is q Empty = refl
defines_is q (First k) = refl
defines_is q Usual = refl
defines_is q (Hash h) = refl
defines_is q (Buckets n) = refl
defines_is q (Spare n) = refl
defines_is q (Needs n) = refl
defines_is q Symbolic = refl
defines_is q (Entry n) = refl
defines_is q (Data n) = refl
defines_is q (Bss n) = refl
defines_is q (Put w) = refl
defines_is q (Tls t) = refl
defines_is q (Version v) = refl
defines_is q (Names s) = refl
defines_is q (Relocates r) = refl
defines_is q (Packs w) = refl
