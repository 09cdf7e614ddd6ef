use Rattle.std.proofs.lemmas.List.{length-map}
use Rattle.pl_build.specs.HashTables.{gnu_buckets}
use Rattle.pl_build.proofs.hash_tables.gnu_table.Goals as goal

pub gnu_words-requires : goal.gnu_words-requires
unfolding gnu_buckets
gnu_words-requires c = rw (c.as_slice-4.ensures.value, c.as_slice-3.ensures.value, c.in_ok-buckets.ensures, c.as_slice-2.ensures.value) (length-map c.in_ok-hashes.hashes.items _)
