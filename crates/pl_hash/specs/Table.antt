-- The parts of a hash table of symbols.
--   System V (gABI chapter 5, "Hash Table"), in words of 32 bits: nbucket, nchain, the buckets, and for each symbol its link, which is its entry of the standard's chain table.
--   GNU: nbuckets, symoffset, bloom size and bloom shift in words of 32 bits, bloom words of 64 bits, the buckets, and for each symbol from symoffset on its link, a hash but for the lowest bit.
use Rattle.std.specs.Prelude.{◌≤◌, IsTrue, ℕ, ◌+◌, ◌-◌, ◌*◌, ◌/◌, ◌%◌, ◌^◌, Bool, not, ◌&&◌, ◌||◌, ◌==◌, nat_le, List, length, if◌then◌else◌}
use Rattle.pl_base.specs.Bytes.{word32, word64}
use Rattle.pl_hash.specs.declared.table.TheConstants.{NBUCKET, NCHAIN, SYMOFFSET, BLOOM_SIZE, BLOOM_SHIFT, SYSV_HEADER_SIZE, GNU_HEADER_SIZE, WORD_SIZE, BLOOM_WORD_SIZE, BLOOM_WORD_BITS}

-- the bytes from the header on, which may go on after the table; whether it is a GNU table; and how many symbols the object's symbol table has
pub record HashTable : Type 0 where
  pub words : List ℕ
  pub gnu : Bool
  pub symbols : ℕ

-- ---- the header

abbrev pub header_size : HashTable → ℕ
header_size table = if table.gnu then GNU_HEADER_SIZE else SYSV_HEADER_SIZE

unfoldable pub has_header : HashTable → Bool
has_header table = nat_le (header_size table) (length table.words)

-- the same as facts
pub record HasHeader (table : HashTable) : Type 0 where
  pub counts : SYSV_HEADER_SIZE ≤ length table.words
  pub bloom : IsTrue table.gnu → GNU_HEADER_SIZE ≤ length table.words

abbrev pub bucket_count : HashTable → ℕ
bucket_count table = word32 NBUCKET table.words

-- of a System V table: its count of links
abbrev pub chain_count : HashTable → ℕ
chain_count table = word32 NCHAIN table.words

-- of a GNU table: the first symbol with a link, the count of bloom words, and how far a hash is shifted for its second bit
abbrev pub symoffset : HashTable → ℕ
symoffset table = word32 SYMOFFSET table.words

abbrev pub bloom_size : HashTable → ℕ
bloom_size table = word32 BLOOM_SIZE table.words

abbrev pub bloom_shift : HashTable → ℕ
bloom_shift table = word32 BLOOM_SHIFT table.words

-- ---- where the parts begin

unfoldable pub buckets_at : HashTable → ℕ
buckets_at table = if table.gnu then GNU_HEADER_SIZE + BLOOM_WORD_SIZE * bloom_size table else SYSV_HEADER_SIZE

unfoldable pub chains_at : HashTable → ℕ
chains_at table = buckets_at table + WORD_SIZE * bucket_count table

-- the first symbol with a link
unfoldable pub first_linked : HashTable → ℕ
first_linked table = if table.gnu then symoffset table else 0

-- the offset of a symbol's link
unfoldable pub link_at : HashTable → ℕ → ℕ
link_at table index = chains_at table + WORD_SIZE * (index - first_linked table)

-- ---- what they hold

unfoldable pub bucket : HashTable → ℕ → ℕ
bucket table k = word32 (buckets_at table + WORD_SIZE * k) table.words

-- a symbol's link
unfoldable pub link : HashTable → ℕ → ℕ
link table index = word32 (link_at table index) table.words

-- the bloom word of a hash
unfoldable pub bloom_word : HashTable → ℕ → ℕ
bloom_word table hash = word64 (GNU_HEADER_SIZE + BLOOM_WORD_SIZE * (hash / BLOOM_WORD_BITS % bloom_size table)) table.words

abbrev pub has_bit : ℕ → ℕ → Bool
has_bit word bit = word / 2 ^ bit % 2 == 1

-- the two bits of a hash
abbrev pub first_bit : ℕ → ℕ
first_bit hash = hash % BLOOM_WORD_BITS

abbrev pub second_bit : ℕ → ℕ → ℕ
second_bit hash shift = hash / 2 ^ shift % BLOOM_WORD_BITS

-- whether the bloom word lets a hash pass: both of its bits are set. A System V table has no such words.
unfoldable pub admits : HashTable → ℕ → Bool
admits table hash =
    not table.gnu
    || has_bit (bloom_word table hash) (first_bit hash)
    && has_bit (bloom_word table hash) (second_bit hash (bloom_shift table))

-- whether a symbol may have a hash: in a GNU table the upper 31 bits of its link are those of its hash
unfoldable pub matches : HashTable → ℕ → ℕ → Bool
matches table hash index = not table.gnu || link table index / 2 == hash / 2
