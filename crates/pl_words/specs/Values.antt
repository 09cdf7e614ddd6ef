-- The values that words give.
use Rattle.std.specs.Prelude.{ℕ, List, length, drop, nat_eq, Option, Some, None, Result, Ok, Err, codes, if◌then◌else◌}
use Rattle.std.specs.List.{starts_with}
use Rattle.std.specs.Str.{bytes_eq}
use Rattle.pl_base.specs.Answers.{◌>>=◌}
use Rattle.clap.specs.Words.{Row, all_of, first_of}
use Rattle.pl_elf.specs.declared.range.Range.{Range}
use Rattle.pl_words.specs.Found.{Name}
use Rattle.pl_words.specs.Numbers.{decimal, range}
use Rattle.pl_words.specs.declared.command.Policy.{Policy}
use Rattle.pl_words.specs.declared.command.Policy.TheVariants.{Lowest, Highest, Seeded}
use Rattle.pl_words.specs.declared.fault.WordsFault.{WordsFault}
use Rattle.pl_words.specs.declared.fault.WordsFault.TheVariants.{Usage}
use Rattle.pl_words.specs.declared.values.TheConstants.{REGION, SEEDED}

-- what is not there is no part of a command
abbrev pub needed : {X : Type 0} → Option X → Result X WordsFault
needed None = Err Usage
needed (Some x) = Ok x

-- the value of an option
unfoldable pub value : List Row → Name → Result (List ℕ) WordsFault
value rows option = needed (first_of option rows)

unfoldable pub number_of : List Row → Name → Result ℕ WordsFault
number_of rows option = value rows option >>= decimal

-- ---- ranges

abbrev pub range_if_any : Option (List ℕ) → Result (Option Range) WordsFault
range_if_any None = Ok None
range_if_any (Some text) = range text >>= λ r. Ok (Some r)

-- the addresses that no library may get, if any
unfoldable pub busy : List Row → Result (Option Range) WordsFault
busy rows = range_if_any (first_of (codes "busy") rows)

abbrev pub range_or : Range → Option (List ℕ) → Result Range WordsFault
range_or default None = Ok default
range_or default (Some text) = range text

-- the addresses from which slots are given
unfoldable pub region : List Row → Result Range WordsFault
region rows = range_or REGION (first_of (codes "region") rows)

-- ---- policies

-- `seeded:N`
unfoldable pub seeded : List ℕ → Result Policy WordsFault
seeded text =
    if starts_with nat_eq text SEEDED.now then (decimal (drop (length SEEDED.now) text) >>= λ number. Ok (Seeded number)) else Err Usage

unfoldable pub policy_in : List ℕ → Result Policy WordsFault
policy_in text =
    if bytes_eq text (codes "lowest") then Ok Lowest else if bytes_eq text (codes "highest") then Ok Highest else seeded text

abbrev pub policy_or_lowest : Option (List ℕ) → Result Policy WordsFault
policy_or_lowest None = Ok Lowest
policy_or_lowest (Some text) = policy_in text

unfoldable pub policy : List Row → Result Policy WordsFault
policy rows = policy_or_lowest (first_of (codes "policy") rows)

-- ---- names

-- all names, in the order of the words
unfoldable pub names : List Row → Result (List Name) WordsFault
names rows = needed (all_of (codes "names") rows)
