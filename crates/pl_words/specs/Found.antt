-- Which options, flags and names words give.
use Rattle.std.specs.Prelude.{ℕ, Bool, true, false, not, ◌&&◌, ◌||◌, List, Option, Some, find, option_and_then}
use Rattle.std.specs.List.{list_all, list_any}
use Rattle.std.specs.Str.{bytes_eq}
use Rattle.clap.specs.Words.{Row}
use Rattle.clap.specs.declared.parser.matches.ValueSource.{ValueSource}
use Rattle.clap.specs.declared.parser.matches.ValueSource.TheVariants.{CommandLine}

abbrev pub Name : Type 0
Name = List ℕ

-- what is there without the words is a default, as that of a flag that does not stand
abbrev pub is_from_words : Option ValueSource → Bool
is_from_words (Some CommandLine) = true
is_from_words _ = false

-- where what has this name comes from
abbrev pub source : List Row → Name → Option ValueSource
source rows name = option_and_then (λ r. r.source) (find (λ r. bytes_eq r.id name) rows)

-- the words give the option, the flag or the names of this name
unfoldable pub is_given : List Row → Name → Bool
is_given rows name = is_from_words (source rows name)

abbrev pub is_among : List Name → Name → Bool
is_among names name = list_any (λ other. bytes_eq other name) names

abbrev pub is_allowed : List Name → List Name → List Row → Name → Bool
is_allowed must may rows name = not (is_given rows name) || is_among must name || is_among may name

abbrev pub has_no_other : List Name → List Name → List Row → Bool
has_no_other must may rows = list_all (λ r. is_allowed must may rows r.id) rows

-- the words give all that must stand, and besides it nothing but what may
unfoldable pub fits : List Name → List Name → List Row → Bool
fits must may rows = list_all (is_given rows) must && has_no_other must may rows
