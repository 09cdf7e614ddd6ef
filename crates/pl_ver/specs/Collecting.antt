-- How the records are collected: one after the other, each with an index that none before it has.
use Rattle.std.specs.Prelude.{◌≡◌, ℕ, true, List, [], ◌∷◌, ◌++◌, Result, Ok}
use Rattle.pl_base.specs.Answers.{unless}
use Rattle.pl_base.specs.Each.{run}
use Rattle.pl_ver.specs.declared.fault.VerFault.{VerFault}
use Rattle.pl_ver.specs.declared.fault.VerFault.TheVariants.{BadIndex}
use Rattle.pl_ver.specs.declared.record.Record.{Record}
use Rattle.pl_ver.specs.Chains.{are_verdefs, is_verneed, are_verneeds}
use Rattle.pl_ver.specs.Versions.{any_has, any_index_twice}

-- one record more
abbrev pub add : List Record → Record → Result (List Record) VerFault
add before r = unless (any_has r.index before) BadIndex (Ok (before ++ r ∷ []))

-- records more, in their order
unfoldable pub add_all : List Record → List Record → Result (List Record) VerFault
add_all before records = run add before records

-- records, unless two of them have the same index
unfoldable pub distinct : List Record → Result (List Record) VerFault
distinct records = unless (any_index_twice records) BadIndex (Ok records)

-- a section, and a Verneed, that clause 17 does not refuse with some strings
abbrev pub AreVerdefs : List ℕ → ℕ → Type 0
AreVerdefs verdef defs = (strings : List ℕ) × (are_verdefs strings verdef defs ≡ true)

abbrev pub AreVerneeds : List ℕ → ℕ → Type 0
AreVerneeds verneed needs = (strings : List ℕ) × (are_verneeds strings verneed needs ≡ true)

abbrev pub IsVerneed : List ℕ → ℕ → Type 0
IsVerneed verneed at = (strings : List ℕ) × (is_verneed strings verneed at ≡ true)
