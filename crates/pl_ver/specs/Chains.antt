-- Chains of version records (GNU symbol versioning records): one record after the other, each by the `next` of the one before. And what acceptance clause 17 refuses, which is this project's profile: the records' format asks for none of it.
use Rattle.std.specs.Prelude.{ℕ, zero, suc, ◌+◌, Bool, true, not, ◌&&◌, ◌==◌, nat_le, List, [], ◌∷◌, map, flat_map, length, if◌then◌else◌}
use Rattle.pl_base.specs.Bytes.{word32}
use Rattle.pl_base.specs.Strings.{has_end}
use Rattle.pl_ver.specs.declared.constants.TheConstants.{VERDEF_SIZE, VERDAUX_SIZE, VERNEED_SIZE, VERNAUX_SIZE, VDA_NAME, VN_FILE, VNA_NAME}
use Rattle.pl_ver.specs.declared.record.Record.{Record}
use Rattle.pl_ver.specs.Fields.{next, verdef_count, verdef_names, verdef_at, verneed_count, verneed_versions, vernaux_at}

-- the offsets of so many records of a size, the first of them at an offset
unfoldable pub chain : ℕ → List ℕ → ℕ → ℕ → List ℕ
chain size section zero at = []
chain size section (suc more) at = at ∷ chain size section more (at + next size section at)

-- a record lies in its section, and its `next` is 0 exactly where no more records follow
unfoldable pub is_linked : ℕ → List ℕ → ℕ → ℕ → Bool
is_linked size section more at =
    nat_le (at + size) (length section) && (if more == 0 then next size section at == 0 else not (next size section at == 0))

-- so many records, the first of them at an offset, are linked and pass a test
unfoldable pub is_chain : (ℕ → Bool) → ℕ → List ℕ → ℕ → ℕ → Bool
is_chain passes size section zero at = true
is_chain passes size section (suc more) at =
    is_linked size section more at && passes at && is_chain passes size section more (at + next size section at)

-- ---- clause 17

-- the string whose offset stands in a record, so many bytes behind the record's begin, has an end
unfoldable pub is_named : List ℕ → List ℕ → ℕ → ℕ → Bool
is_named strings section field at = has_end (word32 (at + field) section) strings

-- a Verdef has a name, and each of its names an end
unfoldable pub is_verdef : List ℕ → List ℕ → ℕ → Bool
is_verdef strings verdef at =
    not (verdef_count verdef at == 0)
    && is_chain (is_named strings verdef VDA_NAME) VERDAUX_SIZE verdef (verdef_count verdef at) (verdef_names verdef at)

-- the names of a Verneed's file and of each version that is needed of it have an end
unfoldable pub is_verneed : List ℕ → List ℕ → ℕ → Bool
is_verneed strings verneed at =
    is_named strings verneed VN_FILE at
    && is_chain (is_named strings verneed VNA_NAME) VERNAUX_SIZE verneed (verneed_count verneed at) (verneed_versions verneed at)

unfoldable pub are_verdefs : List ℕ → List ℕ → ℕ → Bool
are_verdefs strings verdef defs = is_chain (is_verdef strings verdef) VERDEF_SIZE verdef defs 0

unfoldable pub are_verneeds : List ℕ → List ℕ → ℕ → Bool
are_verneeds strings verneed needs = is_chain (is_verneed strings verneed) VERNEED_SIZE verneed needs 0

-- ---- the records with a name

-- the versions that are needed of a Verneed's file
unfoldable pub needed_at : List ℕ → ℕ → List Record
needed_at verneed at = map (vernaux_at verneed) (chain VERNAUX_SIZE verneed (verneed_count verneed at) (verneed_versions verneed at))

unfoldable pub defined : List ℕ → ℕ → List Record
defined verdef defs = map (verdef_at verdef) (chain VERDEF_SIZE verdef defs 0)

unfoldable pub needed : List ℕ → ℕ → List Record
needed verneed needs = flat_map (needed_at verneed) (chain VERNEED_SIZE verneed needs 0)
