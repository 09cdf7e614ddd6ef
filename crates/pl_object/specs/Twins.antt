-- Definers of one name and version, looked for among symbols whose names have one key.
use Rattle.std.specs.Prelude.{ℕ, ◌+◌, ◌-◌, ◌*◌, Bool, false, ◌&&◌, ◌==◌, nat_le, List, length, take, drop, slice_get, Option, Some, None, if◌then◌else◌}
use Rattle.pl_sym.specs.declared.symbol.Symbol.{Symbol}
use Rattle.pl_sym.specs.declared.class.Class.TheVariants.{Other}
use Rattle.pl_sym.specs.Definers.{is_definer}
use Rattle.pl_hash.specs.Hash.{gnu}
use Rattle.pl_ver.specs.declared.versions.Versions.{Versions}
use Rattle.pl_object.specs.SymbolClauses.{is_twin}
use Rattle.pl_object.specs.declared.twins.Entry.{Entry}
use Rattle.pl_object.specs.declared.twins.TheConstants.{KEY_END}

-- a number for a name: its hash, or, of a long name, the hashes of both of its ends and its length as one sum
abbrev pub name_key : List ℕ → ℕ
name_key name =
    if nat_le (length name) (2 * KEY_END) then gnu name
    else gnu (take KEY_END name) + gnu (drop (length name - KEY_END) name) + length name

abbrev pub key_of : Option Symbol → ℕ
key_of None = 0
key_of (Some s) = name_key s.name

-- a symbol's place under its name's key
abbrev pub entry_of : List Symbol → ℕ → Entry
entry_of symbols index = record { key = key_of (slice_get symbols index); index = index }

abbrev pub defines_by : Bool → Option Symbol → Bool
defines_by program None = false
defines_by program (Some s) = is_definer s Other program

abbrev pub twins_by : (Symbol → Symbol → Bool) → Option Symbol → Option Symbol → Bool
twins_by p None other = false
twins_by p (Some s) None = false
twins_by p (Some s) (Some t) = p s t

-- two entries of one key whose symbols are definers of one name and version
abbrev pub are_twins : Option Versions → Bool → List Symbol → Entry → Entry → Bool
are_twins versions program symbols a b =
    a.key == b.key && twins_by (is_twin versions program) (slice_get symbols a.index) (slice_get symbols b.index)

abbrev pub entry_key : Entry → ℕ
entry_key e = e.key
