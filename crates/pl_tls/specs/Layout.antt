-- Variant II of thread-local storage: each block ends where the one before begins, or below it, and begins at an aligned offset below the thread pointer.
use Rattle.std.specs.Prelude.{ℕ, ◌+◌, Bool, true, false, List, [], ◌∷◌, Option, Some, None, Result, Ok, nat_lt, max}
use Rattle.std.specs.List.{list_any}
use Rattle.pl_base.specs.Answers.{unless}
use Rattle.pl_base.specs.Sums.{round_up}
use Rattle.pl_tls.specs.declared.TheConstants.{OFFSET_LIMIT}
use Rattle.pl_tls.specs.declared.block.Block.{Block}
use Rattle.pl_tls.specs.declared.module.Module.{Module}
use Rattle.pl_tls.specs.declared.fault.TlsFault.{TlsFault}
use Rattle.pl_tls.specs.declared.fault.TlsFault.TheVariants.{TooLarge, NoMemory}

abbrev pub is_memory : TlsFault → Bool
is_memory NoMemory = true
is_memory TooLarge = false

-- a block's offset, where the blocks before it reach so many bytes down: its size further, and up to a multiple of its alignment, which is 1 where it is 0
unfoldable pub offset_after : ℕ → Block → ℕ
offset_after reached block = round_up (reached + block.size) (max 1 block.align)

-- the modules of objects, from this index, this number and this reach on: one for each object that has a block
unfoldable pub modules_from : ℕ → ℕ → ℕ → List (Option Block) → List Module
modules_from member number reached [] = []
modules_from member number reached (None ∷ blocks) = modules_from (member + 1) number reached blocks
modules_from member number reached (Some block ∷ blocks) =
    let offset = offset_after reached block in
    record { member = member; number = number; offset = offset } ∷ modules_from (member + 1) (number + 1) offset blocks

abbrev pub is_too_far : Module → Bool
is_too_far m = nat_lt OFFSET_LIMIT m.offset

-- the modules, numbered from 1, or the refusal of an offset that is too great
unfoldable pub offsets : List (Option Block) → Result (List Module) TlsFault
offsets blocks =
    let modules = modules_from 0 1 0 blocks in
    unless (list_any is_too_far modules) TooLarge (Ok modules)
