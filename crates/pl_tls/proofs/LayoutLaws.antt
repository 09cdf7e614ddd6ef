-- The modules of blocks, block by block.
use Rattle.std.proofs.Common.{◌≡◌, ℕ, ◌+◌, ◌<◌, ◌≤◌, true, false, List, [], ◌∷◌, ◌++◌, length, get_or, drop, Option, Some, None, Ok, Err, refl, sym, ap, ◌∙◌, append_assoc, arith}
use Rattle.std.specs.List.{list_any}
use Rattle.std.proofs.Math.Seq.{drop-length}
use Rattle.std.proofs.lemmas.List.{append-nil, drop_more}
use Rattle.std.proofs.lemmas.List.Folds.{list_any-append}
use Rattle.std.proofs.lemmas.Bool.{lt-ltb, le-ltb}
use Rattle.pl_base.specs.Answers.{NeverMemory}
use Rattle.pl_base.proofs.TellsLaws.{ok_tells, unless_tells}
use Rattle.pl_tls.specs.declared.TheConstants.{OFFSET_LIMIT}
use Rattle.pl_tls.specs.declared.block.Block.{Block}
use Rattle.pl_tls.specs.declared.module.Module.{Module}
use Rattle.pl_tls.specs.declared.fault.TlsFault.TheVariants.{TooLarge}
use Rattle.pl_tls.specs.Layout.{is_memory, is_too_far, modules_from, offset_after, offsets}

-- the modules of the blocks before an index, none of them too far, with those of the blocks from there on are all modules
pub record AreSoFar (blocks : List (Option Block)) (index number reached : ℕ) (modules : List Module) : Type 0 where
  pub all : modules ++ modules_from index number reached (drop index blocks) ≡ modules_from 0 1 0 blocks
  pub near : list_any is_too_far modules ≡ false
  pub count : number ≤ index + 1

-- what is left from an index on begins with the element there
-- an object without a block
without : (blocks : List (Option Block)) (index number reached : ℕ) → index < length blocks → get_or blocks index None ≡ None
    → modules_from index number reached (drop index blocks) ≡ modules_from (index + 1) number reached (drop (index + 1) blocks)
unfolding modules_from
without blocks index number reached lt e = rw (drop_more blocks index None lt, e) refl

-- an object with a block
abbrev module_at : ℕ → ℕ → ℕ → Module
module_at index number offset = record { member = index; number = number; offset = offset }

with : (blocks : List (Option Block)) (index number reached : ℕ) (block : Block) → index < length blocks → get_or blocks index None ≡ Some block
    → modules_from index number reached (drop index blocks)
    ≡ module_at index number (offset_after reached block) ∷ modules_from (index + 1) (number + 1) (offset_after reached block) (drop (index + 1) blocks)
unfolding modules_from
with blocks index number reached block lt e = rw (drop_more blocks index None lt, e) refl

pub none_more : (blocks : List (Option Block)) (index number reached : ℕ) (modules : List Module) → index < length blocks → get_or blocks index None ≡ None
    → AreSoFar blocks index number reached modules → AreSoFar blocks (index + 1) number reached modules
none_more blocks index number reached modules lt e so_far =
    record { all = ap (λ (ms : List Module). modules ++ ms) (sym (without blocks index number reached lt e)) ∙ so_far.all; near = so_far.near; count = omega (arith, so_far.count) }

pub one_more : (blocks : List (Option Block)) (index number reached offset : ℕ) (block : Block) (modules more : List Module) → index < length blocks → get_or blocks index None ≡ Some block
    → offset ≡ offset_after reached block → offset ≤ OFFSET_LIMIT → more ≡ modules ++ record { member = index; number = number; offset = offset } ∷ []
    → AreSoFar blocks index number reached modules → AreSoFar blocks (index + 1) (number + 1) offset more
one_more blocks index number reached offset block modules more lt e offset_is le more_is so_far =
    let rest = modules_from (index + 1) (number + 1) offset (drop (index + 1) blocks) in
    let m : Module = module_at index number offset in
    let step : m ∷ rest ≡ modules_from index number reached (drop index blocks) = rw offset_is (sym (with blocks index number reached block lt e)) in
    record {
      all = rw more_is (append_assoc modules (m ∷ []) rest ∙ ap (λ (ms : List Module). modules ++ ms) step ∙ so_far.all);
      near = rw (more_is, list_any-append is_too_far modules (m ∷ []), so_far.near, le-ltb OFFSET_LIMIT offset le) refl;
      count = omega (arith, so_far.count);
    }

pub is_far : (blocks : List (Option Block)) (index number reached offset : ℕ) (block : Block) (modules : List Module) → index < length blocks → get_or blocks index None ≡ Some block
    → offset ≡ offset_after reached block → OFFSET_LIMIT < offset → AreSoFar blocks index number reached modules → offsets blocks ≡ Err TooLarge
unfolding offsets
is_far blocks index number reached offset block modules lt e offset_is far so_far =
    let any : list_any is_too_far (modules_from 0 1 0 blocks) ≡ true =
    rw (← so_far.all, with blocks index number reached block lt e, ← offset_is, list_any-append is_too_far modules _, so_far.near, lt-ltb OFFSET_LIMIT offset far) refl in
    rw any refl

pub are_all : (blocks : List (Option Block)) (index number reached : ℕ) (modules : List Module) → index ≡ length blocks → AreSoFar blocks index number reached modules → offsets blocks ≡ Ok modules
unfolding offsets modules_from
are_all blocks index number reached modules e so_far =
    let all : modules_from 0 1 0 blocks ≡ modules = sym so_far.all ∙ rw (e, drop-length blocks) (append-nil modules) in
    rw (all, so_far.near) refl

-- the offsets of any blocks: a value, or a fault that is no want of memory
pub offsets_tell : (blocks : List (Option Block)) → NeverMemory is_memory (offsets blocks)
unfolding offsets
offsets_tell blocks = unless_tells is_memory _ _ _ refl (ok_tells is_memory _)
