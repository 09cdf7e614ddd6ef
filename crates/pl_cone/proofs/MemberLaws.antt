-- The thread-local storage of the members of a walk.
use Rattle.std.proofs.Common.{◌≡◌, ◌<◌, ◌≤◌, ◌^◌, List, [], ◌∷◌, Option, length, refl, ap, arith}
use Rattle.std.specs.Prelude.{map}
use Rattle.std.proofs.lemmas.List.{length-map}
use Rattle.pl_scope.proofs.MemberLaws.{length_walked, length_objects}
use Rattle.pl_scope.proofs.WalkedLaws.{limit_is}
use Rattle.pl_scope.specs.Scope.{walked, objects, IsScope}
use Rattle.pl_scope.specs.Walk.{Walked}
use Rattle.pl_scope.specs.declared.constants.TheConstants.{MAX_MEMBERS}
use Rattle.pl_scope.specs.declared.member.Member.{Member}
use Rattle.pl_tls.specs.declared.block.Block.{Block}
use Rattle.pl_cone.specs.Candidates.{blocks}

-- their thread-local storage
pub blocks_are : (ms : List Member) → map (λ m. m.object.now.tls) ms ≡ blocks (walked ms)
blocks_are [] = refl
blocks_are (m ∷ ms) = ap (λ (bs : List (Option Block)). m.object.now.tls ∷ bs) (blocks_are ms)

pub few_blocks : (ms : List Member) (w : Walked) → walked ms ≡ w → IsScope (objects w) → length (map (λ m. m.object.now.tls) ms) < 2 ^ 32
few_blocks ms w is scope =
    let few : length (objects w) ≤ MAX_MEMBERS = scope.few in
    let of_objects : length (objects w) ≡ length w = length_objects w in
    let of_walk : length (walked ms) ≡ length ms = length_walked ms in
    let same : length (walked ms) ≡ length w = ap length is in
    let of_map : length (map (λ (m : Member). m.object.now.tls) ms) ≡ length ms = length-map ms (λ (m : Member). m.object.now.tls) in
    omega (arith, limit_is)
