-- The members of a walk by their indexes.
use Rattle.std.proofs.Common.{◌≡◌, ℕ, List}
use Rattle.std.specs.Prelude.{slice_get}
use Rattle.std.specs.Option.{option_map}
use Rattle.std.proofs.lemmas.Option.{slice_get-map}
use Rattle.pl_scope.specs.Scope.{walked}
use Rattle.pl_scope.specs.declared.member.Member.{Member}

pub member_at : (ms : List Member) (i : ℕ) → slice_get (walked ms) i ≡ option_map (λ m. (m.name, m.object.now)) (slice_get ms i)
member_at ms i = slice_get-map (λ (m : Member). (m.name, m.object.now)) ms i
