-- Whether the originals of a walk link is what is asked of the walk.
use Rattle.std.proofs.Common.{◌≡◌, ℕ, zero, suc, List, [], ◌∷◌, length, Some, Result, Ok, Err, refl, ap, ◌∙◌}
use Rattle.std.specs.Prelude.{map, replicate, slice_get}
use Rattle.std.specs.Result.{is_ok}
use Rattle.pl_base.specs.Answers.{◌>>=◌, because}
use Rattle.pl_base.specs.Each.{each}
use Rattle.pl_cone.specs.Candidates.{blocks, check_links, of_link, resolved, zeros}
use Rattle.pl_cone.specs.Skips.{of_tls}
use Rattle.pl_object.specs.Reads.{reads}
use Rattle.pl_object.specs.declared.object.Object.{Object}
use Rattle.pl_object.specs.declared.refusal.Refusal.{Refusal}
use Rattle.pl_scope.specs.Members.{names}
use Rattle.pl_scope.specs.Scope.{objects}
use Rattle.pl_scope.specs.Walk.{Walked}
use Rattle.pl_scope.proofs.MemberLaws.{length_objects}
use Rattle.pl_tls.specs.Layout.{offsets}
use Rattle.pl_tls.specs.declared.fault.TlsFault.{TlsFault}
use Rattle.pl_tls.specs.declared.module.Module.{Module}
use Rattle.pl_value.specs.Meanings.{meanings}
use Rattle.pl_cone.specs.Fits.{links, resolves}

-- the members' originals are read as their objects
pub each_read : (original : List ℕ → List ℕ) (ws : Walked) → ((i : ℕ) (p : List ℕ × Object) → slice_get ws i ≡ Some p → reads (original p.0) ≡ Ok p.1) → each reads (map original (names ws)) ≡ Ok (objects ws)
unfolding each
each_read original [] read = refl
each_read original (p ∷ ws) read = rw (read zero p refl, each_read original ws (λ i q at. read (suc i) q at)) refl

ok_because : {X E F : Type 0} (fault : E → F) (r : Result X E) → is_ok r ≡ is_ok {T = Unit {0}} (because fault r >>= λ x. Ok tt)
ok_because fault (Ok x) = refl
ok_because fault (Err e) = refl

resolves_is : (ws : Walked) (modules : List Module) → is_ok (meanings (objects ws) (replicate (length (objects ws)) 0) modules) ≡ is_ok (resolved ws modules)
unfolding resolved
resolves_is ws modules =
    ap (λ (size : ℕ). is_ok (meanings (objects ws) (replicate size 0) modules)) (length_objects ws)
    ∙ ok_because (of_link ws) (meanings (objects ws) (zeros ws) modules)

by_modules : (ws : Walked) (r : Result (List Module) TlsFault) → resolves (objects ws) r ≡ is_ok (because of_tls r >>= λ modules. resolved ws modules)
by_modules ws (Ok modules) = resolves_is ws modules
by_modules ws (Err e) = refl

pub links_is : (ws : Walked) → links {E = Refusal} (Ok (objects ws)) ≡ is_ok (check_links ws)
unfolding check_links
links_is ws = by_modules ws (offsets (blocks ws))
