use Rattle.std.proofs.Common.{◌≡◌, ◌∙◌, ◌++◌, ◌∷◌, [], ℕ, List, Some, refl, sym, ap, subst, rules}
use Rattle.std.specs.Option.{option_map}
use Rattle.pl_place.specs.Policy.{Follows}
use Rattle.pl_loader.specs.Given.{given}
use Rattle.pl_weave.specs.Opening.{Opened, Sees, seen_of, wanted}
use Rattle.pl_weave.proofs.SeesLemmas.{give_name, is_told, led_off, led_on, on_both, sees_given, sees_none, unrefused_yet}
use Rattle.pl_weave.proofs.opening.Opening.see.Goals as goal

pub invariant_of-self-in-Ok-give : goal.invariant_of-self-in-Ok-give
invariant_of-self-in-Ok-give g c = c.self.invariant ∙ sym (give_name c.self.inside.loader.walk c.give.new.self.walk _ c.in-Ok-give.ensures.ok)

pub returns-in-Ok-give-clause-ok : goal.returns-in-Ok-give-clause-ok
returns-in-Ok-give-clause-ok g c =
    let post = goal.F-post g in
    let file = option_map (λ bytes. bytes.items) c.args.file in
    let o : Opened _ = record { load = c.self.inside.loader; seen = c.self.inside.seen.items; fault = c.self.inside.fault } in
    let new : Opened _ = record { load = c.give.new.self; seen = c.push.new.self.items; fault = c.self.inside.fault } in
    let wanted_is : wanted o ≡ Some c.args.name = ap wanted c.self.view_is ∙ c.requires.wanted in
    let pushed : c.push.new.self.items ≡ c.self.inside.seen.items ++ seen_of c.args.name file ∷ [] = search rules in
    subst (λ (v : Opened _). Sees post c.args.name file v new) c.self.view_is
    (sees_given post o new c.args.name c.as_str.result.now file wanted_is (c.as_str.ensures ∙ c.self.invariant) c.in-Ok.file _
    (λ choose follows. ap (λ (n : List ℕ). given choose c.as_str.result.now n file) (sym c.as_str-2.ensures) ∙ c.in-Ok.ensures.means choose (subst (λ q. Follows (post q) choose) (sym c.placer-placer.ensures) follows)) c.in-Ok-give.ensures.ok
    (led_on o new (seen_of c.args.name file) c.give.new.self.walk c.give.ensures.same pushed (unrefused_yet o c.args.name wanted_is)))

pub returns-in-Err-give-clause-ok : goal.returns-in-Err-give-clause-ok
returns-in-Err-give-clause-ok g c =
    let post = goal.F-post g in
    let fault = c.in-Err-give.fault in
    let file = option_map (λ bytes. bytes.items) c.args.file in
    let o : Opened _ = record { load = c.self.inside.loader; seen = c.self.inside.seen.items; fault = c.self.inside.fault } in
    let new : Opened _ = record { load = c.give.new.self; seen = c.push.new.self.items; fault = Some fault } in
    let wanted_is : wanted o ≡ Some c.args.name = ap wanted c.self.view_is ∙ c.requires.wanted in
    let pushed : c.push.new.self.items ≡ c.self.inside.seen.items ++ seen_of c.args.name file ∷ [] = search rules in
    on_both c.refuse.result
    (λ refused kept. subst (λ (v : Opened _). Sees post c.args.name file v c.refuse.new.self) c.self.view_is
    (sees_given post o c.refuse.new.self c.args.name c.as_str.result.now file wanted_is (c.as_str.ensures ∙ c.self.invariant) c.in-Ok.file _
    (λ choose follows. ap (λ (n : List ℕ). given choose c.as_str.result.now n file) (sym c.as_str-2.ensures) ∙ c.in-Ok.ensures.means choose (subst (λ q. Follows (post q) choose) (sym c.placer-placer.ensures) follows))
    (is_told fault _ kept c.in-Err-give.ensures.err) (refused ∙ led_off o new (seen_of c.args.name file) fault c.in-Err-give.ensures.unchanged pushed refl)))
    c.refuse.ensures.refused c.refuse.ensures.kept

pub returns-in-Err-clause-ok : goal.returns-in-Err-clause-ok
returns-in-Err-clause-ok g c =
    let post = goal.F-post g in
    let fault = c.in-Err.fault in
    let file = option_map (λ bytes. bytes.items) c.args.file in
    let o : Opened _ = record { load = c.self.inside.loader; seen = c.self.inside.seen.items; fault = c.self.inside.fault } in
    let new : Opened _ = record { load = c.self.inside.loader; seen = c.push.new.self.items; fault = Some fault } in
    let wanted_is : wanted o ≡ Some c.args.name = ap wanted c.self.view_is ∙ c.requires.wanted in
    let pushed : c.push.new.self.items ≡ c.self.inside.seen.items ++ seen_of c.args.name file ∷ [] = search rules in
    on_both c.refuse-in-Err.result
    (λ refused kept. subst (λ (v : Opened _). Sees post c.args.name file v c.refuse-in-Err.new.self) c.self.view_is
    (sees_none post o c.refuse-in-Err.new.self c.args.name c.as_str.result.now file wanted_is (c.as_str.ensures ∙ c.self.invariant) fault
    (λ choose follows. ap (λ (n : List ℕ). given choose c.as_str.result.now n file) (sym c.as_str-2.ensures) ∙ is_told fault _ kept (c.in-Err.ensures.means choose (subst (λ q. Follows (post q) choose) (sym c.placer-placer.ensures) follows)))
    (refused ∙ led_off o new (seen_of c.args.name file) fault refl pushed refl)))
    c.refuse-in-Err.ensures.refused c.refuse-in-Err.ensures.kept
