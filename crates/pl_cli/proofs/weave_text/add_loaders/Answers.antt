use Rattle.std.proofs.Common.{◌≡◌, ◌∙◌, ◌++◌, ℕ, List, ap, sym, subst, arith, rules}
use Rattle.std.proofs.lemmas.List.{append-nil, take_all}
use Rattle.pl_place.specs.Policy.{Chooses, Follows, MayChoose}
use Rattle.pl_cli.specs.Weave.{loaders_text}
use Rattle.pl_texts.specs.WeaveText.{loader_line}
use Rattle.pl_cli.proofs.WeaveTextLemmas.{loaders_added, policy_of}
use Rattle.pl_cli.proofs.weave_text.add_loaders.Goals as goal

pub loop-number-init : goal.loop-number-init
loop-number-init g c p choose have follows = sym (append-nil c.args.out.now.text.items)

pub add_loader-requires-clause-may : goal.add_loader-requires-clause-may
add_loader-requires-clause-may g c =
    let chosen = c.requires.chosen in
    subst (λ p. MayChoose (λ holes span align. g.F.Fn.pre p (holes, (span, (align, tt))))) (sym (policy_of chosen.policy c.args.weave.now c.loop-number.number c.loader.result.now chosen.are c.loader.ensures)) chosen.may

pub add_loader-requires-clause-chooses : goal.add_loader-requires-clause-chooses
add_loader-requires-clause-chooses g c =
    let chosen = c.requires.chosen in
    subst (λ p. Chooses (λ holes span align answer. g.F.Fn.post p (holes, (span, (align, tt))) answer)) (sym (policy_of chosen.policy c.args.weave.now c.loop-number.number c.loader.result.now chosen.are c.loader.ensures)) chosen.chooses

pub loop-number-preserved : goal.loop-number-preserved
loop-number-preserved g c p choose have follows =
    let w = c.args.weave.now in
    let n = c.loop-number.number in
    let o = c.loader.result.now in
    let so_far = c.loop-number.out.text.items in
    let line : c.extend_from_slice.new.self.items ≡ so_far ++ loader_line n = search rules in
    let own = policy_of p w n o have c.loader.ensures in
    let added = c.in_ok-add_loader.ensures choose (subst (λ q. Follows (λ holes span align answer. g.F.Fn.post q (holes, (span, (align, tt))) answer) choose) (sym own) follows) in
    loaders_added choose w n o c.args.out.now.text.items so_far c.extend_from_slice.new.self.items c.add_loader.new.out.text.items c.loader.ensures (omega (arith, c.loop-number-test.true, c.requires.count)) line added (c.loop-number.invariant p choose have follows)

pub returns : goal.returns
returns g c p choose have follows =
    let w = c.args.weave.now in
    let n = c.loop-number.number in
    c.loop-number.invariant p choose have follows ∙ ap (λ os. c.args.out.now.text.items ++ loaders_text choose 0 os) (take_all n w (omega (arith, c.loop-number-test.false, c.requires.count)))
