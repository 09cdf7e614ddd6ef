use Rattle.std.proofs.Common.{◌≡◌, ℕ, List, ◌++◌, ap, ◌∙◌, rules}
use Rattle.std.specs.Prelude.{OnOk}
use Rattle.std.proofs.lemmas.Result.{IfOk-weaker}
use Rattle.pl_base.specs.Bytes.{part}
use Rattle.pl_form.proofs.PartsLaws.{part_added_twice}
use Rattle.pl_form.proofs.back.Front.push_part.Goals as goal

pub returns : goal.returns
returns c =
    let xs = c.self.inside.before.now in
    let ys = c.self.inside.behind.now in
    let old = c.args.out.now.items in
    let view : xs ++ ys ≡ c.args.self.now = c.self.view_is in
    let added : OnOk c.extend_from_slice-2.result (c.extend_from_slice-2.new.self.items ≡ c.extend_from_slice.new.self.items ++ c.part.result.now) = search rules in
    IfOk-weaker c.extend_from_slice-2.result _ _ (λ x e.
    part_added_twice c.args.at c.args.size c.saturating_sub-from.result c.saturating_sub-rest.result xs ys c.part-first.result.now c.part.result.now old c.extend_from_slice.new.self.items c.extend_from_slice-2.new.self.items
    c.part-first.ensures.bytes c.saturating_sub-from.ensures c.saturating_sub-rest.ensures c.part.ensures.bytes c.in_ok-extend_from_slice.ensures.items e
    ∙ ap (λ (zs : List ℕ). old ++ part c.args.at c.args.size zs) view) added
