use Rattle.std.proofs.Common.{◌≡◌, ◌∙◌, ℕ, List, None, length, ap, sym, arith, rules}
use Rattle.std.specs.Borrow.{Bor}
use Rattle.std.specs.Option.{option_copied}
use Rattle.std.proofs.lemmas.List.{length-map, length_push}
use Rattle.std.proofs.lemmas.Map.Text.{btree_map_updates_str}
use Rattle.std.proofs.lemmas.Option.{none-some}
use Rattle.pl_cone.specs.Needs.{told, words}
use Rattle.pl_cone.proofs.NeedLaws.{goes_on_push, names_pushed, number_last, one_number_more}
use Rattle.pl_cone.proofs.needs.Numbering.number.Goals as goal

pub returns-in-Some-clause-number : goal.returns-in-Some-clause-number
returns-in-Some-clause-number c = c.requires.numbers.tell c.args.name.now c.in-Some.number.now (sym c.get.ensures.value ∙ ap option_copied c.in-Some.is)

pub returns-in-Some-clause-goes_on : goal.returns-in-Some-clause-goes_on
returns-in-Some-clause-goes_on c = record { is = c.requires; keep = λ n name at. at }

pub returns-in-Some-clause-adds : goal.returns-in-Some-clause-adds
returns-in-Some-clause-adds c = λ none. absurd (none-some c.in-Some.number.now (sym none ∙ (sym c.get.ensures.value ∙ ap option_copied c.in-Some.is)))

pub returns-clause-number : goal.returns-clause-number
returns-clause-number c =
    let old = c.args.self.now.names.items in
    let next : c.len-number.result ≡ length (words old) = omega (arith, length-map old (λ (x : Bor (List ℕ)). x.now), c.len-number.ensures, c.args.self.now.names.ok) in
    number_last (words old) (words c.push.new.self.items) c.args.name.now c.len-number.result next (names_pushed old c.push.new.self.items c.args.name c.in_ok-push.ensures.items)

pub returns-clause-goes_on : goal.returns-clause-goes_on
returns-clause-goes_on c =
    let old = c.args.self.now.names.items in
    let next : c.len-number.result ≡ length (words old) = omega (arith, length-map old (λ (x : Bor (List ℕ)). x.now), c.len-number.ensures, c.args.self.now.names.ok) in
    let none : told c.args.self.now.numbers c.args.name.now ≡ None = search rules in
    let more = names_pushed old c.push.new.self.items c.args.name c.in_ok-push.ensures.items in
    let long = ap length c.in_ok-push.ensures.items ∙ length_push old c.args.name in
    record {
      is = record {
        numbers = one_number_more c.args.self.now.numbers c.insert.new.self (words old) (words c.push.new.self.items) c.args.name.now c.len-number.result next c.requires.numbers none (btree_map_updates_str c.args.name.now c.args.self.now.numbers c.insert.new.self _ c.in_ok-insert.ensures.updates) more;
        few = omega (arith, long, c.len.ensures, c.args.self.now.names.ok);
      };
      keep = goes_on_push (words old) (words c.push.new.self.items) c.args.name.now more;
    }

pub returns-clause-adds : goal.returns-clause-adds
returns-clause-adds c = λ none. names_pushed c.args.self.now.names.items c.push.new.self.items c.args.name c.in_ok-push.ensures.items
