use Rattle.std.proofs.Common.{◌≡◌, ℕ, ◌<◌, ◌≤◌, true, false, List, length, map, Ok, Err, refl, sym, ap, ◌∙◌, arith}
use Rattle.std.specs.Prelude.{◌==◌}
use Rattle.std.specs.List.{list_any}
use Rattle.std.proofs.lemmas.Bool.{eq-eqb, ne_eqb}
use Rattle.std.proofs.lemmas.Option.{slice_get_within}
use Rattle.std.proofs.lemmas.List.{take_all}
use Rattle.pl_cone.specs.Needs.{IsMore, name_of}
use Rattle.std.specs.Vec.{with_item}
use Rattle.pl_cone.specs.declared.walking.NumberWalk.{NumberWalk}
use Rattle.pl_cone.specs.declared.skip.Skip.TheVariants.{TooMany}
use Rattle.pl_cone.proofs.UnderLaws.{max_is}
use Rattle.pl_cone.proofs.WalkingLaws.{added_full, added_new, added_seen, seen_is, walking_more, walking_same}
use Rattle.pl_cone.proofs.walking.NumberWalk.add.Goals as goal

same_walk : (w : NumberWalk) → IsMore w w
same_walk w = record { walk = refl; front = take_all (length w.numbers.items) w.numbers.items (omega arith) }

pub returns-then-index-self-clause-walking : goal.returns-then-index-self-clause-walking
returns-then-index-self-clause-walking c = c.requires.walking.walking

pub returns-then-index-self-clause-more : goal.returns-then-index-self-clause-more
returns-then-index-self-clause-more c = same_walk c.args.self.now

pub returns-then-len-ge-MAX_MEMBERS-clause-walking : goal.returns-then-len-ge-MAX_MEMBERS-clause-walking
returns-then-len-ge-MAX_MEMBERS-clause-walking c = c.requires.walking.walking

pub returns-then-len-ge-MAX_MEMBERS-clause-more : goal.returns-then-len-ge-MAX_MEMBERS-clause-more
returns-then-len-ge-MAX_MEMBERS-clause-more c = same_walk c.args.self.now

pub returns-in_err-name-clause-walking : goal.returns-in_err-name-clause-walking
returns-in_err-name-clause-walking c = c.requires.walking.walking

pub returns-in_err-name-clause-more : goal.returns-in_err-name-clause-more
returns-in_err-name-clause-more c = same_walk c.args.self.now

pub returns-then-index-self-clause-names : goal.returns-then-index-self-clause-names
returns-then-index-self-clause-names c =
    let w = c.args.self.now in
    let value = c.index.result.now in
    let has : list_any (λ m. m == c.args.number) w.numbers.items ≡ true = seen_is w c.args.number value (c.requires.walking.walking.seen c.args.number c.requires.number) c.index.ensures ∙ eq-eqb value w.walk c.if-index-self.true in
    added_seen c.args.needs.now c.requires.walking.needs w.numbers.items c.args.number c.requires.walking.walking.named c.requires.number has

pub returns-then-len-ge-MAX_MEMBERS-clause-names : goal.returns-then-len-ge-MAX_MEMBERS-clause-names
returns-then-len-ge-MAX_MEMBERS-clause-names c =
    let w = c.args.self.now in
    let value = c.index.result.now in
    let has : list_any (λ m. m == c.args.number) w.numbers.items ≡ false = seen_is w c.args.number value (c.requires.walking.walking.seen c.args.number c.requires.number) c.index.ensures ∙ ne_eqb value w.walk c.if-index-self.false in
    let full : 256 ≤ length w.numbers.items = omega (arith, max_is, c.if-len-ge-MAX_MEMBERS.true, c.len.ensures, w.numbers.ok) in
    added_full c.args.needs.now c.requires.walking.needs w.numbers.items c.args.number c.requires.walking.walking.named c.requires.number has full ∙ ap (λ (m : List ℕ). Err (TooMany m)) (sym c.in_ok-name.ensures)

pub returns-in_err-push-clause-walking : goal.returns-in_err-push-clause-walking
returns-in_err-push-clause-walking c =
    let after : NumberWalk = record { numbers = c.push.new.self; last = c.args.self.now.last; walk = c.args.self.now.walk } in
    walking_same c.args.needs.now c.args.self.now after c.in_err-push.ensures.items refl refl c.requires.walking.walking

pub index_mut-requires : goal.index_mut-requires
index_mut-requires c =
    let old = c.requires.walking.walking.seen c.args.number c.requires.number in
    let within = slice_get_within c.args.self.now.last.items c.args.number old.last old.at in
    omega (arith, within, c.args.self.now.last.ok)

pub returns-clause-walking : goal.returns-clause-walking
returns-clause-walking c =
    let w = c.args.self.now in
    let room : length w.numbers.items < 256 = omega (arith, max_is, c.if-len-ge-MAX_MEMBERS.false, c.len.ensures, w.numbers.ok) in
    let after : NumberWalk = record { numbers = c.push.new.self; last = with_item w.last c.args.number w.walk; walk = w.walk } in
    walking_more c.args.needs.now w after c.args.number c.requires.walking.walking c.requires.number c.in_ok-push.ensures.items refl refl room

pub returns-clause-names : goal.returns-clause-names
returns-clause-names c =
    let w = c.args.self.now in
    let value = c.index.result.now in
    let has : list_any (λ m. m == c.args.number) w.numbers.items ≡ false = seen_is w c.args.number value (c.requires.walking.walking.seen c.args.number c.requires.number) c.index.ensures ∙ ne_eqb value w.walk c.if-index-self.false in
    let room : length w.numbers.items < 256 = omega (arith, max_is, c.if-len-ge-MAX_MEMBERS.false, c.len.ensures, w.numbers.ok) in
    added_new c.args.needs.now c.requires.walking.needs w.numbers.items c.args.number c.requires.walking.walking.named c.requires.number has room ∙ ap (λ (ns : List ℕ). Ok (map (name_of c.args.needs.now) ns)) (sym c.in_ok-push.ensures.items)
