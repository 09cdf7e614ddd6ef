use Rattle.std.proofs.Common.{◌≡◌, ◌+◌, ◌<◌, ◌≤◌, true, length, map, get_or, [], List, ℕ, Bor, sym, ap, ◌∙◌, arith, subst}
use Rattle.std.specs.List.{All}
use Rattle.std.proofs.lemmas.List.{get_or-map, length-map}
use Rattle.std.proofs.lemmas.List.Elements.{All-push, All-same}
use Rattle.pl_base.specs.Memory.{AtMostOne, lies}
use Rattle.pl_elf.specs.declared.constants.TheConstants.{ADDRESS_LIMIT}
use Rattle.pl_image.specs.Image.{all_pieces, ascends}
use Rattle.pl_image.specs.Loads.{loaded_at}
use Rattle.pl_image.specs.declared.loaded_object.LoadedObject.{LoadedObject}
use Rattle.pl_object.specs.declared.object.Object.{Object}
use Rattle.pl_scope.specs.Scope.{objects}
use Rattle.pl_scope.proofs.MemberLaws.{length_objects}
use Rattle.pl_value.specs.Ordinary.{part_of}
use Rattle.pl_value.proofs.OrdinaryLaws.{placed_at, loaded_step, loaded_whole}
use Rattle.pl_value.proofs.images.load.Goals as goal

abbrev Ascends : LoadedObject → Type 0
Ascends o = ascends 0 o.pieces ≡ true

abbrev Fits : LoadedObject → Type 0
Fits o = All (λ l. l.start + l.size ≤ ADDRESS_LIMIT) o.mask.loads

-- the file of a member is its part
loads_is : (parts : List (List ℕ)) (files : List (Bor (List ℕ))) (i : ℕ) (d : Bor (List ℕ)) (place base : ℕ) (o : Object) (x : LoadedObject) → i < length parts → map (λ (b : Bor (List ℕ)). b.now) files ≡ parts → place ≡ base → x ≡ loaded_at place (get_or files i d).now o → x ≡ loaded_at base (part_of parts i) o
loads_is parts files i d place base o x lt same at is =
    let now : Bor (List ℕ) → List ℕ = λ (b : Bor (List ℕ)). b.now in
    let few : i < length files = omega (arith, lt, ap length same, length-map files now) in
    let file : (get_or files i d).now ≡ part_of parts i = sym (get_or-map now files i d [] few) ∙ ap (λ (xs : List (List ℕ)). get_or xs i []) same in
    is ∙ ap (λ (n : ℕ). loaded_at n (get_or files i d).now o) at ∙ ap (λ (bytes : List ℕ). loaded_at base bytes o) file

pub load_object-requires : goal.load_object-requires
load_object-requires c =
    rw c.base_of-place.ensures (placed_at (objects c.args.scope.now) c.args.places.now c.args.parts.now c.loop-member.member _ c.requires.placed c.object-object.ensures.object)

pub loop-member-preserved : goal.loop-member-preserved
loop-member-preserved c =
    let lt : c.loop-member.member < length c.args.scope.now = omega arith in
    let loads = loads_is c.args.parts.now c.as_slice-files.result.now c.loop-member.member _ c.base_of-place.result _ c.object-object.result.now c.in_ok-load_object.field-0 (omega (arith, lt)) c.as_slice-files.ensures c.base_of-place.ensures c.in_ok-load_object.ensures.value in
    record {
      so_far = loaded_step (objects c.args.scope.now) c.args.places.now c.args.parts.now c.loop-member.member _ c.loop-member.loaded.items c.push.new.self.items _ c.in_ok-load_object.field-0 c.object-object.ensures.object loads c.in_ok-push.ensures.items c.loop-member.invariant.so_far;
      ascend = All-same Ascends _ _ c.in_ok-push.ensures.items (All-push Ascends c.loop-member.loaded.items c.in_ok-load_object.field-0 c.loop-member.invariant.ascend c.in_ok-load_object.ensures.ascends);
      fit = All-same Fits _ _ c.in_ok-push.ensures.items (All-push Fits c.loop-member.loaded.items c.in_ok-load_object.field-0 c.loop-member.invariant.fit c.in_ok-load_object.ensures.fits);
    }

pub returns-clause-value : goal.returns-clause-value
returns-clause-value c = loaded_whole (objects c.args.scope.now) c.args.places.now c.args.parts.now c.loop-member.member c.loop-member.loaded.items _ (omega (arith, length_objects c.args.scope.now)) c.loop-member.invariant.so_far

pub returns-clause-loaded : goal.returns-clause-loaded
returns-clause-loaded c =
    let whole = loaded_whole (objects c.args.scope.now) c.args.places.now c.args.parts.now c.loop-member.member c.loop-member.loaded.items _ (omega (arith, length_objects c.args.scope.now)) c.loop-member.invariant.so_far in
    record {
      ascend = c.loop-member.invariant.ascend;
      fit = c.loop-member.invariant.fit;
      apart = subst (λ (ls : List LoadedObject). AtMostOne lies (all_pieces ls)) (sym whole) c.requires.placed.apart;
    }
