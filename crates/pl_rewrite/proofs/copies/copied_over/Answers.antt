use Rattle.std.proofs.Common.{◌≡◌, ◌<◌, ◌++◌, ℕ, List, length, take, drop, ap, subst, sym, ◌∙◌, arith, length-append, length-drop}
use Rattle.std.proofs.lemmas.List.{append-nil, drop_all, length-take, take_all}
use Rattle.pl_rewrite.specs.Copies.{PutsFirst}
use Rattle.pl_rewrite.proofs.PlaceLaws.{bytes_read, copy_fills, one_loaded}
use Rattle.pl_rewrite.proofs.copies.copied_over.Goals as goal

-- what is put over the first bytes leaves their number, so it is all of them
put_whole : (first before after items : List ℕ) (len : ℕ) → before ≡ items → length items ≡ len → PutsFirst first before after → PutsFirst first before (take len (after ++ drop (length after) items))
put_whole first before after items len same counted puts =
    let long : length after ≡ len = omega (arith, ap length puts, length-append (take (length before) first) (drop (length first) before), length-take (length before) first, length-drop (length first) before, ap length same, counted) in
    let rest = ap (λ (xs : List ℕ). after ++ xs) (drop_all (length after) items (omega (arith, long, counted))) ∙ append-nil after in
    subst (PutsFirst first before) (sym (ap (take len) rest ∙ take_all len after (omega (arith, long)))) puts

pub one_of-loaded-requires : goal.one_of-loaded-requires
one_of-loaded-requires c = omega (arith, c.requires.member, c.requires.filling.loaded.one_each)

pub read-requires : goal.read-requires
read-requires c = one_loaded c.args.filling.now c.args.member c.one_of-loaded.result.now c.requires.filling.loaded (omega (arith, c.requires.member, c.requires.filling.loaded.one_each)) c.one_of-loaded.ensures

pub returns : goal.returns
returns c =
    let lt : c.args.member < length c.args.filling.now.loaded.now = omega (arith, c.requires.member, c.requires.filling.loaded.one_each) in
    let counted : length c.in_ok-standing.standing.items ≡ c.in_ok-standing.standing.len = omega (arith, c.in_ok-standing.standing.ok.0) in
    copy_fills c.args.filling.now c.args.reloc.now c.args.member c.args.from c.args.bytes c.in_ok-standing.standing.items c.in_ok-first.first.items c.deref_mut.result.now c.as_slice.result.now _ c.in_ok-standing.ensures
    (bytes_read c.args.filling.now c.args.member c.one_of-loaded.result.now c.requires.filling.loaded lt c.one_of-loaded.ensures c.args.filling.now.near.now c.args.from c.args.bytes c.in_ok-first.first.items c.in_ok-first.ensures)
    c.deref_mut.ensures.value c.as_slice.ensures.value
    (put_whole c.as_slice.result.now c.deref_mut.result.now c.put_first.new.bytes c.in_ok-standing.standing.items c.in_ok-standing.standing.len c.deref_mut.ensures.value counted c.put_first.ensures)
