use Rattle.std.proofs.Common.{◌≡◌, ap, sym, ◌∙◌, Vec, Global}
use Rattle.std.proofs.lemmas.List.{append-nil}
use Rattle.pl_sym.specs.declared.symbol.Symbol.{Symbol}
use Rattle.pl_scope.specs.declared.index.Entry.{Entry}
use Rattle.pl_scope.specs.Index.{entry_of}
use Rattle.pl_scope.proofs.IndexLaws.{entries_more_of, entries_done_of}
use Rattle.pl_scope.proofs.index.add_entries.Goals.{in-Some+in_ok-push, in_default}
use Rattle.pl_scope.proofs.index.add_entries.Goals as goal

pub loop-number-preserved : goal.loop-number-preserved
loop-number-preserved c =
    let o = c.args.object.now in
    let m = c.args.member in
    let items = c.as_slice-symbols.result.now in
    let same : items ≡ o.symbols = cc in
    let i = c.loop-number.number in
    let d = c.index-symbols-number.result in
    let at = ap (λ (s : Symbol). entry_of o m i s) c.index-symbols-number.is in
    let front = c.loop-number.entries.items in
    elim c.match-entry_of.branch [
      | in-Some+in_ok-push w ↦
          let more = ap (λ (v : Vec Entry Global). v.items) w.entries-is ∙ w.in_ok-push.ensures.items in
          entries_more_of o m items i d front _ _ _ same c.loop-number-test.true (sym w.in-Some.is ∙ c.entry_of.ensures ∙ at) more c.loop-number.invariant
      | in_default w ↦
          let more = ap (λ (v : Vec Entry Global). v.items) w.entries-is ∙ sym (append-nil front) in
          entries_more_of o m items i d front _ _ _ same c.loop-number-test.true (sym w.in_default.is ∙ c.entry_of.ensures ∙ at) more c.loop-number.invariant
    ]

pub returns : goal.returns
returns c =
    let o = c.args.object.now in
    let items = c.as_slice-symbols.result.now in
    let same : items ≡ o.symbols = cc in
    entries_done_of o c.args.member items c.loop-number.number c.loop-number.entries.items _ same c.loop-number-test.false c.loop-number.invariant
