use Rattle.std.proofs.Common.{◌≡◌, ◌<◌, ◌+◌, ◌++◌, [], ◌∷◌, ℕ, Bool, true, false, List, Vec, Global, cond, length, map, get_or, take, refl, sym, ap, ◌∙◌, append_assoc}
use Rattle.std.proofs.lemmas.List.{append-nil, map-append, take_all}
use Rattle.std.proofs.lemmas.List.Elements.{filter_more}
use Rattle.pl_base.specs.Windows.{Window}
use Rattle.pl_conflict.specs.Prelinked.{load_window}
use Rattle.pl_elf.specs.Headers.{is_load, loads}
use Rattle.pl_elf.specs.declared.segment.Segment.{Segment}
use Rattle.pl_rewrite.proofs.apart.add_loads.Goals.{then-is_load+in_ok-push, else-is_load}
use Rattle.pl_rewrite.proofs.apart.add_loads.Goals as goal

-- the windows of one more segment
more : (ss : List Segment) (i : ℕ) (d : Segment) (before front new : List Window) (made : List Window) (b : Bool) → i < length ss → b ≡ is_load (get_or ss i d) → made ≡ map load_window (cond b (get_or ss i d ∷ []) []) → new ≡ front ++ made → front ≡ before ++ map load_window (loads (take i ss))
    → new ≡ before ++ map load_window (loads (take (i + 1) ss))
more ss i d before front new made b lt tested is pushed so_far =
    let one : List Segment = cond (is_load (get_or ss i d)) (get_or ss i d ∷ []) [] in
    let same : made ≡ map load_window one = is ∙ ap (λ (c : Bool). map load_window (cond c (get_or ss i d ∷ []) [])) tested in
    pushed ∙ ap (λ (ws : List Window). ws ++ made) so_far ∙ append_assoc before (map load_window (loads (take i ss))) made
    ∙ ap (λ (ws : List Window). before ++ ws) (ap (λ (ws : List Window). map load_window (loads (take i ss)) ++ ws) same ∙ sym (map-append load_window (loads (take i ss)) one) ∙ ap (map load_window) (sym (filter_more is_load ss i d lt)))

window_of : (s : Segment) (w : Window) (at : ℕ) → w ≡ record { at = at; size = s.memsz } → at ≡ s.vaddr → w ≡ load_window s
window_of s w at is place = is ∙ ap (λ (n : ℕ). record { at = n; size = s.memsz }) place

abbrev nothing : Segment
nothing = record { kind = 0; flags = 0; offset = 0; vaddr = 0; paddr = 0; filesz = 0; memsz = 0; align = 0 }

pub loop-segment-init : goal.loop-segment-init
loop-segment-init c = sym (append-nil c.args.windows.now.items)

pub loop-segment-preserved : goal.loop-segment-preserved
loop-segment-preserved c = elim c.if-is_load.branch [
  | then-is_load+in_ok-push w ↦
      let d : Segment = get_or c.as_slice-segment-items.result.now c.loop-segment.segment-index nothing in
      let one = ap (λ (v : Window). v ∷ []) (window_of d w.new.result w.from.result w.new.ensures w.from.ensures) in
      more c.as_slice-segment-items.result.now c.loop-segment.segment-index nothing c.args.windows.now.items c.loop-segment.windows.items _ _ true c.loop-segment-test.true (sym w.if-is_load.true ∙ c.is_load.ensures) one (ap (λ (v : Vec Window Global). v.items) w.windows-is ∙ w.in_ok-push.ensures.items) c.loop-segment.invariant
  | else-is_load w ↦
      more c.as_slice-segment-items.result.now c.loop-segment.segment-index nothing c.args.windows.now.items c.loop-segment.windows.items _ [] false c.loop-segment-test.true (sym w.if-is_load.false ∙ c.is_load.ensures) refl (ap (λ (v : Vec Window Global). v.items) w.windows-is ∙ sym (append-nil c.loop-segment.windows.items)) c.loop-segment.invariant
]

pub returns : goal.returns
returns c =
    c.loop-segment.invariant ∙ ap (λ (ss : List Segment). c.args.windows.now.items ++ map load_window (loads ss)) (take_all c.loop-segment.segment-index c.as_slice-segment-items.result.now c.loop-segment-test.false ∙ c.as_slice-segment-items.ensures)
