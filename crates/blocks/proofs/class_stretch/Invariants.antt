-- `blocks::class_stretch` meets its contract. Both loops walk: what is still to be found from here on is what was to be found from the start on.
use mathlib.Core.Path.{◌≡◌}
use Prim.Native.Nat.{◌-◌, ◌≤◌, ◌<◌}
use Rattle.definition.specs.Blocks.{masked, first_of, stretch_start, class_end}
use Rattle.blocks.proofs.Walk.{clear, other}
use Rattle.blocks.proofs.class_stretch.Given as goal

abbrev pub invariant-loop-next : goal.invariant-loop-next
invariant-loop-next l =
    record {
      here : l.start < l.next;
      more : l.next ≤ l.limit;
      inside : l.limit ≤ l.bw;
      masked_next : first_of (masked l.mask) l.next (l.bw - l.next) ≡ l.limit;
      other_next : class_end l.mask l.classes l.start l.bw ≡ first_of (other l.mask l.classes l.start) l.next (l.bw - l.next);
    }

abbrev pub decreases-loop-next : goal.decreases-loop-next
decreases-loop-next l =
    l.limit - l.next

abbrev pub invariant-loop-start : goal.invariant-loop-start
invariant-loop-start l =
    (l.start ≤ l.bw) × (stretch_start l.mask l.bx l.bw ≡ first_of (clear l.mask) l.start (l.bw - l.start))
