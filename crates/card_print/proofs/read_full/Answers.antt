use Rattle.std.proofs.Common.{◌≡◌, ◌+◌, ◌-◌, ◌++◌, rules, length, take, drop, sym, ap, ◌∙◌, subst, le_refl, drop_at, length-take-le}
use Rattle.std.proofs.lemmas.Slice.{take-put_mid_below}
use Rattle.std.specs.Io.KnownBytes.{Consumes}
use Rattle.std.proofs.KnownBytes.{Consumes-trans}
use borrow.Rule.Slice.PartMut.{put_mid, post_of}
use lib.Seq.{take-add, take-append-le}
use Rattle.card_print.proofs.read_full.Goals as goal

-- what a read gave stands behind what came before it
pub loop-n-preserved : goal.loop-n-preserved
loop-n-preserved g c =
    let n = c.loop-n.n in
    let got = c.in_ok-got.got in
    let before = c.loop-n.space in
    let part = c.read.new.buf in
    let room = length before - n in
    let after = put_mid n room before part in
    let within = c.loop-n.invariant.1 in
    let read = c.in_ok-got.ensures in
    let front : take n after ≡ take n before = take-put_mid_below _ _ _ _ _ (le_refl _) within in
    let back : take got (drop n after) ≡ take got part = ap (take got) (drop_at (take n before) (part ++ post_of n room before) n (length-take-le n before within)) ∙ take-append-le got part _ read.bound.0 in
    let whole : take (n + got) after ≡ take n before ++ take got part = take-add n got after ∙ ap (λ l. l ++ take got (drop n after)) front ∙ ap (λ l. take n before ++ l) back in
    (search rules, search rules, subst (Consumes _ _) (sym whole) (Consumes-trans _ _ _ _ _ c.loop-n.invariant.2 read.bytes.0))
