-- What one more read consumed stands behind what was read before.
use Rattle.std.proofs.Common.{◌≡◌, ℕ, ◌+◌, ◌-◌, ◌≤◌, List, ◌++◌, rules, length, take, drop, sym, ap, ◌∙◌, subst, le_refl, drop_at, length-take-le}
use Rattle.std.proofs.lemmas.Slice.{take-put_mid_below}
use Rattle.std.specs.Io.KnownBytes.{Consumes}
use Rattle.std.proofs.KnownBytes.{Consumes-trans}
use borrow.Rule.Slice.PartMut.{put_mid, post_of}
use lib.Seq.{take-add, take-append-le}
use Rattle.streams.proofs.read_all.Goals as goal

-- the first a + n elements of ys in xs from a on: the first a of xs and the first n of ys
take-put_mid : (a k n : ℕ) (xs ys : List ℕ) → a ≤ length xs → n ≤ length ys → take a xs ++ take n ys ≡ take (a + n) (put_mid a k xs ys)
take-put_mid a k n xs ys within fits =
    let after = post_of a k xs in
    let front = take-put_mid_below _ _ _ _ _ (le_refl _) within in
    let behind = ap (take n) (drop_at (take a xs) (ys ++ after) a (length-take-le a xs within)) ∙ take-append-le n ys after fits in
    ap (λ l. take a xs ++ l) (sym behind) ∙ ap (λ l. l ++ take n (drop a (put_mid a k xs ys))) (sym front) ∙ sym (take-add a n (put_mid a k xs ys))

pub loop-done-preserved-in-Ok : goal.loop-done-preserved-in-Ok
loop-done-preserved-in-Ok g c =
    let from = c.loop-done.done in
    let room = length c.loop-done.buf - from in
    let (same, within, consumed) = c.loop-done.invariant in
    let joined = take-put_mid from room c.in-Ok.n c.loop-done.buf c.read.new.buf within c.in-Ok.ensures.bound.0 in
    (search rules, search rules, subst (Consumes _ _) joined (Consumes-trans _ _ _ _ _ consumed c.in-Ok.ensures.bytes.0))
