-- An object of a sound image lies between two ends, the second within it (`lies`).
-- Assumes nothing.
use Rattle.std.proofs.Common.{ℕ, ◌-◌, List, take, drop, ap, ap₂, ◌≡◌, ◌≤◌, ◌<◌, length, ◌∙◌, arith, rules}
use Rattle.words.proofs.Laws.{part_is}
use Rattle.image.specs.Sound.{SoundImage}
use Rattle.image.specs.Image.{count}
use Rattle.image.proofs.Lies.{lies}
use Rattle.image.proofs.whole.Image.block.Goals as goal

pub end_at-from-requires : goal.end_at-from-requires
end_at-from-requires c =
    let n : c.args.i < count c.self.inside.bytes.now = rw (← ap (λ (i : SoundImage). i.bytes) c.self.view_is) at c.requires in
    let o = lies _ c.self.inside.is_sound c.args.i n in
    omega arith

pub end_at-to-requires : goal.end_at-to-requires
end_at-to-requires c =
    let n : c.args.i < count c.self.inside.bytes.now = rw (← ap (λ (i : SoundImage). i.bytes) c.self.view_is) at c.requires in
    (lies _ c.self.inside.is_sound c.args.i n).entry_in

pub slice_bounds-result-count : goal.slice_bounds-result-count
slice_bounds-result-count c =
    let n : c.args.i < count c.self.inside.bytes.now = rw (← ap (λ (i : SoundImage). i.bytes) c.self.view_is) at c.requires in
    let o = lies _ c.self.inside.is_sound c.args.i n in
    omega arith

pub slice_bounds-result-start : goal.slice_bounds-result-start
slice_bounds-result-start c =
    let n : c.args.i < count c.self.inside.bytes.now = rw (← ap (λ (i : SoundImage). i.bytes) c.self.view_is) at c.requires in
    let o = lies _ c.self.inside.is_sound c.args.i n in
    let a : c.end_at-from.result ≤ length c.self.inside.bytes.now = omega arith in
    search rules

pub slice_bounds-result-end : goal.slice_bounds-result-end
slice_bounds-result-end c =
    let n : c.args.i < count c.self.inside.bytes.now = rw (← ap (λ (i : SoundImage). i.bytes) c.self.view_is) at c.requires in
    let o = lies _ c.self.inside.is_sound c.args.i n in
    let a : c.end_at-from.result ≤ c.end_at-to.result = omega arith in
    let b : c.end_at-to.result ≤ length c.self.inside.bytes.now = omega arith in
    search rules

-- m bytes from x on, as the code takes them, are those from one end to the next
taken : (s : List ℕ) (x m from to : ℕ) → from ≤ to → x ≡ from → m ≡ to - from → take m (drop x s) ≡ drop from (take to s)
taken s x m from to h e f = ap₂ (λ (a b : ℕ). take a (drop b s)) f e ∙ part_is from to s h

pub returns : goal.returns
returns c =
    let n : c.args.i < count c.self.inside.bytes.now = rw (← ap (λ (i : SoundImage). i.bytes) c.self.view_is) at c.requires in
    let o = lies _ c.self.inside.is_sound c.args.i n in
    let a : c.end_at-from.result ≤ c.end_at-to.result = omega arith in
    let b = rw (c.end_at-from.ensures.0, c.end_at-to.ensures.0) at a in
    rw (← ap (λ (i : SoundImage). i.bytes) c.self.view_is) (search (rules, taken))
