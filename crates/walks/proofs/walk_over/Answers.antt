-- The loop is along the walk, and ends as the walk does.
-- Assumes nothing.
use Rattle.std.proofs.Common.{◌≡◌, ◌∙◌, arith, rules}
use Rattle.walks.proofs.Along.{starts, ends_done, ends_edge, counted, ends_marked, passed, so_many, there, read}
use Rattle.walks.proofs.walk_over.Goals as goal
use Rattle.walks.proofs.walk_over.Goals.{then-counts, else-counts+else-is_filemark}

pub is_filemark-is_filemark-requires : goal.is_filemark-is_filemark-requires
is_filemark-is_filemark-requires g c = there g.W.Direction.laws _ _ c.requires _ c.count-count.ensures.0 _ c.reach-reach.ensures _ c.loop-k-test.true _ c.number_as_index.ensures

pub loop-k-init : goal.loop-k-init
loop-k-init g c = starts _ _ _

pub returns-then-left-eq0 : goal.returns-then-left-eq0
returns-then-left-eq0 g c = ends_done c.loop-k.invariant (omega arith)

pub returns-then-is_filemark : goal.returns-then-is_filemark
returns-then-is_filemark g c =
    let laws = g.W.Direction.laws in
    let many = so_many laws c.args.image.now.bytes c.args.p c.requires _ c.count-count.ensures.0 _ c.reach-reach.ensures in
    let kind = read laws c.args.image.now.bytes c.args.p c.requires _ c.count-count.ensures.0 _ c.reach-reach.ensures _ c.loop-k-test.true _ c.number_as_index.ensures _ c.is_filemark-is_filemark.ensures in
    ends_marked c.loop-k.invariant (rw many c.loop-k-test.true) (omega arith) _ _ (kind ∙ search rules) c.counts.ensures c.if-counts.false c.if-is_filemark.true _ (search rules)

pub loop-k-preserved : goal.loop-k-preserved
loop-k-preserved g c =
    let laws = g.W.Direction.laws in
    let many = so_many laws c.args.image.now.bytes c.args.p c.requires _ c.count-count.ensures.0 _ c.reach-reach.ensures in
    let kind = read laws c.args.image.now.bytes c.args.p c.requires _ c.count-count.ensures.0 _ c.reach-reach.ensures _ c.loop-k-test.true _ c.number_as_index.ensures _ c.is_filemark-is_filemark.ensures in
    elim c.if-counts.branch [
      | then-counts w ↦ rw w.left-is (counted c.loop-k.invariant (rw many c.loop-k-test.true) (omega arith) _ _ (kind ∙ search rules) c.counts.ensures w.if-counts.true)
      | else-counts+else-is_filemark w ↦ rw w.left-is (passed c.loop-k.invariant (rw many c.loop-k-test.true) (omega arith) _ _ (kind ∙ search rules) c.counts.ensures w.if-counts.false w.if-is_filemark.false)
    ]

pub returns-then-left-eq0-2 : goal.returns-then-left-eq0-2
returns-then-left-eq0-2 g c = let e : c.reach-reach.result ≡ c.loop-k.k = omega arith in rw e (ends_done c.loop-k.invariant (omega arith))

pub returns-else-left-eq0-2 : goal.returns-else-left-eq0-2
returns-else-left-eq0-2 g c =
    let many = so_many g.W.Direction.laws c.args.image.now.bytes c.args.p c.requires _ c.count-count.ensures.0 _ c.reach-reach.ensures in
    let e : c.reach-reach.result ≡ c.loop-k.k = omega arith in
    rw e (ends_edge c.loop-k.invariant (omega arith) (omega (arith, many)))
