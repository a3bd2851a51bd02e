-- Q-12 on the calls: two SPACEs, of six or sixteen bytes each, against one; the whole outcome, for every record, partition and buffer.
-- Assumes nothing.
use Prim.Native.Nat.{ℕ, zero, suc, ◌+◌, ◌^◌, ◌≤◌, ◌<◌}
use native.Mathlib.Omega.{arith}
use mathlib.Core.Path.{◌≡◌, refl, sym, ap, ap₂, ◌∙◌, subst}
use mathlib.Core.Bool.{Bool, true, false, cond, ◌&&◌}
use mathlib.Core.Option.{Option, none, some}
use mathlib.Core.List.{List}
use lib.IntN.{ℤ, pos, negsuc, neg_ℤ, nat_abs, ◌+ℤ◌, ◌-ℤ◌, +ℤ_idl, +ℤ_idr}
use borrow.Author.Tests.{lt-ltb, eqb-true, eqb-false}
use lib.Dec.{eqb}
use lib.ListN.{length}
use Rattle.words.specs.Words.{bytes}
use Rattle.answers.specs.Answers.{record_fault, answered, first}
use Rattle.answers.proofs.First.{not_both}
use Rattle.objects.specs.Object.{Object}
use Rattle.objects.specs.Movement as M
use Rattle.objects.proofs.Walk.{went, still}
use Rattle.image.specs.Image.{count}
use Rattle.image.proofs.Objects.{length_objects}
use Rattle.sense.specs.declared.Sense.{Sense}
use Rattle.sense.specs.Sense.{not_ready, medium_not_present, unqualified, sense_bytes, told, empty_sense}
use Rattle.record.specs.declared.drive.Drive.{Drive}
use Rattle.record.specs.Record.{no_attention, decode_of, encode_of, well_record, with_sense}
use Rattle.commands.specs.Act.{Seen, at, filemark_met, end_met, beginning_met, space_tells, movement}
use Rattle.commands.specs.Stop.{Stop, refuse, attend, fault}
use Rattle.commands.specs.Step.{status_of, kept_of}
use Rattle.commands.specs.Call.{Result, partition, seen_of, inserted, command_tests}
use Rattle.commands.proofs.Crossed.{call_fits}
use Rattle.commands.proofs.Ends.{call_stops}
use Rattle.commands.proofs.Faultless.{inside, fault_free, back, kept_whole}
use Rattle.history.specs.History.{cartridge, is_good}
use Rattle.history.specs.Demand3.{Mounted}
use Rattle.alike.proofs.Moves.{space_stop, spaced_tests, Goes, left, landed, goes_left, tells_none, standing, stands, stays_mounted, current, served_code, spaced_goes, spaced_passes, space_mounted}
use Rattle.merged.specs.Merged.{at_least0, at_most0, one_way, may_merge, second, Done, following, Command, lending, calling, then_calling, Good, code_over, SpaceOver, leaving, MergedCalls, but_residue, StopsAlike}
use Rattle.merged.proofs.OneWay.{in_row_early, one_way_lem, both_or_none, all_moved, done_far}
use Rattle.merged.proofs.Blocks.{blocks_place}
use Rattle.merged.proofs.Movement.{two_or_one, comes_home}
use Rattle.merged.proofs.Residues.{left_over}

-- ---- one SPACE over c by k

-- GOOD is that it tells nothing, which is that its movement is done
tells_done : (v : Seen) (k : ℤ) (m : M.Move) → Done m → space_tells v k m ≡ none
unfolding space_tells
tells_done v k m e = rw e refl

none_done : (v : Seen) (k : ℤ) (m : M.Move) → space_tells v k m ≡ none → Done m
unfolding space_tells
none_done v k m h = go m.why refl
  where
    says : Option Sense → Bool
    says none = false
    says (some s) = true

    edge : (i : ℤ) → m.why ≡ M.edge → space_tells v i m ≡ none → ⊥
    edge (pos n) f g = not_both (ap says (rw f at g))
    edge (negsuc n) f g = not_both (ap says (rw f at g))

    go : (y : M.Why) → m.why ≡ y → Done m
    go M.done e = e
    go M.marked e = absurd (not_both (ap says (rw e at h)))
    go M.edge e = absurd (edge k e h)

movement_over : (c : M.Code) (k : ℤ) (p : ℕ) (xs : List Object) → movement (code_over c) k p xs ≡ M.space c k p xs
unfolding movement
movement_over M.blocks k p xs = refl
movement_over M.filemarks k p xs = refl

served : (c : M.Code) → served_code (code_over c) ≡ true
served M.blocks = refl
served M.filemarks = refl

module _ (c : M.Code) (k : ℤ) (rec p0 p1 : List ℕ) (x : Command) (s : SpaceOver c k x) where
  abbrev d : Drive
  d = decode_of rec

  abbrev v : Seen
  v = current d p0 p1

  abbrev move : M.Move
  move = M.space c k d.position v.objects

  goes : Goes rec (lending x p0 p1) move.to (space_tells v k move) move.distance
  goes = subst (λ (m : M.Move). Goes rec (lending x p0 p1) m.to (space_tells v k m) m.distance) (movement_over c k d.position v.objects) (spaced_goes (code_over c) k rec x.cmd p0 p1 x.sent x.received s.by)

  -- on a mounted cartridge no test stops it, and it stays on the partition
  leaves : Mounted rec (cartridge p0 p1) → calling x rec p0 p1 ≡ left d move.to (space_tells v k move) move.distance (lending x p0 p1)
  leaves m = goes_left rec x.cmd p0 p1 x.sent x.received _ _ _ goes (spaced_passes (code_over c) k rec x.cmd p0 p1 x.sent x.received s.by (served c) m s.whole s.within)

  reaches : Mounted rec (cartridge p0 p1) → (move.to ≤ count (partition d.current p0 p1)) × (move.to < 2 ^ 28)
  unfolding seen_of
  reaches m =
      let i = inside d p0 p1 (fault_free rec p0 p1 m.no_fault).cart (λ z. omega (arith, m.loaded)) in
      let sees : v ≡ seen_of (partition d.current p0 p1) = rw (lt-ltb d.current d.partitions i.there) refl in
      let l : length v.objects ≡ count (partition d.current p0 p1) = ap (λ (u : Seen). length u.objects) sees ∙ length_objects (partition d.current p0 p1) in
      let n : move.to ≤ count (partition d.current p0 p1) = omega (arith, l, (went c k d.position v.objects (omega (arith, l, i.place))).stays) in
      (n, omega (arith, n, i.right.dir_is, i.right.most))

  -- GOOD: there was a cartridge, no attention waited, and the movement is done
  pub good_mounted : Good (calling x rec p0 p1) → Mounted rec (cartridge p0 p1)
  good_mounted g = space_mounted (code_over c) k rec x.cmd p0 p1 x.sent x.received s.by g

  good_done : Good (calling x rec p0 p1) → Done move
  good_done g = none_done v k move (tells_none rec x.cmd p0 p1 x.sent x.received _ _ _ goes g)

  lands : Mounted rec (cartridge p0 p1) → Done move → calling x rec p0 p1 ≡ landed d move.to move.distance (lending x p0 p1)
  unfolding status_of kept_of
  lands m e = leaves m ∙ ap (λ (t : Option Sense). left d move.to t move.distance (lending x p0 p1)) (tells_done v k move e)

  done_good : Mounted rec (cartridge p0 p1) → Done move → Good (calling x rec p0 p1)
  done_good m e = ap (λ (r : Result). is_good r.answer) (lands m e)

-- ---- another on what it left, if it is GOOD

module _ (c : M.Code) (a b : ℤ) (rec p0 p1 : List ℕ) (x y : Command) (sx : SpaceOver c a x) (sy : SpaceOver c b y) (m : Mounted rec (cartridge p0 p1)) (e : Done (move c a rec p0 p1 x sx)) where
  abbrev from : Drive
  from = decode_of rec

  abbrev sees : Seen
  sees = current from p0 p1

  abbrev mid : ℕ
  mid = (M.space c a from.position sees.objects).to

  abbrev next : M.Move
  next = second c a b from.position sees.objects

  mid_stands : decode_of (standing rec mid) ≡ with_sense (at from mid) empty_sense
  mid_stands = stands rec p0 p1 mid (omega (arith, (reaches c a rec p0 p1 x sx m).1)) (fault_free rec p0 p1 m.no_fault)

  mid_mounted : Mounted (standing rec mid) (cartridge p0 p1)
  mid_mounted = let r = reaches c a rec p0 p1 x sx m in stays_mounted rec p0 p1 mid (omega (arith, r.1)) r.0 (fault_free rec p0 p1 m.no_fault) m

  goes_on : then_calling y (calling x rec p0 p1) ≡ calling y (standing rec mid) p0 p1
  goes_on = ap (then_calling y) (lands c a rec p0 p1 x sx m e)

  then_leaves : then_calling y (calling x rec p0 p1) ≡ left from next.to (space_tells sees b next) next.distance (lending y p0 p1)
  unfolding with_sense
  then_leaves = goes_on ∙ leaves c b (standing rec mid) p0 p1 y sy mid_mounted ∙ ap by mid_stands
    where
      by : Drive → Result
      by f = let n = M.space c b f.position (current f p0 p1).objects in left f n.to (space_tells (current f p0 p1) b n) n.distance (lending y p0 p1)

  then_done : Good (then_calling y (calling x rec p0 p1)) → Done next
  unfolding with_sense
  then_done g = subst (λ (f : Drive). Done (M.space c b f.position (current f p0 p1).objects)) mid_stands (good_done c b (standing rec mid) p0 p1 y sy (sym (ap (λ (r : Result). is_good r.answer) goes_on) ∙ g))

  then_lands : Done next → then_calling y (calling x rec p0 p1) ≡ landed from next.to next.distance (lending y p0 p1)
  unfolding status_of kept_of
  then_lands f = then_leaves ∙ ap (λ (t : Option Sense). left from next.to t next.distance (lending y p0 p1)) (tells_done sees b next f)

-- ---- one in place of two

-- "if SPACE .. by a and then by b both end GOOD and a + b fits the count, SPACE by a + b from the start ends GOOD at the same place"
pub two_calls_or_one : (c : M.Code) (a b : ℤ) (rec p0 p1 : List ℕ) (x y z : Command) → may_merge c a b ≡ true → SpaceOver c a x → SpaceOver c b y → SpaceOver c (a +ℤ b) z
    → let r = calling x rec p0 p1 in
    let s = then_calling y r in
    Good r → Good s → MergedCalls a b p0 p1 x y z r s (calling z rec p0 p1)
two_calls_or_one c a b rec p0 p1 x y z w sx sy sz g h =
    let d = decode_of rec in
    let m = good_mounted c a rec p0 p1 x sx g in
    let e = good_done c a rec p0 p1 x sx g in
    let f = then_done c a b rec p0 p1 x y sx sy m e h in
    let merges = two_or_one c a b d.position (current d p0 p1).objects w e f in
    let r-is = lands c a rec p0 p1 x sx m e in
    let s-is = then_lands c a b rec p0 p1 x y sx sy m e f in
    let t_is : calling z rec p0 p1 ≡ landed d (next c a b rec p0 p1 x y sx sy m e).to (move c (a +ℤ b) rec p0 p1 z sz).distance (lending z p0 p1)
    = lands c (a +ℤ b) rec p0 p1 z sz m merges.good ∙ ap (λ (n : ℕ). landed d n (move c (a +ℤ b) rec p0 p1 z sz).distance (lending z p0 p1)) merges.place in
    record {
      good = done_good c (a +ℤ b) rec p0 p1 z sz m merges.good;
      one = t_is ∙ ap₂ (λ (n : ℕ) (u : Result). leaving u n z p0 p1) (sym (ap (λ (u : Result). u.answer.crossed) t_is)) (sym s-is);
      two = (r-is ∙ ap (λ (u : Result). leaving u u.answer.crossed x p0 p1) (sym r-is), s-is ∙ ap (λ (u : Result). leaving u u.answer.crossed y p0 p1) (sym s-is));
      crossed = rw (s-is, r-is, t_is) merges.crossed;
    }

-- "so a followed by −a comes home when both are GOOD": the record is as it was but for the kept sense, which is empty now
pub calls_home : (a : ℤ) (rec p0 p1 : List ℕ) (x y : Command) → SpaceOver M.blocks a x → SpaceOver M.blocks (neg_ℤ a) y
    → let r = calling x rec p0 p1 in
    let s = then_calling y r in
    Good r → Good s → (s.rec ≡ encode_of (with_sense (decode_of rec) empty_sense)) × (s.lent ≡ lending y p0 p1)
calls_home a rec p0 p1 x y sx sy g h =
    let d = decode_of rec in
    let m = good_mounted M.blocks a rec p0 p1 x sx g in
    let e = good_done M.blocks a rec p0 p1 x sx g in
    let f = then_done M.blocks a (neg_ℤ a) rec p0 p1 x y sx sy m e h in
    let s-is = then_lands M.blocks a (neg_ℤ a) rec p0 p1 x y sx sy m e f in
    (ap (λ (u : Result). u.rec) s-is ∙ ap (λ (n : ℕ). encode_of (with_sense (at d n) empty_sense)) (comes_home a d.position (current d p0 p1).objects e f), ap (λ (u : Result). u.lent) s-is)

-- ---- of a GOOD one alone: its count is below 2^28, and over blocks it is how far the position moved

pub good_small : (c : M.Code) (k : ℤ) (rec p0 p1 : List ℕ) (x : Command) → SpaceOver c k x → Good (calling x rec p0 p1) → nat_abs k < 2 ^ 28
good_small c k rec p0 p1 x s g =
    let d = decode_of rec in
    let e = good_done c k rec p0 p1 x s g in
    let far = ap (λ (u : Result). u.answer.crossed) (lands c k rec p0 p1 x s (good_mounted c k rec p0 p1 x s g) e) in
    omega (arith, far, done_far c k d.position (current d p0 p1).objects e, (call_fits rec (lending x p0 p1)).1)

pub good_place : (k : ℤ) (rec p0 p1 : List ℕ) (x : Command) → SpaceOver M.blocks k x → let r = calling x rec p0 p1 in Good r → pos (decode_of r.rec).position ≡ pos (decode_of rec).position +ℤ k
unfolding with_sense
good_place k rec p0 p1 x s g =
    let d = decode_of rec in
    let m = good_mounted M.blocks k rec p0 p1 x s g in
    let e = good_done M.blocks k rec p0 p1 x s g in
    ap (λ (u : Result). pos (decode_of u.rec).position) (lands M.blocks k rec p0 p1 x s m e)
    ∙ ap (λ (f : Drive). pos f.position) (stands rec p0 p1 _ (omega (arith, (reaches M.blocks k rec p0 p1 x s m).1)) (fault_free rec p0 p1 m.no_fault))
    ∙ blocks_place k d.position (current d p0 p1).objects e

-- ---- one way, whatever the second's end

-- so the one tells what the second tells, its residue too
tells_on : (v : Seen) (a b : ℤ) (m n : M.Move) → one_way a b ≡ true → m.moved ≡ a → (b ≡ pos 0 → Done n) → space_tells v (a +ℤ b) (following M.done m n) ≡ space_tells v b n
unfolding space_tells following one_way at_least0 at_most0 M.residue
tells_on v a b m n w k z = go n.why refl
  where
    rest : (a +ℤ b) -ℤ (m.moved +ℤ n.moved) ≡ b -ℤ n.moved
    rest = ap (λ (i : ℤ). (a +ℤ b) -ℤ (i +ℤ n.moved)) k ∙ left_over a b n.moved

    at_edge : (i j : ℤ) → a ≡ i → b ≡ j → one_way i j ≡ true → n.why ≡ M.edge → space_tells v (i +ℤ j) (following M.done m n) ≡ space_tells v j n
    at_edge (pos p) (pos q) e f h y = rw y (ap (λ (l : ℤ). some (end_met v l)) (rw (e, f) at rest))
    at_edge (pos zero) (negsuc q) e f h y = rw (+ℤ_idl (negsuc q), y) (ap (λ (l : ℤ). some (beginning_met l)) (rw (+ℤ_idl (negsuc q)) at (rw (e, f) at rest)))
    at_edge (pos (suc p)) (negsuc q) e f h y = absurd (not_both (sym h))
    at_edge (negsuc p) (pos zero) e f h y = absurd (let u : M.edge ≡ M.done = sym y ∙ z f in let t : ◌≡◌ {A = ℕ} 0 1 = cc in omega arith)
    at_edge (negsuc p) (pos (suc q)) e f h y = absurd (not_both (sym h))
    at_edge (negsuc p) (negsuc q) e f h y = rw y (ap (λ (l : ℤ). some (beginning_met l)) (rw (e, f) at rest))

    go : (y : M.Why) → n.why ≡ y → space_tells v (a +ℤ b) (following M.done m n) ≡ space_tells v b n
    go M.done y = rw y refl
    go M.marked y = rw y (ap (λ (l : ℤ). some (filemark_met l)) rest)
    go M.edge y = at_edge a b refl refl w y

-- both at least 0 or both at most 0, and the first GOOD: the one leaves what the second leaves, GOOD or not, its sense and residue too; what they cross adds up
pub one_way_calls : (c : M.Code) (a b : ℤ) (rec p0 p1 : List ℕ) (x y z : Command) → one_way a b ≡ true → SpaceOver c a x → SpaceOver c b y → SpaceOver c (a +ℤ b) z
    → let r = calling x rec p0 p1 in
    let s = then_calling y r in
    Good r → (calling z rec p0 p1 ≡ leaving s (r.answer.crossed + s.answer.crossed) z p0 p1) × (s ≡ leaving s s.answer.crossed y p0 p1)
unfolding following
one_way_calls c a b rec p0 p1 x y z w sx sy sz g =
    let d = decode_of rec in
    let v = current d p0 p1 in
    let m = good_mounted c a rec p0 p1 x sx g in
    let e = good_done c a rec p0 p1 x sx g in
    let f = M.space c a d.position v.objects in
    let n = second c a b d.position v.objects in
    let one : M.space c (a +ℤ b) d.position v.objects ≡ following M.done f n = one_way_lem c a b d.position v.objects w ∙ ap (λ (y : M.Why). following y f n) e in
    let tells = tells_on v a b f n w (all_moved c a d.position v.objects e) (λ z. ap (λ (k : ℤ). (M.space c k f.to v.objects).why) z ∙ ap (λ (u : M.Move). u.why) (still c f.to v.objects)) in
    let s-is = then_leaves c a b rec p0 p1 x y sx sy m e in
    let t_is = leaves c (a +ℤ b) rec p0 p1 z sz m ∙ ap (λ (u : M.Move). left d u.to (space_tells v (a +ℤ b) u) u.distance (lending z p0 p1)) one in
    (t_is ∙ ap (λ (u : Option Sense). left d n.to u (f.distance + n.distance) (lending z p0 p1)) tells ∙ sym (ap₂ (λ (q u : Result). leaving u (q.answer.crossed + u.answer.crossed) z p0 p1) (lands c a rec p0 p1 x sx m e) s-is), s-is ∙ sym (ap (λ (u : Result). leaving u u.answer.crossed y p0 p1) s-is))

-- and whatever the first's end: the one is GOOD exactly if both are
pub good_both : (c : M.Code) (a b : ℤ) (rec p0 p1 : List ℕ) (x y z : Command) → one_way a b ≡ true → SpaceOver c a x → SpaceOver c b y → SpaceOver c (a +ℤ b) z
    → Good (calling z rec p0 p1) → Good (calling x rec p0 p1) × Good (then_calling y (calling x rec p0 p1))
unfolding with_sense
good_both c a b rec p0 p1 x y z w sx sy sz g =
    let d = decode_of rec in
    let m = good_mounted c (a +ℤ b) rec p0 p1 z sz g in
    let both = both_or_none c a b d.position (current d p0 p1).objects w (good_done c (a +ℤ b) rec p0 p1 z sz g) in
    let e = both.0 in
    let on = subst (λ (f : Drive). Done (M.space c b f.position (current f p0 p1).objects)) (sym (mid_stands c a b rec p0 p1 x y sx sy m e)) both.1 in
    (done_good c a rec p0 p1 x sx m e, ap (λ (r : Result). is_good r.answer) (goes_on c a b rec p0 p1 x y sx sy m e) ∙ done_good c b (standing rec (mid c a b rec p0 p1 x y sx sy m e)) p0 p1 y sy (mid_mounted c a b rec p0 p1 x y sx sy m e) on)

-- ---- one way, the first not GOOD

-- a movement that is not done is told, whatever its count
told_early : (v : Seen) (j k : ℤ) (m : M.Move) → (Done m → ⊥) → status_of (space_tells v j m) ≡ status_of (space_tells v k m)
unfolding space_tells status_of
told_early v j k m n = by m.why j k refl
  where
    by : (y : M.Why) (j k : ℤ) → m.why ≡ y → status_of (space_tells v j m) ≡ status_of (space_tells v k m)
    by M.done j k e = absurd (n e)
    by M.marked j k e = rw e refl
    by M.edge (pos p) (pos q) e = rw e refl
    by M.edge (pos p) (negsuc q) e = rw e refl
    by M.edge (negsuc p) (pos q) e = rw e refl
    by M.edge (negsuc p) (negsuc q) e = rw e refl

-- and what is told of it one way is the same but for the residue: the one goes the same way, since a first by 0 is done
told_alike : (v : Seen) (a b : ℤ) (m : M.Move) → one_way a b ≡ true → (a ≡ pos 0 → ⊥) → (Done m → ⊥) → but_residue (kept_of (space_tells v (a +ℤ b) m)) ≡ but_residue (kept_of (space_tells v a m))
unfolding one_way at_least0 at_most0 space_tells kept_of sense_bytes bytes told
told_alike v a b m w z n = by m.why refl
  where
    edge : (i j : ℤ) → (i ≡ pos 0 → ⊥) → one_way i j ≡ true → m.why ≡ M.edge → but_residue (kept_of (space_tells v (i +ℤ j) m)) ≡ but_residue (kept_of (space_tells v i m))
    edge (pos p) (pos q) h k e = rw e refl
    edge (pos zero) (negsuc q) h k e = absurd (h refl)
    edge (pos (suc p)) (negsuc q) h k e = absurd (not_both (sym k))
    edge (negsuc p) (pos zero) h k e = rw (+ℤ_idr (negsuc p)) refl
    edge (negsuc p) (pos (suc q)) h k e = absurd (not_both (sym k))
    edge (negsuc p) (negsuc q) h k e = rw e refl

    by : (y : M.Why) → m.why ≡ y → but_residue (kept_of (space_tells v (a +ℤ b) m)) ≡ but_residue (kept_of (space_tells v a m))
    by M.done e = absurd (n e)
    by M.marked e = rw e refl
    by M.edge e = edge a b z w e

unstopped_mounted : (rec p0 p1 : List ℕ) → space_stop rec p0 p1 ≡ none → Mounted rec (cartridge p0 p1)
unstopped_mounted rec p0 p1 h = go (well_record rec && inserted d p0 p1) (eqb d.attention no_attention) (eqb d.loaded 0) refl refl refl h
  where
    d : Drive
    d = decode_of rec

    stops : Option Stop → Bool
    stops none = false
    stops (some s) = true

    go : (a b c : Bool) → well_record rec && inserted d p0 p1 ≡ a → eqb d.attention no_attention ≡ b → eqb d.loaded 0 ≡ c → cond a (cond b (cond c (some (fault not_ready medium_not_present unqualified)) none) (some attend)) (some (refuse record_fault)) ≡ none → Mounted rec (cartridge p0 p1)
    go false b c e f g q = absurd (not_both (ap stops q))
    go true false c e f g q = absurd (not_both (ap stops q))
    go true true true e f g q = absurd (not_both (ap stops q))
    go true true false e f g q = record { no_fault = e; loaded = (inside d p0 p1 (fault_free rec p0 p1 e).cart (eqb-false d.loaded 0 g)).is; no_attention_lem = eqb-true d.attention no_attention f }

-- it stops the one too, at the same place and after as many objects; of the record the sense alone differs, by its residue
pub stops_alike : (c : M.Code) (a b : ℤ) (rec p0 p1 : List ℕ) (x z : Command) → one_way a b ≡ true → SpaceOver c a x → SpaceOver c (a +ℤ b) z
    → (Good (calling x rec p0 p1) → ⊥) → StopsAlike p0 p1 x z (calling x rec p0 p1) (calling z rec p0 p1)
unfolding with_sense
stops_alike c a b rec p0 p1 x z w sx sz n = go (space_stop rec p0 p1) refl
  where
    d : Drive
    d = decode_of rec

    v : Seen
    v = current d p0 p1

    m : M.Move
    m = M.space c a d.position v.objects

    x_first : first (command_tests rec (lending x p0 p1)) ≡ space_stop rec p0 p1
    x_first = spaced_tests (code_over c) a rec x.cmd p0 p1 x.sent x.received sx.by (served c) sx.whole sx.within

    z_first : first (command_tests rec (lending z p0 p1)) ≡ space_stop rec p0 p1
    z_first = spaced_tests (code_over c) (a +ℤ b) rec z.cmd p0 p1 z.sent z.received sz.by (served c) sz.whole sz.within

    stopped_both : (st : Stop) → space_stop rec p0 p1 ≡ some st → StopsAlike p0 p1 x z (calling x rec p0 p1) (calling z rec p0 p1)
    stopped_both st e =
        let r-is = call_stops rec (lending x p0 p1) st (x_first ∙ e) in
        let t_is = call_stops rec (lending z p0 p1) st (z_first ∙ e) in
        record {
          answer = ap (λ (u : Result). u.answer) t_is ∙ sym (ap (λ (u : Result). u.answer) r-is);
          record_but_sense = λ k. ap (λ (u : Result). with_sense (decode_of u.rec) k) t_is ∙ sym (ap (λ (u : Result). with_sense (decode_of u.rec) k) r-is);
          sense_but_residue = ap (λ (u : Result). but_residue (decode_of u.rec).sense) t_is ∙ sym (ap (λ (u : Result). but_residue (decode_of u.rec).sense) r-is);
          one = ap (λ (u : Result). u.lent) t_is;
          two = ap (λ (u : Result). u.lent) r-is;
        }

    acted_both : Mounted rec (cartridge p0 p1) → StopsAlike p0 p1 x z (calling x rec p0 p1) (calling z rec p0 p1)
    acted_both mounted =
        let early : Done m → ⊥ = λ e. n (done_good c a rec p0 p1 x sx mounted e) in
        let r-is = leaves c a rec p0 p1 x sx mounted in
        let t_is = leaves c (a +ℤ b) rec p0 p1 z sz mounted ∙ ap (λ (u : M.Move). left d u.to (space_tells v (a +ℤ b) u) u.distance (lending z p0 p1)) (one_way_lem c a b d.position v.objects w ∙ in_row_early m (second c a b d.position v.objects) early) in
        let small = (reaches c a rec p0 p1 x sx mounted).1 in
        let read : (t : Option Sense) → decode_of (encode_of (with_sense (at d m.to) (kept_of t))) ≡ with_sense (at d m.to) (kept_of t)
        = λ t. back (at d m.to) (kept_of t) (omega (arith, small)) (fault_free rec p0 p1 mounted.no_fault).small (kept_whole t) in
        record {
          answer = ap (λ (u : Result). u.answer) t_is ∙ ap (λ (i : ℕ). answered i 0 m.distance) (told_early v (a +ℤ b) a m early) ∙ sym (ap (λ (u : Result). u.answer) r-is);
          record_but_sense = λ k. ap (λ (u : Result). with_sense (decode_of u.rec) k) t_is ∙ ap (λ (f : Drive). with_sense f k) (read (space_tells v (a +ℤ b) m)) ∙ sym (ap (λ (u : Result). with_sense (decode_of u.rec) k) r-is ∙ ap (λ (f : Drive). with_sense f k) (read (space_tells v a m)));
          sense_but_residue =
              ap (λ (u : Result). but_residue (decode_of u.rec).sense) t_is
              ∙ ap (λ (f : Drive). but_residue f.sense) (read (space_tells v (a +ℤ b) m))
              ∙ told_alike v a b m w (λ e. early (ap (λ (k : ℤ). (M.space c k d.position v.objects).why) e ∙ ap (λ (u : M.Move). u.why) (still c d.position v.objects))) early
              ∙ sym (ap (λ (u : Result). but_residue (decode_of u.rec).sense) r-is ∙ ap (λ (f : Drive). but_residue f.sense) (read (space_tells v a m)));
          one = ap (λ (u : Result). u.lent) t_is;
          two = ap (λ (u : Result). u.lent) r-is;
        }

    go : (o : Option Stop) → space_stop rec p0 p1 ≡ o → StopsAlike p0 p1 x z (calling x rec p0 p1) (calling z rec p0 p1)
    go (some st) e = stopped_both st e
    go none e = acted_both (unstopped_mounted rec p0 p1 e)
